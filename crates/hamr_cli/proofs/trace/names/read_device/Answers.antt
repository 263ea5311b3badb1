use Rattle.std.proofs.Common.{◌≡◌, sym, ap, ◌∙◌}
use Rattle.std.proofs.lemmas.Bool.{false≢true}
use Rattle.hw_text.specs.Name.{is_name}
use Rattle.hamr_cli.specs.TraceText.{domain_name}
use Rattle.hamr_cli.proofs.TraceDomains.{domain_name-found, pd_named-domain_name}
use Rattle.hamr_cli.proofs.TraceNames.{name-word}
use Rattle.hamr_cli.proofs.trace.names.read_device.Goals as goal

pub returns-in_err-name-clause-only : goal.returns-in_err-name-clause-only
returns-in_err-name-clause-only c = λ who more named e.
    absurd (c.in_err-name.ensures.only _ more (name-word (domain_name c.args.arch.now who) named.name) e)

pub returns-in_err-who-clause-only : goal.returns-in_err-who-clause-only
returns-in_err-who-clause-only c = λ who more named e.
    let word = c.in_ok-name.ensures.only _ more (name-word (domain_name c.args.arch.now who) named.name) e in
    let found = pd_named-domain_name c.args.arch.now _ _ who c.pds.ensures.rows c.pds.ensures.well_formed named.device word.0 in
    absurd (let none = c.in_err-who.ensures.place in cc)

pub returns-then-is_device-clause-device : goal.returns-then-is_device-clause-device
returns-then-is_device-clause-device c =
    let name = domain_name-found c.args.arch.now _ _ _ c.pds.ensures.rows c.in_ok-who.ensures.place in
    record { device = rw (← c.pds-2.ensures.rows) (c.is_device.ensures.0 c.if-is_device.true); name = ap is_name name ∙ c.in_ok-who.ensures.name }

pub returns-then-is_device-clause-found : goal.returns-then-is_device-clause-found
returns-then-is_device-clause-found c =
    rw (domain_name-found c.args.arch.now _ _ _ c.pds.ensures.rows c.in_ok-who.ensures.place) c.in_ok-name.ensures.found

pub returns-then-is_device-clause-only : goal.returns-then-is_device-clause-only
returns-then-is_device-clause-only c = λ who more named e.
    let word = c.in_ok-name.ensures.only _ more (name-word (domain_name c.args.arch.now who) named.name) e in
    let found = pd_named-domain_name c.args.arch.now _ _ who c.pds.ensures.rows c.pds.ensures.well_formed named.device word.0 in
    let some = c.in_ok-who.ensures.place in
    (cc, word.1)

pub returns-else-is_device-clause-only : goal.returns-else-is_device-clause-only
returns-else-is_device-clause-only c = λ who more named e.
    let word = c.in_ok-name.ensures.only _ more (name-word (domain_name c.args.arch.now who) named.name) e in
    let found = pd_named-domain_name c.args.arch.now _ _ who c.pds.ensures.rows c.pds.ensures.well_formed named.device word.0 in
    let some = c.in_ok-who.ensures.place in
    let same : c.in_ok-who.who ≡ who = cc in
    absurd (false≢true (sym c.if-is_device.false ∙ c.is_device.ensures.1 (rw (same, c.pds-2.ensures.rows) named.device)))
