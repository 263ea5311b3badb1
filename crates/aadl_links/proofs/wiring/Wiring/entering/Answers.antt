use Rattle.std.proofs.Common.{◌∙◌, sym, ap, Some}
use Rattle.std.specs.Option.{is_some}
use Rattle.aadl_names.specs.Keys.{key, place_of}
use Rattle.aadl_links.specs.Wires.{destinations_of}
use Rattle.aadl_links.proofs.Lookups.{known, found_enters, no_enters, same_sub}
use Rattle.aadl_links.proofs.wiring.Wiring.entering.Goals as goal

pub returns-in_err-name-clause-only : goal.returns-in_err-name-clause-only
returns-in_err-name-clause-only c one d e =
    let k = known c.args.self.now c.args.within c.args.subcomponent c.args.port.now d one e in
    let called = k.name in
    let place = k.place in
    let sub = k.sub in
    let row = k.found in
    let ends = k.ends in
    let fact_a = c.in_err-name.ensures in
    let fact_b = c.from_residual.ensures in cc

pub returns-in_err-found-clause-only : goal.returns-in_err-found-clause-only
returns-in_err-found-clause-only c one d e =
    let k = known c.args.self.now c.args.within c.args.subcomponent c.args.port.now d one e in
    let called = k.name in
    let place = k.place in
    let sub = k.sub in
    let row = k.found in
    let ends = k.ends in
    let fact_a = c.in_ok-name.ensures in
    let fact_b = c.in_err-found.ensures in
    let fact_c = c.from_residual-in_err-found.ensures in cc

pub returns-in_err-connection-clause-only : goal.returns-in_err-connection-clause-only
returns-in_err-connection-clause-only c one d e =
    let k = known c.args.self.now c.args.within c.args.subcomponent c.args.port.now d one e in
    let called = k.name in
    let place = k.place in
    let sub = k.sub in
    let row = k.found in
    let ends = k.ends in
    let fact_a = c.in_ok-name.ensures in
    let fact_b = c.in_ok-found.ensures in
    let fact_c = c.in_err-connection.ensures in
    let fact_d = c.from_residual-in_err-connection.ensures in cc

pub returns-in_err-subcomponent-clause-only : goal.returns-in_err-subcomponent-clause-only
returns-in_err-subcomponent-clause-only c one d e =
    let k = known c.args.self.now c.args.within c.args.subcomponent c.args.port.now d one e in
    let called = k.name in
    let place = k.place in
    let sub = k.sub in
    let row = k.found in
    let ends = k.ends in
    let fact_a = c.in_ok-name.ensures in
    let fact_b = c.in_err-subcomponent.ensures in
    let fact_c = c.from_residual-in_err-subcomponent.ensures in cc

pub returns-then-branch-subcomponent-clause-only : goal.returns-then-branch-subcomponent-clause-only
returns-then-branch-subcomponent-clause-only c one d e =
    let k = known c.args.self.now c.args.within c.args.subcomponent c.args.port.now d one e in
    let called = k.name in
    let place = k.place in
    let sub = k.sub in
    let row = k.found in
    let ends = k.ends in
    let fact_a = c.in_ok-name.ensures in
    let fact_b = c.in_ok-found.ensures in cc

pub returns-then-is_none-clause-only : goal.returns-then-is_none-clause-only
returns-then-is_none-clause-only c one d e =
    absurd (no_enters c.args.self.now c.args.within c.args.subcomponent c.args.port.now c.in_ok-found.found d c.in_ok-name.name.now c.in_ok-connection.field-0.now one e (sym c.in_ok-name.ensures)
    (ap (λ xs. place_of (destinations_of c.args.self.now.tables) (key c.args.within xs c.args.port.now)) (sym c.rows.ensures.bytes)
    ∙ (ap (λ xs. place_of (destinations_of c.args.self.now.tables) (key c.args.within c.rows.result.now xs)) (sym c.rows-2.ensures.bytes) ∙ sym c.in_ok-found.ensures)) (sym c.in_ok-connection.ensures)
    (ap (λ part. is_some part.to.port) (sym c.get.ensures) ∙ c.if-is_none.ensures))

pub returns-then-branch-subcomponent-clause-found : goal.returns-then-branch-subcomponent-clause-found
returns-then-branch-subcomponent-clause-found c =
    found_enters c.args.self.now c.args.within c.args.subcomponent c.args.port.now c.in_ok-found.found c.in_ok-name.name.now c.in_ok-connection.field-0.now
    (ap (λ xs. place_of (destinations_of c.args.self.now.tables) (key c.args.within xs c.args.port.now)) (sym c.rows.ensures.bytes)
    ∙ (ap (λ xs. place_of (destinations_of c.args.self.now.tables) (key c.args.within c.rows.result.now xs)) (sym c.rows-2.ensures.bytes) ∙ sym c.in_ok-found.ensures)) (sym c.in_ok-connection.ensures)
    (ap (λ part. is_some part.to.port) (sym c.get.ensures) ∙ c.if-is_none.ensures) (sym c.in_ok-subcomponent.ensures ∙ ap Some c.if-branch-subcomponent.true)

pub returns-else-branch-subcomponent-clause-only : goal.returns-else-branch-subcomponent-clause-only
returns-else-branch-subcomponent-clause-only c one d e =
    absurd (c.if-branch-subcomponent.false
    (same_sub c.args.self.now c.args.within c.args.subcomponent c.in_ok-subcomponent.field-0 c.args.port.now d c.in_ok-name.name.now one e (sym c.in_ok-name.ensures) (sym c.in_ok-subcomponent.ensures)))
