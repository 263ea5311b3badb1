use Rattle.std.proofs.Common.{◌∙◌, sym, ap, []}
use Rattle.std.specs.Option.{is_some}
use Rattle.aadl_names.specs.Keys.{key, place_of}
use Rattle.aadl_links.specs.Wires.{destinations_of}
use Rattle.aadl_links.proofs.Lookups.{leaves_key, found_leaves, no_leaves}
use Rattle.aadl_links.proofs.wiring.Wiring.leaving.Goals as goal

pub returns-in_err-found-clause-only : goal.returns-in_err-found-clause-only
returns-in_err-found-clause-only c one d l =
    let place = leaves_key c.args.self.now c.args.within c.args.port.now d one l in
    let ended = c.in_err-found.ensures in
    let ending = c.ending.ensures in
    let bytes = c.rows.ensures.bytes in
    let result = c.from_residual.ensures in cc

pub returns-in_err-connection-clause-only : goal.returns-in_err-connection-clause-only
returns-in_err-connection-clause-only c one d l =
    let place = leaves_key c.args.self.now c.args.within c.args.port.now d one l in
    let row = l.found in
    let found = c.in_ok-found.ensures in
    let ended = c.in_err-connection.ensures in
    let result = c.from_residual-in_err-connection.ensures in cc

pub returns-then-is_none-clause-found : goal.returns-then-is_none-clause-found
returns-then-is_none-clause-found c =
    found_leaves c.args.self.now c.args.within c.args.port.now c.in_ok-found.found c.in_ok-connection.field-0.now
    (ap (λ xs. place_of (destinations_of c.args.self.now.tables) (key c.args.within xs [])) (sym c.rows.ensures.bytes) ∙ sym c.in_ok-found.ensures) (sym c.in_ok-connection.ensures)
    (ap (λ part. is_some part.to.port) (sym c.get.ensures) ∙ c.if-is_none.ensures)

pub returns-then-is_none-clause-only : goal.returns-then-is_none-clause-only
returns-then-is_none-clause-only c one d l =
    let place = leaves_key c.args.self.now c.args.within c.args.port.now d one l in
    let found = c.in_ok-found.ensures in cc

pub returns-else-is_none-clause-only : goal.returns-else-is_none-clause-only
returns-else-is_none-clause-only c one d l =
    absurd (no_leaves c.args.self.now c.args.within c.args.port.now c.in_ok-found.found d c.in_ok-connection.field-0.now one l
    (ap (λ xs. place_of (destinations_of c.args.self.now.tables) (key c.args.within xs [])) (sym c.rows.ensures.bytes) ∙ sym c.in_ok-found.ensures) (sym c.in_ok-connection.ensures)
    (ap (λ part. is_some part.to.port) (sym c.get.ensures) ∙ c.if-is_none.ensures))
