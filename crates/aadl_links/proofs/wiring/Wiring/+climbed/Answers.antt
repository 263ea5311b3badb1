use Rattle.std.proofs.Common.{◌++◌, ◌∷◌, [], ◌∙◌, sym, ap, subst, arith}
use Rattle.aadl_links.specs.Wires.{port_at, sender, within, subcomponent_named}
use Rattle.aadl_links.specs.Links.{HasOneSource}
use Rattle.aadl_links.specs.Steps.{Leaves, IsOnlyRise}
use Rattle.aadl_links.proofs.Climbs.{only_sender, only_far, only_end, only_up, only_up_own, only_up_nowhere}
use Rattle.aadl_links.proofs.Runs.{up_run, risen, only_so}
use Rattle.aadl_links.proofs.Steps.{some_is}
use Rattle.aadl_links.proofs.wiring.Wiring.+climbed.Goals as goal

pub returns-then-len-gt-DEEPEST-clause-only : goal.returns-then-len-gt-DEEPEST-clause-only
returns-then-len-gt-DEEPEST-clause-only t c one =
    only_far c.args.self.now (port_at c.args.path c.args.port.now) c.args.across (let far = c.if-len-gt-DEEPEST.true in let many = c.len.ensures in omega (arith, far, many))

pub returns-in-Some-clause-only : goal.returns-in-Some-clause-only
returns-in-Some-clause-only t c one =
    only_sender c.args.self.now (port_at c.args.path c.args.port.now) c.args.across c.in-Some.feature
    (ap (λ p. sender c.args.self.now (port_at p c.args.port.now)) (sym c.rows.ensures) ∙ sym c.in-Some.ensures)

pub returns-in_default-within-clause-only : goal.returns-in_default-within-clause-only
returns-in_default-within-clause-only t c one =
    only_end c.args.self.now c.args.path c.args.port.now c.args.across
    (ap (λ p. sender c.args.self.now (port_at p c.args.port.now)) (sym c.rows.ensures) ∙ sym c.in_default.ensures)
    (λ n d stands leaves. let both = c.in_default-within.ensures ∙ (ap (within c.args.self.now) c.rows-2.ensures ∙ stands) in cc)

pub returns-in_default-leaving-clause-only : goal.returns-in_default-leaving-clause-only
returns-in_default-leaving-clause-only t c one =
    only_end c.args.self.now c.args.path c.args.port.now c.args.across
    (ap (λ p. sender c.args.self.now (port_at p c.args.port.now)) (sym c.rows.ensures) ∙ sym c.in_default.ensures)
    (λ n d stands leaves.
    let same = some_is c.in-Some-within.within n (c.in-Some-within.ensures ∙ (ap (within c.args.self.now) c.rows-2.ensures ∙ stands)) in
    let none = c.in_default-leaving.ensures.only one d (subst (λ k. Leaves c.args.self.now k c.args.port.now d) (sym same) leaves) in cc)

pub returns-in_default-port-clause-only : goal.returns-in_default-port-clause-only
returns-in_default-port-clause-only t c one =
    only_up_own c.args.self.now c.args.path c.args.port.now c.in-Some-within.within c.in-Some-leaving.number c.args.across
    (record {
      stands = ap (within c.args.self.now) (sym c.rows-2.ensures) ∙ sym c.in-Some-within.ensures;
      row = c.in-Some-connection.connection.now;
      found = sym c.in-Some-connection.ensures;
      only = λ d leaves. some_is c.in-Some-leaving.number d (c.in-Some-leaving.ensures.only one d leaves);
    })
    (ap (λ p. sender c.args.self.now (port_at p c.args.port.now)) (sym c.rows.ensures) ∙ sym c.in_default.ensures)
    (ap (λ part. part.from.port) (sym c.get.ensures) ∙ c.in_default-port.is)

pub returns-in_default-subcomponent-clause-only : goal.returns-in_default-subcomponent-clause-only
returns-in_default-subcomponent-clause-only t c one =
    only_up_nowhere c.args.self.now c.args.path c.args.port.now c.in-Some-within.within c.in-Some-leaving.number c.args.across
    (record {
      stands = ap (within c.args.self.now) (sym c.rows-2.ensures) ∙ sym c.in-Some-within.ensures;
      row = c.in-Some-connection.connection.now;
      found = sym c.in-Some-connection.ensures;
      only = λ d leaves. some_is c.in-Some-leaving.number d (c.in-Some-leaving.ensures.only one d leaves);
    })
    (ap (λ p. sender c.args.self.now (port_at p c.args.port.now)) (sym c.rows.ensures) ∙ sym c.in_default.ensures)
    (ap (λ part. subcomponent_named c.args.self.now c.in-Some-within.within part.from.first.name) (sym c.get.ensures) ∙ sym c.in_default-subcomponent.ensures)

pub returns-clause-found : goal.returns-clause-found
returns-clause-found t c =
    risen c.args.self.now c.in-Some-leaving.number c.args.across (c.args.path ++ c.in-Some-subcomponent.next ∷ []) _ c.in-Some-port.name (port_at c.args.path c.args.port.now) c.climbed.result c.in_ok-push.ensures.ok
    (up_run c.args.self.now c.args.path c.in-Some-within.within c.args.port.now c.in-Some-leaving.number c.in-Some-connection.connection.now c.in-Some-subcomponent.next c.in-Some-port.name
    (sym c.in-Some-connection.ensures) c.in-Some-leaving.ensures.found (ap (within c.args.self.now) (sym c.rows-2.ensures) ∙ sym c.in-Some-within.ensures)
    (ap (λ part. part.from.port) (sym c.get.ensures) ∙ c.in-Some-port.is)
    (ap (λ part. subcomponent_named c.args.self.now c.in-Some-within.within part.from.first.name) (sym c.get.ensures) ∙ sym c.in-Some-subcomponent.ensures))
    c.climbed.ensures.found

pub returns-clause-only : goal.returns-clause-only
returns-clause-only t c =
    only_so (IsOnlyRise c.args.self.now (port_at _ c.in-Some-port.name) c.args.across) (IsOnlyRise c.args.self.now (port_at c.args.path c.args.port.now) c.args.across) (HasOneSource c.args.self.now) c.climbed.result
    (λ one source rise.
    only_up c.args.self.now c.args.path c.args.port.now c.in-Some-within.within c.in-Some-leaving.number c.in-Some-subcomponent.next c.in-Some-port.name c.args.across source
    (record {
      stands = ap (within c.args.self.now) (sym c.rows-2.ensures) ∙ sym c.in-Some-within.ensures;
      row = c.in-Some-connection.connection.now;
      found = sym c.in-Some-connection.ensures;
      only = λ d leaves. some_is c.in-Some-leaving.number d (c.in-Some-leaving.ensures.only one d leaves);
    })
    (ap (λ p. sender c.args.self.now (port_at p c.args.port.now)) (sym c.rows.ensures) ∙ sym c.in_default.ensures)
    (ap (λ part. part.from.port) (sym c.get.ensures) ∙ c.in-Some-port.is)
    (ap (λ part. subcomponent_named c.args.self.now c.in-Some-within.within part.from.first.name) (sym c.get.ensures) ∙ sym c.in-Some-subcomponent.ensures)
    (subst (λ p. IsOnlyRise c.args.self.now (port_at p c.in-Some-port.name) c.args.across source) c.in_ok-push.ensures.ok rise))
    c.climbed.ensures.only
