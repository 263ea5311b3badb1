use Rattle.std.proofs.Common.{◌++◌, ◌∷◌, [], None, IfOk, IfSome, ◌∙◌, sym, ap, subst}
use Rattle.aadl_links.specs.Wires.{port_at, within, subcomponent_named}
use Rattle.aadl_links.specs.Links.{HasOneSource, IsSourceOf, IsOnlySource}
use Rattle.aadl_links.specs.Steps.{Enters, IsOnlyRise}
use Rattle.aadl_links.proofs.Runs.{across_run, down_run, come_down, crossed, only_so}
use Rattle.aadl_links.proofs.Steps.{some_is, only_root, only_without, only_down, only_across, only_nowhere}
use Rattle.aadl_links.proofs.wiring.Wiring.+source.Goals as goal

pub returns-in_default-clause-only : goal.returns-in_default-clause-only
returns-in_default-clause-only t c one =
    subst (λ p. IsOnlySource c.args.self.now (port_at p c.args.port.now) None) (sym c.in_default.ensures.0) (only_root c.args.self.now c.args.port.now)

pub returns-in_default-within-clause-only : goal.returns-in_default-within-clause-only
returns-in_default-within-clause-only t c one =
    subst (λ p. IsOnlySource c.args.self.now (port_at p c.args.port.now) None) (sym c.in-Some.ensures)
    (only_without c.args.self.now c.pop.new.self c.in-Some.last c.args.port.now
    (λ n d stands enters. let both = c.in_default-within.ensures ∙ (ap (within c.args.self.now) c.rows.ensures ∙ stands) in cc))

pub returns-in_default-entering-clause-only : goal.returns-in_default-entering-clause-only
returns-in_default-entering-clause-only t c one =
    subst (λ p. IsOnlySource c.args.self.now (port_at p c.args.port.now) None) (sym c.in-Some.ensures)
    (only_without c.args.self.now c.pop.new.self c.in-Some.last c.args.port.now
    (λ n d stands enters.
    let same = some_is c.in-Some-within.within n (c.in-Some-within.ensures ∙ (ap (within c.args.self.now) c.rows.ensures ∙ stands)) in
    let none = c.in_default-entering.ensures.only one d (subst (λ k. Enters c.args.self.now k c.in-Some.last c.args.port.now d) (sym same) enters) in cc))

pub returns-in-None-clause-found : goal.returns-in-None-clause-found
returns-in-None-clause-found t c =
    subst (λ p. IfOk c.source.result (λ source. IfSome source (IsSourceOf c.args.self.now (port_at p c.args.port.now)))) (sym c.in-Some.ensures)
    (come_down c.args.self.now c.in-Some-entering.number (port_at c.pop.new.self c.in-Some-connection.connection.now.part.from.first.name) (port_at (c.pop.new.self ++ c.in-Some.last ∷ []) c.args.port.now) c.source.result
    (down_run c.args.self.now c.pop.new.self c.in-Some-within.within c.in-Some.last c.args.port.now c.in-Some-entering.number c.in-Some-connection.connection.now
    (sym c.in-Some-connection.ensures) c.in-Some-entering.ensures.found (ap (within c.args.self.now) (sym c.rows.ensures) ∙ sym c.in-Some-within.ensures)
    (ap (λ part. part.from.port) (sym c.get.ensures) ∙ c.in-None.is))
    (subst (λ part. IfOk c.source.result (λ source. IfSome source (IsSourceOf c.args.self.now (port_at c.pop.new.self part.from.first.name)))) c.get.ensures c.source.ensures.found))

pub returns-in-None-clause-only : goal.returns-in-None-clause-only
returns-in-None-clause-only t c =
    only_so (IsOnlySource c.args.self.now (port_at c.pop.new.self c.get.result.now.from.first.name)) (IsOnlySource c.args.self.now (port_at c.args.path c.args.port.now)) (HasOneSource c.args.self.now) c.source.result
    (λ one source before_it.
    subst (λ p. IsOnlySource c.args.self.now (port_at p c.args.port.now) source) (sym c.in-Some.ensures)
    (only_down c.args.self.now c.pop.new.self c.in-Some.last c.args.port.now c.in-Some-within.within c.in-Some-entering.number source
    (record {
      stands = ap (within c.args.self.now) (sym c.rows.ensures) ∙ sym c.in-Some-within.ensures;
      row = c.in-Some-connection.connection.now;
      found = sym c.in-Some-connection.ensures;
      only = λ d enters. some_is c.in-Some-entering.number d (c.in-Some-entering.ensures.only one d enters);
    })
    (ap (λ part. part.from.port) (sym c.get.ensures) ∙ c.in-None.is)
    (subst (λ part. IsOnlySource c.args.self.now (port_at c.pop.new.self part.from.first.name) source) c.get.ensures before_it)))
    c.source.ensures.only

pub returns-in_ok-push-in-Some-subcomponent-clause-found : goal.returns-in_ok-push-in-Some-subcomponent-clause-found
returns-in_ok-push-in-Some-subcomponent-clause-found t c =
    subst (λ p. IfOk c.climbed.result (λ source. IfSome source (IsSourceOf c.args.self.now (port_at p c.args.port.now)))) (sym c.in-Some.ensures)
    (crossed c.args.self.now c.in-Some-entering.number (c.pop.new.self ++ c.in-Some-subcomponent.next ∷ []) _ c.in-Some-port.name (port_at (c.pop.new.self ++ c.in-Some.last ∷ []) c.args.port.now) c.climbed.result
    c.in_ok-push-in-Some-subcomponent.ensures.ok
    (across_run c.args.self.now c.pop.new.self c.in-Some-within.within c.in-Some.last c.args.port.now c.in-Some-entering.number c.in-Some-connection.connection.now c.in-Some-subcomponent.next c.in-Some-port.name
    (sym c.in-Some-connection.ensures) c.in-Some-entering.ensures.found (ap (within c.args.self.now) (sym c.rows.ensures) ∙ sym c.in-Some-within.ensures)
    (ap (λ part. part.from.port) (sym c.get.ensures) ∙ c.in-Some-port.is)
    (ap (λ part. subcomponent_named c.args.self.now c.in-Some-within.within part.from.first.name) (sym c.get.ensures) ∙ sym c.in-Some-subcomponent.ensures))
    c.climbed.ensures.found)

pub returns-in_ok-push-in-Some-subcomponent-clause-only : goal.returns-in_ok-push-in-Some-subcomponent-clause-only
returns-in_ok-push-in-Some-subcomponent-clause-only t c =
    only_so (IsOnlyRise c.args.self.now (port_at _ c.in-Some-port.name) c.in-Some-entering.number) (IsOnlySource c.args.self.now (port_at c.args.path c.args.port.now)) (HasOneSource c.args.self.now) c.climbed.result
    (λ one source rise.
    subst (λ p. IsOnlySource c.args.self.now (port_at p c.args.port.now) source) (sym c.in-Some.ensures)
    (only_across c.args.self.now c.pop.new.self c.in-Some.last c.args.port.now c.in-Some-within.within c.in-Some-entering.number c.in-Some-subcomponent.next c.in-Some-port.name source
    (record {
      stands = ap (within c.args.self.now) (sym c.rows.ensures) ∙ sym c.in-Some-within.ensures;
      row = c.in-Some-connection.connection.now;
      found = sym c.in-Some-connection.ensures;
      only = λ d enters. some_is c.in-Some-entering.number d (c.in-Some-entering.ensures.only one d enters);
    })
    (ap (λ part. part.from.port) (sym c.get.ensures) ∙ c.in-Some-port.is)
    (ap (λ part. subcomponent_named c.args.self.now c.in-Some-within.within part.from.first.name) (sym c.get.ensures) ∙ sym c.in-Some-subcomponent.ensures)
    (subst (λ p. IsOnlyRise c.args.self.now (port_at p c.in-Some-port.name) c.in-Some-entering.number source) c.in_ok-push-in-Some-subcomponent.ensures.ok rise)))
    c.climbed.ensures.only

pub returns-in-None-subcomponent-clause-only : goal.returns-in-None-subcomponent-clause-only
returns-in-None-subcomponent-clause-only t c one =
    subst (λ p. IsOnlySource c.args.self.now (port_at p c.args.port.now) None) (sym c.in-Some.ensures)
    (only_nowhere c.args.self.now c.pop.new.self c.in-Some.last c.args.port.now c.in-Some-within.within c.in-Some-entering.number c.in-Some-port.name
    (record {
      stands = ap (within c.args.self.now) (sym c.rows.ensures) ∙ sym c.in-Some-within.ensures;
      row = c.in-Some-connection.connection.now;
      found = sym c.in-Some-connection.ensures;
      only = λ d enters. some_is c.in-Some-entering.number d (c.in-Some-entering.ensures.only one d enters);
    })
    (ap (λ part. part.from.port) (sym c.get.ensures) ∙ c.in-Some-port.is)
    (ap (λ part. subcomponent_named c.args.self.now c.in-Some-within.within part.from.first.name) (sym c.get.ensures) ∙ sym c.in-None-subcomponent.ensures))
