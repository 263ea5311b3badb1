use Rattle.std.proofs.Common.{Some, None, ap}
use Rattle.arch_model.specs.declared.parts.ArchParts.{ArchParts}
use Rattle.arch_model.proofs.Names.{named-by}
use Rattle.arch_model.proofs.arch.Arch.pd_named.Goals as goal

pub returns-in-Some-clause-named : goal.returns-in-Some-clause-named
returns-in-Some-clause-named c =
    named-by (Some c.in-Some.place) c.self.inside.names c.self.inside.pds c.args.self.now.pds c.args.name.now c.rows.result.now
    c.in-Some.ensures.place c.self.invariant.1 (ap (λ (p : ArchParts). p.pds) c.self.view_is) c.rows.ensures.bytes

pub returns-in-None-clause-named : goal.returns-in-None-clause-named
returns-in-None-clause-named c =
    named-by None c.self.inside.names c.self.inside.pds c.args.self.now.pds c.args.name.now c.rows.result.now
    c.in-None.ensures.place c.self.invariant.1 (ap (λ (p : ArchParts). p.pds) c.self.view_is) c.rows.ensures.bytes
