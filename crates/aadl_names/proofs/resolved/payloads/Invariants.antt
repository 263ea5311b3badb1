use Rattle.std.proofs.Common.{◌≡◌, ◌++◌, map, drop}
use Rattle.aadl_tree.specs.declared.feature.Feature.{Feature}
use Rattle.aadl_names.specs.declared.parts.PartRow.{PartRow}
use Rattle.aadl_names.specs.Meanings.{payload_of}
use Rattle.aadl_names.proofs.resolved.payloads.Given as goal

abbrev pub invariant-loop-port : goal.invariant-loop-port
invariant-loop-port l = l.payloads ++ map (λ (port : PartRow Feature). payload_of l.references l.tables port.part.kind) (drop l.port-index l.tables.features) ≡ map (λ (port : PartRow Feature). payload_of l.references l.tables port.part.kind) l.tables.features
