use Rattle.std.proofs.Common.{◌≡◌, ◌++◌, map, drop}
use Rattle.aadl_tree.specs.declared.feature.Feature.{Feature}
use Rattle.aadl_names.specs.declared.parts.PartRow.{PartRow}
use Rattle.aadl_typing.specs.DataGraph.{kind_data}
use Rattle.aadl_typing.proofs.data_graph.payloads_of.Given as goal

abbrev pub invariant-loop-port : goal.invariant-loop-port
invariant-loop-port l =
    l.payloads ++ map (λ (port : PartRow Feature). kind_data l.scope.references.now l.scope.tables.now port.part.kind) (drop l.port-index l.scope.tables.now.features) ≡
    map (λ (port : PartRow Feature). kind_data l.scope.references.now l.scope.tables.now port.part.kind) l.scope.tables.now.features
