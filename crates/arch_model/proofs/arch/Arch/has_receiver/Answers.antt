use Rattle.std.proofs.Common.{List, length, ◌==◌, not, ap, ◌∙◌}
use Rattle.arch_model.specs.declared.id.PortId.{PortId}
use Rattle.arch_model.specs.Usage.{has_receiver}
use Rattle.arch_model.proofs.Begins.{begins-nowhere, not-twice}
use Rattle.arch_model.proofs.arch.Arch.has_receiver.Goals as goal

pub returns : goal.returns
returns c = record {
  receiver =
      ap not (c.is_empty.ensures ∙ ap (λ (ports : List PortId). length ports == 0) c.receivers.ensures.receivers
      ∙ begins-nowhere c.args.self.now.links c.args.port) ∙ not-twice (has_receiver c.args.self.now.links c.args.port);
}
