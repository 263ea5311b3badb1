use Rattle.std.proofs.Common.{◌≡◌, drop}
use Rattle.hw_text.specs.BaseTypes.{base_among}
use Rattle.hw_text.proofs.base_type.BaseType.among.Given as goal

abbrev pub invariant-loop-base : goal.invariant-loop-base
invariant-loop-base l = base_among (drop l.base-index l.bases) l.name ≡ base_among l.bases l.name
