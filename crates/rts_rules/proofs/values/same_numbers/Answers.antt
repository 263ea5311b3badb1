use Rattle.std.proofs.Common.{◌≡◌, int_eq, rules}
use Rattle.std.proofs.lemmas.Slice.Eq.{slice_eq-Decides}
use Rattle.std.proofs.lemmas.Bool.Decides.{Decides-int_eq}
use Rattle.std.specs.Bool.{Decides}
use lib.Pointwise.{pointwise}
use Rattle.rts_rules.proofs.values.same_numbers.Goals as goal

pub returns : goal.returns
returns c =
    let same : c.eq.result ≡ pointwise int_eq c.args.one.now c.args.other.now = c.eq.ensures in
    let decides : Decides c.eq.result (c.args.one.now ≡ c.args.other.now) = slice_eq-Decides Decides-int_eq c.args.one.now c.args.other.now c.eq.result same in
    search rules
