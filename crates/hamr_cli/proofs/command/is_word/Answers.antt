use Rattle.std.proofs.Common.{◌≡◌, eqb, rules}
use Rattle.std.proofs.lemmas.Slice.Eq.{slice_eq-Decides}
use Rattle.std.proofs.lemmas.Bool.Decides.{Decides-eqb}
use Rattle.std.specs.Bool.{Decides}
use lib.Pointwise.{pointwise}
use Rattle.hamr_cli.proofs.command.is_word.Goals as goal

pub returns : goal.returns
returns c =
    let same : c.eq.result ≡ pointwise eqb c.args.word.now c.args.name.now = rw (← c.rows.ensures, ← c.as_bytes.ensures.value) c.eq.ensures in
    let decides : Decides c.eq.result (c.args.word.now ≡ c.args.name.now) = slice_eq-Decides Decides-eqb c.args.word.now c.args.name.now c.eq.result same in
    search rules
