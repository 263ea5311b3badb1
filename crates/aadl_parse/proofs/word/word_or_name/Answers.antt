use Rattle.std.proofs.Common.{sym, refl, ◌∙◌}
use Rattle.std.proofs.lemmas.Bool.{false≢true}
use Rattle.aadl_parse.proofs.Spelling.{spelled-name}
use Rattle.aadl_parse.proofs.word.word_or_name.Goals as goal

pub unreachable-requires : goal.unreachable-requires
unreachable-requires c =
    let name = spelled-name c.args.word.now c.requires (sym c.in_default.ensures) in
    let none = c.in-Err-BadName.ensures.bad.0 (rw c.in-Err-BadName.field-0-is refl) in
    false≢true (sym none ∙ name)
