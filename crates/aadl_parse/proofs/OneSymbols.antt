-- A token of each word and mark.
use Rattle.std.proofs.Common.{◌≡◌, refl, Some}
use Rattle.std.specs.Prelude.{⊤}
use Rattle.hw_text.specs.declared.placed.Placed.{Placed}
use Rattle.aadl_tree.specs.declared.mark.Mark.{Mark}
use Rattle.aadl_tree.specs.declared.token.Token.{Token}
use Rattle.aadl_tree.specs.declared.token.Token.TheVariants as token
use Rattle.aadl_tree.specs.declared.word.Word.{Word}
use Rattle.aadl_tree.specs.Marks.{mark_spelling}
use Rattle.aadl_tree.specs.Words.{word_spelling}
use Rattle.aadl_parse.specs.Laws.{symbol-sample}
use Rattle.aadl_parse.specs.Shapes.{symbol_of}
use Rattle.aadl_parse.specs.Stops.{start}

pub a_word : (w : Word) → (t : Placed Token) × (u : ⊤) × (symbol_of (word_spelling w) t ≡ Some u)
a_word w = symbol-sample (word_spelling w) (record { token = token.Word w; place = start }, refl)

pub a_mark : (m : Mark) → (t : Placed Token) × (u : ⊤) × (symbol_of (mark_spelling m) t ≡ Some u)
a_mark m = symbol-sample (mark_spelling m) (record { token = token.Mark m; place = start }, refl)
