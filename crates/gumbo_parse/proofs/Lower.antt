-- Putting a word in lower case changes nothing of which word it is.
use Rattle.std.proofs.Common.{◌≡◌, ℕ, true, false, List, [], ◌∷◌, refl}
use Rattle.std.specs.Prelude.{is_some}
use Rattle.hw_text.specs.Name.{is_name, lowered}
use Rattle.hw_text.proofs.NameLemmas.{name-lowered, lowered-lowered}
use Rattle.gumbo_parse.specs.declared.word.Word.{Word}
use Rattle.gumbo_parse.specs.Words.{word_among, all_words, word_named, is_identifier}

among-lowered : (ws : List Word) (bs : List ℕ) → word_among ws (lowered bs) ≡ word_among ws bs
among-lowered [] bs = refl
among-lowered (w ∷ ws) bs = rw (lowered-lowered bs, among-lowered ws bs) refl

named-lowered : (bs : List ℕ) → word_named (lowered bs) ≡ word_named bs
unfolding word_named
named-lowered bs = among-lowered all_words bs

pub identifier-lowered : (bs : List ℕ) → is_name bs ≡ true → is_some (word_named bs) ≡ false → is_identifier (lowered bs) ≡ true
identifier-lowered bs name none = rw (name-lowered bs, named-lowered bs, name, none) refl
