-- Reserved words and marks at the front of a text.
use Rattle.std.proofs.Common.{◌≡◌, ℕ, true, false, ◌==◌, List, [], ◌∷◌, ◌++◌, length, Some, refl, ◌∙◌, arith}
use Rattle.std.proofs.lemmas.Bool.{false≢true}
use Rattle.std.proofs.lemmas.Bool.Decides.{nat_tests}
use Rattle.hw_text.specs.Name.{is_letter}
use Rattle.hw_text.specs.Text.{run_length, skipped}
use Rattle.hw_text.specs.declared.bytes.ByteClass.TheVariants.{LettersAndDigits}
use Rattle.aadl_tree.specs.declared.token.Token.TheVariants as token
use Rattle.aadl_tree.specs.declared.mark.Mark.{Mark}
use Rattle.aadl_tree.specs.declared.mark.Mark.TheVariants as mark
use Rattle.aadl_tree.specs.declared.word.Word.{Word}
use Rattle.aadl_tree.specs.declared.word.Word.TheVariants as word
use Rattle.aadl_tree.specs.Layout.{is_tight}
use Rattle.aadl_tree.specs.Marks.{mark_at}
use Rattle.aadl_tree.specs.Tokens.{mark_token, token_at}
use Rattle.aadl_tree.specs.Words.{word_spelling, word_named}
use Rattle.aadl_tree.proofs.Partings.{is_parted, parted-cases, StandsBefore}
use Rattle.aadl_tree.proofs.Runs.{Stops}
use Rattle.aadl_tree.proofs.WordTokens.{letter-kept, word-front}

-- letters and digits that spell the word, the first a letter
abbrev IsSpelledSo : Word → List ℕ → Type 0
IsSpelledSo w [] = ⊥
IsSpelledSo w (b ∷ bs) = (is_letter b ≡ true) × (run_length LettersAndDigits (b ∷ bs) ≡ length (b ∷ bs)) × (word_named (b ∷ bs) ≡ Some w)

spelled-so : (w : Word) → IsSpelledSo w (word_spelling w)
unfolding word_named
spelled-so word.Abstract = (refl, refl, refl)
spelled-so _ = (refl, refl, refl)

pub word-stands : (w : Word) (rest : List ℕ) → Stops LettersAndDigits rest → StandsBefore (token.Word w) rest
word-stands w rest stops = at (word_spelling w) (spelled-so w)
  where
    at : (s : List ℕ) → IsSpelledSo w s → (skipped (s ++ rest) ≡ s ++ rest) × (token_at (s ++ rest) ≡ Some (token.Word w, rest))
    at [] is = absurd is
    at (b ∷ bs) is = (letter-kept b (bs ++ rest) is.0, word-front b bs rest is.0 is.1 stops ∙ rw is.2 refl)

before-nothing : (m : Mark) → StandsBefore (token.Mark m) []
unfolding token_at mark_token mark_at
before-nothing mark.Addition = (refl, refl)
before-nothing _ = (refl, refl)

before-line : (m : Mark) (bs : List ℕ) → StandsBefore (token.Mark m) (10 ∷ bs)
unfolding token_at mark_token mark_at
before-line mark.Addition bs = (refl, refl)
before-line _ bs = (refl, refl)

before-space : (m : Mark) (bs : List ℕ) → StandsBefore (token.Mark m) (32 ∷ bs)
unfolding token_at mark_token mark_at
before-space mark.Addition bs = (refl, refl)
before-space _ bs = (refl, refl)

before-semicolon : (m : Mark) (bs : List ℕ) → StandsBefore (token.Mark m) (59 ∷ bs)
unfolding token_at mark_token mark_at
before-semicolon mark.Addition bs = (refl, refl)
before-semicolon _ bs = (refl, refl)

before-comma : (m : Mark) (bs : List ℕ) → StandsBefore (token.Mark m) (44 ∷ bs)
unfolding token_at mark_token mark_at
before-comma mark.Addition bs = (refl, refl)
before-comma _ bs = (refl, refl)

pub mark-stands : (m : Mark) (rest : List ℕ) → is_parted rest ≡ true → StandsBefore (token.Mark m) rest
mark-stands m rest h = parted-cases (λ bs. StandsBefore (token.Mark m) bs) (before-nothing m) (before-line m) (before-space m) (before-semicolon m) (before-comma m) rest h

not-dot : (b : ℕ) → is_letter b ≡ true → (b == 46) ≡ false
not-dot b h = grind (arith, nat_tests)

-- a mark that nothing parts from the name behind it
pub tight-stands : (m : Mark) (b : ℕ) (bs : List ℕ) → is_tight m ≡ true → is_letter b ≡ true → StandsBefore (token.Mark m) (b ∷ bs)
unfolding token_at mark_token mark_at
tight-stands mark.DoubleColon b bs tight letter = (refl, refl)
tight-stands mark.Dot b bs tight letter = (refl, rw (not-dot b letter) refl)
tight-stands _ b bs tight letter = absurd (false≢true tight)
