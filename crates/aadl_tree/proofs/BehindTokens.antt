-- What stands behind a token in a text that is laid out.
use Rattle.std.proofs.Common.{◌≡◌, ℕ, Bool, true, false, not, ◌&&◌, ◌||◌, List, [], ◌∷◌, ◌++◌, refl, sym, ◌∙◌, subst, append_assoc}
use Rattle.std.proofs.lemmas.Bool.{and_parts, false≢true}
use Rattle.std.proofs.lemmas.List.Elements.{All-head}
use Rattle.std.specs.Str.{bytes_eq}
use Rattle.hw_text.specs.Name.{is_letter, is_name_tail, is_spelled_as_name, is_reserved, is_name, lowered}
use Rattle.hw_text.specs.declared.bytes.ByteClass.TheVariants.{LettersAndDigits}
use Rattle.aadl_tree.specs.declared.mark.Mark.{Mark}
use Rattle.aadl_tree.specs.declared.mark.Mark.TheVariants as mark
use Rattle.aadl_tree.specs.declared.page.Margin.{Margin}
use Rattle.aadl_tree.specs.declared.page.Margin.TheVariants.{Loose, Tight}
use Rattle.aadl_tree.specs.declared.token.Token.{Token}
use Rattle.aadl_tree.specs.declared.token.Token.TheVariants as token
use Rattle.aadl_tree.specs.Allowed.{IsAllowed, AreAllowed}
use Rattle.aadl_tree.specs.Layout.{token_text, word_begins_line, word_ends_line, is_semicolon, is_tight, gap_text, gap, line_end, ends_line, margin_of, margin_behind, laid_from}
use Rattle.aadl_tree.specs.Words.{word_spelling}
use Rattle.aadl_tree.proofs.Apart.{is_tight_token, is_name_token, AreBehind}
use Rattle.aadl_tree.proofs.Partings.{is_parted, StandsBefore}
use Rattle.aadl_tree.proofs.Runs.{Stops}
use Rattle.aadl_tree.proofs.SymbolTokens.{tight-stands}

-- a token that is laid out, and what stands behind it
abbrev pub behind_token : Token → List Token → List ℕ
behind_token t us = line_end (ends_line t) ++ laid_from (margin_behind t) us

pub laid-first : (m : Margin) (t : Token) (us : List Token) → laid_from m (t ∷ us) ≡ gap m t ++ (token_text t ++ behind_token t us)
laid-first m t us =
    append_assoc (gap m t ++ token_text t) (line_end (ends_line t)) (laid_from (margin_behind t) us) ∙
    append_assoc (gap m t) (token_text t) (behind_token t us)

-- what stands behind a name
before-word : (b : Bool) (text end rest : List ℕ) → Stops LettersAndDigits (gap_text Loose b false ++ text ++ end ++ rest)
before-word true text end rest = (refl, refl)
before-word false text end rest = (refl, refl)

before-mark : (m : Mark) (end rest : List ℕ) → Stops LettersAndDigits (gap Loose (token.Mark m) ++ token_text (token.Mark m) ++ end ++ rest)
before-mark mark.Addition end rest = (refl, refl)
before-mark _ end rest = (refl, refl)

pub behind-name : (us : List Token) → Stops LettersAndDigits (laid_from Loose us)
behind-name [] = (refl, refl)
behind-name (token.Word w ∷ us) = before-word (word_begins_line w) (word_spelling w) (line_end (word_ends_line w)) (laid_from (margin_behind (token.Word w)) us)
behind-name (token.Mark m ∷ us) = before-mark m (line_end (is_semicolon m)) (laid_from (margin_behind (token.Mark m)) us)
behind-name (token.Name n ∷ us) = (refl, refl)
behind-name (token.Integer n ∷ us) = (refl, refl)
behind-name (token.Real r ∷ us) = (refl, refl)
behind-name (token.Text s ∷ us) = (refl, refl)
behind-name (token.SpoiltText n ∷ us) = (refl, refl)
behind-name (token.Annex s ∷ us) = (refl, refl)

-- what stands behind another token that ends no line
parted-word : (b : Bool) (text end rest : List ℕ) → is_parted (gap_text Loose b false ++ text ++ end ++ rest) ≡ true
parted-word true text end rest = refl
parted-word false text end rest = refl

parted-mark : (m : Mark) (end rest : List ℕ) → is_tight m ≡ false → is_parted (gap Loose (token.Mark m) ++ token_text (token.Mark m) ++ end ++ rest) ≡ true
parted-mark mark.DoubleColon end rest loose = absurd (false≢true (sym loose))
parted-mark mark.Dot end rest loose = absurd (false≢true (sym loose))
parted-mark _ end rest loose = refl

parted-loose : (t : Token) (us : List Token) → is_tight_token t ≡ false → AreBehind t us → is_name_token t ≡ false → is_parted (laid_from Loose us) ≡ true
parted-loose t [] loose behind other = refl
parted-loose t (token.Word w ∷ us) loose behind other = parted-word (word_begins_line w) (word_spelling w) (line_end (word_ends_line w)) (laid_from (margin_behind (token.Word w)) us)
parted-loose t (token.Mark m ∷ us) loose behind other = parted-mark m (line_end (is_semicolon m)) (laid_from (margin_behind (token.Mark m)) us) (not-tight (is_tight m) (is_name_token t) other (and_parts (not (is_tight m) || is_name_token t) (not (is_tight_token t) || false) behind.0).0)
  where
    not-tight : (tight name : Bool) → name ≡ false → (not tight || name) ≡ true → tight ≡ false
    not-tight false name e h = refl
    not-tight true false e h = absurd (false≢true h)
    not-tight true true e h = absurd (false≢true (sym e))
parted-loose t (token.Name n ∷ us) loose behind other = refl
parted-loose t (token.Integer n ∷ us) loose behind other = refl
parted-loose t (token.Real r ∷ us) loose behind other = refl
parted-loose t (token.Text s ∷ us) loose behind other = refl
parted-loose t (token.SpoiltText n ∷ us) loose behind other = refl
parted-loose t (token.Annex s ∷ us) loose behind other = refl

pub parted-behind : (ends : Bool) (t : Token) (us : List Token) → is_tight_token t ≡ false → AreBehind t us → is_name_token t ≡ false → is_parted (line_end ends ++ laid_from (margin_of ends false) us) ≡ true
parted-behind true t us loose behind other = refl
parted-behind false t us loose behind other = parted-loose t us loose behind other

name-letter : (n : List ℕ) → is_name n ≡ true → (b : ℕ) × (bs : List ℕ) × (n ≡ b ∷ bs) × (is_letter b ≡ true)
name-letter [] h = absurd (false≢true h)
name-letter (b ∷ bs) h = (b, bs, refl, (and_parts (is_letter b) (is_name_tail false bs) (and_parts (is_spelled_as_name (b ∷ bs)) (not (is_reserved (b ∷ bs))) h).0).0)

never-loose : (x tight : Bool) → tight ≡ true → (x && (not tight || false)) ≡ true → ⊥
never-loose false tight e h = false≢true h
never-loose true false e h = false≢true e
never-loose true true e h = false≢true h

-- a mark that nothing parts from the name behind it
pub tight-then : (m : Mark) (us : List Token) → is_tight m ≡ true → AreBehind (token.Mark m) us → AreAllowed us → StandsBefore (token.Mark m) (laid_from Tight us)
tight-then m [] tight behind allowed = absurd (false≢true (sym behind ∙ tight))
tight-then m (token.Name n ∷ us) tight behind allowed =
    let first = name-letter n (and_parts (is_name n) (bytes_eq (lowered n) n) (All-head IsAllowed (token.Name n) us allowed)).0 in
    subst (λ (s : List ℕ). StandsBefore (token.Mark m) s) (sym (laid-first Tight (token.Name n) us))
    (subst (λ (s : List ℕ). StandsBefore (token.Mark m) (s ++ laid_from Loose us)) (sym first.2) (tight-stands m first.0 (first.1 ++ laid_from Loose us) tight first.3))
tight-then m (u ∷ us) tight behind allowed = absurd (never-loose (not (is_tight_token u) || false) (is_tight m) tight behind.0)
