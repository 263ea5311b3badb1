-- A text that is laid out has the tokens that it is laid out of.
use Rattle.std.proofs.Common.{◌≡◌, ℕ, Bool, true, false, List, [], ◌∷◌, ◌++◌, map, refl, sym, ap, ◌∙◌, subst}
use Rattle.std.proofs.lemmas.Bool.{and_parts, false≢true}
use Rattle.std.proofs.lemmas.List.Elements.{All-head, All-tail}
use Rattle.std.proofs.lemmas.Slice.Eq.{bytes_eq-Decides}
use Rattle.std.specs.Str.{bytes_eq}
use Rattle.hw_text.specs.Name.{is_name, lowered}
use Rattle.hw_text.specs.Places.{place_of_rest}
use Rattle.hw_text.specs.Text.{skipped}
use Rattle.hw_text.specs.Tokens.{AreTokensOf}
use Rattle.hw_text.specs.declared.bytes.ByteClass.TheVariants.{LettersAndDigits}
use Rattle.hw_text.specs.declared.place.Place.{Place}
use Rattle.hw_text.specs.declared.placed.Placed.{Placed}
use Rattle.aadl_tree.specs.declared.mark.Mark.{Mark}
use Rattle.aadl_tree.specs.declared.mark.Mark.TheVariants as mark
use Rattle.aadl_tree.specs.declared.page.Margin.{Margin}
use Rattle.aadl_tree.specs.declared.page.Margin.TheVariants.{LineStart, Loose, Tight}
use Rattle.aadl_tree.specs.declared.token.Token.{Token}
use Rattle.aadl_tree.specs.declared.token.Token.TheVariants as token
use Rattle.aadl_tree.specs.Allowed.{IsAllowed, AreAllowed}
use Rattle.aadl_tree.specs.Layout.{token_text, word_begins_line, word_ends_line, is_semicolon, is_tight, is_close, gap_text, gap, line_end, ends_line, margin_of, margin_behind, laid_from}
use Rattle.aadl_tree.specs.Lexed.{HasTokensAt, HasTokens}
use Rattle.aadl_tree.specs.Tokens.{token_at}
use Rattle.aadl_tree.proofs.Apart.{AreBehind, AreApart}
use Rattle.aadl_tree.proofs.BehindTokens.{behind_token, laid-first, behind-name, parted-behind, tight-then}
use Rattle.aadl_tree.proofs.NumberTokens.{integer-stands, real-stands}
use Rattle.aadl_tree.proofs.OneReading.{same-tokens}
use Rattle.aadl_tree.proofs.Partings.{parted-stops, StandsBefore}
use Rattle.aadl_tree.proofs.SymbolTokens.{word-stands, mark-stands}
use Rattle.aadl_tree.proofs.TextTokens.{text-stands, annex-stands}
use Rattle.aadl_tree.proofs.WordTokens.{name-stands}

skipped-gap_text : (m : Margin) (begins close : Bool) (bs : List ℕ) → skipped (gap_text m begins close ++ bs) ≡ skipped bs
skipped-gap_text LineStart begins close bs = refl
skipped-gap_text Loose true close bs = refl
skipped-gap_text Loose false true bs = refl
skipped-gap_text Loose false false bs = refl
skipped-gap_text Tight true close bs = refl
skipped-gap_text Tight false close bs = refl

skipped-gap : (m : Margin) (t : Token) (bs : List ℕ) → skipped (gap m t ++ bs) ≡ skipped bs
skipped-gap m (token.Word w) bs = skipped-gap_text m (word_begins_line w) false bs
skipped-gap m (token.Mark k) bs = skipped-gap_text m false (is_close k) bs
skipped-gap m (token.Name n) bs = skipped-gap_text m false false bs
skipped-gap m (token.Integer n) bs = skipped-gap_text m false false bs
skipped-gap m (token.Real r) bs = skipped-gap_text m false false bs
skipped-gap m (token.Text s) bs = skipped-gap_text m false false bs
skipped-gap m (token.SpoiltText n) bs = skipped-gap_text m false false bs
skipped-gap m (token.Annex s) bs = skipped-gap_text m false false bs

skipped-line_end : (ends : Bool) (bs : List ℕ) → skipped (line_end ends ++ bs) ≡ skipped bs
skipped-line_end true bs = refl
skipped-line_end false bs = refl

same-bytes : (xs ys : List ℕ) → bytes_eq xs ys ≡ true → xs ≡ ys
same-bytes xs ys e = (bytes_eq-Decides xs ys).0 e

not-semicolon : (m : Mark) → is_tight m ≡ true → is_semicolon m ≡ false
not-semicolon mark.Semicolon e = absurd (false≢true e)
not-semicolon _ e = refl

-- each token stands before what is laid out behind it
stands : (t : Token) (us : List Token) → IsAllowed t → AreAllowed us → AreBehind t us → StandsBefore t (behind_token t us)
stands (token.Name n) us allowed more behind =
    let parts = and_parts (is_name n) (bytes_eq (lowered n) n) allowed in
    name-stands n (laid_from Loose us) parts.0 (same-bytes (lowered n) n parts.1) (behind-name us)
stands (token.Word w) us allowed more behind =
    let rest : List ℕ = line_end (word_ends_line w) ++ laid_from (margin_of (word_ends_line w) false) us in
    word-stands w rest (parted-stops LettersAndDigits rest (parted-behind (word_ends_line w) (token.Word w) us refl behind refl))
stands (token.Integer n) us allowed more behind = integer-stands n (laid_from Loose us) allowed (parted-behind false (token.Integer n) us refl behind refl)
stands (token.Real r) us allowed more behind = real-stands r (laid_from Loose us) allowed (parted-behind false (token.Real r) us refl behind refl)
stands (token.Text s) us allowed more behind = text-stands s (laid_from Loose us) allowed
stands (token.SpoiltText n) us allowed more behind = absurd (false≢true allowed)
stands (token.Annex s) us allowed more behind = annex-stands s (laid_from Loose us) allowed
stands (token.Mark m) us allowed more behind = mark-case (is_tight m) refl
  where
    mark-case : (tight : Bool) → is_tight m ≡ tight → StandsBefore (token.Mark m) (line_end (is_semicolon m) ++ laid_from (margin_of (is_semicolon m) (is_tight m)) us)
    mark-case true e = rw (not-semicolon m e, e) (tight-then m us e behind more)
    mark-case false e =
        let rest : List ℕ = line_end (is_semicolon m) ++ laid_from (margin_of (is_semicolon m) false) us in
        rw e (mark-stands m rest (parted-behind (is_semicolon m) (token.Mark m) us e behind refl))

-- the tokens of what is laid out behind any margin, at a place
abbrev Laid : Place → List ℕ → List Token → Type 0
Laid at bytes ts = (ps : List (Placed Token)) × (end : Place) × (map (λ t. t.token) ps ≡ ts) × AreTokensOf token_at skipped at bytes ps end []

laid-next : (m : Margin) (t : Token) (us : List Token) (at : Place) → StandsBefore t (behind_token t us) → ((next : Place) → Laid next (skipped (behind_token t us)) us) → Laid at (skipped (laid_from m (t ∷ us))) (t ∷ us)
laid-next m t us at front more =
    let bytes : List ℕ = token_text t ++ behind_token t us in
    let here : skipped (laid_from m (t ∷ us)) ≡ bytes = ap skipped (laid-first m t us) ∙ skipped-gap m t bytes ∙ front.0 in
    let rest = more (place_of_rest at bytes (skipped (behind_token t us))) in
    let placed : Placed Token = record { token = t; place = at } in
    subst (λ (s : List ℕ). Laid at s (t ∷ us)) (sym here)
    (placed ∷ rest.0, rest.1, ap (λ (ts : List Token). t ∷ ts) rest.2, (behind_token t us, front.1, refl, rest.3))

laid : (m : Margin) (t : Token) (us : List Token) (at : Place) → AreAllowed (t ∷ us) → AreBehind t us → Laid at (skipped (laid_from m (t ∷ us))) (t ∷ us)
unfolding token_at
laid m t [] at allowed behind =
    laid-next m t [] at (stands t [] (All-head IsAllowed t [] allowed) (All-tail IsAllowed t [] allowed) behind)
    (λ next. subst (λ (s : List ℕ). Laid next s []) (sym (skipped-line_end (ends_line t) [])) ([], next, refl, (refl, refl, refl)))
laid m t (u ∷ us) at allowed behind =
    let more : AreAllowed (u ∷ us) = All-tail IsAllowed t (u ∷ us) allowed in
    laid-next m t (u ∷ us) at (stands t (u ∷ us) (All-head IsAllowed t (u ∷ us) allowed) more behind)
    (λ next. subst (λ (s : List ℕ). Laid next s (u ∷ us)) (sym (skipped-line_end (ends_line t) (laid_from (margin_behind t) (u ∷ us)))) (laid (margin_behind t) u us next more behind.1))

-- what these tokens are at a place behind blanks, they are in the text, and no others are
has-tokens : (at : Place) (bytes : List ℕ) (ts : List Token) → Laid (place_of_rest at bytes (skipped bytes)) (skipped bytes) ts → HasTokensAt at bytes ts
has-tokens at bytes ts all = record {
  placed = all.0;
  end = all.1;
  lexed = all.3;
  same = all.2;
  only = λ others other rest lexed. same-tokens all.0 others (place_of_rest at bytes (skipped bytes)) all.1 other (skipped bytes) [] rest all.3 lexed;
}

-- allowed tokens of which each `::` and `.` stands between two names are the tokens of the text that they are laid out in
pub laid_out : (ts : List Token) → AreAllowed ts → AreApart ts → HasTokens (laid_from LineStart ts) ts
unfolding token_at
laid_out [] allowed apart at = has-tokens at [] [] ([], place_of_rest at [] [], refl, (refl, refl, refl))
laid_out (t ∷ us) allowed apart at =
    let bytes : List ℕ = laid_from LineStart (t ∷ us) in
    has-tokens at bytes (t ∷ us) (laid LineStart t us (place_of_rest at bytes (skipped bytes)) allowed apart.1)
