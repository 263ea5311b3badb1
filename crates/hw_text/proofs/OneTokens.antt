-- A text has one list of tokens, which end at one place, with one text behind them.
use Rattle.std.proofs.Common.{◌≡◌, ◌∙◌, refl, sym, ap, subst, ℕ, List, [], ◌∷◌, Option, Some, None}
use Rattle.std.specs.Prelude.{is_some}
use Rattle.std.proofs.lemmas.Bool.{false≢true}
use Rattle.std.proofs.lemmas.Option.{same_Some}
use Rattle.hw_text.specs.declared.place.Place.{Place}
use Rattle.hw_text.specs.declared.placed.Placed.{Placed}
use Rattle.hw_text.specs.Places.{place_of_rest}
use Rattle.hw_text.specs.Tokens.{AreTokensOf}

none-some : {X : Type 0} (x : X) → None ≡ Some x → ⊥
none-some x same = false≢true (ap is_some same)

pub tokens-one : {T : Type 0} (token_at : List ℕ → Option (T × List ℕ)) (skipped : List ℕ → List ℕ) (at : Place) (bs : List ℕ) (ts us : List (Placed T)) (e f : Place) (r s : List ℕ) → AreTokensOf token_at skipped at bs ts e r → AreTokensOf token_at skipped at bs us f s → (ts ≡ us) × (e ≡ f) × (r ≡ s)
tokens-one token_at skipped at bs [] [] e f r s h k = (refl, h.1 ∙ sym k.1, h.2 ∙ sym k.2)
tokens-one token_at skipped at bs [] (u ∷ us) e f r s h k = absurd (none-some (u.token, k.0) (sym h.0 ∙ k.1))
tokens-one token_at skipped at bs (t ∷ ts) [] e f r s h k = absurd (none-some (t.token, h.0) (sym k.0 ∙ h.1))
tokens-one {T} token_at skipped at bs (t ∷ ts) (u ∷ us) e f r s h k =
    let pair = same_Some (t.token, h.0) (u.token, k.0) (sym h.1 ∙ k.1) in
    let after : h.0 ≡ k.0 = ap (λ (p : T × List ℕ). p.1) pair in
    let same : t ≡ u = ap (λ (p : T × List ℕ). record { token = p.0; place = t.place }) pair ∙ ap (λ (q : Place). record { token = u.token; place = q }) (h.2 ∙ sym k.2) in
    let rest = tokens-one token_at skipped (place_of_rest at bs (skipped h.0)) (skipped h.0) ts us e f r s h.3
    (subst (λ (a : List ℕ). AreTokensOf token_at skipped (place_of_rest at bs (skipped a)) (skipped a) us f s) (sym after) k.3) in
    (ap (λ (x : Placed T). x ∷ ts) same ∙ ap (λ (l : List (Placed T)). u ∷ l) rest.0, rest.1, rest.2)
