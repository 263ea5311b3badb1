-- The tokens of a text, one after another.
use Rattle.std.proofs.Common.{◌≡◌, ℕ, List, [], ◌∷◌, ◌++◌, append_assoc, Option, Some, sym, ap, ◌∙◌, subst, refl}
use Rattle.hw_text.specs.declared.place.Place.{Place}
use Rattle.hw_text.specs.declared.placed.Placed.{Placed}
use Rattle.hw_text.specs.Places.{place_of_rest}
use Rattle.hw_text.specs.Tokens.{AreTokensOf}

-- one token further: what holds of the tokens so far and any tokens of the rest holds with the next token among those so far
pub found-more : {T : Type 0} (token_at : List ℕ → Option (T × List ℕ)) (skipped : List ℕ → List ℕ) (AllTokens : List (Placed T) → Type 0) (bs next after : List ℕ) (t : T) (at place end : Place) (end_rest : List ℕ) (old new ts : List (Placed T)) → token_at bs ≡ Some (t, after) → next ≡ skipped after → place ≡ place_of_rest at bs next → new ≡ old ++ record { token = t; place = at } ∷ [] → ((us : List (Placed T)) → AreTokensOf token_at skipped at bs us end end_rest → AllTokens (old ++ us)) → AreTokensOf token_at skipped place next ts end end_rest → AllTokens (new ++ ts)
found-more {T} token_at skipped AllTokens bs next after t at place end end_rest old new ts e n p o found rest =
    let placed : Placed T = record { token = t; place = at } in
    let same : place ≡ place_of_rest at bs (skipped after) = p ∙ ap (λ (r : List ℕ). place_of_rest at bs r) n in
    let moved : AreTokensOf token_at skipped place (skipped after) ts end end_rest = subst (λ (r : List ℕ). AreTokensOf token_at skipped place r ts end end_rest) n rest in
    let front : AreTokensOf token_at skipped at bs (placed ∷ ts) end end_rest = (after, e, refl, subst (λ (q : Place). AreTokensOf token_at skipped q (skipped after) ts end end_rest) same moved) in
    let joined : new ++ ts ≡ old ++ placed ∷ ts = ap (λ (x : List (Placed T)). x ++ ts) o ∙ append_assoc old (placed ∷ []) ts in
    subst AllTokens (sym joined) (found (placed ∷ ts) front)
