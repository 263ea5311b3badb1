-- What stands behind a token: the end, a space, a line end, `;`, or `,`.
use Rattle.std.proofs.Common.{◌≡◌, inl, inr, ℕ, Bool, true, ◌||◌, ◌==◌, List, [], ◌∷◌, ◌++◌, Some, refl, sym, subst}
use Rattle.std.proofs.lemmas.Bool.{or_cases, eqb-true}
use Rattle.hw_text.specs.Text.{skipped}
use Rattle.hw_text.specs.declared.bytes.ByteClass.{ByteClass}
use Rattle.hw_text.specs.declared.bytes.ByteClass.TheVariants.{Digits, LettersAndDigits}
use Rattle.aadl_tree.specs.declared.token.Token.{Token}
use Rattle.aadl_tree.specs.Layout.{token_text}
use Rattle.aadl_tree.specs.Tokens.{token_at}
use Rattle.aadl_tree.proofs.Runs.{Stops}

abbrev pub is_parted : List ℕ → Bool
is_parted [] = true
is_parted (b ∷ bs) = (b == 10) || ((b == 32) || ((b == 59) || (b == 44)))

-- what holds of each of these holds of what is parted
pub parted-cases : (P : List ℕ → Type 0) → P [] → ((bs : List ℕ) → P (10 ∷ bs)) → ((bs : List ℕ) → P (32 ∷ bs)) → ((bs : List ℕ) → P (59 ∷ bs)) → ((bs : List ℕ) → P (44 ∷ bs)) → (rest : List ℕ) → is_parted rest ≡ true → P rest
parted-cases P none line space semicolon comma [] h = none
parted-cases P none line space semicolon comma (b ∷ bs) h = elim (or_cases (b == 10) ((b == 32) || ((b == 59) || (b == 44))) h) [
  | inl e ↦ at 10 line e
  | inr g ↦ elim (or_cases (b == 32) ((b == 59) || (b == 44)) g) [
    | inl e ↦ at 32 space e
    | inr i ↦ elim (or_cases (b == 59) (b == 44) i) [ inl e ↦ at 59 semicolon e | inr e ↦ at 44 comma e ]
  ]
]
  where
    at : (c : ℕ) → ((cs : List ℕ) → P (c ∷ cs)) → (b == c) ≡ true → P (b ∷ bs)
    at c all e = subst (λ (x : ℕ). P (x ∷ bs)) (sym (eqb-true b c e)) (all bs)

pub parted-stops : (class : ByteClass) (rest : List ℕ) → is_parted rest ≡ true → Stops class rest
parted-stops Digits rest h = parted-cases (λ bs. Stops Digits bs) (refl, refl) (λ _. (refl, refl)) (λ _. (refl, refl)) (λ _. (refl, refl)) (λ _. (refl, refl)) rest h
parted-stops LettersAndDigits rest h = parted-cases (λ bs. Stops LettersAndDigits bs) (refl, refl) (λ _. (refl, refl)) (λ _. (refl, refl)) (λ _. (refl, refl)) (λ _. (refl, refl)) rest h

-- the text of a token with this behind it begins with the token
abbrev pub StandsBefore : Token → List ℕ → Type 0
StandsBefore t rest = (skipped (token_text t ++ rest) ≡ token_text t ++ rest) × (token_at (token_text t ++ rest) ≡ Some (t, rest))
