-- Texts between quotes and annex texts at the front of a text.
use Rattle.std.proofs.Common.{◌≡◌, ℕ, ◌+◌, suc, Bool, true, false, not, ◌&&◌, ◌||◌, ◌==◌, is_some, List, [], ◌∷◌, ◌++◌, length, codes, Some, None, refl, cond, add-one, append_assoc, arith}
use Rattle.std.proofs.Math.Seq.{take-append_seam, drop-append_seam}
use Rattle.std.proofs.lemmas.Bool.{and_parts, not-true, or_from, eqb-true}
use Rattle.hw_text.specs.Text.{behind_bytes, text_length}
use Rattle.aadl_tree.specs.declared.token.Token.TheVariants as token
use Rattle.aadl_tree.specs.Text.{is_bad_byte, is_quotable, quotable_length, annex_length}
use Rattle.aadl_tree.specs.Tokens.{text_token, annex_token, token_at}
use Rattle.aadl_tree.proofs.Partings.{StandsBefore}
use Rattle.aadl_tree.proofs.Runs.{run-parts}

no-quote : (b : ℕ) → is_quotable b ≡ true → ((b == 34) || (b == 10)) ≡ false
no-quote b h =
    let plain = (and_parts (not (is_bad_byte b)) (not (b == 34) && not (b == 10)) h).1 in
    let parts = and_parts (not (b == 34)) (not (b == 10)) plain in
    or_from (b == 34) (b == 10) (not-true (b == 34) parts.0) (not-true (b == 10) parts.1)

text-over : (t rest : List ℕ) → quotable_length t ≡ length t → text_length (t ++ 34 ∷ rest) ≡ length t
text-over [] rest e = refl
text-over (b ∷ t) rest e =
    let parts = run-parts (is_quotable b) (quotable_length t) (length t) e in
    rw (no-quote b parts.0, text-over t rest parts.1, add-one) refl

quote-front : (t rest all : List ℕ) → all ≡ t ++ 34 ∷ rest → (quotable_length t == length t) ≡ true → text_token all ≡ Some (token.Text t, rest)
unfolding text_token
quote-front t rest all is e =
    rw (is, text-over t rest (eqb-true (quotable_length t) (length t) e), take-append_seam t (34 ∷ rest), drop-append_seam t (34 ∷ rest), e) refl

pub text-stands : (t rest : List ℕ) → (quotable_length t == length t) ≡ true → StandsBefore (token.Text t) rest
unfolding token_at
text-stands t rest e = (refl, quote-front t rest ((t ++ codes "\"") ++ rest) (append_assoc t (codes "\"") rest) e)

unclosed : (b : ℕ) (bs rest : List ℕ) → is_some (behind_bytes (codes "**}") (b ∷ bs)) ≡ false → is_some (behind_bytes (codes "**}") (b ∷ (bs ++ 42 ∷ 42 ∷ 125 ∷ rest))) ≡ false
unclosed b [] rest e = elim (b == 42) as (λ v. is_some (cond v (behind_bytes (codes "*}") (42 ∷ 42 ∷ 125 ∷ rest)) None) ≡ false) [ true ↦ refl | false ↦ refl ]
unclosed b (c ∷ []) rest e = elim (b == 42) as (λ v. is_some (cond v (behind_bytes (codes "*}") (c ∷ 42 ∷ 42 ∷ 125 ∷ rest)) None) ≡ false) [
  | true ↦ elim (c == 42) as (λ w. is_some (cond w (behind_bytes (codes "}") (42 ∷ 42 ∷ 125 ∷ rest)) None) ≡ false) [ true ↦ refl | false ↦ refl ]
  | false ↦ refl
]
unclosed b (c ∷ d ∷ ds) rest e = same (b == 42) (c == 42) (d == 125) e
  where
    same : (u v w : Bool) → is_some (cond u (cond v (cond w (Some ds) None) None) None) ≡ false → is_some (cond u (cond v (cond w (Some (ds ++ 42 ∷ 42 ∷ 125 ∷ rest)) None) None) None) ≡ false
    same false v w g = refl
    same true false w g = refl
    same true true false g = refl
    same true true true g = g

annex-parts : (v : Bool) (n m : ℕ) → cond v 0 (n + 1) ≡ suc m → (v ≡ false) × (n ≡ m)
annex-parts true n m e = absurd (omega (arith, e))
annex-parts false n m e = (refl, omega (arith, e))

annex-over : (t rest : List ℕ) → annex_length t ≡ length t → annex_length (t ++ 42 ∷ 42 ∷ 125 ∷ rest) ≡ length t
annex-over [] rest e = refl
annex-over (b ∷ t) rest e =
    let parts = annex-parts (is_some (behind_bytes (codes "**}") (b ∷ t))) (annex_length t) (length t) e in
    rw (unclosed b t rest parts.0, annex-over t rest parts.1, add-one) refl

annex-front : (t rest all : List ℕ) → all ≡ t ++ 42 ∷ 42 ∷ 125 ∷ rest → (annex_length t == length t) ≡ true → annex_token all ≡ Some (token.Annex t, rest)
unfolding annex_token
annex-front t rest all is e =
    rw (is, annex-over t rest (eqb-true (annex_length t) (length t) e), take-append_seam t (42 ∷ 42 ∷ 125 ∷ rest), drop-append_seam t (42 ∷ 42 ∷ 125 ∷ rest)) refl

pub annex-stands : (t rest : List ℕ) → (annex_length t == length t) ≡ true → StandsBefore (token.Annex t) rest
unfolding token_at
annex-stands t rest e = (refl, annex-front t rest ((t ++ codes "**}") ++ rest) (append_assoc t (codes "**}") rest) e)
