-- Open brackets and flaws, one token further.
use Rattle.std.proofs.Common.{◌≡◌, ◌<◌, ℕ, ◌+◌, List, [], ◌∷◌, ◌++◌, length, get_or, take, Option, Some, None, refl, sym, ap, ◌∙◌, add-one, slice_get}
use Rattle.std.proofs.Math.Seq.{take-suc}
use Rattle.std.proofs.lemmas.Option.{slice_get_read, slice_get_within}
use Rattle.hw_text.specs.declared.placed.Placed.{Placed}
use Rattle.hw_reading.proofs.OpenBrackets as brackets
use Rattle.gumbo_parse.specs.declared.flaw.Spot.{Spot}
use Rattle.gumbo_parse.specs.declared.flaw.Spot.TheVariants.{Outside}
use Rattle.gumbo_parse.specs.declared.token.Token.{Token}
use Rattle.gumbo_parse.specs.Flaws.{bracket_of, open_behind_token, open_behind, spot_behind, spot_after, flaw_of, flaw_at}

pub open-more : (ts : List (Placed Token)) (i : ℕ) (t : Placed Token) → i < length ts → t ≡ get_or ts i t → open_behind 0 (take (i + 1) ts) ≡ open_behind_token (open_behind 0 (take i ts)) t.token
open-more = brackets.open-more bracket_of

pub spot-append : (s : Spot) (xs ys : List (Placed Token)) → spot_after s (xs ++ ys) ≡ spot_after (spot_after s xs) ys
spot-append s [] ys = refl
spot-append s (x ∷ xs) ys = spot-append (spot_behind s x.token) xs ys

pub spot-more : (ts : List (Placed Token)) (i : ℕ) (t : Placed Token) → i < length ts → t ≡ get_or ts i t → spot_after Outside (take (i + 1) ts) ≡ spot_behind (spot_after Outside (take i ts)) t.token
spot-more ts i t within here =
    ap (λ (n : ℕ). spot_after Outside (take n ts)) (add-one i) ∙ ap (spot_after Outside) (take-suc ts i t within) ∙ spot-append Outside (take i ts) (get_or ts i t ∷ []) ∙
    ap (λ (x : Placed Token). spot_behind (spot_after Outside (take i ts)) x.token) (sym here)

pub no-flaw-here : (ts : List (Placed Token)) (i n : ℕ) (s : Spot) (t : Placed Token) → i < length ts → t ≡ get_or ts i t → n ≡ open_behind 0 (take i ts) → s ≡ spot_after Outside (take i ts) → flaw_of n s t.token ≡ None → flaw_at ts i ≡ None
no-flaw-here ts i n s t within here counted stands none =
    let at : slice_get ts i ≡ Some t = slice_get_read ts (length ts) i t refl within here in
    rw (at, sym counted, sym stands) none

pub no-flaw : (ts : List (Placed Token)) → ((k : ℕ) → k < length ts → flaw_at ts k ≡ None) → (k : ℕ) → flaw_at ts k ≡ None
no-flaw ts sound k = at (slice_get ts k) refl
  where
    at : (o : Option (Placed Token)) → slice_get ts k ≡ o → flaw_at ts k ≡ None
    at None e = rw e refl
    at (Some t) e = sound k (slice_get_within ts k t e)
