-- What the rules of models say of texts and of lists of tokens, and that a text has one list of tokens.
use Rattle.std.proofs.Common.{◌≡◌, ◌≤◌, ◌<◌, ◌∙◌, sym, ap, refl, cond, ℕ, List, [], length, take, slice_get, option_and_then, Option, Some, None, subst}
use Rattle.std.specs.Prelude.{is_some}
use Rattle.std.specs.Option.{option_map}
use Rattle.std.proofs.lemmas.Bool.{false≢true, le-ltb}
use Rattle.std.proofs.lemmas.Option.{slice_get_within}
use Rattle.hw_text.specs.declared.place.Place.{Place}
use Rattle.hw_text.specs.declared.placed.Placed.{Placed}
use Rattle.hw_text.specs.Text.{skipped}
use Rattle.hw_text.proofs.OneTokens.{tokens-one}
use Rattle.aadl_tree.specs.declared.token.Token.{Token}
use Rattle.aadl_tree.specs.Tokens.{token_at}
use Rattle.aadl_parse.specs.declared.flaw.Flaw.{Flaw}
use Rattle.aadl_parse.specs.declared.stop.Stop.{Stop}
use Rattle.aadl_parse.specs.Flaws.{open_behind, flaw_of, flaw_at}
use Rattle.aadl_parse.specs.Laws.{without-none}
use Rattle.aadl_parse.specs.Refusals.{too_long, flawed}
use Rattle.aadl_parse.specs.Rules.{told_before, flaw_told}
use Rattle.aadl_parse.specs.Shapes.{Without}
use Rattle.aadl_parse.specs.Stops.{IsLexed, stop_at}

pub models-one : (bytes : List ℕ) (ts us : List (Placed Token)) (e f : Place) (c d : Stop) → IsLexed bytes ts e c → IsLexed bytes us f d → (ts ≡ us) × (e ≡ f) × (c ≡ d)
models-one bytes ts us e f c d h k =
    let one = tokens-one token_at skipped _ _ ts us e f h.behind k.behind h.lexed k.lexed in
    (one.0, one.1, h.stopped ∙ ap stop_at one.2 ∙ sym k.stopped)

-- nothing is told of a text that is small enough, before its tokens are looked at
pub small-enough : (bytes : List ℕ) → length bytes ≤ 1048576 → told_before bytes ≡ None
small-enough bytes small = ap (λ b. cond b (Some (too_long (length bytes))) None) (le-ltb 1048576 (length bytes) small)

-- behind what ends by itself nothing may stand
pub at-end : (shapes : List (List ℕ)) → shapes ≡ [] → Without shapes []
at-end shapes closed = subst (λ (s : List (List ℕ)). Without s []) (sym closed) (without-none [])

-- nothing is told of a token with no flaw
pub not-told : (ts : List (Placed Token)) (i : ℕ) → flaw_at ts i ≡ None → flaw_told ts i ≡ None
not-told ts i none = at (slice_get ts i)
  where
    at : (o : Option (Placed Token)) → option_and_then (λ t. option_map (flawed t.place) (flaw_at ts i)) o ≡ None
    at None = refl
    at (Some t) = ap (option_map (flawed t.place)) none

pub told : (ts : List (Placed Token)) (i : ℕ) (f : Flaw) (t : Placed Token) → slice_get ts i ≡ Some t → flaw_at ts i ≡ Some f → flaw_told ts i ≡ Some (flawed t.place f)
told ts i f t here is =
    ap (λ (o : Option (Placed Token)). option_and_then (λ u. option_map (flawed u.place) (flaw_at ts i)) o) here ∙ ap (option_map (flawed t.place)) is

none-some : {X : Type 0} (x : X) → None ≡ Some x → ⊥
none-some x same = false≢true (ap is_some same)

-- a flaw is one of a token
pub flaw-within : (ts : List (Placed Token)) (n : ℕ) (f : Flaw) → flaw_at ts n ≡ Some f → n < length ts
flaw-within ts n f is = at (slice_get ts n) refl
  where
    at : (o : Option (Placed Token)) → slice_get ts n ≡ o → n < length ts
    at None none = absurd (none-some f (sym (ap (λ (o : Option (Placed Token)). option_and_then (λ t. flaw_of (open_behind 0 (take n ts)) t.token) o) none) ∙ is))
    at (Some t) some = slice_get_within ts n t some
