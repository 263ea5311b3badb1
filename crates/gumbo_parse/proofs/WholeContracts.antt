-- What the rules of contracts say of lists of tokens, and that a text has one list of tokens.
use Rattle.std.proofs.Common.{◌≡◌, ◌<◌, ◌∙◌, sym, ap, refl, ℕ, List, length, take, slice_get, option_and_then, Option, Some, None}
use Rattle.std.specs.Prelude.{is_some}
use Rattle.std.specs.Option.{option_map}
use Rattle.std.proofs.lemmas.Bool.{false≢true}
use Rattle.std.proofs.lemmas.Option.{slice_get_within}
use Rattle.hw_text.specs.declared.place.Place.{Place}
use Rattle.hw_text.specs.declared.placed.Placed.{Placed}
use Rattle.hw_text.specs.Text.{skipped}
use Rattle.hw_text.specs.Tokens.{Lexes}
use Rattle.hw_text.proofs.OneTokens.{tokens-one}
use Rattle.gumbo_parse.specs.declared.flaw.Flaw.{Flaw}
use Rattle.gumbo_parse.specs.declared.flaw.Spot.TheVariants.{Outside}
use Rattle.gumbo_parse.specs.declared.token.Token.{Token}
use Rattle.gumbo_parse.specs.Flaws.{open_behind, spot_after, flaw_of, flaw_at}
use Rattle.gumbo_parse.specs.Refusals.{flawed}
use Rattle.gumbo_parse.specs.Rules.{flaw_told}
use Rattle.gumbo_parse.specs.Tokens.{token_at}
use Rattle.gumbo_parse.specs.Values.{Tokens}

pub contracts-one : (at : Place) (bytes : List ℕ) (ts us : Tokens) (e f : Place) (s o : List ℕ) → Lexes token_at skipped at bytes ts e s → Lexes token_at skipped at bytes us f o → (ts ≡ us) × (e ≡ f) × (s ≡ o)
contracts-one at bytes ts us e f s o h k = tokens-one token_at skipped _ _ ts us e f s o h k

-- nothing is told of a token with no flaw
pub not-told : (ts : Tokens) (i : ℕ) → flaw_at ts i ≡ None → flaw_told ts i ≡ None
not-told ts i none = ap (option_map (flawed ts i)) none

pub told : (ts : Tokens) (i : ℕ) (f : Flaw) → flaw_at ts i ≡ Some f → flaw_told ts i ≡ Some (flawed ts i f)
told ts i f is = ap (option_map (flawed ts i)) is

none-some : {X : Type 0} (x : X) → None ≡ Some x → ⊥
none-some x same = false≢true (ap is_some same)

-- a flaw is one of a token
pub flaw-within : (ts : Tokens) (n : ℕ) (f : Flaw) → flaw_at ts n ≡ Some f → n < length ts
flaw-within ts n f is = at (slice_get ts n) refl
  where
    at : (o : Option (Placed Token)) → slice_get ts n ≡ o → n < length ts
    at None none = absurd (none-some f (sym (ap (λ (o : Option (Placed Token)). option_and_then (λ t. flaw_of (open_behind 0 (take n ts)) (spot_after Outside (take n ts)) t.token) o) none) ∙ is))
    at (Some t) some = slice_get_within ts n t some
