-- What the rules of units say of lists of tokens, and that a text has one list of tokens.
use Rattle.std.proofs.Common.{◌≡◌, ap, ℕ, List, Some, None}
use Rattle.std.specs.Option.{option_map}
use Rattle.hw_text.specs.declared.place.Place.{Place}
use Rattle.hw_text.specs.Places.{place_of_rest}
use Rattle.hw_text.proofs.OneTokens.{tokens-one}
use Rattle.c_tree.specs.declared.dialect.Dialect.{Dialect}
use Rattle.c_parse.specs.declared.flaw.Flaw.{Flaw}
use Rattle.c_parse.specs.Blanks.{first_skipped, skipped}
use Rattle.c_parse.specs.Flaws.{flaw_at, flawed}
use Rattle.c_parse.specs.Tokens.{start, token_at, HasTokens}
use Rattle.c_parse.specs.Values.{Tokens}

pub units-one : (bytes : List ℕ) (ts us : Tokens) (e f : Place) (s o : List ℕ) → HasTokens bytes ts e s → HasTokens bytes us f o → (ts ≡ us) × (e ≡ f) × (s ≡ o)
units-one bytes ts us e f s o h k = tokens-one token_at skipped (place_of_rest start bytes (first_skipped bytes)) (first_skipped bytes) ts us e f s o h k

pub not-flawed : (dialect : Dialect) (ts : Tokens) (i : ℕ) → flaw_at dialect ts i ≡ None → option_map (flawed ts i) (flaw_at dialect ts i) ≡ None
not-flawed dialect ts i none = ap (option_map (flawed ts i)) none

pub flaw-told : (dialect : Dialect) (ts : Tokens) (i : ℕ) (f : Flaw) → flaw_at dialect ts i ≡ Some f → option_map (flawed ts i) (flaw_at dialect ts i) ≡ Some (flawed ts i f)
flaw-told dialect ts i f is = ap (option_map (flawed ts i)) is
