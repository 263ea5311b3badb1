-- Tokens of which each `::` and `.` stands between two names.
use Rattle.std.proofs.Common.{◌≡◌, Bool, true, false, not, ◌&&◌, ◌||◌, List, [], ◌∷◌, ◌++◌, refl}
use Rattle.std.specs.List.{flat_map}
use Rattle.aadl_tree.specs.declared.token.Token.{Token}
use Rattle.aadl_tree.specs.declared.token.Token.TheVariants as token
use Rattle.aadl_tree.specs.Layout.{is_tight}

abbrev pub is_tight_token : Token → Bool
is_tight_token (token.Mark m) = is_tight m
is_tight_token _ = false

abbrev pub is_name_token : Token → Bool
is_name_token (token.Name n) = true
is_name_token _ = false

-- the one may stand before the other
abbrev pub fits : Token → Token → Bool
fits t u = (not (is_tight_token u) || is_name_token t) && (not (is_tight_token t) || is_name_token u)

-- these may stand behind the token, up to an end
abbrev pub AreBehind : Token → List Token → Type 0
AreBehind t [] = is_tight_token t ≡ false
AreBehind t (u ∷ us) = (fits t u ≡ true) × AreBehind u us

abbrev pub AreApart : List Token → Type 0
AreApart [] = Unit {0}
AreApart (t ∷ ts) = (is_tight_token t ≡ false) × AreBehind t ts

loose-fits : (t u : Token) → is_tight_token t ≡ false → is_tight_token u ≡ false → fits t u ≡ true
loose-fits t u a b = rw (a, b) refl

pub behind-then : (t : Token) (ts us : List Token) → AreBehind t ts → AreApart us → AreBehind t (ts ++ us)
behind-then t [] [] loose apart = loose
behind-then t [] (u ∷ us) loose apart = (loose-fits t u loose apart.0, apart.1)
behind-then t (s ∷ ts) us behind apart = (behind.0, behind-then s ts us behind.1 apart)

pub apart-then : (ts us : List Token) → AreApart ts → AreApart us → AreApart (ts ++ us)
apart-then [] us a b = b
apart-then (t ∷ ts) us a b = (a.0, behind-then t ts us a.1 b)

-- a token that is no such mark, before others
pub loose-then : (t : Token) (us : List Token) → is_tight_token t ≡ false → AreApart us → AreApart (t ∷ us)
loose-then t us loose apart = apart-then (t ∷ []) us (loose, loose) apart

module _ {X : Type 0} (tokens : X → List Token) (each : (x : X) → AreApart (tokens x)) where
  pub all-apart : (xs : List X) → AreApart (flat_map tokens xs)
  all-apart [] = tt
  all-apart (x ∷ xs) = apart-then (tokens x) (flat_map tokens xs) (each x) (all-apart xs)
