-- Texts that are written piece by piece: which tokens the bytes of a piece are, whatever is written behind it. A language is given by its
-- longest token at the front of a text, by what stands behind blanks, and by which tokens are allowed.
use Rattle.std.proofs.Common.{◌≡◌, ℕ, List, [], ◌∷◌, ◌++◌, map, refl, sym, ap, subst, append_assoc, Option, Some, None}
use Rattle.std.proofs.lemmas.List.Elements.{All-nil, All-cons, All-head, All-tail}
use Rattle.std.specs.List.{All, flat_map}
use Rattle.std.specs.Prelude.{⊤}
use Rattle.hw_text.specs.Places.{place_of_rest}
use Rattle.hw_text.specs.Tokens.{AreTokensOf}
use Rattle.hw_text.specs.declared.place.Place.{Place}
use Rattle.hw_text.specs.declared.placed.Placed.{Placed}
use Rattle.hw_text.proofs.OneTokens.{tokens-one}
use Rattle.hw_reading.specs.Lexed.{HasTokens}

-- what holds of each member of a list of two parts holds of each member of either
pub all-left : {X : Type 0} (P : X → Type 0) (xs ys : List X) → All P (xs ++ ys) → All P xs
all-left P [] ys each = All-nil P
all-left P (x ∷ xs) ys each = All-cons P x xs (All-head P x (xs ++ ys) each) (all-left P xs ys (All-tail P x (xs ++ ys) each))

pub all-right : {X : Type 0} (P : X → Type 0) (xs ys : List X) → All P (xs ++ ys) → All P ys
all-right P [] ys each = each
all-right P (x ∷ xs) ys each = all-right P xs ys (All-tail P x (xs ++ ys) each)

-- the text of a token with this behind it begins with the token, and with no blank
abbrev pub StandsBefore : {T : Type 0} → (List ℕ → Option (T × List ℕ)) → (List ℕ → List ℕ) → List ℕ → T → List ℕ → Type 0
StandsBefore token_at skipped text t rest = (skipped (text ++ rest) ≡ text ++ rest) × (token_at (text ++ rest) ≡ Some (t, rest))

-- the tokens of bytes at a place
abbrev Laid : {T : Type 0} → (List ℕ → Option (T × List ℕ)) → (List ℕ → List ℕ) → Place → List ℕ → List T → Type 0
Laid {T} token_at skipped at bytes ts = (ps : List (Placed T)) × (end : Place) × (map (λ t. t.token) ps ≡ ts) × AreTokensOf token_at skipped at bytes ps end []

-- the tokens of bytes, wherever they stand
pub record Has {T : Type 0} (token_at : List ℕ → Option (T × List ℕ)) (skipped : List ℕ → List ℕ) (bytes : List ℕ) (ts : List T) : Type 0 where
  pub at : (p : Place) → Laid token_at skipped p (skipped bytes) ts

-- before what `Q` holds of, the bytes are these tokens
pub record Writes {T : Type 0} (token_at : List ℕ → Option (T × List ℕ)) (skipped : List ℕ → List ℕ) (IsAllowed : T → Type 0) (Q : List ℕ → Type 0) (bytes : List ℕ) (ts : List T) : Type 0 where
  pub before : (rest : List ℕ) (us : List T) → Q rest → All IsAllowed ts → Has token_at skipped rest us → Has token_at skipped (bytes ++ rest) (ts ++ us)

abbrev pub Anything : List ℕ → Type 0
Anything rest = ⊤

module _ {T : Type 0} {token_at : List ℕ → Option (T × List ℕ)} {skipped : List ℕ → List ℕ} where
  pub nothing-left : skipped [] ≡ [] → token_at [] ≡ None → Has token_at skipped [] []
  nothing-left blank none = record { at = λ p. subst (λ (s : List ℕ). Laid token_at skipped p s []) (sym blank) ([], p, refl, (none, refl, refl)) }

  pub token-then : (text : List ℕ) (t : T) (rest : List ℕ) (us : List T) → StandsBefore token_at skipped text t rest → Has token_at skipped rest us → Has token_at skipped (text ++ rest) (t ∷ us)
  token-then text t rest us front more = record {
    at = λ p.
        let bytes : List ℕ = text ++ rest in
        let behind = more.at (place_of_rest p bytes (skipped rest)) in
        let placed : Placed T = record { token = t; place = p } in
        subst (λ (s : List ℕ). Laid token_at skipped p s (t ∷ us)) (sym front.0)
        (placed ∷ behind.0, behind.1, ap (λ (ts : List T). t ∷ ts) behind.2, (rest, front.1, refl, behind.3));
  }

  blank-then : (gap rest : List ℕ) (us : List T) → skipped (gap ++ rest) ≡ skipped rest → Has token_at skipped rest us → Has token_at skipped (gap ++ rest) us
  blank-then gap rest us same more = record { at = λ p. subst (λ (s : List ℕ). Laid token_at skipped p s us) (sym same) (more.at p) }

  -- a whole text has its tokens and no others
  pub has-tokens : (bytes : List ℕ) (ts : List T) → Has token_at skipped bytes ts → HasTokens token_at skipped bytes ts
  has-tokens bytes ts has = λ p.
      let start = place_of_rest p bytes (skipped bytes) in
      let all = has.at start in
      record {
        placed = all.0;
        end = all.1;
        lexed = all.3;
        same = all.2;
        only = λ others other rest lexed. (tokens-one token_at skipped start (skipped bytes) others all.0 other all.1 rest [] lexed all.3).0;
      }

  module _ {IsAllowed : T → Type 0} where
    pub token : (Q : List ℕ → Type 0) (text : List ℕ) (t : T) → ((rest : List ℕ) → IsAllowed t → Q rest → StandsBefore token_at skipped text t rest) → Writes token_at skipped IsAllowed Q text (t ∷ [])
    token Q text t stands = record {
      before = λ rest us q allowed more. token-then text t rest us (stands rest (All-head IsAllowed t [] allowed) q) more;
    }

    module _ {Q R : List ℕ → Type 0} {s t : List ℕ} {ts us : List T} where
      -- one behind the other
      pub both : Writes token_at skipped IsAllowed Q s ts → Writes token_at skipped IsAllowed R t us → ((rest : List ℕ) → All IsAllowed us → R rest → Q (t ++ rest)) → Writes token_at skipped IsAllowed R (s ++ t) (ts ++ us)
      both a b fits = record {
        before = λ rest vs r all more.
            let right : All IsAllowed us = all-right IsAllowed ts us all in
            let behind = b.before rest vs r right more in
            let whole = a.before (t ++ rest) (us ++ vs) (fits rest right r) (all-left IsAllowed ts us all) behind in
            subst (λ (l : List T). Has token_at skipped ((s ++ t) ++ rest) l) (sym (append_assoc ts us vs))
            (subst (λ (bs : List ℕ). Has token_at skipped bs (ts ++ (us ++ vs))) (sym (append_assoc s t rest)) whole);
      }

    module _ {Q : List ℕ → Type 0} {s : List ℕ} {ts : List T} where
      -- with blanks behind it
      pub blank-behind : (gap : List ℕ) → ((rest : List ℕ) → skipped (gap ++ rest) ≡ skipped rest) → Writes token_at skipped IsAllowed Q s ts → ((rest : List ℕ) → Q (gap ++ rest)) → Writes token_at skipped IsAllowed Anything (s ++ gap) ts
      blank-behind gap same a fits = record {
        before = λ rest vs r all more.
            subst (λ (bs : List ℕ). Has token_at skipped bs (ts ++ vs)) (sym (append_assoc s gap rest))
            (a.before (gap ++ rest) vs (fits rest) all (blank-then gap rest vs (same rest) more));
      }

      -- with blanks before it
      pub blank-before : (gap : List ℕ) → ((rest : List ℕ) → skipped (gap ++ rest) ≡ skipped rest) → Writes token_at skipped IsAllowed Q s ts → Writes token_at skipped IsAllowed Q (gap ++ s) ts
      blank-before gap same a = record {
        before = λ rest vs q all more.
            subst (λ (bs : List ℕ). Has token_at skipped bs (ts ++ vs)) (sym (append_assoc gap s rest))
            (blank-then gap (s ++ rest) (ts ++ vs) (same (s ++ rest)) (a.before rest vs q all more));
      }

      pub weaker : {R : List ℕ → Type 0} → ((rest : List ℕ) → R rest → Q rest) → Writes token_at skipped IsAllowed Q s ts → Writes token_at skipped IsAllowed R s ts
      weaker {R} less a = record { before = λ rest vs r all more. a.before rest vs (less rest r) all more }

    -- nothing
    pub nothing : {Q : List ℕ → Type 0} → Writes token_at skipped IsAllowed Q [] []
    nothing {Q} = record { before = λ rest vs q all more. more }

    -- members, one behind the other
    pub members : {X : Type 0} (text : X → List ℕ) (tokens : X → List T) → ((x : X) → Writes token_at skipped IsAllowed Anything (text x) (tokens x)) → (xs : List X) → Writes token_at skipped IsAllowed Anything (flat_map text xs) (flat_map tokens xs)
    members text tokens each [] = nothing
    members text tokens each (x ∷ xs) = both (each x) (members text tokens each xs) (λ rest allowed r. tt)
