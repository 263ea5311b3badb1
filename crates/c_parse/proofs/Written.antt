-- Texts that are written piece by piece: which tokens the bytes of a piece are, whatever is written behind it.
use Rattle.std.proofs.Common.{◌≡◌, ℕ, Bool, true, false, ◌==◌, List, [], ◌∷◌, ◌++◌, map, length, None, refl, sym, ap, ◌∙◌, subst, append_assoc, arith}
use Rattle.std.proofs.lemmas.Bool.{eqb-true}
use Rattle.std.specs.List.{flat_map}
use Rattle.std.specs.Prelude.{⊤}
use Rattle.hw_text.specs.Places.{place_of_rest}
use Rattle.hw_text.specs.Tokens.{AreTokensOf}
use Rattle.hw_text.specs.declared.place.Place.{Place}
use Rattle.hw_text.specs.declared.placed.Placed.{Placed}
use Rattle.c_parse.specs.declared.token.Token.{Token}
use Rattle.c_parse.specs.Blanks.{first_skipped, skipped}
use Rattle.c_parse.specs.Lexed.{IsLexedAs}
use Rattle.c_parse.specs.Marks.{mark_at}
use Rattle.c_parse.specs.Tokens.{start, mark_token, token_at}
use Rattle.c_parse.proofs.OneReading.{same-tokens}
use Rattle.c_parse.proofs.Standing.{StandsBefore}
use Rattle.c_parse.proofs.TokenKinds.{none-some}

-- the tokens of bytes at a place
abbrev Laid : Place → List ℕ → List Token → Type 0
Laid at bytes ts = (ps : List (Placed Token)) × (end : Place) × (map (λ t. t.token) ps ≡ ts) × AreTokensOf token_at skipped at bytes ps end []

-- the tokens of bytes, wherever they stand
pub record Has (bytes : List ℕ) (ts : List Token) : Type 0 where
  pub at : (p : Place) → Laid p (skipped bytes) ts

-- before what `Q` holds of, the bytes are these tokens
pub record Writes (Q : List ℕ → Type 0) (bytes : List ℕ) (ts : List Token) : Type 0 where
  pub before : (rest : List ℕ) (us : List Token) → Q rest → Has rest us → Has (bytes ++ rest) (ts ++ us)

-- bytes that have no token
pub record IsGap (gap : List ℕ) : Type 0 where
  pub before : (rest : List ℕ) (us : List Token) → Has rest us → Has (gap ++ rest) us

abbrev pub Anything : List ℕ → Type 0
Anything rest = ⊤

pub nothing-left : Has [] []
unfolding token_at
nothing-left = record { at = λ p. ([], p, refl, (refl, refl, refl)) }

pub token-next : (text : List ℕ) (t : Token) (rest : List ℕ) (us : List Token) → StandsBefore text t rest → Has rest us → Has (text ++ rest) (t ∷ us)
token-next text t rest us front more = record {
  at = λ p.
      let bytes : List ℕ = text ++ rest in
      let behind = more.at (place_of_rest p bytes (skipped rest)) in
      let placed : Placed Token = record { token = t; place = p } in
      subst (λ (s : List ℕ). Laid p s (t ∷ us)) (sym front.0)
      (placed ∷ behind.0, behind.1, ap (λ (ts : List Token). t ∷ ts) behind.2, (rest, front.1, refl, behind.3));
}

pub token : (Q : List ℕ → Type 0) (text : List ℕ) (t : Token) → ((rest : List ℕ) → Q rest → StandsBefore text t rest) → Writes Q text (t ∷ [])
token Q text t stands = record {
  before = λ rest us q more. token-next text t rest us (stands rest q) more;
}

moved : (a b : List ℕ) (us : List Token) → skipped a ≡ skipped b → Has b us → Has a us
moved a b us same has = record { at = λ p. subst (λ (s : List ℕ). Laid p s us) (sym same) (has.at p) }

pub space : IsGap (32 ∷ [])
space = record { before = λ rest us has. moved (32 ∷ rest) rest us refl has }

pub joined : (a b : List ℕ) → IsGap a → IsGap b → IsGap (a ++ b)
joined a b g h = record {
  before = λ rest us has. subst (λ (s : List ℕ). Has s us) (sym (append_assoc a b rest)) (g.before (b ++ rest) us (h.before rest us has));
}

-- no token begins with `#`
no-sharp : (bs : List ℕ) → token_at (35 ∷ bs) ≡ None
unfolding token_at mark_token mark_at
no-sharp bs = refl

never-laid : (p end : Place) (bs : List ℕ) (ts : List (Placed Token)) → AreTokensOf token_at skipped p (35 ∷ bs) ts end [] → ⊥
never-laid p end bs [] lexed = absurd (omega (arith, ap length lexed.2))
never-laid p end bs (t ∷ ts) lexed = none-some (t.token, lexed.0) (sym (no-sharp bs) ∙ lexed.1)

-- at a line start stands what stands elsewhere, where it begins with no `#`
line-start : (b : ℕ) (bs : List ℕ) → (b == 35) ≡ false → first_skipped (b ∷ bs) ≡ skipped (b ∷ bs)
line-start b bs e = rw e refl

begun : (v : Bool) (b : ℕ) (bs : List ℕ) (us : List Token) → (b == 35) ≡ v → Has (b ∷ bs) us → first_skipped (b ∷ bs) ≡ skipped (b ∷ bs)
begun false b bs us e has = line-start b bs e
begun true b bs us e has =
    let laid = subst (λ (c : ℕ). Laid start (skipped (c ∷ bs)) us) (eqb-true b 35 e) (has.at start) in
    absurd (never-laid start laid.1 bs laid.0 laid.3)

pub at_line_start : (bs : List ℕ) (us : List Token) → Has bs us → first_skipped bs ≡ skipped bs
at_line_start [] us has = refl
at_line_start (b ∷ bs) us has = begun (b == 35) b bs us refl has

pub newline : IsGap (10 ∷ [])
newline = record { before = λ rest us has. moved (10 ∷ rest) rest us (at_line_start rest us has) has }

module _ {Q R : List ℕ → Type 0} {s t : List ℕ} {ts us : List Token} where
  -- one behind the other
  pub both : Writes Q s ts → Writes R t us → ((rest : List ℕ) → R rest → Q (t ++ rest)) → Writes R (s ++ t) (ts ++ us)
  both a b fits = record {
    before = λ rest vs r more.
        let whole = a.before (t ++ rest) (us ++ vs) (fits rest r) (b.before rest vs r more) in
        subst (λ (l : List Token). Has (s ++ t ++ rest) l) (sym (append_assoc ts us vs))
        (subst (λ (bs : List ℕ). Has bs (ts ++ (us ++ vs))) (sym (append_assoc s t rest)) whole);
  }

-- one behind the other, where anything may stand behind the first
pub next : {R : List ℕ → Type 0} {s t : List ℕ} {ts us : List Token} → Writes Anything s ts → Writes R t us → Writes R (s ++ t) (ts ++ us)
next a b = both a b (λ rest r. tt)

module _ {Q : List ℕ → Type 0} {s : List ℕ} {ts : List Token} where
  -- with blanks behind it
  pub blank-behind : (gap : List ℕ) → IsGap gap → Writes Q s ts → ((rest : List ℕ) → Q (gap ++ rest)) → Writes Anything (s ++ gap) ts
  blank-behind gap none a fits = record {
    before = λ rest vs r more.
        subst (λ (bs : List ℕ). Has bs (ts ++ vs)) (sym (append_assoc s gap rest)) (a.before (gap ++ rest) vs (fits rest) (none.before rest vs more));
  }

  -- with blanks before it
  pub blank-before : (gap : List ℕ) → IsGap gap → Writes Q s ts → Writes Q (gap ++ s) ts
  blank-before gap none a = record {
    before = λ rest vs q more.
        subst (λ (bs : List ℕ). Has bs (ts ++ vs)) (sym (append_assoc gap s rest)) (none.before (s ++ rest) (ts ++ vs) (a.before rest vs q more));
  }

  pub weaker : {R : List ℕ → Type 0} → ((rest : List ℕ) → R rest → Q rest) → Writes Q s ts → Writes R s ts
  weaker {R} less a = record { before = λ rest vs r more. a.before rest vs (less rest r) more }

  -- the same with other words for its tokens and its text
  pub known-as : {t : List ℕ} {us : List Token} → t ≡ s → us ≡ ts → Writes Q s ts → Writes Q t us
  known-as {t} {us} e is a = subst (λ (bs : List ℕ). Writes Q bs us) (sym e) (subst (λ (l : List Token). Writes Q s l) (sym is) a)

-- nothing
pub nothing : {Q : List ℕ → Type 0} → Writes Q [] []
nothing {Q} = record { before = λ rest vs q more. more }

-- members, one behind the other
pub members : {X : Type 0} (text : X → List ℕ) (tokens : X → List Token) → ((x : X) → Writes Anything (text x) (tokens x)) → (xs : List X) → Writes Anything (flat_map text xs) (flat_map tokens xs)
members text tokens each [] = nothing
members text tokens each (x ∷ xs) = next (each x) (members text tokens each xs)

-- a whole text has its tokens and no others
pub has-tokens : (bytes : List ℕ) (ts : List Token) → Has bytes ts → IsLexedAs bytes ts
has-tokens bytes ts has =
    let at = place_of_rest start bytes (first_skipped bytes) in
    let here : skipped bytes ≡ first_skipped bytes = sym (at_line_start bytes ts has) in
    let all = subst (λ (s : List ℕ). Laid at s ts) here (has.at at) in
    record {
      placed = all.0;
      end = all.1;
      lexed = all.3;
      same = all.2;
      only = λ others other rest lexed. same-tokens all.0 others at all.1 other (first_skipped bytes) [] rest all.3 lexed;
    }
