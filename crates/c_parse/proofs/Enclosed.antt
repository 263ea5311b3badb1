-- Tokens in which what opens closes, and which end no expression: what is joined of them is such a text again.
use Rattle.std.proofs.Common.{map, ◌≡◌, ◌∙◌, refl, ap, ℕ, ◌+◌, ◌-◌, [], ◌∷◌, ◌++◌, Bool, true, false, ◌&&◌, ◌==◌, arith, Option, Some, None, ◌||◌, List, sym}
use Rattle.std.specs.Prelude.{cond}
use Rattle.std.specs.Option.{option_and_then}
use Rattle.hw_text.specs.Language.{One}
use Rattle.hw_text.specs.declared.place.Place.{Place}
use Rattle.hw_text.specs.declared.placed.Placed.{Placed}
use Rattle.c_tree.specs.declared.named.Named.{Named}
use Rattle.c_parse.specs.declared.token.Token.{Token}
use Rattle.c_parse.specs.declared.token.Token.TheVariants as token
use Rattle.c_parse.specs.declared.mark.Mark.{Mark}
use Rattle.c_parse.specs.declared.mark.Mark.TheVariants as mark
use Rattle.c_parse.specs.Nesting.{opens, closes, ends}
use Rattle.c_parse.specs.Values.{Tokens, name_of}
use Rattle.c_parse.specs.ExpressionGrammar.{Sign}
use Rattle.c_parse.proofs.MarkTokens.{mark-token}
use Rattle.hw_text.specs.Reading.{begins}
use Rattle.std.proofs.lemmas.Bool.{false≢true}
use Rattle.c_parse.proofs.Shapes.{is_disjoint, apart}
use Rattle.c_parse.proofs.TokenShapes.{Means, Starts, by_kinds, sign_shape, a_name, of_kind}

-- how many brackets are open behind these tokens, so many being open before them; none, where an expression ends before one of them
abbrev pub inside : ℕ → Tokens → Option ℕ
inside d [] = Some d
inside d (t ∷ ts) = cond (ends t.token && (d == 0)) None (inside ((d + cond (opens t.token) 1 0) - cond (closes t.token) 1 0) ts)

abbrev pub Closed : Tokens → Type 0
Closed ts = (d : ℕ) → inside d ts ≡ Some d

pub inside-append : (us vs : Tokens) (d : ℕ) → inside d (us ++ vs) ≡ option_and_then (λ e. inside e vs) (inside d us)
inside-append [] vs d = refl
inside-append (t ∷ us) vs d =
    by (ends t.token && (d == 0)) (inside-append us vs ((d + cond (opens t.token) 1 0) - cond (closes t.token) 1 0))
  where
    next : ℕ
    next = (d + cond (opens t.token) 1 0) - cond (closes t.token) 1 0

    by : (b : Bool) → inside next (us ++ vs) ≡ option_and_then (λ e. inside e vs) (inside next us) → cond b None (inside next (us ++ vs)) ≡ option_and_then (λ e. inside e vs) (cond b None (inside next us))
    by true more = refl
    by false more = more

pub closed-append : (us vs : Tokens) → Closed us → Closed vs → Closed (us ++ vs)
closed-append us vs first second d = inside-append us vs d ∙ ap (option_and_then (λ e. inside e vs)) (first d) ∙ second d

pub moved : (ws us : Tokens) → ws ≡ us → Closed us → Closed ws
moved ws us same closed d = ap (inside d) same ∙ closed d

-- it neither opens, closes nor ends anything
abbrev pub Plain : Token → Type 0
Plain t = (opens t ≡ false) × (closes t ≡ false) × (ends t ≡ false)

unfoldable pub step : ℕ → Bool → Bool → Bool → Option ℕ
step d o c e = cond (e && (d == 0)) None (Some ((d + cond o 1 0) - cond c 1 0))

pub plain-closed : (t : Placed Token) → Plain t.token → Closed (t ∷ [])
unfolding step
plain-closed t plain d =
    ap (λ (o : Bool). step d o (closes t.token) (ends t.token)) plain.0 ∙ ap (λ (c : Bool). step d false c (ends t.token)) plain.1 ∙
    ap (step d false false) plain.2 ∙ ap Some (omega arith)

-- the brackets, and what ends an expression
abbrev pub bracket_shapes : List (List ℕ)
bracket_shapes = map sign_shape
    (mark.OpenParenthesis ∷ mark.OpenBracket ∷ mark.OpenBrace ∷ mark.CloseParenthesis ∷ mark.CloseBracket ∷ mark.CloseBrace ∷ mark.Semicolon ∷ mark.Comma ∷ [])

abbrev pub is_bracket : Placed Token → Bool
is_bracket t = opens t.token || (closes t.token || ends t.token)

a_bracket : Means is_bracket bracket_shapes
a_bracket = by_kinds is_bracket bracket_shapes (λ p. refl) (λ p. refl) (λ n p. refl) (λ n p. refl) (λ n p. refl)

pub neither : (b c : Bool) → (b || c) ≡ false → (b ≡ false) × (c ≡ false)
neither true c none = absurd (false≢true (sym none))
neither false c none = (refl, none)

pub plain-of : (t : Placed Token) → is_bracket t ≡ false → Plain t.token
plain-of t none =
    let first = neither (opens t.token) (closes t.token || ends t.token) none in
    let rest = neither (closes t.token) (ends t.token) first.1 in
    (first.0, rest.0, rest.1)

pub one-closed : {X : Type 0} {value : Placed Token → Option X} {zs : List (List ℕ)} → Starts zs (One value) → is_disjoint zs bracket_shapes ≡ true → (x : X) (ws : Tokens) → One value x ws → Closed ws
one-closed so none x ws text =
    moved ws (text.0 ∷ []) text.1 (plain-closed text.0 (plain-of text.0 (ap (λ (l : Tokens). begins is_bracket (l ++ [])) (sym text.1) ∙ apart a_bracket so none x ws [] text)))

pub sign-closed : (m : Mark) → Plain (token.Mark m) → (p : Place) (ws : Tokens) → Sign m p ws → Closed ws
sign-closed m plain p ws text =
    let is = mark-token m text.0 p text.2 in
    moved ws (text.0 ∷ []) text.1 (plain-closed text.0 (ap opens is ∙ plain.0, ap closes is ∙ plain.1, ap ends is ∙ plain.2))

pub name-closed : (x : Named) (ws : Tokens) → One name_of x ws → Closed ws
name-closed = one-closed (of_kind a_name) refl
