-- What stands behind a token behind which an expression may begin: a call, or what ends soon, or a part of an outermost expression.
use Rattle.std.proofs.Common.{◌≡◌, ◌∙◌, refl, sym, ap, subst, ℕ, ◌+◌, ◌-◌, ◌≤◌, [], ◌∷◌, ◌++◌, length, append_assoc, append-nil, Bool, true, Option, None, inl, inr, arith, length-append}
use Rattle.std.specs.Prelude.{⊤, ◌⊎◌, cond, ◌&&◌}
use Rattle.std.specs.Option.{option_and_then}
use Rattle.hw_text.specs.declared.placed.Placed.{Placed}
use Rattle.c_tree.specs.declared.dialect.Dialect.TheVariants.{User}
use Rattle.c_tree.specs.declared.expression.Expression.{Expression}
use Rattle.c_parse.specs.declared.token.Token.{Token}
use Rattle.c_parse.specs.ExpressionGrammar.{SpellsWhole}
use Rattle.c_parse.specs.Nesting.{opens, closes, ends, leads}
use Rattle.c_parse.specs.Values.{Tokens}
use Rattle.c_parse.proofs.CallBegins.{begins_call}
use Rattle.c_parse.proofs.Enclosed.{inside, inside-append, Closed}
use Rattle.c_parse.proofs.Within.{IsThere}

-- an expression may begin behind them
abbrev pub Led : Tokens → Type 0
Led ts = (us : Tokens) × (t : Placed Token) × (ts ≡ us ++ t ∷ []) × (leads t.token ≡ true)

-- an expression ends before them
abbrev pub Ended : Tokens → Type 0
Ended ts = (t : Placed Token) × (us : Tokens) × (ts ≡ t ∷ us) × (ends t.token ≡ true)

-- an expression that begins with them ends within so many
abbrev pub EndsWithin : ℕ → Tokens → Type 0
EndsWithin n ts = (us vs : Tokens) × (ts ≡ us ++ vs) × (inside 0 us ≡ None) × (length us ≤ n)

-- between the two an outermost expression goes on, or begins
pub record IsInOne (b a : Tokens) : Type 0 where
  pub start : Tokens
  pub had : Tokens
  pub more : Tokens
  pub rest : Tokens
  pub value : Expression
  pub led : Led start
  pub text : SpellsWhole User value (had ++ more)
  pub there : IsThere start (had ++ more) rest
  pub ended : Ended rest
  pub before_is : b ≡ start ++ had
  pub after_is : a ≡ more ++ rest

-- what stands between the two, and what does not
abbrev pub IsExplained : Tokens → Tokens → Type 0
IsExplained b a = EndsWithin 501 a ⊎ (begins_call a ≡ true) ⊎ IsInOne b a

-- each of these tokens, with those before and behind
abbrev pub Explained : Tokens → Tokens → Tokens → Type 0
Explained b [] a = ⊤
Explained b (t ∷ ts) a = (leads t.token ≡ true → IsExplained (b ++ t ∷ []) (ts ++ a)) × Explained (b ++ t ∷ []) ts a

pub explained-at : (us : Tokens) (t : Placed Token) (vs b a : Tokens) → Explained b (us ++ t ∷ vs) a → leads t.token ≡ true → IsExplained ((b ++ us) ++ t ∷ []) (vs ++ a)
explained-at [] t vs b a each leading = subst (λ (l : Tokens). IsExplained (l ++ t ∷ []) (vs ++ a)) (sym (append-nil b)) (each.0 leading)
explained-at (u ∷ us) t vs b a each leading =
    subst (λ (l : Tokens). IsExplained (l ++ t ∷ []) (vs ++ a)) (append_assoc b (u ∷ []) us) (explained-at us t vs (b ++ u ∷ []) a each.1 leading)

pub explained-append : (us vs b a : Tokens) → Explained b us (vs ++ a) → Explained (b ++ us) vs a → Explained b (us ++ vs) a
explained-append [] vs b a first second = subst (λ (l : Tokens). Explained l vs a) (append-nil b) second
explained-append (u ∷ us) vs b a first second = (
  λ leading. subst (IsExplained (b ++ u ∷ [])) (sym (append_assoc us vs a)) (first.0 leading),
  explained-append us vs (b ++ u ∷ []) a first.1 (subst (λ (l : Tokens). Explained l vs a) (sym (append_assoc b (u ∷ []) us)) second),
)

-- a text and then another one
pub in-turn : (us vs ts b a : Tokens) → ts ≡ us ++ vs → Explained b us (vs ++ a) → Explained (b ++ us) vs a → Explained b ts a
in-turn us vs ts b a split first second = subst (λ (l : Tokens). Explained b l a) (sym split) (explained-append us vs b a first second)

module _ (us es vs : Tokens) (x : Expression) (led : Led us) (ended : Ended vs) (text : SpellsWhole User x es) (there : IsThere us es vs) where
  inside-explained : (had more : Tokens) → es ≡ had ++ more → Explained (us ++ had) more vs
  inside-explained had [] split = tt
  inside-explained had (t ∷ more) split =
      let next : es ≡ (had ++ t ∷ []) ++ more = split ∙ sym (append_assoc had (t ∷ []) more) in (
        λ leading. inr (inr (record {
          start = us;
          had = had ++ t ∷ [];
          more = more;
          rest = vs;
          value = x;
          led = led;
          text = subst (SpellsWhole User x) next text;
          there = subst (λ (l : Tokens). IsThere us l vs) next there;
          ended = ended;
          before_is = append_assoc us had (t ∷ []);
          after_is = refl;
        })),
        subst (λ (l : Tokens). Explained l more vs) (sym (append_assoc us had (t ∷ []))) (inside-explained (had ++ t ∷ []) more next),
      )

  -- all of an outermost expression, and where it begins
  pub expression-explained : IsExplained us (es ++ vs) × Explained us es vs
  expression-explained = (
    inr (inr (record {
      start = us;
      had = [];
      more = es;
      rest = vs;
      value = x;
      led = led;
      text = text;
      there = there;
      ended = ended;
      before_is = sym (append-nil us);
      after_is = refl;
    })),
    subst (λ (l : Tokens). Explained l es vs) (append-nil us) (inside-explained [] es refl),
  )

pub end-here : (ts : Tokens) → Ended ts → EndsWithin 1 ts
end-here ts ended =
    let t = ended.0 in (
      t ∷ [],
      ended.1,
      ended.2,
      ap {B = Option ℕ} (λ (b : Bool). cond (b && true) None (inside ((0 + cond (opens t.token) 1 0) - cond (closes t.token) 1 0) [])) ended.3,
      omega arith,
    )

-- a text in which nothing ends, and then what ends soon
pub end-behind : (us vs ts a : Tokens) (m n : ℕ) → ts ≡ us ++ vs → Closed us → length us ≤ m → EndsWithin n (vs ++ a) → EndsWithin (m + n) (ts ++ a)
end-behind us vs ts a m n split closed short soon = (
  us ++ soon.0,
  soon.1,
  ap (λ (l : Tokens). l ++ a) split ∙ append_assoc us vs a ∙ ap (λ (l : Tokens). us ++ l) soon.2 ∙ sym (append_assoc us soon.0 soon.1),
  inside-append us soon.0 0 ∙ ap (option_and_then (λ e. inside e soon.0)) (closed 0) ∙ soon.3,
  omega (arith, length-append us soon.0, short, soon.4),
)

pub ends-soon : (n : ℕ) (b ts : Tokens) → EndsWithin n ts → n ≤ 501 → IsExplained b ts
ends-soon n b ts soon few = inl (soon.0, soon.1, soon.2, soon.3, omega (arith, soon.4, few))
