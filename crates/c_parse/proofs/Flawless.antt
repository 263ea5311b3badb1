-- Nothing is wrong behind the last token; something is wrong with a token of one of these kinds.
use Rattle.std.proofs.Common.{◌≡◌, sym, ◌<◌, ◌≤◌, ℕ, ◌+◌, ◌-◌, Bool, true, false, [], ◌∷◌, length, take, drop, Option, Some, None, refl, ap, ◌∙◌, inl, inr, arith, length-take, length-drop}
use Rattle.std.specs.Prelude.{not, ◌&&◌, if◌then◌else◌, nat_le, is_some, reverse, slice_get}
use Rattle.std.specs.Option.{option_map_or}
use Rattle.std.proofs.lemmas.Bool.{false≢true, le-ltb, cases_lt}
use Rattle.std.proofs.lemmas.Option.{slice_get_past}
use Rattle.hw_text.specs.declared.place.Place.{Place}
use Rattle.hw_text.specs.declared.placed.Placed.{Placed}
use Rattle.c_tree.specs.declared.dialect.Dialect.{Dialect}
use Rattle.c_tree.specs.declared.dialect.Dialect.TheVariants.{User, Full}
use Rattle.c_tree.specs.Dialects.{is_full}
use Rattle.c_parse.specs.declared.flaw.Flaw.{Flaw}
use Rattle.c_parse.specs.declared.flaw.Flaw.TheVariants.{TooDeep, TooLong, EmptyRange}
use Rattle.c_parse.specs.declared.token.Token.{Token}
use Rattle.c_parse.specs.Flaws.{is_too_deep, begins_call, leads_too_far, is_too_long, flaw_at}
use Rattle.c_parse.specs.Nesting.{opens, leads, open_behind, expression_length}
use Rattle.c_parse.specs.RangeEnds.{last_empty, empty_range_at}
use Rattle.c_parse.specs.Values.{Tokens}
use Rattle.c_parse.proofs.Prefixes.{expression-le}
use Rattle.c_parse.proofs.TokenKinds.{none-some}

never : (a b : Bool) → a && (not b && false) ≡ false
never true true = refl
never true false = refl
never false b = refl

-- so few tokens have no expression that is too long
few : (ts : Tokens) → length ts ≤ 501 → leads_too_far ts ≡ false
few [] short = refl
few (t ∷ ts) short =
    let fits : expression_length ts ≤ 500 = omega (arith, expression-le ts, short) in
    ap (λ (b : Bool). leads t.token && (not (begins_call ts) && b)) (le-ltb 500 (expression_length ts) fits) ∙ never (leads t.token) (begins_call ts)

chosen : (dialect : Dialect) (deep long : Bool) (o : Option Place) → Option Flaw
chosen dialect deep long o =
    if not (is_full dialect) && deep then Some TooDeep
    else if not (is_full dialect) && long then Some TooLong
    else if is_some o then Some EmptyRange
    else None

none-chosen : (dialect : Dialect) (deep long : Bool) (o : Option Place) → deep ≡ false → long ≡ false → o ≡ None → chosen dialect deep long o ≡ None
unfolding chosen
none-chosen Full deep long o d l e = rw e refl
none-chosen User deep long o d l e = rw (d, l, e) refl

pub full-flawless : (ts : Tokens) (i : ℕ) → empty_range_at ts i ≡ None → flaw_at Full ts i ≡ None
unfolding chosen
full-flawless ts i empty = rw empty refl

pub user-flawless : (ts : Tokens) (i : ℕ) → is_too_deep ts i ≡ false → is_too_long ts i ≡ false → empty_range_at ts i ≡ None → flaw_at User ts i ≡ None
unfolding chosen
user-flawless ts i deep long empty = none-chosen User (is_too_deep ts i) (is_too_long ts i) (empty_range_at ts i) deep long empty

pub no-flaw-past : (dialect : Dialect) (ts : Tokens) (i : ℕ) → length ts ≤ i → flaw_at dialect ts i ≡ None
unfolding chosen
no-flaw-past dialect ts i past =
    let absent : slice_get ts i ≡ None = slice_get_past ts i past in
    let shallow : is_too_deep ts i ≡ false = ap (λ (o : Option (Placed Token)). option_map_or (λ t. opens t.token) o false && nat_le 64 (open_behind (take i ts))) absent in
    let short : is_too_long ts i ≡ false = few (drop (i - 501) (take (i + 1) ts)) (omega (arith, length-drop (i - 501) (take (i + 1) ts), length-take (i + 1) ts, past)) in
    let nowhere : empty_range_at ts i ≡ None = ap (λ (b : Bool). if b then last_empty (reverse (take (i + 1) ts)) else None) (le-ltb i (length ts) past) in
    none-chosen dialect (is_too_deep ts i) (is_too_long ts i) (empty_range_at ts i) shallow short nowhere

pub no-flaw : (dialect : Dialect) (ts : Tokens) (i : ℕ) → length ts ≤ i → ((k : ℕ) → k < i → flaw_at dialect ts k ≡ None) → (k : ℕ) → flaw_at dialect ts k ≡ None
no-flaw dialect ts i past sound k = elim (cases_lt k i) [ inl less ↦ sound k less | inr more ↦ no-flaw-past dialect ts k (omega (arith, past, more)) ]

long-chosen : (deep : Bool) (o : Option Place) → chosen User deep true o ≡ None → ⊥
unfolding chosen
long-chosen true o none = none-some TooDeep (sym none)
long-chosen false o none = none-some TooLong (sym none)

empty-chosen : (dialect : Dialect) (deep long : Bool) (at : Place) → chosen dialect deep long (Some at) ≡ None → ⊥
unfolding chosen
empty-chosen Full deep long at none = none-some EmptyRange (sym none)
empty-chosen User true long at none = none-some TooDeep (sym none)
empty-chosen User false true at none = none-some TooLong (sym none)
empty-chosen User false false at none = none-some EmptyRange (sym none)

-- something is wrong with the 501st token of an expression
pub flaw-of-long : (ts : Tokens) (i : ℕ) → is_too_long ts i ≡ true → flaw_at User ts i ≡ None → ⊥
unfolding chosen
flaw-of-long ts i long none = long-chosen (is_too_deep ts i) (empty_range_at ts i) (sym (ap (λ (b : Bool). chosen User (is_too_deep ts i) b (empty_range_at ts i)) long) ∙ none)

abbrev is_long : Option Flaw → Bool
is_long (Some TooLong) = true
is_long _ = false

only-long : (deep long : Bool) (o : Option Place) → chosen User deep long o ≡ Some TooLong → long ≡ true
unfolding chosen
only-long true long o is = absurd (false≢true (ap is_long is))
only-long false true o is = refl
only-long false false (Some at) is = absurd (false≢true (ap is_long is))
only-long false false None is = absurd (false≢true (ap is_long is))

-- what is told as too long is told by its window
pub flaw-too-long : (ts : Tokens) (i : ℕ) → flaw_at User ts i ≡ Some TooLong → is_too_long ts i ≡ true
unfolding chosen
flaw-too-long ts i is = only-long (is_too_deep ts i) (is_too_long ts i) (empty_range_at ts i) is

-- and with the token that ends an empty range
pub flaw-of-empty : (dialect : Dialect) (ts : Tokens) (i : ℕ) (at : Place) → empty_range_at ts i ≡ Some at → flaw_at dialect ts i ≡ None → ⊥
unfolding chosen
flaw-of-empty dialect ts i at empty none =
    empty-chosen dialect (is_too_deep ts i) (is_too_long ts i) at (sym (ap (chosen dialect (is_too_deep ts i) (is_too_long ts i)) empty) ∙ none)
