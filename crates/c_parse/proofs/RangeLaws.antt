-- Empty ranges are found from their last token to their first: each is found, and what is found is one.
use Rattle.std.proofs.Common.{◌≡◌, ◌∙◌, refl, sym, ap, subst, ℕ, ◌+◌, ◌<◌, ◌++◌, length, length-append, take, drop, take-append-drop, append_assoc, arith, Bool, true, false, Option, Some, None, inl, inr}
use Rattle.std.specs.Prelude.{reverse, if◌then◌else◌, int_le, ◌≤ℤ◌, T}
use lib.Signed.{le_z_yes}
use Rattle.std.specs.Option.{option_map, option_and_then}
use Rattle.std.proofs.lemmas.List.{reverse-reverse, length-take-le}
use Rattle.std.proofs.lemmas.Option.{same_Some, option_and_then_some}
use Rattle.std.proofs.lemmas.Bool.{cases_lt, le-ltb, lt-ltb}
use Rattle.std.proofs.Math.Seq.{take-append_seam}
use Rattle.hw_text.specs.declared.place.Place.{Place}
use Rattle.c_tree.specs.Literals.{signed_value}
use Rattle.c_tree.specs.declared.named.SignedLiteral.{SignedLiteral}
use Rattle.c_parse.specs.declared.bounds.Bound.{Bound}
use Rattle.c_parse.specs.Values.{Tokens}
use Rattle.c_parse.specs.Ranges.{Bounds, IsEmptyRange}
use Rattle.c_parse.specs.RangeEnds.{bound_of, last_bound, before_between, before_start, last_signed, start_of_empty, last_empty, empty_range_at}
use Rattle.c_parse.proofs.TokenKinds.{none-some}
use Rattle.c_parse.proofs.RangeReads.{last_bounds, bounds-found}
use Rattle.c_parse.proofs.RangeTexts.{bounds-are}

le-is : (b : Bool) → T b → b ≡ true
le-is true so = refl
le-is false so = absurd so

-- the tokens up to the end of an empty range
up-to : (ts : Tokens) (i : ℕ) (at : Place) (e : IsEmptyRange ts i at) → take (i + 1) ts ≡ e.before ++ e.head
up-to ts i at e =
    ap (λ (n : ℕ). take n ts) (sym e.last) ∙ ap (take (length (e.before ++ e.head))) (e.split ∙ sym (append_assoc e.before e.head e.behind)) ∙
    take-append_seam (e.before ++ e.head) e.behind

-- where the second of these literals begins, if it is not above the first
empty-of : Bounds → Option Place
empty-of b = start_of_empty (bound_of b.0) (bound_of b.1)

-- what is told of a first literal, of the tokens between, and of a second literal
of-first : Bound → Bound × Tokens → Option Place
of-first below from = option_and_then (λ ws. start_of_empty from.0 below) (before_start from.1)

bounds-first : SignedLiteral → SignedLiteral × Tokens → Option Bounds
bounds-first below from = option_map (λ ws. (from.0, below)) (before_start from.1)

of-between : Bound → Tokens → Option Place
of-between below us = option_and_then (of-first below) (last_bound us)

bounds-between : SignedLiteral → Tokens → Option Bounds
bounds-between below us = option_and_then (bounds-first below) (last_signed us)

of-second : Bound × Tokens → Option Place
of-second below = option_and_then (of-between below.0) (before_between below.1)

bounds-second : SignedLiteral × Tokens → Option Bounds
bounds-second below = option_and_then (bounds-between below.0) (before_between below.1)

started : (from below : SignedLiteral) (o : Option Tokens) → option_and_then (λ ws. start_of_empty (bound_of from) (bound_of below)) o ≡ option_and_then empty-of (option_map (λ ws. (from, below)) o)
unfolding empty-of
started from below None = refl
started from below (Some ws) = refl

begun : (below : SignedLiteral) (o : Option (SignedLiteral × Tokens)) → option_and_then (of-first (bound_of below)) (option_map (λ r. (bound_of r.0, r.1)) o) ≡ option_and_then empty-of (option_and_then (bounds-first below) o)
unfolding of-first bounds-first
begun below None = refl
begun below (Some from) = started from.0 below (before_start from.1)

parted : (below : SignedLiteral) (o : Option Tokens) → option_and_then (of-between (bound_of below)) o ≡ option_and_then empty-of (option_and_then (bounds-between below) o)
unfolding of-between bounds-between
parted below None = refl
parted below (Some us) = begun below (last_signed us)

ended : (o : Option (SignedLiteral × Tokens)) → option_and_then of-second (option_map (λ r. (bound_of r.0, r.1)) o) ≡ option_and_then empty-of (option_and_then bounds-second o)
unfolding of-second bounds-second
ended None = refl
ended (Some below) = parted below.0 (before_between below.1)

-- the range that is found is told by its literals
by-bounds : (ts : Tokens) → last_empty ts ≡ option_and_then empty-of (last_bounds ts)
unfolding last_empty last_bounds of-first bounds-first of-between bounds-between of-second bounds-second
by-bounds ts = ended (last_signed ts)

start-there : (b : Bounds) → signed_value b.1 ≤ℤ signed_value b.0 → empty-of b ≡ Some b.1.start
unfolding empty-of
start-there b below = rw (le-is (int_le (signed_value b.1) (signed_value b.0)) below.le) refl

-- an empty range is found at its end
pub range-found : (ts : Tokens) (i : ℕ) (at : Place) → IsEmptyRange ts i at → last_empty (reverse (take (i + 1) ts)) ≡ Some at
range-found ts i at e =
    ap (λ (l : Tokens). last_empty (reverse l)) (up-to ts i at e) ∙ by-bounds (reverse (e.before ++ e.head)) ∙ ap (option_and_then empty-of) (bounds-found e.bounds e.before e.head e.spelled) ∙
    start-there e.bounds e.not_above ∙ ap Some (sym e.begins)

pub range-within : (ts : Tokens) (i : ℕ) (at : Place) → IsEmptyRange ts i at → i < length ts
range-within ts i at e =
    omega (arith, e.last, ap (λ (l : Tokens). length l) (e.split ∙ sym (append_assoc e.before e.head e.behind)), length-append (e.before ++ e.head) e.behind)

start-is : (b : Bounds) (at : Place) → empty-of b ≡ Some at → (signed_value b.1 ≤ℤ signed_value b.0) × (at ≡ b.1.start)
unfolding empty-of
start-is b at is = by (int_le (signed_value b.1) (signed_value b.0)) refl
  where
    by : (c : Bool) → int_le (signed_value b.1) (signed_value b.0) ≡ c → (signed_value b.1 ≤ℤ signed_value b.0) × (at ≡ b.1.start)
    by true so = (le_z_yes (subst T (sym so) tt), same_Some at b.1.start (sym is ∙ rw so refl))
    by false so = absurd (none-some at (sym (rw so refl) ∙ is))

-- what is found at the end of the first tokens is an empty range
pub range-is : (ts : Tokens) (i : ℕ) (at : Place) → i < length ts → last_empty (reverse (take (i + 1) ts)) ≡ Some at → IsEmptyRange ts i at
range-is ts i at within is =
    option_and_then_some empty-of (last_bounds (reverse (take (i + 1) ts))) at (sym (by-bounds (reverse (take (i + 1) ts))) ∙ is) (λ b found start.
    let read = bounds-are (reverse (take (i + 1) ts)) b found in
    let front : take (i + 1) ts ≡ read.0 ++ read.1 = sym (reverse-reverse (take (i + 1) ts)) ∙ read.2 in
    let ends = start-is b at start in
    record {
      before = read.0;
      head = read.1;
      behind = drop (i + 1) ts;
      bounds = b;
      split = sym (take-append-drop (i + 1) ts) ∙ ap (λ (l : Tokens). l ++ drop (i + 1) ts) front ∙ append_assoc read.0 read.1 (drop (i + 1) ts);
      last = ap (λ (l : Tokens). length l) (sym front) ∙ length-take-le (i + 1) ts (omega (arith, within));
      spelled = read.3;
      not_above = ends.0;
      begins = ends.1;
    })

pub range-found-at : (ts : Tokens) (i : ℕ) (at : Place) → IsEmptyRange ts i at → empty_range_at ts i ≡ Some at
range-found-at ts i at e =
    ap (λ (b : Bool). if b then last_empty (reverse (take (i + 1) ts)) else None) (lt-ltb i (length ts) (range-within ts i at e)) ∙ range-found ts i at e

pub range-at : (ts : Tokens) (i : ℕ) (at : Place) → empty_range_at ts i ≡ Some at → IsEmptyRange ts i at
range-at ts i at is = elim (cases_lt i (length ts)) [
  | inl within ↦ range-is ts i at within (sym (ap (λ (b : Bool). if b then last_empty (reverse (take (i + 1) ts)) else None) (lt-ltb i (length ts) within)) ∙ is)
  | inr past ↦ absurd (none-some at (sym (ap (λ (b : Bool). if b then last_empty (reverse (take (i + 1) ts)) else None) (le-ltb i (length ts) past)) ∙ is))
]
