-- Sizes of queues fit into the numbers of a refusal.
use Rattle.std.proofs.Common.{◌≡◌, ◌≤◌, ℕ, Bool, true, false, Option, Some, None, if◌then◌else◌, option_and_then, refl, sym, ap, arith}
use Rattle.std.specs.Option.{unwrap_or}
use Rattle.std.proofs.lemmas.Bool.{and_parts}
use Rattle.std.proofs.lemmas.Bool.Decides.{nat_tests}
use Rattle.std.specs.Prelude.{nat_le}
use Rattle.aadl_tree.specs.declared.value.PropertyValue.{PropertyValue}
use Rattle.aadl_values.specs.Times.{integer_between, integer_of, is_between, kept_if}

kept_at_most : (least most m n : ℕ) (kept : Bool) → kept ≡ is_between least most m → (if kept then Some m else None) ≡ Some n → n ≤ most
kept_at_most least most m n true is one =
    let fits = (and_parts (nat_le least m) (nat_le m most) (sym is)).1 in
    let same : m ≡ n = ap (λ (o : Option ℕ). unwrap_or o 0) one in
    grind (arith, nat_tests)
kept_at_most least most m n false is one = absurd (cc)

found_at_most : (least most n : ℕ) (o : Option ℕ) → option_and_then (kept_if (is_between least most)) o ≡ Some n → n ≤ most
found_at_most least most n None is = absurd (cc)
found_at_most least most n (Some m) is = kept_at_most least most m n (is_between least most m) refl is

pub at_most : (least most n : ℕ) (v : PropertyValue) → integer_between least most v ≡ Some n → n ≤ most
at_most least most n v is = found_at_most least most n (integer_of v) is
