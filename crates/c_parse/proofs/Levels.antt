-- With which tokens expressions of neighbouring levels go on.
use Rattle.std.proofs.Common.{◌≡◌, ◌+◌, refl, ℕ, List, Bool, true, false, ◌||◌, ◌==◌, [], ◌∷◌, Option, Some, None, cond, arith, ◌∙◌, sym}
use Rattle.std.proofs.lemmas.Bool.Decides.{nat_tests}
use Rattle.std.specs.Prelude.{is_some, nat_le}
use Rattle.std.proofs.lemmas.Bool.{false≢true}
use Rattle.hw_text.specs.declared.place.Place.{Place}
use Rattle.hw_text.specs.declared.placed.Placed.{Placed}
use Rattle.c_tree.specs.declared.operator.BinaryOperator.{BinaryOperator}
use Rattle.c_parse.specs.declared.token.Token.{Token}
use Rattle.c_parse.specs.Values.{Tokens}
use Rattle.c_parse.specs.Levels.{binary_level}
use Rattle.c_parse.specs.Operators.{operator_in, of_level, binary_at, operates, at_least, is_selector, goes_on, Ends}
use Rattle.c_parse.proofs.Shapes.{is_disjoint, one, apart}
use Rattle.c_parse.proofs.TokenShapes.{Means, Starts, by_kinds, binary_operators, a_selector}
use Rattle.c_parse.proofs.TokenKinds.{none-some}
use Rattle.hw_text.specs.Language.{One}

up : (n k : ℕ) → nat_le n k ≡ false → nat_le (n + 1) k ≡ false
up n k none = grind (arith, nat_tests)

at_least-up : (n : ℕ) (o : Option BinaryOperator) → at_least n o ≡ false → at_least (n + 1) o ≡ false
at_least-up n None none = refl
at_least-up n (Some operator) none = up n (binary_level operator) none

neither : (b c d : Bool) → (c ≡ false → d ≡ false) → (b || c) ≡ false → (b || d) ≡ false
neither true c d so none = none
neither false c d so none = so none

pub goes_on-up : (n : ℕ) (t : Placed Token) → goes_on n t ≡ false → goes_on (n + 1) t ≡ false
goes_on-up n t none =
    neither (is_selector t) (at_least n (operator_in t.token)) (at_least (n + 1) (operator_in t.token)) (at_least-up n (operator_in t.token)) none

pub ends-up : (n : ℕ) (m : Tokens) → Ends n m → Ends (n + 1) m
ends-up n [] ends = refl
ends-up n (t ∷ m) ends = goes_on-up n t ends

abbrev Found : Type 0
Found = Place × BinaryOperator

abbrev found_if : Bool → Found → Option Found
found_if v x = cond v (Some x) None

above : (n k : ℕ) (at : Place) (operator : BinaryOperator) (x : Found) (v : Bool) → (k == n) ≡ v → found_if v (at, operator) ≡ Some x → nat_le (n + 1) k ≡ false
above n k at operator x true same is = grind (arith, nat_tests)
above n k at operator x false same is = absurd (none-some x is)

of_level-above : (n : ℕ) (at : Place) (o : Option BinaryOperator) (x : Place × BinaryOperator) → of_level n at o ≡ Some x → at_least (n + 1) o ≡ false
of_level-above n at None x is = refl
of_level-above n at (Some operator) x is = above n (binary_level operator) at operator x (binary_level operator == n) refl is

-- an operator of a level is one of those with which an expression goes on
abbrev is_operator : Placed Token → Bool
is_operator t = is_some (operator_in t.token)

an_operator : Means is_operator binary_operators
an_operator = by_kinds is_operator binary_operators (λ p. refl) (λ p. refl) (λ n p. refl) (λ n p. refl) (λ n p. refl)

level-operator : (n : ℕ) (at : Place) (o : Option BinaryOperator) (x : Place × BinaryOperator) → of_level n at o ≡ Some x → is_some o ≡ true
level-operator n at None x is = absurd (none-some x is)
level-operator n at (Some operator) x is = refl

pub operator_starts : (n : ℕ) → Starts binary_operators (One (binary_at n))
operator_starts n = one (λ t x is. sym (an_operator.is t) ∙ level-operator n t.place (operator_in t.token) x is)

-- a token that is none of these shapes is no operator
pub operator-shape : {test : Placed Token → Bool} {xs : List (List ℕ)} → Means test xs → is_disjoint binary_operators xs ≡ true → (n : ℕ) (t : Placed Token) (x : Place × BinaryOperator) → binary_at n t ≡ Some x → test t ≡ false
operator-shape means none n t x is = apart means (operator_starts n) none x (t ∷ []) [] (t, refl, is)

both : (b c : Bool) → b ≡ false → c ≡ false → (b || c) ≡ false
both true c one other = one
both false c one other = other

-- an operator of a level is none with which the next level goes on
pub binary-ends : (n : ℕ) (t : Placed Token) (x : Place × BinaryOperator) → binary_at n t ≡ Some x → goes_on (n + 1) t ≡ false
binary-ends n t x is =
    both (is_selector t) (at_least (n + 1) (operator_in t.token)) (operator-shape a_selector refl n t x is)
    (of_level-above n t.place (operator_in t.token) x is)

within : (n k : ℕ) (at : Place) (operator : BinaryOperator) (v : Bool) → (k == n) ≡ v → is_some (found_if v (at, operator)) ≡ true → nat_le n k ≡ true
within n k at operator true same is = grind (arith, nat_tests)
within n k at operator false same is = absurd (false≢true is)

of_level-within : (n : ℕ) (at : Place) (o : Option BinaryOperator) → is_some (of_level n at o) ≡ true → at_least n o ≡ true
of_level-within n at None is = is
of_level-within n at (Some operator) is = within n (binary_level operator) at operator (binary_level operator == n) refl is

or-right : (b c : Bool) → c ≡ true → (b || c) ≡ true
or-right true c is = refl
or-right false c is = is

-- with an operator of its own level an expression goes on
pub operates-goes_on : (n : ℕ) (t : Placed Token) → operates n t ≡ true → goes_on n t ≡ true
operates-goes_on n t is =
    or-right (is_selector t) (at_least n (operator_in t.token)) (of_level-within n t.place (operator_in t.token) is)
