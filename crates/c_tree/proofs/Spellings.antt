-- Bytes that are names or literals, and bytes that are none.
use Rattle.std.proofs.Common.{◌≡◌, ℕ, Bool, true, false, List, Some, None, refl, sym, ap, ◌∙◌}
use Rattle.std.proofs.Math.Bool.{Bool-set}
use Rattle.std.proofs.lemmas.Bool.{and_parts, false≢true}
use Rattle.std.specs.Prelude.{◌&&◌, is_some, Option}
use Rattle.c_tree.specs.Names.{is_identifier}
use Rattle.c_tree.specs.Numerals.{begins_in, past_numeral, is_empty, numeral_type, is_numeral}
use Rattle.c_tree.specs.declared.byte_class.ByteClass.TheVariants.{Digit}
use Rattle.c_tree.specs.declared.integer_type.IntegerType.{IntegerType}
use Rattle.c_tree.specs.Spellings.{identifier_by, identifier_of, numeral_by, numeral_of}
use Rattle.c_tree.specs.declared.identifier.Identifier.{Identifier}
use Rattle.c_tree.specs.declared.numeral.Numeral.{Numeral}

no-identifier-by : (n : List ℕ) (b : Bool) (is : is_identifier n ≡ b) → b ≡ false → identifier_by n b is ≡ None
no-identifier-by n false is e = refl
no-identifier-by n true is e = absurd (false≢true (sym e))

pub no_identifier : (n : List ℕ) → is_identifier n ≡ false → identifier_of n ≡ None
no_identifier n e = no-identifier-by n (is_identifier n) refl e

identifier-by : (x : Identifier) (b : Bool) (is : is_identifier x.bytes ≡ b) → identifier_by x.bytes b is ≡ Some x
identifier-by x false is = absurd (false≢true (sym is ∙ x.spelled))
identifier-by x true is = ap (λ (e : is_identifier x.bytes ≡ true). Some (record { bytes = x.bytes; spelled = e })) (Bool-set (is_identifier x.bytes) true is x.spelled)

-- a name is that which its bytes spell
pub identifier_of_bytes : (x : Identifier) → identifier_of x.bytes ≡ Some x
identifier_of_bytes x = identifier-by x (is_identifier x.bytes) refl

no-numeral-by : (n : List ℕ) (b : Bool) (is : is_numeral n ≡ b) → b ≡ false → numeral_by n b is ≡ None
no-numeral-by n false is e = refl
no-numeral-by n true is e = absurd (false≢true (sym e))

pub no_numeral : (n : List ℕ) → is_numeral n ≡ false → numeral_of n ≡ None
no_numeral n e = no-numeral-by n (is_numeral n) refl e

numeral-by : (x : Numeral) (b : Bool) (is : is_numeral x.bytes ≡ b) → numeral_by x.bytes b is ≡ Some x
numeral-by x false is = absurd (false≢true (sym is ∙ x.spelled))
numeral-by x true is = ap (λ (e : is_numeral x.bytes ≡ true). Some (record { bytes = x.bytes; spelled = e })) (Bool-set (is_numeral x.bytes) true is x.spelled)

-- a literal has a type
pub numeral_typed : (n : List ℕ) → is_numeral n ≡ true → numeral_type n ≡ None → ⊥
unfolding is_numeral
numeral_typed n is none =
    let typed = (and_parts (is_empty (past_numeral n)) (is_some (numeral_type n)) (and_parts (begins_in Digit n) (is_empty (past_numeral n) && is_some (numeral_type n)) is).1).1 in
    false≢true (sym (ap (λ (o : Option IntegerType). is_some o) none) ∙ typed)

-- a literal is that which its bytes spell
pub numeral_of_bytes : (x : Numeral) → numeral_of x.bytes ≡ Some x
numeral_of_bytes x = numeral-by x (is_numeral x.bytes) refl
