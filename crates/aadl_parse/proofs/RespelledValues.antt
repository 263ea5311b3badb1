-- The canonical tokens of values spell them.
use Rattle.std.proofs.Common.{◌≡◌, inl, inr, ℕ, Bool, true, false, List, [], ◌∷◌, ◌++◌, codes, Option, Some, None, refl, ap, sym, ◌∙◌}
use Rattle.std.proofs.lemmas.List.{append-nil}
use Rattle.std.specs.Prelude.{⊤}
use Rattle.hw_text.specs.declared.placed.Placed.{Placed}
use Rattle.hw_text.specs.Language.{One, ◌⋅◌, Maybe, Made}
use Rattle.aadl_tree.specs.declared.mark.Mark.TheVariants as mark
use Rattle.aadl_tree.specs.declared.names.QualifiedName.{QualifiedName}
use Rattle.aadl_tree.specs.declared.token.Token.{Token}
use Rattle.aadl_tree.specs.declared.token.Token.TheVariants as token
use Rattle.aadl_tree.specs.declared.value.Number.{Number}
use Rattle.aadl_tree.specs.declared.value.Number.TheVariants as number
use Rattle.aadl_tree.specs.declared.value.PropertyValue.{PropertyValue}
use Rattle.aadl_tree.specs.declared.value.PropertyValue.TheVariants as value
use Rattle.aadl_tree.specs.declared.value.Quantity.{Quantity}
use Rattle.aadl_tree.specs.declared.value.Sign.{Sign}
use Rattle.aadl_tree.specs.declared.value.Sign.TheVariants as sign
use Rattle.aadl_tree.specs.declared.word.Word.TheVariants as word
use Rattle.aadl_tree.specs.Canonical.{qualified_tokens}
use Rattle.aadl_tree.specs.Unplaced.{unplaced_qualified, unplaced_value}
use Rattle.aadl_tree.specs.Values.{sign_tokens, number_token, unit_tokens, quantity_tokens, truth_token, value_tokens}
use Rattle.aadl_tree.proofs.UnplacedValues.{unplaced_value-Quantity, unplaced_value-Range, unplaced_value-Name}
use Rattle.aadl_tree.proofs.ValueLemmas.{value_tokens-Quantity, value_tokens-Range, value_tokens-Text, value_tokens-Truth, value_tokens-Name}
use Rattle.aadl_parse.specs.Builds.{either_of}
use Rattle.aadl_parse.specs.Choice.{First, Second}
use Rattle.aadl_parse.specs.SimpleValue.{Symbol, quantity_of, SpellsQuantity, range_of, SpellsRange, truth_value, name_value, SpellsQualified, Either, SpellsNameValue, SpellsTextValue, SpellsTruthValue, SpellsReferring, SpellsNaming, SpellsTelling, SpellsQuoting, SpellsSimple}
use Rattle.aadl_parse.specs.Terminals.{name_of}
use Rattle.aadl_parse.specs.ValueTokens.{sign_of, number_of, text_of, truth_of}
use Rattle.aadl_parse.proofs.Respelled.{Spelled, spelled-by, then, made, one, symbol, not-there-plain, there-plain}
use Rattle.aadl_parse.proofs.RespelledNames.{plain_name, qualified}

a_sign : (o : Option Sign) → Spelled (Maybe (One sign_of)) (λ s. s) o (sign_tokens o)
a_sign None = not-there-plain (One sign_of)
a_sign (Some sign.Plus) = there-plain (One sign_of) sign.Plus (token.Mark mark.Plus ∷ []) (one sign_of (λ s. s) sign.Plus (token.Mark mark.Plus) (λ at. sign.Plus) (λ at. refl) (λ at. refl))
a_sign (Some sign.Minus) = there-plain (One sign_of) sign.Minus (token.Mark mark.Minus ∷ []) (one sign_of (λ s. s) sign.Minus (token.Mark mark.Minus) (λ at. sign.Minus) (λ at. refl) (λ at. refl))

a_number : (n : Number) → Spelled (One number_of) (λ m. m) n (number_token n ∷ [])
a_number (number.Integer n) = one number_of (λ m. m) (number.Integer n) (token.Integer n) (λ at. number.Integer n) (λ at. refl) (λ at. refl)
a_number (number.Real r) = one number_of (λ m. m) (number.Real r) (token.Real r) (λ at. number.Real r) (λ at. refl) (λ at. refl)

a_unit : (o : Option (List ℕ)) → Spelled (Maybe (One name_of)) (λ n. n) o (unit_tokens o)
a_unit None = not-there-plain (One name_of)
a_unit (Some n) = there-plain (One name_of) n (token.Name n ∷ []) (plain_name n)

quantity : (q : Quantity) → Spelled SpellsQuantity (λ x. x) q (quantity_tokens q)
quantity q =
    made quantity_of (Maybe (One sign_of) ⋅ (One number_of ⋅ Maybe (One name_of))) (λ p. (p.0, (p.1.0, p.1.1))) (λ x. x) (q.sign, (q.number, q.unit)) (quantity_tokens q) (λ p. refl)
    (then (Maybe (One sign_of)) (One number_of ⋅ Maybe (One name_of)) (λ s. s) (λ p. (p.0, p.1)) q.sign (q.number, q.unit) (sign_tokens q.sign) (number_token q.number ∷ unit_tokens q.unit)
    (a_sign q.sign) (then (One number_of) (Maybe (One name_of)) (λ m. m) (λ n. n) q.number q.unit (number_token q.number ∷ []) (unit_tokens q.unit) (a_number q.number) (a_unit q.unit)))

-- values in the order of the choices between them
module _ (A B : PropertyValue → List (Placed Token) → Type 0) (z : PropertyValue) (us : List Token) where
  pub this : Spelled A unplaced_value z us → Spelled (Made either_of (Either A B)) unplaced_value z us
  this a = λ ts e.
      let p = a ts e in
      (p.0, (First p.0, refl, inl (p.0, refl, p.1)), p.2)

  pub that : Spelled B unplaced_value z us → Spelled (Made either_of (Either A B)) unplaced_value z us
  that b = λ ts e.
      let p = b ts e in
      (p.0, (Second p.0, refl, inr (p.0, refl, p.1)), p.2)

-- what a value is and is spelled by, in its own words
abbrev pub Simple : PropertyValue → Type 0
Simple v = Spelled SpellsSimple unplaced_value (unplaced_value v) (value_tokens v)

range-bare : (q : Quantity) (o : Option (⊤ × Quantity)) → unplaced_value (range_of (q, o)) ≡ range_of (q, o)
range-bare q None = unplaced_value-Quantity q
range-bare q (Some p) = unplaced_value-Range q p.1

ranged : (q : Quantity) (o : Option (⊤ × Quantity)) (us : List Token) → Spelled (Maybe (Symbol (codes "..") ⋅ SpellsQuantity)) (λ p. p) o us → Spelled SpellsRange unplaced_value (range_of (q, o)) (quantity_tokens q ++ us)
ranged q o us more =
    made range_of (SpellsQuantity ⋅ Maybe (Symbol (codes "..") ⋅ SpellsQuantity)) (λ p. (p.0, p.1)) unplaced_value (q, o) (quantity_tokens q ++ us) (λ p. range-bare p.0 p.1)
    (then SpellsQuantity (Maybe (Symbol (codes "..") ⋅ SpellsQuantity)) (λ x. x) (λ p. p) q o (quantity_tokens q) us (quantity q) more)

number-first : (v : PropertyValue) (us : List Token) → Spelled SpellsRange unplaced_value v us → Spelled SpellsSimple unplaced_value v us
number-first v us text = this SpellsRange SpellsQuoting v us text

pub a_quantity : (q : Quantity) → Simple (value.Quantity q)
a_quantity q =
    spelled-by SpellsSimple unplaced_value (range_of (q, None)) (unplaced_value (value.Quantity q)) (quantity_tokens q ++ []) (value_tokens (value.Quantity q))
    (append-nil (quantity_tokens q) ∙ sym (value_tokens-Quantity q)) (sym (unplaced_value-Quantity q))
    (number-first (range_of (q, None)) (quantity_tokens q ++ []) (ranged q None [] (not-there-plain (Symbol (codes "..") ⋅ SpellsQuantity))))

pub a_range : (from to : Quantity) → Simple (value.Range from to)
a_range from to =
    let more : List Token = token.Mark mark.Range ∷ quantity_tokens to in
    spelled-by SpellsSimple unplaced_value (range_of (from, Some (tt, to))) (unplaced_value (value.Range from to)) (quantity_tokens from ++ more) (value_tokens (value.Range from to))
    (sym (value_tokens-Range from to)) (sym (unplaced_value-Range from to))
    (number-first (range_of (from, Some (tt, to))) (quantity_tokens from ++ more)
    (ranged from (Some (tt, to)) more (there-plain (Symbol (codes "..") ⋅ SpellsQuantity) (tt, to) more
    (then (Symbol (codes "..")) SpellsQuantity (λ u. u) (λ x. x) tt to (token.Mark mark.Range ∷ []) (quantity_tokens to) (symbol (codes "..") (token.Mark mark.Range) (λ at. refl)) (quantity to)))))

quoting : (z : PropertyValue) (us : List Token) → Spelled SpellsQuoting unplaced_value z us → Spelled SpellsSimple unplaced_value z us
quoting z us text = that SpellsRange SpellsQuoting z us text

telling : (z : PropertyValue) (us : List Token) → Spelled SpellsTelling unplaced_value z us → Spelled SpellsSimple unplaced_value z us
telling z us text = quoting z us (that SpellsTextValue SpellsTelling z us text)

naming : (z : PropertyValue) (us : List Token) → Spelled SpellsNaming unplaced_value z us → Spelled SpellsSimple unplaced_value z us
naming z us text = telling z us (that SpellsTruthValue SpellsNaming z us text)

pub referring : (z : PropertyValue) (us : List Token) → Spelled SpellsReferring unplaced_value z us → Spelled SpellsSimple unplaced_value z us
referring z us text = naming z us (that SpellsNameValue SpellsReferring z us text)

pub a_text : (t : List ℕ) → Simple (value.Text t)
a_text t =
    let z = unplaced_value (value.Text t) in
    spelled-by SpellsSimple unplaced_value z z (token.Text t ∷ []) (value_tokens (value.Text t)) (sym (value_tokens-Text t)) refl
    (quoting z (token.Text t ∷ []) (this SpellsTextValue SpellsTelling z (token.Text t ∷ [])
    (one text_of unplaced_value z (token.Text t) (λ at. value.Text t) (λ at. refl) (λ at. refl))))

pub a_truth : (b : Bool) → Simple (value.Truth b)
a_truth b =
    let z = unplaced_value (value.Truth b) in
    spelled-by SpellsSimple unplaced_value z z (truth_token b ∷ []) (value_tokens (value.Truth b)) (sym (value_tokens-Truth b)) refl
    (telling z (truth_token b ∷ []) (this SpellsTruthValue SpellsNaming z (truth_token b ∷ [])
    (λ ts e.
    let p = told b ts e in
    (truth_value p.0, (p.0, refl, p.1), ap (λ (w : Bool). unplaced_value (value.Truth w)) p.2))))
  where
    told : (b : Bool) → Spelled (One truth_of) (λ w. w) b (truth_token b ∷ [])
    told true = one truth_of (λ w. w) true (token.Word word.True) (λ at. true) (λ at. refl) (λ at. refl)
    told false = one truth_of (λ w. w) false (token.Word word.False) (λ at. false) (λ at. refl) (λ at. refl)

pub a_name : (q : QualifiedName) → Simple (value.Name q)
a_name q =
    let z = value.Name (unplaced_qualified q) in
    spelled-by SpellsSimple unplaced_value z (unplaced_value (value.Name q)) (qualified_tokens q) (value_tokens (value.Name q)) (sym (value_tokens-Name q)) (sym (unplaced_value-Name q))
    (naming z (qualified_tokens q) (this SpellsNameValue SpellsReferring z (qualified_tokens q)
    (made name_value SpellsQualified unplaced_qualified unplaced_value (unplaced_qualified q) (qualified_tokens q) (λ p. unplaced_value-Name p) (qualified q))))
