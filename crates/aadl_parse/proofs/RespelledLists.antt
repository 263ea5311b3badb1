-- The canonical tokens of values with parts spell them, and so those of all values.
use Rattle.std.proofs.Common.{◌≡◌, inl, inr, ℕ, List, [], ◌∷◌, ◌++◌, map, codes, Option, Some, None, refl, sym}
use Rattle.std.specs.List.{flat_map}
use Rattle.std.specs.Option.{option_map}
use Rattle.hw_text.specs.declared.placed.Placed.{Placed}
use Rattle.hw_text.specs.Language.{One, ◌⋅◌, Maybe, Each}
use Rattle.aadl_tree.specs.declared.class.Class.{Class}
use Rattle.aadl_tree.specs.declared.mark.Mark.TheVariants as mark
use Rattle.aadl_tree.specs.declared.names.Path.{Path}
use Rattle.aadl_tree.specs.declared.token.Token.{Token}
use Rattle.aadl_tree.specs.declared.token.Token.TheVariants as token
use Rattle.aadl_tree.specs.declared.value.PropertyValue.{PropertyValue}
use Rattle.aadl_tree.specs.declared.value.PropertyValue.TheVariants as value
use Rattle.aadl_tree.specs.declared.value.RecordField.{RecordField}
use Rattle.aadl_tree.specs.declared.word.Word.TheVariants as word
use Rattle.aadl_tree.specs.Canonical.{behind_comma, path_tokens, class_tokens}
use Rattle.aadl_tree.specs.Unplaced.{unplaced_path, unplaced_class, unplaced_value, unplaced_field}
use Rattle.aadl_tree.specs.Values.{separated, classifier_tokens, reference_tokens, value_tokens, field_tokens}
use Rattle.aadl_tree.proofs.UnplacedValues.{unplaced_value-List, unplaced_value-Record, unplaced_value-Classifier, unplaced_value-Reference, unplaced_field-of}
use Rattle.aadl_tree.proofs.ValueInduction.{OfEach, OfField, of_each_value}
use Rattle.aadl_tree.proofs.ValueLemmas.{value_tokens-List, value_tokens-Record, value_tokens-Classifier, value_tokens-Reference, field_tokens-of}
use Rattle.aadl_parse.specs.SimpleValue.{Symbol, classifier_value, reference_value, SpellsClass, SpellsPath, SpellsClassifier, SpellsReference, SpellsSimple, before_sign, SpellsFieldName}
use Rattle.aadl_parse.specs.Terminals.{name_of}
use Rattle.aadl_parse.specs.ValueForms.{list_of, set_of, ListForm, SetForm, shut}
use Rattle.aadl_parse.specs.ValueText.{SpellsValue, simple, second_of, SpellsNext, first_of, SpellsFirst, members_of, SpellsEach, field_of, SpellsField}
use Rattle.aadl_parse.proofs.Respelled.{Spelled, spelled-by, then, made, symbol, there, not-there, each-of}
use Rattle.aadl_parse.proofs.RespelledNames.{plain_name, path, class}
use Rattle.aadl_parse.proofs.RespelledValues.{Simple, this, that, referring, a_quantity, a_range, a_text, a_truth, a_name}

-- a part between parentheses, behind a word
called : {X : Type 0} (A : X → List (Placed Token) → Type 0) (f : X → X) (x : X) (us : List Token) (text : List ℕ) (t : Token) → Spelled (Symbol text) (λ u. u) tt (t ∷ []) → Spelled A f x us → Spelled (Symbol text ⋅ (Symbol (codes "(") ⋅ (A ⋅ Symbol (codes ")")))) (λ p. (p.0, (p.1.0, (f p.1.1.0, p.1.1.1)))) (tt, (tt, (x, tt))) (t ∷ token.Mark mark.OpenParenthesis ∷ us ++ token.Mark mark.CloseParenthesis ∷ [])
called A f x us text t word part =
    let close : List Token = token.Mark mark.CloseParenthesis ∷ [] in
    then (Symbol text) (Symbol (codes "(") ⋅ (A ⋅ Symbol (codes ")"))) (λ u. u) (λ p. (p.0, (f p.1.0, p.1.1))) tt (tt, (x, tt)) (t ∷ []) (token.Mark mark.OpenParenthesis ∷ (us ++ close)) word
    (then (Symbol (codes "(")) (A ⋅ Symbol (codes ")")) (λ u. u) (λ p. (f p.0, p.1)) tt (x, tt) (token.Mark mark.OpenParenthesis ∷ []) (us ++ close) (symbol (codes "(") (token.Mark mark.OpenParenthesis) (λ at. refl))
    (then A (Symbol (codes ")")) f (λ u. u) x tt us close part (symbol (codes ")") (token.Mark mark.CloseParenthesis) (λ at. refl))))

a_classifier : (c : Class) → Simple (value.Classifier c)
a_classifier c =
    let z = value.Classifier (unplaced_class c) in
    spelled-by SpellsSimple unplaced_value z (unplaced_value (value.Classifier c)) (classifier_tokens c) (value_tokens (value.Classifier c)) (sym (value_tokens-Classifier c)) (sym (unplaced_value-Classifier c))
    (referring z (classifier_tokens c) (this SpellsClassifier SpellsReference z (classifier_tokens c)
    (made classifier_value (Symbol (codes "classifier") ⋅ (Symbol (codes "(") ⋅ (SpellsClass ⋅ Symbol (codes ")")))) (λ p. (p.0, (p.1.0, (unplaced_class p.1.1.0, p.1.1.1)))) unplaced_value (tt, (tt, (unplaced_class c, tt)))
    (classifier_tokens c) (λ p. unplaced_value-Classifier p.1.1.0)
    (called SpellsClass unplaced_class (unplaced_class c) (class_tokens c) (codes "classifier") (token.Word word.Classifier) (symbol (codes "classifier") (token.Word word.Classifier) (λ at. refl)) (class c)))))

a_reference : (p : Path) → Simple (value.Reference p)
a_reference r =
    let z = value.Reference (unplaced_path r) in
    spelled-by SpellsSimple unplaced_value z (unplaced_value (value.Reference r)) (reference_tokens r) (value_tokens (value.Reference r)) (sym (value_tokens-Reference r)) (sym (unplaced_value-Reference r))
    (referring z (reference_tokens r) (that SpellsClassifier SpellsReference z (reference_tokens r)
    (made reference_value (Symbol (codes "reference") ⋅ (Symbol (codes "(") ⋅ (SpellsPath ⋅ Symbol (codes ")")))) (λ p. (p.0, (p.1.0, (unplaced_path p.1.1.0, p.1.1.1)))) unplaced_value (tt, (tt, (unplaced_path r, tt)))
    (reference_tokens r) (λ p. unplaced_value-Reference p.1.1.0)
    (called SpellsPath unplaced_path (unplaced_path r) (path_tokens r) (codes "reference") (token.Word word.Reference) (symbol (codes "reference") (token.Word word.Reference) (λ at. refl)) (path r)))))

abbrev pub Valued : PropertyValue → Type 0
Valued v = Spelled SpellsValue unplaced_value (unplaced_value v) (value_tokens v)

simply : (v : PropertyValue) → Simple v → Valued v
simply v text = λ ts e.
    let p = text ts e in
    (p.0, simple p.0 ts p.1, p.2)

next : (v : PropertyValue) → Valued v → Spelled SpellsNext unplaced_value (unplaced_value v) (behind_comma value_tokens v)
next v text =
    made second_of (Symbol (codes ",") ⋅ SpellsValue) (λ p. (p.0, unplaced_value p.1)) unplaced_value (tt, unplaced_value v) (behind_comma value_tokens v) (λ p. refl)
    (then (Symbol (codes ",")) SpellsValue (λ u. u) unplaced_value tt (unplaced_value v) (token.Mark mark.Comma ∷ []) (value_tokens v) (symbol (codes ",") (token.Mark mark.Comma) (λ at. refl)) text)

nexts : (vs : List PropertyValue) → OfEach Valued vs → OfEach (λ v. Spelled SpellsNext unplaced_value (unplaced_value v) (behind_comma value_tokens v)) vs
nexts [] all = tt
nexts (v ∷ vs) all = (next v all.0, nexts vs all.1)

members-bare : (o : Option (List PropertyValue)) → map unplaced_value (members_of o) ≡ members_of (option_map (map unplaced_value) o)
members-bare None = refl
members-bare (Some vs) = refl

firsts : (v : PropertyValue) (vs : List PropertyValue) → Valued v → OfEach Valued vs → Spelled SpellsFirst (map unplaced_value) (map unplaced_value (v ∷ vs)) (separated value_tokens (v ∷ vs))
firsts v vs text all =
    made first_of (SpellsValue ⋅ Each SpellsNext) (λ p. (unplaced_value p.0, map unplaced_value p.1)) (map unplaced_value) (unplaced_value v, map unplaced_value vs) (separated value_tokens (v ∷ vs)) (λ p. refl)
    (then SpellsValue (Each SpellsNext) unplaced_value (map unplaced_value) (unplaced_value v) (map unplaced_value vs) (value_tokens v) (flat_map (behind_comma value_tokens) vs) text
    (each-of SpellsNext unplaced_value (behind_comma value_tokens) vs (nexts vs all)))

members : (vs : List PropertyValue) → OfEach Valued vs → Spelled SpellsEach (map unplaced_value) (map unplaced_value vs) (separated value_tokens vs)
members [] all =
    made members_of (Maybe SpellsFirst) (option_map (map unplaced_value)) (map unplaced_value) None [] members-bare (not-there SpellsFirst (map unplaced_value))
members (v ∷ vs) all =
    made members_of (Maybe SpellsFirst) (option_map (map unplaced_value)) (map unplaced_value) (Some (map unplaced_value (v ∷ vs))) (separated value_tokens (v ∷ vs)) members-bare
    (there SpellsFirst (map unplaced_value) (map unplaced_value (v ∷ vs)) (separated value_tokens (v ∷ vs)) (firsts v vs all.0 all.1))

-- a part between two brackets
pub bracketed : {X : Type 0} (A : X → List (Placed Token) → Type 0) (f : X → X) (x : X) (us : List Token) (begin close : List ℕ) (a b : Token) → Spelled (Symbol begin) (λ u. u) tt (a ∷ []) → Spelled (Symbol close) (λ u. u) tt (b ∷ []) → Spelled A f x us → Spelled (Symbol begin ⋅ (A ⋅ Symbol close)) (λ p. (p.0, (f p.1.0, p.1.1))) (tt, (x, tt)) (a ∷ us ++ b ∷ [])
bracketed A f x us begin close a b opens closes part =
    then (Symbol begin) (A ⋅ Symbol close) (λ u. u) (λ p. (f p.0, p.1)) tt (x, tt) (a ∷ []) (us ++ b ∷ []) opens
    (then A (Symbol close) f (λ u. u) x tt us (b ∷ []) part closes)

a_list : (vs : List PropertyValue) → OfEach Valued vs → Valued (value.List vs)
a_list vs all =
    let us : List Token = token.Mark mark.OpenParenthesis ∷ separated value_tokens vs ++ token.Mark mark.CloseParenthesis ∷ [] in
    let form : Spelled ListForm unplaced_value (value.List (map unplaced_value vs)) us =
    made list_of (Symbol (codes "(") ⋅ (SpellsEach ⋅ Symbol (codes ")"))) (λ p. (p.0, (map unplaced_value p.1.0, p.1.1))) unplaced_value (tt, (map unplaced_value vs, tt)) us (λ p. unplaced_value-List p.1.0)
    (bracketed SpellsEach (map unplaced_value) (map unplaced_value vs) (separated value_tokens vs) (codes "(") (codes ")") (token.Mark mark.OpenParenthesis) (token.Mark mark.CloseParenthesis)
    (symbol (codes "(") (token.Mark mark.OpenParenthesis) (λ at. refl)) (symbol (codes ")") (token.Mark mark.CloseParenthesis) (λ at. refl)) (members vs all)) in
    spelled-by SpellsValue unplaced_value (value.List (map unplaced_value vs)) (unplaced_value (value.List vs)) us (value_tokens (value.List vs)) (sym (value_tokens-List vs)) (sym (unplaced_value-List vs))
    (λ ts e.
    let p = form ts e in
    (p.0, shut p.0 ts (inr (inl p.1)), p.2))

field-name : (n : List ℕ) → Spelled SpellsFieldName (λ m. m) n (token.Name n ∷ token.Mark mark.Association ∷ [])
field-name n =
    made before_sign (One name_of ⋅ Symbol (codes "=>")) (λ p. (p.0, p.1)) (λ m. m) (n, tt) (token.Name n ∷ token.Mark mark.Association ∷ []) (λ p. refl)
    (then (One name_of) (Symbol (codes "=>")) (λ m. m) (λ u. u) n tt (token.Name n ∷ []) (token.Mark mark.Association ∷ []) (plain_name n) (symbol (codes "=>") (token.Mark mark.Association) (λ at. refl)))

a_field : (f : RecordField) → Valued f.value → Spelled SpellsField unplaced_field (unplaced_field f) (field_tokens f)
a_field f text =
    let z : RecordField = record { name = f.name; value = unplaced_value f.value } in
    let us : List Token = token.Name f.name ∷ token.Mark mark.Association ∷ value_tokens f.value ++ token.Mark mark.Semicolon ∷ [] in
    spelled-by SpellsField unplaced_field z (unplaced_field f) us (field_tokens f) (sym (field_tokens-of f)) (sym (unplaced_field-of f))
    (made field_of (SpellsFieldName ⋅ (SpellsValue ⋅ Symbol (codes ";"))) (λ p. (p.0, (unplaced_value p.1.0, p.1.1))) unplaced_field (f.name, (unplaced_value f.value, tt)) us (λ p. unplaced_field-of (field_of p))
    (then SpellsFieldName (SpellsValue ⋅ Symbol (codes ";")) (λ m. m) (λ p. (unplaced_value p.0, p.1)) f.name (unplaced_value f.value, tt) (token.Name f.name ∷ token.Mark mark.Association ∷ [])
    (value_tokens f.value ++ token.Mark mark.Semicolon ∷ []) (field-name f.name)
    (then SpellsValue (Symbol (codes ";")) unplaced_value (λ u. u) (unplaced_value f.value) tt (value_tokens f.value) (token.Mark mark.Semicolon ∷ []) text
    (symbol (codes ";") (token.Mark mark.Semicolon) (λ at. refl)))))

a_fields : (fs : List RecordField) → OfEach (OfField Valued) fs → OfEach (λ f. Spelled SpellsField unplaced_field (unplaced_field f) (field_tokens f)) fs
a_fields [] all = tt
a_fields (f ∷ fs) all = (a_field f all.0, a_fields fs all.1)

a_set : (fs : List RecordField) → OfEach (OfField Valued) fs → Valued (value.Record fs)
a_set fs all =
    let us : List Token = token.Mark mark.OpenBracket ∷ flat_map field_tokens fs ++ token.Mark mark.CloseBracket ∷ [] in
    let form : Spelled SetForm unplaced_value (value.Record (map unplaced_field fs)) us =
    made set_of (Symbol (codes "[") ⋅ (Each SpellsField ⋅ Symbol (codes "]"))) (λ p. (p.0, (map unplaced_field p.1.0, p.1.1))) unplaced_value (tt, (map unplaced_field fs, tt)) us (λ p. unplaced_value-Record p.1.0)
    (bracketed (Each SpellsField) (map unplaced_field) (map unplaced_field fs) (flat_map field_tokens fs) (codes "[") (codes "]") (token.Mark mark.OpenBracket) (token.Mark mark.CloseBracket)
    (symbol (codes "[") (token.Mark mark.OpenBracket) (λ at. refl)) (symbol (codes "]") (token.Mark mark.CloseBracket) (λ at. refl)) (each-of SpellsField unplaced_field field_tokens fs (a_fields fs all))) in
    spelled-by SpellsValue unplaced_value (value.Record (map unplaced_field fs)) (unplaced_value (value.Record fs)) us (value_tokens (value.Record fs)) (sym (value_tokens-Record fs)) (sym (unplaced_value-Record fs))
    (λ ts e.
    let p = form ts e in
    (p.0, shut p.0 ts (inr (inr p.1)), p.2))

pub valued : (v : PropertyValue) → Valued v
valued = of_each_value Valued (record {
  quantity = λ q. simply (value.Quantity q) (a_quantity q);
  range = λ from to. simply (value.Range from to) (a_range from to);
  text = λ t. simply (value.Text t) (a_text t);
  truth = λ b. simply (value.Truth b) (a_truth b);
  name = λ q. simply (value.Name q) (a_name q);
  list = a_list;
  fields = a_set;
  classifier = λ c. simply (value.Classifier c) (a_classifier c);
  reference = λ p. simply (value.Reference p) (a_reference p);
})
