-- The productions of values, each as its parts.
use Rattle.std.proofs.Common.{◌≡◌, ◌∙◌, refl, sym, ap, subst, List, [], ◌∷◌, ◌++◌, codes, Option, Some, None, inl, inr}
use Rattle.std.specs.Prelude.{⊤}
use Rattle.hw_text.specs.declared.placed.Placed.{Placed}
use Rattle.hw_text.specs.Language.{◌⋅◌, Made, ◌∣◌, Each, Maybe}
use Rattle.aadl_tree.specs.declared.token.Token.{Token}
use Rattle.aadl_tree.specs.declared.value.PropertyValue.{PropertyValue}
use Rattle.aadl_tree.specs.declared.value.PropertyValue.TheVariants as value
use Rattle.aadl_tree.specs.declared.value.RecordField.{RecordField}
use Rattle.aadl_parse.specs.SimpleValue.{Symbol, SpellsSimple}
use Rattle.aadl_parse.specs.ValueText.{SpellsValue, simple, list, set, SpellsMembers, no_members, members, SpellsFurther, no_further, further, SpellsFields, no_fields, fields, SpellsNext, SpellsFirst, SpellsEach, SpellsField, members_of, field_of}

abbrev pub list_of : ⊤ × (List PropertyValue × ⊤) → PropertyValue
list_of p = value.List p.1.0

abbrev pub set_of : ⊤ × (List RecordField × ⊤) → PropertyValue
set_of p = value.Record p.1.0

abbrev pub ListForm : PropertyValue → List (Placed Token) → Type 0
ListForm = Made list_of (Symbol (codes "(") ⋅ SpellsEach ⋅ Symbol (codes ")"))

abbrev pub SetForm : PropertyValue → List (Placed Token) → Type 0
SetForm = Made set_of (Symbol (codes "[") ⋅ Each SpellsField ⋅ Symbol (codes "]"))

abbrev pub ValueForm : PropertyValue → List (Placed Token) → Type 0
ValueForm = SpellsSimple ∣ (ListForm ∣ SetForm)

further-opened : (vs : List PropertyValue) (ts : List (Placed Token)) → SpellsFurther vs ts → Each SpellsNext vs ts
further-opened vs ts (no_further ws us is empty) = subst (λ (l : List PropertyValue). Each SpellsNext l ts) (sym is) empty
further-opened vs ts (further v ws cs us rest all l is split c u more) =
    subst (λ (x : List PropertyValue). Each SpellsNext x ts) (sym is)
    (cs ++ us, rest, split, ((tt, v), refl, (cs, us, refl, c, u)), further-opened ws rest more)

further-shut : (vs : List PropertyValue) (ts : List (Placed Token)) → Each SpellsNext vs ts → SpellsFurther vs ts
further-shut [] ts text = no_further [] ts refl text
further-shut (v ∷ vs) ts text =
    let next = text.3 in
    further next.0.1 vs next.2.0 next.2.1 text.1 (v ∷ vs) ts (ap (λ (x : PropertyValue). x ∷ vs) next.1)
    (text.2 ∙ ap (λ (l : List (Placed Token)). l ++ text.1) next.2.2) next.2.3 next.2.4 (further-shut vs text.1 text.4)

members-opened : (vs : List PropertyValue) (ts : List (Placed Token)) → SpellsMembers vs ts → SpellsEach vs ts
members-opened vs ts (no_members ws us is empty) = (None, is, empty)
members-opened vs ts (members v ws us rest all l is split u more) =
    (Some (v ∷ ws), is, ((v, ws), refl, (us, rest, split, u, further-opened ws rest more)))

members-shut : (o : Option (List PropertyValue)) (vs : List PropertyValue) (ts : List (Placed Token)) → vs ≡ members_of o → Maybe SpellsFirst o ts → SpellsMembers vs ts
members-shut None vs ts is text = no_members vs ts is text
members-shut (Some l) vs ts is text =
    let p = text.2 in
    members text.0.0 text.0.1 p.0 p.1 vs ts (is ∙ text.1) p.2 p.3 (further-shut text.0.1 p.1 p.4)

fields-opened : (fs : List RecordField) (ts : List (Placed Token)) → SpellsFields fs ts → Each SpellsField fs ts
fields-opened fs ts (no_fields gs us is empty) = subst (λ (l : List RecordField). Each SpellsField l ts) (sym is) empty
fields-opened fs ts (fields f gs ns us ss rest all l is split n u s more) =
    subst (λ (x : List RecordField). Each SpellsField x ts) (sym is)
    (ns ++ (us ++ ss), rest, split, ((f.name, (f.value, tt)), refl, (ns, us ++ ss, refl, n, (us, ss, refl, u, s))), fields-opened gs rest more)

fields-shut : (fs : List RecordField) (ts : List (Placed Token)) → Each SpellsField fs ts → SpellsFields fs ts
fields-shut [] ts text = no_fields [] ts refl text
fields-shut (f ∷ fs) ts text =
    let made = text.3 in
    let p = made.2 in
    fields (field_of made.0) fs p.0 p.4.0 p.4.1 text.1 (f ∷ fs) ts (ap (λ (x : RecordField). x ∷ fs) made.1)
    (text.2 ∙ ap (λ (l : List (Placed Token)). l ++ text.1) (p.2 ∙ ap (λ (l : List (Placed Token)). p.0 ++ l) p.4.2)) p.3 p.4.3 p.4.4 (fields-shut fs text.1 text.4)

pub opened : (v : PropertyValue) (ts : List (Placed Token)) → SpellsValue v ts → ValueForm v ts
opened v ts (simple u l text) = inl text
opened v ts (list vs os us cs u l is split o m c) = inr (inl ((tt, (vs, tt)), is, (os, us ++ cs, split, o, (us, cs, refl, members-opened vs us m, c))))
opened v ts (set fs os us cs u l is split o m c) = inr (inr ((tt, (fs, tt)), is, (os, us ++ cs, split, o, (us, cs, refl, fields-opened fs us m, c))))

pub shut : (v : PropertyValue) (ts : List (Placed Token)) → ValueForm v ts → SpellsValue v ts
shut v ts (inl text) = simple v ts text
shut v ts (inr (inl g)) =
    let p = g.2 in
    let m = p.4.3 in
    list g.0.1.0 p.0 p.4.0 p.4.1 v ts g.1 (p.2 ∙ ap (λ (l : List (Placed Token)). p.0 ++ l) p.4.2) p.3 (members-shut m.0 g.0.1.0 p.4.0 m.1 m.2) p.4.4
shut v ts (inr (inr g)) =
    let p = g.2 in
    set g.0.1.0 p.0 p.4.0 p.4.1 v ts g.1 (p.2 ∙ ap (λ (l : List (Placed Token)). p.0 ++ l) p.4.2) p.3 (fields-shut g.0.1.0 p.4.0 p.4.3) p.4.4
