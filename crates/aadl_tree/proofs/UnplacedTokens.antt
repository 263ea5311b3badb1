-- Places leave no trace in the canonical tokens: those of what is unplaced are the same.
use Rattle.std.proofs.Common.{◌≡◌, List, [], ◌∷◌, ◌++◌, map, Option, Some, None, refl, ap, sym, ◌∙◌}
use Rattle.std.specs.List.{flat_map}
use Rattle.aadl_tree.specs.declared.annex.Annex.{Annex}
use Rattle.aadl_tree.specs.declared.association.Association.{Association}
use Rattle.aadl_tree.specs.declared.class.Class.{Class}
use Rattle.aadl_tree.specs.declared.class.Class.TheVariants.{Base, Model}
use Rattle.aadl_tree.specs.declared.component.ComponentType.{ComponentType}
use Rattle.aadl_tree.specs.declared.component.Implementation.{Implementation}
use Rattle.aadl_tree.specs.declared.connection.Connection.{Connection}
use Rattle.aadl_tree.specs.declared.feature.Feature.{Feature}
use Rattle.aadl_tree.specs.declared.feature.PortKind.{PortKind}
use Rattle.aadl_tree.specs.declared.feature.PortKind.TheVariants as kind
use Rattle.aadl_tree.specs.declared.mark.Mark.TheVariants as mark
use Rattle.aadl_tree.specs.declared.names.Path.{Path}
use Rattle.aadl_tree.specs.declared.names.QualifiedName.{QualifiedName}
use Rattle.aadl_tree.specs.declared.package.Declaration.{Declaration}
use Rattle.aadl_tree.specs.declared.package.Declaration.TheVariants as declaration
use Rattle.aadl_tree.specs.declared.package.Import.{Import}
use Rattle.aadl_tree.specs.declared.package.Package.{Package}
use Rattle.aadl_tree.specs.declared.subcomponent.Subcomponent.{Subcomponent}
use Rattle.aadl_tree.specs.declared.token.Token.{Token}
use Rattle.aadl_tree.specs.declared.token.Token.TheVariants as token
use Rattle.aadl_tree.specs.declared.value.PropertyValue.{PropertyValue}
use Rattle.aadl_tree.specs.declared.value.PropertyValue.TheVariants as value
use Rattle.aadl_tree.specs.declared.value.RecordField.{RecordField}
use Rattle.aadl_tree.specs.declared.word.Word.{Word}
use Rattle.aadl_tree.specs.declared.word.Word.TheVariants as word
use Rattle.aadl_tree.specs.Canonical.{behind_comma, qualified_tokens, path_tokens, class_tokens, section_tokens}
use Rattle.aadl_tree.specs.Packages.{own_tokens, kind_tokens, feature_tokens, subcomponent_tokens, connection_tokens, annex_tokens, type_tokens, implementation_tokens, declaration_tokens, import_tokens, package_tokens}
use Rattle.aadl_tree.specs.Unplaced.{unplaced_qualified, unplaced_path, unplaced_class, unplaced_value, unplaced_field, unplaced_association, unplaced_own, unplaced_kind, unplaced_feature, unplaced_subcomponent, unplaced_connection, unplaced_annex, unplaced_type, unplaced_implementation, unplaced_declaration, unplaced_import, unplaced_package, SamePackage}
use Rattle.aadl_tree.specs.Values.{separated, value_tokens, field_tokens, applies_tokens, association_tokens}
use Rattle.aadl_tree.proofs.UnplacedValues.{unplaced_value-Quantity, unplaced_value-Range, unplaced_value-Text, unplaced_value-Truth, unplaced_value-Name, unplaced_value-List, unplaced_value-Record, unplaced_value-Classifier, unplaced_value-Reference, unplaced_field-of}
use Rattle.aadl_tree.proofs.ValueInduction.{OfEach, OfField, of_each_value}
use Rattle.aadl_tree.proofs.ValueLemmas.{value_tokens-Name, value_tokens-Classifier, value_tokens-Reference, value_tokens-List, value_tokens-Record, field_tokens-of}

-- members that have the same tokens one by one
module _ {X : Type 0} (tokens : X → List Token) (to : X → X) where
  abbrev IsSame : X → Type 0
  IsSame x = tokens (to x) ≡ tokens x

  each-same : (xs : List X) → OfEach IsSame xs → flat_map tokens (map to xs) ≡ flat_map tokens xs
  each-same [] same = refl
  each-same (x ∷ xs) same = rw (same.0, each-same xs same.1) refl

  commas-same : (xs : List X) → OfEach IsSame xs → flat_map (behind_comma tokens) (map to xs) ≡ flat_map (behind_comma tokens) xs
  commas-same [] same = refl
  commas-same (x ∷ xs) same = rw (same.0, commas-same xs same.1) refl

  separated-same : (xs : List X) → OfEach IsSame xs → separated tokens (map to xs) ≡ separated tokens xs
  separated-same [] same = refl
  separated-same (x ∷ xs) same = rw (same.0, commas-same xs same.1) refl

  module _ (same : (x : X) → IsSame x) where
    of_each : (xs : List X) → OfEach IsSame xs
    of_each [] = tt
    of_each (x ∷ xs) = (same x, of_each xs)

    members : (xs : List X) → flat_map tokens (map to xs) ≡ flat_map tokens xs
    members xs = each-same xs (of_each xs)

    others : (xs : List X) → flat_map (behind_comma tokens) (map to xs) ≡ flat_map (behind_comma tokens) xs
    others xs = commas-same xs (of_each xs)

    section : (w : Word) (xs : List X) → section_tokens w tokens (map to xs) ≡ section_tokens w tokens xs
    section w [] = refl
    section w (x ∷ xs) = ap (λ (ts : List Token). token.Word w ∷ ts) (members (x ∷ xs))

qualified-same : (q : QualifiedName) → qualified_tokens (unplaced_qualified q) ≡ qualified_tokens q
unfolding qualified_tokens
qualified-same q = refl

path-same : (p : Path) → path_tokens (unplaced_path p) ≡ path_tokens p
unfolding path_tokens
path-same p = refl

class-same : (c : Class) → class_tokens (unplaced_class c) ≡ class_tokens c
class-same (Base at base) = refl
class-same (Model m) = refl

abbrev ValueIsSame : PropertyValue → Type 0
ValueIsSame v = value_tokens (unplaced_value v) ≡ value_tokens v

fields-same : (fs : List RecordField) → OfEach (OfField ValueIsSame) fs → OfEach (λ f. field_tokens (unplaced_field f) ≡ field_tokens f) fs
fields-same [] same = tt
fields-same (f ∷ fs) same = (
  ap field_tokens (unplaced_field-of f) ∙ field_tokens-of (record { name = f.name; value = unplaced_value f.value }) ∙
      ap (λ (ts : List Token). token.Name f.name ∷ token.Mark mark.Association ∷ ts ++ token.Mark mark.Semicolon ∷ []) same.0 ∙
      sym (field_tokens-of f),
  fields-same fs same.1,
)

list-same : (vs : List PropertyValue) → OfEach ValueIsSame vs → ValueIsSame (value.List vs)
list-same vs same =
    ap value_tokens (unplaced_value-List vs) ∙ value_tokens-List (map unplaced_value vs) ∙
    ap (λ (ts : List Token). token.Mark mark.OpenParenthesis ∷ ts ++ token.Mark mark.CloseParenthesis ∷ []) (separated-same value_tokens unplaced_value vs same) ∙
    sym (value_tokens-List vs)

record-same : (fs : List RecordField) → OfEach (OfField ValueIsSame) fs → ValueIsSame (value.Record fs)
record-same fs same =
    ap value_tokens (unplaced_value-Record fs) ∙ value_tokens-Record (map unplaced_field fs) ∙
    ap (λ (ts : List Token). token.Mark mark.OpenBracket ∷ ts ++ token.Mark mark.CloseBracket ∷ []) (each-same field_tokens unplaced_field fs (fields-same fs same)) ∙
    sym (value_tokens-Record fs)

value-same : (v : PropertyValue) → ValueIsSame v
value-same = of_each_value ValueIsSame (record {
  quantity = λ q. ap value_tokens (unplaced_value-Quantity q);
  range = λ from to. ap value_tokens (unplaced_value-Range from to);
  text = λ t. ap value_tokens (unplaced_value-Text t);
  truth = λ b. ap value_tokens (unplaced_value-Truth b);
  name = λ q. ap value_tokens (unplaced_value-Name q) ∙ value_tokens-Name (unplaced_qualified q) ∙ qualified-same q ∙ sym (value_tokens-Name q);
  list = list-same;
  fields = record-same;
  classifier = λ c.
      ap value_tokens (unplaced_value-Classifier c) ∙ value_tokens-Classifier (unplaced_class c) ∙
      ap (λ (ts : List Token). token.Word word.Classifier ∷ token.Mark mark.OpenParenthesis ∷ ts ++ token.Mark mark.CloseParenthesis ∷ []) (class-same c) ∙
      sym (value_tokens-Classifier c);
  reference = λ p.
      ap value_tokens (unplaced_value-Reference p) ∙ value_tokens-Reference (unplaced_path p) ∙
      ap (λ (ts : List Token). token.Word word.Reference ∷ token.Mark mark.OpenParenthesis ∷ ts ++ token.Mark mark.CloseParenthesis ∷ []) (path-same p) ∙
      sym (value_tokens-Reference p);
})

applies-same : (ps : List Path) → applies_tokens (map unplaced_path ps) ≡ applies_tokens ps
applies-same [] = refl
applies-same (p ∷ ps) = rw (path-same p, others path_tokens unplaced_path path-same ps) refl

association-same : (a : Association) → association_tokens (unplaced_association a) ≡ association_tokens a
unfolding association_tokens
association-same a =
    rw (qualified-same a.property, value-same a.first, others value_tokens unplaced_value value-same a.others, applies-same a.applies_to) refl

own-same : (o : Option (List Association)) → own_tokens (unplaced_own o) ≡ own_tokens o
own-same None = refl
own-same (Some all) = rw (members association_tokens unplaced_association association-same all) refl

kind-same : (k : PortKind) → kind_tokens (unplaced_kind k) ≡ kind_tokens k
kind-same (kind.Data class) = rw (class-same class) refl
kind-same kind.Event = refl
kind-same (kind.EventData class) = rw (class-same class) refl

feature-same : (f : Feature) → feature_tokens (unplaced_feature f) ≡ feature_tokens f
unfolding feature_tokens
feature-same f = rw (kind-same f.kind, own-same f.own) refl

subcomponent-same : (s : Subcomponent) → subcomponent_tokens (unplaced_subcomponent s) ≡ subcomponent_tokens s
unfolding subcomponent_tokens
subcomponent-same s = rw (class-same s.class, own-same s.own) refl

connection-same : (c : Connection) → connection_tokens (unplaced_connection c) ≡ connection_tokens c
unfolding connection_tokens
connection-same c = rw (own-same c.own) refl

annex-same : (a : Annex) → annex_tokens (unplaced_annex a) ≡ annex_tokens a
unfolding annex_tokens
annex-same a = refl

type-same : (t : ComponentType) → type_tokens (unplaced_type t) ≡ type_tokens t
unfolding type_tokens
type-same t =
    rw (
      section feature_tokens unplaced_feature feature-same word.Features t.features,
      section association_tokens unplaced_association association-same word.Properties t.properties,
      members annex_tokens unplaced_annex annex-same t.annexes,
    ) refl

implementation-same : (i : Implementation) → implementation_tokens (unplaced_implementation i) ≡ implementation_tokens i
unfolding implementation_tokens
implementation-same i =
    rw (
      section subcomponent_tokens unplaced_subcomponent subcomponent-same word.Subcomponents i.subcomponents,
      section connection_tokens unplaced_connection connection-same word.Connections i.connections,
      section association_tokens unplaced_association association-same word.Properties i.properties,
      members annex_tokens unplaced_annex annex-same i.annexes,
    ) refl

declaration-same : (d : Declaration) → declaration_tokens (unplaced_declaration d) ≡ declaration_tokens d
unfolding declaration_tokens
declaration-same (declaration.Type t) = type-same t
declaration-same (declaration.Implementation i) = implementation-same i
declaration-same (declaration.Annex a) = annex-same a

import-same : (i : Import) → import_tokens (unplaced_import i) ≡ import_tokens i
unfolding import_tokens
import-same i = rw (qualified-same i.first, others qualified_tokens unplaced_qualified qualified-same i.others) refl

package-same : (p : Package) → package_tokens (unplaced_package p) ≡ package_tokens p
unfolding package_tokens
package-same p =
    rw (
      qualified-same p.name,
      members import_tokens unplaced_import import-same p.imports,
      members declaration_tokens unplaced_declaration declaration-same p.declarations,
      qualified-same p.end_name,
    ) refl

-- packages that are the same but for places have the same tokens
pub same-tokens : (p q : Package) → SamePackage p q → package_tokens p ≡ package_tokens q
same-tokens p q same = sym (package-same p) ∙ ap package_tokens same ∙ package-same q
