-- The marks in packages stand between names.
use Rattle.std.proofs.Common.{ℕ, List, [], ◌∷◌, ◌++◌, Option, Some, None, refl}
use Rattle.std.specs.List.{flat_map}
use Rattle.aadl_tree.specs.declared.annex.Annex.{Annex}
use Rattle.aadl_tree.specs.declared.association.Association.{Association}
use Rattle.aadl_tree.specs.declared.component.ComponentType.{ComponentType}
use Rattle.aadl_tree.specs.declared.component.Implementation.{Implementation}
use Rattle.aadl_tree.specs.declared.connection.Connection.{Connection}
use Rattle.aadl_tree.specs.declared.connection.ConnectionEnd.{ConnectionEnd}
use Rattle.aadl_tree.specs.declared.feature.Feature.{Feature}
use Rattle.aadl_tree.specs.declared.feature.PortKind.{PortKind}
use Rattle.aadl_tree.specs.declared.feature.PortKind.TheVariants.{Data, Event, EventData}
use Rattle.aadl_tree.specs.declared.mark.Mark.TheVariants as mark
use Rattle.aadl_tree.specs.declared.package.Declaration.{Declaration}
use Rattle.aadl_tree.specs.declared.package.Declaration.TheVariants as declaration
use Rattle.aadl_tree.specs.declared.package.Import.{Import}
use Rattle.aadl_tree.specs.declared.package.Package.{Package}
use Rattle.aadl_tree.specs.declared.subcomponent.Subcomponent.{Subcomponent}
use Rattle.aadl_tree.specs.declared.token.Token.{Token}
use Rattle.aadl_tree.specs.declared.token.Token.TheVariants as token
use Rattle.aadl_tree.specs.declared.word.Word.{Word}
use Rattle.aadl_tree.specs.declared.word.Word.TheVariants as word
use Rattle.aadl_tree.specs.Canonical.{category_word, behind_comma, qualified_tokens, implementation_name_tokens, class_tokens, section_tokens}
use Rattle.aadl_tree.specs.Packages.{own_tokens, direction_word, kind_tokens, feature_tokens, subcomponent_tokens, end_tokens, connection_tokens, annex_token, annex_tokens, type_tokens, implementation_tokens, declaration_tokens, import_tokens, package_tokens}
use Rattle.aadl_tree.specs.Values.{association_tokens}
use Rattle.aadl_tree.proofs.Apart.{AreApart, apart-then, loose-then, all-apart}
use Rattle.aadl_tree.proofs.ApartNames.{behind-dot, qualified-apart, implementation_name-apart, class-apart, further-apart}
use Rattle.aadl_tree.proofs.ApartValues.{between, association-apart}

section-apart : {X : Type 0} (w : Word) (tokens : X → List Token) → ((x : X) → AreApart (tokens x)) → (xs : List X) → AreApart (section_tokens w tokens xs)
section-apart w tokens each [] = tt
section-apart w tokens each (x ∷ xs) = loose-then (token.Word w) (flat_map tokens (x ∷ xs)) refl (all-apart tokens each (x ∷ xs))

semicolon : AreApart (token.Mark mark.Semicolon ∷ [])
semicolon = (refl, refl)

-- what ends in a semicolon
closed : (ts : List Token) → AreApart ts → AreApart (ts ++ token.Mark mark.Semicolon ∷ [])
closed ts apart = apart-then ts (token.Mark mark.Semicolon ∷ []) apart semicolon

own-apart : (o : Option (List Association)) → AreApart (own_tokens o)
own-apart None = tt
own-apart (Some all) = between (token.Mark mark.OpenBrace) (token.Mark mark.CloseBrace) (flat_map association_tokens all) refl refl (all-apart association_tokens association-apart all)

-- a name, a colon and a word, before others
headed : (n : List ℕ) (w : Word) (us : List Token) → AreApart us → AreApart (token.Name n ∷ token.Mark mark.Colon ∷ token.Word w ∷ us)
headed n w us apart =
    loose-then (token.Name n) (token.Mark mark.Colon ∷ token.Word w ∷ us) refl
    (loose-then (token.Mark mark.Colon) (token.Word w ∷ us) refl (loose-then (token.Word w) us refl apart))

kind-apart : (k : PortKind) → AreApart (kind_tokens k)
kind-apart (Data class) =
    loose-then (token.Word word.Data) (token.Word word.Port ∷ class_tokens class) refl (loose-then (token.Word word.Port) (class_tokens class) refl (class-apart class))
kind-apart Event = (refl, (refl, refl))
kind-apart (EventData class) =
    loose-then (token.Word word.Event) (token.Word word.Data ∷ token.Word word.Port ∷ class_tokens class) refl
    (loose-then (token.Word word.Data) (token.Word word.Port ∷ class_tokens class) refl (loose-then (token.Word word.Port) (class_tokens class) refl (class-apart class)))

feature-apart : (f : Feature) → AreApart (feature_tokens f)
unfolding feature_tokens
feature-apart f =
    headed f.name.name (direction_word f.direction) (kind_tokens f.kind ++ own_tokens f.own ++ token.Mark mark.Semicolon ∷ [])
    (closed (kind_tokens f.kind ++ own_tokens f.own) (apart-then (kind_tokens f.kind) (own_tokens f.own) (kind-apart f.kind) (own-apart f.own)))

subcomponent-apart : (s : Subcomponent) → AreApart (subcomponent_tokens s)
unfolding subcomponent_tokens
subcomponent-apart s =
    headed s.name.name (category_word s.category) (class_tokens s.class ++ own_tokens s.own ++ token.Mark mark.Semicolon ∷ [])
    (closed (class_tokens s.class ++ own_tokens s.own) (apart-then (class_tokens s.class) (own_tokens s.own) (class-apart s.class) (own-apart s.own)))

end-apart : (e : ConnectionEnd) → AreApart (end_tokens e)
end-apart e = (refl, behind-dot e.first.name e.port)

connection-apart : (c : Connection) → AreApart (connection_tokens c)
unfolding connection_tokens
connection-apart c =
    let to : List Token = token.Mark mark.Arrow ∷ end_tokens c.to in
    headed c.name.name word.Port (end_tokens c.from ++ to ++ own_tokens c.own ++ token.Mark mark.Semicolon ∷ [])
    (closed (end_tokens c.from ++ to ++ own_tokens c.own)
    (apart-then (end_tokens c.from ++ to) (own_tokens c.own)
    (apart-then (end_tokens c.from) to (end-apart c.from) (loose-then (token.Mark mark.Arrow) (end_tokens c.to) refl (end-apart c.to))) (own-apart c.own)))

annex-apart : (a : Annex) → AreApart (annex_tokens a)
unfolding annex_tokens
annex-apart a = of a.text
  where
    of : (o : Option (List ℕ)) → AreApart (token.Word word.Annex ∷ token.Name a.name.name ∷ annex_token o ∷ token.Mark mark.Semicolon ∷ [])
    of None = (refl, (refl, (refl, (refl, refl))))
    of (Some text) = (refl, (refl, (refl, (refl, refl))))

type-apart : (t : ComponentType) → AreApart (type_tokens t)
unfolding type_tokens
type-apart t =
    let features : List Token = section_tokens word.Features feature_tokens t.features in
    let properties : List Token = section_tokens word.Properties association_tokens t.properties in
    let annexes : List Token = flat_map annex_tokens t.annexes in
    let end : List Token = token.Word word.End ∷ token.Name t.end_name.name ∷ token.Mark mark.Semicolon ∷ [] in
    loose-then (token.Word (category_word t.category)) (token.Name t.name.name ∷ features ++ properties ++ annexes ++ end) refl
    (loose-then (token.Name t.name.name) (features ++ properties ++ annexes ++ end) refl
    (apart-then (features ++ properties ++ annexes) end
    (apart-then (features ++ properties) annexes
    (apart-then features properties (section-apart word.Features feature_tokens feature-apart t.features)
    (section-apart word.Properties association_tokens association-apart t.properties)) (all-apart annex_tokens annex-apart t.annexes))
    (refl, (refl, (refl, refl)))))

implementation-apart : (i : Implementation) → AreApart (implementation_tokens i)
unfolding implementation_tokens
implementation-apart i =
    let subcomponents : List Token = section_tokens word.Subcomponents subcomponent_tokens i.subcomponents in
    let connections : List Token = section_tokens word.Connections connection_tokens i.connections in
    let properties : List Token = section_tokens word.Properties association_tokens i.properties in
    let annexes : List Token = flat_map annex_tokens i.annexes in
    let name : List Token = implementation_name_tokens i.name in
    let head : List Token = token.Word (category_word i.category) ∷ token.Word word.Implementation ∷ name in
    let end : List Token = token.Word word.End ∷ implementation_name_tokens i.end_name in
    closed (head ++ subcomponents ++ connections ++ properties ++ annexes ++ end)
    (apart-then (head ++ subcomponents ++ connections ++ properties ++ annexes) end
    (apart-then (head ++ subcomponents ++ connections ++ properties) annexes
    (apart-then (head ++ subcomponents ++ connections) properties
    (apart-then (head ++ subcomponents) connections
    (apart-then head subcomponents
    (loose-then (token.Word (category_word i.category)) (token.Word word.Implementation ∷ name) refl
    (loose-then (token.Word word.Implementation) name refl (implementation_name-apart i.name)))
    (section-apart word.Subcomponents subcomponent_tokens subcomponent-apart i.subcomponents))
    (section-apart word.Connections connection_tokens connection-apart i.connections))
    (section-apart word.Properties association_tokens association-apart i.properties))
    (all-apart annex_tokens annex-apart i.annexes))
    (loose-then (token.Word word.End) (implementation_name_tokens i.end_name) refl (implementation_name-apart i.end_name)))

declaration-apart : (d : Declaration) → AreApart (declaration_tokens d)
unfolding declaration_tokens
declaration-apart (declaration.Type t) = type-apart t
declaration-apart (declaration.Implementation i) = implementation-apart i
declaration-apart (declaration.Annex a) = annex-apart a

import-apart : (i : Import) → AreApart (import_tokens i)
unfolding import_tokens
import-apart i =
    let first : List Token = token.Word word.With ∷ qualified_tokens i.first in
    let others : List Token = flat_map (behind_comma qualified_tokens) i.others in
    closed (first ++ others)
    (apart-then first others (loose-then (token.Word word.With) (qualified_tokens i.first) refl (qualified-apart i.first)) (further-apart qualified_tokens qualified-apart i.others))

pub package-apart : (p : Package) → AreApart (package_tokens p)
unfolding package_tokens
package-apart p =
    let name : List Token = token.Word word.Package ∷ qualified_tokens p.name in
    let imports : List Token = flat_map import_tokens p.imports in
    let declarations : List Token = flat_map declaration_tokens p.declarations in
    let end : List Token = token.Word word.End ∷ qualified_tokens p.end_name in
    closed (name ++ token.Word word.Public ∷ imports ++ declarations ++ end)
    (apart-then (name ++ token.Word word.Public ∷ imports ++ declarations) end
    (apart-then (name ++ token.Word word.Public ∷ imports) declarations
    (apart-then name (token.Word word.Public ∷ imports)
    (loose-then (token.Word word.Package) (qualified_tokens p.name) refl (qualified-apart p.name))
    (loose-then (token.Word word.Public) imports refl (all-apart import_tokens import-apart p.imports)))
    (all-apart declaration_tokens declaration-apart p.declarations))
    (loose-then (token.Word word.End) (qualified_tokens p.end_name) refl (qualified-apart p.end_name)))
