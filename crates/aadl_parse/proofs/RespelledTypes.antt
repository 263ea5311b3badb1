-- The canonical tokens of component types spell them; and what their parts and those of implementations are without their places.
use Rattle.std.proofs.Common.{◌≡◌, List, [], ◌∷◌, ◌++◌, map, codes, Option, refl, ap, ◌∙◌}
use Rattle.std.specs.Prelude.{⊤}
use Rattle.std.specs.List.{flat_map}
use Rattle.std.specs.Option.{option_map}
use Rattle.hw_text.specs.declared.placed.Placed.{Placed}
use Rattle.hw_text.specs.Language.{One, ◌⋅◌, Maybe, Each}
use Rattle.aadl_tree.specs.declared.annex.Annex.{Annex}
use Rattle.aadl_tree.specs.declared.association.Association.{Association}
use Rattle.aadl_tree.specs.declared.category.Category.{Category}
use Rattle.aadl_tree.specs.declared.component.ComponentType.{ComponentType}
use Rattle.aadl_tree.specs.declared.component.Implementation.{Implementation}
use Rattle.aadl_tree.specs.declared.connection.Connection.{Connection}
use Rattle.aadl_tree.specs.declared.feature.Feature.{Feature}
use Rattle.aadl_tree.specs.declared.mark.Mark.TheVariants as mark
use Rattle.aadl_tree.specs.declared.names.ImplementationName.{ImplementationName}
use Rattle.aadl_tree.specs.declared.subcomponent.Subcomponent.{Subcomponent}
use Rattle.aadl_tree.specs.declared.token.Token.{Token}
use Rattle.aadl_tree.specs.declared.token.Token.TheVariants as token
use Rattle.aadl_tree.specs.declared.word.Word.TheVariants as word
use Rattle.aadl_tree.specs.Canonical.{behind_dot, implementation_name_tokens, section_tokens}
use Rattle.aadl_tree.specs.Packages.{feature_tokens, subcomponent_tokens, connection_tokens, annex_tokens}
use Rattle.aadl_tree.specs.Unplaced.{unplaced_named, unplaced_implementation_name, unplaced_association, unplaced_feature, unplaced_subcomponent, unplaced_connection, unplaced_annex, unplaced_type, unplaced_implementation}
use Rattle.aadl_tree.specs.Values.{association_tokens}
use Rattle.aadl_parse.specs.Builds.{or_none, implementation_name_of, TypeParts, type_of, ImplementationParts, implementation_of}
use Rattle.aadl_parse.specs.Grammar.{SpellsAssociation, SpellsFeature, SpellsSubcomponent, SpellsConnection, SpellsFeatures, SpellsSubcomponents, SpellsConnections, SpellsProperties, SpellsAnnex, SpellsImplementationName, SpellsTypeBody}
use Rattle.aadl_parse.specs.SimpleValue.{Symbol}
use Rattle.aadl_parse.specs.Terminals.{named_of}
use Rattle.aadl_parse.proofs.Respelled.{Spelled, then, made, symbol, each}
use Rattle.aadl_parse.proofs.RespelledComponents.{feature, subcomponent, connection, annex, section}
use Rattle.aadl_parse.proofs.RespelledMembers.{semicolon, or_none-map, association}
use Rattle.aadl_parse.proofs.RespelledNames.{named, BehindDot, dot}

-- one after the other, each without its places
abbrev pub both_bare : {X Y : Type 0} → (X → X) → (Y → Y) → X × Y → X × Y
both_bare f g p = (f p.0, g p.1)

the_end : Spelled (Symbol (codes "end")) (λ u. u) tt (token.Word word.End ∷ [])
the_end = symbol (codes "end") (token.Word word.End) (λ at. refl)

-- "end", a name, and ";"
pub ended : {X : Type 0} (A : X → List (Placed Token) → Type 0) (f : X → X) (x : X) (us : List Token) → Spelled A f x us → Spelled (Symbol (codes "end") ⋅ (A ⋅ Symbol (codes ";"))) (both_bare (λ u. u) (both_bare f (λ u. u))) (tt, (x, tt)) (token.Word word.End ∷ (us ++ token.Mark mark.Semicolon ∷ []))
ended A f x us text =
    then (Symbol (codes "end")) (A ⋅ Symbol (codes ";")) (λ u. u) (both_bare f (λ u. u)) tt (x, tt) (token.Word word.End ∷ []) (us ++ token.Mark mark.Semicolon ∷ []) the_end
    (then A (Symbol (codes ";")) f (λ u. u) x tt us (token.Mark mark.Semicolon ∷ []) text semicolon)

pub implementation_name : (n : ImplementationName) → Spelled SpellsImplementationName unplaced_implementation_name (unplaced_implementation_name n) (implementation_name_tokens n)
implementation_name n =
    made implementation_name_of (One named_of ⋅ BehindDot) (both_bare unplaced_named (λ m. m)) unplaced_implementation_name (unplaced_named n.component_type, n.name) (implementation_name_tokens n) (λ p. refl)
    (then (One named_of) BehindDot unplaced_named (λ m. m) (unplaced_named n.component_type) n.name (token.Name n.component_type.name ∷ []) (behind_dot n.name) (named n.component_type) (dot n.name))

pub features : (fs : List Feature) → (o : Option (List Feature)) × Spelled (Maybe SpellsFeatures) (option_map (map unplaced_feature)) o (section_tokens word.Features feature_tokens fs) × (or_none o ≡ map unplaced_feature fs)
features = section (codes "features") word.Features (λ at. refl) SpellsFeature unplaced_feature feature_tokens feature

pub properties : (ps : List Association) → (o : Option (List Association)) × Spelled (Maybe SpellsProperties) (option_map (map unplaced_association)) o (section_tokens word.Properties association_tokens ps) × (or_none o ≡ map unplaced_association ps)
properties = section (codes "properties") word.Properties (λ at. refl) SpellsAssociation unplaced_association association_tokens association

pub subcomponents : (ss : List Subcomponent) → (o : Option (List Subcomponent)) × Spelled (Maybe SpellsSubcomponents) (option_map (map unplaced_subcomponent)) o (section_tokens word.Subcomponents subcomponent_tokens ss) × (or_none o ≡ map unplaced_subcomponent ss)
subcomponents = section (codes "subcomponents") word.Subcomponents (λ at. refl) SpellsSubcomponent unplaced_subcomponent subcomponent_tokens subcomponent

pub connections : (cs : List Connection) → (o : Option (List Connection)) × Spelled (Maybe SpellsConnections) (option_map (map unplaced_connection)) o (section_tokens word.Connections connection_tokens cs) × (or_none o ≡ map unplaced_connection cs)
connections = section (codes "connections") word.Connections (λ at. refl) SpellsConnection unplaced_connection connection_tokens connection

-- the parts of a component type, and those of an implementation, without their places
abbrev pub bare_type : TypeParts → TypeParts
bare_type =
    both_bare unplaced_named (both_bare (option_map (map unplaced_feature)) (both_bare (option_map (map unplaced_association)) (both_bare (map unplaced_annex) (both_bare (λ u. u) (both_bare unplaced_named (λ u. u))))))

abbrev pub bare_ending : List Annex × (⊤ × (ImplementationName × ⊤)) → List Annex × (⊤ × (ImplementationName × ⊤))
bare_ending = both_bare (map unplaced_annex) (both_bare (λ u. u) (both_bare unplaced_implementation_name (λ u. u)))

abbrev pub bare_implementation : ImplementationParts → ImplementationParts
bare_implementation =
    both_bare (λ u. u) (both_bare unplaced_implementation_name (both_bare (option_map (map unplaced_subcomponent)) (both_bare (option_map (map unplaced_connection)) (both_bare (option_map (map unplaced_association)) bare_ending))))

pub type-bare : (c : Category) (p : TypeParts) → unplaced_type (type_of c p) ≡ type_of c (bare_type p)
type-bare c p =
    ap (λ (fs : List Feature). record { category = c; name = unplaced_named p.0; features = fs; properties = map unplaced_association (or_none p.1.1.0); annexes = map unplaced_annex p.1.1.1.0; end_name = unplaced_named p.1.1.1.1.1.0 })
    (or_none-map unplaced_feature p.1.0) ∙
    ap (λ (ps : List Association). record { category = c; name = unplaced_named p.0; features = or_none (option_map (map unplaced_feature) p.1.0); properties = ps; annexes = map unplaced_annex p.1.1.1.0; end_name = unplaced_named p.1.1.1.1.1.0 })
    (or_none-map unplaced_association p.1.1.0)

abbrev an_implementation : Category → ImplementationParts → List Subcomponent → List Connection → List Association → Implementation
an_implementation c p ss cs ps = record {
  category = c;
  name = unplaced_implementation_name p.1.0;
  subcomponents = ss;
  connections = cs;
  properties = ps;
  annexes = map unplaced_annex p.1.1.1.1.1.0;
  end_name = unplaced_implementation_name p.1.1.1.1.1.1.1.0;
}

pub implementation-bare : (c : Category) (p : ImplementationParts) → unplaced_implementation (implementation_of c p) ≡ implementation_of c (bare_implementation p)
implementation-bare c p =
    let ss : Option (List Subcomponent) = p.1.1.0 in
    let cs : Option (List Connection) = p.1.1.1.0 in
    let ps : Option (List Association) = p.1.1.1.1.0 in
    ap (λ (l : List Subcomponent). an_implementation c p l (map unplaced_connection (or_none cs)) (map unplaced_association (or_none ps))) (or_none-map unplaced_subcomponent ss) ∙
    ap (λ (l : List Connection). an_implementation c p (or_none (option_map (map unplaced_subcomponent) ss)) l (map unplaced_association (or_none ps))) (or_none-map unplaced_connection cs) ∙
    ap (λ (l : List Association). an_implementation c p (or_none (option_map (map unplaced_subcomponent) ss)) (or_none (option_map (map unplaced_connection) cs)) l) (or_none-map unplaced_association ps)

-- what stands behind the category of a component type
abbrev pub type_body : ComponentType → List Token
type_body t =
    token.Name t.name.name ∷
    (section_tokens word.Features feature_tokens t.features ++ (section_tokens word.Properties association_tokens t.properties ++ (flat_map annex_tokens t.annexes ++ token.Word word.End ∷ token.Name t.end_name.name ∷ token.Mark mark.Semicolon ∷ [])))

pub a_type : (t : ComponentType) (fs : Option (List Feature)) (ps : Option (List Association)) → Spelled (Maybe SpellsFeatures) (option_map (map unplaced_feature)) fs (section_tokens word.Features feature_tokens t.features) → Spelled (Maybe SpellsProperties) (option_map (map unplaced_association)) ps (section_tokens word.Properties association_tokens t.properties) → Spelled SpellsTypeBody bare_type (unplaced_named t.name, (fs, (ps, (map unplaced_annex t.annexes, (tt, (unplaced_named t.end_name, tt)))))) (type_body t)
a_type t fs ps has_features has_properties =
    let end : List Token = token.Word word.End ∷ token.Name t.end_name.name ∷ token.Mark mark.Semicolon ∷ [] in
    let annexes : List Token = flat_map annex_tokens t.annexes in
    let p_tokens : List Token = section_tokens word.Properties association_tokens t.properties in
    let f_tokens : List Token = section_tokens word.Features feature_tokens t.features in
    then (One named_of) (Maybe SpellsFeatures ⋅ (Maybe SpellsProperties ⋅ (Each SpellsAnnex ⋅ (Symbol (codes "end") ⋅ (One named_of ⋅ Symbol (codes ";")))))) unplaced_named
    (both_bare (option_map (map unplaced_feature)) (both_bare (option_map (map unplaced_association)) (both_bare (map unplaced_annex) (both_bare (λ u. u) (both_bare unplaced_named (λ u. u))))))
    (unplaced_named t.name) (fs, (ps, (map unplaced_annex t.annexes, (tt, (unplaced_named t.end_name, tt))))) (token.Name t.name.name ∷ []) (f_tokens ++ (p_tokens ++ (annexes ++ end))) (named t.name)
    (then (Maybe SpellsFeatures) (Maybe SpellsProperties ⋅ (Each SpellsAnnex ⋅ (Symbol (codes "end") ⋅ (One named_of ⋅ Symbol (codes ";"))))) (option_map (map unplaced_feature))
    (both_bare (option_map (map unplaced_association)) (both_bare (map unplaced_annex) (both_bare (λ u. u) (both_bare unplaced_named (λ u. u))))) fs (ps, (map unplaced_annex t.annexes, (tt, (unplaced_named t.end_name, tt))))
    f_tokens (p_tokens ++ (annexes ++ end)) has_features
    (then (Maybe SpellsProperties) (Each SpellsAnnex ⋅ (Symbol (codes "end") ⋅ (One named_of ⋅ Symbol (codes ";")))) (option_map (map unplaced_association)) (both_bare (map unplaced_annex) (both_bare (λ u. u) (both_bare unplaced_named (λ u. u))))
    ps (map unplaced_annex t.annexes, (tt, (unplaced_named t.end_name, tt))) p_tokens (annexes ++ end) has_properties
    (then (Each SpellsAnnex) (Symbol (codes "end") ⋅ (One named_of ⋅ Symbol (codes ";"))) (map unplaced_annex) (both_bare (λ u. u) (both_bare unplaced_named (λ u. u))) (map unplaced_annex t.annexes) (tt, (unplaced_named t.end_name, tt)) annexes end
    (each SpellsAnnex unplaced_annex annex_tokens annex t.annexes) (ended (One named_of) unplaced_named (unplaced_named t.end_name) (token.Name t.end_name.name ∷ []) (named t.end_name)))))
