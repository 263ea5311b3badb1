-- The canonical tokens of implementations and declarations spell them.
use Rattle.std.proofs.Common.{◌≡◌, List, [], ◌∷◌, ◌++◌, map, codes, Option, refl, ap, ◌∙◌, append_assoc}
use Rattle.std.specs.Prelude.{⊤}
use Rattle.std.specs.List.{flat_map}
use Rattle.std.specs.Option.{option_map}
use Rattle.hw_text.specs.declared.placed.Placed.{Placed}
use Rattle.hw_text.specs.Language.{One, ◌⋅◌, Maybe, Each}
use Rattle.aadl_tree.specs.declared.annex.Annex.{Annex}
use Rattle.aadl_tree.specs.declared.association.Association.{Association}
use Rattle.aadl_tree.specs.declared.category.Category.{Category}
use Rattle.aadl_tree.specs.declared.component.ComponentType.{ComponentType}
use Rattle.aadl_tree.specs.declared.component.Implementation.{Implementation}
use Rattle.aadl_tree.specs.declared.connection.Connection.{Connection}
use Rattle.aadl_tree.specs.declared.feature.Feature.{Feature}
use Rattle.aadl_tree.specs.declared.mark.Mark.TheVariants as mark
use Rattle.aadl_tree.specs.declared.names.ImplementationName.{ImplementationName}
use Rattle.aadl_tree.specs.declared.package.Declaration.{Declaration}
use Rattle.aadl_tree.specs.declared.package.Declaration.TheVariants as declaration
use Rattle.aadl_tree.specs.declared.subcomponent.Subcomponent.{Subcomponent}
use Rattle.aadl_tree.specs.declared.token.Token.{Token}
use Rattle.aadl_tree.specs.declared.token.Token.TheVariants as token
use Rattle.aadl_tree.specs.declared.word.Word.TheVariants as word
use Rattle.aadl_tree.specs.Canonical.{category_word, implementation_name_tokens, section_tokens}
use Rattle.aadl_tree.specs.Packages.{feature_tokens, subcomponent_tokens, connection_tokens, annex_tokens, type_tokens, implementation_tokens, declaration_tokens}
use Rattle.aadl_tree.specs.Unplaced.{unplaced_named, unplaced_implementation_name, unplaced_association, unplaced_feature, unplaced_subcomponent, unplaced_connection, unplaced_annex, unplaced_type, unplaced_implementation, unplaced_declaration}
use Rattle.aadl_tree.specs.Values.{association_tokens}
use Rattle.aadl_parse.specs.Choice.{Choice, First, Second}
use Rattle.aadl_parse.specs.Builds.{or_none, TypeParts, ImplementationParts, ComponentParts, declaration_of}
use Rattle.aadl_parse.specs.Grammar.{SpellsSubcomponents, SpellsConnections, SpellsProperties, SpellsAnnex, SpellsImplementationName, SpellsTypeBody, SpellsImplementationBody, SpellsComponent, SpellsDeclaration}
use Rattle.aadl_parse.specs.SimpleValue.{Symbol, Either}
use Rattle.aadl_parse.specs.Terminals.{category_of}
use Rattle.aadl_parse.proofs.Respelled.{Spelled, spelled-by, then, made, symbol, each, either_bare, first, second}
use Rattle.aadl_parse.proofs.RespelledComponents.{annex, regroup}
use Rattle.aadl_parse.proofs.RespelledKinds.{a_category}
use Rattle.aadl_parse.proofs.RespelledTypes.{both_bare, ended, implementation_name, features, properties, subcomponents, connections, bare_type, bare_ending, bare_implementation, type-bare, implementation-bare, type_body, a_type}

-- what stands behind the category of an implementation
abbrev implementation_body : Implementation → List Token
implementation_body i =
    token.Word word.Implementation ∷
    (implementation_name_tokens i.name ++ (section_tokens word.Subcomponents subcomponent_tokens i.subcomponents ++ (section_tokens word.Connections connection_tokens i.connections ++
    (section_tokens word.Properties association_tokens i.properties ++ (flat_map annex_tokens i.annexes ++ token.Word word.End ∷ (implementation_name_tokens i.end_name ++ token.Mark mark.Semicolon ∷ []))))))

implementation_end : (i : Implementation) → Spelled (Each SpellsAnnex ⋅ (Symbol (codes "end") ⋅ (SpellsImplementationName ⋅ Symbol (codes ";")))) bare_ending (map unplaced_annex i.annexes, (tt, (unplaced_implementation_name i.end_name, tt))) (flat_map annex_tokens i.annexes ++ token.Word word.End ∷ (implementation_name_tokens i.end_name ++ token.Mark mark.Semicolon ∷ []))
implementation_end i =
    then (Each SpellsAnnex) (Symbol (codes "end") ⋅ (SpellsImplementationName ⋅ Symbol (codes ";"))) (map unplaced_annex) (both_bare (λ u. u) (both_bare unplaced_implementation_name (λ u. u))) (map unplaced_annex i.annexes)
    (tt, (unplaced_implementation_name i.end_name, tt)) (flat_map annex_tokens i.annexes) (token.Word word.End ∷ (implementation_name_tokens i.end_name ++ token.Mark mark.Semicolon ∷ [])) (each SpellsAnnex unplaced_annex annex_tokens annex i.annexes)
    (ended SpellsImplementationName unplaced_implementation_name (unplaced_implementation_name i.end_name) (implementation_name_tokens i.end_name) (implementation_name i.end_name))

an_implementation : (i : Implementation) (ss : Option (List Subcomponent)) (cs : Option (List Connection)) (ps : Option (List Association)) → Spelled (Maybe SpellsSubcomponents) (option_map (map unplaced_subcomponent)) ss (section_tokens word.Subcomponents subcomponent_tokens i.subcomponents) → Spelled (Maybe SpellsConnections) (option_map (map unplaced_connection)) cs (section_tokens word.Connections connection_tokens i.connections) → Spelled (Maybe SpellsProperties) (option_map (map unplaced_association)) ps (section_tokens word.Properties association_tokens i.properties) → Spelled SpellsImplementationBody bare_implementation (tt, (unplaced_implementation_name i.name, (ss, (cs, (ps, (map unplaced_annex i.annexes, (tt, (unplaced_implementation_name i.end_name, tt)))))))) (implementation_body i)
an_implementation i ss cs ps has_subcomponents has_connections has_properties =
    let name : List Token = implementation_name_tokens i.name in
    let s_tokens : List Token = section_tokens word.Subcomponents subcomponent_tokens i.subcomponents in
    let c_tokens : List Token = section_tokens word.Connections connection_tokens i.connections in
    let p_tokens : List Token = section_tokens word.Properties association_tokens i.properties in
    let end : List Token = flat_map annex_tokens i.annexes ++ token.Word word.End ∷ (implementation_name_tokens i.end_name ++ token.Mark mark.Semicolon ∷ []) in
    let Ending : List Annex × (⊤ × (ImplementationName × ⊤)) → List (Placed Token) → Type 0 = Each SpellsAnnex ⋅ (Symbol (codes "end") ⋅ (SpellsImplementationName ⋅ Symbol (codes ";"))) in
    let ending : List Annex × (⊤ × (ImplementationName × ⊤)) = (map unplaced_annex i.annexes, (tt, (unplaced_implementation_name i.end_name, tt))) in
    then (Symbol (codes "implementation")) (SpellsImplementationName ⋅ (Maybe SpellsSubcomponents ⋅ (Maybe SpellsConnections ⋅ (Maybe SpellsProperties ⋅ Ending)))) (λ u. u)
    (both_bare unplaced_implementation_name (both_bare (option_map (map unplaced_subcomponent)) (both_bare (option_map (map unplaced_connection)) (both_bare (option_map (map unplaced_association)) bare_ending))))
    tt (unplaced_implementation_name i.name, (ss, (cs, (ps, ending)))) (token.Word word.Implementation ∷ []) (name ++ (s_tokens ++ (c_tokens ++ (p_tokens ++ end)))) (symbol (codes "implementation") (token.Word word.Implementation) (λ at. refl))
    (then SpellsImplementationName (Maybe SpellsSubcomponents ⋅ (Maybe SpellsConnections ⋅ (Maybe SpellsProperties ⋅ Ending))) unplaced_implementation_name
    (both_bare (option_map (map unplaced_subcomponent)) (both_bare (option_map (map unplaced_connection)) (both_bare (option_map (map unplaced_association)) bare_ending))) (unplaced_implementation_name i.name) (ss, (cs, (ps, ending))) name
    (s_tokens ++ (c_tokens ++ (p_tokens ++ end))) (implementation_name i.name)
    (then (Maybe SpellsSubcomponents) (Maybe SpellsConnections ⋅ (Maybe SpellsProperties ⋅ Ending)) (option_map (map unplaced_subcomponent)) (both_bare (option_map (map unplaced_connection)) (both_bare (option_map (map unplaced_association)) bare_ending)) ss (cs, (ps, ending))
    s_tokens (c_tokens ++ (p_tokens ++ end)) has_subcomponents
    (then (Maybe SpellsConnections) (Maybe SpellsProperties ⋅ Ending) (option_map (map unplaced_connection)) (both_bare (option_map (map unplaced_association)) bare_ending) cs (ps, ending) c_tokens (p_tokens ++ end) has_connections
    (then (Maybe SpellsProperties) Ending (option_map (map unplaced_association)) bare_ending ps ending p_tokens end has_properties (implementation_end i)))))

abbrev bare_component : ComponentParts → ComponentParts
bare_component = both_bare (λ c. c) (either_bare bare_implementation bare_type)

component-bare : (c : Category) (p : Choice ImplementationParts TypeParts) → unplaced_declaration (declaration_of (Second (c, p))) ≡ declaration_of (Second (bare_component (c, p)))
component-bare c (First p) = ap (λ (i : Implementation). declaration.Implementation i) (implementation-bare c p)
component-bare c (Second p) = ap (λ (t : ComponentType). declaration.Type t) (type-bare c p)

declaration-bare : (d : Choice Annex ComponentParts) → unplaced_declaration (declaration_of d) ≡ declaration_of (either_bare unplaced_annex bare_component d)
declaration-bare (First a) = refl
declaration-bare (Second p) = component-bare p.0 p.1

-- a category and what stands behind it
component : (c : Category) (p : Choice ImplementationParts TypeParts) (us : List Token) → Spelled (Either SpellsImplementationBody SpellsTypeBody) (either_bare bare_implementation bare_type) p us → Spelled SpellsDeclaration unplaced_declaration (declaration_of (Second (c, p))) (token.Word (category_word c) ∷ us)
component c p us text =
    made declaration_of (Either SpellsAnnex SpellsComponent) (either_bare unplaced_annex bare_component) unplaced_declaration (Second (c, p)) (token.Word (category_word c) ∷ us) declaration-bare
    (second SpellsAnnex SpellsComponent unplaced_annex bare_component (c, p) (token.Word (category_word c) ∷ us)
    (then (One category_of) (Either SpellsImplementationBody SpellsTypeBody) (λ x. x) (either_bare bare_implementation bare_type) c p (token.Word (category_word c) ∷ []) us (a_category c) text))

regroup-all : (a b c d e f g : List Token) → a ++ (b ++ (c ++ (d ++ (e ++ (f ++ g))))) ≡ a ++ b ++ c ++ d ++ e ++ f ++ g
regroup-all a b c d e f g = rw (append_assoc, append_assoc, append_assoc, append_assoc, append_assoc) refl

pub declared : (d : Declaration) → Spelled SpellsDeclaration unplaced_declaration (unplaced_declaration d) (declaration_tokens d)
unfolding declaration_tokens type_tokens implementation_tokens
declared (declaration.Type t) =
    let fs = features t.features in
    let ps = properties t.properties in
    let rest : TypeParts = (unplaced_named t.name, (fs.0, (ps.0, (map unplaced_annex t.annexes, (tt, (unplaced_named t.end_name, tt)))))) in
    spelled-by SpellsDeclaration unplaced_declaration (declaration_of (Second (t.category, Second rest))) (declaration.Type (unplaced_type t)) (token.Word (category_word t.category) ∷ type_body t) (type_tokens t)
    (ap (λ (l : List Token). token.Word (category_word t.category) ∷ token.Name t.name.name ∷ l)
    (regroup (section_tokens word.Features feature_tokens t.features) (section_tokens word.Properties association_tokens t.properties) (flat_map annex_tokens t.annexes) (token.Word word.End ∷ token.Name t.end_name.name ∷ token.Mark mark.Semicolon ∷ [])))
    (ap (λ (l : List Feature). declaration.Type (record { category = t.category; name = unplaced_named t.name; features = l; properties = or_none ps.0; annexes = map unplaced_annex t.annexes; end_name = unplaced_named t.end_name })) fs.2 ∙
    ap (λ (l : List Association). declaration.Type (record { category = t.category; name = unplaced_named t.name; features = map unplaced_feature t.features; properties = l; annexes = map unplaced_annex t.annexes; end_name = unplaced_named t.end_name })) ps.2)
    (component t.category (Second rest) (type_body t) (second SpellsImplementationBody SpellsTypeBody bare_implementation bare_type rest (type_body t) (a_type t fs.0 ps.0 fs.1 ps.1)))
declared (declaration.Implementation i) =
    let ss = subcomponents i.subcomponents in
    let cs = connections i.connections in
    let ps = properties i.properties in
    let rest : ImplementationParts = (tt, (unplaced_implementation_name i.name, (ss.0, (cs.0, (ps.0, (map unplaced_annex i.annexes, (tt, (unplaced_implementation_name i.end_name, tt)))))))) in
    let with : List Subcomponent → List Connection → List Association → Declaration = λ x y z. declaration.Implementation (record {
      category = i.category;
      name = unplaced_implementation_name i.name;
      subcomponents = x;
      connections = y;
      properties = z;
      annexes = map unplaced_annex i.annexes;
      end_name = unplaced_implementation_name i.end_name;
    }) in
    spelled-by SpellsDeclaration unplaced_declaration (declaration_of (Second (i.category, First rest))) (declaration.Implementation (unplaced_implementation i)) (token.Word (category_word i.category) ∷ implementation_body i) (implementation_tokens i)
    (regroup-all (token.Word (category_word i.category) ∷ token.Word word.Implementation ∷ implementation_name_tokens i.name) (section_tokens word.Subcomponents subcomponent_tokens i.subcomponents)
    (section_tokens word.Connections connection_tokens i.connections) (section_tokens word.Properties association_tokens i.properties) (flat_map annex_tokens i.annexes) (token.Word word.End ∷ implementation_name_tokens i.end_name) (token.Mark mark.Semicolon ∷ []))
    (ap (λ (l : List Subcomponent). with l (or_none cs.0) (or_none ps.0)) ss.2 ∙
    ap (λ (l : List Connection). with (map unplaced_subcomponent i.subcomponents) l (or_none ps.0)) cs.2 ∙
    ap (λ (l : List Association). with (map unplaced_subcomponent i.subcomponents) (map unplaced_connection i.connections) l) ps.2)
    (component i.category (First rest) (implementation_body i) (first SpellsImplementationBody SpellsTypeBody bare_implementation bare_type rest (implementation_body i) (an_implementation i ss.0 cs.0 ps.0 ss.1 cs.1 ps.1)))
declared (declaration.Annex a) =
    made declaration_of (Either SpellsAnnex SpellsComponent) (either_bare unplaced_annex bare_component) unplaced_declaration (First (unplaced_annex a)) (annex_tokens a) declaration-bare
    (first SpellsAnnex SpellsComponent unplaced_annex bare_component (unplaced_annex a) (annex_tokens a) (annex a))
