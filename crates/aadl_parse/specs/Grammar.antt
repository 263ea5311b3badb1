-- The grammar of models: which tokens spell a package, one case for each production (after SAE AS5506; docs/formats/model.md). What the
-- parts of a production make is in Builds, and names, classes and values are in SimpleValue and ValueText.
use Rattle.std.specs.Prelude.{ℕ, List, codes, Option, ⊤}
use Rattle.hw_text.specs.declared.placed.Placed.{Placed}
use Rattle.hw_text.specs.Language.{One, ◌⋅◌, Maybe, Each, Made}
use Rattle.aadl_tree.specs.declared.annex.Annex.{Annex}
use Rattle.aadl_tree.specs.declared.association.Association.{Association}
use Rattle.aadl_tree.specs.declared.connection.Connection.{Connection}
use Rattle.aadl_tree.specs.declared.connection.ConnectionEnd.{ConnectionEnd}
use Rattle.aadl_tree.specs.declared.feature.Feature.{Feature}
use Rattle.aadl_tree.specs.declared.feature.PortKind.{PortKind}
use Rattle.aadl_tree.specs.declared.names.ImplementationName.{ImplementationName}
use Rattle.aadl_tree.specs.declared.names.Path.{Path}
use Rattle.aadl_tree.specs.declared.package.Declaration.{Declaration}
use Rattle.aadl_tree.specs.declared.package.Import.{Import}
use Rattle.aadl_tree.specs.declared.package.Package.{Package}
use Rattle.aadl_tree.specs.declared.subcomponent.Subcomponent.{Subcomponent}
use Rattle.aadl_tree.specs.declared.token.Token.{Token}
use Rattle.aadl_parse.specs.Builds.{behind_mark, behind_words, listed, own_of, ending_of, association_of, SettingParts, data_kind_of, event_data_kind_of, event_kind_of, events_of, either_of, feature_of, subcomponent_of, connection_end_of, connection_of, DestinationParts, nothing_of, members_behind, annex_of, implementation_name_of, TypeParts, ImplementationParts, ComponentParts, declaration_of, import_of, package_of, BodyParts}
use Rattle.aadl_parse.specs.SimpleValue.{Symbol, SpellsQualified, SpellsPath, SpellsClass, Either, name_behind}
use Rattle.aadl_parse.specs.Terminals.{named_of, name_of, category_of, direction_of, annex_body_of, operator_of}
use Rattle.aadl_parse.specs.ValueText.{SpellsValue}

abbrev pub Spelling : Type 0 → Type 1
Spelling X = X → List (Placed Token) → Type 0

-- "," x
abbrev pub BehindComma : {X : Type 0} → Spelling X → Spelling X
BehindComma A = Made behind_mark (Symbol (codes ",") ⋅ A)

-- "applies" "to" path { "," path }
abbrev pub SpellsApplies : Spelling (List Path)
SpellsApplies = Made behind_words (Symbol (codes "applies") ⋅ (Symbol (codes "to") ⋅ Made listed (SpellsPath ⋅ Each (BehindComma SpellsPath))))

-- ( "=>" | "+=>" ) [ "constant" ] value { "," value } [ "applies" "to" path { "," path } ] ";"
abbrev pub SpellsSetting : Spelling SettingParts
SpellsSetting =
    One operator_of ⋅ (Maybe (Symbol (codes "constant")) ⋅
    (SpellsValue ⋅ (Each (BehindComma SpellsValue) ⋅ (Maybe SpellsApplies ⋅ Symbol (codes ";")))))

-- pname setting
abbrev pub SpellsAssociation : Spelling Association
SpellsAssociation = Made association_of (SpellsQualified ⋅ SpellsSetting)

-- "{" { assoc } "}"
abbrev pub SpellsOwn : Spelling (List Association)
SpellsOwn = Made own_of (Symbol (codes "{") ⋅ (Each SpellsAssociation ⋅ Symbol (codes "}")))

-- [ own ] ";"
abbrev pub SpellsEnding : Spelling (Option (List Association))
SpellsEnding = Made ending_of (Maybe SpellsOwn ⋅ Symbol (codes ";"))

-- "data" "port" class
abbrev pub SpellsDataKind : Spelling PortKind
SpellsDataKind = Made data_kind_of (Symbol (codes "data") ⋅ (Symbol (codes "port") ⋅ SpellsClass))

-- "event" ( "data" "port" class | "port" )
abbrev pub SpellsEventKinds : Spelling PortKind
SpellsEventKinds =
    Made events_of
    (Symbol (codes "event") ⋅ Either (Made event_data_kind_of (Symbol (codes "data") ⋅ (Symbol (codes "port") ⋅ SpellsClass))) (Made event_kind_of (Symbol (codes "port"))))

-- "data" "port" class | "event" "port" | "event" "data" "port" class
abbrev pub SpellsKind : Spelling PortKind
SpellsKind = Made either_of (Either SpellsDataKind SpellsEventKinds)

-- NAME ":" ( "in" | "out" ) kind [ own ] ";"
abbrev pub SpellsFeature : Spelling Feature
SpellsFeature = Made feature_of (One named_of ⋅ (Symbol (codes ":") ⋅ (One direction_of ⋅ (SpellsKind ⋅ SpellsEnding))))

-- NAME ":" cat class [ own ] ";"
abbrev pub SpellsSubcomponent : Spelling Subcomponent
SpellsSubcomponent = Made subcomponent_of (One named_of ⋅ (Symbol (codes ":") ⋅ (One category_of ⋅ (SpellsClass ⋅ SpellsEnding))))

-- NAME [ "." NAME ]
abbrev pub SpellsEnd : Spelling ConnectionEnd
SpellsEnd = Made connection_end_of (One named_of ⋅ Maybe (Made name_behind (Symbol (codes ".") ⋅ One name_of)))

-- "->" tip [ own ] ";"
abbrev pub SpellsDestination : Spelling DestinationParts
SpellsDestination = Symbol (codes "->") ⋅ (SpellsEnd ⋅ SpellsEnding)

-- NAME ":" "port" tip "->" tip [ own ] ";"
abbrev pub SpellsConnection : Spelling Connection
SpellsConnection = Made connection_of (One named_of ⋅ (Symbol (codes ":") ⋅ (Symbol (codes "port") ⋅ (SpellsEnd ⋅ SpellsDestination))))

-- "none" ";"
abbrev pub SpellsNone : Spelling ⊤
SpellsNone = Made nothing_of (Symbol (codes "none") ⋅ Symbol (codes ";"))

-- a word, and "none" ";" or one or more members
abbrev pub Section : {X : Type 0} → List ℕ → Spelling X → Spelling (List X)
Section word A = Made members_behind (Symbol word ⋅ Either SpellsNone (Made listed (A ⋅ Each A)))

abbrev pub SpellsFeatures : Spelling (List Feature)
SpellsFeatures = Section (codes "features") SpellsFeature

abbrev pub SpellsSubcomponents : Spelling (List Subcomponent)
SpellsSubcomponents = Section (codes "subcomponents") SpellsSubcomponent

abbrev pub SpellsConnections : Spelling (List Connection)
SpellsConnections = Section (codes "connections") SpellsConnection

abbrev pub SpellsProperties : Spelling (List Association)
SpellsProperties = Section (codes "properties") SpellsAssociation

-- "annex" NAME ( ANNEX | "none" ) ";"
abbrev pub SpellsAnnex : Spelling Annex
SpellsAnnex = Made annex_of (Symbol (codes "annex") ⋅ (One named_of ⋅ (One annex_body_of ⋅ Symbol (codes ";"))))

-- NAME "." NAME
abbrev pub SpellsImplementationName : Spelling ImplementationName
SpellsImplementationName = Made implementation_name_of (One named_of ⋅ Made name_behind (Symbol (codes ".") ⋅ One name_of))

-- NAME [ features ] [ properties ] { annex } "end" NAME ";"
abbrev pub SpellsTypeBody : Spelling TypeParts
SpellsTypeBody =
    One named_of ⋅ (Maybe SpellsFeatures ⋅ (Maybe SpellsProperties ⋅ (Each SpellsAnnex ⋅
    (Symbol (codes "end") ⋅ (One named_of ⋅ Symbol (codes ";"))))))

-- "implementation" NAME "." NAME [ subcomponents ] [ connections ] [ properties ] { annex } "end" NAME "." NAME ";"
abbrev pub SpellsImplementationBody : Spelling ImplementationParts
SpellsImplementationBody =
    Symbol (codes "implementation") ⋅ (SpellsImplementationName ⋅ (Maybe SpellsSubcomponents ⋅ (Maybe SpellsConnections ⋅
    (Maybe SpellsProperties ⋅ (Each SpellsAnnex ⋅ (Symbol (codes "end") ⋅ (SpellsImplementationName ⋅ Symbol (codes ";"))))))))

-- cat ( implementation | type )
abbrev pub SpellsComponent : Spelling ComponentParts
SpellsComponent = One category_of ⋅ Either SpellsImplementationBody SpellsTypeBody

-- annex | type | implementation
abbrev pub SpellsDeclaration : Spelling Declaration
SpellsDeclaration = Made declaration_of (Either SpellsAnnex SpellsComponent)

-- "with" pname { "," pname } ";"
abbrev pub SpellsImport : Spelling Import
SpellsImport = Made import_of (Symbol (codes "with") ⋅ (SpellsQualified ⋅ (Each (BehindComma SpellsQualified) ⋅ Symbol (codes ";"))))

-- "public" { with } { decl } "end" pname ";"
abbrev pub SpellsBody : Spelling BodyParts
SpellsBody =
    Symbol (codes "public") ⋅ (Each SpellsImport ⋅ (Each SpellsDeclaration ⋅
    (Symbol (codes "end") ⋅ (SpellsQualified ⋅ Symbol (codes ";")))))

-- "package" pname body
unfoldable pub SpellsPackage : Package → List (Placed Token) → Type 0
SpellsPackage = Made package_of (Symbol (codes "package") ⋅ (SpellsQualified ⋅ SpellsBody))
