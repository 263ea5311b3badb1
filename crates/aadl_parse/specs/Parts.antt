-- How the texts of the productions of packages start, one line for each production.
use Rattle.std.specs.Prelude.{ℕ, true, List, [], ◌∷◌, codes, Some, refl}
use Rattle.hw_text.specs.Language.{One, ◌⋅◌, Maybe, Each, Made}
use Rattle.hw_text.specs.Reading.{Begins}
use Rattle.hw_text.specs.declared.placed.Placed.{Placed}
use Rattle.aadl_tree.specs.declared.package.Package.{Package}
use Rattle.aadl_tree.specs.declared.token.Token.{Token}
use Rattle.aadl_parse.specs.Shapes.{one_of}
use Rattle.aadl_tree.specs.declared.association.Operator.TheVariants as operator
use Rattle.aadl_tree.specs.declared.category.Category.TheVariants as category
use Rattle.aadl_tree.specs.declared.feature.Direction.TheVariants as direction
use Rattle.aadl_tree.specs.declared.mark.Mark.TheVariants as mark
use Rattle.aadl_tree.specs.declared.token.Token.TheVariants as token
use Rattle.aadl_tree.specs.declared.word.Word.{Word}
use Rattle.aadl_tree.specs.declared.word.Word.TheVariants as word
use Rattle.hw_text.specs.declared.base_type.BaseType.TheVariants as base
use Rattle.aadl_tree.specs.Words.{word_spelling}
use Rattle.aadl_parse.specs.Builds.{behind_mark, behind_words, listed, association_of, own_of, ending_of, data_kind_of, event_data_kind_of, event_kind_of, events_of, either_of, feature_of, subcomponent_of, connection_end_of, connection_of, nothing_of, members_behind, annex_of, implementation_name_of, declaration_of, import_of, package_of}
use Rattle.aadl_parse.specs.Grammar.{Spelling, BehindComma, SpellsApplies, SpellsSetting, SpellsAssociation, SpellsOwn, SpellsEnding, SpellsDataKind, SpellsEventKinds, SpellsKind, SpellsFeature, SpellsSubcomponent, SpellsEnd, SpellsDestination, SpellsConnection, SpellsNone, Section, SpellsFeatures, SpellsSubcomponents, SpellsConnections, SpellsProperties, SpellsAnnex, SpellsImplementationName, SpellsTypeBody, SpellsImplementationBody, SpellsComponent, SpellsDeclaration, SpellsImport, SpellsBody, SpellsPackage}
use Rattle.aadl_parse.specs.SimpleValue.{Symbol, SpellsQualified, SpellsPath, SpellsBaseClass, SpellsModelClass, SpellsClass, qualified_of, path_of, name_behind, base_class_of, model_class_of, value_starts}
use Rattle.aadl_parse.specs.Starts.{Start, a_token, a_word, a_mark, before, maybe_before, each_before, before_maybe, before_each, either, made}
use Rattle.aadl_parse.specs.Stops.{start}
use Rattle.aadl_parse.specs.Terminals.{name_shapes, named_of, name_of, base_package_of, class_name_of, base_of, category_shapes, category_of, direction_of, operator_of, annex_body_of, name-shaped, base_package-shaped, class_name-shaped, boolean-named, category-shaped, direction-shaped, operator-shaped, annex_body-shaped}
use Rattle.hw_text.specs.BaseTypes.{base_named}
use Rattle.aadl_parse.specs.ValueBegins.{value-begun}
use Rattle.aadl_parse.specs.ValueBegins as values
use Rattle.aadl_parse.specs.ValueText.{SpellsValue}

abbrev pub a_name : Start (One named_of)
a_name =
    a_token named_of name_shapes (record { token = token.Name (codes "a"); place = start }, record { name = codes "a"; place = start }, refl)
    (name-shaped (λ n at. Some (record { name = n; place = at })))

abbrev pub a_bare_name : Start (One name_of)
a_bare_name = a_token name_of name_shapes (record { token = token.Name (codes "a"); place = start }, codes "a", refl) (name-shaped (λ n at. Some n))

abbrev pub a_category : Start (One category_of)
a_category = a_token category_of category_shapes (record { token = token.Word word.Data; place = start }, category.Data, refl) category-shaped

abbrev pub a_direction : Start (One direction_of)
a_direction = a_token direction_of (codes "in" ∷ codes "out" ∷ []) (record { token = token.Word word.In; place = start }, direction.In, refl) direction-shaped

abbrev pub an_operator : Start (One operator_of)
an_operator = a_token operator_of (codes "=>" ∷ codes "+=>" ∷ []) (record { token = token.Mark mark.Association; place = start }, operator.Set, refl) operator-shaped

abbrev pub an_annex_body : Start (One annex_body_of)
an_annex_body = a_token annex_body_of (codes "ANNEX" ∷ codes "none" ∷ []) (record { token = token.Annex []; place = start }, (Some [], start), refl) annex_body-shaped

abbrev pub a_base_package : Start (One base_package_of)
a_base_package = a_token base_package_of (codes "base_types" ∷ []) (record { token = token.Name (codes "base_types"); place = start }, start, refl) base_package-shaped

abbrev pub a_base_name : Start (One base_of)
a_base_name = a_token base_of name_shapes (record { token = token.Name (codes "boolean"); place = start }, base.Boolean, boolean-named) (name-shaped (λ n at. base_named n))

abbrev pub a_class_name : Start (One class_name_of)
a_class_name = a_token class_name_of (codes "NAME" ∷ []) (record { token = token.Name (codes "a"); place = start }, (record { name = codes "a"; other = refl }, start), refl) class_name-shaped

abbrev pub a_value : Start SpellsValue
a_value = record { shapes = value_starts; sample = values.a_value; begins = value-begun }

-- with which a classifier may go on where another one ends: a longer name, or that of an implementation
abbrev pub class_goes_on : List (List ℕ)
class_goes_on = codes "::" ∷ codes "." ∷ []

-- "," x
abbrev pub behind_comma : {X : Type 0} {A : Spelling X} → Start A → Start (BehindComma A)
behind_comma a = made behind_mark (before (a_mark mark.Comma) a)

abbrev pub a_qualified : Start SpellsQualified
a_qualified = made qualified_of (before_each a_name)

abbrev pub a_path : Start SpellsPath
a_path = made path_of (before_each a_name)

abbrev pub a_behind_colons : Start (Made name_behind (Symbol (codes "::") ⋅ One name_of))
a_behind_colons = made name_behind (before (a_mark mark.DoubleColon) a_bare_name)

abbrev pub a_dotted : Start (Made name_behind (Symbol (codes ".") ⋅ One name_of))
a_dotted = made name_behind (before (a_mark mark.Dot) a_bare_name)

abbrev pub an_implementation_name : Start SpellsImplementationName
an_implementation_name = made implementation_name_of (before a_name a_dotted)

abbrev pub a_base_class : Start SpellsBaseClass
a_base_class = made base_class_of (before a_base_package (before (a_mark mark.DoubleColon) a_base_name))

abbrev pub a_model_class : Start SpellsModelClass
a_model_class = made model_class_of (before_maybe (before_each a_class_name))

abbrev pub a_class : Start SpellsClass
a_class = made either_of (either a_base_class a_model_class)

abbrev pub an_applies : Start SpellsApplies
an_applies = made behind_words (before (a_word word.Applies) (before (a_word word.To) (made listed (before_each a_path))))

abbrev pub a_setting : Start SpellsSetting
a_setting =
    before an_operator (maybe_before (a_word word.Constant) (before a_value
    (each_before (behind_comma a_value) (maybe_before an_applies (a_mark mark.Semicolon)))))

abbrev pub an_association : Start SpellsAssociation
an_association = made association_of (before a_qualified a_setting)

abbrev pub an_own : Start SpellsOwn
an_own = made own_of (before (a_mark mark.OpenBrace) (each_before an_association (a_mark mark.CloseBrace)))

abbrev pub an_ending : Start SpellsEnding
an_ending = made ending_of (maybe_before an_own (a_mark mark.Semicolon))

abbrev pub a_data_kind : Start SpellsDataKind
a_data_kind = made data_kind_of (before (a_word word.Data) (before (a_word word.Port) a_class))

abbrev pub an_event_data_kind : Start (Made event_data_kind_of (Symbol (codes "data") ⋅ (Symbol (codes "port") ⋅ SpellsClass)))
an_event_data_kind = made event_data_kind_of (before (a_word word.Data) (before (a_word word.Port) a_class))

abbrev pub an_event_kind : Start (Made event_kind_of (Symbol (codes "port")))
an_event_kind = made event_kind_of (a_word word.Port)

abbrev pub a_later_kind : Start SpellsEventKinds
a_later_kind = made events_of (before (a_word word.Event) (either an_event_data_kind an_event_kind))

abbrev pub a_kind : Start SpellsKind
a_kind = made either_of (either a_data_kind a_later_kind)

abbrev pub a_feature : Start SpellsFeature
a_feature = made feature_of (before a_name (before (a_mark mark.Colon) (before a_direction (before a_kind an_ending))))

abbrev pub a_subcomponent : Start SpellsSubcomponent
a_subcomponent = made subcomponent_of (before a_name (before (a_mark mark.Colon) (before a_category (before a_class an_ending))))

abbrev pub a_tip : Start SpellsEnd
a_tip = made connection_end_of (before_maybe a_name)

abbrev pub a_destination : Start SpellsDestination
a_destination = before (a_mark mark.Arrow) (before a_tip an_ending)

abbrev pub a_connection : Start SpellsConnection
a_connection = made connection_of (before a_name (before (a_mark mark.Colon) (before (a_word word.Port) (before a_tip a_destination))))

abbrev pub a_none : Start SpellsNone
a_none = made nothing_of (before (a_word word.None) (a_mark mark.Semicolon))

abbrev pub a_section : {X : Type 0} {A : Spelling X} (w : Word) → Start A → Start (Section (word_spelling w) A)
a_section w a = made members_behind (before (a_word w) (either a_none (made listed (before_each a))))

abbrev pub features : Start SpellsFeatures
features = a_section word.Features a_feature

abbrev pub subcomponents : Start SpellsSubcomponents
subcomponents = a_section word.Subcomponents a_subcomponent

abbrev pub connections : Start SpellsConnections
connections = a_section word.Connections a_connection

abbrev pub properties : Start SpellsProperties
properties = a_section word.Properties an_association

abbrev pub an_annex : Start SpellsAnnex
an_annex = made annex_of (before (a_word word.Annex) (before a_name (before an_annex_body (a_mark mark.Semicolon))))

abbrev pub a_type_body : Start SpellsTypeBody
a_type_body =
    before a_name (maybe_before features (maybe_before properties (each_before an_annex
    (before (a_word word.End) (before a_name (a_mark mark.Semicolon))))))

abbrev pub an_implementation_body : Start SpellsImplementationBody
an_implementation_body =
    before (a_word word.Implementation) (before an_implementation_name (maybe_before subcomponents (maybe_before connections
    (maybe_before properties (each_before an_annex (before (a_word word.End) (before an_implementation_name (a_mark mark.Semicolon))))))))

abbrev pub a_component : Start SpellsComponent
a_component = before a_category (either an_implementation_body a_type_body)

abbrev pub a_declaration : Start SpellsDeclaration
a_declaration = made declaration_of (either an_annex a_component)

abbrev pub an_import : Start SpellsImport
an_import = made import_of (before (a_word word.With) (before a_qualified (each_before (behind_comma a_qualified) (a_mark mark.Semicolon))))

-- the parts of a package
abbrev package_parts : Start (Symbol (codes "package") ⋅ (SpellsQualified ⋅ SpellsBody))
package_parts =
    before (a_word word.Package) (before a_qualified (before (a_word word.Public) (each_before an_import (each_before a_declaration
    (before (a_word word.End) (before a_qualified (a_mark mark.Semicolon)))))))

pub a_package : (p : Package) × (w : List (Placed Token)) × SpellsPackage p w
unfolding SpellsPackage
a_package = (made package_of package_parts).sample

pub package-begins : Begins (one_of (codes "package" ∷ [])) true SpellsPackage
unfolding SpellsPackage
package-begins = (made package_of package_parts).begins
