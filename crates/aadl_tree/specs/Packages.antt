-- The canonical tokens of packages and of what they declare, one case for each production (docs/formats/model.md).
use Rattle.std.specs.Prelude.{ℕ, List, [], ◌∷◌, ◌++◌, Option, Some, None}
use Rattle.std.specs.List.{flat_map}
use Rattle.aadl_tree.specs.declared.token.Token.{Token}
use Rattle.aadl_tree.specs.declared.token.Token.TheVariants as token
use Rattle.aadl_tree.specs.declared.word.Word.{Word}
use Rattle.aadl_tree.specs.declared.word.Word.TheVariants as word
use Rattle.aadl_tree.specs.declared.mark.Mark.TheVariants as mark
use Rattle.aadl_tree.specs.declared.annex.Annex.{Annex}
use Rattle.aadl_tree.specs.declared.association.Association.{Association}
use Rattle.aadl_tree.specs.declared.feature.Direction.{Direction}
use Rattle.aadl_tree.specs.declared.feature.Direction.TheVariants.{In, Out}
use Rattle.aadl_tree.specs.declared.feature.PortKind.{PortKind}
use Rattle.aadl_tree.specs.declared.feature.PortKind.TheVariants.{Data, Event, EventData}
use Rattle.aadl_tree.specs.declared.feature.Feature.{Feature}
use Rattle.aadl_tree.specs.declared.subcomponent.Subcomponent.{Subcomponent}
use Rattle.aadl_tree.specs.declared.connection.ConnectionEnd.{ConnectionEnd}
use Rattle.aadl_tree.specs.declared.connection.Connection.{Connection}
use Rattle.aadl_tree.specs.declared.component.ComponentType.{ComponentType}
use Rattle.aadl_tree.specs.declared.component.Implementation.{Implementation}
use Rattle.aadl_tree.specs.declared.package.Import.{Import}
use Rattle.aadl_tree.specs.declared.package.Declaration.{Declaration}
use Rattle.aadl_tree.specs.declared.package.Declaration.TheVariants as declaration
use Rattle.aadl_tree.specs.declared.package.Package.{Package}
use Rattle.aadl_tree.specs.Canonical.{category_word, behind_comma, maybe_behind_dot, qualified_tokens, implementation_name_tokens, class_tokens, section_tokens}
use Rattle.aadl_tree.specs.Values.{association_tokens}

-- [ "{" { assoc } "}" ]
abbrev pub own_tokens : Option (List Association) → List Token
own_tokens None = []
own_tokens (Some all) = token.Mark mark.OpenBrace ∷ flat_map association_tokens all ++ token.Mark mark.CloseBrace ∷ []

-- "in" | "out"
abbrev pub direction_word : Direction → Word
direction_word In = word.In
direction_word Out = word.Out

-- "data" "port" class | "event" "port" | "event" "data" "port" class
abbrev pub kind_tokens : PortKind → List Token
kind_tokens (Data class) = token.Word word.Data ∷ token.Word word.Port ∷ class_tokens class
kind_tokens Event = token.Word word.Event ∷ token.Word word.Port ∷ []
kind_tokens (EventData class) = token.Word word.Event ∷ token.Word word.Data ∷ token.Word word.Port ∷ class_tokens class

-- NAME ":" ( "in" | "out" ) kind [ own ] ";"
unfoldable pub feature_tokens : Feature → List Token
feature_tokens f =
    token.Name f.name.name ∷ token.Mark mark.Colon ∷ token.Word (direction_word f.direction) ∷ kind_tokens f.kind ++
    own_tokens f.own ++ token.Mark mark.Semicolon ∷ []

-- NAME ":" cat class [ own ] ";"
unfoldable pub subcomponent_tokens : Subcomponent → List Token
subcomponent_tokens s =
    token.Name s.name.name ∷ token.Mark mark.Colon ∷ token.Word (category_word s.category) ∷ class_tokens s.class ++
    own_tokens s.own ++ token.Mark mark.Semicolon ∷ []

-- NAME [ "." NAME ]
abbrev pub end_tokens : ConnectionEnd → List Token
end_tokens e = token.Name e.first.name ∷ maybe_behind_dot e.port

-- NAME ":" "port" tip "->" tip [ own ] ";"
unfoldable pub connection_tokens : Connection → List Token
connection_tokens c =
    token.Name c.name.name ∷ token.Mark mark.Colon ∷ token.Word word.Port ∷ end_tokens c.from ++
    token.Mark mark.Arrow ∷ end_tokens c.to ++ own_tokens c.own ++ token.Mark mark.Semicolon ∷ []

-- ANNEX | "none"
abbrev pub annex_token : Option (List ℕ) → Token
annex_token (Some text) = token.Annex text
annex_token None = token.Word word.None

-- "annex" NAME ( ANNEX | "none" ) ";"
unfoldable pub annex_tokens : Annex → List Token
annex_tokens a = token.Word word.Annex ∷ token.Name a.name.name ∷ annex_token a.text ∷ token.Mark mark.Semicolon ∷ []

-- cat NAME [ "features" feat { feat } ] [ "properties" assoc { assoc } ] { annex } "end" NAME ";"
unfoldable pub type_tokens : ComponentType → List Token
type_tokens t =
    token.Word (category_word t.category) ∷ token.Name t.name.name ∷ section_tokens word.Features feature_tokens t.features ++
    section_tokens word.Properties association_tokens t.properties ++ flat_map annex_tokens t.annexes ++
    token.Word word.End ∷ token.Name t.end_name.name ∷ token.Mark mark.Semicolon ∷ []

-- cat "implementation" NAME "." NAME [ "subcomponents" sub { sub } ] [ "connections" conn { conn } ] [ "properties" assoc { assoc } ]
-- { annex } "end" NAME "." NAME ";"
unfoldable pub implementation_tokens : Implementation → List Token
implementation_tokens i =
    token.Word (category_word i.category) ∷ token.Word word.Implementation ∷ implementation_name_tokens i.name ++
    section_tokens word.Subcomponents subcomponent_tokens i.subcomponents ++
    section_tokens word.Connections connection_tokens i.connections ++
    section_tokens word.Properties association_tokens i.properties ++ flat_map annex_tokens i.annexes ++
    token.Word word.End ∷ implementation_name_tokens i.end_name ++ token.Mark mark.Semicolon ∷ []

-- type | impl | annex
unfoldable pub declaration_tokens : Declaration → List Token
declaration_tokens (declaration.Type t) = type_tokens t
declaration_tokens (declaration.Implementation i) = implementation_tokens i
declaration_tokens (declaration.Annex a) = annex_tokens a

-- "with" pname { "," pname } ";"
unfoldable pub import_tokens : Import → List Token
import_tokens i = token.Word word.With ∷ qualified_tokens i.first ++ flat_map (behind_comma qualified_tokens) i.others ++ token.Mark mark.Semicolon ∷ []

-- "package" pname "public" { with } { decl } "end" pname ";"
unfoldable pub package_tokens : Package → List Token
package_tokens p =
    token.Word word.Package ∷ qualified_tokens p.name ++ token.Word word.Public ∷ flat_map import_tokens p.imports ++
    flat_map declaration_tokens p.declarations ++ token.Word word.End ∷ qualified_tokens p.end_name ++ token.Mark mark.Semicolon ∷ []
