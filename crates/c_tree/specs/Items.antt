-- The canonical text of units (this project's own; docs/formats/c.md).
use Rattle.std.specs.Prelude.{ℕ, Bool, if◌then◌else◌, List, [], ◌∷◌, ◌++◌, codes, Option, Some, None, map}
use Rattle.std.specs.List.{flat_map}
use Rattle.c_tree.specs.declared.named.Named.{Named}
use Rattle.c_tree.specs.declared.type_name.TypeName.{TypeName}
use Rattle.c_tree.specs.declared.item.Enumeration.{Enumeration}
use Rattle.c_tree.specs.declared.item.Member.{Member}
use Rattle.c_tree.specs.declared.item.Structure.{Structure}
use Rattle.c_tree.specs.declared.item.InitialValue.{InitialValue}
use Rattle.c_tree.specs.declared.item.InitialValue.TheVariants as initial
use Rattle.c_tree.specs.declared.item.Variable.{Variable}
use Rattle.c_tree.specs.declared.item.External.{External}
use Rattle.c_tree.specs.declared.item.Pointer.{Pointer}
use Rattle.c_tree.specs.declared.item.Parameter.{Parameter}
use Rattle.c_tree.specs.declared.item.Prototype.{Prototype}
use Rattle.c_tree.specs.declared.item.Returned.{Returned}
use Rattle.c_tree.specs.declared.item.Function.{Function}
use Rattle.c_tree.specs.declared.item.Item.{Item}
use Rattle.c_tree.specs.declared.item.Item.TheVariants as item
use Rattle.c_tree.specs.declared.unit.Unit.{Unit as CUnit}
use Rattle.c_tree.specs.Printing.{type_text, truth_text, signed_text, declared_text, with_commas}
use Rattle.c_tree.specs.Expressions.{right_text}
use Rattle.c_tree.specs.Statements.{line, all_lines, statement_text}

abbrev pub name_text : Named → List ℕ
name_text x = x.name.bytes

unfoldable pub enumeration_opening : List ℕ
enumeration_opening = codes "typedef enum { "

abbrev pub enumeration_text : Enumeration → List ℕ
enumeration_text e = line [] (enumeration_opening ++ with_commas (map name_text (e.first ∷ e.others)) ++ codes " } " ++ e.name.name.bytes ++ codes ";")

-- what a struct has, on one line
abbrev pub member_text : Member → List ℕ
member_text m = declared_text m.class m.name m.length ++ codes "; "

unfoldable pub structure_opening : List ℕ
structure_opening = codes "typedef struct { "

abbrev pub structure_text : Structure → List ℕ
structure_text s = line [] (structure_opening ++ flat_map member_text (s.first ∷ s.others) ++ codes "} " ++ s.name.name.bytes ++ codes ";")

abbrev pub static_text : Bool → List ℕ
static_text b = if b then codes "static " else []

abbrev pub initial_text : Option InitialValue → List ℕ
initial_text None = []
initial_text (Some initial.Zero) = codes " = {0}"
initial_text (Some (initial.Number l)) = codes " = " ++ signed_text l
initial_text (Some (initial.Truth at b)) = codes " = " ++ truth_text b
initial_text (Some (initial.Enumerator x)) = codes " = " ++ x.name.bytes

abbrev pub variable_text : Variable → List ℕ
variable_text v =
    line [] (static_text v.is_static ++ declared_text v.class v.name v.length ++ initial_text v.initial ++ codes ";")

abbrev pub external_text : External → List ℕ
external_text x = line [] (codes "extern " ++ declared_text x.class x.name x.length ++ codes ";")

abbrev pub pointer_text : Pointer → List ℕ
pointer_text p = line [] (codes "volatile " ++ p.class.name.bytes ++ codes " *" ++ p.name.name.bytes ++ codes ";")

abbrev pub parameter_text : Parameter → List ℕ
parameter_text p = type_text p.class ++ (if p.is_pointer then codes " *" else codes " ") ++ p.name.name.bytes

abbrev pub parameters_text : List Parameter → List ℕ
parameters_text [] = codes "void"
parameters_text (p ∷ ps) = with_commas (map parameter_text (p ∷ ps))

abbrev pub result_text : Option TypeName → List ℕ
result_text None = codes "void"
result_text (Some class) = type_text class

abbrev pub signature_text : Named → List Parameter → List ℕ
signature_text x parameters = codes " " ++ x.name.bytes ++ codes "(" ++ parameters_text parameters ++ codes ")"

abbrev pub prototype_text : Prototype → List ℕ
prototype_text p = line [] (static_text p.is_static ++ result_text p.class ++ signature_text p.name p.parameters ++ codes ";")

abbrev pub class_of : Option Returned → Option TypeName
class_of None = None
class_of (Some r) = Some r.class

abbrev pub return_text : List ℕ → Option Returned → List ℕ
return_text margin None = []
return_text margin (Some r) = line margin (codes "return " ++ right_text r.value ++ codes ";")

unfoldable pub opening_text : Function → List ℕ
opening_text f = line [] (static_text f.is_static ++ result_text (class_of f.returned) ++ signature_text f.name f.parameters ++ codes " {")

-- what stands between the braces
unfoldable pub body_text : List ℕ → Function → List ℕ
body_text margin f = all_lines (map statement_text f.body) margin ++ return_text margin f.returned

abbrev pub function_text : Function → List ℕ
function_text f = opening_text f ++ body_text (codes "    ") f ++ line [] (codes "}")

abbrev pub item_text : Item → List ℕ
item_text (item.Enumeration e) = enumeration_text e
item_text (item.Structure s) = structure_text s
item_text (item.Variable v) = variable_text v
item_text (item.External x) = external_text x
item_text (item.Pointer p) = pointer_text p
item_text (item.Prototype p) = prototype_text p
item_text (item.Function f) = function_text f

-- the items, one after another
abbrev pub unit_text : CUnit → List ℕ
unit_text u = flat_map item_text u.items
