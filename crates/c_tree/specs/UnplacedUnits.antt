-- Units without their places (this project's own; docs/formats/c.md).
use Rattle.std.specs.Prelude.{◌≡◌, map}
use Rattle.std.specs.Option.{option_map}
use Rattle.c_tree.specs.declared.item.Enumeration.{Enumeration}
use Rattle.c_tree.specs.declared.item.Member.{Member}
use Rattle.c_tree.specs.declared.item.Structure.{Structure}
use Rattle.c_tree.specs.declared.item.InitialValue.{InitialValue}
use Rattle.c_tree.specs.declared.item.InitialValue.TheVariants as initial
use Rattle.c_tree.specs.declared.item.Variable.{Variable}
use Rattle.c_tree.specs.declared.item.External.{External}
use Rattle.c_tree.specs.declared.item.Pointer.{Pointer}
use Rattle.c_tree.specs.declared.item.Parameter.{Parameter}
use Rattle.c_tree.specs.declared.item.Prototype.{Prototype}
use Rattle.c_tree.specs.declared.item.Returned.{Returned}
use Rattle.c_tree.specs.declared.item.Function.{Function}
use Rattle.c_tree.specs.declared.item.Item.{Item}
use Rattle.c_tree.specs.declared.item.Item.TheVariants as item
use Rattle.c_tree.specs.declared.unit.Unit.{Unit as CUnit}
use Rattle.c_tree.specs.Unplaced.{origin, unplaced_named, unplaced_literal, unplaced_signed, unplaced_class, unplaced_right, unplaced_statement}

abbrev pub unplaced_enumeration : Enumeration → Enumeration
unplaced_enumeration e = record { first = unplaced_named e.first; others = map unplaced_named e.others; name = unplaced_named e.name }

abbrev pub unplaced_member : Member → Member
unplaced_member m = record { class = unplaced_class m.class; name = unplaced_named m.name; length = option_map unplaced_literal m.length }

abbrev pub unplaced_structure : Structure → Structure
unplaced_structure s = record { first = unplaced_member s.first; others = map unplaced_member s.others; name = unplaced_named s.name }

abbrev pub unplaced_initial : InitialValue → InitialValue
unplaced_initial initial.Zero = initial.Zero
unplaced_initial (initial.Number l) = initial.Number (unplaced_signed l)
unplaced_initial (initial.Truth at b) = initial.Truth origin b
unplaced_initial (initial.Enumerator x) = initial.Enumerator (unplaced_named x)

abbrev pub unplaced_variable : Variable → Variable
unplaced_variable v = record {
  is_static = v.is_static;
  class = unplaced_class v.class;
  name = unplaced_named v.name;
  length = option_map unplaced_literal v.length;
  initial = option_map unplaced_initial v.initial;
}

abbrev pub unplaced_external : External → External
unplaced_external x = record { class = unplaced_class x.class; name = unplaced_named x.name; length = option_map unplaced_literal x.length }

abbrev pub unplaced_pointer : Pointer → Pointer
unplaced_pointer p = record { class = unplaced_named p.class; name = unplaced_named p.name }

abbrev pub unplaced_parameter : Parameter → Parameter
unplaced_parameter p = record { class = unplaced_class p.class; is_pointer = p.is_pointer; name = unplaced_named p.name }

abbrev pub unplaced_prototype : Prototype → Prototype
unplaced_prototype p = record {
  is_static = p.is_static;
  class = option_map unplaced_class p.class;
  name = unplaced_named p.name;
  parameters = map unplaced_parameter p.parameters;
}

abbrev pub unplaced_returned : Returned → Returned
unplaced_returned r = record { class = unplaced_class r.class; value = unplaced_right r.value }

abbrev pub unplaced_function : Function → Function
unplaced_function f = record {
  is_static = f.is_static;
  returned = option_map unplaced_returned f.returned;
  name = unplaced_named f.name;
  parameters = map unplaced_parameter f.parameters;
  body = map unplaced_statement f.body;
}

abbrev pub unplaced_item : Item → Item
unplaced_item (item.Enumeration e) = item.Enumeration (unplaced_enumeration e)
unplaced_item (item.Structure s) = item.Structure (unplaced_structure s)
unplaced_item (item.Variable v) = item.Variable (unplaced_variable v)
unplaced_item (item.External x) = item.External (unplaced_external x)
unplaced_item (item.Pointer p) = item.Pointer (unplaced_pointer p)
unplaced_item (item.Prototype p) = item.Prototype (unplaced_prototype p)
unplaced_item (item.Function f) = item.Function (unplaced_function f)

abbrev pub unplaced_unit : CUnit → CUnit
unplaced_unit u = record { items = map unplaced_item u.items; end = origin }

-- the same units but for where their parts stand
abbrev pub SameUnit : CUnit → CUnit → Type 0
SameUnit u q = unplaced_unit u ≡ unplaced_unit q
