-- The parts of types and implementations (this project's own).
use Rattle.std.specs.Prelude.{List, [], Option, Some, None}
use Rattle.aadl_tree.specs.declared.association.Association.{Association}

-- the associations in the braces behind a part
abbrev pub in_braces : Option (List Association) → List Association
in_braces None = []
in_braces (Some all) = all
