-- What a package declares, as tables in text order (this project's own; after SAE AS5506, declarations).
use Rattle.std.specs.Prelude.{ℕ, ◌+◌, List, [], ◌∷◌, ◌++◌, map, length, Option, Some, None}
use Rattle.aadl_tree.specs.declared.annex.Annex.{Annex}
use Rattle.aadl_tree.specs.declared.association.Association.{Association}
use Rattle.aadl_tree.specs.declared.category.Category.{Category}
use Rattle.aadl_tree.specs.declared.connection.Connection.{Connection}
use Rattle.aadl_tree.specs.declared.feature.Feature.{Feature}
use Rattle.aadl_tree.specs.declared.package.Declaration.{Declaration}
use Rattle.aadl_tree.specs.declared.package.Declaration.TheVariants as declaration
use Rattle.aadl_tree.specs.declared.package.Package.{Package}
use Rattle.aadl_tree.specs.declared.subcomponent.Subcomponent.{Subcomponent}
use Rattle.aadl_names.specs.declared.associations.AssociationRow.{AssociationRow}
use Rattle.aadl_names.specs.declared.element.Element.{Element}
use Rattle.aadl_names.specs.declared.element.Element.TheVariants as element
use Rattle.aadl_names.specs.declared.parts.PartRow.{PartRow}
use Rattle.aadl_names.specs.declared.tables.AnnexRow.{AnnexRow}
use Rattle.aadl_names.specs.declared.tables.Tables.{Tables}
use Rattle.aadl_names.specs.Parts.{in_braces}

-- the parts of one kind of a declaration, numbered on
abbrev pub part_rows : {T : Type 0} → ℕ → Category → ℕ → List T → List (PartRow T)
part_rows owner category number [] = []
part_rows owner category number (part ∷ parts) =
    record { owner = owner; category = category; number = number; part = part } ∷ part_rows owner category (number + 1) parts

abbrev pub association_row : Element → Association → AssociationRow
association_row holder association = record { holder = holder; association = association }

-- the associations in the braces behind parts, which are numbered on
abbrev pub rows_in_braces : {T : Type 0} → (T → List Association) → (ℕ → Element) → ℕ → List T → List AssociationRow
rows_in_braces own element number [] = []
rows_in_braces own element number (part ∷ parts) = map (association_row (element number)) (own part) ++ rows_in_braces own element (number + 1) parts

abbrev pub annex_row : Option Element → Annex → AnnexRow
annex_row holder annex = record { holder = holder; annex = annex }

-- the rows of one declaration, which as a type or as an implementation has this number
abbrev pub tables_in : ℕ → ℕ → Declaration → Tables
tables_in t i (declaration.Type c) = record {
  types = c ∷ [];
  implementations = [];
  features = part_rows t c.category 0 c.features;
  subcomponents = [];
  connections = [];
  associations = rows_in_braces (λ (f : Feature). in_braces f.own) (element.Feature t) 0 c.features ++ map (association_row (element.Type t)) c.properties;
  annexes = map (annex_row (Some (element.Type t))) c.annexes;
}
tables_in t i (declaration.Implementation c) = record {
  types = [];
  implementations = c ∷ [];
  features = [];
  subcomponents = part_rows i c.category 0 c.subcomponents;
  connections = part_rows i c.category 0 c.connections;
  associations = rows_in_braces (λ (s : Subcomponent). in_braces s.own) (element.Subcomponent i) 0 c.subcomponents ++
      rows_in_braces (λ (n : Connection). in_braces n.own) (element.Connection i) 0 c.connections ++ map (association_row (element.Implementation i)) c.properties;
  annexes = map (annex_row (Some (element.Implementation i))) c.annexes;
}
tables_in t i (declaration.Annex a) = record {
  types = [];
  implementations = [];
  features = [];
  subcomponents = [];
  connections = [];
  associations = [];
  annexes = annex_row None a ∷ [];
}

abbrev pub no_tables : Tables
no_tables = record { types = []; implementations = []; features = []; subcomponents = []; connections = []; associations = []; annexes = [] }

-- these rows, and those behind them
abbrev pub joined : Tables → Tables → Tables
joined a b = record {
  types = a.types ++ b.types;
  implementations = a.implementations ++ b.implementations;
  features = a.features ++ b.features;
  subcomponents = a.subcomponents ++ b.subcomponents;
  connections = a.connections ++ b.connections;
  associations = a.associations ++ b.associations;
  annexes = a.annexes ++ b.annexes;
}

-- the rows of declarations one after another, types and implementations being numbered on
abbrev pub tables_from : ℕ → ℕ → List Declaration → Tables
tables_from t i [] = no_tables
tables_from t i (d ∷ ds) =
    let one = tables_in t i d in joined one (tables_from (t + length one.types) (i + length one.implementations) ds)

-- all rows of a package
abbrev pub tables_of : Package → Tables
tables_of p = tables_from 0 0 p.declarations
