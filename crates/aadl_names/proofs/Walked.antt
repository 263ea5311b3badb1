-- Tables of which a part was walked.
use Rattle.std.proofs.Common.{◌≡◌, List, [], ◌∷◌, length, refl, append_assoc, append-nil, length-append}
use Rattle.aadl_tree.specs.declared.package.Declaration.{Declaration}
use Rattle.aadl_names.specs.declared.tables.Tables.{Tables}
use Rattle.aadl_names.specs.TableRows.{tables_in, joined, no_tables, tables_from}

-- the tables of all declarations, where so many are walked and the others are these
abbrev pub walked : Tables → List Declaration → Tables
walked before ds = joined before (tables_from (length before.types) (length before.implementations) ds)

pub joined_assoc : (a b c : Tables) → joined (joined a b) c ≡ joined a (joined b c)
joined_assoc a b c = simp append_assoc

pub walked_first : (start : Tables) (ds : List Declaration) → start ≡ no_tables → walked start ds ≡ tables_from 0 0 ds
walked_first start ds none = rw none refl

pub walked_on : (before after : Tables) (d : Declaration) (ds : List Declaration) →
    after ≡ joined before (tables_in (length before.types) (length before.implementations) d) → walked after ds ≡ walked before (d ∷ ds)
walked_on before after d ds is =
    let one = tables_in (length before.types) (length before.implementations) d in
    rw (is, length-append before.types one.types, length-append before.implementations one.implementations) (joined_assoc before one _)

pub walked_all : (all : Tables) → walked all [] ≡ all
walked_all all = simp append-nil
