-- What a contract has (this project's own, after the contracts of GUMBO).
use Rattle.std.specs.Prelude.{List, []}
use Rattle.gumbo_check.specs.declared.clause.Clause.{Clause}
use Rattle.gumbo_check.specs.declared.state_var.StateVar.{StateVar}

-- the clauses and the state variables of a contract, in the order of the text
pub record Checked : Type 0 where
  pub clauses : List Clause
  pub state : List StateVar

-- a contract that says nothing
abbrev pub empty_contract : Checked
empty_contract = record { clauses = []; state = [] }
