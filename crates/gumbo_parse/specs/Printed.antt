-- Which contracts are printed within the limits (this project's own; docs/formats/contracts.md).
use Rattle.std.specs.Prelude.{◌≤◌, ℕ, List, [], ◌∷◌, ◌++◌, map, length, take, Option, Some, None}
use Rattle.std.specs.List.{All, flat_map}
use Rattle.gumbo_parse.specs.declared.contract.Clause.{Clause}
use Rattle.gumbo_parse.specs.declared.contract.Handler.{Handler}
use Rattle.gumbo_parse.specs.declared.contract.Compute.{Compute}
use Rattle.gumbo_parse.specs.declared.contract.Contract.{Contract}
use Rattle.gumbo_parse.specs.declared.level.Level.TheVariants as level
use Rattle.gumbo_parse.specs.declared.token.Token.{Token}
use Rattle.gumbo_parse.specs.ContractTokens.{contract_tokens}
use Rattle.gumbo_parse.specs.ExpressionTokens.{expression_tokens}
use Rattle.gumbo_parse.specs.Flaws.{open_behind}
use Rattle.gumbo_parse.specs.Values.{Tokens, start}

abbrev pub handler_clauses : Handler → List Clause
handler_clauses h = h.first ∷ h.others

abbrev pub compute_clauses : Option Compute → List Clause
compute_clauses None = []
compute_clauses (Some c) = c.clauses ++ flat_map handler_clauses c.handlers

-- the clauses of all sections
abbrev pub clauses_of : Contract → List Clause
clauses_of c = c.integration ++ c.initialize ++ compute_clauses c.compute

-- tokens, all at the start: brackets are counted wherever they stand
abbrev pub at_start : List Token → Tokens
at_start ts = map (λ t. record { token = t; place = start }) ts

-- its expression has at most 500 tokens
abbrev pub IsShort : Clause → Type 0
IsShort c = length (expression_tokens c.expression level.Implication) ≤ 500

-- behind no token of the canonical text more than 64 brackets are open, and each clause's expression has at most 500 tokens
pub record IsWithinLimits (c : Contract) : Type 0 where
  pub shallow : (k : ℕ) → open_behind 0 (take k (at_start (contract_tokens c))) ≤ 64
  pub short : All IsShort (clauses_of c)
