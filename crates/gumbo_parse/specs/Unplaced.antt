-- Contracts without their places: each place is put at the start (this project's own; docs/formats/contracts.md).
use Rattle.std.specs.Prelude.{◌≡◌, map}
use Rattle.std.specs.Option.{option_map}
use Rattle.gumbo_parse.specs.declared.class.Class.{Class}
use Rattle.gumbo_parse.specs.declared.class.Class.TheVariants.{Base, Model}
use Rattle.gumbo_parse.specs.declared.class.Variable.{Variable}
use Rattle.gumbo_parse.specs.declared.class_name.ClassName.{ClassName}
use Rattle.gumbo_parse.specs.declared.contract.Clause.{Clause}
use Rattle.gumbo_parse.specs.declared.contract.Handler.{Handler}
use Rattle.gumbo_parse.specs.declared.contract.Compute.{Compute}
use Rattle.gumbo_parse.specs.declared.contract.Contract.{Contract}
use Rattle.gumbo_parse.specs.declared.expression.Bound.{Bound}
use Rattle.gumbo_parse.specs.declared.expression.Named.{Named}
use Rattle.gumbo_parse.specs.declared.expression.Selector.{Selector}
use Rattle.gumbo_parse.specs.declared.expression.Selector.TheVariants as selector
use Rattle.gumbo_parse.specs.declared.expression.Expression.{Expression}
use Rattle.gumbo_parse.specs.declared.expression.Expression.TheVariants as expression
use Rattle.gumbo_parse.specs.declared.expression.Expression.TheOpen.{Expression-F, Selector-F}
use Rattle.gumbo_parse.specs.declared.expression.Expression.TheOpen as e
use Rattle.gumbo_parse.specs.declared.expression.Expression.TheFolds.{fold-Expression, fold-Selector}
use Rattle.gumbo_parse.specs.Values.{start}

abbrev pub unplaced_named : Named → Named
unplaced_named n = record { name = n.name; place = start }

abbrev pub unplaced_bound : Bound → Bound
unplaced_bound b = record { negative = b.negative; number = b.number; place = start }

-- an expression, its parts being unplaced
abbrev pub unplaced_step : Expression-F Expression Selector → Expression
unplaced_step (e.Number at v) = expression.Number start v
unplaced_step (e.Truth at b) = expression.Truth start b
unplaced_step (e.Value x parts) = expression.Value (unplaced_named x) parts
unplaced_step (e.Before at x parts) = expression.Before start (unplaced_named x) parts
unplaced_step (e.Test at what x) = expression.Test start what (unplaced_named x)
unplaced_step (e.MustSend at x begin sent) = expression.MustSend start (unplaced_named x) start sent
unplaced_step (e.Unary at operator x) = expression.Unary start operator x
unplaced_step (e.Binary at operator l r) = expression.Binary start operator l r
unplaced_step (e.Quantified at all x from below begin body) =
    expression.Quantified start all (unplaced_named x) (unplaced_bound from) (unplaced_bound below) start body

abbrev pub unplaced_part_step : Selector-F Expression Selector → Selector
unplaced_part_step (e.Field x) = selector.Field (unplaced_named x)
unplaced_part_step (e.Index begin x) = selector.Index start x

abbrev pub unplaced_expression : Expression → Expression
unplaced_expression x = fold-Expression Expression Selector unplaced_step unplaced_part_step x

abbrev pub unplaced_part : Selector → Selector
unplaced_part x = fold-Selector Expression Selector unplaced_step unplaced_part_step x

abbrev pub unplaced_first : ClassName → ClassName
unplaced_first n = record { name = n.name; place = start; other = n.other }

abbrev pub unplaced_class : Class → Class
unplaced_class (Base at base) = Base start base
unplaced_class (Model m) = Model (record { first = unplaced_first m.first; others = m.others; implementation = m.implementation })

abbrev pub unplaced_variable : Variable → Variable
unplaced_variable v = record { name = unplaced_named v.name; class = unplaced_class v.class }

abbrev pub unplaced_clause : Clause → Clause
unplaced_clause c = record {
  kind = c.kind;
  name = unplaced_named c.name;
  description = c.description;
  expression_place = start;
  expression = unplaced_expression c.expression;
}

abbrev pub unplaced_handler : Handler → Handler
unplaced_handler h = record { port = unplaced_named h.port; first = unplaced_clause h.first; others = map unplaced_clause h.others }

abbrev pub unplaced_compute : Compute → Compute
unplaced_compute c = record { clauses = map unplaced_clause c.clauses; handlers = map unplaced_handler c.handlers }

abbrev pub unplaced_contract : Contract → Contract
unplaced_contract c = record {
  state = map unplaced_variable c.state;
  integration = map unplaced_clause c.integration;
  initialize = map unplaced_clause c.initialize;
  compute = option_map unplaced_compute c.compute;
}

-- the same contracts but for where their parts stand
abbrev pub SameContract : Contract → Contract → Type 0
SameContract c d = unplaced_contract c ≡ unplaced_contract d
