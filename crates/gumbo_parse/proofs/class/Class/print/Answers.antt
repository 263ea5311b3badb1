use Rattle.gumbo_parse.proofs.Allowing.{name_allowed}
use Rattle.gumbo_parse.proofs.AllowedContracts.{base_allowed, model_allowed}
use Rattle.gumbo_parse.proofs.class.Class.print.Goals as goal

pub returns-in-Base-clause-allowed : goal.returns-in-Base-clause-allowed
returns-in-Base-clause-allowed c = base_allowed c.print_base.result c.args.self.now c.in-Base.field-0 c.in-Base.base c.in-Base.is

pub returns-in_ok-print_path-in-Model-clause-allowed : goal.returns-in_ok-print_path-in-Model-clause-allowed
returns-in_ok-print_path-in-Model-clause-allowed c =
    model_allowed c.print_implementation.result c.args.self.now c.in-Model.own c.rows-in-Model.result.now c.in-Model.is c.rows-in-Model.ensures
    (name_allowed c.in-Model.own.first.name c.rows.ensures.identifier c.rows.ensures.lower) c.in_ok-print_path-in-Model.ensures.allowed c.print_implementation.ensures.allowed
