use Rattle.c_parse.proofs.OutermostFailures.{failure}
use Rattle.c_parse.proofs.OutermostLong.{refused}
use Rattle.c_parse.proofs.OutermostTold.{told}
use Rattle.c_parse.proofs.flaw_laws.outermost_expressions.Goals as goal

pub returns-clause-refused : goal.returns-clause-refused
returns-clause-refused c ts i end goes long sound = refused ts i end goes long sound

pub returns-clause-failure : goal.returns-clause-failure
returns-clause-failure c ts end stop i n at fails = failure ts end stop i n at fails

pub returns-clause-told : goal.returns-clause-told
returns-clause-told c ts i end within too_long = told ts i end within too_long
