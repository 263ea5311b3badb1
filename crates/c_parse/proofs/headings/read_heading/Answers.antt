use Rattle.c_parse.proofs.Steps.{fails, made, passed, passed_by, stuck_in, stuck_by, stuck_last, done, both}
use Rattle.c_parse.proofs.Leaves.{the_name}
use Rattle.c_parse.proofs.HeadingTexts.{static_follow, a_result}
use Rattle.c_parse.proofs.headings.read_heading.Goals as goal

pub returns-in_err-is_static : goal.returns-in_err-is_static
returns-in_err-is_static c = fails _ _ c.from_residual.ensures.1 c.in_err-is_static.ensures (stuck_by (made _ _ _ _) static_follow (both a_result the_name))

pub returns-in_err-class : goal.returns-in_err-class
returns-in_err-class c = fails _ _ c.from_residual-in_err-class.ensures.1 c.in_err-class.ensures (stuck_in (passed_by (made _ _ _ _) static_follow c.in_ok-is_static.ensures) the_name)

pub returns-in_err-name : goal.returns-in_err-name
returns-in_err-name c = fails _ _ c.from_residual-in_err-name.ensures.1 c.in_err-name.ensures (stuck_last (passed (passed_by (made _ _ _ _) static_follow c.in_ok-is_static.ensures) c.in_ok-class.ensures))

pub returns : goal.returns
returns c = done (passed (passed_by (made _ _ _ _) static_follow c.in_ok-is_static.ensures) c.in_ok-class.ensures) c.in_ok-name.ensures
