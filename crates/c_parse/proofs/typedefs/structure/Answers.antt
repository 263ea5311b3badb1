use Rattle.c_parse.proofs.Steps.{fails, made, passed, passed_by, stuck_in, stuck_by, stuck_last, done, both, no_member}
use Rattle.c_parse.proofs.TypedefTexts.{a_closing, a_member, members-follow}
use Rattle.c_parse.proofs.typedefs.structure.Goals as goal

pub returns-in_err-opening : goal.returns-in_err-opening
returns-in_err-opening c = fails _ _ c.from_residual.ensures.1 c.in_err-opening.ensures (stuck_in (made _ _ _ _) (both a_member (both (no_member _) a_closing)))

pub returns-in_err-first : goal.returns-in_err-first
returns-in_err-first c = fails _ _ c.from_residual-in_err-first.ensures.1 c.in_err-first.ensures (stuck_in (passed (made _ _ _ _) c.in_ok-opening.ensures) (both (no_member _) a_closing))

pub returns-in_err-others : goal.returns-in_err-others
returns-in_err-others c = fails _ _ c.from_residual-in_err-others.ensures.1 c.in_err-others.ensures (stuck_by (passed (passed (made _ _ _ _) c.in_ok-opening.ensures) c.in_ok-first.ensures) members-follow a_closing)

pub returns-in_err-name : goal.returns-in_err-name
returns-in_err-name c = fails _ _ c.from_residual-in_err-name.ensures.1 c.in_err-name.ensures (stuck_last (passed_by (passed (passed (made _ _ _ _) c.in_ok-opening.ensures) c.in_ok-first.ensures) members-follow c.in_ok-others.ensures))

pub returns : goal.returns
returns c = done (passed_by (passed (passed (made _ _ _ _) c.in_ok-opening.ensures) c.in_ok-first.ensures) members-follow c.in_ok-others.ensures) c.in_ok-name.ensures
