use Rattle.std.proofs.Common.{◌≡◌, ◌∙◌, sym, subst, IfSome}
use Rattle.hw_text.specs.BaseTypes.{base_name, base_named}
use Rattle.hw_text.proofs.BaseNames.{own_named, named_own}
use Rattle.hw_text.proofs.base_type.BaseType.named.Goals as goal

pub returns-clause-own : goal.returns-clause-own
unfolding base_named
returns-clause-own c = subst (λ r. IfSome r (λ b. c.args.name.now ≡ base_name b)) (sym c.among.ensures) (own_named c.args.name.now)

pub returns-clause-all : goal.returns-clause-all
unfolding base_named
returns-clause-all c base same = c.among.ensures ∙ named_own c.args.name.now base same
