use Rattle.std.proofs.Common.{ap}
use Rattle.aadl_tree.specs.declared.page.Margin.TheVariants.{LineStart}
use Rattle.aadl_tree.specs.Layout.{laid_from}
use Rattle.aadl_tree.proofs.UnplacedTokens.{same-tokens}
use Rattle.aadl_tree.proofs.laws.places_do_not_show.Goals as goal

pub returns : goal.returns
returns c = λ p q same. ap (laid_from LineStart) (same-tokens p q same)
