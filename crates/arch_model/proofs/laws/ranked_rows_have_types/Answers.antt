use Rattle.arch_model.proofs.Ranked.{stand}
use Rattle.arch_model.proofs.laws.ranked_rows_have_types.Goals as goal

pub returns : goal.returns
returns c = λ rank rows ranked words. stand rows rank ranked words
