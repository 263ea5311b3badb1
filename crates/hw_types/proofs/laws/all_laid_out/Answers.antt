use Rattle.hw_types.proofs.Types.{sound}
use Rattle.hw_types.proofs.laws.all_laid_out.Goals as goal

pub returns : goal.returns
returns c = record { laid_out = λ ty. (sound ty).laid_out; counted = λ ty. (sound ty).counted; small = λ ty. (sound ty).tight }
