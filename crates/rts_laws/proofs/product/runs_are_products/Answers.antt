use Rattle.rts_laws.proofs.Products.{product}
use Rattle.rts_laws.proofs.product.runs_are_products.Goals as goal

pub returns : goal.returns
returns c = λ arch events of. product arch events of
