use Rattle.gumbo_parse.specs.Levels.{infixes}
use Rattle.gumbo_parse.specs.Values.{shape_of, same_shape}
use Rattle.hw_reading.proofs.Shapes.{some-listed}
use Rattle.gumbo_parse.proofs.operators.read_infix.Goals as goal

pub read_listed-requires : goal.read_listed-requires
read_listed-requires c = rw c.infixes.ensures (some-listed shape_of same_shape (infixes c.args.level) c.args.tokens.now c.requires)
