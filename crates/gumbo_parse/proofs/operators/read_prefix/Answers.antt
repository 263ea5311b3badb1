use Rattle.gumbo_parse.specs.Levels.{prefixes}
use Rattle.gumbo_parse.specs.Values.{shape_of, same_shape}
use Rattle.hw_reading.proofs.Shapes.{some-listed}
use Rattle.gumbo_parse.proofs.operators.read_prefix.Goals as goal

pub read_listed-requires : goal.read_listed-requires
read_listed-requires c = rw c.prefixes.ensures (some-listed shape_of same_shape (prefixes c.args.level) c.args.tokens.now c.requires)
