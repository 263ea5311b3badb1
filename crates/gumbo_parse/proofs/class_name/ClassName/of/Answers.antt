use Rattle.std.proofs.Common.{sym}
use Rattle.gumbo_parse.proofs.OtherNames.{other_name_of}
use Rattle.gumbo_parse.proofs.class_name.ClassName.of.Goals as goal

pub returns-else-eq : goal.returns-else-eq
returns-else-eq c = sym (other_name_of _)
