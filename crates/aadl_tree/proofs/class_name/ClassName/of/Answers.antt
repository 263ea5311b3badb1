use Rattle.std.proofs.Common.{sym}
use Rattle.aadl_tree.proofs.OwnNames.{own_name_of}
use Rattle.aadl_tree.proofs.class_name.ClassName.of.Goals as goal

pub returns-else-eq : goal.returns-else-eq
returns-else-eq c = sym (own_name_of _)
