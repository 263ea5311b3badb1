use Rattle.std.proofs.Common.{refl, codes}
use Rattle.hw_text.specs.BaseTypes.{base_name}
use Rattle.gumbo_parse.specs.Classes.{base_text}
use Rattle.gumbo_parse.proofs.PrintedForms.{last}
use Rattle.gumbo_parse.proofs.print_class.print_base.Goals as goal

pub returns : goal.returns
returns c =
    last c.word-2.result c.args.out.now c.word.new.self c.word-2.new.self (codes "base_types::") (base_name c.args.base) (base_text c.args.base)
    c.in_ok-word.ensures.ok refl (rw (c.as_bytes.ensures.value, c.name.ensures) at c.word-2.ensures.ok)
