-- The command that a value of the program's type stands for. No clause of the top call cites this.
use Rattle.hamr_cli.specs.declared.command.Command.{Command as Asked}
use Rattle.hamr_cli.specs.declared.command.Command.TheVariants.{Judge, Tidy}
use Rattle.hamr_cli.specs.Command.{Command, judge, tidy}

abbrev pub asked : Asked → Command
asked (Judge model trace) = judge model.now trace.now
asked (Tidy model) = tidy model.now
