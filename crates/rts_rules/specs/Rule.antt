-- The word of each event, and the rule that speaks of it.
use Rattle.std.specs.Prelude.{ℕ, List, codes}
use Rattle.rts_rules.specs.declared.event.What.{What}
use Rattle.rts_rules.specs.declared.event.What.TheVariants as what
use Rattle.rts_rules.specs.declared.rule.Rule.{Rule}
use Rattle.rts_rules.specs.declared.rule.Rule.TheVariants as rule

abbrev pub rule_of : What → Rule
rule_of what.Tick = rule.Tick
rule_of what.Init = rule.Init
rule_of what.Begin = rule.Begin
rule_of what.Void = rule.Void
rule_of what.Compute = rule.Compute
rule_of what.Send = rule.Send
rule_of what.End = rule.End
rule_of (what.Receive port items) = rule.Receive
rule_of (what.Put port value) = rule.Put
rule_of (what.Release port value) = rule.Release
rule_of (what.Verdict clause holds) = rule.Verdict

abbrev pub word_of : Rule → List ℕ
word_of rule.Tick = codes "tick"
word_of rule.Init = codes "init"
word_of rule.Begin = codes "begin"
word_of rule.Void = codes "void"
word_of rule.Compute = codes "compute"
word_of rule.Send = codes "send"
word_of rule.End = codes "end"
word_of rule.Receive = codes "receive"
word_of rule.Put = codes "put"
word_of rule.Release = codes "release"
word_of rule.Verdict = codes "verdict"
