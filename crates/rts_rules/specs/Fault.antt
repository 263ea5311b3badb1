-- Facts for the faults of a step.
use Rattle.std.specs.Prelude.{Result, Ok, Err}
use Rattle.rts_rules.specs.declared.rule.Rule.{Rule}
use Rattle.rts_rules.specs.declared.fault.StepFault.{StepFault}
use Rattle.rts_rules.specs.declared.fault.StepFault.TheVariants.{Illegal, NoMemory}

-- P holds of the rule, where the step was illegal
abbrev pub IfIllegal : {X : Type 0} → Result X StepFault → (Rule → Type 0) → Type 0
IfIllegal (Ok x) P = Unit {0}
IfIllegal (Err (Illegal rule)) P = P rule
IfIllegal (Err NoMemory) P = Unit {0}

-- P holds, where the step wanted memory
abbrev pub IfNoMemory : {X : Type 0} → Result X StepFault → Type 0 → Type 0
IfNoMemory (Ok x) P = Unit {0}
IfNoMemory (Err (Illegal rule)) P = Unit {0}
IfNoMemory (Err NoMemory) P = P
