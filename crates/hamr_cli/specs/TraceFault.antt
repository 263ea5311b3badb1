-- Facts by the faults of a line and of a trace. No clause of the top call cites this.
use Rattle.std.specs.Prelude.{◌≡◌, ℕ, List, Result, Ok, Err}
use Rattle.hamr_cli.specs.declared.trace.fault.LineFault.{LineFault}
use Rattle.hamr_cli.specs.declared.trace.fault.LineFault.TheVariants as line
use Rattle.hamr_cli.specs.declared.trace.fault.TraceFault.{TraceFault}
use Rattle.hamr_cli.specs.declared.trace.fault.TraceFault.TheVariants as trace
use Rattle.hamr_cli.specs.declared.trace.line.Line.{Line}

-- want of memory, and not the text
abbrev pub IsMemory : LineFault → Type 0
IsMemory line.BadLine = ⊥
IsMemory line.NoMemory = Unit {0}

-- the text, and not want of memory
abbrev pub OnBadText : {X : Type 0} → Result X LineFault → Type 0 → Type 0
OnBadText (Ok x) P = Unit {0}
OnBadText (Err line.BadLine) P = P
OnBadText (Err line.NoMemory) P = Unit {0}

-- P holds of the number of the line of a refusal
abbrev pub OnBadLine : {X : Type 0} → Result X TraceFault → (ℕ → Type 0) → Type 0
OnBadLine (Ok x) P = Unit {0}
OnBadLine (Err (trace.BadLine number)) P = P number
OnBadLine (Err trace.NoMemory) P = Unit {0}

-- these lines, unless memory ran out
abbrev pub GivesTrace : Result (List Line) TraceFault → List Line → Type 0
GivesTrace (Ok given) lines = given ≡ lines
GivesTrace (Err (trace.BadLine number)) lines = ⊥
GivesTrace (Err trace.NoMemory) lines = Unit {0}

-- this line is refused, unless memory ran out
abbrev pub GivesBadLine : {X : Type 0} → Result X TraceFault → ℕ → Type 0
GivesBadLine (Ok given) number = ⊥
GivesBadLine (Err (trace.BadLine line)) number = line ≡ number
GivesBadLine (Err trace.NoMemory) number = Unit {0}
