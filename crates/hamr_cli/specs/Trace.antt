-- What the lines of a trace may say, and which line is the first that is not of the form.
use Rattle.std.specs.Prelude.{◌≡◌, ◌≢◌, ◌⊎◌, ℕ, ℤ, Bool, true, false, ◌+◌, ◌<◌, ◌≤◌, ◌^◌, List, [], ◌++◌, length, All}
use Rattle.arch_model.specs.declared.parts.ArchParts.{ArchParts}
use Rattle.arch_model.specs.declared.id.PdId.{PdId}
use Rattle.arch_model.specs.declared.id.PortId.{PortId}
use Rattle.hamr_cli.specs.PortType.{IsPortValue}
use Rattle.hw_text.specs.Name.{is_name}
use Rattle.rts_rules.specs.declared.event.What.{What}
use Rattle.rts_rules.specs.declared.event.What.TheVariants as act
use Rattle.rts_rules.specs.Domain.{IsDevice, IsPortOf}
use Rattle.hw_types.specs.declared.spot.Spot.{Spot}
use Rattle.hamr_cli.specs.declared.trace.line.Line.{Line}
use Rattle.hamr_cli.specs.TraceText.{domain_name, port_name, line_text, trace_text}

-- numbers of 64 and of 32 bits
pub record FitsSpot (spot : Spot) : Type 0 where
  pub frame_bits : spot.frame < 2 ^ 64
  pub slot_bits : spot.slot < 2 ^ 32

-- a device that a NAME names
pub record IsNamedDevice (arch : ArchParts) (who : PdId) : Type 0 where
  pub device : IsDevice arch who
  pub name : is_name (domain_name arch who) ≡ true

-- an out port, or an in port, of the domain, that a NAME names
pub record IsNamedPort (arch : ArchParts) (who : PdId) (outward : Bool) (port : PortId) : Type 0 where
  pub own : IsPortOf arch who outward port
  pub name : is_name (port_name arch port) ≡ true

pub record FitsReceive (arch : ArchParts) (who : PdId) (port : PortId) (values : List (List ℤ)) : Type 0 where
  pub in_port : IsNamedPort arch who false port
  pub typed : All IsPortValue values

pub record FitsRelease (arch : ArchParts) (who : PdId) (port : PortId) (value : List ℤ) : Type 0 where
  pub out_port : IsNamedPort arch who true port
  pub typed : IsPortValue value

-- devices receive and release, and do nothing else
abbrev pub FitsWhat : ArchParts → PdId → What → Type 0
FitsWhat arch who act.Tick = ⊥
FitsWhat arch who act.Init = ⊥
FitsWhat arch who act.Begin = ⊥
FitsWhat arch who act.Void = ⊥
FitsWhat arch who act.Compute = ⊥
FitsWhat arch who act.Send = ⊥
FitsWhat arch who act.End = ⊥
FitsWhat arch who (act.Receive port values) = FitsReceive arch who port values
FitsWhat arch who (act.Put port value) = ⊥
FitsWhat arch who (act.Release port value) = FitsRelease arch who port value
FitsWhat arch who (act.Verdict clause holds) = ⊥

pub record FitsTrace (arch : ArchParts) (line : Line) : Type 0 where
  pub spot : FitsSpot line.spot
  pub device : IsNamedDevice arch line.event.who
  pub what : FitsWhat arch line.event.who line.event.what

-- a trace has at most 64 MiB
abbrev pub limit : ℕ
limit = 67108864

-- the bytes are the text of these lines
pub record IsTraceOf (arch : ArchParts) (bytes : List ℕ) (lines : List Line) : Type 0 where
  pub within : length bytes ≤ limit
  pub text : bytes ≡ trace_text arch lines
  pub fits : All (FitsTrace arch) lines

-- no line of the form begins the bytes
abbrev pub NoLineBegins : ArchParts → List ℕ → Type 0
NoLineBegins arch bytes = (line : Line) (more : List ℕ) → FitsTrace arch line → bytes ≢ line_text arch line ++ more

-- good lines stand in front, and what follows is not empty and begins with no line
pub record HasBadLine (arch : ArchParts) (bytes : List ℕ) (number : ℕ) : Type 0 where
  pub good : List Line
  pub rest : List ℕ
  pub counted : length good + 1 ≡ number
  pub text : bytes ≡ trace_text arch good ++ rest
  pub fits : All (FitsTrace arch) good
  pub some : rest ≢ []
  pub none_begins : NoLineBegins arch rest

-- the number, from 1, of the first line that is not of the form; 0 of a file above the limit
abbrev pub IsFirstBadLine : ArchParts → List ℕ → ℕ → Type 0
IsFirstBadLine arch bytes number =
    ((limit < length bytes) × (number ≡ 0)) ⊎ ((length bytes ≤ limit) × HasBadLine arch bytes number)
