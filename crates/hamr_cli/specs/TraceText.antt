-- The text of a trace (this project's own; docs/formats/trace.md).
use Rattle.std.specs.Prelude.{ℕ, ℤ, List, [], ◌∷◌, ◌++◌, codes, slice_get}
use Rattle.std.specs.Fmt.{decimal, signed_decimal}
use Rattle.std.specs.List.{flat_map}
use Rattle.std.specs.Option.{option_map_or}
use Rattle.arch_model.specs.declared.parts.ArchParts.{ArchParts}
use Rattle.arch_model.specs.declared.id.PdId.{PdId}
use Rattle.arch_model.specs.declared.id.PortId.{PortId}
use Rattle.rts_rules.specs.declared.event.What.{What}
use Rattle.rts_rules.specs.declared.event.What.TheVariants as act
use Rattle.hw_types.specs.declared.spot.Spot.{Spot}
use Rattle.hamr_cli.specs.declared.trace.line.Line.{Line}

abbrev pub domain_name : ArchParts → PdId → List ℕ
domain_name arch who = option_map_or (λ pd. pd.name) (slice_get arch.pds who.0) []

abbrev pub port_name : ArchParts → PortId → List ℕ
port_name arch port = option_map_or (λ p. p.name) (slice_get arch.ports port.0) []

-- the number of a value
abbrev pub value_text : List ℤ → List ℕ
value_text [] = []
value_text (n ∷ ns) = signed_decimal n

-- each value behind a comma and a space
abbrev pub further_text : List (List ℤ) → List ℕ
further_text values = flat_map (λ value. 44 ∷ 32 ∷ value_text value) values

-- values with a comma and a space between them
abbrev pub values_text : List (List ℤ) → List ℕ
values_text [] = []
values_text (value ∷ values) = value_text value ++ further_text values

-- the same in brackets
abbrev pub list_text : List (List ℤ) → List ℕ
list_text values = 91 ∷ (values_text values ++ 93 ∷ [])

-- what a device does; other acts have no text here
abbrev pub what_text : ArchParts → What → List ℕ
what_text arch act.Tick = []
what_text arch act.Init = []
what_text arch act.Begin = []
what_text arch act.Void = []
what_text arch act.Compute = []
what_text arch act.Send = []
what_text arch act.End = []
what_text arch (act.Receive port values) = codes "receive " ++ (port_name arch port ++ 32 ∷ list_text values)
what_text arch (act.Put port value) = []
what_text arch (act.Release port value) = codes "release " ++ (port_name arch port ++ 32 ∷ value_text value)
what_text arch (act.Verdict clause holds) = []

-- frame and slot, a space behind each
abbrev pub spot_text : Spot → List ℕ
spot_text spot = decimal spot.frame ++ 32 ∷ (decimal spot.slot ++ 32 ∷ [])

-- FRAME SLOT DOMAIN, what the domain does, and a line end
abbrev pub line_text : ArchParts → Line → List ℕ
line_text arch line =
    spot_text line.spot ++ (domain_name arch line.event.who ++ 32 ∷ (what_text arch line.event.what ++ 10 ∷ []))

abbrev pub trace_text : ArchParts → List Line → List ℕ
trace_text arch lines = flat_map (line_text arch) lines
