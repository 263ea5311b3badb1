-- The text of a line of a trace (this project's own; docs/formats/trace.md).
use Rattle.std.specs.Prelude.{ℕ, ℤ, Bool, true, false, List, [], ◌∷◌, ◌++◌, map, codes, slice_get}
use Rattle.std.specs.Fmt.{decimal}
use Rattle.std.specs.List.{flat_map}
use Rattle.std.specs.Option.{option_map_or}
use Rattle.arch_model.specs.declared.parts.ArchParts.{ArchParts}
use Rattle.arch_model.specs.declared.id.PdId.{PdId}
use Rattle.arch_model.specs.declared.id.PortId.{PortId}
use Rattle.gumbo_check.specs.Checked.{Checked}
use Rattle.hw_types.specs.declared.spot.Spot.{Spot}
use Rattle.rts_rules.specs.declared.event.What.{What}
use Rattle.rts_rules.specs.declared.event.What.TheVariants as what
use Rattle.rts_rules.specs.Rule.{rule_of, word_of}
use Rattle.trace_text.specs.declared.line.Line.{Line}
use Rattle.trace_text.specs.declared.piece.Piece.{Piece}
use Rattle.trace_text.specs.Pieces.{comma, separated, pieces_at, filled}

abbrev pub domain_name : ArchParts → PdId → List ℕ
domain_name arch who = option_map_or (λ pd. pd.name) (slice_get arch.pds who.0) []

abbrev pub port_name : ArchParts → PortId → List ℕ
port_name arch port = option_map_or (λ p. p.name) (slice_get arch.ports port.0) []

-- the name of a clause of the domain's contract
abbrev pub clause_name : List Checked → PdId → ℕ → List ℕ
clause_name contracts who clause =
    option_map_or (λ contract. option_map_or (λ c. c.name) (slice_get contract.clauses clause) []) (slice_get contracts who.0) []

-- the pieces of the port's type
abbrev pub port_pieces : ArchParts → List (List Piece) → PortId → List Piece
port_pieces arch all port = option_map_or (λ p. pieces_at all p.ty) (slice_get arch.ports port.0) []

-- the text of a value of the port's type
abbrev pub value_text : ArchParts → List (List Piece) → PortId → List ℤ → List ℕ
value_text arch all port value = filled arch.types (port_pieces arch all port) value

-- values in square brackets
abbrev pub list_text : ArchParts → List (List Piece) → PortId → List (List ℤ) → List ℕ
list_text arch all port values = 91 ∷ (separated comma (map (value_text arch all port) values) ++ 93 ∷ [])

abbrev pub truth_text : Bool → List ℕ
truth_text true = codes "true"
truth_text false = codes "false"

-- what stands behind the word of an event
abbrev pub object_text : ArchParts → List (List Piece) → List Checked → PdId → What → List ℕ
object_text arch all contracts who what.Tick = []
object_text arch all contracts who what.Init = []
object_text arch all contracts who what.Begin = []
object_text arch all contracts who what.Void = []
object_text arch all contracts who what.Compute = []
object_text arch all contracts who what.Send = []
object_text arch all contracts who what.End = []
object_text arch all contracts who (what.Receive port values) = 32 ∷ (port_name arch port ++ 32 ∷ list_text arch all port values)
object_text arch all contracts who (what.Put port value) = 32 ∷ (port_name arch port ++ 32 ∷ value_text arch all port value)
object_text arch all contracts who (what.Release port value) = 32 ∷ (port_name arch port ++ 32 ∷ value_text arch all port value)
object_text arch all contracts who (what.Verdict clause holds) = 32 ∷ (clause_name contracts who clause ++ 32 ∷ truth_text holds)

-- frame and slot, a space behind each
abbrev pub spot_text : Spot → List ℕ
spot_text spot = decimal spot.frame ++ 32 ∷ (decimal spot.slot ++ 32 ∷ [])

-- FRAME SLOT DOMAIN WORD, and a line end
abbrev pub line_text : ArchParts → List (List Piece) → List Checked → Line → List ℕ
line_text arch all contracts line =
    spot_text line.spot ++ (domain_name arch line.event.who ++ 32 ∷ (word_of (rule_of line.event.what) ++
    (object_text arch all contracts line.event.who line.event.what ++ 10 ∷ [])))

abbrev pub trace_text : ArchParts → List (List Piece) → List Checked → List Line → List ℕ
trace_text arch all contracts lines = flat_map (line_text arch all contracts) lines
