-- What a count of components keeps. No clause of a public function cites this.
use Rattle.std.specs.Prelude.{◌≡◌, ℕ, ◌+◌, ◌<◌, ◌≤◌, min, max, Bool, false, List, [], length, Some, slice_get, slice_index_or, slice_set}
use Rattle.aadl_tree.specs.declared.subcomponent.Subcomponent.{Subcomponent}
use Rattle.aadl_names.specs.declared.parts.PartRow.{PartRow}
use Rattle.aadl_names.specs.declared.resolved.Resolved.{Resolved}
use Rattle.aadl_names.specs.declared.tables.Tables.{Tables}
use Rattle.aadl_domains.specs.declared.sought.Sought.{Sought}
use Rattle.aadl_domains.specs.declared.spans.Span.{Span}
use Rattle.aadl_domains.specs.Components.{components_within, counted}

-- that of an implementation
abbrev pub count_of : List ℕ → ℕ → ℕ
count_of counts n = slice_index_or counts n 0

-- how many components these are inside of each implementation
abbrev pub AreCounts : List ℕ → (ℕ → List (List ℕ)) → Type 0
AreCounts counts inside = (n : ℕ) → count_of counts n ≡ counted (length (inside n))

abbrev pub added : List ℕ → ℕ → ℕ → List ℕ
added counts n more = slice_set counts n (counted (count_of counts n + more))

-- the counts of each depth
abbrev pub AreRounds : Sought → Tables → Resolved → List (List ℕ) → Type 0
AreRounds asked t to rounds = (depth : ℕ) → depth < length rounds → AreCounts (slice_index_or rounds depth []) (components_within asked t to depth)

abbrev pub span_of : List Span → ℕ → Span
span_of spans n = slice_index_or spans n (record { start = 0; end = 0 })

-- the part of the table with one more row
abbrev pub widened : Span → ℕ → Span
widened span at = record { start = min span.start at; end = max span.end (at + 1) }

abbrev pub IsInside : Span → ℕ → Type 0
IsInside span at = (span.start ≤ at) × (at < span.end)

-- no row of the implementation stands outside
abbrev pub IsSpan : List (PartRow Subcomponent) → ℕ → Span → Type 0
IsSpan rows n span = (at : ℕ) (row : PartRow Subcomponent) → slice_get rows at ≡ Some row → row.owner ≡ n → IsInside span at

-- none of the first rows does
abbrev pub AreSpansOf : List (PartRow Subcomponent) → ℕ → List Span → Type 0
AreSpansOf rows many spans =
    (n : ℕ) → n < length spans → (at : ℕ) (row : PartRow Subcomponent) → at < many → slice_get rows at ≡ Some row → row.owner ≡ n → IsInside (span_of spans n) at

abbrev pub AreSpans : Tables → List Span → Type 0
AreSpans t spans = (n : ℕ) → n < length t.implementations → IsSpan t.subcomponents n (span_of spans n)

abbrev pub has : List Bool → ℕ → Bool
has marks row = slice_index_or marks row false
