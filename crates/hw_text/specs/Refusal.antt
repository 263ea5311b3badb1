-- The line that tells a refusal: `refused FILE L:C NAME DETAIL` and LF (this project's own; docs/formats/refusals.md).
use Rattle.std.specs.Prelude.{ℕ, ℤ, pos, List, [], ◌∷◌, ◌++◌, codes}
use Rattle.std.specs.Fmt.{signed_decimal}
use Rattle.hw_text.specs.declared.refusal.Refusal.{Refusal}
use Rattle.hw_text.specs.declared.document.Document.{Document}
use Rattle.hw_text.specs.declared.document.Document.TheVariants as document
use Rattle.hw_text.specs.declared.document.Detail.{Detail}
use Rattle.hw_text.specs.declared.document.Detail.TheVariants as detail
use Rattle.hw_text.specs.Code.{name_of, document_of, detail_of}

-- a part behind a space; an empty part is left out with its space
abbrev pub spaced_word : List ℕ → List ℕ
spaced_word [] = []
spaced_word (b ∷ bs) = codes " " ++ (b ∷ bs)

abbrev pub spaced_number : ℤ → List ℕ
spaced_number n = codes " " ++ signed_decimal n

-- the place, as ` L:C`; traces and run files have none
abbrev pub place_in : Document → Refusal → List ℕ
place_in document.Model r = spaced_number (pos r.place.line) ++ codes ":" ++ signed_decimal (pos r.place.column)
place_in document.Contract r = spaced_number (pos r.place.line) ++ codes ":" ++ signed_decimal (pos r.place.column)
place_in document.UserCode r = spaced_number (pos r.place.line) ++ codes ":" ++ signed_decimal (pos r.place.column)
place_in document.Trace r = []
place_in document.RunFile r = []

abbrev pub place_text : Refusal → List ℕ
place_text r = place_in (document_of r.code) r

-- the parts behind the name
abbrev pub parts_of : Detail → Refusal → List ℕ
parts_of detail.None r = []
parts_of detail.Word r = spaced_word r.word
parts_of detail.Number r = spaced_number r.low
parts_of detail.Bounds r = spaced_number r.low ++ spaced_number r.high
parts_of detail.BoundsAndLength r = spaced_number r.low ++ spaced_number r.high ++ spaced_number r.length
parts_of detail.Count r = spaced_word r.word ++ spaced_number r.low ++ spaced_number r.high

abbrev pub detail_text : Refusal → List ℕ
detail_text r = parts_of (detail_of r.code) r

-- the whole line of a refusal of this file
abbrev pub refusal_line : List ℕ → Refusal → List ℕ
refusal_line file r =
    codes "refused " ++ file ++ place_text r ++ spaced_word (name_of r.code) ++ detail_text r ++ 10 ∷ []
