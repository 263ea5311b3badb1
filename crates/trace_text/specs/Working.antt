-- The pieces of a type, as they are listed one after another. No clause of a public call cites this.
use Rattle.std.specs.Prelude.{ℕ, List, [], ◌∷◌, ◌++◌, map, drop, slice_get, Option, Some, None}
use Rattle.arch_model.specs.declared.form.Form.{Form}
use Rattle.arch_model.specs.declared.form.Form.TheVariants as form
use Rattle.arch_model.specs.declared.type_row.TypeRow.{TypeRow}
use Rattle.trace_text.specs.declared.piece.Piece.{Piece}
use Rattle.trace_text.specs.declared.piece.Piece.TheVariants as piece
use Rattle.trace_text.specs.declared.work.Work.{Work}
use Rattle.trace_text.specs.declared.work.Work.TheVariants as work
use Rattle.trace_text.specs.Pieces.{further, separated, comma_pieces, members, pieces_at}

-- the byte that closes a type of this form
abbrev pub closing : Form → ℕ
closing (form.One kind) = 42
closing form.Fields = 125
closing (form.Times times) = 41
closing form.Nothing = 42

-- the pieces behind the first members of a type
abbrev pub behind_row : List (List Piece) → ℕ → TypeRow → List Piece
behind_row all done row = further comma_pieces (map (pieces_at all) (drop done (members row.form row.parts))) ++ piece.Byte (closing row.form) ∷ []

abbrev pub behind_at : List (List Piece) → ℕ → Option TypeRow → List Piece
behind_at all done None = piece.Byte 42 ∷ []
behind_at all done (Some row) = behind_row all done row

-- the pieces that are to be listed
abbrev pub pieces_left : List TypeRow → List (List Piece) → Work → List Piece
pieces_left types all (work.Whole place) = pieces_at all place
pieces_left types all (work.Behind place done) = behind_at all done (slice_get types place)

-- those of all, the last first, before these
abbrev pub all_left : List TypeRow → List (List Piece) → List Work → List Piece → List Piece
all_left types all [] end = end
all_left types all (w ∷ ws) end = all_left types all ws (pieces_left types all w ++ end)

-- the pieces of a type's members and of what closes it
abbrev pub members_pieces : List (List Piece) → TypeRow → List Piece
members_pieces all row = separated comma_pieces (map (pieces_at all) (members row.form row.parts)) ++ piece.Byte (closing row.form) ∷ []
