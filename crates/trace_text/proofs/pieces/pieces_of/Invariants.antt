use Rattle.std.proofs.Common.{◌≡◌, ◌≤◌, ◌-◌, ◌++◌, [], List, length}
use Rattle.trace_text.specs.declared.piece.Piece.{Piece}
use Rattle.trace_text.specs.Pieces.{ArePiecesOf, pieces_at}
use Rattle.trace_text.specs.Working.{all_left}
use Rattle.trace_text.proofs.pieces.pieces_of.Given as goal

abbrev pub invariant-loop-step : goal.invariant-loop-step
invariant-loop-step l = record {
  listed : (all : List (List Piece)) → ArePiecesOf l.types all → l.pieces ++ all_left l.types all l.left [] ≡ pieces_at all l.place;
  many : l._step ≤ length l.pieces;
}

abbrev pub decreases-loop-step : goal.decreases-loop-step
decreases-loop-step l = 18446744073709551616 - l._step
