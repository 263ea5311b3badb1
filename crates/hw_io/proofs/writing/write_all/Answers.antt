-- the piece that the sink took stands behind what went out before
use Rattle.std.proofs.Common.{arith}
use Rattle.hw_io.proofs.Pieces.{two_pieces}
use Rattle.hw_io.proofs.writing.write_all.Goals as goal

pub loop-done-preserved : goal.loop-done-preserved
loop-done-preserved g c = record {
  within = omega (arith, c.in_ok-done.ensures.within, c.split_at.ensures.back_len);
  written = two_pieces _ _ _ _ _ _ _ c.split_at.ensures.back c.loop-done.invariant.written c.in_ok-done.ensures.written;
  counted = omega (arith, c.loop-done.invariant.counted, c.write.ensures.counted);
}
