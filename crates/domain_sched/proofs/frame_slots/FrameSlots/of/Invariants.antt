use Rattle.std.proofs.Common.{◌≡◌, ◌++◌, drop}
use Rattle.domain_sched.specs.Slots.{slots_of, slots_from}
use Rattle.domain_sched.proofs.frame_slots.FrameSlots.of.Given as goal

abbrev pub invariant-loop-place : goal.invariant-loop-place
invariant-loop-place l = l.slots ++ slots_from l.place (drop l.place l.arch.pds) ≡ slots_of l.arch.pds
