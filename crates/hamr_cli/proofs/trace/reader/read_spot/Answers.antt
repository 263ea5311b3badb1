use Rattle.std.proofs.Common.{◌≡◌, ◌∷◌, ◌++◌, arith}
use Rattle.std.specs.Fmt.{decimal}
use Rattle.hamr_cli.proofs.TraceSpots.{decimal-word, spot-split, same-spot}
use Rattle.hamr_cli.proofs.trace.reader.read_spot.Goals as goal

pub returns-in_err-frame-clause-only : goal.returns-in_err-frame-clause-only
returns-in_err-frame-clause-only c = λ spot more fits e.
    absurd (c.in_err-frame.ensures.only (decimal spot.frame) (decimal spot.slot ++ 32 ∷ more) (decimal-word spot.frame fits.frame_bits) (spot-split spot more _ e))

pub returns-in_err-slot-clause-only : goal.returns-in_err-slot-clause-only
returns-in_err-slot-clause-only c = λ spot more fits e.
    let first = c.in_ok-frame.ensures.only (decimal spot.frame) (decimal spot.slot ++ 32 ∷ more) (decimal-word spot.frame fits.frame_bits) (spot-split spot more _ e) in
    absurd (c.in_err-slot.ensures.only (decimal spot.slot) more (decimal-word spot.slot (omega (arith, fits.slot_bits))) first.1)

pub returns-in_err-frame-2-clause-only : goal.returns-in_err-frame-2-clause-only
returns-in_err-frame-2-clause-only c = λ spot more fits e.
    let first = c.in_ok-frame.ensures.only (decimal spot.frame) (decimal spot.slot ++ 32 ∷ more) (decimal-word spot.frame fits.frame_bits) (spot-split spot more _ e) in
    absurd (let none = c.in_err-frame-2.ensures.only spot.frame fits.frame_bits first.0 in cc)

pub returns-in_err-slot-2-clause-only : goal.returns-in_err-slot-2-clause-only
returns-in_err-slot-2-clause-only c = λ spot more fits e.
    let first = c.in_ok-frame.ensures.only (decimal spot.frame) (decimal spot.slot ++ 32 ∷ more) (decimal-word spot.frame fits.frame_bits) (spot-split spot more _ e) in
    let second = c.in_ok-slot.ensures.only (decimal spot.slot) more (decimal-word spot.slot (omega (arith, fits.slot_bits))) first.1 in
    absurd (let none = c.in_err-slot-2.ensures.only spot.slot (omega (arith, fits.slot_bits)) second.0 in cc)

pub returns-then-slot-ge-SLOT_END-clause-only : goal.returns-then-slot-ge-SLOT_END-clause-only
returns-then-slot-ge-SLOT_END-clause-only c = λ spot more fits e.
    let first = c.in_ok-frame.ensures.only (decimal spot.frame) (decimal spot.slot ++ 32 ∷ more) (decimal-word spot.frame fits.frame_bits) (spot-split spot more _ e) in
    let second = c.in_ok-slot.ensures.only (decimal spot.slot) more (decimal-word spot.slot (omega (arith, fits.slot_bits))) first.1 in
    let some = c.in_ok-slot-2.ensures.only spot.slot (omega (arith, fits.slot_bits)) second.0 in
    let same : c.in_ok-slot-2.slot ≡ spot.slot = cc in
    omega (arith, fits.slot_bits, same)

pub returns-clause-only : goal.returns-clause-only
returns-clause-only c = λ spot more fits e.
    let first = c.in_ok-frame.ensures.only (decimal spot.frame) (decimal spot.slot ++ 32 ∷ more) (decimal-word spot.frame fits.frame_bits) (spot-split spot more _ e) in
    let second = c.in_ok-slot.ensures.only (decimal spot.slot) more (decimal-word spot.slot (omega (arith, fits.slot_bits))) first.1 in
    let frame = c.in_ok-frame-2.ensures.only spot.frame fits.frame_bits first.0 in
    let slot = c.in_ok-slot-2.ensures.only spot.slot (omega (arith, fits.slot_bits)) second.0 in
    (same-spot _ _ spot (cc) (cc), second.1)
