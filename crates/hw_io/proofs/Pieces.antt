-- Two pieces that follow one another are one.
use Rattle.std.proofs.Common.{◌≡◌, ℕ, ◌+◌, List, ◌++◌, take, drop, Option, Some, None, subst, append_assoc}
use Rattle.std.proofs.Math.Seq.{take-add}
use Rattle.hw_io.specs.Written.{Appends}

pub two_pieces : (old mid new : Option (List ℕ)) (bytes rest : List ℕ) (d n : ℕ) → rest ≡ drop d bytes → Appends old mid (take d bytes) → Appends mid new (take n rest) → Appends old new (take (d + n) bytes)
two_pieces None mid new bytes rest d n is first second = tt
two_pieces (Some before) mid new bytes rest d n is first second =
    let grown : new ≡ Some ((before ++ take d bytes) ++ take n rest) = subst (λ (m : Option (List ℕ)). Appends m new (take n rest)) first second in
    cc (grown, is, append_assoc before (take d bytes) (take n rest), take-add d n bytes)
