-- Words and numbers with something behind them that does not go on with them.
use Rattle.std.proofs.Common.{◌≡◌, ℕ, ◌+◌, suc, Bool, true, false, ◌&&◌, ◌||◌, ◌==◌, List, [], ◌∷◌, ◌++◌, length, cond, refl, add-one, arith}
use Rattle.hw_text.specs.Text.{begins_with, begins_in, is_in, run_length}
use Rattle.hw_text.specs.declared.bytes.ByteClass.{ByteClass}

-- nothing that goes on with a run of this class
abbrev pub Stops : ByteClass → List ℕ → Type 0
Stops class rest = (begins_in class rest ≡ false) × (begins_with 95 rest ≡ false)

begins-over : (class : ByteClass) (bs rest : List ℕ) → begins_in class rest ≡ false → begins_in class (bs ++ rest) ≡ begins_in class bs
begins-over class [] rest e = e
begins-over class (b ∷ bs) rest e = refl

pub run-parts : (v : Bool) (n m : ℕ) → cond v (n + 1) 0 ≡ suc m → (v ≡ true) × (n ≡ m)
run-parts true n m e = (refl, omega (arith, e))
run-parts false n m e = absurd (omega (arith, e))

-- a run that is all of some bytes is all of them still
pub run-over : (class : ByteClass) (bs rest : List ℕ) → run_length class bs ≡ length bs → Stops class rest → run_length class (bs ++ rest) ≡ length bs
run-over class [] [] e s = refl
run-over class [] (r ∷ rest) e s = rw (s.0, s.1) refl
run-over class (b ∷ bs) rest e s =
    let parts = run-parts (is_in class b || ((b == 95) && begins_in class bs)) (run_length class bs) (length bs) e in
    rw (begins-over class bs rest s.0, parts.0, run-over class bs rest parts.1 s, add-one) refl
