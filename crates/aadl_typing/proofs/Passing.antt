-- What a pass over rows has found so far.
use Rattle.std.proofs.Common.{◌≡◌, ℕ, ◌+◌, ◌<◌, Bool, true, false, List, Option, refl, subst, arith, below_more}
use Rattle.aadl_typing.specs.Marked.{IsSound, IsDone, flawless_count}

pub record IsPassed (rows : List (Option (List ℕ))) (start now : List Bool) (found : Bool) (many : ℕ) : Type 0 where
  pub sound : IsSound rows now
  pub same : found ≡ false → now ≡ start
  pub done : found ≡ false → (n : ℕ) → n < many → IsDone rows start n
  pub fewer : found ≡ true → flawless_count now < flawless_count start

pub passed_none : (rows : List (Option (List ℕ))) (start : List Bool) → IsSound rows start → IsPassed rows start start false 0
passed_none rows start sound = record {
  sound = sound;
  same = λ is. refl;
  done = λ is n below. absurd (omega arith);
  fewer = λ is. absurd (cc);
}

-- a row in which a flaw was found
pub passed_found : (rows : List (Option (List ℕ))) (start before now : List Bool) (found : Bool) (many : ℕ) → IsPassed rows start before found many →
    IsSound rows now → flawless_count now < flawless_count before → IsPassed rows start now true (many + 1)
passed_found rows start before now true many old sound fewer = record {
  sound = sound;
  same = λ is. absurd (cc);
  done = λ is. absurd (cc);
  fewer = λ is. let a = old.fewer refl in omega arith;
}
passed_found rows start before now false many old sound fewer = record {
  sound = sound;
  same = λ is. absurd (cc);
  done = λ is. absurd (cc);
  fewer = λ is. subst (λ (flaws : List Bool). flawless_count now < flawless_count flaws) (old.same refl) fewer;
}

-- and one in which none was
pub passed_more : (rows : List (Option (List ℕ))) (start before now : List Bool) (found : Bool) (many : ℕ) → IsPassed rows start before found many →
    now ≡ before → IsDone rows before many → IsPassed rows start now found (many + 1)
passed_more rows start before now found many old same done = rw same record {
  sound = old.sound;
  same = old.same;
  done = λ is. below_more (λ (n : ℕ). IsDone rows start n) many (old.done is) (subst (λ (flaws : List Bool). IsDone rows flaws many) (old.same is) done);
  fewer = old.fewer;
}
