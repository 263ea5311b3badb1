-- What a pass over rows has found so far.
use Rattle.std.proofs.Common.{◌≡◌, ℕ, ◌+◌, ◌<◌, Bool, true, false, ◌||◌, refl, sym, subst, ◌∙◌, arith, below_more}
use Rattle.aadl_names.specs.declared.class_row.ClassRow.{ClassRow}
use Rattle.aadl_types.specs.declared.shapes.Shapes.{Shapes}
use Rattle.aadl_types.specs.Extents.{Known}
use Rattle.aadl_types.specs.Settling.{IsRight, IsDone, unknown_count}

pub record IsPassed (kind : ℕ → ClassRow) (shapes : Shapes) (start now : Known) (found : Bool) (many : ℕ) : Type 0 where
  pub right : IsRight shapes now
  pub same : found ≡ false → now ≡ start
  pub done : found ≡ false → (n : ℕ) → n < many → IsDone shapes start (kind n)
  pub fewer : found ≡ true → unknown_count now < unknown_count start

pub passed_none : (kind : ℕ → ClassRow) (shapes : Shapes) (start : Known) → IsRight shapes start → IsPassed kind shapes start start false 0
passed_none kind shapes start right = record {
  right = right;
  same = λ is. refl;
  done = λ is n below. absurd (omega arith);
  fewer = λ is. absurd (cc);
}

pub passed_more : (kind : ℕ → ClassRow) (shapes : Shapes) (start before now : Known) (found one : Bool) (many : ℕ) → IsPassed kind shapes start before found many →
    IsRight shapes now → (one ≡ false → now ≡ before) → (one ≡ false → IsDone shapes before (kind many)) → (one ≡ true → unknown_count now < unknown_count before) →
    IsPassed kind shapes start now (found || one) (many + 1)
passed_more kind shapes start before now true true many old right same done fewer = record {
  right = right;
  same = λ is. absurd (cc);
  done = λ is. absurd (cc);
  fewer = λ is. let a = old.fewer refl in let b = fewer refl in omega arith;
}
passed_more kind shapes start before now false true many old right same done fewer = record {
  right = right;
  same = λ is. absurd (cc);
  done = λ is. absurd (cc);
  fewer = λ is. subst (λ (k : Known). unknown_count now < unknown_count k) (old.same refl) (fewer refl);
}
passed_more kind shapes start before now true false many old right same done fewer = record {
  right = right;
  same = λ is. absurd (cc);
  done = λ is. absurd (cc);
  fewer = λ is. subst (λ (k : Known). unknown_count k < unknown_count start) (sym (same refl)) (old.fewer refl);
}
passed_more kind shapes start before now false false many old right same done fewer = record {
  right = right;
  same = λ is. same refl ∙ old.same refl;
  done = λ is. below_more (λ (n : ℕ). IsDone shapes start (kind n)) many (old.done refl) (subst (λ (k : Known). IsDone shapes k (kind many)) (old.same refl) (done refl));
  fewer = λ is. absurd (cc);
}
