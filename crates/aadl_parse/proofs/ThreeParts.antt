-- What has been read of a production of three parts, step by step.
use Rattle.std.proofs.Common.{List, ◌++◌}
use Rattle.hw_text.specs.Language.{◌⋅◌}
use Rattle.hw_text.specs.Reading.{Reached, Stuck, Leaves}
use Rattle.hw_text.proofs.Reading.{step, stuck, last, last-stuck}

module _ {T X Y V Z : Type 0} (A : Z → List T → Type 0) (F : List T → Type 0) (before : List T) (build : X × (Y × V) → Z) (A1 : X → List T → Type 0) (A2 : Y → List T → Type 0) (A3 : V → List T → Type 0) (B1 B2 B3 : List T → Type 0) (ahead : Leaves A F before before build (A1 ⋅ A2 ⋅ A3)) (follow1 : (y : Y × V) (w m : List T) → (A2 ⋅ A3) y w → F m → B1 (w ++ m)) (follow2 : (v : V) (w m : List T) → A3 v w → F m → B2 (w ++ m)) (follow3 : (m : List T) → F m → B3 m) (sample2 : (y : Y × V) × (w : List T) × (A2 ⋅ A3) y w) (sample3 : (v : V) × (w : List T) × A3 v w) where
  pub first-stuck : (at : List T) → Stuck A1 B1 before at → Stuck A F before at
  first-stuck at part = stuck A F before A1 B1 before at build (A2 ⋅ A3) ahead follow1 sample2 part

  module _ (at : List T) (x : X) (one : Reached A1 B1 before at x) where
    behind_first : Leaves A F before at (λ y. build (x, y)) (A2 ⋅ A3)
    behind_first = step A F before A1 B1 before at build (A2 ⋅ A3) ahead follow1 x one

    pub second-stuck : (mid : List T) → Stuck A2 B2 at mid → Stuck A F before mid
    second-stuck mid part = stuck A F before A2 B2 at mid (λ y. build (x, y)) A3 behind_first follow2 sample3 part

    module _ (mid : List T) (y : Y) (two : Reached A2 B2 at mid y) where
      behind_second : Leaves A F before mid (λ v. build (x, (y, v))) A3
      behind_second = step A F before A2 B2 at mid (λ y. build (x, y)) A3 behind_first follow2 y two

      pub third-stuck : (after : List T) → Stuck A3 B3 mid after → Stuck A F before after
      third-stuck after part = last-stuck A F before A3 B3 mid after (λ v. build (x, (y, v))) behind_second follow3 part

      pub three-read : (after : List T) (v : V) → Reached A3 B3 mid after v → Reached A F before after (build (x, (y, v)))
      three-read after v part = last A F before A3 B3 mid after (λ v. build (x, (y, v))) behind_second follow3 v part
