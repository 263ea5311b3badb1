-- Whole lists of tokens: which are texts of a language, and with how many of its tokens another one goes on (this project's own).
use Rattle.std.specs.Prelude.{◌≡◌, ◌≤◌, ◌<◌, ◌+◌, ℕ, List, ◌++◌, length, take}
use Rattle.hw_text.specs.declared.whole.Whole.{Whole}
use Rattle.hw_text.specs.declared.whole.Whole.TheVariants as whole

-- some text of the language begins with these tokens
abbrev pub GoesOn : {T X : Type 0} → (X → List T → Type 0) → List T → Type 0
GoesOn {T} {X} A ts = (x : X) × (more : List T) × A x (ts ++ more)

-- some text begins with so many of the tokens and none with one more; or all of them begin a text, and are none
pub record GoesNoFurther {T X : Type 0} (A : X → List T → Type 0) (ts : List T) (i : ℕ) : Type 0 where
  pub within : i ≤ length ts
  pub goes_on : GoesOn A (take i ts)
  pub no_further : i < length ts → GoesOn A (take (i + 1) ts) → ⊥
  pub no_text : i ≡ length ts → (x : X) → A x ts → ⊥

-- the tokens are a text of the value and of no other; or they go on no further than this
abbrev pub IsWhole : {T X : Type 0} → (X → List T → Type 0) → List T → Whole X → Type 0
IsWhole {T} {X} A ts (whole.Text x) = A x ts × ((y : X) → A y ts → y ≡ x)
IsWhole A ts (whole.Stuck i) = GoesNoFurther A ts i

-- how many of so many tokens a text of the language begins with
abbrev pub passed_in : {X : Type 0} → ℕ → Whole X → ℕ
passed_in n (whole.Text x) = n
passed_in n (whole.Stuck i) = i
