-- What it means that tokens are read as a value of a language, and that no text of the language goes on (this project's own).
-- A reader looks at no more than the first token behind what it reads. So what it says holds beside each text that agrees with
-- what it read up to that token.
use Rattle.std.specs.Prelude.{◌≡◌, List, [], ◌∷◌, ◌++◌, Option, Some, None, Result, Ok, Err, Bool, true, false, ⊤}
use Rattle.hw_text.specs.declared.read_fault.ReadFault.{ReadFault}
use Rattle.hw_text.specs.declared.read_fault.ReadFault.TheVariants.{Syntax, NoMemory}

abbrev pub first : {T : Type 0} → List T → Option T
first [] = None
first (t ∷ ts) = Some t

-- what the first token stands for
abbrev pub ahead : {T X : Type 0} → (T → Option X) → List T → Option X
ahead value [] = None
ahead value (t ∷ ts) = value t

-- whatever stands behind
abbrev pub Anything : {T : Type 0} → List T → Type 0
Anything m = ⊤

-- what stands behind is the end
abbrev pub TheEnd : {T : Type 0} → List T → Type 0
TheEnd m = m ≡ []

-- whether the first token is such a one
abbrev pub begins : {T : Type 0} → (T → Bool) → List T → Bool
begins test [] = false
begins test (t ∷ ts) = test t

-- what stands behind begins with such a token
abbrev pub BeginsWith : {T : Type 0} → (T → Bool) → List T → Type 0
BeginsWith test m = begins test m ≡ true

-- what stands behind begins with no such token
abbrev pub BeginsWithout : {T : Type 0} → (T → Bool) → List T → Type 0
BeginsWithout test m = begins test m ≡ false

-- each text of the language begins with a token for which the test is so
abbrev pub Begins : {T X : Type 0} → (T → Bool) → Bool → (X → List T → Type 0) → Type 0
Begins {T} {X} test so A = (x : X) (w m : List T) → A x w → begins test (w ++ m) ≡ so

-- From `before` what was taken is a text of the value. Each text of the language that agrees with it, up to the first token behind,
-- and that is followed as texts of the language may be, is this text of this value.
pub record Reached {T X : Type 0} (A : X → List T → Type 0) (Follows : List T → Type 0) (before after : List T) (x : X) : Type 0 where
  pub taken : List T
  pub split : before ≡ taken ++ after
  pub spelled : A x taken
  pub only : (y : X) (w m n : List T) → A y w → Follows m → w ++ m ≡ taken ++ n → first n ≡ first after → (y ≡ x) × (m ≡ n)

-- What was taken begins a text of the language, and with the first token behind it, or the end there, it does not.
pub record Stuck {T X : Type 0} (A : X → List T → Type 0) (Follows : List T → Type 0) (before after : List T) : Type 0 where
  pub taken : List T
  pub split : before ≡ taken ++ after
  pub goes_on : (x : X) × (more : List T) × A x (taken ++ more)
  pub none : (y : X) (w m n : List T) → A y w → Follows m → w ++ m ≡ taken ++ n → first n ≡ first after → ⊥

-- a call has read from `before` to `after`
abbrev pub Reads : {T X : Type 0} → (X → List T → Type 0) → (List T → Type 0) → List T → List T → Result X ReadFault → Type 0
Reads A Follows before after (Ok x) = Reached A Follows before after x
Reads A Follows before after (Err Syntax) = Stuck A Follows before after
Reads A Follows before after (Err NoMemory) = ⊤

-- What was taken leaves a text of the language `Left` to be read, for a value of which `build` makes the whole one: what a reader
-- knows amid a production.
pub record Leaves {T Y Z : Type 0} (A : Z → List T → Type 0) (Follows : List T → Type 0) (before after : List T) (build : Y → Z) (Left : Y → List T → Type 0) : Type 0 where
  pub taken : List T
  pub split : before ≡ taken ++ after
  pub back : (y : Y) (v : List T) → Left y v → A (build y) (taken ++ v)
  pub forth : (z : Z) (w m n : List T) → A z w → Follows m → w ++ m ≡ taken ++ n → first n ≡ first after → (y : Y) × (v : List T) × (z ≡ build y) × Left y v × (v ++ m ≡ n)
