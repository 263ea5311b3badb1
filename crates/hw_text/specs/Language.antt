-- Languages: which tokens spell a value. The productions of a grammar are made of the ones below (this project's own).
use Rattle.std.specs.Prelude.{◌≡◌, List, [], ◌∷◌, ◌++◌, Option, Some, None, ◌⊎◌, ⊤}

-- a token that stands for the value
abbrev pub One : {T X : Type 0} → (T → Option X) → X → List T → Type 0
One {T} value x ts = (t : T) × (ts ≡ t ∷ []) × (value t ≡ Some x)

-- no token
abbrev pub Nothing : {T : Type 0} → ⊤ → List T → Type 0
Nothing x ts = ts ≡ []

infixr 20 ◌⋅◌
-- a text of the one and then a text of the other
abbrev pub ◌⋅◌ : {T X Y : Type 0} → (X → List T → Type 0) → (Y → List T → Type 0) → X × Y → List T → Type 0
◌⋅◌ {T} A B p ts = (us vs : List T) × (ts ≡ us ++ vs) × A p.0 us × B p.1 vs

-- [ x ]
abbrev pub Maybe : {T X : Type 0} → (X → List T → Type 0) → Option X → List T → Type 0
Maybe A None ts = ts ≡ []
Maybe A (Some x) ts = A x ts

-- { x }
abbrev pub Each : {T X : Type 0} → (X → List T → Type 0) → List X → List T → Type 0
Each A [] ts = ts ≡ []
Each {T} A (x ∷ xs) ts = (us vs : List T) × (ts ≡ us ++ vs) × A x us × Each A xs vs

-- a value that is built of another one, and spelled as that
abbrev pub Made : {T Y Z : Type 0} → (Y → Z) → (Y → List T → Type 0) → Z → List T → Type 0
Made {T} {Y} build A z ts = (y : Y) × (z ≡ build y) × A y ts

infixr 10 ◌∣◌
-- a text of the one or of the other
abbrev pub ◌∣◌ : {T Z : Type 0} → (Z → List T → Type 0) → (Z → List T → Type 0) → Z → List T → Type 0
◌∣◌ A B z ts = A z ts ⊎ B z ts

-- a value of the language beside what its tokens show, as the place of the first
abbrev pub Noted : {T P X : Type 0} → (List T → P) → (X → List T → Type 0) → P × X → List T → Type 0
Noted note A p ts = (p.0 ≡ note ts) × A p.1 ts
