-- Where tokens stand in a text. A relation of three lists says of a text in which way it is made of what stands before some tokens, of
-- these, and of what stands behind them; the ones below make such relations (this project's own).
use Rattle.std.specs.Prelude.{◌≡◌, [], ◌++◌, ◌⊎◌}
use Rattle.c_parse.specs.Values.{Tokens}

-- they are a whole text of the language
abbrev pub All : {X : Type 0} → (X → Tokens → Type 0) → Tokens → Tokens → Tokens → Type 0
All {X} A us es vs = (x : X) × (us ≡ []) × (vs ≡ []) × A x es

infixr 15 ◌▸◌
-- a text of the language, and behind it a text in which they stand so
abbrev pub ◌▸◌ : {X : Type 0} → (X → Tokens → Type 0) → (Tokens → Tokens → Tokens → Type 0) → Tokens → Tokens → Tokens → Type 0
◌▸◌ {X} A M us es vs = (x : X) × (ws ms : Tokens) × (us ≡ ws ++ ms) × A x ws × M ms es vs

infixr 15 ◌◂◌
-- a text in which they stand so, and behind it a text of the language
abbrev pub ◌◂◌ : {X : Type 0} → (Tokens → Tokens → Tokens → Type 0) → (X → Tokens → Type 0) → Tokens → Tokens → Tokens → Type 0
◌◂◌ {X} M A us es vs = (x : X) × (ms ws : Tokens) × (vs ≡ ms ++ ws) × M us es ms × A x ws

infixr 10 ◌∥◌
-- a text in which they stand in the one way or in the other
abbrev pub ◌∥◌ : (Tokens → Tokens → Tokens → Type 0) → (Tokens → Tokens → Tokens → Type 0) → Tokens → Tokens → Tokens → Type 0
◌∥◌ M N us es vs = M us es vs ⊎ N us es vs
