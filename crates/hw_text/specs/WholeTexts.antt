-- Which texts are texts of a language, and why others are refused: for what is told before all else, or for the first failure in the text.
-- The same for each language, which is given by its rules (this project's own).
use Rattle.std.specs.Prelude.{◌≡◌, ◌≤◌, ◌<◌, ◌+◌, ◌⊎◌, ℕ, List, length, take, Option, Some, None, Result, Ok, Err}
use Rattle.hw_text.specs.declared.fault.Fault.{Fault}
use Rattle.hw_text.specs.declared.fault.Fault.TheVariants as fault
use Rattle.hw_text.specs.declared.place.Place.{Place}
use Rattle.hw_text.specs.declared.refusal.Refusal.{Refusal}
use Rattle.hw_text.specs.WholeLists.{GoesOn}

-- What decides over the texts of a language, T being its tokens, S what may stand where the tokens of a text end, and X what texts are
-- texts of.
pub record Rules (T S X : Type 0) : Type 1 where
  -- what is told of a text before its tokens are looked at, as of one that is too long
  pub before : List ℕ → Option Refusal
  -- a text has these tokens, which end at this place, where this stands
  pub lexed : List ℕ → List T → Place → S → Type 0
  -- the text ends with its tokens
  pub whole : S → Type 0
  -- the grammar: which tokens are a text of the value, the text ending at this place
  pub spelled : Place → X → List T → Type 0
  -- what is told of the token at the index where the grammar goes on with it, but a rule beside the grammar forbids it
  pub flaw : List T → ℕ → Option Refusal
  -- what is told where no text goes on behind so many of the tokens
  pub unexpected : List T → Place → S → ℕ → Refusal

module _ {T S X : Type 0} (rules : Rules T S X) where
  -- a text with nothing but tokens that spell the value and are as they should
  pub record IsTextOf (bytes : List ℕ) (x : X) : Type 0 where
    pub not_told : rules.before bytes ≡ None
    pub tokens : List T
    pub end : Place
    pub stop : S
    pub lexed : rules.lexed bytes tokens end stop
    pub ended : rules.whole stop
    pub spelled : rules.spelled end x tokens
    pub sound : (k : ℕ) → rules.flaw tokens k ≡ None

  -- no text goes on behind so many of the tokens: none with one more, and behind the last of them none ends
  pub record StopsAt (ts : List T) (end : Place) (stop : S) (i : ℕ) : Type 0 where
    pub no_further : i < length ts → GoesOn (rules.spelled end) (take (i + 1) ts) → ⊥
    pub no_text : i ≡ length ts → rules.whole stop → (x : X) → rules.spelled end x ts → ⊥

  -- a text goes on with the token at the index, but this is told of the token
  pub record IsFlawed (ts : List T) (end : Place) (i : ℕ) (r : Refusal) : Type 0 where
    pub within : i < length ts
    pub goes_on : GoesOn (rules.spelled end) (take (i + 1) ts)
    pub told : rules.flaw ts i ≡ Some r

  -- a failure behind so many tokens, with which a text of the language begins, and which are as they should
  pub record FailsAt (ts : List T) (end : Place) (stop : S) (i : ℕ) (r : Refusal) : Type 0 where
    pub within : i ≤ length ts
    pub goes_on : GoesOn (rules.spelled end) (take i ts)
    pub sound : (k : ℕ) → k < i → rules.flaw ts k ≡ None
    pub fails : (StopsAt ts end stop i × (r ≡ rules.unexpected ts end stop i)) ⊎ IsFlawed ts end i r

  -- the first failure in a text
  pub record FailsFirst (bytes : List ℕ) (r : Refusal) : Type 0 where
    pub not_told : rules.before bytes ≡ None
    pub tokens : List T
    pub end : Place
    pub stop : S
    pub lexed : rules.lexed bytes tokens end stop
    pub index : ℕ
    pub fails : FailsAt tokens end stop index r

  -- what is told before all else, or the first failure
  abbrev pub IsRefusedAs : List ℕ → Refusal → Type 0
  IsRefusedAs bytes r = (rules.before bytes ≡ Some r) ⊎ FailsFirst bytes r

  -- a text of the value, and nothing else
  pub record IsAccepted (bytes : List ℕ) (x : X) : Type 0 where
    pub text : IsTextOf bytes x
    pub only : (y : X) → IsTextOf bytes y → y ≡ x
    pub not_refused : (r : Refusal) → IsRefusedAs bytes r → ⊥

  -- a text that is refused so, and nothing else
  pub record IsRejected (bytes : List ℕ) (r : Refusal) : Type 0 where
    pub refused : IsRefusedAs bytes r
    pub only : (s : Refusal) → IsRefusedAs bytes s → s ≡ r
    pub no_text : (x : X) → IsTextOf bytes x → ⊥

  -- tokens up to the end, as they should, which are a text of this value alone
  pub record IsSound (ts : List T) (end : Place) (stop : S) (x : X) : Type 0 where
    pub ended : rules.whole stop
    pub spelled : rules.spelled end x ts
    pub only : (y : X) → rules.spelled end y ts → y ≡ x
    pub sound : (k : ℕ) → rules.flaw ts k ≡ None

-- what holds of the refusal, where the call gave one
abbrev pub IfRefused : {X : Type 0} → Result X Fault → (Refusal → Type 0) → Type 0
IfRefused (Ok x) P = Unit {0}
IfRefused (Err (fault.Refused r)) P = P r
IfRefused (Err fault.NoMemory) P = Unit {0}
