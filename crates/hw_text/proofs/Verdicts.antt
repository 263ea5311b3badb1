-- A text of a language has at most one first failure, and no text of a value has one.
use Rattle.std.proofs.Common.{◌≡◌, ◌∙◌, sym, ap, subst, ℕ, ◌+◌, ◌<◌, ◌≤◌, List, ◌++◌, length, take, drop, take-take, take-append-drop, append_assoc, arith, Some, None, inl, inr, Result, Ok, Err}
use Rattle.std.specs.Prelude.{is_some}
use Rattle.std.proofs.lemmas.Bool.{false≢true, cases_order}
use Rattle.std.proofs.lemmas.Option.{same_Some}
use Rattle.hw_text.specs.declared.fault.Fault.{Fault}
use Rattle.hw_text.specs.declared.fault.Fault.TheVariants as fault
use Rattle.hw_text.specs.declared.place.Place.{Place}
use Rattle.hw_text.specs.declared.refusal.Refusal.{Refusal}
use Rattle.hw_text.specs.WholeLists.{GoesOn}
use Rattle.hw_text.specs.WholeTexts.{Rules, IsTextOf, FailsAt, IsRefusedAs, IsAccepted, IsRejected, IsSound, IfRefused}

none-some : {X : Type 0} (x : X) → None ≡ Some x → ⊥
none-some x same = false≢true (ap is_some same)

module _ {T X : Type 0} (A : X → List T → Type 0) where
  -- what a text begins with is begun by what that begins with
  pub earlier : (ts : List T) (i j : ℕ) → i ≤ j → GoesOn A (take j ts) → GoesOn A (take i ts)
  earlier ts i j below goes =
      let within : take i (take j ts) ≡ take i ts = take-take i j ts below in
      let whole : take i ts ++ drop i (take j ts) ≡ take j ts = ap (λ (l : List T). l ++ drop i (take j ts)) (sym within) ∙ take-append-drop i (take j ts) in (
        goes.0,
        drop i (take j ts) ++ goes.1,
        subst (A goes.0) (ap (λ (l : List T). l ++ goes.1) (sym whole) ∙ append_assoc (take i ts) (drop i (take j ts)) goes.1) goes.2,
      )

  pub text-goes-on : (ts : List T) (x : X) → A x ts → (i : ℕ) → GoesOn A (take i ts)
  text-goes-on ts x text i = (x, drop i ts, subst (A x) (sym (take-append-drop i ts)) text)

module _ {T S X : Type 0} (rules : Rules T S X) where
  module _ (ts : List T) (end : Place) (stop : S) where
    -- behind a failure no text goes on without one
    no-later : (i j : ℕ) (r s : Refusal) → i < j → FailsAt rules ts end stop i r → FailsAt rules ts end stop j s → ⊥
    no-later i j r s below h k = elim h.fails [
      | inl stops ↦ stops.0.no_further (omega (arith, below, k.within)) (earlier (rules.spelled end) ts (i + 1) j (omega (arith, below)) k.goes_on)
      | inr flawed ↦ none-some r (sym (k.sound i below) ∙ flawed.told)
    ]

    at-one : (i : ℕ) (r s : Refusal) → FailsAt rules ts end stop i r → FailsAt rules ts end stop i s → r ≡ s
    at-one i r s h k = elim h.fails [
      | inl stops ↦ elim k.fails [
        | inl other ↦ stops.1 ∙ sym other.1
        | inr flawed ↦ absurd (stops.0.no_further flawed.within flawed.goes_on)
      ]
      | inr flawed ↦ elim k.fails [
        | inl stops ↦ absurd (stops.0.no_further flawed.within flawed.goes_on)
        | inr other ↦ same_Some r s (sym flawed.told ∙ other.told)
      ]
    ]

    -- what fails first is one
    first-one : (i j : ℕ) (r s : Refusal) → FailsAt rules ts end stop i r → FailsAt rules ts end stop j s → r ≡ s
    first-one i j r s h k = elim (cases_order i j) [
      | inl same ↦ at-one j r s (subst (λ (n : ℕ). FailsAt rules ts end stop n r) same h) k
      | inr other ↦ elim other [ inl below ↦ absurd (no-later i j r s below h k) | inr above ↦ absurd (no-later j i s r above k h) ]
    ]

    -- a text does not fail
    text-sound : (i : ℕ) (r : Refusal) (x : X) → rules.spelled end x ts → rules.whole stop → ((k : ℕ) → rules.flaw ts k ≡ None) → FailsAt rules ts end stop i r → ⊥
    text-sound i r x text ended sound h = elim h.fails [
      | inl stops ↦ elim (cases_order i (length ts)) [
        | inl all ↦ stops.0.no_text all ended x text
        | inr other ↦ elim other [
          | inl below ↦ stops.0.no_further below (text-goes-on (rules.spelled end) ts x text (i + 1))
          | inr above ↦ absurd (omega (arith, above, h.within))
        ]
      ]
      | inr flawed ↦ none-some r (sym (sound i) ∙ flawed.told)
    ]

  fails-as : (ts us : List T) (e f : Place) (s o : S) (i : ℕ) (r : Refusal) → (ts ≡ us) × (e ≡ f) × (s ≡ o) → FailsAt rules us f o i r → FailsAt rules ts e s i r
  fails-as ts us e f s o i r same h =
      subst (λ (x : List T). FailsAt rules x e s i r) (sym same.0)
      (subst (λ (p : Place). FailsAt rules us p s i r) (sym same.1) (subst (λ (q : S). FailsAt rules us f q i r) (sym same.2) h))

  spelled-as : (ts us : List T) (e f : Place) (x : X) → ts ≡ us → e ≡ f → rules.spelled e x ts → rules.spelled f x us
  spelled-as ts us e f x same place text = subst (λ (p : Place). rules.spelled p x us) place (subst (λ (l : List T). rules.spelled e x l) same text)

  module _ (one : (bytes : List ℕ) (ts us : List T) (e f : Place) (s o : S) → rules.lexed bytes ts e s → rules.lexed bytes us f o → (ts ≡ us) × (e ≡ f) × (s ≡ o)) (bytes : List ℕ) where
    refusals-one : (r s : Refusal) → IsRefusedAs rules bytes r → IsRefusedAs rules bytes s → r ≡ s
    refusals-one r s h k = elim h [
      | inl told ↦ elim k [ inl again ↦ same_Some r s (sym told ∙ again) | inr later ↦ absurd (none-some r (sym later.not_told ∙ told)) ]
      | inr fails ↦ elim k [
        | inl told ↦ absurd (none-some s (sym fails.not_told ∙ told))
        | inr other ↦
            let same = one bytes fails.tokens other.tokens fails.end other.end fails.stop other.stop fails.lexed other.lexed in
            first-one fails.tokens fails.end fails.stop fails.index other.index r s fails.fails (fails-as fails.tokens other.tokens fails.end other.end fails.stop other.stop other.index s same other.fails)
      ]
    ]

    text-refused : (x : X) (r : Refusal) → IsTextOf rules bytes x → IsRefusedAs rules bytes r → ⊥
    text-refused x r t h = elim h [
      | inl told ↦ none-some r (sym t.not_told ∙ told)
      | inr fails ↦
          let same = one bytes t.tokens fails.tokens t.end fails.end t.stop fails.stop t.lexed fails.lexed in
          text-sound t.tokens t.end t.stop fails.index r x t.spelled t.ended t.sound (fails-as t.tokens fails.tokens t.end fails.end t.stop fails.stop fails.index r same fails.fails)
    ]

    -- what is refused is refused so alone, and is no text
    rejected : (r : Refusal) → IsRefusedAs rules bytes r → IsRejected rules bytes r
    rejected r h = record {
      refused = h;
      only = λ s k. refusals-one s r k h;
      no_text = λ x t. text-refused x r t h;
    }

    -- what is told before all else
    pub told-rejected : (r : Refusal) → rules.before bytes ≡ Some r → IsRejected rules bytes r
    told-rejected r told = rejected r (inl told)

    module _ (not_told : rules.before bytes ≡ None) (ts : List T) (end : Place) (stop : S) (lexed : rules.lexed bytes ts end stop) where
      -- a text with a failure in it
      pub failure-rejected : (r : Refusal) (i : ℕ) → FailsAt rules ts end stop i r → IsRejected rules bytes r
      failure-rejected r i so = rejected r (inr (record { not_told = not_told; tokens = ts; end = end; stop = stop; lexed = lexed; index = i; fails = so }))

      -- a text whose tokens are one value's
      pub sound-accepted : (x : X) → IsSound rules ts end stop x → IsAccepted rules bytes x
      sound-accepted x so =
          let text : IsTextOf rules bytes x = record {
            not_told = not_told;
            tokens = ts;
            end = end;
            stop = stop;
            lexed = lexed;
            ended = so.ended;
            spelled = so.spelled;
            sound = so.sound;
          } in
          record {
            text = text;
            only = λ y t.
                let same = one bytes t.tokens ts t.end end t.stop stop t.lexed lexed in
                so.only y (spelled-as t.tokens ts t.end end y same.0 same.1 t.spelled);
            not_refused = λ r h. text-refused x r text h;
          }

pub IfRefused-weaker : {X : Type 0} (r : Result X Fault) (P Q : Refusal → Type 0) → ((s : Refusal) → P s → Q s) → IfRefused r P → IfRefused r Q
IfRefused-weaker (Ok x) P Q weaker h = tt
IfRefused-weaker (Err (fault.Refused r)) P Q weaker h = weaker r h
IfRefused-weaker (Err fault.NoMemory) P Q weaker h = tt
