-- The texts of what a device does, word by word.
use Rattle.std.proofs.Common.{◌≡◌, ℕ, ℤ, List, ◌∷◌, ◌++◌, ◌⊎◌, inl, inr, Bool, true, false, get_or, refl, sym, ap, ◌∙◌, append_assoc, arith}
use Rattle.std.specs.Prelude.{codes}
use Rattle.std.specs.Str.{bytes_eq}
use Rattle.std.proofs.lemmas.Bool.{false≢true}
use Rattle.std.proofs.lemmas.Slice.Eq.{bytes_eq-Decides}
use Rattle.arch_model.specs.declared.parts.ArchParts.{ArchParts}
use Rattle.arch_model.specs.declared.id.PdId.{PdId}
use Rattle.arch_model.specs.declared.id.PortId.{PortId}
use Rattle.rts_rules.specs.declared.event.What.{What}
use Rattle.rts_rules.specs.declared.event.What.TheVariants as act
use Rattle.hamr_cli.specs.Trace.{FitsReceive, FitsRelease, FitsWhat}
use Rattle.hamr_cli.specs.TraceText.{port_name, value_text, list_text, what_text}
use Rattle.hamr_cli.specs.TraceWord.{IsWord}

-- a release, whose port and value stand in front of more
pub record IsReleaseText (arch : ArchParts) (who : PdId) (what : What) (rest more : List ℕ) : Type 0 where
  pub port : PortId
  pub value : List ℤ
  pub is : what ≡ act.Release port value
  pub fits : FitsRelease arch who port value
  pub text : rest ≡ port_name arch port ++ 32 ∷ (value_text value ++ more)

-- a receive, whose port and values stand in front of more
pub record IsReceiveText (arch : ArchParts) (who : PdId) (what : What) (rest more : List ℕ) : Type 0 where
  pub port : PortId
  pub values : List (List ℤ)
  pub is : what ≡ act.Receive port values
  pub fits : FitsReceive arch who port values
  pub text : rest ≡ port_name arch port ++ 32 ∷ (list_text values ++ more)

-- no other word stands in front
abbrev pub OnlyField : List ℕ → List ℕ → List ℕ → Type 0
OnlyField bytes read rest = (word more : List ℕ) → IsWord word → bytes ≡ word ++ 32 ∷ more → (read ≡ word) × (rest ≡ more)

-- in a text, what stands behind the word is a name, a space and the rest
behind-word : (word name item more : List ℕ) → (word ++ (name ++ 32 ∷ item)) ++ more ≡ word ++ (name ++ 32 ∷ (item ++ more))
behind-word word name item more = append_assoc word (name ++ 32 ∷ item) more ∙ ap (λ t. word ++ t) (append_assoc name (32 ∷ item) more)

release-split : (arch : ArchParts) (port : PortId) (value : List ℤ) (more : List ℕ) →
    what_text arch (act.Release port value) ++ more ≡ codes "release" ++ 32 ∷ (port_name arch port ++ 32 ∷ (value_text value ++ more))
release-split arch port value more = behind-word (codes "release ") (port_name arch port) (value_text value) more

receive-split : (arch : ArchParts) (port : PortId) (values : List (List ℤ)) (more : List ℕ) →
    what_text arch (act.Receive port values) ++ more ≡ codes "receive" ++ 32 ∷ (port_name arch port ++ 32 ∷ (list_text values ++ more))
receive-split arch port values more = behind-word (codes "receive ") (port_name arch port) (list_text values) more

-- what fits is a release or a receive, and its text goes so
record ByWord (word bytes : List ℕ) (IsRest : List ℕ → Type 0) : Type 0 where
  rest : List ℕ
  text : bytes ≡ word ++ 32 ∷ rest
  is_rest : IsRest rest

what-split : (arch : ArchParts) (who : PdId) (what : What) (bytes more : List ℕ) → FitsWhat arch who what → bytes ≡ what_text arch what ++ more →
    ByWord (codes "release") bytes (λ rest. IsReleaseText arch who what rest more) ⊎ ByWord (codes "receive") bytes (λ rest. IsReceiveText arch who what rest more)
what-split arch who act.Tick bytes more fits e = absurd fits
what-split arch who act.Init bytes more fits e = absurd fits
what-split arch who act.Begin bytes more fits e = absurd fits
what-split arch who act.Void bytes more fits e = absurd fits
what-split arch who act.Compute bytes more fits e = absurd fits
what-split arch who act.Send bytes more fits e = absurd fits
what-split arch who act.End bytes more fits e = absurd fits
what-split arch who (act.Receive port values) bytes more fits e = inr (record {
  rest = port_name arch port ++ 32 ∷ (list_text values ++ more);
  text = e ∙ receive-split arch port values more;
  is_rest = record { port = port; values = values; is = refl; fits = fits; text = refl };
})
what-split arch who (act.Put port value) bytes more fits e = absurd fits
what-split arch who (act.Release port value) bytes more fits e = inl (record {
  rest = port_name arch port ++ 32 ∷ (value_text value ++ more);
  text = e ∙ release-split arch port value more;
  is_rest = record { port = port; value = value; is = refl; fits = fits; text = refl };
})
what-split arch who (act.Verdict clause holds) bytes more fits e = absurd fits

letters : (a b : ℕ) → a ≡ b → a ≡ 108 → b ≡ 99 → ⊥
letters a b e l c = omega arith

-- the two words differ in their third letter
two-words : (word : List ℕ) → word ≡ codes "release" → word ≡ codes "receive" → ⊥
two-words word e f = letters 108 99 (ap (λ (l : List ℕ). get_or l 2 0) (sym e ∙ f)) refl refl

pub no-word : (arch : ArchParts) (who : PdId) (what : What) (bytes more : List ℕ) → ((word rest : List ℕ) → IsWord word → bytes ≡ word ++ 32 ∷ rest → ⊥) →
    FitsWhat arch who what → bytes ≡ what_text arch what ++ more → ⊥
no-word arch who what bytes more none fits e =
    elim (what-split arch who what bytes more fits e) [
      | inl r ↦ none (codes "release") r.rest refl r.text
      | inr r ↦ none (codes "receive") r.rest refl r.text
    ]

pub by-release : (arch : ArchParts) (who : PdId) (what : What) (bytes word rest more : List ℕ) → OnlyField bytes word rest → word ≡ codes "release" →
    FitsWhat arch who what → bytes ≡ what_text arch what ++ more → IsReleaseText arch who what rest more
by-release arch who what bytes word rest more one release fits e =
    elim (what-split arch who what bytes more fits e) [
      | inl r ↦ let same = one (codes "release") r.rest refl r.text in rw same.1 r.is_rest
      | inr r ↦ absurd (two-words word release (one (codes "receive") r.rest refl r.text).0)
    ]

pub by-receive : (arch : ArchParts) (who : PdId) (what : What) (bytes word rest more : List ℕ) → OnlyField bytes word rest → word ≡ codes "receive" →
    FitsWhat arch who what → bytes ≡ what_text arch what ++ more → IsReceiveText arch who what rest more
by-receive arch who what bytes word rest more one receive fits e =
    elim (what-split arch who what bytes more fits e) [
      | inl r ↦ absurd (two-words word (one (codes "release") r.rest refl r.text).0 receive)
      | inr r ↦ let same = one (codes "receive") r.rest refl r.text in rw same.1 r.is_rest
    ]

pub other-word : (arch : ArchParts) (who : PdId) (what : What) (bytes word rest more : List ℕ) → OnlyField bytes word rest →
    (word ≡ codes "release" → ⊥) → (word ≡ codes "receive" → ⊥) → FitsWhat arch who what → bytes ≡ what_text arch what ++ more → ⊥
other-word arch who what bytes word rest more one no_release no_receive fits e =
    elim (what-split arch who what bytes more fits e) [
      | inl r ↦ no_release (one (codes "release") r.rest refl r.text).0
      | inr r ↦ no_receive (one (codes "receive") r.rest refl r.text).0
    ]

pub release-found : (arch : ArchParts) (bytes word rest : List ℕ) (port : PortId) (value : List ℤ) (more : List ℕ) → bytes ≡ word ++ 32 ∷ rest → word ≡ codes "release" →
    rest ≡ port_name arch port ++ 32 ∷ (value_text value ++ more) → bytes ≡ what_text arch (act.Release port value) ++ more
release-found arch bytes word rest port value more e release f =
    e ∙ (ap (λ w. w ++ 32 ∷ rest) release ∙ (ap (λ t. codes "release" ++ 32 ∷ t) f ∙ sym (release-split arch port value more)))

pub receive-found : (arch : ArchParts) (bytes word rest : List ℕ) (port : PortId) (values : List (List ℤ)) (more : List ℕ) → bytes ≡ word ++ 32 ∷ rest → word ≡ codes "receive" →
    rest ≡ port_name arch port ++ 32 ∷ (list_text values ++ more) → bytes ≡ what_text arch (act.Receive port values) ++ more
receive-found arch bytes word rest port values more e receive f =
    e ∙ (ap (λ w. w ++ 32 ∷ rest) receive ∙ (ap (λ t. codes "receive" ++ 32 ∷ t) f ∙ sym (receive-split arch port values more)))

-- what `==` says of a word
pub is-word : (word other : List ℕ) (answer : Bool) → answer ≡ bytes_eq word other → answer ≡ true → word ≡ other
is-word word other answer e yes_is = (bytes_eq-Decides word other).0 (sym e ∙ yes_is)

pub is-not-word : (word other : List ℕ) (answer : Bool) → answer ≡ bytes_eq word other → answer ≡ false → word ≡ other → ⊥
is-not-word word other answer e no_is same = false≢true (sym no_is ∙ (e ∙ (bytes_eq-Decides word other).1 same))
