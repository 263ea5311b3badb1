-- Where an expression stands in a text, and where it stands in a unit that holds that text.
use Rattle.std.proofs.Common.{◌≡◌, ◌∙◌, refl, sym, ap, subst, List, [], ◌∷◌, ◌++◌, append_assoc, append-nil, inl, inr}
use Rattle.hw_text.specs.Language.{Each}
use Rattle.c_parse.specs.Values.{Tokens}
use Rattle.c_parse.specs.Outermost.{InUnit}
use Rattle.c_parse.specs.Standing.{All, ◌▸◌, ◌◂◌, ◌∥◌}

-- an outermost expression of a unit stands there
unfoldable pub IsThere : Tokens → Tokens → Tokens → Type 0
IsThere us es vs = InUnit us es vs

pub is-there : (us es vs : Tokens) → IsThere us es vs → InUnit us es vs
unfolding IsThere
is-there us es vs there = there

-- with these tokens before a text and those behind it, what stands in it so is an outermost expression of a unit
abbrev pub Within : (Tokens → Tokens → Tokens → Type 0) → Tokens → Tokens → Type 0
Within M b a = (us es vs : Tokens) → M us es vs → IsThere (b ++ us) es (vs ++ a)

module _ (M N : Tokens → Tokens → Tokens → Type 0) (b w a : Tokens) (within : Within M b a) where
  pub behind-tokens : ((us es vs : Tokens) → N us es vs → M (w ++ us) es vs) → Within N (b ++ w) a
  behind-tokens so us es vs there = subst (λ (l : Tokens). IsThere l es (vs ++ a)) (sym (append_assoc b w us)) (within (w ++ us) es vs (so us es vs there))

  pub before-tokens : ((us es vs : Tokens) → N us es vs → M us es (vs ++ w)) → Within N b (w ++ a)
  before-tokens so us es vs there = subst (λ (l : Tokens). IsThere (b ++ us) es l) (append_assoc vs w a) (within us es (vs ++ w) (so us es vs there))

pub around-tokens : (M N : Tokens → Tokens → Tokens → Type 0) (b w z a : Tokens) → Within M b a → ((us es vs : Tokens) → N us es vs → M (w ++ us) es (vs ++ z)) → Within N (b ++ w) (z ++ a)
around-tokens M N b w z a within so us es vs there =
    subst (λ (l : Tokens). IsThere l es (vs ++ (z ++ a))) (sym (append_assoc b w us))
    (subst (λ (l : Tokens). IsThere (b ++ (w ++ us)) es l) (append_assoc vs z a) (within (w ++ us) es (vs ++ z) (so us es vs there)))

pub regrouped : (us vs ws xs : Tokens) → (us ++ (vs ++ ws)) ++ xs ≡ us ++ (vs ++ (ws ++ xs))
regrouped us vs ws xs = append_assoc us (vs ++ ws) xs ∙ ap (λ (l : Tokens). us ++ l) (append_assoc vs ws xs)

pub behind : {X : Type 0} (A : X → Tokens → Type 0) (M : Tokens → Tokens → Tokens → Type 0) (b a : Tokens) → Within (A ▸ M) b a → (x : X) (w : Tokens) → A x w → Within M (b ++ w) a
behind A M b a within x w text = behind-tokens (A ▸ M) M b w a within (λ us es vs there. (x, w, us, refl, text, there))

pub before : {X : Type 0} (M : Tokens → Tokens → Tokens → Type 0) (A : X → Tokens → Type 0) (b a : Tokens) → Within (M ◂ A) b a → (x : X) (w : Tokens) → A x w → Within M b (w ++ a)
before M A b a within x w text = before-tokens (M ◂ A) M b w a within (λ us es vs there. (x, vs, w, refl, there, text))

module _ (M N : Tokens → Tokens → Tokens → Type 0) (b a : Tokens) (within : Within (M ∥ N) b a) where
  pub one-way : Within M b a
  one-way us es vs there = within us es vs (inl there)

  pub other-way : Within N b a
  other-way us es vs there = within us es vs (inr there)

pub all-there : {X : Type 0} (A : X → Tokens → Type 0) (b a : Tokens) → Within (All A) b a → (x : X) (w : Tokens) → A x w → IsThere b w a
all-there A b a within x w text = subst (λ (l : Tokens). IsThere l w a) (append-nil b) (within [] w [] (x, refl, refl, text))

-- in a member of several, in the first or in a later one
module _ {X : Type 0} (A : X → Tokens → Type 0) (M : Tokens → Tokens → Tokens → Type 0) (b a : Tokens) (within : Within (Each A ▸ M ◂ Each A) b a) where
  pub in-first : (xs : List X) (w : Tokens) → Each A xs w → Within M b (w ++ a)
  in-first xs w text = before-tokens (Each A ▸ M ◂ Each A) M b w a within (λ us es vs there. ([], [], us, refl, refl, (xs, vs, w, refl, there, text)))

  pub in-later : (x : X) (w : Tokens) → A x w → Within (Each A ▸ M ◂ Each A) (b ++ w) a
  in-later x w text =
      behind-tokens (Each A ▸ M ◂ Each A) (Each A ▸ M ◂ Each A) b w a within
      (λ us es vs there. (x ∷ there.0, w ++ there.1, there.2, ap (λ (l : Tokens). w ++ l) there.3 ∙ sym (append_assoc w there.1 there.2), (w, there.1, refl, text, there.4), there.5))
