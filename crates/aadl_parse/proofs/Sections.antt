-- What has been read of a section, step by step.
use Rattle.std.proofs.Common.{◌≡◌, refl, ℕ, List, [], ◌∷◌, ◌++◌, true, false, codes, Option, Some, None}
use Rattle.hw_text.specs.Language.{◌⋅◌, Maybe, Each, Made}
use Rattle.hw_text.specs.Reading.{begins, Leaves, Reached}
use Rattle.hw_text.specs.declared.placed.Placed.{Placed}
use Rattle.aadl_tree.specs.declared.token.Token.{Token}
use Rattle.aadl_tree.specs.declared.word.Word.{Word}
use Rattle.aadl_tree.specs.Words.{word_spelling}
use Rattle.aadl_parse.specs.Builds.{listed, members_behind}
use Rattle.aadl_parse.specs.Grammar.{Section, SpellsNone}
use Rattle.aadl_parse.specs.Laws.{without-right}
use Rattle.aadl_parse.specs.Parts.{a_none, a_section}
use Rattle.aadl_parse.specs.Shapes.{one_of, Without}
use Rattle.aadl_parse.specs.SimpleValue.{Symbol, Either}
use Rattle.aadl_parse.specs.Starts.{Start, before_each, either, made}
use Rattle.aadl_parse.proofs.Repeats.{absent, present}
use Rattle.aadl_parse.proofs.Steps.{opened}

-- how members start, where there is one at least
abbrev pub members : {X : Type 0} {A : X → List (Placed Token) → Type 0} → Start A → Start (Made listed (A ⋅ Each A))
members a = made listed (before_each a)

abbrev pub body : {X : Type 0} {A : X → List (Placed Token) → Type 0} → Start A → Start (Either SpellsNone (Made listed (A ⋅ Each A)))
body a = either a_none (members a)

module _ {X : Type 0} (w : Word) (A : X → List (Placed Token) → Type 0) (a : Start A) (goes_on : List (List ℕ)) (before : List (Placed Token)) where
  abbrev F : List (Placed Token) → Type 0
  F = Without (word_spelling w ∷ (a.shapes ++ goes_on))

  pub no_section : begins (one_of (word_spelling w ∷ [])) before ≡ false → Reached (Maybe (Section (word_spelling w) A)) F before before None
  no_section not_there = absent (Section (word_spelling w) A) (word_spelling w ∷ []) (a.shapes ++ goes_on) (a_section w a).begins before not_there

  pub a_section_there : begins (one_of (word_spelling w ∷ [])) before ≡ true → Leaves (Maybe (Section (word_spelling w) A)) F before before (λ p. Some (members_behind p)) (Symbol (word_spelling w) ⋅ Either SpellsNone (Made listed (A ⋅ Each A)))
  a_section_there there = opened (present (Section (word_spelling w) A) (word_spelling w ∷ []) (a.shapes ++ goes_on) (a_section w a).begins before there)

-- behind a section stands no further member
pub members-end : {X : Type 0} (w : Word) (A : X → List (Placed Token) → Type 0) (a : Start A) (goes_on : List (List ℕ)) (m : List (Placed Token)) → Without (word_spelling w ∷ (a.shapes ++ goes_on)) m → Without (a.shapes ++ goes_on) m
members-end w A a goes_on m f = without-right (word_spelling w ∷ []) (a.shapes ++ goes_on) m f
