-- Readers of sections, before their first part, and what may stand behind them.
use Rattle.std.proofs.Common.{◌≡◌, ◌∙◌, refl, sym, ap, subst, List, [], ◌∷◌, ◌++◌, true, Option, None, append_assoc}
use Rattle.hw_text.specs.Language.{One, ◌⋅◌, Maybe, Each}
use Rattle.hw_text.specs.Reading.{begins, Begins, TheEnd, Leaves}
use Rattle.hw_text.proofs.Reading.{begun, made-begins, then-begins}
use Rattle.hw_reading.specs.Shapes.{shapes_of}
use Rattle.hw_reading.specs.Lists.{SomeOf}
use Rattle.gumbo_parse.specs.declared.shape.Shape.{Shape}
use Rattle.gumbo_parse.specs.declared.shape.Shape.TheVariants as shape
use Rattle.gumbo_parse.specs.declared.contract.Clause.{Clause}
use Rattle.gumbo_parse.specs.declared.contract.Compute.{Compute}
use Rattle.gumbo_parse.specs.declared.contract.Handler.{Handler}
use Rattle.gumbo_parse.specs.declared.mark.Mark.TheVariants as mark
use Rattle.gumbo_parse.specs.declared.word.Word.TheVariants as word
use Rattle.gumbo_parse.specs.Annex.{kinds, initial, SpellsClause, or_none, SpellsSection, SpellsState, SpellsIntegration, SpellsInitialize, handler_of, SpellsHandler, compute_of, SpellsCompute, contract_of, SpellsContract}
use Rattle.gumbo_parse.specs.Grammar.{Sign, Keyword, Name}
use Rattle.gumbo_parse.specs.Values.{Tokens, one_of, Without, is_disjoint, name_shapes, one_listed}
use Rattle.gumbo_parse.proofs.BoundForms.{keyword-begins, listed-begins}
use Rattle.hw_reading.proofs.Choices.{members-follow, maybe-follows}
use Rattle.gumbo_parse.proofs.Shapes.{apart, without-right}
use Rattle.hw_reading.proofs.Steps.{opening}

-- behind the end stands nothing
pub end-without : (xs : List Shape) (m : Tokens) → TheEnd m → Without xs m
end-without xs m end = ap (begins (one_of xs)) end

module _ {V X : Type 0} (W : V → Tokens → Type 0) (A : X → Tokens → Type 0) where
  pub section_opening : (F : Tokens → Type 0) (before : Tokens) → Leaves (SpellsSection W A) F before before or_none (Maybe (W ⋅ SomeOf A))
  section_opening F before = opening or_none (Maybe (W ⋅ SomeOf A)) F before

  pub section-begins : (xs : List Shape) → Begins (one_of xs) true W → Begins (one_of xs) true (W ⋅ SomeOf A)
  section-begins xs is = then-begins (one_of xs) true W (SomeOf A) is

  -- behind a section stands what may stand where it is empty, or its word
  section-follows : (xs goes_on : List Shape) → Begins (one_of xs) true W → is_disjoint xs goes_on ≡ true → (l : List X) (w m : Tokens) → SpellsSection W A l w → Without goes_on m → Without goes_on (w ++ m)
  section-follows xs goes_on is other l w m text ends =
      maybe-follows (W ⋅ SomeOf A) (one_of xs) (one_of goes_on) (section-begins xs is) (apart xs goes_on other) (λ m e. e) text.0 w m text.2 ends

  pub no_section : (l : List X) × (w : Tokens) × SpellsSection W A l w
  no_section = ([], [], (None, refl, refl))

two-follow : {X Y : Type 0} {F : Tokens → Type 0} (A : X → Tokens → Type 0) (B : Y → Tokens → Type 0) (goes_on : List Shape) → ((x : X) (w m : Tokens) → A x w → Without goes_on m → Without goes_on (w ++ m)) → ((y : Y) (w m : Tokens) → B y w → F m → Without goes_on (w ++ m)) → (p : X × Y) (w m : Tokens) → (A ⋅ B) p w → F m → Without goes_on (w ++ m)
two-follow A B goes_on one other p w m text ends =
    subst (λ (l : Tokens). Without goes_on l) (sym (append_assoc text.0 text.1 m) ∙ ap (λ (l : Tokens). l ++ m) (sym text.2))
    (one p.0 text.0 (text.1 ++ m) text.3 (other p.1 text.1 m text.4 ends))

abbrev words : List Shape
words = shape.Word word.Handle ∷ []

pub handler-begins : Begins (one_of words) true SpellsHandler
handler-begins = made-begins (one_of words) true (Keyword word.Handle ⋅ Name ⋅ Sign mark.Colon ⋅ SpellsClause ⋅ Each SpellsClause) handler_of
    (then-begins (one_of words) true (Keyword word.Handle) (Name ⋅ Sign mark.Colon ⋅ SpellsClause ⋅ Each SpellsClause) (keyword-begins word.Handle))

pub compute-begins : Begins (one_of (shape.Word word.Compute ∷ [])) true SpellsCompute
compute-begins = made-begins (one_of (shape.Word word.Compute ∷ [])) true (Keyword word.Compute ⋅ Each SpellsClause ⋅ Each SpellsHandler) compute_of
    (then-begins (one_of (shape.Word word.Compute ∷ [])) true (Keyword word.Compute) (Each SpellsClause ⋅ Each SpellsHandler) (keyword-begins word.Compute))

-- behind the clauses of the entry point stand handlers, or the end
pub handlers-follow : (l : List Handler) (w m : Tokens) → Each SpellsHandler l w → TheEnd m → Without (shapes_of kinds) (w ++ m)
handlers-follow = members-follow SpellsHandler (one_of words) (one_of (shapes_of kinds)) handler-begins (apart words (shapes_of kinds) refl) (end-without (shapes_of kinds))

-- behind a handler stand others, or what ends the last one
pub handler-follows : (l : List Handler) (w m : Tokens) → Each SpellsHandler l w → Without (shape.Word word.Handle ∷ shapes_of kinds) m → Without (shapes_of kinds) (w ++ m)
handler-follows = members-follow SpellsHandler (one_of words) (one_of (shapes_of kinds)) handler-begins (apart words (shapes_of kinds) refl) (λ m ends. without-right words (shapes_of kinds) m ends)

compute-follows : (goes_on : List Shape) → is_disjoint (shape.Word word.Compute ∷ []) goes_on ≡ true → (o : Option Compute) (w m : Tokens) → Maybe SpellsCompute o w → TheEnd m → Without goes_on (w ++ m)
compute-follows goes_on other = maybe-follows SpellsCompute (one_of (shape.Word word.Compute ∷ [])) (one_of goes_on) compute-begins (apart (shape.Word word.Compute ∷ []) goes_on other) (end-without goes_on)

pub initialize-follows : (o : Option Compute) (w m : Tokens) → Maybe SpellsCompute o w → TheEnd m → Without (shapes_of initial ++ shapes_of kinds) (w ++ m)
initialize-follows = compute-follows (shapes_of initial ++ shapes_of kinds) refl

pub integration-follows : (p : List Clause × Option Compute) (w m : Tokens) → (SpellsInitialize ⋅ Maybe SpellsCompute) p w → TheEnd m → Without (shape.Word word.Integration ∷ shapes_of kinds) (w ++ m)
integration-follows = two-follow SpellsInitialize (Maybe SpellsCompute) (shape.Word word.Integration ∷ shapes_of kinds)
    (section-follows (One (one_listed initial)) SpellsClause (shapes_of initial) (shape.Word word.Integration ∷ shapes_of kinds) (listed-begins initial) refl)
    (compute-follows (shape.Word word.Integration ∷ shapes_of kinds) refl)

pub state-follows : (p : List Clause × (List Clause × Option Compute)) (w m : Tokens) → (SpellsIntegration ⋅ SpellsInitialize ⋅ Maybe SpellsCompute) p w → TheEnd m → Without (shape.Word word.State ∷ name_shapes) (w ++ m)
state-follows = two-follow SpellsIntegration (SpellsInitialize ⋅ Maybe SpellsCompute) (shape.Word word.State ∷ name_shapes)
    (section-follows (Keyword word.Integration) SpellsClause (shape.Word word.Integration ∷ []) (shape.Word word.State ∷ name_shapes) (keyword-begins word.Integration) refl)
    (two-follow SpellsInitialize (Maybe SpellsCompute) (shape.Word word.State ∷ name_shapes)
    (section-follows (One (one_listed initial)) SpellsClause (shapes_of initial) (shape.Word word.State ∷ name_shapes) (listed-begins initial) refl)
    (compute-follows (shape.Word word.State ∷ name_shapes) refl))

pub handlers_opening : (read : List Handler) → read ≡ [] → (before : Tokens) → Leaves (Each SpellsHandler) (Without (shape.Word word.Handle ∷ shapes_of kinds)) before before (λ later. read ++ later) (Each SpellsHandler)
handlers_opening read none before =
    subst (λ (r : List Handler). Leaves (Each SpellsHandler) (Without (shape.Word word.Handle ∷ shapes_of kinds)) before before (λ later. r ++ later) (Each SpellsHandler)) (sym none)
    (begun (Each SpellsHandler) (Without (shape.Word word.Handle ∷ shapes_of kinds)) before (λ later. later) (Each SpellsHandler) (λ z w text. (z, refl, text)) (λ y w text. text))

module _ (before : Tokens) where
  pub handler_opening : Leaves SpellsHandler (Without (shapes_of kinds)) before before handler_of (Keyword word.Handle ⋅ Name ⋅ Sign mark.Colon ⋅ SpellsClause ⋅ Each SpellsClause)
  handler_opening = opening handler_of (Keyword word.Handle ⋅ Name ⋅ Sign mark.Colon ⋅ SpellsClause ⋅ Each SpellsClause) (Without (shapes_of kinds)) before

  pub entry_opening : Leaves SpellsCompute TheEnd before before compute_of (Keyword word.Compute ⋅ Each SpellsClause ⋅ Each SpellsHandler)
  entry_opening = opening compute_of (Keyword word.Compute ⋅ Each SpellsClause ⋅ Each SpellsHandler) TheEnd before

  pub contract_opening : Leaves SpellsContract TheEnd before before contract_of (SpellsState ⋅ SpellsIntegration ⋅ SpellsInitialize ⋅ Maybe SpellsCompute)
  contract_opening = opening contract_of (SpellsState ⋅ SpellsIntegration ⋅ SpellsInitialize ⋅ Maybe SpellsCompute) TheEnd before
