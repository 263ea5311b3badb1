-- How the texts of parts of the grammar start, and a text of each: what a reader knows of the parts that are still to come.
use Rattle.std.specs.Prelude.{◌≡◌, ℕ, true, List, [], ◌∷◌, ◌++◌, codes, Option, Some, refl}
use Rattle.hw_text.specs.Language.{One, ◌⋅◌, Maybe, Each, Made}
use Rattle.hw_text.specs.Reading.{Begins}
use Rattle.hw_text.specs.declared.placed.Placed.{Placed}
use Rattle.aadl_tree.specs.declared.mark.Mark.{Mark}
use Rattle.aadl_tree.specs.declared.token.Token.{Token}
use Rattle.aadl_tree.specs.declared.token.Token.TheVariants as token
use Rattle.aadl_tree.specs.declared.word.Word.{Word}
use Rattle.aadl_tree.specs.Marks.{mark_spelling}
use Rattle.aadl_tree.specs.Words.{word_spelling}
use Rattle.aadl_parse.specs.Choice.{First, Second}
use Rattle.aadl_parse.specs.Laws.{two-sample, two-begins, maybe-sample, maybe_then-begins, each-sample, each_then-begins, with_maybe-sample, with_each-sample, made-sample, made-begins, one-sample, one-begins, either-sample, either-begins, symbol-sample, symbol-shaped}
use Rattle.aadl_parse.specs.Shapes.{one_of, symbol_of}
use Rattle.aadl_parse.specs.SimpleValue.{Symbol, Either}
use Rattle.aadl_parse.specs.Stops.{start}

-- the shapes with which the texts of a part start, and a text
pub record Start {X : Type 0} (A : X → List (Placed Token) → Type 0) : Type 0 where
  pub shapes : List (List ℕ)
  pub sample : (x : X) × (w : List (Placed Token)) × A x w
  pub begins : Begins (one_of shapes) true A

abbrev pub a_token : {X : Type 0} (value : Placed Token → Option X) (shapes : List (List ℕ)) → ((t : Placed Token) × (x : X) × (value t ≡ Some x)) → ((t : Placed Token) (x : X) → value t ≡ Some x → one_of shapes t ≡ true) → Start (One value)
a_token value shapes one is = record { shapes = shapes; sample = one-sample value one; begins = one-begins value shapes is }

abbrev pub a_word : (w : Word) → Start (Symbol (word_spelling w))
a_word w =
    a_token (symbol_of (word_spelling w)) (word_spelling w ∷ [])
    (symbol-sample (word_spelling w) (record { token = token.Word w; place = start }, refl)) (symbol-shaped (word_spelling w))

abbrev pub a_mark : (m : Mark) → Start (Symbol (mark_spelling m))
a_mark m =
    a_token (symbol_of (mark_spelling m)) (mark_spelling m ∷ [])
    (symbol-sample (mark_spelling m) (record { token = token.Mark m; place = start }, refl)) (symbol-shaped (mark_spelling m))

module _ {X Y : Type 0} {A : X → List (Placed Token) → Type 0} {B : Y → List (Placed Token) → Type 0} where
  -- one part, and another behind it
  abbrev pub before : Start A → Start B → Start (A ⋅ B)
  before a b = record { shapes = a.shapes; sample = two-sample A B a.sample b.sample; begins = two-begins A B a.shapes a.begins }

  abbrev pub maybe_before : Start A → Start B → Start (Maybe A ⋅ B)
  maybe_before a b = record { shapes = a.shapes ++ b.shapes; sample = maybe-sample A B b.sample; begins = maybe_then-begins A B a.shapes b.shapes a.begins b.begins }

  abbrev pub each_before : Start A → Start B → Start (Each A ⋅ B)
  each_before a b = record { shapes = a.shapes ++ b.shapes; sample = each-sample A B b.sample; begins = each_then-begins A B a.shapes b.shapes a.begins b.begins }

  abbrev pub before_each : Start A → Start (A ⋅ Each B)
  before_each a = record { shapes = a.shapes; sample = with_each-sample B A a.sample; begins = two-begins A (Each B) a.shapes a.begins }

  abbrev pub before_maybe : Start A → Start (A ⋅ Maybe B)
  before_maybe a = record { shapes = a.shapes; sample = with_maybe-sample B A a.sample; begins = two-begins A (Maybe B) a.shapes a.begins }

  -- one part or another
  abbrev pub either : Start A → Start B → Start (Either A B)
  either a b = record {
    shapes = a.shapes ++ b.shapes;
    sample = either-sample A B (λ x. First x) (λ y. Second y) a.sample;
    begins = either-begins A B (λ x. First x) (λ y. Second y) a.shapes b.shapes a.begins b.begins;
  }

-- what is made of a part
abbrev pub made : {X Y : Type 0} {A : X → List (Placed Token) → Type 0} (build : X → Y) → Start A → Start (Made build A)
made {A = A} build a = record { shapes = a.shapes; sample = made-sample A build a.sample; begins = made-begins A build a.shapes a.begins }
