-- What has been read of two parts, one behind the other.
use Rattle.std.proofs.Common.{Option, Some, None, ◌≡◌, ◌∙◌, refl, sym, ap, subst, ℕ, List, [], ◌∷◌, ◌++◌, true, append_assoc}
use Rattle.hw_text.specs.Language.{◌⋅◌, Maybe, Each}
use Rattle.hw_text.specs.Reading.{Begins, Reached, Stuck, Leaves}
use Rattle.hw_text.proofs.Reading.{begun, step, stuck, last, last-stuck}
use Rattle.hw_text.specs.declared.placed.Placed.{Placed}
use Rattle.aadl_tree.specs.declared.token.Token.{Token}
use Rattle.aadl_parse.specs.Shapes.{one_of, Without, is_disjoint}
use Rattle.aadl_parse.specs.Laws.{begins-without, without-none, without-left, without-right, without-both}

module _ {T X Y : Type 0} (A : X → List T → Type 0) (B : Y → List T → Type 0) (P Q F : List T → Type 0) (follow : (y : Y) (w m : List T) → B y w → F m → P (w ++ m)) (ends : (m : List T) → F m → Q m) where
  start : (before : List T) → Leaves (A ⋅ B) F before before (λ p. p) (A ⋅ B)
  start before = begun (A ⋅ B) F before (λ p. p) (A ⋅ B) (λ z w text. (z, refl, text)) (λ y w text. text)

  pub first-stuck : (before at : List T) → ((y : Y) × (w : List T) × B y w) → Stuck A P before at → Stuck (A ⋅ B) F before at
  first-stuck before at sample part = stuck (A ⋅ B) F before A P before at (λ p. p) B (start before) follow sample part

  pub passed : (before at : List T) (x : X) → Reached A P before at x → Leaves (A ⋅ B) F before at (λ y. (x, y)) B
  passed before at x part = step (A ⋅ B) F before A P before at (λ p. p) B (start before) follow x part

  pub second-stuck : (before at after : List T) (x : X) → Reached A P before at x → Stuck B Q at after → Stuck (A ⋅ B) F before after
  second-stuck before at after x part other = last-stuck (A ⋅ B) F before B Q at after (λ y. (x, y)) (passed before at x part) ends other

  pub both-read : (before at after : List T) (x : X) (y : Y) → Reached A P before at x → Reached B Q at after y → Reached (A ⋅ B) F before after (x, y)
  both-read before at after x y part other = last (A ⋅ B) F before B Q at after (λ y. (x, y)) (passed before at x part) ends y other

-- behind what ends by itself anything may stand
pub closed-follows : {Y : Type 0} (B : Y → List (Placed Token) → Type 0) (goes_on : List (List ℕ)) (F : List (Placed Token) → Type 0) → goes_on ≡ [] → (y : Y) (w m : List (Placed Token)) → B y w → F m → Without goes_on (w ++ m)
closed-follows B goes_on F closed y w m text f = subst (λ (g : List (List ℕ)). Without g (w ++ m)) (sym closed) (without-none (w ++ m))

-- behind what may go on stands what begins otherwise
pub apart-follows : {Y : Type 0} (B : Y → List (Placed Token) → Type 0) (starts goes_on : List (List ℕ)) (F : List (Placed Token) → Type 0) → is_disjoint starts goes_on ≡ true → Begins (one_of starts) true B → (y : Y) (w m : List (Placed Token)) → B y w → F m → Without goes_on (w ++ m)
apart-follows B starts goes_on F apart begun y w m text f = begins-without B starts goes_on apart begun y w m text

-- behind what may go on stands what begins neither so nor in another way
pub apart_both-follows : {Y : Type 0} (B : Y → List (Placed Token) → Type 0) (starts one two : List (List ℕ)) (F : List (Placed Token) → Type 0) → is_disjoint starts one ≡ true → is_disjoint starts two ≡ true → Begins (one_of starts) true B → (y : Y) (w m : List (Placed Token)) → B y w → F m → Without (one ++ two) (w ++ m)
apart_both-follows B starts one two F apart other begun y w m text f =
    without-both one two (w ++ m) (begins-without B starts one apart begun y w m text) (begins-without B starts two other begun y w m text)

module _ {X : Type 0} (B : X → List (Placed Token) → Type 0) (before starts goes_on : List (List ℕ)) (apart : is_disjoint starts before ≡ true) (is : Begins (one_of starts) true B) where
  pub maybe-follows : (o : Option X) (w m : List (Placed Token)) → Maybe B o w → Without (before ++ (starts ++ goes_on)) m → Without before (w ++ m)
  maybe-follows None w m text f = subst (λ (l : List (Placed Token)). Without before (l ++ m)) (sym text) (without-left before (starts ++ goes_on) m f)
  maybe-follows (Some x) w m text f = begins-without B starts before apart is x w m text

  pub each-follows : (xs : List X) (w m : List (Placed Token)) → Each B xs w → Without (before ++ (starts ++ goes_on)) m → Without before (w ++ m)
  each-follows [] w m text f = subst (λ (l : List (Placed Token)). Without before (l ++ m)) (sym text) (without-left before (starts ++ goes_on) m f)
  each-follows (x ∷ xs) w m text f =
      subst (λ (l : List (Placed Token)). Without before l)
      (sym (append_assoc text.0 text.1 m) ∙ ap (λ (l : List (Placed Token)). l ++ m) (sym text.2))
      (begins-without B starts before apart is x text.0 (text.1 ++ m) text.3)

  pub rest-ends : (m : List (Placed Token)) → Without (before ++ (starts ++ goes_on)) m → Without (starts ++ goes_on) m
  rest-ends m f = without-right before (starts ++ goes_on) m f
