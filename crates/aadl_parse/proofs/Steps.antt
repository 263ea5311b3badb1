-- What has been read of a production, part by part.
use Rattle.std.proofs.Common.{◌≡◌, refl, ℕ, List, [], ◌∷◌, ◌++◌, true, false, Option, Some, None}
use Rattle.std.specs.Prelude.{⊤, Result, Err, IsErrAnd}
use Rattle.std.proofs.lemmas.Bool.{false≢true}
use Rattle.std.proofs.Common.{sym, subst, ◌∙◌}
use Rattle.hw_text.specs.Language.{◌⋅◌, Made}
use Rattle.hw_text.specs.Reading.{begins, Reached, Stuck, Reads, Leaves}
use Rattle.hw_text.specs.declared.placed.Placed.{Placed}
use Rattle.hw_text.specs.declared.read_fault.ReadFault.{ReadFault}
use Rattle.hw_text.proofs.Reading.{begun, step, stuck, last, last-stuck, failed, left, right, unmade, first-begins, never-begins}
use Rattle.aadl_tree.specs.declared.token.Token.{Token}
use Rattle.aadl_parse.specs.Choice.{Choice, First, Second}
use Rattle.aadl_parse.specs.Laws.{begins-without, made-begins, without-none}
use Rattle.aadl_parse.specs.Shapes.{one_of, Without, is_disjoint}
use Rattle.aadl_parse.specs.SimpleValue.{Either}
use Rattle.aadl_parse.specs.Starts.{Start}

abbrev Tokens : Type 0
Tokens = List (Placed Token)

-- nothing has been read of a production
pub opening : {Y Z : Type 0} {build : Y → Z} {B : Y → Tokens → Type 0} {F : Tokens → Type 0} {before : Tokens} → Leaves (Made build B) F before before build B
opening {build = build} {B = B} {F = F} {before = before} = begun (Made build B) F before build B (λ z w text. text) (λ y w text. (y, refl, text))

-- nothing has been read of what is no production
pub beginning : {Z : Type 0} {A : Z → Tokens → Type 0} {F : Tokens → Type 0} {before : Tokens} → Leaves A F before before (λ z. z) A
beginning {A = A} {F = F} {before = before} = begun A F before (λ z. z) A (λ z w text. (z, refl, text)) (λ y w text. text)

module _ {Z : Type 0} {A : Z → Tokens → Type 0} {F : Tokens → Type 0} {before at : Tokens} where
  module _ {X Y : Type 0} {build : X × Y → Z} {B : X → Tokens → Type 0} {C : Y → Tokens → Type 0} (goes_on : List (List ℕ)) (rest : Start C) (apart : is_disjoint rest.shapes goes_on ≡ true) (so : Leaves A F before at build (B ⋅ C)) where
    -- a part was read
    pub then : {after : Tokens} {x : X} → Reached B (Without goes_on) at after x → Leaves A F before after (λ y. build (x, y)) C
    then {after} {x} part = step A F before B (Without goes_on) at after build C so (λ y w m text follows. begins-without C rest.shapes goes_on apart rest.begins y w m text) x part

  -- it was not read
  pub halt : {X Y : Type 0} {build : X × Y → Z} {C : Y → Tokens → Type 0} (B : X → Tokens → Type 0) (goes_on : List (List ℕ)) (rest : Start C) → is_disjoint rest.shapes goes_on ≡ true → Leaves A F before at build (B ⋅ C) → (after : Tokens) (fault : ReadFault) (result : Result Z ReadFault) → IsErrAnd result (λ e. e ≡ fault) → Reads B (Without goes_on) at after (Err fault) → Reads A F before after result
  halt {build = build} {C = C} B goes_on rest apart so after fault result is part =
      failed A F before B (Without goes_on) at after fault result is part
      (stuck A F before B (Without goes_on) at after build C so (λ y w m text follows. begins-without C rest.shapes goes_on apart rest.begins y w m text) rest.sample)

  -- the same, where other tokens may stand behind it by what may stand behind the whole
  pub then_before : {X Y : Type 0} {build : X × Y → Z} {B : X → Tokens → Type 0} {C : Y → Tokens → Type 0} {after : Tokens} {x : X} (goes_on : List (List ℕ)) → ((y : Y) (w m : Tokens) → C y w → F m → Without goes_on (w ++ m)) → Leaves A F before at build (B ⋅ C) → Reached B (Without goes_on) at after x → Leaves A F before after (λ y. build (x, y)) C
  then_before {build = build} {B = B} {C = C} {after = after} {x = x} goes_on follow so part = step A F before B (Without goes_on) at after build C so follow x part

  pub halt_before : {X Y : Type 0} {build : X × Y → Z} {C : Y → Tokens → Type 0} (B : X → Tokens → Type 0) (goes_on : List (List ℕ)) → ((y : Y) (w m : Tokens) → C y w → F m → Without goes_on (w ++ m)) → ((y : Y) × (w : Tokens) × C y w) → Leaves A F before at build (B ⋅ C) → (after : Tokens) (fault : ReadFault) (result : Result Z ReadFault) → IsErrAnd result (λ e. e ≡ fault) → Reads B (Without goes_on) at after (Err fault) → Reads A F before after result
  halt_before {build = build} {C = C} B goes_on follow sample so after fault result is part =
      failed A F before B (Without goes_on) at after fault result is part (stuck A F before B (Without goes_on) at after build C so follow sample)

  -- a part that ends by itself was read
  pub and_then : {X Y : Type 0} {build : X × Y → Z} {B : X → Tokens → Type 0} {C : Y → Tokens → Type 0} {after : Tokens} {x : X} → Leaves A F before at build (B ⋅ C) → Reached B (Without []) at after x → Leaves A F before after (λ y. build (x, y)) C
  and_then {build = build} {B = B} {C = C} {after = after} {x = x} so part = step A F before B (Without []) at after build C so (λ y w m text follows. without-none (w ++ m)) x part

  -- it was not read
  pub halt_by : {X Y : Type 0} {build : X × Y → Z} {C : Y → Tokens → Type 0} (B : X → Tokens → Type 0) → ((y : Y) × (w : Tokens) × C y w) → Leaves A F before at build (B ⋅ C) → (after : Tokens) (fault : ReadFault) (result : Result Z ReadFault) → IsErrAnd result (λ e. e ≡ fault) → Reads B (Without []) at after (Err fault) → Reads A F before after result
  halt_by {build = build} {C = C} B sample so after fault result is part =
      failed A F before B (Without []) at after fault result is part (stuck A F before B (Without []) at after build C so (λ y w m text follows. without-none (w ++ m)) sample)

  -- what is left is made of other parts
  pub opened : {X Y : Type 0} {build : Y → Z} {make : X → Y} {B : X → Tokens → Type 0} → Leaves A F before at build (Made make B) → Leaves A F before at (λ x. build (make x)) B
  opened {build = build} {make = make} {B = B} so = unmade A F before at build make B so

  module _ {X : Type 0} {build : X → Z} {B : X → Tokens → Type 0} {Behind : Tokens → Type 0} (follow : (m : Tokens) → F m → Behind m) (so : Leaves A F before at build B) where
    -- the last part was read
    pub final : {after : Tokens} {x : X} → Reached B Behind at after x → Reached A F before after (build x)
    final {after} {x} part = last A F before B Behind at after build so follow x part

    pub final_halt : (after : Tokens) (fault : ReadFault) (result : Result Z ReadFault) → IsErrAnd result (λ e. e ≡ fault) → Reads B Behind at after (Err fault) → Reads A F before after result
    final_halt after fault result is part = failed A F before B Behind at after fault result is part (last-stuck A F before B Behind at after build so follow)

  module _ {X Y : Type 0} {build : Choice X Y → Z} {B : X → Tokens → Type 0} {C : Y → Tokens → Type 0} (one : Start B) (so : Leaves A F before at build (Either B C)) where
    -- the first of two stands here
    pub first_case : (other : Start C) → is_disjoint other.shapes one.shapes ≡ true → begins (one_of one.shapes) at ≡ true → Leaves A F before at (λ x. build (First x)) B
    first_case other apart there = unmade A F before at build (λ (x : X). First x) B (left A F before at build (Made (λ (x : X). First x) B) (Made (λ (y : Y). Second y) C)
        (λ z w m text follows same. false≢true (sym (begins-without C other.shapes one.shapes apart other.begins text.0 w m text.2) ∙ first-begins (one_of one.shapes) (w ++ m) at same ∙ there)) so)

    -- the second of two stands here
    pub second_case : begins (one_of one.shapes) at ≡ false → Leaves A F before at (λ y. build (Second y)) C
    second_case not_there = unmade A F before at build (λ (y : Y). Second y) C (right A F before at build (Made (λ (x : X). First x) B) (Made (λ (y : Y). Second y) C)
        (λ z w m text follows same. never-begins (one_of one.shapes) (Made (λ (x : X). First x) B) at (made-begins B (λ (x : X). First x) one.shapes one.begins) not_there z w m text same) so)

-- what is left makes a value of which the whole one is made
pub gathered : {X Y Z : Type 0} {A : Z → Tokens → Type 0} {F : Tokens → Type 0} {before at : Tokens} {B : X → Tokens → Type 0} (build : Y → Z) (make : X → Y) → Leaves A F before at (λ x. build (make x)) B → Leaves A F before at build (Made make B)
gathered {A = A} build make so = record {
  taken = so.taken;
  split = so.split;
  back = λ y v left. subst (λ z. A (build z) (so.taken ++ v)) (sym left.1) (so.back left.0 v left.2);
  forth = λ z w m n text follows same looked.
      let l = so.forth z w m n text follows same looked in
      (make l.0, l.1, l.2, (l.0, refl, l.3), l.4);
}
