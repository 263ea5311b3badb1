-- What has been read of a part that stands once or more.
use Rattle.std.proofs.Common.{◌≡◌, refl, sym, subst, ℕ, List, [], ◌∷◌, ◌++◌, true}
use Rattle.std.specs.Prelude.{Result, Ok, Err}
use Rattle.hw_text.specs.Language.{◌⋅◌, Each, Made}
use Rattle.hw_text.specs.Reading.{Begins, Reached, Stuck, Reads, Leaves}
use Rattle.hw_text.specs.declared.read_fault.ReadFault.{ReadFault}
use Rattle.hw_text.specs.declared.read_fault.ReadFault.TheVariants.{Syntax, NoMemory}
use Rattle.hw_text.proofs.Reading.{begun, step, stuck, last, last-stuck}
use Rattle.hw_text.specs.declared.placed.Placed.{Placed}
use Rattle.aadl_tree.specs.declared.token.Token.{Token}
use Rattle.aadl_parse.specs.Shapes.{one_of, Without, is_disjoint}
use Rattle.aadl_parse.proofs.Repeats.{each-follows}

-- what is left is what a value is made of
pub remade : {T X Y Z : Type 0} (A : Z → List T → Type 0) (F : List T → Type 0) (before after : List T) (build : Y → Z) (make : X → Y) (B : X → List T → Type 0) → Leaves A F before after (λ x. build (make x)) B → Leaves A F before after build (Made make B)
remade A F before after build make B so = record {
  taken = so.taken;
  split = so.split;
  back = λ y v left. subst (λ z. A (build z) (so.taken ++ v)) (sym left.1) (so.back left.0 v left.2);
  forth = λ z w m n text follows same looked.
      let l = so.forth z w m n text follows same looked in
      (make l.0, l.1, l.2, (l.0, refl, l.3), l.4);
}

module _ {X : Type 0} (A : X → List (Placed Token) → Type 0) (starts goes_on : List (List ℕ)) (is : Begins (one_of starts) true A) (apart : is_disjoint starts goes_on ≡ true) (before : List (Placed Token)) where
  all : Leaves (Made (λ (p : X × List X). p.0 ∷ p.1) (A ⋅ Each A)) (Without (starts ++ goes_on)) before before (λ (p : X × List X). p.0 ∷ p.1) (A ⋅ Each A)
  all = begun (Made (λ (p : X × List X). p.0 ∷ p.1) (A ⋅ Each A)) (Without (starts ++ goes_on)) before (λ (p : X × List X). p.0 ∷ p.1) (A ⋅ Each A) (λ z w text. text) (λ y w text. (y, refl, text))

  pub head-stuck : (after : List (Placed Token)) → Stuck A (Without goes_on) before after → Stuck (Made (λ (p : X × List X). p.0 ∷ p.1) (A ⋅ Each A)) (Without (starts ++ goes_on)) before after
  head-stuck after part = stuck (Made (λ (p : X × List X). p.0 ∷ p.1) (A ⋅ Each A)) (Without (starts ++ goes_on)) before A (Without goes_on) before after (λ (p : X × List X). p.0 ∷ p.1) (Each A) all (each-follows A starts goes_on is apart) ([], [], refl) part

  module _ (at : List (Placed Token)) (x : X) (head : Reached A (Without goes_on) before at x) where
    headed : Leaves (Made (λ (p : X × List X). p.0 ∷ p.1) (A ⋅ Each A)) (Without (starts ++ goes_on)) before at (λ (xs : List X). xs) (Made (λ (later : List X). x ∷ later) (Each A))
    headed = remade (Made (λ (p : X × List X). p.0 ∷ p.1) (A ⋅ Each A)) (Without (starts ++ goes_on)) before at (λ (xs : List X). xs) (λ (later : List X). x ∷ later) (Each A)
        (step (Made (λ (p : X × List X). p.0 ∷ p.1) (A ⋅ Each A)) (Without (starts ++ goes_on)) before A (Without goes_on) before at (λ (p : X × List X). p.0 ∷ p.1) (Each A) all (each-follows A starts goes_on is apart) x head)

    tail-read : (after : List (Placed Token)) (result : Result (List X) ReadFault) → Reads (Made (λ (later : List X). x ∷ later) (Each A)) (Without (starts ++ goes_on)) at after result → Reads (Made (λ (p : X × List X). p.0 ∷ p.1) (A ⋅ Each A)) (Without (starts ++ goes_on)) before after result
    tail-read after (Ok xs) part = last (Made (λ (p : X × List X). p.0 ∷ p.1) (A ⋅ Each A)) (Without (starts ++ goes_on)) before (Made (λ (later : List X). x ∷ later) (Each A)) (Without (starts ++ goes_on)) at after (λ (xs : List X). xs) headed (λ m f. f) xs part
    tail-read after (Err Syntax) part = last-stuck (Made (λ (p : X × List X). p.0 ∷ p.1) (A ⋅ Each A)) (Without (starts ++ goes_on)) before (Made (λ (later : List X). x ∷ later) (Each A)) (Without (starts ++ goes_on)) at after (λ (xs : List X). xs) headed (λ m f. f) part
    tail-read after (Err NoMemory) part = tt

    pub some_of-read : (after : List (Placed Token)) (earlier : List X) (result : Result (List X) ReadFault) → earlier ≡ x ∷ [] → Reads (Made (λ (later : List X). earlier ++ later) (Each A)) (Without (starts ++ goes_on)) at after result → Reads (Made (λ (p : X × List X). p.0 ∷ p.1) (A ⋅ Each A)) (Without (starts ++ goes_on)) before after result
    some_of-read after earlier result one part = tail-read after result (subst (λ (xs : List X). Reads (Made (λ (later : List X). xs ++ later) (Each A)) (Without (starts ++ goes_on)) at after result) one part)
