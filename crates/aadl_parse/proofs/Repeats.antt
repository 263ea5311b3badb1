-- What has been read of parts that stand there or not, or several times.
use Rattle.std.proofs.Common.{◌≡◌, ◌∙◌, refl, sym, ap, subst, ℕ, ◌<◌, length, length-append, arith, List, [], ◌∷◌, ◌++◌, true, false, Some, None, append_assoc, append-nil}
use Rattle.std.specs.Prelude.{⊤, Result, Ok, Err}
use Rattle.std.proofs.lemmas.Bool.{false≢true}
use Rattle.hw_text.specs.Language.{◌⋅◌, Maybe, Each, Made}
use Rattle.hw_text.specs.Reading.{begins, Begins, Reached, Stuck, Reads, Leaves}
use Rattle.hw_text.proofs.Reading.{begun, some, none, more, no_more, rebuilt, ended, step, stuck, last, last-stuck, never-begins, never-follows}
use Rattle.hw_text.specs.declared.placed.Placed.{Placed}
use Rattle.hw_text.specs.declared.read_fault.ReadFault.{ReadFault}
use Rattle.hw_text.specs.declared.read_fault.ReadFault.TheVariants.{Syntax, NoMemory}
use Rattle.aadl_tree.specs.declared.token.Token.{Token}
use Rattle.aadl_parse.specs.Shapes.{one_of, Without, is_disjoint}
use Rattle.aadl_parse.specs.Laws.{begins-without, without-left, without-right}

module _ {X : Type 0} (A : X → List (Placed Token) → Type 0) (starts goes_on : List (List ℕ)) (is : Begins (one_of starts) true A) where
  abbrev F : List (Placed Token) → Type 0
  F = Without (starts ++ goes_on)

  module _ (before : List (Placed Token)) where
    maybe : Leaves (Maybe A) F before before (λ o. o) (Maybe A)
    maybe = begun (Maybe A) F before (λ o. o) (Maybe A) (λ z w text. (z, refl, text)) (λ y w text. text)

    pub absent : begins (one_of starts) before ≡ false → Reached (Maybe A) F before before None
    absent not_there = ended (Maybe A) F before before (λ (u : ⊤). None)
        (none (Maybe A) F before before A (λ o. o) (λ x w m text follows same. never-begins (one_of starts) A before is not_there x w m text same) maybe)

    pub present : begins (one_of starts) before ≡ true → Leaves (Maybe A) F before before (λ x. Some x) A
    present there = some (Maybe A) F before before A (λ o. o) (λ m follows same. never-follows (one_of starts) before there m (without-left starts goes_on m follows) same) maybe

    pub present-stuck : (after : List (Placed Token)) → begins (one_of starts) before ≡ true → Stuck A (Without goes_on) before after → Stuck (Maybe A) F before after
    present-stuck after there part = last-stuck (Maybe A) F before A (Without goes_on) before after (λ x. Some x) (present there) (λ m follows. without-right starts goes_on m follows) part

    pub present-read : (after : List (Placed Token)) (x : X) → begins (one_of starts) before ≡ true → Reached A (Without goes_on) before after x → Reached (Maybe A) F before after (Some x)
    present-read after x there part = last (Maybe A) F before A (Without goes_on) before after (λ x. Some x) (present there) (λ m follows. without-right starts goes_on m follows) x part

  pub each-follows : is_disjoint starts goes_on ≡ true → (xs : List X) (w m : List (Placed Token)) → Each A xs w → Without (starts ++ goes_on) m → Without goes_on (w ++ m)
  each-follows apart [] w m text follows = subst (λ (l : List (Placed Token)). Without goes_on (l ++ m)) (sym text) (without-right starts goes_on m follows)
  each-follows apart (x ∷ xs) w m text follows =
      subst (λ (l : List (Placed Token)). Without goes_on l)
      (sym (append_assoc text.0 text.1 m) ∙ ap (λ (l : List (Placed Token)). l ++ m) (sym text.2))
      (begins-without A starts goes_on apart is x text.0 (text.1 ++ m) text.3)

  -- some members have been read
  module _ (earlier : List X) (before : List (Placed Token)) where
    pub members-begun : Leaves (Made (λ later. earlier ++ later) (Each A)) (Without (starts ++ goes_on)) before before (λ later. earlier ++ later) (Each A)
    members-begun = begun (Made (λ later. earlier ++ later) (Each A)) (Without (starts ++ goes_on)) before (λ later. earlier ++ later) (Each A) (λ z w text. text) (λ y w text. (y, refl, text))

    module _ (at : List (Placed Token)) (members : List X) (so : Leaves (Made (λ later. earlier ++ later) (Each A)) (Without (starts ++ goes_on)) before at (λ later. members ++ later) (Each A)) where
      pub members-read : begins (one_of starts) at ≡ false → Reached (Made (λ later. earlier ++ later) (Each A)) (Without (starts ++ goes_on)) before at members
      members-read not_there = subst (λ (xs : List X). Reached (Made (λ later. earlier ++ later) (Each A)) (Without (starts ++ goes_on)) before at xs) (append-nil members)
          (ended (Made (λ later. earlier ++ later) (Each A)) (Without (starts ++ goes_on)) before at (λ (u : ⊤). members ++ [])
          (no_more (Made (λ later. earlier ++ later) (Each A)) (Without (starts ++ goes_on)) before at A (λ later. members ++ later) (λ x w m text same. never-begins (one_of starts) A at is not_there x w m text same) so))

      module _ (apart : is_disjoint starts goes_on ≡ true) (there : begins (one_of starts) at ≡ true) where
        one_more : Leaves (Made (λ later. earlier ++ later) (Each A)) (Without (starts ++ goes_on)) before at (λ p. members ++ (p.0 ∷ p.1)) (A ⋅ Each A)
        one_more = more (Made (λ later. earlier ++ later) (Each A)) (Without (starts ++ goes_on)) before at A (λ later. members ++ later) (λ m follows same. never-follows (one_of starts) at there m (without-left starts goes_on m follows) same) so

        pub members-stuck : (after : List (Placed Token)) → Stuck A (Without goes_on) at after → Stuck (Made (λ later. earlier ++ later) (Each A)) (Without (starts ++ goes_on)) before after
        members-stuck after part = stuck (Made (λ later. earlier ++ later) (Each A)) (Without (starts ++ goes_on)) before A (Without goes_on) at after (λ p. members ++ (p.0 ∷ p.1)) (Each A) one_more (each-follows apart) ([], [], refl) part

        pub members-more : (after : List (Placed Token)) (x : X) (new : List X) → new ≡ members ++ x ∷ [] → Reached A (Without goes_on) at after x → Leaves (Made (λ later. earlier ++ later) (Each A)) (Without (starts ++ goes_on)) before after (λ later. new ++ later) (Each A)
        members-more after x new is_new part = rebuilt (Made (λ later. earlier ++ later) (Each A)) (Without (starts ++ goes_on)) before after (λ later. members ++ (x ∷ later)) (λ later. new ++ later) (Each A)
            (λ later. sym (append_assoc members (x ∷ []) later) ∙ ap (λ (xs : List X). xs ++ later) (sym is_new))
            (step (Made (λ later. earlier ++ later) (Each A)) (Without (starts ++ goes_on)) before A (Without goes_on) at after (λ p. members ++ (p.0 ∷ p.1)) (Each A) one_more (each-follows apart) x part)

  -- a text that was read took a token at least
  pub read-shorter : (G : List (Placed Token) → Type 0) (before after : List (Placed Token)) (x : X) → Reached A G before after x → length after < length before
  read-shorter G before after x so = shorter so.taken (is x so.taken [] so.spelled) so.split
    where
      shorter : (taken : List (Placed Token)) → begins (one_of starts) (taken ++ []) ≡ true → before ≡ taken ++ after → length after < length before
      shorter [] there split = absurd (false≢true there)
      shorter (t ∷ taken) there split = omega (arith, ap (λ (l : List (Placed Token)). length l) split, length-append taken after)

-- what is made without change
module _ {T X : Type 0} (A : X → List T → Type 0) (F : List T → Type 0) (before after : List T) where
  pub unchanged-read : (x : X) → Reached (Made (λ y. y) A) F before after x → Reached A F before after x
  unchanged-read x so = record {
    taken = so.taken;
    split = so.split;
    spelled = subst (λ (y : X). A y so.taken) (sym so.spelled.1) so.spelled.2;
    only = λ y w m n text follows same looked. so.only y w m n (y, refl, text) follows same looked;
  }

  pub unchanged-stuck : Stuck (Made (λ y. y) A) F before after → Stuck A F before after
  unchanged-stuck so = record {
    taken = so.taken;
    split = so.split;
    goes_on = (so.goes_on.0, so.goes_on.1, subst (λ (y : X). A y (so.taken ++ so.goes_on.1)) (sym so.goes_on.2.1) so.goes_on.2.2);
    none = λ y w m n text follows same looked. so.none y w m n (y, refl, text) follows same looked;
  }

  pub unchanged : (result : Result X ReadFault) → Reads (Made (λ y. y) A) F before after result → Reads A F before after result
  unchanged (Ok x) so = unchanged-read x so
  unchanged (Err Syntax) so = unchanged-stuck so
  unchanged (Err NoMemory) so = tt

pub from-none : {T X : Type 0} (A : List X → List T → Type 0) (F : List T → Type 0) (before after : List T) (earlier : List X) → earlier ≡ [] → (result : Result (List X) ReadFault) → Reads (Made (λ later. earlier ++ later) A) F before after result → Reads A F before after result
from-none {T} {X} A F before after earlier none result so =
    unchanged A F before after result (subst (λ (xs : List X). Reads (Made (λ later. xs ++ later) A) F before after result) none so)
