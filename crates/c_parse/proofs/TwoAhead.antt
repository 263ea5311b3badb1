-- A choice that the second token makes.
use Rattle.std.proofs.Common.{◌≡◌, ◌∙◌, refl, sym, ap, [], ◌∷◌, ◌++◌, drop, length, append-nil, arith, Some}
use Rattle.std.specs.Prelude.{Result, Ok, Err}
use Rattle.hw_text.specs.declared.placed.Placed.{Placed}
use Rattle.hw_text.specs.declared.read_fault.ReadFault.{ReadFault}
use Rattle.hw_text.specs.declared.read_fault.ReadFault.TheVariants.{Syntax, NoMemory}
use Rattle.hw_text.specs.Reading.{first, Reached, Stuck, Reads}
use Rattle.c_parse.specs.declared.token.Token.{Token}
use Rattle.c_parse.specs.Values.{Tokens}

-- of the texts of one language those that agree with the two tokens that stand here are texts of another, which has one with the first
pub record TwoAhead {Z : Type 0} (A B : Z → Tokens → Type 0) (F Behind : Tokens → Type 0) (t : Placed Token) (at : Tokens) : Type 0 where
  pub within : (z : Z) (w : Tokens) → B z w → A z w
  pub only : (z : Z) (w m : Tokens) → A z w → F m → first (w ++ m) ≡ Some t → first (drop 1 (w ++ m)) ≡ first at → B z w
  pub follow : (m : Tokens) → F m → Behind m
  pub ends : Behind []
  pub begun : (z : Z) × (more : Tokens) × B z (t ∷ more)

module _ {Z : Type 0} {A B : Z → Tokens → Type 0} {F Behind : Tokens → Type 0} {t : Placed Token} {at : Tokens} (two : TwoAhead A B F Behind t at) where
  same-first : (u m n : Tokens) → first m ≡ first n → first (u ++ m) ≡ first (u ++ n)
  same-first [] m n same = same
  same-first (x ∷ u) m n same = refl

  empty-not : (x : Placed Token) (l : Tokens) → [] ≡ x ∷ l → ⊥
  empty-not x l same = omega (arith, ap (λ (k : Tokens). length k) same)

  agrees : (taken after w m n : Tokens) → (taken ≡ [] → ⊥) → t ∷ at ≡ taken ++ after → w ++ m ≡ taken ++ n → first n ≡ first after → (first (w ++ m) ≡ Some t) × (first (drop 1 (w ++ m)) ≡ first at)
  agrees [] after w m n some split same looked = absurd (some refl)
  agrees (x ∷ u) after w m n some split same looked = (
    ap first same ∙ sym (ap first split),
    ap (λ (l : Tokens). first (drop 1 l)) same ∙ same-first u n after looked ∙ sym (ap (λ (l : Tokens). first (drop 1 l)) split),
  )

  pub widened_read : {after : Tokens} {x : Z} → Reached B Behind (t ∷ at) after x → Reached A F (t ∷ at) after x
  widened_read {after = after} {x = x} so = record {
    taken = so.taken;
    split = so.split;
    spelled = two.within x so.taken so.spelled;
    only = λ y w m n text follows same looked.
        let two_same = agrees so.taken after w m n never so.split same looked in
        so.only y w m n (two.only y w m text follows two_same.0 two_same.1) (two.follow m follows) same looked;
  }
    where
      never : so.taken ≡ [] → ⊥
      never none =
          let g = two.begun in
          let here : t ∷ at ≡ after = so.split ∙ ap (λ (l : Tokens). l ++ after) none in
          empty-not t g.1 (so.only g.0 (t ∷ g.1) [] (t ∷ g.1) g.2 two.ends (append-nil (t ∷ g.1) ∙ ap (λ (l : Tokens). l ++ (t ∷ g.1)) (sym none)) (ap first here)).1

  pub widened_stuck : {after : Tokens} → Stuck B Behind (t ∷ at) after → Stuck A F (t ∷ at) after
  widened_stuck {after = after} so = record {
    taken = so.taken;
    split = so.split;
    goes_on = (so.goes_on.0, so.goes_on.1, two.within so.goes_on.0 (so.taken ++ so.goes_on.1) so.goes_on.2);
    none = λ y w m n text follows same looked.
        let two_same = agrees so.taken after w m n never so.split same looked in
        so.none y w m n (two.only y w m text follows two_same.0 two_same.1) (two.follow m follows) same looked;
  }
    where
      never : so.taken ≡ [] → ⊥
      never none =
          let g = two.begun in
          let here : t ∷ at ≡ after = so.split ∙ ap (λ (l : Tokens). l ++ after) none in
          so.none g.0 (t ∷ g.1) [] (t ∷ g.1) g.2 two.ends (append-nil (t ∷ g.1) ∙ ap (λ (l : Tokens). l ++ (t ∷ g.1)) (sym none)) (ap first here)

  pub widened : (after : Tokens) (result : Result Z ReadFault) → Reads B Behind (t ∷ at) after result → Reads A F (t ∷ at) after result
  widened after (Ok x) part = widened_read part
  widened after (Err Syntax) part = widened_stuck part
  widened after (Err NoMemory) part = tt
