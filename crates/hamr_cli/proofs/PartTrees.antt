-- What the parts of a package say is what their trees are.
use Rattle.std.proofs.Common.{◌≡◌, ℕ, true, false, cond, ◌==◌, List, [], ◌∷◌, length, Option, Some, None, Bool, ap, ◌∙◌, refl, subst, arith}
use Rattle.std.specs.Prelude.{is_none}
use Rattle.std.specs.Option.{option_map, option_and_then}
use Rattle.std.specs.Str.{bytes_eq}
use Rattle.std.proofs.lemmas.Bool.{and_parts, and_from, false≢true}
use Rattle.std.proofs.lemmas.Bool.Decides.{Decides-eqb}
use Rattle.std.proofs.lemmas.Option.{option_and_then_some, none-some, same_Some}
use Rattle.std.proofs.lemmas.Slice.Eq.{bytes_eq-Decides}
use Rattle.hamr_cli.specs.Parts.{alone, all_of, plain_name, is_word}
use Rattle.hamr_cli.specs.Tree.{Each, IsPlainName}
use Rattle.aadl_tree.specs.declared.names.QualifiedName.{QualifiedName}

pub alone-is : {X Y : Type 0} (x z : X) (ys : List Y) → alone x ys ≡ Some z → (x ≡ z) × (ys ≡ [])
alone-is x z [] e = (same_Some x z e, refl)
alone-is x z (y ∷ ys) e = absurd (none-some z e)

pub is-alone : {X Y : Type 0} (x z : X) (ys : List Y) → x ≡ z → ys ≡ [] → alone x ys ≡ Some z
is-alone x z ys e f = ap (alone x) f ∙ ap (λ w. Some w) e

-- a value that was made of one
pub option_map_some : {A B P : Type 0} (f : A → B) (o : Option A) (y : B) → option_map f o ≡ Some y → ((x : A) → o ≡ Some x → f x ≡ y → P) → P
option_map_some f None y e k = absurd (none-some y e)
option_map_some f (Some x) y e k = k x refl (same_Some (f x) y e)

-- a value behind a test
pub if_some : {A : Type 0} (b : Bool) (o : Option A) (y : A) → cond b o None ≡ Some y → (b ≡ true) × (o ≡ Some y)
if_some true o y e = (refl, e)
if_some false o y e = absurd (none-some y e)

pub some_if : {A : Type 0} (b : Bool) (o : Option A) (y : A) → b ≡ true → o ≡ Some y → cond b o None ≡ Some y
some_if b o y e f = ap (λ c. cond c o None) e ∙ f

pub empty-is : {X : Type 0} (xs : List X) → (length xs == 0) ≡ true → xs ≡ []
empty-is [] e = refl
empty-is (x ∷ xs) e = let none : length (x ∷ xs) ≡ 0 = (Decides-eqb (length (x ∷ xs)) 0).0 e in absurd (omega arith)

pub is-empty : {X : Type 0} (xs : List X) → xs ≡ [] → (length xs == 0) ≡ true
is-empty xs e = ap (λ l. length l == 0) e

pub none-is : {X : Type 0} (o : Option X) → is_none o ≡ true → o ≡ None
none-is None e = refl
none-is (Some x) e = absurd (false≢true e)

pub is-none : {X : Type 0} (o : Option X) → o ≡ None → is_none o ≡ true
is-none o e = ap is_none e

-- members that each say something
module _ {X Y : Type 0} (f : X → Option Y) (R : X → Y → Type 0) where
  pub all-each : ((x : X) (y : Y) → f x ≡ Some y → R x y) → (xs : List X) (ys : List Y) → all_of f xs ≡ Some ys → Each R xs ys
  all-each is [] ys e = subst (Each R []) (same_Some [] ys e) tt
  all-each is (x ∷ xs) ys e =
      option_and_then_some (λ y. option_map (λ more. y ∷ more) (all_of f xs)) (f x) ys e (λ y p q.
      option_map_some (λ more. y ∷ more) (all_of f xs) ys q (λ more m s. subst (Each R (x ∷ xs)) s (is x y p, all-each is xs more m)))

  pub each-all : ((x : X) (y : Y) → R x y → f x ≡ Some y) → (xs : List X) (ys : List Y) → Each R xs ys → all_of f xs ≡ Some ys
  each-all is [] [] h = refl
  each-all is [] (y ∷ ys) h = absurd h
  each-all is (x ∷ xs) [] h = absurd h
  each-all is (x ∷ xs) (y ∷ ys) h =
      ap (λ o. option_and_then (λ z. option_map (λ more. z ∷ more) (all_of f xs)) o) (is x y h.0)
      ∙ ap (λ o. option_map (λ more. y ∷ more) o) (each-all is xs ys h.1)

pub plain_name-is : (q : QualifiedName) (name : List ℕ) → plain_name q ≡ Some name → IsPlainName q name
plain_name-is q name e = let r = alone-is q.first.name name q.others e in record { word = r.0; alone = r.1 }

pub is-plain_name : (q : QualifiedName) (name : List ℕ) → IsPlainName q name → plain_name q ≡ Some name
is-plain_name q name is = is-alone q.first.name name q.others is.word is.alone

pub word-is : (word : List ℕ) (q : QualifiedName) → is_word word q ≡ true → IsPlainName q word
word-is word q e =
    let parts = and_parts (bytes_eq q.first.name word) (length q.others == 0) e in
    record { word = (bytes_eq-Decides q.first.name word).0 parts.0; alone = empty-is q.others parts.1 }

pub is-word : (word : List ℕ) (q : QualifiedName) → IsPlainName q word → is_word word q ≡ true
is-word word q is =
    and_from (bytes_eq q.first.name word) (length q.others == 0) ((bytes_eq-Decides q.first.name word).1 is.word) (is-empty q.others is.alone)
