-- What has been read of productions that stand there or not, and of one or another, told by a test of the token ahead.
use Rattle.std.proofs.Common.{◌≡◌, ◌∙◌, refl, sym, ap, subst, List, [], ◌∷◌, ◌++◌, Bool, true, false, Option, Some, None, append_assoc, ◌<◌, ◌≤◌, length, length-append, arith}
use Rattle.std.specs.Prelude.{⊤, Result, Ok, Err}
use Rattle.std.proofs.lemmas.Bool.{false≢true}
use Rattle.hw_text.specs.Language.{◌⋅◌, Maybe, Each, Made, ◌∣◌}
use Rattle.hw_text.specs.Reading.{begins, Begins, BeginsWithout, Reached, Reads, Leaves}
use Rattle.hw_text.specs.declared.read_fault.ReadFault.{ReadFault}
use Rattle.hw_text.specs.declared.read_fault.ReadFault.TheVariants.{Syntax, NoMemory}
use Rattle.hw_text.proofs.Reading.{begun, some, none, more, no_more, left, right, ended, last, last-stuck, never-begins, never-follows, first-begins, never-longer, unmade}

-- no token of the one kind is of the other
abbrev pub Apart : {T : Type 0} → (T → Bool) → (T → Bool) → Type 0
Apart {T} p q = (t : T) → p t ≡ true → q t ≡ false

module _ {T : Type 0} (p q : T → Bool) (apart : Apart p q) where
  pub apart-begins : (l : List T) → begins p l ≡ true → begins q l ≡ false
  apart-begins [] is = refl
  apart-begins (t ∷ l) is = apart t is

  -- a text that begins so is none that begins in another way
  pub begins-without : {X : Type 0} (A : X → List T → Type 0) → Begins p true A → Begins q false A
  begins-without A is x w m text = apart-begins (w ++ m) (is x w m text)

module _ {T Z : Type 0} {A : Z → List T → Type 0} {F : List T → Type 0} {before : List T} where
  -- what is read next is the whole that is left
  pub hand_on : {X : Type 0} (B : X → List T → Type 0) (G : List T → Type 0) (at after : List T) (build : X → Z) (result : Result X ReadFault) (whole : Result Z ReadFault) → Leaves A F before at build B → ((m : List T) → F m → G m) → ((x : X) → result ≡ Ok x → whole ≡ Ok (build x)) → ((e : ReadFault) → result ≡ Err e → whole ≡ Err e) → Reads B G at after result → Reads A F before after whole
  hand_on B G at after build (Ok x) whole so follow good bad part =
      subst (λ r. Reads A F before after r) (sym (good x refl)) (last A F before B G at after build so follow x part)
  hand_on B G at after build (Err Syntax) whole so follow good bad part =
      subst (λ r. Reads A F before after r) (sym (bad Syntax refl)) (last-stuck A F before B G at after build so follow part)
  hand_on B G at after build (Err NoMemory) whole so follow good bad part = subst (λ r. Reads A F before after r) (sym (bad NoMemory refl)) tt

  -- what is read next is a whole
  pub handed : (B : Z → List T → Type 0) (G : List T → Type 0) (after : List T) (result : Result Z ReadFault) → Leaves A F before before (λ z. z) B → ((m : List T) → F m → G m) → Reads B G before after result → Reads A F before after result
  handed B G after result so follow part = hand_on B G before after (λ z. z) result result so follow (λ x is. is) (λ e is. is) part

-- one language in the place of another of the same texts
pub same : {T Z : Type 0} {F : List T → Type 0} (A B : Z → List T → Type 0) (G : List T → Type 0) (before after : List T) (result : Result Z ReadFault) → ((z : Z) (w : List T) → A z w → B z w) → ((z : Z) (w : List T) → B z w → A z w) → ((m : List T) → F m → G m) → Reads B G before after result → Reads A F before after result
same {F = F} A B G before after result opened shut follow part =
    handed B G after result (begun A F before (λ z. z) B (λ z w text. (z, refl, opened z w text)) shut) follow part

module _ {T Y Z : Type 0} {W : Z → List T → Type 0} {F : List T → Type 0} {before at : List T} {build : Y → Z} (A B : Y → List T → Type 0) where
  -- the first of two stands here, since no text of the other begins so
  pub first_of : (p q : T → Bool) → Begins q true B → Apart q p → begins p at ≡ true → Leaves W F before at build (A ∣ B) → Leaves W F before at build A
  first_of p q is apart there so = left W F before at build A B
      (λ z w m text follows agrees. false≢true (sym (begins-without q p apart B is z w m text) ∙ first-begins p (w ++ m) at agrees ∙ there)) so

  -- the second of two stands here, since the first begins otherwise
  pub second_of : (p : T → Bool) → Begins p true A → begins p at ≡ false → Leaves W F before at build (A ∣ B) → Leaves W F before at build B
  second_of p is not_there so = right W F before at build A B (λ z w m text follows agrees. never-begins p A at is not_there z w m text agrees) so

module _ {T X Z : Type 0} {W : Z → List T → Type 0} {F : List T → Type 0} {before at : List T} {build : Option X → Z} {A : X → List T → Type 0} (p : T → Bool) where
  -- what is optional does not stand here
  pub no_option : Begins p true A → begins p at ≡ false → Leaves W F before at build (Maybe A) → Reached W F before at (build None)
  no_option is not_there so = ended W F before at (λ (u : ⊤). build None) (none W F before at A build (λ x w m text follows agrees. never-begins p A at is not_there x w m text agrees) so)

  -- what is optional stands here
  pub an_option : begins p at ≡ true → ((m : List T) → F m → BeginsWithout p m) → Leaves W F before at build (Maybe A) → Leaves W F before at (λ x. build (Some x)) A
  an_option there ends so = some W F before at A build (λ m follows agrees. never-follows p at there m (ends m follows) agrees) so

module _ {T X : Type 0} {F : List T → Type 0} (A : X → List T → Type 0) (before : List T) (p : T → Bool) where
  maybe : Leaves (Maybe A) F before before (λ o. o) (Maybe A)
  maybe = begun (Maybe A) F before (λ o. o) (Maybe A) (λ z w text. (z, refl, text)) (λ y w text. text)

  -- what is optional is not there
  pub absent : Begins p true A → begins p before ≡ false → Reached (Maybe A) F before before None
  absent is not_there = ended (Maybe A) F before before (λ (u : ⊤). None)
      (none (Maybe A) F before before A (λ o. o) (λ x w m text follows agrees. never-begins p A before is not_there x w m text agrees) maybe)

  -- what is optional is there
  pub present : begins p before ≡ true → ((m : List T) → F m → BeginsWithout p m) → Leaves (Maybe A) F before before (λ x. Some x) A
  present there ends = some (Maybe A) F before before A (λ o. o) (λ m follows agrees. never-follows p before there m (ends m follows) agrees) maybe

module _ {T X Z : Type 0} {W : Z → List T → Type 0} {F : List T → Type 0} {before at : List T} {build : List X → Z} {A : X → List T → Type 0} (p : T → Bool) where
  -- no member is ahead
  pub no_member : Begins p true A → begins p at ≡ false → Leaves W F before at build (Each A) → Reached W F before at (build [])
  no_member is not_there so = ended W F before at (λ (u : ⊤). build []) (no_more W F before at A build (λ x w m text agrees. never-begins p A at is not_there x w m text agrees) so)

  -- a member is ahead
  pub a_member : begins p at ≡ true → ((m : List T) → F m → BeginsWithout p m) → Leaves W F before at build (Each A) → Leaves W F before at (λ l. build (l.0 ∷ l.1)) (A ⋅ Each A)
  a_member there ends so = more W F before at A build (λ m follows agrees. never-follows p at there m (ends m follows) agrees) so

-- none of several members
pub no_members : {T X : Type 0} {A : X → List T → Type 0} → (l : List X) × (w : List T) × Each A l w
no_members = ([], [], refl)

-- nothing, where something is optional
pub nothing : {T X : Type 0} {A : X → List T → Type 0} → (o : Option X) × (w : List T) × Maybe A o w
nothing = (None, [], refl)

-- a text of the one and a text of the other
pub both : {T X Y : Type 0} {A : X → List T → Type 0} {B : Y → List T → Type 0} → ((x : X) × (w : List T) × A x w) → ((y : Y) × (w : List T) × B y w) → (l : X × Y) × (w : List T) × (A ⋅ B) l w
both a b = ((a.0, b.0), a.1 ++ b.1, (a.1, b.1, refl, a.2, b.2))

pub made : {T X Y : Type 0} {A : X → List T → Type 0} (build : X → Y) → ((x : X) × (w : List T) × A x w) → (y : Y) × (w : List T) × Made build A y w
made build a = (build a.0, a.1, (a.0, refl, a.2))

module _ {T X : Type 0} {F : List T → Type 0} (A : X → List T → Type 0) (p q : T → Bool) (is : Begins p true A) (apart : Apart p q) where
  -- behind members stands what may stand behind one
  pub members-follow : ((m : List T) → F m → BeginsWithout q m) → (l : List X) (w m : List T) → Each A l w → F m → BeginsWithout q (w ++ m)
  members-follow ends [] w m text follows = subst (λ (l : List T). BeginsWithout q (l ++ m)) (sym text) (ends m follows)
  members-follow ends (x ∷ l) w m text follows =
      subst (λ (l : List T). BeginsWithout q l)
      (sym (append_assoc text.0 text.1 m) ∙ ap (λ (l : List T). l ++ m) (sym text.2))
      (begins-without p q apart A is x text.0 (text.1 ++ m) text.3)

  -- behind what may be there stands what may stand behind it
  pub maybe-follows : ((m : List T) → F m → BeginsWithout q m) → (o : Option X) (w m : List T) → Maybe A o w → F m → BeginsWithout q (w ++ m)
  maybe-follows ends None w m text follows = subst (λ (l : List T). BeginsWithout q (l ++ m)) (sym text) (ends m follows)
  maybe-follows ends (Some x) w m text follows = begins-without p q apart A is x w m text

-- behind what stands there begins the next part
pub begins-follow : {T X : Type 0} (F : List T → Type 0) (A : X → List T → Type 0) (p q : T → Bool) → Begins p true A → Apart p q → (x : X) (w m : List T) → A x w → F m → BeginsWithout q (w ++ m)
begins-follow F A p q is apart x w m text follows = begins-without p q apart A is x w m text

-- a text that was read took a token at least
pub read-shorter : {T X : Type 0} {A : X → List T → Type 0} {G : List T → Type 0} {before after : List T} {x : X} (p : T → Bool) → Begins p true A → Reached A G before after x → length after < length before
read-shorter {T} {X} {A} {G} {before} {after} {x} p is so = shorter so.taken (is x so.taken [] so.spelled) so.split
  where
    shorter : (taken : List T) → begins p (taken ++ []) ≡ true → before ≡ taken ++ after → length after < length before
    shorter [] there split = absurd (false≢true there)
    shorter (t ∷ taken) there split = omega (arith, ap (λ (l : List T). length l) split, length-append taken after)

pub no-longer : {T X : Type 0} {A : X → List T → Type 0} {G : List T → Type 0} {before after : List T} {x : X} → Reached A G before after x → length after ≤ length before
no-longer {T} {X} {A} {G} {before} {after} {x} so = never-longer A G before after x so

-- what is left is made of other parts
pub opened_as : {T Y Z X : Type 0} {W : Z → List T → Type 0} {F : List T → Type 0} {before at : List T} {build : Y → Z} {make : X → Y} {B : X → List T → Type 0} → Leaves W F before at build (Made make B) → Leaves W F before at (λ x. build (make x)) B
opened_as {W = W} {F = F} {before = before} {at = at} {build = build} {make = make} {B = B} so = unmade W F before at build make B so
