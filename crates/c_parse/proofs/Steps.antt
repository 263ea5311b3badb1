-- Steps through productions: what is known of a whole text when parts of it have been read.
use Rattle.std.proofs.Common.{◌≡◌, ◌∙◌, refl, sym, subst, [], ◌++◌, Bool, true, false, Some, None, inl, inr}
use Rattle.std.specs.Prelude.{⊤, IsTrue, not, ◌&&◌, Result, Ok, Err, IsErrAnd}
use Rattle.std.proofs.lemmas.Bool.{false≢true}
use Rattle.hw_text.specs.declared.read_fault.ReadFault.{ReadFault}
use Rattle.hw_text.specs.declared.read_fault.ReadFault.TheVariants.{Syntax, NoMemory}
use Rattle.hw_text.specs.declared.placed.Placed.{Placed}
use Rattle.hw_text.specs.Language.{◌⋅◌, Maybe, Each, Made, ◌∣◌}
use Rattle.hw_text.specs.Reading.{first, begins, Begins, Anything, Reached, Stuck, Reads, Leaves}
use Rattle.hw_text.proofs.Reading.{begun, step, stuck, last, last-stuck, left, right, refined, unmade, some, none, ended, failed, first-begins, never-begins, never-follows}
use Rattle.c_tree.specs.declared.dialect.Dialect.{Dialect}
use Rattle.c_tree.specs.Dialects.{is_full}
use Rattle.c_parse.specs.declared.token.Token.{Token}
use Rattle.c_parse.specs.Values.{Tokens}
use Rattle.c_parse.specs.ExpressionGrammar.{InFull}

-- a text of the language
abbrev pub Sample : {X : Type 0} → (X → Tokens → Type 0) → Type 0
Sample {X} A = (x : X) × (w : Tokens) × A x w

pub both : {X Y : Type 0} {A : X → Tokens → Type 0} {B : Y → Tokens → Type 0} → Sample A → Sample B → Sample (A ⋅ B)
both a b = ((a.0, b.0), a.1 ++ b.1, (a.1, b.1, refl, a.2, b.2))

pub sample_of : {X Y : Type 0} (build : X → Y) {A : X → Tokens → Type 0} → Sample A → Sample (Made build A)
sample_of build a = (build a.0, a.1, (a.0, refl, a.2))

pub no_member : {X : Type 0} (A : X → Tokens → Type 0) → Sample (Each A)
no_member A = ([], [], refl)

pub nothing_there : {X : Type 0} (A : X → Tokens → Type 0) → Sample (Maybe A)
nothing_there A = (None, [], refl)

-- a text that begins otherwise stands behind
pub behind : {X : Type 0} {test : Placed Token → Bool} {C : X → Tokens → Type 0} (F : Tokens → Type 0) → Begins test false C → (y : X) (w m : Tokens) → C y w → F m → begins test (w ++ m) ≡ false
behind F is y w m text follows = is y w m text

-- no text of the language agrees with the token that stands here
pub record Excluded {Y : Type 0} (F : Tokens → Type 0) (at : Tokens) (B : Y → Tokens → Type 0) : Type 0 where
  pub none : (y : Y) (w m : Tokens) → B y w → F m → first (w ++ m) ≡ first at → ⊥

other_way : (b c so : Bool) → b ≡ so → b ≡ c → c ≡ not so → ⊥
other_way b c true is same other = false≢true (sym other ∙ sym same ∙ is)
other_way b c false is same other = false≢true (sym is ∙ same ∙ other)

and-right : (b c : Bool) → (b && c) ≡ false → b ≡ true → c ≡ false
and-right true c none is = none
and-right false c none is = absurd (false≢true is)

-- texts begin so, and what stands here does not
pub by_test : {Y : Type 0} {F : Tokens → Type 0} {at : Tokens} {B : Y → Tokens → Type 0} {test : Placed Token → Bool} {so : Bool} → Begins test so B → begins test at ≡ not so → Excluded F at B
by_test {at = at} {test = test} {so = so} is none_there = record {
  none = λ y w m text follows same. other_way (begins test (w ++ m)) (begins test at) so (is y w m text) (first-begins test (w ++ m) at same) none_there;
}

-- texts of the full grammar begin so; this is not the full one, or what stands here does not
pub by_full : {Y : Type 0} {F : Tokens → Type 0} {at : Tokens} {B : Y → Tokens → Type 0} {test : Placed Token → Bool} (dialect : Dialect) → Begins test true B → (is_full dialect && begins test at) ≡ false → Excluded F at (InFull dialect B)
by_full {at = at} {test = test} dialect is none_there = record {
  none = λ y w m text follows same. other_way (begins test (w ++ m)) (begins test at) true (is y w m text.1) (first-begins test (w ++ m) at same) (and-right (is_full dialect) (begins test at) none_there text.0);
}

pub either_way : {Y : Type 0} {F : Tokens → Type 0} {at : Tokens} {B C : Y → Tokens → Type 0} → Excluded F at B → Excluded F at C → Excluded F at (B ∣ C)
either_way one other = record {
  none = λ y w m text follows same. elim text [ inl b ↦ one.none y w m b follows same | inr c ↦ other.none y w m c follows same ];
}

pub and_left : (b c : Bool) → (b && c) ≡ true → b ≡ true
and_left true c is = refl
and_left false c is = is

pub and_right : (b c : Bool) → (b && c) ≡ true → c ≡ true
and_right true c is = is
and_right false c is = absurd (false≢true is)

module _ {Z : Type 0} {A : Z → Tokens → Type 0} {F : Tokens → Type 0} {before at : Tokens} where
  -- a production is what its parts make
  pub unmake : {X Y : Type 0} {build : Y → Z} {make : X → Y} {B : X → Tokens → Type 0} → Leaves A F before at build (Made make B) → Leaves A F before at (λ x. build (make x)) B
  unmake {build = build} {make = make} {B = B} so = unmade A F before at build make B so

  -- the first of two stands here
  pub at_first : {Y : Type 0} {build : Y → Z} {B C : Y → Tokens → Type 0} → Leaves A F before at build (B ∣ C) → Excluded F at C → Leaves A F before at build B
  at_first {build = build} {B = B} {C = C} so never = left A F before at build B C never.none so

  -- the second of two stands here
  pub at_second : {Y : Type 0} {build : Y → Z} {B C : Y → Tokens → Type 0} → Leaves A F before at build (B ∣ C) → Excluded F at B → Leaves A F before at build C
  at_second {build = build} {B = B} {C = C} so never = right A F before at build B C never.none so

  -- what the full grammar has stands here
  pub in_full : (dialect : Dialect) {Y : Type 0} {build : Y → Z} {B : Y → Tokens → Type 0} → Leaves A F before at build (InFull dialect B) → IsTrue (is_full dialect) → Leaves A F before at build B
  in_full dialect {build = build} {B = B} so is = refined A F before at build (InFull dialect B) (λ y. y) B so (λ y v text. (is, text)) (λ y v m text follows same. (y, refl, text.1))

  -- the value as it is made
  pub remake : {Y : Type 0} {build : Y → Z} {B : Y → Tokens → Type 0} → Leaves A F before at build B → Leaves A F before at (λ z. z) (Made build B)
  remake {build = build} {B = B} so = record {
    taken = so.taken;
    split = so.split;
    back = λ z v text. subst (λ (y : Z). A y (so.taken ++ v)) (sym text.1) (so.back text.0 v text.2);
    forth = λ z w m n text follows same looked.
        let l = so.forth z w m n text follows same looked in
        (build l.0, l.1, l.2, (l.0, refl, l.3), l.4);
  }

  pub is_there : {X : Type 0} {build : _ → Z} {B : X → Tokens → Type 0} → Leaves A F before at build (Maybe B) → {test : Placed Token → Bool} → ((m : Tokens) → F m → begins test m ≡ false) → begins test at ≡ true → Leaves A F before at (λ x. build (Some x)) B
  is_there {build = build} {B = B} so {test = test} ends there = some A F before at B build (λ m follows same. never-follows test at there m (ends m follows) same) so

  pub is_absent : {X : Type 0} {build : _ → Z} {B : X → Tokens → Type 0} → Leaves A F before at build (Maybe B) → {test : Placed Token → Bool} → Begins test true B → begins test at ≡ false → Reached A F before at (build None)
  is_absent {build = build} {B = B} so {test = test} is none_there = ended A F before at (λ (u : ⊤). build None)
      (none A F before at B build (λ x w m text follows same. never-begins test B at is none_there x w m text same) so)

  pub is_absent_in_full : (dialect : Dialect) {X : Type 0} {build : _ → Z} {B : X → Tokens → Type 0} → Leaves A F before at build (Maybe (InFull dialect B)) → {test : Placed Token → Bool} → Begins test true B → (is_full dialect && begins test at) ≡ false → Reached A F before at (build None)
  is_absent_in_full dialect {build = build} {B = B} so {test = test} is none_there = ended A F before at (λ (u : ⊤). build None)
      (none A F before at (InFull dialect B) build (λ x w m text follows same. (by_full {F = F} dialect is none_there).none x w m text follows same) so)

  module _ {after : Tokens} where
    -- a part behind which anything may stand has been read
    pub passed : {X Y : Type 0} {build : X × Y → Z} {B : X → Tokens → Type 0} {C : Y → Tokens → Type 0} → Leaves A F before at build (B ⋅ C) → {x : X} → Reached B Anything at after x → Leaves A F before after (λ y. build (x, y)) C
    passed {build = build} {B = B} {C = C} so {x = x} part = step A F before B Anything at after build C so (λ y w m text follows. tt) x part

    pub stuck_in : {X Y : Type 0} {build : X × Y → Z} {B : X → Tokens → Type 0} {C : Y → Tokens → Type 0} → Leaves A F before at build (B ⋅ C) → Sample C → Stuck B Anything at after → Stuck A F before after
    stuck_in {build = build} {B = B} {C = C} so sample part = stuck A F before B Anything at after build C so (λ y w m text follows. tt) sample part

    pub done : {X : Type 0} {build : X → Z} {B : X → Tokens → Type 0} → Leaves A F before at build B → {x : X} → Reached B Anything at after x → Reached A F before after (build x)
    done {build = build} {B = B} so {x = x} part = last A F before B Anything at after build so (λ m follows. tt) x part

    pub stuck_last : {X : Type 0} {build : X → Z} {B : X → Tokens → Type 0} → Leaves A F before at build B → Stuck B Anything at after → Stuck A F before after
    stuck_last {build = build} {B = B} so part = last-stuck A F before B Anything at after build so (λ m follows. tt) part

    module _ {Behind : Tokens → Type 0} where
      -- a part behind which only some texts may stand has been read
      pub passed_by : {X Y : Type 0} {build : X × Y → Z} {B : X → Tokens → Type 0} {C : Y → Tokens → Type 0} → Leaves A F before at build (B ⋅ C) → ((y : Y) (w m : Tokens) → C y w → F m → Behind (w ++ m)) → {x : X} → Reached B Behind at after x → Leaves A F before after (λ y. build (x, y)) C
      passed_by {build = build} {B = B} {C = C} so follow {x = x} part = step A F before B Behind at after build C so follow x part

      pub stuck_by : {X Y : Type 0} {build : X × Y → Z} {B : X → Tokens → Type 0} {C : Y → Tokens → Type 0} → Leaves A F before at build (B ⋅ C) → ((y : Y) (w m : Tokens) → C y w → F m → Behind (w ++ m)) → Sample C → Stuck B Behind at after → Stuck A F before after
      stuck_by {build = build} {B = B} {C = C} so follow sample part = stuck A F before B Behind at after build C so follow sample part

      pub done_by : {X : Type 0} {build : X → Z} {B : X → Tokens → Type 0} → Leaves A F before at build B → ((m : Tokens) → F m → Behind m) → {x : X} → Reached B Behind at after x → Reached A F before after (build x)
      done_by {build = build} {B = B} so follow {x = x} part = last A F before B Behind at after build so follow x part

      pub stuck_last_by : {X : Type 0} {build : X → Z} {B : X → Tokens → Type 0} → Leaves A F before at build B → ((m : Tokens) → F m → Behind m) → Stuck B Behind at after → Stuck A F before after
      stuck_last_by {build = build} {B = B} so follow part = last-stuck A F before B Behind at after build so follow part

-- nothing has been read
pub made : {X Z : Type 0} (build : X → Z) (B : X → Tokens → Type 0) (F : Tokens → Type 0) (before : Tokens) → Leaves (Made build B) F before before build B
made build B F before = begun (Made build B) F before build B (λ z w text. text) (λ y w text. (y, refl, text))

pub all_left : {Z : Type 0} (A : Z → Tokens → Type 0) (F : Tokens → Type 0) (before : Tokens) → Leaves A F before before (λ z. z) A
all_left A F before = begun A F before (λ z. z) A (λ z w text. (z, refl, text)) (λ z w text. text)

pub as_value : {Z : Type 0} {A : Z → Tokens → Type 0} {F : Tokens → Type 0} {before after : Tokens} {x y : Z} → y ≡ x → Reached A F before after x → Reached A F before after y
as_value {A = A} {F = F} {before = before} {after = after} is so = subst (λ z. Reached A F before after z) (sym is) so

-- a call in a reader failed
pub fails : {X Y : Type 0} {A : X → Tokens → Type 0} {F : Tokens → Type 0} {before : Tokens} {B : Y → Tokens → Type 0} {Behind : Tokens → Type 0} {at after : Tokens} (fault : ReadFault) (result : Result X ReadFault) → IsErrAnd result (λ e. e ≡ fault) → Reads B Behind at after (Err fault) → (Stuck B Behind at after → Stuck A F before after) → Reads A F before after result
fails {A = A} {F = F} {before = before} {B = B} {Behind = Behind} {at = at} {after = after} fault result is part whole = failed A F before B Behind at after fault result is part whole

-- a call in a reader reads what is left
pub handed : {Z : Type 0} {A : Z → Tokens → Type 0} {F : Tokens → Type 0} {before at : Tokens} {B : Z → Tokens → Type 0} {Behind : Tokens → Type 0} → Leaves A F before at (λ z. z) B → ((m : Tokens) → F m → Behind m) → (after : Tokens) (result : Result Z ReadFault) → Reads B Behind at after result → Reads A F before after result
handed so follow after (Ok z) part = done_by so follow part
handed so follow after (Err Syntax) part = stuck_last_by so follow part
handed so follow after (Err NoMemory) part = tt
