-- What has been read of a list, member by member.
use Rattle.std.proofs.Common.{◌≡◌, ◌∙◌, refl, sym, ap, subst, ℕ, List, [], ◌∷◌, ◌++◌, Bool, true, false, append_assoc, append-nil, length, ◌<◌, length-append, arith}
use Rattle.std.specs.Prelude.{⊤, not}
use Rattle.std.proofs.lemmas.Bool.{false≢true}
use Rattle.hw_text.specs.declared.placed.Placed.{Placed}
use Rattle.hw_text.specs.Language.{◌⋅◌, Each}
use Rattle.hw_text.specs.Reading.{begins, Begins, Reached, Stuck, Leaves}
use Rattle.hw_text.proofs.Reading.{begun, more, no_more, rebuilt, ended, step, stuck, first-begins}
use Rattle.c_parse.specs.declared.token.Token.{Token}
use Rattle.c_parse.specs.Values.{Tokens}
use Rattle.c_parse.proofs.TokenShapes.{Starts, starts_so}
use Rattle.c_parse.specs.CallGrammar.{Following}

abbrev pub any_token : Placed Token → Bool
any_token t = true

-- a member and what stands behind the list begin otherwise; behind a member may stand another one, and what stands behind the list
pub record Listed {X : Type 0} (A : X → Tokens → Type 0) (test : Placed Token → Bool) (so : Bool) (Behind F : Tokens → Type 0) : Type 0 where
  pub some : Begins any_token true A
  pub starts : Begins test so A
  pub ends : (m : Tokens) → F m → begins test m ≡ not so
  pub follow : (m : Tokens) → F m → Behind m
  pub next : (x : X) (w m : Tokens) → A x w → Behind (w ++ m)

pub some_member : {X : Type 0} {A : X → Tokens → Type 0} {xs : List (List ℕ)} → Starts xs A → Begins any_token true A
some_member {xs = xs} so x w m text = at (w ++ m) (so.begins x w m text)
  where
    at : (l : Tokens) → begins (starts_so xs) l ≡ true → begins any_token l ≡ true
    at [] is = is
    at (t ∷ l) is = refl

apart : (b c so : Bool) → b ≡ so → b ≡ c → c ≡ not so → ⊥
apart b c true is same other = false≢true (sym other ∙ sym same ∙ is)
apart b c false is same other = false≢true (sym is ∙ same ∙ other)

module _ {X : Type 0} {A : X → Tokens → Type 0} {test : Placed Token → Bool} {so : Bool} {Behind F : Tokens → Type 0} (list : Listed A test so Behind F) where
  each-follow : (xs : List X) (w m : Tokens) → Each A xs w → F m → Behind (w ++ m)
  each-follow [] w m text follows = subst (λ (l : Tokens). Behind (l ++ m)) (sym text) (list.follow m follows)
  each-follow (x ∷ xs) w m text follows =
      subst Behind (sym (append_assoc text.0 text.1 m) ∙ ap (λ (l : Tokens). l ++ m) (sym text.2)) (list.next x text.0 (text.1 ++ m) text.3)

  -- none has been read
  pub none_read : (xs : List X) → xs ≡ [] → (before : Tokens) → Leaves (Each A) F before before (λ later. xs ++ later) (Each A)
  none_read xs none before = rebuilt (Each A) F before before (λ later. later) (λ later. xs ++ later) (Each A) (λ later. ap (λ (l : List X). l ++ later) (sym none))
      (begun (Each A) F before (λ later. later) (Each A) (λ z w text. (z, refl, text)) (λ y w text. text))

  -- a first member was read before
  pub one_read : (x : X) (xs : List X) → xs ≡ x ∷ [] → (before : Tokens) → Leaves (Following x A) F before before (λ later. xs ++ later) (Each A)
  one_read x xs one before = rebuilt (Following x A) F before before (λ later. x ∷ later) (λ later. xs ++ later) (Each A) (λ later. ap (λ (l : List X). l ++ later) (sym one))
      (begun (Following x A) F before (λ later. x ∷ later) (Each A) (λ z w text. text) (λ y w text. (y, refl, text)))

  module _ {W : List X → Tokens → Type 0} {before at : Tokens} (xs : List X) (here : Leaves W F before at (λ later. xs ++ later) (Each A)) where
    -- there is no more
    pub list_read : begins test at ≡ not so → Reached W F before at xs
    list_read none_there = subst (λ (l : List X). Reached W F before at l) (append-nil xs)
        (ended W F before at (λ (u : ⊤). xs ++ [])
        (no_more W F before at A (λ later. xs ++ later) (λ x w m text same. apart (begins test (w ++ m)) (begins test at) so (list.starts x w m text) (first-begins test (w ++ m) at same) none_there) here))

    module _ (there : begins test at ≡ so) where
      a_member : Leaves W F before at (λ p. xs ++ (p.0 ∷ p.1)) (A ⋅ Each A)
      a_member = more W F before at A (λ later. xs ++ later) (λ m follows same. apart (begins test at) (begins test m) so there (sym (first-begins test m at same)) (list.ends m follows)) here

      pub member_stuck : {after : Tokens} → Stuck A Behind at after → Stuck W F before after
      member_stuck {after = after} part = stuck W F before A Behind at after (λ p. xs ++ (p.0 ∷ p.1)) (Each A) a_member each-follow ([], [], refl) part

      -- one more has been read
      pub member_read : {after : Tokens} {x : X} {new : List X} → new ≡ xs ++ x ∷ [] → Reached A Behind at after x → Leaves W F before after (λ later. new ++ later) (Each A)
      member_read {after = after} {x = x} {new = new} is part = rebuilt W F before after (λ later. xs ++ (x ∷ later)) (λ later. new ++ later) (Each A)
          (λ later. sym (append_assoc xs (x ∷ []) later) ∙ ap (λ (l : List X). l ++ later) (sym is))
          (step W F before A Behind at after (λ p. xs ++ (p.0 ∷ p.1)) (Each A) a_member each-follow x part)

  -- a member took a token at least
  pub member_shorter : {before after : Tokens} {x : X} → Reached A Behind before after x → length after < length before
  member_shorter {before = before} {after = after} {x = x} part = shorter part.taken (list.some x part.taken [] part.spelled) part.split
    where
      shorter : (taken : Tokens) → begins any_token (taken ++ []) ≡ true → before ≡ taken ++ after → length after < length before
      shorter [] there split = absurd (false≢true there)
      shorter (t ∷ taken) there split = omega (arith, ap (λ (l : Tokens). length l) split, length-append taken after)
