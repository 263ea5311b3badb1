-- A text is split at the end of its first word in one way.
use Rattle.std.proofs.Common.{◌≡◌, ◌≤◌, ◌+◌, ℕ, suc, Bool, true, false, List, [], ◌∷◌, ◌++◌, take, drop, length, cond, refl, sym, arith}
use Rattle.std.proofs.lemmas.Bool.{and_parts, and_from, not-true, not-false, both_ways}
use Rattle.std.specs.List.{prefix_len}
use Rattle.std.proofs.lemmas.List.Sums.{prefix_len-le-length}
use Rattle.hamr_cli.specs.TraceWord.{ends_word, is_word_byte, IsWord, EndsWord}

word_step : (b n : ℕ) (bs : List ℕ) (t : Bool) → is_word_byte b ≡ t → IsWord (take n bs) → IsWord (take (cond t (1 + n) 0) (b ∷ bs))
word_step b n bs true e h = let one : 1 + n ≡ suc n = omega arith in rw one (and_from (is_word_byte b) _ e h)
word_step b n bs false e h = refl

ended_step : (b n : ℕ) (bs : List ℕ) (t : Bool) → is_word_byte b ≡ t → EndsWord (drop n bs) → EndsWord (drop (cond t (1 + n) 0) (b ∷ bs))
ended_step b n bs true e h = let one : 1 + n ≡ suc n = omega arith in rw one h
ended_step b n bs false e h = not-false _ e

pub word-take : (bs : List ℕ) → IsWord (take (prefix_len is_word_byte bs) bs)
word-take [] = refl
word-take (b ∷ bs) = word_step b (prefix_len is_word_byte bs) bs (is_word_byte b) refl (word-take bs)

pub ended-drop : (bs : List ℕ) → EndsWord (drop (prefix_len is_word_byte bs) bs)
ended-drop [] = tt
ended-drop (b ∷ bs) = ended_step b (prefix_len is_word_byte bs) bs (is_word_byte b) refl (ended-drop bs)

pub within : (n : ℕ) (bs : List ℕ) → n ≡ prefix_len is_word_byte bs → n ≤ length bs
within n bs e = omega (arith, prefix_len-le-length is_word_byte bs)

pub word-front : (n : ℕ) (bs front : List ℕ) → n ≡ prefix_len is_word_byte bs → front ≡ take n bs → IsWord front
word-front n bs front e f = rw (f, e) (word-take bs)

pub ended-back : (n : ℕ) (bs back : List ℕ) → n ≡ prefix_len is_word_byte bs → back ≡ drop n bs → EndsWord back
ended-back n bs back e f = rw (f, e) (ended-drop bs)

-- a word's byte ends no word
differ : (b c : ℕ) → b ≡ c → is_word_byte b ≡ true → ends_word c ≡ true → ⊥
differ b c e w x = both_ways (ends_word c) (not-true _ (rw e at w)) x

pub no_end : (b : ℕ) (bs rest x : List ℕ) → IsWord (b ∷ bs) → EndsWord x → x ≡ b ∷ rest → ⊥
no_end b bs rest [] w h e = cc
no_end b bs rest (c ∷ x) w h e = let same : b ≡ c = cc in differ b c same (and_parts (is_word_byte b) _ w).0 h

pub record SameSplit (a x b y : List ℕ) : Type 0 where
  pub front : a ≡ b
  pub back : x ≡ y

pub one_split : (a x b y : List ℕ) → IsWord a → EndsWord x → IsWord b → EndsWord y → a ++ x ≡ b ++ y → SameSplit a x b y
one_split [] x [] y wa ex wb ey e = record { front = refl; back = e }
one_split [] x (c ∷ b) y wa ex wb ey e = absurd (no_end c b (b ++ y) x wb ex e)
one_split (c ∷ a) x [] y wa ex wb ey e = absurd (no_end c a (a ++ x) y wa ey (sym e))
one_split (c ∷ a) x (d ∷ b) y wa ex wb ey e =
    let same : c ≡ d = cc in
    let rest : a ++ x ≡ b ++ y = cc in
    let s = one_split a x b y (and_parts (is_word_byte c) _ wa).1 ex (and_parts (is_word_byte d) _ wb).1 ey rest in
    let front : a ≡ b = s.front in
    record { front = cc; back = s.back }
