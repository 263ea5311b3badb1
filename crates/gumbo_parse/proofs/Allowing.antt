-- What the types allow: tokens, and lists of them, in the order in which they are printed.
use Rattle.std.proofs.Common.{◌≡◌, ℕ, ◌<◌, ◌+◌, ◌^◌, Bool, true, false, ◌&&◌, if◌then◌else◌, List, [], ◌∷◌, ◌++◌, length, get_or, take, Result, Ok, Err, OnOk, refl, sym, ap, ◌∙◌, subst, suc, ◌≤◌, drop, append_assoc, add-one, lt-ltb, eq-eqb}
use Rattle.std.proofs.Math.Seq.{take-suc, drop-cons}
use Rattle.std.proofs.lemmas.List.{take_all}
use Rattle.std.proofs.lemmas.List.Concat.{flat_map-append}
use Rattle.std.proofs.lemmas.List.Elements.{All-nil, All-cons, All-append}
use Rattle.std.proofs.lemmas.Slice.Eq.{bytes_eq-Decides}
use Rattle.std.specs.List.{flat_map}
use Rattle.std.specs.Str.{bytes_eq}
use Rattle.hw_text.specs.Name.{lowered}
use Rattle.hw_text.specs.Text.{text_length}
use Rattle.gumbo_parse.specs.declared.mark.Mark.TheVariants as mark
use Rattle.gumbo_parse.specs.declared.token.Token.{Token}
use Rattle.gumbo_parse.specs.declared.token.Token.TheVariants as token
use Rattle.gumbo_parse.specs.Allowed.{IsAllowed, AreAllowed}
use Rattle.gumbo_parse.specs.ExpressionTokens.{in_parentheses}
use Rattle.gumbo_parse.specs.Words.{is_identifier}

-- what follows of what holds where a call went well
pub on_ok : {X E : Type 0} (r : Result X E) (P Q : Type 0) → (P → Q) → OnOk r P → OnOk r Q
on_ok (Ok x) P Q f p = f p
on_ok (Err e) P Q f p = tt

pub always : {X E : Type 0} (r : Result X E) (P : Type 0) → P → OnOk r P
always (Ok x) P p = p
always (Err e) P p = tt

both-true : (a b : Bool) → a ≡ true → b ≡ true → (a && b) ≡ true
both-true a b e f = rw (e, f) refl

pub name_allowed : (n : List ℕ) → is_identifier n ≡ true → lowered n ≡ n → IsAllowed (token.Name n)
name_allowed n identifier lower = both-true (is_identifier n) (bytes_eq (lowered n) n) identifier ((bytes_eq-Decides (lowered n) n).1 lower)

pub number_allowed : (v : ℕ) → v < 2 ^ 127 → IsAllowed (token.Number v)
number_allowed v small = lt-ltb v (2 ^ 127) small

pub text_allowed : (d : List ℕ) → text_length d ≡ length d → IsAllowed (token.Text d)
text_allowed d plain = eq-eqb (text_length d) (length d) plain

pub none : AreAllowed []
none = All-nil IsAllowed

pub more : (t : Token) (ts : List Token) → IsAllowed t → AreAllowed ts → AreAllowed (t ∷ ts)
more t ts a b = All-cons IsAllowed t ts a b

pub one : (t : Token) → IsAllowed t → AreAllowed (t ∷ [])
one t a = more t [] a none

pub both : (us vs : List Token) → AreAllowed us → AreAllowed vs → AreAllowed (us ++ vs)
both us vs a b = All-append IsAllowed us vs a b

pub enclosed : (us : List Token) → AreAllowed us → AreAllowed (in_parentheses us)
enclosed us a = more (token.Mark mark.OpenParenthesis) (us ++ token.Mark mark.CloseParenthesis ∷ []) refl (both us (token.Mark mark.CloseParenthesis ∷ []) a (one (token.Mark mark.CloseParenthesis) refl))

pub grouped : (b : Bool) (us : List Token) → AreAllowed us → AreAllowed (if b then in_parentheses us else us)
grouped true us a = enclosed us a
grouped false us a = a

-- members, one behind the other
module _ {X : Type 0} (tokens : X → List Token) (xs : List X) where
  pub each_more : (i : ℕ) (x : X) → i < length xs → x ≡ get_or xs i x → AreAllowed (flat_map tokens (take i xs)) → AreAllowed (tokens x) → AreAllowed (flat_map tokens (take (i + 1) xs))
  each_more i x within here before this =
      let longer : take (i + 1) xs ≡ take i xs ++ x ∷ [] =
      ap (λ (n : ℕ). take n xs) (add-one i) ∙ take-suc xs i x within ∙ ap (λ (y : X). take i xs ++ y ∷ []) (sym here) in
      let last : AreAllowed (flat_map tokens (x ∷ [])) = both (tokens x) [] this none in
      subst (λ (ys : List X). AreAllowed (flat_map tokens ys)) (sym longer)
      (subst AreAllowed (sym (flat_map-append tokens (take i xs) (x ∷ []))) (both (flat_map tokens (take i xs)) (flat_map tokens (x ∷ [])) before last))

  pub each_whole : (i : ℕ) → length xs ≤ i → AreAllowed (flat_map tokens (take i xs)) → AreAllowed (flat_map tokens xs)
  each_whole i end all = subst (λ (ys : List X). AreAllowed (flat_map tokens ys)) (take_all i xs end) all

-- a text of members, one member further
pub each_text : {X : Type 0} (text : X → List ℕ) (xs : List X) (i : ℕ) (x : X) (before after whole : List ℕ) → i < length xs → x ≡ get_or xs i x → after ≡ before ++ text x → before ++ flat_map text (drop i xs) ≡ whole → after ++ flat_map text (drop (i + 1) xs) ≡ whole
each_text {X} text xs i x before after whole within here more so =
    let rest : List ℕ = flat_map text (drop (i + 1) xs) in
    let shorter : drop i xs ≡ x ∷ drop (i + 1) xs =
    drop-cons xs i x within ∙ ap (λ (y : X). y ∷ drop (suc i) xs) (sym here) ∙ ap (λ (n : ℕ). x ∷ drop n xs) (sym (add-one i)) in
    ap (λ (o : List ℕ). o ++ rest) more ∙ append_assoc before (text x) rest ∙ ap (λ (ys : List X). before ++ flat_map text ys) (sym shorter) ∙ so
