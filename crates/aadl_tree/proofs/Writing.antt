-- Writing tokens on a page, some and then others.
use Rattle.std.proofs.Common.{◌≡◌, ℕ, suc, true, ◌+◌, ◌<◌, ◌≤◌, List, [], ◌∷◌, ◌++◌, length, get_or, drop, refl, sym, ap, ◌∙◌, append_assoc, drop-cons, add-one, Result, Ok, Err, OnOk}
use Rattle.std.specs.List.{flat_map}
use Rattle.std.proofs.lemmas.Bool.{and_parts}
use Rattle.std.proofs.lemmas.List.{append-nil, drop_all}
use Rattle.std.proofs.lemmas.List.Elements.{All-nil, All-cons}
use Rattle.aadl_tree.specs.declared.token.Token.{Token}
use Rattle.aadl_tree.specs.declared.page.Margin.TheVariants.{LineStart}
use Rattle.aadl_tree.specs.Allowed.{is_allowed, IsAllowed, AreAllowed}
use Rattle.aadl_tree.specs.Sheet.{Sheet}
use Rattle.aadl_tree.specs.Layout.{gap, token_text, line_end, ends_line, margin_behind, laid_from, with_token, written}

-- some tokens and then others are written one after the other
pub written_append : (page : Sheet) (ts us : List Token) → written page (ts ++ us) ≡ written (written page ts) us
written_append page [] us = refl
written_append page (t ∷ ts) us = written_append (with_token page t) ts us

regroup : (x a b c rest : List ℕ) → (x ++ a ++ b ++ c) ++ rest ≡ x ++ (a ++ b ++ c ++ rest)
regroup x a b c rest =
    ap (λ (y : List ℕ). y ++ rest) (ap (λ (y : List ℕ). y ++ c) (append_assoc x a b) ∙ append_assoc x (a ++ b) c) ∙
    append_assoc x (a ++ b ++ c) rest

-- what is written on a page is what stood there, and the tokens laid out behind it
pub text-written : (page : Sheet) (ts : List Token) → (written page ts).text ≡ page.text ++ laid_from page.margin ts
unfolding with_token
text-written page [] = sym (append-nil page.text)
text-written page (t ∷ ts) =
    text-written (with_token page t) ts ∙
    regroup page.text (gap page.margin t) (token_text t) (line_end (ends_line t)) (laid_from (margin_behind t) ts)

-- what is written on an empty page
pub text_of_page : (ts : List Token) → (written (record { text = []; margin = LineStart; sound = true }) ts).text ≡ laid_from LineStart ts
text_of_page ts = text-written (record { text = []; margin = LineStart; sound = true }) ts

-- what is written on a page is allowed
pub all-allowed : (page : Sheet) (ts : List Token) → (written page ts).sound ≡ true → (page.sound ≡ true) × AreAllowed ts
unfolding with_token
all-allowed page [] sound = (sound, All-nil IsAllowed)
all-allowed page (t ∷ ts) sound =
    let more = all-allowed (with_token page t) ts sound in
    let parts = and_parts page.sound (is_allowed t) more.0 in
    (parts.0, All-cons IsAllowed t ts parts.1 more.1)

-- one member further of those that are written one after another
pub each_step : {X : Type 0} (tokens : X → List Token) (xs : List X) (i : ℕ) (x : X) (page next all : Sheet) → i < length xs → x ≡ get_or xs i x → next ≡ written page (tokens x) → written page (flat_map tokens (drop i xs)) ≡ all → written next (flat_map tokens (drop (i + 1) xs)) ≡ all
each_step {X} tokens xs i x page next all within is e so_far =
    let here : drop i xs ≡ x ∷ drop (suc i) xs = drop-cons xs i x within ∙ ap (λ (y : X). y ∷ drop (suc i) xs) (sym is) in
    rw (e, add-one) (sym (written_append page (tokens x) (flat_map tokens (drop (suc i) xs))) ∙
    ap (λ (ys : List X). written page (flat_map tokens ys)) (sym here) ∙ so_far)

-- a call that was the last of several
pub on_ok : {R E : Type 0} (result : Result R E) (P Q : Type 0) → (P → Q) → OnOk result P → OnOk result Q
on_ok (Ok x) P Q f p = f p
on_ok (Err e) P Q f p = p

-- tokens between two others
pub bracketed : {R E : Type 0} (result : Result R E) (page p q r : Sheet) (a b : Token) (ts all : List Token) → all ≡ a ∷ ts ++ b ∷ [] → p ≡ with_token page a → q ≡ written p ts → OnOk result (r ≡ with_token q b) → OnOk result (r ≡ written page all)
bracketed result page p q r a b ts all is first then last =
    on_ok result (r ≡ with_token q b) (r ≡ written page all) (λ e.
    e ∙ ap (λ (x : Sheet). with_token x b) (then ∙ ap (λ (x : Sheet). written x ts) first) ∙
    sym (written_append (with_token page a) ts (b ∷ [])) ∙ ap (λ (us : List Token). written page us) (sym is)) last

-- a first member, and those behind it
pub first_and_others : {X : Type 0} (tokens others : X → List Token) (rest : List X) (x : X) (page p q : Sheet) (i : ℕ) (all : List Token) → all ≡ tokens x ++ flat_map others rest → p ≡ written page (tokens x) → length rest ≤ i → written q (flat_map others (drop i rest)) ≡ written p (flat_map others rest) → q ≡ written page all
first_and_others {X} tokens others rest x page p q i all is first ended left =
    let none : drop i rest ≡ [] = drop_all i rest ended in
    ap (λ (ys : List X). written q (flat_map others ys)) (sym none) ∙ left ∙ ap (λ (y : Sheet). written y (flat_map others rest)) first ∙
    sym (written_append page (tokens x) (flat_map others rest)) ∙ ap (λ (ts : List Token). written page ts) (sym is)
