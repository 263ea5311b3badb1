-- Names that are new one after another are names that differ.
use Rattle.std.proofs.Common.{◌≡◌, ◌≢◌, ◌↔◌, ℕ, Bool, true, false, not, ◌&&◌, ◌||◌, map, List, [], ◌∷◌, ◌++◌, append_assoc, sym, ap, ◌∙◌, refl}
use Rattle.std.specs.List.{list_any}
use Rattle.std.specs.Str.{bytes_eq}
use Rattle.std.proofs.lemmas.Slice.Eq.{bytes_eq-Decides}
use Rattle.std.proofs.lemmas.List.Folds.{list_any-append}
use Rattle.std.proofs.lemmas.Bool.{and_parts, and_from, or_parts, or_from, not-true, not_from_false, both_ways, false_from_ne_true, and_left}
use Rattle.std.proofs.Math.Bool.{and_assoc}
use Rattle.std.proofs.lemmas.List.{append-nil}
use Rattle.std.proofs.lemmas.Result.{IfOk-weaker}
use Rattle.std.specs.Prelude.{IfOk, Result}
use Rattle.hamr_cli.specs.Names.{is_among, are_new, Differ}
use Rattle.hamr_cli.proofs.Pairs.{Each, Pairs, each-weaker, each-both, pairs-all, pairs-from_all}

abbrev Other : List ℕ → List ℕ → Type 0
Other name other = name ≢ other

-- a name that is not among these, and is not the last
among-split : (name last : List ℕ) (seen : List (List ℕ)) → is_among name (seen ++ last ∷ []) ≡ false → (is_among name seen ≡ false) × (last ≢ name)
among-split name last seen e =
    let parts = or_parts (is_among name seen) (is_among name (last ∷ [])) (sym (list_any-append (bytes_eq name) seen (last ∷ [])) ∙ e) in
    let apart = or_parts (bytes_eq name last) false parts.1 in
    (parts.0, λ same. both_ways (bytes_eq name last) apart.0 ((bytes_eq-Decides name last).1 (sym same)))

among-join : (name last : List ℕ) (seen : List (List ℕ)) → last ≢ name → is_among name seen ≡ false → is_among name (seen ++ last ∷ []) ≡ false
among-join name last seen apart e =
    let own = false_from_ne_true (bytes_eq name last) (λ same. apart (sym ((bytes_eq-Decides name last).0 same))) in
    list_any-append (bytes_eq name) seen (last ∷ []) ∙ or_from (is_among name seen) (is_among name (last ∷ [])) e (or_from (bytes_eq name last) false own refl)

new-pairs : (seen names : List (List ℕ)) → are_new seen names ≡ true → Pairs Other names × Each (λ name. is_among name seen ≡ false) names
new-pairs seen [] e = (tt, tt)
new-pairs seen (name ∷ names) e =
    let parts = and_parts (not (is_among name seen)) (are_new (seen ++ name ∷ []) names) e in
    let more = new-pairs (seen ++ name ∷ []) names parts.1 in (
      (each-weaker (λ n. is_among n (seen ++ name ∷ []) ≡ false) (Other name) (λ n a. (among-split n name seen a).1) names more.1, more.0),
      (not-true (is_among name seen) parts.0, each-weaker (λ n. is_among n (seen ++ name ∷ []) ≡ false) (λ n. is_among n seen ≡ false) (λ n a. (among-split n name seen a).0) names more.1),
    )

pairs-new : (seen names : List (List ℕ)) → Pairs Other names → Each (λ name. is_among name seen ≡ false) names → are_new seen names ≡ true
pairs-new seen [] p e = refl
pairs-new seen (name ∷ names) p e =
    and_from (not (is_among name seen)) (are_new (seen ++ name ∷ []) names) (not_from_false (is_among name seen) e.0)
    (pairs-new (seen ++ name ∷ []) names p.1
    (each-both (Other name) (λ n. is_among n seen ≡ false) (λ n. is_among n (seen ++ name ∷ []) ≡ false) (λ n apart a. among-join n name seen apart a) names p.0 e.1))

each-fresh : (names : List (List ℕ)) → Each (λ name. is_among name [] ≡ false) names
each-fresh [] = tt
each-fresh (name ∷ names) = (refl, each-fresh names)

-- names are new one after another exactly where no two are equal
pub new-differ : (names : List (List ℕ)) → (are_new [] names ≡ true → Differ names) × (Differ names → are_new [] names ≡ true)
new-differ names =
    (λ e. pairs-all Other names (new-pairs [] names e).0, λ d. pairs-new [] names (pairs-from_all Other names d) (each-fresh names))

-- two lists of names, one after the other
pub new-append : (seen names more : List (List ℕ)) → are_new seen (names ++ more) ≡ (are_new seen names && are_new (seen ++ names) more)
new-append seen [] more = ap (λ s. are_new s more) (sym (append-nil seen))
new-append seen (name ∷ names) more =
    ap (λ b. not (is_among name seen) && b) (new-append (seen ++ name ∷ []) names more ∙ ap (λ s. are_new (seen ++ name ∷ []) names && are_new s more) (append_assoc seen (name ∷ []) names))
    ∙ sym (and_assoc (not (is_among name seen)) (are_new (seen ++ name ∷ []) names) (are_new (seen ++ name ∷ names) more))

-- a test of mapped members
pub any-map : {X Y : Type 0} (test : X → Bool) (f : Y → X) (ys : List Y) → list_any (λ y. test (f y)) ys ≡ list_any test (map f ys)
any-map test f [] = refl
any-map test f (y ∷ ys) = ap (λ b. test (f y) || b) (any-map test f ys)

-- what the answer says of names, where it says that they are new
pub differ-iff : (names : List (List ℕ)) (new : Bool) → new ≡ are_new [] names → (new ≡ true) ↔ Differ names
differ-iff names new is = (λ e. (new-differ names).0 (sym is ∙ e), λ d. is ∙ (new-differ names).1 d)

pub differ-result : {E : Type 0} (r : Result Bool E) (new : Bool) (names : List (List ℕ)) → IfOk r (λ b. b ≡ new) → new ≡ are_new [] names → IfOk r (λ b. (b ≡ true) ↔ Differ names)
differ-result r new names read is = IfOk-weaker r (λ b. b ≡ new) (λ b. (b ≡ true) ↔ Differ names) (λ b e. differ-iff names b (e ∙ is)) read

-- the first of two lists has a name twice
pub old-differ : (names more : List (List ℕ)) (new : Bool) → new ≡ are_new [] names → new ≡ false → (false ≡ true) ↔ Differ (names ++ more)
old-differ names more new is old =
    differ-iff (names ++ more) false (sym (new-append [] names more ∙ and_left (are_new [] names) (are_new names more) (sym is ∙ old)))

pub more-new : (names more : List (List ℕ)) (first : Bool) → first ≡ are_new [] names → first ≡ true → are_new names more ≡ are_new [] (names ++ more)
more-new names more first is fresh = sym (new-append [] names more ∙ ap (λ b. b && are_new names more) (sym is ∙ fresh))

pub new-same : (seen other names more : List (List ℕ)) → seen ≡ other → names ≡ more → are_new seen names ≡ are_new other more
new-same seen other names more e f = ap (λ s. are_new s names) e ∙ ap (λ n. are_new other n) f
