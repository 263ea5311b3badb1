-- The text of a list of values is read back in one way.
use Rattle.std.proofs.Common.{◌≡◌, ℕ, ℤ, ◌<◌, List, [], ◌∷◌, ◌++◌, get_or, drop, length, length-append, refl, sym, ap, ◌∙◌, append_assoc, arith}
use Rattle.std.specs.Prelude.{All}
use Rattle.std.proofs.lemmas.Grind.{flat_map-append}
use Rattle.std.proofs.lemmas.List.{append-nil}
use Rattle.std.proofs.lemmas.List.Elements.{All-nil, All-cons, All-head, All-tail, All-push}
use Rattle.hamr_cli.specs.PortType.{IsPortValue}
use Rattle.hamr_cli.specs.TraceText.{value_text, further_text, values_text, list_text}
use Rattle.hamr_cli.specs.TraceWord.{EndsWord}
use Rattle.hamr_cli.proofs.TraceReading.{OnlyValue, ValuesLeft, ReadsValues}
use Rattle.hamr_cli.proofs.TraceValues.{value-begins}

further-ends : (values : List (List ℤ)) (more : List ℕ) → EndsWord (further_text values ++ 93 ∷ more)
further-ends [] more = refl
further-ends (value ∷ values) more = refl

further-split : (value : List ℤ) (others : List (List ℤ)) (more : List ℕ) →
    further_text (value ∷ others) ++ 93 ∷ more ≡ 44 ∷ 32 ∷ (value_text value ++ (further_text others ++ 93 ∷ more))
further-split value others more = simp append_assoc

same_head : (a b : ℕ) (xs ys : List ℕ) → a ∷ xs ≡ b ∷ ys → a ≡ b
same_head a b xs ys e = ap (λ (l : List ℕ). get_or l 0 0) e

-- a comma is no bracket
comma-bracket : (after more : List ℕ) → 44 ∷ 32 ∷ after ≡ 93 ∷ more → ⊥
comma-bracket after more e = absurd (omega (arith, same_head 44 93 (32 ∷ after) more e))

behind-two : (a b : ℕ) (xs ys : List ℕ) → a ∷ b ∷ xs ≡ a ∷ b ∷ ys → xs ≡ ys
behind-two a b xs ys e = ap (drop 2) e

behind-one : (a : ℕ) (xs ys : List ℕ) → a ∷ xs ≡ a ∷ ys → xs ≡ ys
behind-one a xs ys e = ap (drop 1) e

-- one value is read
first-left : (bytes : List ℕ) (first : List ℤ) (rest : List ℕ) → OnlyValue bytes first rest →
    (value : List ℤ) (others : List (List ℤ)) (more : List ℕ) → All IsPortValue (value ∷ others) →
    bytes ≡ values_text (value ∷ others) ++ 93 ∷ more → ValuesLeft (first ∷ []) rest (value ∷ others) more
first-left bytes first rest one value others more all e =
    let split : bytes ≡ value_text value ++ (further_text others ++ 93 ∷ more) = e ∙ append_assoc (value_text value) (further_text others) (93 ∷ more) in
    let same = one value (further_text others ++ 93 ∷ more) (All-head IsPortValue value others all) (further-ends others more) split in
    record { others = others; whole = ap (λ v. v ∷ others) (sym same.0); typed = All-tail IsPortValue value others all; text = same.1 }

first-reads : (bytes : List ℕ) (first : List ℤ) (rest : List ℕ) → IsPortValue first → bytes ≡ value_text first ++ rest → OnlyValue bytes first rest →
    ReadsValues bytes (first ∷ []) rest
first-reads bytes first rest h e one = record {
  typed = All-cons IsPortValue first [] h (All-nil IsPortValue);
  some = omega arith;
  text = e ∙ ap (λ t. t ++ rest) (sym (append-nil (value_text first)));
  left = first-left bytes first rest one;
}

pub reads-first : (bytes : List ℕ) (first : List ℤ) (values : List (List ℤ)) (rest : List ℕ) → values ≡ first ∷ [] →
    IsPortValue first → bytes ≡ value_text first ++ rest → OnlyValue bytes first rest → ReadsValues bytes values rest
reads-first bytes first values rest is h e one = rw is (first-reads bytes first rest h e one)

further-push : (values : List (List ℤ)) (value : List ℤ) → further_text (values ++ value ∷ []) ≡ further_text values ++ 44 ∷ 32 ∷ value_text value
further-push values value = flat_map-append (λ (v : List ℤ). 44 ∷ 32 ∷ value_text v) values (value ∷ []) ∙ ap (λ t. further_text values ++ t) (append-nil (44 ∷ 32 ∷ value_text value))

values_text-push : (values : List (List ℤ)) (value : List ℤ) → 0 < length values →
    values_text (values ++ value ∷ []) ≡ values_text values ++ 44 ∷ 32 ∷ value_text value
values_text-push [] value some = absurd (omega arith)
values_text-push (v ∷ vs) value some =
    ap (λ t. value_text v ++ t) (further-push vs value) ∙ sym (append_assoc (value_text v) (further_text vs) (44 ∷ 32 ∷ value_text value))

-- another value is read, behind a comma and a space
more-left : (values : List (List ℤ)) (rest after : List ℕ) (value : List ℤ) (next : List ℕ) (all_values others : List (List ℤ)) (more : List ℕ) →
    rest ≡ 44 ∷ 32 ∷ after → OnlyValue after value next →
    all_values ≡ values ++ others → All IsPortValue others → rest ≡ further_text others ++ 93 ∷ more →
    ValuesLeft (values ++ value ∷ []) next all_values more
more-left values rest after value next all_values [] more comma one is all e = absurd (comma-bracket after more (sym comma ∙ e))
more-left values rest after value next all_values (o ∷ os) more comma one is all e =
    let split : 44 ∷ 32 ∷ after ≡ 44 ∷ 32 ∷ (value_text o ++ (further_text os ++ 93 ∷ more)) = sym comma ∙ (e ∙ further-split o os more) in
    let behind = behind-two 44 32 after _ split in
    let same = one o (further_text os ++ 93 ∷ more) (All-head IsPortValue o os all) (further-ends os more) behind in
    record { others = os; whole = is ∙ (ap (λ v. values ++ v ∷ os) (sym same.0) ∙ sym (append_assoc values (value ∷ []) os)); typed = All-tail IsPortValue o os all; text = same.1 }

more-reads : (bytes : List ℕ) (values : List (List ℤ)) (rest after : List ℕ) (value : List ℤ) (next : List ℕ) →
    ReadsValues bytes values rest → rest ≡ 44 ∷ 32 ∷ after → IsPortValue value → after ≡ value_text value ++ next → OnlyValue after value next →
    ReadsValues bytes (values ++ value ∷ []) next
more-reads bytes values rest after value next r comma h e one = record {
  typed = All-push IsPortValue values value r.typed h;
  some = simp length-append (omega arith);
  text = r.text ∙ (ap (λ t. values_text values ++ t) (comma ∙ ap (λ t. 44 ∷ 32 ∷ t) e)
      ∙ (sym (append_assoc (values_text values) (44 ∷ 32 ∷ value_text value) next) ∙ ap (λ t. t ++ next) (sym (values_text-push values value r.some))));
  left = λ first others more all f.
      let l = r.left first others more all f in
      more-left values rest after value next (first ∷ others) l.others more comma one l.whole l.typed l.text;
}

pub reads-more : (bytes : List ℕ) (values : List (List ℤ)) (rest after : List ℕ) (value : List ℤ) (next : List ℕ) (new_values : List (List ℤ)) →
    ReadsValues bytes values rest → rest ≡ 44 ∷ 32 ∷ after → IsPortValue value → after ≡ value_text value ++ next → OnlyValue after value next →
    new_values ≡ values ++ value ∷ [] → ReadsValues bytes new_values next
reads-more bytes values rest after value next new_values r comma h e one is = rw is (more-reads bytes values rest after value next r comma h e one)

-- where no value stands behind the comma, nothing of the form goes on
behind-comma : (rest after : List ℕ) (P : Type 0) (others : List (List ℤ)) (more : List ℕ) →
    rest ≡ 44 ∷ 32 ∷ after → ((value : List ℤ) (end : List ℕ) → IsPortValue value → EndsWord end → after ≡ value_text value ++ end → P) →
    All IsPortValue others → rest ≡ further_text others ++ 93 ∷ more → P
behind-comma rest after P [] more comma none all e = absurd (comma-bracket after more (sym comma ∙ e))
behind-comma rest after P (o ∷ os) more comma none all e =
    let split : 44 ∷ 32 ∷ after ≡ 44 ∷ 32 ∷ (value_text o ++ (further_text os ++ 93 ∷ more)) = sym comma ∙ (e ∙ further-split o os more) in
    none o (further_text os ++ 93 ∷ more) (All-head IsPortValue o os all) (further-ends os more) (behind-two 44 32 after _ split)

pub no_value-behind : (bytes : List ℕ) (values : List (List ℤ)) (rest after : List ℕ) (P : Type 0) → ReadsValues bytes values rest →
    rest ≡ 44 ∷ 32 ∷ after → ((value : List ℤ) (end : List ℕ) → IsPortValue value → EndsWord end → after ≡ value_text value ++ end → P) →
    (value : List ℤ) (others : List (List ℤ)) (more : List ℕ) → All IsPortValue (value ∷ others) → bytes ≡ values_text (value ∷ others) ++ 93 ∷ more → P
no_value-behind bytes values rest after P r comma none value others more all e =
    let l = r.left value others more all e in
    behind-comma rest after P l.others more comma none l.typed l.text

-- the values are at their end
ends : (rest : List ℕ) (others : List (List ℤ)) (more : List ℕ) → ((after : List ℕ) → rest ≡ 44 ∷ 32 ∷ after → ⊥) →
    rest ≡ further_text others ++ 93 ∷ more → (others ≡ []) × (rest ≡ 93 ∷ more)
ends rest [] more none e = (refl, e)
ends rest (o ∷ os) more none e = absurd (none (value_text o ++ (further_text os ++ 93 ∷ more)) (e ∙ further-split o os more))

pub values-end : (bytes : List ℕ) (values : List (List ℤ)) (rest : List ℕ) → ReadsValues bytes values rest → ((after : List ℕ) → rest ≡ 44 ∷ 32 ∷ after → ⊥) →
    (value : List ℤ) (others : List (List ℤ)) (more : List ℕ) → All IsPortValue (value ∷ others) → bytes ≡ values_text (value ∷ others) ++ 93 ∷ more →
    (values ≡ value ∷ others) × (rest ≡ 93 ∷ more)
values-end bytes values rest r none value others more all e =
    let l = r.left value others more all e in
    let end = ends rest l.others more none l.text in
    (sym (l.whole ∙ (ap (λ o. values ++ o) end.0 ∙ append-nil values)), end.1)

-- a list in brackets: what stands behind the first
pub list-split : (values : List (List ℤ)) (bytes inner more : List ℕ) → bytes ≡ 91 ∷ inner → bytes ≡ list_text values ++ more → inner ≡ values_text values ++ 93 ∷ more
list-split values bytes inner more e f =
    let g : 91 ∷ inner ≡ 91 ∷ (values_text values ++ 93 ∷ more) = sym e ∙ (f ∙ ap (λ t. 91 ∷ t) (append_assoc (values_text values) (93 ∷ []) more)) in
    behind-one 91 inner _ g

-- where no value is in front, there are no values
pub no_value-front : (bytes : List ℕ) (P : Type 0) →
    ((value : List ℤ) (end : List ℕ) → IsPortValue value → EndsWord end → bytes ≡ value_text value ++ end → P) →
    (value : List ℤ) (others : List (List ℤ)) (more : List ℕ) → All IsPortValue (value ∷ others) → bytes ≡ values_text (value ∷ others) ++ 93 ∷ more → P
no_value-front bytes P none value others more all e =
    none value (further_text others ++ 93 ∷ more) (All-head IsPortValue value others all) (further-ends others more)
    (e ∙ append_assoc (value_text value) (further_text others) (93 ∷ more))

pub list-empty : (values : List (List ℤ)) (inner rest more : List ℕ) → inner ≡ 93 ∷ rest → All IsPortValue values → inner ≡ values_text values ++ 93 ∷ more →
    ([] ≡ values) × (rest ≡ more)
list-empty [] inner rest more e all f = (refl, behind-one 93 rest more (sym e ∙ f))
list-empty (v ∷ vs) inner rest more e all f =
    absurd (value-begins v 93 rest (further_text vs ++ 93 ∷ more) (All-head IsPortValue v vs all) refl (sym e ∙ (f ∙ append_assoc (value_text v) (further_text vs) (93 ∷ more))))

-- what holds of each list that is not empty holds of the list in brackets
pub list-some : (values : List (List ℤ)) (inner more : List ℕ) (P : List (List ℤ) → Type 0) → ((rest : List ℕ) → inner ≡ 93 ∷ rest → ⊥) →
    ((value : List ℤ) (others : List (List ℤ)) → All IsPortValue (value ∷ others) → inner ≡ values_text (value ∷ others) ++ 93 ∷ more → P (value ∷ others)) →
    All IsPortValue values → inner ≡ values_text values ++ 93 ∷ more → P values
list-some [] inner more P none some all e = absurd (none more e)
list-some (value ∷ others) inner more P none some all e = some value others all e
