-- One domain more that is asked for its name.
use Rattle.std.proofs.Common.{◌≡◌, ℕ, ◌+◌, ◌<◌, List, [], ◌∷◌, ◌++◌, length, get_or, drop, Option, Some, None, refl, sym, ap, ◌∙◌}
use Rattle.std.specs.List.{cons_option}
use Rattle.std.proofs.lemmas.List.{at_drop_more}
use Rattle.hw_text.specs.declared.refusal.Refusal.{Refusal}
use Rattle.aadl_names.specs.declared.tables.Tables.{Tables}
use Rattle.aadl_names.specs.Offences.{earlier, earliest_from}
use Rattle.aadl_timing.specs.Naming.{domain_name, clash_at, clashes_from}

told_on : (known found : Option Refusal) (rest : List Refusal) → earliest_from (earlier known found) rest ≡ earliest_from known (cons_option found rest)
told_on None None rest = refl
told_on (Some k) None rest = refl
told_on known (Some r) rest = refl

pub one_more : (t : Tables) (paths : List (List ℕ)) (at : ℕ) (path one two : List ℕ) (seen rows after : List (List ℕ)) (name : List ℕ) (known found first whole : Option Refusal) →
    at < length paths → path ≡ get_or paths at path → one ≡ path → two ≡ path → rows ≡ seen → found ≡ clash_at t rows one → first ≡ earlier known found →
    name ≡ domain_name t two → after ≡ seen ++ name ∷ [] → earliest_from known (clashes_from t seen (drop at paths)) ≡ whole →
    earliest_from first (clashes_from t after (drop (at + 1) paths)) ≡ whole
one_more t paths at path one two seen rows after name known found first whole below is one_is two_is rows_are clashes told named more before =
    let rest = drop (at + 1) paths in
    let here : found ≡ clash_at t seen path = clashes ∙ (ap (λ (s : List (List ℕ)). clash_at t s one) rows_are ∙ ap (clash_at t seen) one_is) in
    let now : after ≡ seen ++ domain_name t path ∷ [] = more ∙ ap (λ (n : List ℕ). seen ++ n ∷ []) (named ∙ ap (domain_name t) two_is) in
    ap (λ (r : Option Refusal). earliest_from r (clashes_from t after rest)) (told ∙ ap (earlier known) here)
    ∙ (ap (λ (s : List (List ℕ)). earliest_from (earlier known (clash_at t seen path)) (clashes_from t s rest)) now
    ∙ (told_on known (clash_at t seen path) (clashes_from t (seen ++ domain_name t path ∷ []) rest)
    ∙ (ap (λ (p : List ℕ). earliest_from known (clashes_from t seen (p ∷ rest))) is
    ∙ (sym (at_drop_more (λ (ps : List (List ℕ)). earliest_from known (clashes_from t seen ps)) paths at path below) ∙ before))))
