-- A declaration on a loop is a type or an implementation, which is refused.
use Rattle.std.proofs.Common.{◌≡◌, ℕ, ◌<◌, ◌≤◌, List, [], ◌∷◌, ◌++◌, length, drop, map, append-nil, Option, Some, None, refl, sym, ap, subst, ◌∙◌, arith}
use Rattle.std.specs.List.{Contains, slice_get}
use Rattle.std.specs.Option.{MatchOption, option_and_then, option_map, unwrap_or}
use Rattle.std.proofs.lemmas.List.{drop_all}
use Rattle.std.proofs.lemmas.Option.{slice_get-map, unwrap_or-slice_get}
use Rattle.hw_text.specs.declared.refusal.Refusal.{Refusal}
use Rattle.aadl_tree.specs.declared.package.Declaration.{Declaration}
use Rattle.aadl_tree.specs.declared.package.Declaration.TheVariants as declaration
use Rattle.aadl_tree.specs.declared.package.Package.{Package}
use Rattle.aadl_names.specs.declared.references.References.{References}
use Rattle.aadl_names.specs.declared.tables.Tables.{Tables}
use Rattle.aadl_loops.specs.Loops.{leads_of, IsPath, IsFirstOnLoop, HasNoLoop}
use Rattle.aadl_typing.specs.declared.standing.Standing.{Standing}
use Rattle.aadl_typing.specs.Containing.{edges_by, standing_of, contained_in, places_in, edges_of, refusal_of, IsFirstItself}

nothing_in : (m : ℕ) → Contains [] m → ⊥
nothing_in m found = let no : found.0 < 0 = found.1 in omega arith

-- no path begins at a row that leads nowhere
no_path : (edges : List (List ℕ)) (n : ℕ) → leads_of edges n ≡ [] → (between : List ℕ) (m : ℕ) → IsPath edges n between m → ⊥
no_path edges n none [] m p = nothing_in m (subst (λ (leads : List ℕ). Contains leads m) none p)
no_path edges n none (c ∷ between) m p = nothing_in c (subst (λ (leads : List ℕ). Contains leads c) none p.0)

-- where a declaration leads
leads_at : (f : Declaration → List ℕ) (ds : List Declaration) (n : ℕ) → leads_of (map f ds) n ≡ unwrap_or (option_map f (slice_get ds n)) []
leads_at f ds n = sym (unwrap_or-slice_get (map f ds) n []) ∙ ap (λ (o : Option (List ℕ)). unwrap_or o []) (slice_get-map f ds n)

abbrev pub IsTold : References → Tables → Package → Option Refusal → Type 0
IsTold r t p found = MatchOption found (HasNoLoop (edges_of r t p.declarations)) (IsFirstItself r t p)

told_at : (r : References) (t : Tables) (p : Package) (at : ℕ) (found : Option Refusal) (o : Option Declaration) → IsFirstOnLoop (edges_of r t p.declarations) at →
    slice_get p.declarations at ≡ o → found ≡ option_and_then refusal_of o → IsTold r t p found
told_at r t p at found None first here is =
    absurd (no_path (edges_of r t p.declarations) at
    (leads_at (λ d. places_in (standing_of p.declarations) (contained_in r t d)) p.declarations at
    ∙ ap (λ (o : Option Declaration). unwrap_or (option_map (λ d. places_in (standing_of p.declarations) (contained_in r t d)) o) []) here)
    first.loop.0 at first.loop.1)
told_at r t p at found (Some (declaration.Type c)) first here is =
    subst (IsTold r t p) (sym is) (record { at = at; first = first; told = ap (option_and_then refusal_of) here })
told_at r t p at found (Some (declaration.Implementation i)) first here is =
    subst (IsTold r t p) (sym is) (record { at = at; first = first; told = ap (option_and_then refusal_of) here })
told_at r t p at found (Some (declaration.Annex a)) first here is =
    absurd (no_path (edges_of r t p.declarations) at
    (leads_at (λ d. places_in (standing_of p.declarations) (contained_in r t d)) p.declarations at
    ∙ ap (λ (o : Option Declaration). unwrap_or (option_map (λ d. places_in (standing_of p.declarations) (contained_in r t d)) o) []) here)
    first.loop.0 at first.loop.1)

pub told_itself : (r : References) (t : Tables) (p : Package) (at : ℕ) (found : Option Refusal) → IsFirstOnLoop (edges_of r t p.declarations) at →
    found ≡ option_and_then refusal_of (slice_get p.declarations at) → IsTold r t p found
told_itself r t p at found first is = told_at r t p at found (slice_get p.declarations at) first refl is

-- all declarations were gone through
pub edges_ended : (r : References) (t : Tables) (s : Standing) (ds : List Declaration) (edges : List (List ℕ)) (n : ℕ) →
    edges ++ edges_by r t s (drop n ds) ≡ edges_by r t s ds → length ds ≤ n → edges ≡ edges_by r t s ds
edges_ended r t s ds edges n all past =
    sym (append-nil edges) ∙ (ap (λ (rest : List Declaration). edges ++ edges_by r t s rest) (sym (drop_all n ds past)) ∙ all)
