-- The first in the text, of some domains and one more.
use Rattle.std.proofs.Common.{◌≡◌, ◌⊎◌, inl, inr, ℕ, ◌+◌, ◌<◌, ◌≤◌, List, length, Option, Some, None, IfSome, IfNone, sym, ap, subst, ◌∙◌, arith}
use Rattle.std.proofs.lemmas.Option.{slice_get_within}
use Rattle.std.specs.List.{slice_get}
use Rattle.std.proofs.lemmas.Bool.{cases_lt}
use Rattle.std.specs.Option.{unwrap_or}
use Rattle.hw_text.specs.declared.place.Place.{Place}
use Rattle.hw_text.specs.Places.{IsBefore}
use Rattle.arch_model.specs.declared.origin.Origin.{Origin}
use Rattle.arch_model.specs.declared.parts.ArchParts.{ArchParts}
use Rattle.arch_model.specs.declared.pd.Pd.{Pd}
use Rattle.domain_sched.specs.Schedule.{IsUneven, IsUnevenAt, IsFirstUneven, AreEven}
use Rattle.domain_sched.specs.Multiples.{AreEvenAmong, IsFirstAmong}

-- what comes before a place comes before all that doesn't come before that place
before_upto : (a b c : Place) → IsBefore a c → (IsBefore b c → ⊥) → IsBefore a b
before_upto a b c (inl line) later =
    elim (cases_lt b.line c.line) [ inl before ↦ absurd (later (inl before)) | inr behind ↦ inl (omega arith) ]
before_upto a b c (inr (line, column)) later =
    elim (cases_lt a.line b.line) [
      | inl before ↦ inl before
      | inr behind ↦ elim (cases_lt b.line c.line) [
        | inl above ↦ absurd (later (inl above))
        | inr below ↦ elim (cases_lt b.column c.column) [
          | inl left ↦ absurd (later (inr (omega arith, left)))
          | inr right ↦ inr (omega arith, omega arith)
        ]
      ]
    ]

-- one origin stands at a place
same_origin : (arch : ArchParts) (place : ℕ) (one other : Origin) → IsUnevenAt arch place one → IsUnevenAt arch place other → one ≡ other
same_origin arch place one other is also = ap (λ (o : Option Origin). unwrap_or o one) (sym is.is_origin ∙ also.is_origin)

-- a fact of each of some domains and of the next one is one of each of them all
each_more : (arch : ArchParts) (many : ℕ) (P : Origin → Type 0) → ((place : ℕ) (o : Origin) → place < many → IsUnevenAt arch place o → P o) →
    ((o : Origin) → IsUnevenAt arch many o → P o) → (place : ℕ) (o : Origin) → place < many + 1 → IsUnevenAt arch place o → P o
each_more arch many P before last place o within is =
    elim (cases_lt place many) [
      | inl earlier ↦ before place o earlier is
      | inr later ↦ last o (subst (λ (p : ℕ). IsUnevenAt arch p o) (omega arith) is)
    ]

pub even_more : (arch : ArchParts) (many : ℕ) → AreEvenAmong arch many → ((o : Origin) → IsUnevenAt arch many o → ⊥) → AreEvenAmong arch (many + 1)
even_more arch many before last = each_more arch many (λ o. ⊥) before last

pub first_stays : (arch : ArchParts) (many : ℕ) (first : Origin) → IsFirstAmong arch many first → ((o : Origin) → IsUnevenAt arch many o → ⊥) → IsFirstAmong arch (many + 1) first
first_stays arch many first is last = record {
  place = is.place;
  is_uneven = is.is_uneven;
  first = each_more arch many (λ o. IsBefore o.at first.at → ⊥) is.first (λ o at. absurd (last o at));
}

-- the next domain's is the only one so far
pub first_alone : (arch : ArchParts) (many : ℕ) (new : Origin) → IsUnevenAt arch many new → AreEvenAmong arch many → (IsBefore new.at new.at → ⊥) → IsFirstAmong arch (many + 1) new
first_alone arch many new is even own = record {
  place = many;
  is_uneven = is;
  first = each_more arch many (λ o. IsBefore o.at new.at → ⊥) (λ place o within at. absurd (even place o within at))
      (λ o at before. own (subst (λ (x : Origin). IsBefore x.at new.at) (same_origin arch many o new at is) before));
}

-- of the first so far and the next domain's, the one that stands earlier
pub first_of_two : (arch : ArchParts) (many : ℕ) (other new chosen : Origin) → IsUnevenAt arch many new → IsFirstAmong arch many other →
    ((chosen ≡ other) ⊎ (chosen ≡ new)) → (IsBefore other.at chosen.at → ⊥) → (IsBefore new.at chosen.at → ⊥) → IsFirstAmong arch (many + 1) chosen
first_of_two arch many other new chosen is before one not_other not_new =
    let first = each_more arch many (λ o. IsBefore o.at chosen.at → ⊥)
    (λ place o within at earlier. before.first place o within at (before_upto o.at other.at chosen.at earlier not_other))
    (λ o at earlier. not_new (subst (λ (x : Origin). IsBefore x.at chosen.at) (same_origin arch many o new at is) earlier)) in
    elim one [
      | inl old ↦ record { place = before.place; is_uneven = subst (IsUnevenAt arch before.place) (sym old) before.is_uneven; first = first }
      | inr newer ↦ record { place = many; is_uneven = subst (IsUnevenAt arch many) (sym newer) is; first = first }
    ]

-- the same of what is found so far
pub found_more : {T : Type 0} (of : T → Origin) (arch : ArchParts) (many : ℕ) (found : Option T) (new chosen : Origin) → IsUnevenAt arch many new →
    IfSome found (λ t. IsFirstAmong arch many (of t)) → IfNone found (AreEvenAmong arch many) → IfSome found (λ t. (chosen ≡ of t) ⊎ (chosen ≡ new)) → IfNone found (chosen ≡ new) →
    IfSome found (λ t. IsBefore (of t).at chosen.at → ⊥) → (IsBefore new.at chosen.at → ⊥) → IsFirstAmong arch (many + 1) chosen
found_more of arch many None new chosen is first even one alone not_other not_new =
    subst (IsFirstAmong arch (many + 1)) (sym alone) (first_alone arch many new is even (subst (λ (x : Origin). IsBefore new.at x.at → ⊥) alone not_new))
found_more of arch many (Some t) new chosen is first even one alone not_other not_new = first_of_two arch many (of t) new chosen is first one not_other not_new

-- the next domain has no such period
pub none_at : (arch : ArchParts) (many : ℕ) (pd : Pd) → slice_get arch.pds many ≡ Some pd → (IsUneven arch.frame pd → slice_get arch.origins many ≡ None) →
    (o : Origin) → IsUnevenAt arch many o → ⊥
none_at arch many pd is none o at =
    let same : at.pd ≡ pd = ap (λ (x : Option Pd). unwrap_or x pd) (sym at.is_pd ∙ is) in
    let absent = none (subst (IsUneven arch.frame) same at.is_uneven) in
    absurd (cc (sym absent ∙ at.is_origin))

-- what holds of all domains by their number holds of them all
pub even_all : (arch : ArchParts) (many : ℕ) → length arch.pds ≤ many → AreEvenAmong arch many → AreEven arch
even_all arch many all even place o is = even place o (omega (arith, slice_get_within arch.pds place is.pd is.is_pd)) is

pub first_all : (arch : ArchParts) (many : ℕ) (origin : Origin) → length arch.pds ≤ many → IsFirstAmong arch many origin → IsFirstUneven arch origin
first_all arch many origin all first = record {
  place = first.place;
  is_uneven = first.is_uneven;
  first = λ other o is. first.first other o (omega (arith, slice_get_within arch.pds other is.pd is.is_pd)) is;
}

pub none_then : {T P Q : Type 0} (found : Option T) → IfNone found P → (P → Q) → IfNone found Q
none_then None p then = then p
none_then (Some t) p then = tt
