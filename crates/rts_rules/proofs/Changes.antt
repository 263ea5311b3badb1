-- The slot of a port, found and changed.
use Rattle.std.proofs.Common.{◌≡◌, map, ℕ, zero, suc, ◌<◌, ◌==◌, true, List, [], ◌∷◌, ◌++◌, length, take, drop, get_or, refl, ap, sym, ◌∙◌, arith, Some, slice_get, add-one, ◌+◌, ℤ}
use Rattle.std.proofs.Math.ListN.{set}
use Rattle.std.proofs.lemmas.Bool.Decides.{nat_tests}
use Rattle.arch_model.specs.declared.id.PortId.{PortId}
use Rattle.rts_rules.specs.declared.slot.Slot.{Slot}
use Rattle.rts_rules.specs.Thread.{changed_slot}

pub place-found : (slots : List Slot) (place : ℕ) (slot d : Slot) (port : PortId) (change : Slot → Slot) → place < length slots →
    slot ≡ get_or slots place slot → slot.port.0 ≡ port.0 →
    take place slots ++ changed_slot port change (drop place slots) ≡ set slots place (change (get_or slots place d))
place-found [] place slot d port change inside here found = absurd (omega arith)
place-found (x ∷ xs) zero slot d port change inside here found =
    let its : x.port.0 ≡ port.0 = ap (λ (s : Slot). s.port.0) (sym here) ∙ found in
    let test : (x.port.0 == port.0) ≡ true = grind (arith, nat_tests) in
    rw test refl
place-found (x ∷ xs) (suc place) slot d port change inside here found =
    ap (λ rest. x ∷ rest) (place-found xs place slot d port change (omega arith) here found)

-- the slot at the place where it was found, changed
pub slot-set : (slots was : List Slot) (port : PortId) (place : ℕ) (change : Slot → Slot) (old new : Slot) → slots ≡ was →
    ((change : Slot → Slot) (d : Slot) → changed_slot port change was ≡ set was place (change (get_or was place d))) →
    old ≡ get_or slots place old → new ≡ change old → set slots place new ≡ changed_slot port change was
slot-set slots was port place change old new same found here is =
    ap (λ (s : Slot). set slots place s) (is ∙ ap change (here ∙ ap (λ (xs : List Slot). get_or xs place old) same))
    ∙ ap (λ (xs : List Slot). set xs place (change (get_or was place old))) same ∙ sym (found change old)

-- one slot more has been changed
pub clear-next : (change : Slot → Slot) (old items : List Slot) (place : ℕ) (slot new : Slot) →
    items ≡ map change (take place old) ++ drop place old → place < length old → slot ≡ get_or items place slot → new ≡ change slot →
    set items place new ≡ map change (take (place + 1) old) ++ drop (place + 1) old
clear-next change old items place slot new so_far inside here is =
    ap (λ (s : Slot). set items place s) (is ∙ ap change (here ∙ ap (λ (xs : List Slot). get_or xs place slot) so_far))
    ∙ ap (λ (xs : List Slot). set xs place (change (get_or (map change (take place old) ++ drop place old) place slot))) so_far
    ∙ go old place inside ∙ ap (λ n. map change (take n old) ++ drop n old) (sym (add-one place)) where
      go : (old : List Slot) (place : ℕ) → place < length old →
          set (map change (take place old) ++ drop place old) place (change (get_or (map change (take place old) ++ drop place old) place slot))
          ≡ map change (take (suc place) old) ++ drop (suc place) old
      go [] place inside = absurd (omega arith)
      go (x ∷ xs) zero inside = refl
      go (x ∷ xs) (suc place) inside = ap (λ rest. change x ∷ rest) (go xs place (omega arith))

-- two lists that agree so far, and at the next place
pub agree-next : (xs ys : List (List ℤ)) (place : ℕ) (item : List ℤ) → take place xs ≡ take place ys → place < length xs →
    item ≡ get_or xs place item → slice_get ys place ≡ Some item → take (place + 1) xs ≡ take (place + 1) ys
agree-next xs ys place item before inside mine its =
    ap (λ n. take n xs) (add-one place) ∙ go xs ys place before inside mine its ∙ ap (λ n. take n ys) (sym (add-one place)) where
      go : (xs ys : List (List ℤ)) (place : ℕ) → take place xs ≡ take place ys → place < length xs → item ≡ get_or xs place item →
          slice_get ys place ≡ Some item → take (suc place) xs ≡ take (suc place) ys
      go [] ys place before inside mine its = absurd (omega arith)
      go (x ∷ xs) [] place before inside mine its = absurd (cc)
      go (x ∷ xs) (y ∷ ys) zero before inside mine its = let e : x ≡ y = cc in rw e refl
      go (x ∷ xs) (y ∷ ys) (suc place) before inside mine its =
          let head : x ≡ y = cc in
          let tail : take place xs ≡ take place ys = cc in
          rw (head, go xs ys place tail (omega arith) mine its) refl
