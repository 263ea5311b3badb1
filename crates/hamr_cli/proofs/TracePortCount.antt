-- An architecture has few ports: each of at most 60 domains has at most 32.
use Rattle.std.proofs.Common.{◌≡◌, ℕ, zero, suc, ◌<◌, ◌≤◌, ◌+◌, ◌*◌, ◌^◌, eqb, ltb, true, false, cond, List, [], ◌∷◌, length, refl, ap, ◌∙◌, arith}
use Rattle.std.specs.Prelude.{All, count_by}
use Rattle.std.proofs.lemmas.Bool.{lt-ltb, le-ltb}
use Rattle.std.proofs.lemmas.Bool.Decides.{nat_tests}
use Rattle.std.proofs.lemmas.List.Sums.{sum_by-cons}
use Rattle.std.proofs.lemmas.List.Elements.{All-head, All-tail, All-weaker}
use Rattle.arch_model.specs.declared.parts.ArchParts.{ArchParts}
use Rattle.arch_model.specs.declared.port.Port.{Port}
use Rattle.arch_model.specs.Arch.{IsWellFormed, IsPort}

-- how many ports belong to the domains below this one, and to this one
below : ℕ → List Port → ℕ
below m ports = count_by (λ (p : Port). ltb p.owner.0 m) ports

own : ℕ → List Port → ℕ
own m ports = count_by (λ (p : Port). eqb p.owner.0 m) ports

below-nil : (m : ℕ) → below m [] ≡ 0
unfolding below
below-nil m = refl

below-cons : (m : ℕ) (p : Port) (ports : List Port) → below m (p ∷ ports) ≡ cond (ltb p.owner.0 m) 1 0 + below m ports
unfolding below
below-cons m p ports = sum_by-cons (λ (q : Port). cond (ltb q.owner.0 m) 1 0) p ports

own-cons : (m : ℕ) (p : Port) (ports : List Port) → own m (p ∷ ports) ≡ cond (eqb p.owner.0 m) 1 0 + own m ports
unfolding own
own-cons m p ports = sum_by-cons (λ (q : Port). cond (eqb q.owner.0 m) 1 0) p ports

one_more : (o m a b c : ℕ) → a ≤ b + c → cond (ltb o (m + 1)) 1 0 + a ≤ cond (ltb o m) 1 0 + b + (cond (eqb o m) 1 0 + c)
one_more o m a b c h = grind (arith, nat_tests)

below-suc : (m : ℕ) (ports : List Port) → below (m + 1) ports ≤ below m ports + own m ports
below-suc m [] = omega (arith, below-nil (m + 1))
below-suc m (p ∷ ports) =
    let here = one_more p.owner.0 m (below (m + 1) ports) (below m ports) (own m ports) (below-suc m ports) in
    omega (arith, here, below-cons (m + 1) p ports, below-cons m p ports, own-cons m p ports)

below-zero : (ports : List Port) → below 0 ports ≡ 0
below-zero [] = below-nil 0
below-zero (p ∷ ports) =
    let none : ltb p.owner.0 0 ≡ false = le-ltb _ _ (omega arith) in
    below-cons 0 p ports ∙ rw none (omega (arith, below-zero ports))

below-all : (m : ℕ) (ports : List Port) → All (λ (p : Port). p.owner.0 < m) ports → length ports ≤ below m ports
below-all m [] all = omega arith
below-all m (p ∷ ports) all =
    let test : ltb p.owner.0 m ≡ true = lt-ltb _ _ (All-head (λ (q : Port). q.owner.0 < m) p ports all) in
    let later = below-all m ports (All-tail (λ (q : Port). q.owner.0 < m) p ports all) in
    let one : below m (p ∷ ports) ≡ 1 + below m ports = below-cons m p ports ∙ ap (λ t. cond t 1 0 + below m ports) test in
    omega (arith, later, one)

few-below : (m : ℕ) (ports : List Port) → ((domain : ℕ) → own domain ports ≤ 32) → below m ports ≤ 32 * m
few-below zero ports few = omega (arith, below-zero ports)
few-below (suc m) ports few =
    let one : m + 1 ≡ suc m = omega arith in
    omega (arith, below-suc m ports, few m, few-below m ports few, ap (λ n. below n ports) one)

pub few-ports : (arch : ArchParts) (rows : List Port) → rows ≡ arch.ports → IsWellFormed arch → length rows < 2 ^ 32
unfolding own
few-ports arch rows same well =
    let owned = All-weaker (IsPort arch.pds arch.types) (λ (p : Port). p.owner.0 < length arch.pds) (λ p fits. fits.owner) arch.ports well.ports in
    let all = below-all (length arch.pds) arch.ports owned in
    let few = few-below (length arch.pds) arch.ports well.few_ports in
    rw same (omega (arith, all, few, well.few_domains))
