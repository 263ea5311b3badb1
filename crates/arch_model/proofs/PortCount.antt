-- How many ports there are at most, since each domain has few.
use Rattle.std.proofs.Common.{◌≡◌, ◌≢◌, inl, inr, ℕ, zero, suc, ◌<◌, ◌≤◌, ◌+◌, ◌*◌, ◌==◌, true, false, Bool, List, [], ◌∷◌, length, get_or, All, count_by, cond, refl, ap, sym, ◌∙◌, arith, if◌then◌else◌}
use Rattle.std.proofs.lemmas.Bool.{cases_eq}
use Rattle.std.proofs.lemmas.List.Sums.{sum_by-cons}
use Rattle.std.proofs.lemmas.Bool.Decides.{nat_tests}
use Rattle.arch_model.specs.declared.parts.ArchParts.{ArchParts}
use Rattle.arch_model.specs.declared.port.Port.{Port}
use Rattle.arch_model.specs.Arch.{IsWellFormed, IsPort}

-- the ports of the first n domains
total : ℕ → List Port → ℕ
total zero ports = 0
total (suc n) ports = total n ports + count_by (λ (port : Port). port.owner.0 == n) ports

counted : (n : ℕ) (port : Port) (ports : List Port) →
    count_by (λ (p : Port). p.owner.0 == n) (port ∷ ports) ≡ cond (port.owner.0 == n) 1 0 + count_by (λ (p : Port). p.owner.0 == n) ports
counted n port ports = sum_by-cons (λ (p : Port). cond (p.owner.0 == n) 1 0) port ports

counted-own : (n : ℕ) (port : Port) (ports : List Port) → port.owner.0 ≡ n →
    count_by (λ (p : Port). p.owner.0 == n) (port ∷ ports) ≡ suc (count_by (λ (p : Port). p.owner.0 == n) ports)
counted-own n port ports own =
    let test : (port.owner.0 == n) ≡ true = grind (arith, nat_tests) in
    omega (arith, counted n port ports ∙ ap (λ b. cond b 1 0 + count_by (λ (p : Port). p.owner.0 == n) ports) test)

counted-other : (n : ℕ) (port : Port) (ports : List Port) → port.owner.0 ≢ n →
    count_by (λ (p : Port). p.owner.0 == n) (port ∷ ports) ≡ count_by (λ (p : Port). p.owner.0 == n) ports
counted-other n port ports other =
    let test : (port.owner.0 == n) ≡ false = grind (arith, nat_tests) in
    omega (arith, counted n port ports ∙ ap (λ b. cond b 1 0 + count_by (λ (p : Port). p.owner.0 == n) ports) test)

total-none : (n : ℕ) → total n [] ≡ 0
unfolding total
total-none zero = refl
total-none (suc n) = omega (arith, total-none n)

total-past : (n : ℕ) (port : Port) (ports : List Port) → n ≤ port.owner.0 → total n (port ∷ ports) ≡ total n ports
unfolding total
total-past zero port ports past = refl
total-past (suc n) port ports past = omega (arith, total-past n port ports (omega arith), counted-other n port ports (omega arith))

total-more : (n : ℕ) (port : Port) (ports : List Port) → port.owner.0 < n → total n (port ∷ ports) ≡ suc (total n ports)
unfolding total
total-more zero port ports inside = absurd (omega arith)
total-more (suc n) port ports inside =
    elim (cases_eq port.owner.0 n) [
      | inl own ↦ omega (arith, total-past n port ports (omega arith), counted-own n port ports own)
      | inr other ↦ omega (arith, total-more n port ports (omega arith), counted-other n port ports other)
    ]

total-all : (n : ℕ) (ports : List Port) → All (λ (port : Port). port.owner.0 < n) ports → total n ports ≡ length ports
total-all n [] each = total-none n
total-all n (port ∷ ports) each =
    omega (arith, total-more n port ports (each 0 port (omega arith)), total-all n ports (λ k d inside. each (suc k) d (omega arith)))

total-few : (n : ℕ) (ports : List Port) → ((domain : ℕ) → count_by (λ (port : Port). port.owner.0 == domain) ports ≤ 32) → total n ports ≤ 32 * n
unfolding total
total-few zero ports few = omega arith
total-few (suc n) ports few = omega (arith, total-few n ports few, few n)

pub few-ports : (arch : ArchParts) → IsWellFormed arch → length arch.ports ≤ 1920
few-ports arch fit =
    omega (
      arith,
      fit.few_domains,
      total-all (length arch.pds) arch.ports (λ k d inside. (fit.ports k d inside).owner),
      total-few (length arch.pds) arch.ports fit.few_ports,
    )
