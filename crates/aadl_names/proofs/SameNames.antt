-- Names of a package that agree part by part.
use Rattle.std.proofs.Common.{◌≡◌, ℕ, List, refl}
use Rattle.aadl_names.specs.Keys.{Key}
use Rattle.aadl_names.specs.declared.references.References.{References}

abbrev pub names : List ℕ → List Key → List Key → List Key → List Key → List Key → References
names p types implementations features subcomponents connections = record {
  package_name = p;
  types = types;
  implementations = implementations;
  features = features;
  subcomponents = subcomponents;
  connections = connections;
}

pub same_names : (p p' : List ℕ) (a a' b b' c c' d d' e e' : List Key) → p ≡ p' → a ≡ a' → b ≡ b' → c ≡ c' → d ≡ d' → e ≡ e' →
    names p a b c d e ≡ names p' a' b' c' d' e'
same_names p p' a a' b b' c c' d d' e e' hp ha hb hc hd he = rw (hp, ha, hb, hc, hd, he) refl
