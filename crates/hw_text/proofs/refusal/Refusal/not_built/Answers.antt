use Rattle.std.proofs.Common.{◌∙◌, ap, ℕ, List, [], ◌∷◌, ◌++◌, append-nil, append_assoc, codes}
use Rattle.std.specs.Fmt.{digits}
use Rattle.hw_text.proofs.refusal.Refusal.not_built.Goals as goal

pub returns-clause-line : goal.returns-clause-line
unfolding digits
returns-clause-line c file = ap (λ (l : List ℕ). l ++ 10 ∷ []) (append-nil _ ∙ append_assoc (codes "refused " ++ file) (codes " 1:1") (codes " NotBuilt"))
