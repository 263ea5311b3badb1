use Rattle.std.proofs.Common.{refl, List, [], ◌∷◌, codes}
use Rattle.aadl_tree.specs.declared.names.Path.{Path}
use Rattle.aadl_parse.specs.Grammar.{BehindComma}
use Rattle.aadl_parse.specs.Parts.{a_path, behind_comma}
use Rattle.aadl_parse.specs.SimpleValue.{SpellsPath}
use Rattle.aadl_parse.proofs.Sequences.{each-follows, rest-ends}
use Rattle.aadl_parse.proofs.Steps.{opening, then_before, halt_before, gathered, final, final_halt}
use Rattle.aadl_parse.proofs.paths.listed.Goals as goal

pub returns-in_err-first : goal.returns-in_err-first
returns-in_err-first c = halt_before _ (codes "." ∷ []) (each-follows _ (codes "." ∷ []) (codes "," ∷ []) (codes "." ∷ []) refl (behind_comma a_path).begins) ([], [], refl) opening _ _ _ c.from_residual.ensures.1 c.in_err-first.ensures

pub returns-in_err-paths : goal.returns-in_err-paths
returns-in_err-paths c = final_halt (rest-ends (BehindComma SpellsPath) (codes "." ∷ []) (codes "," ∷ []) (codes "." ∷ []) refl (behind_comma a_path).begins) (gathered (λ (ps : List Path). ps) (λ (later : List Path). c.in_ok-first.first ∷ later) (then_before (codes "." ∷ []) (each-follows _ (codes "." ∷ []) (codes "," ∷ []) (codes "." ∷ []) refl (behind_comma a_path).begins) opening c.in_ok-first.ensures)) _ _ _ c.from_residual-in_err-paths.ensures.1 c.in_err-paths.ensures

pub returns : goal.returns
returns c = final (rest-ends (BehindComma SpellsPath) (codes "." ∷ []) (codes "," ∷ []) (codes "." ∷ []) refl (behind_comma a_path).begins) (gathered (λ (ps : List Path). ps) (λ (later : List Path). c.in_ok-first.first ∷ later) (then_before (codes "." ∷ []) (each-follows _ (codes "." ∷ []) (codes "," ∷ []) (codes "." ∷ []) refl (behind_comma a_path).begins) opening c.in_ok-first.ensures)) c.in_ok-paths.ensures
