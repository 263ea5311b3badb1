-- Types of variables, sections, clauses and contracts whose parts have tokens that the types allow.
use Rattle.std.proofs.Common.{◌≡◌, ℕ, List, [], ◌∷◌, ◌++◌, codes, Result, OnOk, refl, sym, subst}
use Rattle.std.specs.List.{flat_map}
use Rattle.hw_text.specs.declared.place.Place.{Place}
use Rattle.hw_text.specs.Name.{is_reserved}
use Rattle.hw_text.specs.declared.base_type.BaseType.{BaseType}
use Rattle.hw_text.specs.declared.base_type.BaseType.TheVariants.{Boolean}
use Rattle.gumbo_parse.specs.declared.level.Level.TheVariants as level
use Rattle.gumbo_parse.specs.declared.class.Class.{Class}
use Rattle.gumbo_parse.specs.declared.class.Class.TheVariants.{Base, Model}
use Rattle.gumbo_parse.specs.declared.class.ModelType.{ModelType}
use Rattle.gumbo_parse.specs.declared.class.Variable.{Variable}
use Rattle.gumbo_parse.specs.declared.contract.Clause.{Clause}
use Rattle.gumbo_parse.specs.declared.contract.Contract.{Contract}
use Rattle.gumbo_parse.specs.declared.contract.Handler.{Handler}
use Rattle.gumbo_parse.specs.declared.mark.Mark.TheVariants as mark
use Rattle.gumbo_parse.specs.declared.token.Token.{Token}
use Rattle.gumbo_parse.specs.declared.token.Token.TheVariants as token
use Rattle.gumbo_parse.specs.declared.word.Word.{Word}
use Rattle.gumbo_parse.specs.declared.word.Word.TheVariants as word
use Rattle.gumbo_parse.specs.Allowed.{IsAllowed, AreAllowed}
use Rattle.gumbo_parse.specs.Annex.{clause_word}
use Rattle.gumbo_parse.specs.ContractTokens.{step_tokens, implementation_tokens, class_tokens, variable_tokens, description_tokens, clause_tokens, section_tokens, handler_tokens, compute_tokens, contract_tokens}
use Rattle.gumbo_parse.specs.ExpressionTokens.{expression_tokens}
use Rattle.hw_text.specs.BaseTypes.{base_name}
use Rattle.gumbo_parse.specs.Words.{word_named}
use Rattle.gumbo_parse.proofs.Allowing.{on_ok, always, none, more, one, both}

package_allowed : IsAllowed (token.Name (codes "base_types"))
unfolding word_named is_reserved
package_allowed = refl

base_name_allowed : (b : BaseType) → IsAllowed (token.Name (base_name b))
unfolding word_named is_reserved base_name
base_name_allowed Boolean = refl
base_name_allowed _ = refl

module _ {X E : Type 0} (r : Result X E) where
  pub section_allowed : {Y : Type 0} (w : Word) (tokens : Y → List Token) (ys : List Y) → OnOk r (AreAllowed (flat_map tokens ys)) → OnOk r (AreAllowed (section_tokens w tokens ys))
  section_allowed w tokens [] members = always r (AreAllowed []) none
  section_allowed w tokens (y ∷ ys) members =
      on_ok r (AreAllowed (flat_map tokens (y ∷ ys))) (AreAllowed (token.Word w ∷ flat_map tokens (y ∷ ys))) (λ all. more (token.Word w) (flat_map tokens (y ∷ ys)) refl all) members

  pub base_allowed : (self : Class) (at : Place) (b : BaseType) → self ≡ Base at b → OnOk r (AreAllowed (class_tokens self))
  base_allowed self at b is =
      always r (AreAllowed (class_tokens self))
      (subst (λ (c : Class). AreAllowed (class_tokens c)) (sym is)
      (more (token.Name (codes "base_types")) (token.Mark mark.DoubleColon ∷ token.Name (base_name b) ∷ []) package_allowed
      (more (token.Mark mark.DoubleColon) (token.Name (base_name b) ∷ []) refl (one (token.Name (base_name b)) (base_name_allowed b)))))

  pub model_allowed : (self : Class) (m : ModelType) (others : List (List ℕ)) → self ≡ Model m → others ≡ m.others → IsAllowed (token.Name m.first.name) → AreAllowed (flat_map step_tokens others) → OnOk r (AreAllowed (implementation_tokens m.implementation)) → OnOk r (AreAllowed (class_tokens self))
  model_allowed self m others is same name steps behind =
      let front : List Token = token.Name m.first.name ∷ flat_map step_tokens m.others in
      on_ok r (AreAllowed (implementation_tokens m.implementation)) (AreAllowed (class_tokens self))
      (λ last. subst (λ (c : Class). AreAllowed (class_tokens c)) (sym is)
      (both front (implementation_tokens m.implementation)
      (more (token.Name m.first.name) (flat_map step_tokens m.others) name (subst (λ (ns : List (List ℕ)). AreAllowed (flat_map step_tokens ns)) same steps)) last)) behind

  pub handler_allowed : (h : Handler) (others : List Clause) → others ≡ h.others → IsAllowed (token.Name h.port.name) → AreAllowed (clause_tokens h.first) → OnOk r (AreAllowed (flat_map clause_tokens others)) → OnOk r (AreAllowed (handler_tokens h))
  handler_allowed h others same name first rest =
      let front : List Token = token.Word word.Handle ∷ token.Name h.port.name ∷ token.Mark mark.Colon ∷ clause_tokens h.first in
      on_ok r (AreAllowed (flat_map clause_tokens others)) (AreAllowed (handler_tokens h))
      (λ all. both front (flat_map clause_tokens h.others)
      (more (token.Word word.Handle) (token.Name h.port.name ∷ token.Mark mark.Colon ∷ clause_tokens h.first) refl
      (more (token.Name h.port.name) (token.Mark mark.Colon ∷ clause_tokens h.first) name (more (token.Mark mark.Colon) (clause_tokens h.first) refl first)))
      (subst (λ (cs : List Clause). AreAllowed (flat_map clause_tokens cs)) same all)) rest

pub clause_allowed : (c : Clause) → IsAllowed (token.Name c.name.name) → AreAllowed (description_tokens c.description) → AreAllowed (expression_tokens c.expression level.Implication) → AreAllowed (clause_tokens c)
clause_allowed c name description inner =
    let head : List Token = token.Word (clause_word c.kind) ∷ token.Name c.name.name ∷ description_tokens c.description in
    let colon : List Token = token.Mark mark.Colon ∷ [] in
    let end : List Token = token.Mark mark.Semicolon ∷ [] in
    let us : List Token = expression_tokens c.expression level.Implication in
    both (head ++ colon ++ us) end
    (both (head ++ colon) us
    (both head colon (more (token.Word (clause_word c.kind)) (token.Name c.name.name ∷ description_tokens c.description) refl (more (token.Name c.name.name) (description_tokens c.description) name description))
    (one (token.Mark mark.Colon) refl)) inner)
    (one (token.Mark mark.Semicolon) refl)

pub contract_allowed : {X E : Type 0} (r : Result X E) (c : Contract) (vs : List Variable) (gs is : List Clause) → vs ≡ c.state → gs ≡ c.integration → is ≡ c.initialize → AreAllowed (section_tokens word.State variable_tokens vs) → AreAllowed (section_tokens word.Integration clause_tokens gs) → AreAllowed (section_tokens word.Initialize clause_tokens is) → OnOk r (AreAllowed (compute_tokens c.compute)) → OnOk r (AreAllowed (contract_tokens c))
contract_allowed r c vs gs is e f g state integration initialize compute =
    let ss : List Token = section_tokens word.State variable_tokens c.state in
    let ns : List Token = section_tokens word.Integration clause_tokens c.integration in
    let ts : List Token = section_tokens word.Initialize clause_tokens c.initialize in
    let a : AreAllowed ss = subst (λ (l : List Variable). AreAllowed (section_tokens word.State variable_tokens l)) e state in
    let b : AreAllowed ns = subst (λ (l : List Clause). AreAllowed (section_tokens word.Integration clause_tokens l)) f integration in
    let d : AreAllowed ts = subst (λ (l : List Clause). AreAllowed (section_tokens word.Initialize clause_tokens l)) g initialize in
    on_ok r (AreAllowed (compute_tokens c.compute)) (AreAllowed (contract_tokens c)) (λ last. both (ss ++ ns ++ ts) (compute_tokens c.compute) (both (ss ++ ns) ts (both ss ns a b) d) last) compute
