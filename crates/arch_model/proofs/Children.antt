-- The parts of a type.
use Rattle.std.proofs.Common.{◌≡◌, ℕ, List, [], ◌∷◌, Some, map, refl, sym, ap, subst, ◌∙◌}
use Rattle.hw_types.specs.declared.scalar.Scalar.{Scalar}
use Rattle.hw_types.specs.declared.ty.Ty.{Ty, Ty-F, fold-roll-Ty}
use Rattle.hw_types.specs.declared.ty.Ty.TheFolds.{fold-Ty, ind-Ty, map-Ty}
use Rattle.hw_types.specs.declared.ty.Ty.TheOpen as ty
use Rattle.hw_types.specs.declared.ty.Ty.TheViews.{roll-Ty}
use Rattle.hw_types.specs.declared.ty.Ty.TheVariants.{One, Fields, Times, Nothing, rolls-One, rolls-Fields, rolls-Times, rolls-Nothing}
use Rattle.arch_model.specs.declared.form.Form.{Form}
use Rattle.arch_model.specs.declared.form.Form.TheVariants as form
use Rattle.arch_model.specs.Types.{made_of}

-- a type beside its parts
abbrev opened_step : Ty-F (Ty × List Ty) → Ty × List Ty
opened_step (ty.One s) = (One s, [])
opened_step (ty.Fields es) = (Fields (map (λ e. e.0) es), map (λ e. e.0) es)
opened_step (ty.Times e n) = (Times e.0 n, e.0 ∷ [])
opened_step ty.Nothing = (Nothing, [])

abbrev opened : Ty → Ty × List Ty
opened = fold-Ty (Ty × List Ty) opened_step

pub children : Ty → List Ty
children t = (opened t).1

opened-One : (s : Scalar) → opened (One s) ≡ (One s, [])
opened-One s = ap opened (sym (rolls-One s)) ∙ fold-roll-Ty (Ty × List Ty) opened_step (Ty-F.One s)

opened-Fields : (ts : List Ty) → opened (Fields ts) ≡ (Fields (map (λ e. e.0) (map opened ts)), map (λ e. e.0) (map opened ts))
opened-Fields ts = ap opened (sym (rolls-Fields ts)) ∙ fold-roll-Ty (Ty × List Ty) opened_step (Ty-F.Fields ts)

opened-Times : (t : Ty) (n : ℕ) → opened (Times t n) ≡ (Times (opened t).0 n, (opened t).0 ∷ [])
opened-Times t n = ap opened (sym (rolls-Times t n)) ∙ fold-roll-Ty (Ty × List Ty) opened_step (Ty-F.Times t n)

opened-Nothing : opened Nothing ≡ (Nothing, [])
opened-Nothing = ap opened (sym rolls-Nothing) ∙ fold-roll-Ty (Ty × List Ty) opened_step Ty-F.Nothing

abbrev IsWhole : Ty → Type 0
IsWhole t = (opened t).0 ≡ t

whole-each : (es : List ((t : Ty) × IsWhole t)) → map (λ (e : Ty × List Ty). e.0) (map opened (map (λ e. e.0) es)) ≡ map (λ e. e.0) es
whole-each [] = refl
whole-each (e ∷ es) = ap (λ t. t ∷ map (λ (e : Ty × List Ty). e.0) (map opened (map (λ e. e.0) es))) e.1 ∙ ap (λ ts. e.0 ∷ ts) (whole-each es)

whole-step : (y : Ty-F ((t : Ty) × IsWhole t)) → IsWhole (roll-Ty (map-Ty ((t : Ty) × IsWhole t) Ty (λ e. e.0) y))
whole-step (ty.One s) = subst IsWhole (sym (rolls-One s)) (ap (λ (p : Ty × List Ty). p.0) (opened-One s))
whole-step (ty.Fields es) =
    let ts : List Ty = map (λ e. e.0) es in
    subst IsWhole (sym (rolls-Fields ts)) (ap (λ (p : Ty × List Ty). p.0) (opened-Fields ts) ∙ ap Fields (whole-each es))
whole-step (ty.Times e n) =
    subst IsWhole (sym (rolls-Times e.0 n)) (ap (λ (p : Ty × List Ty). p.0) (opened-Times e.0 n) ∙ ap (λ t. Times t n) e.1)
whole-step ty.Nothing = subst IsWhole (sym rolls-Nothing) (ap (λ (p : Ty × List Ty). p.0) opened-Nothing)

whole : (t : Ty) → IsWhole t
whole = ind-Ty IsWhole (λ x y is. subst (λ z. IsWhole (roll-Ty z)) is (whole-step y))

wholes : (ts : List Ty) → map (λ (e : Ty × List Ty). e.0) (map opened ts) ≡ ts
wholes [] = refl
wholes (t ∷ ts) = ap (λ u. u ∷ map (λ (e : Ty × List Ty). e.0) (map opened ts)) (whole t) ∙ ap (λ us. t ∷ us) (wholes ts)

pub children-One : (s : Scalar) → children (One s) ≡ []
unfolding children
children-One s = ap (λ (p : Ty × List Ty). p.1) (opened-One s)

pub children-Fields : (ts : List Ty) → children (Fields ts) ≡ ts
unfolding children
children-Fields ts = ap (λ (p : Ty × List Ty). p.1) (opened-Fields ts) ∙ wholes ts

pub children-Times : (t : Ty) (n : ℕ) → children (Times t n) ≡ t ∷ []
unfolding children
children-Times t n = ap (λ (p : Ty × List Ty). p.1) (opened-Times t n) ∙ ap (λ u. u ∷ []) (whole t)

pub children-Nothing : children Nothing ≡ []
unfolding children
children-Nothing = ap (λ (p : Ty × List Ty). p.1) opened-Nothing

-- what a type is made of are its parts
pub children-made : (f : Form) (parts : List Ty) (t : Ty) → made_of f parts ≡ Some t → children t ≡ parts
children-made (form.One s) [] t made = let is : One s ≡ t = cc in subst (λ u. children u ≡ []) is (children-One s)
children-made (form.One s) (p ∷ parts) t made = absurd (cc)
children-made form.Fields parts t made = let is : Fields parts ≡ t = cc in subst (λ u. children u ≡ parts) is (children-Fields parts)
children-made (form.Times n) [] t made = absurd (cc)
children-made (form.Times n) (p ∷ []) t made = let is : Times p n ≡ t = cc in subst (λ u. children u ≡ p ∷ []) is (children-Times p n)
children-made (form.Times n) (p ∷ q ∷ parts) t made = absurd (cc)
children-made form.Nothing [] t made = let is : Nothing ≡ t = cc in subst (λ u. children u ≡ []) is children-Nothing
children-made form.Nothing (p ∷ parts) t made = absurd (cc)

abbrev pub Each : (Ty → Type 0) → List Ty → Type 0
Each P [] = Unit {0}
Each P (t ∷ ts) = P t × Each P ts

each-paired : (P : Ty → Type 0) (es : List ((t : Ty) × P t)) → Each P (map (λ e. e.0) es)
each-paired P [] = tt
each-paired P (e ∷ es) = (e.1, each-paired P es)

-- what holds of a type where it holds of its parts holds of all types
pub by-children : (P : Ty → Type 0) → ((t : Ty) → Each P (children t) → P t) → (t : Ty) → P t
by-children P each = ind-Ty P (λ x y is. subst (λ z. P (roll-Ty z)) is (step y)) where
  step : (y : Ty-F ((t : Ty) × P t)) → P (roll-Ty (map-Ty ((t : Ty) × P t) Ty (λ e. e.0) y))
  step (ty.One s) = subst P (sym (rolls-One s)) (each (One s) (subst (Each P) (sym (children-One s)) tt))
  step (ty.Fields es) =
      let ts : List Ty = map (λ e. e.0) es in
      subst P (sym (rolls-Fields ts)) (each (Fields ts) (subst (Each P) (sym (children-Fields ts)) (each-paired P es)))
  step (ty.Times e n) = subst P (sym (rolls-Times e.0 n)) (each (Times e.0 n) (subst (Each P) (sym (children-Times e.0 n)) (e.1, tt)))
  step ty.Nothing = subst P (sym rolls-Nothing) (each Nothing (subst (Each P) (sym children-Nothing) tt))
