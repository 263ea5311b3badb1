-- A base type is named by its own name alone.
use Rattle.std.proofs.Common.{◌≡◌, ◌∙◌, ap, refl, ℕ, Bool, true, false, cond, List, [], ◌∷◌, Option, Some, IfSome}
use Rattle.std.specs.Str.{bytes_eq}
use Rattle.std.proofs.lemmas.Slice.Eq.{bytes_eq-Decides}
use Rattle.hw_text.specs.declared.base_type.BaseType.{BaseType}
use Rattle.hw_text.specs.declared.base_type.BaseType.TheVariants.{Boolean}
use Rattle.hw_text.specs.BaseTypes.{base_name, base_named, base_among, all_bases}

of-own : (b : BaseType) → base_named (base_name b) ≡ Some b
unfolding base_named base_name
of-own Boolean = refl
of-own _ = refl

pub named_own : (n : List ℕ) (b : BaseType) → n ≡ base_name b → base_named n ≡ Some b
named_own n b same = ap base_named same ∙ of-own b

chosen : (n : List ℕ) (t : Bool) (b : BaseType) (o : Option BaseType) → (t ≡ true → n ≡ base_name b) → IfSome o (λ a. n ≡ base_name a) → IfSome (cond t (Some b) o) (λ a. n ≡ base_name a)
chosen n true b o own later = own refl
chosen n false b o own later = later

among_own : (n : List ℕ) (bs : List BaseType) → IfSome (base_among bs n) (λ b. n ≡ base_name b)
among_own n [] = tt
among_own n (b ∷ bs) = chosen n (bytes_eq n (base_name b)) b (base_among bs n) (bytes_eq-Decides n (base_name b)).0 (among_own n bs)

pub own_named : (n : List ℕ) → IfSome (base_named n) (λ b. n ≡ base_name b)
unfolding base_named
own_named n = among_own n all_bases
