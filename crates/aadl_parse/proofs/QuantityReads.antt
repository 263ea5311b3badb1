-- What has been read of a number with a sign and a unit, step by step.
use Rattle.std.proofs.Common.{refl, ℕ, List, [], ◌∷◌, ◌++◌, Option, None}
use Rattle.hw_text.specs.declared.placed.Placed.{Placed}
use Rattle.hw_text.specs.Language.{One, ◌⋅◌, Maybe}
use Rattle.hw_text.specs.Reading.{Reached, Stuck, Leaves}
use Rattle.hw_text.proofs.Reading.{begun}
use Rattle.aadl_tree.specs.declared.token.Token.{Token}
use Rattle.aadl_tree.specs.declared.token.Token.TheVariants as token
use Rattle.aadl_tree.specs.declared.value.Sign.{Sign}
use Rattle.aadl_tree.specs.declared.value.Number.{Number}
use Rattle.aadl_tree.specs.declared.value.Number.TheVariants as number
use Rattle.aadl_parse.specs.Laws.{begins-without, two-begins, one-begins, without-none}
use Rattle.aadl_parse.specs.Shapes.{Without}
use Rattle.aadl_parse.specs.SimpleValue.{quantity_of, SpellsQuantity}
use Rattle.aadl_parse.specs.Stops.{start}
use Rattle.aadl_parse.specs.Terminals.{name_shapes, name_of}
use Rattle.aadl_parse.specs.ValueTokens.{sign_shapes, sign_of, number_shapes, number_of, number-shaped}
use Rattle.aadl_parse.proofs.ThreeParts as three

abbrev Q : List (Placed Token) → Type 0
Q = Without name_shapes

abbrev Signed : Option Sign → List (Placed Token) → Type 0
Signed = Maybe (One sign_of)

abbrev Unit_ : Option (List ℕ) → List (Placed Token) → Type 0
Unit_ = Maybe (One name_of)

module _ (before : List (Placed Token)) where
  ahead : Leaves SpellsQuantity Q before before quantity_of (Signed ⋅ (One number_of ⋅ Unit_))
  ahead = begun SpellsQuantity Q before quantity_of _ (λ z w text. text) (λ y w text. (y, refl, text))

  number-follows : (y : Number × Option (List ℕ)) (w m : List (Placed Token)) → (One number_of ⋅ Unit_) y w → Q m → Without sign_shapes (w ++ m)
  number-follows y w m text follows =
      begins-without (One number_of ⋅ Unit_) number_shapes sign_shapes refl (two-begins (One number_of) Unit_ number_shapes (one-begins number_of number_shapes number-shaped)) y w m text

  unit-follows : (y : Option (List ℕ)) (w m : List (Placed Token)) → Unit_ y w → Q m → Without [] (w ++ m)
  unit-follows y w m text follows = without-none (w ++ m)

  zero : Placed Token
  zero = record { token = token.Integer 0; place = start }

  a_number : (y : Number × Option (List ℕ)) × (w : List (Placed Token)) × (One number_of ⋅ Unit_) y w
  unfolding zero
  a_number = ((number.Integer 0, None), zero ∷ [], (zero ∷ [], [], refl, (zero, refl, refl), refl))

  no_unit : (y : Option (List ℕ)) × (w : List (Placed Token)) × Unit_ y w
  no_unit = (None, [], refl)

  pub sign-stuck : (at : List (Placed Token)) → Stuck Signed (Without sign_shapes) before at → Stuck SpellsQuantity Q before at
  sign-stuck = three.first-stuck SpellsQuantity Q before quantity_of Signed (One number_of) Unit_ (Without sign_shapes) (Without []) Q ahead number-follows unit-follows (λ m f. f) a_number no_unit

  pub number-stuck : (at : List (Placed Token)) (s : Option Sign) → Reached Signed (Without sign_shapes) before at s → (mid : List (Placed Token)) → Stuck (One number_of) (Without []) at mid → Stuck SpellsQuantity Q before mid
  number-stuck = three.second-stuck SpellsQuantity Q before quantity_of Signed (One number_of) Unit_ (Without sign_shapes) (Without []) Q ahead number-follows unit-follows (λ m f. f) a_number no_unit

  pub unit-stuck : (at : List (Placed Token)) (s : Option Sign) → Reached Signed (Without sign_shapes) before at s → (mid : List (Placed Token)) (n : Number) → Reached (One number_of) (Without []) at mid n → (after : List (Placed Token)) → Stuck Unit_ Q mid after → Stuck SpellsQuantity Q before after
  unit-stuck = three.third-stuck SpellsQuantity Q before quantity_of Signed (One number_of) Unit_ (Without sign_shapes) (Without []) Q ahead number-follows unit-follows (λ m f. f) a_number no_unit

  pub quantity-read : (at : List (Placed Token)) (s : Option Sign) → Reached Signed (Without sign_shapes) before at s → (mid : List (Placed Token)) (n : Number) → Reached (One number_of) (Without []) at mid n → (after : List (Placed Token)) (u : Option (List ℕ)) → Reached Unit_ Q mid after u → Reached SpellsQuantity Q before after (quantity_of (s, (n, u)))
  quantity-read = three.three-read SpellsQuantity Q before quantity_of Signed (One number_of) Unit_ (Without sign_shapes) (Without []) Q ahead number-follows unit-follows (λ m f. f) a_number no_unit
