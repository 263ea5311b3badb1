-- Where expressions begin (docs/formats/c.md).
use Rattle.hw_text.specs.declared.place.Place.{Place}
use Rattle.c_tree.specs.declared.expression.Base.{Base}
use Rattle.c_tree.specs.declared.expression.Base.TheVariants as base
use Rattle.c_tree.specs.declared.expression.Selector.{Selector}
use Rattle.c_tree.specs.declared.expression.Lvalue.{Lvalue}
use Rattle.c_tree.specs.declared.expression.Expression.{Expression}
use Rattle.c_tree.specs.declared.expression.Expression.TheOpen.{Expression-F}
use Rattle.c_tree.specs.declared.expression.Expression.TheViews.{roll-Expression, out-Expression}
use Rattle.c_tree.specs.declared.expression.Expression.TheOpen as layer
use Rattle.c_tree.specs.declared.expression.Expression.TheVariants.{Value}

-- where an lvalue begins
abbrev pub start_of_base : Base → Place
start_of_base (base.Variable x) = x.place
start_of_base (base.Pointed at x) = at
start_of_base (base.Member x m) = x.place

-- what is read from an lvalue
abbrev pub value_of : Lvalue → Expression
value_of l = Value (start_of_base l.base) l

-- an expression whose parts are seen as they are
abbrev pub Layer : Type 0
Layer = Expression-F Expression Selector Lvalue

abbrev pub layer_at : Place → Layer → Layer
layer_at at (layer.Number start l) = layer.Number at l
layer_at at (layer.Truth start b) = layer.Truth at b
layer_at at (layer.Value start l) = layer.Value at l
layer_at at (layer.Unary start operator place x) = layer.Unary at operator place x
layer_at at (layer.Cast start class place x) = layer.Cast at class place x
layer_at at (layer.Binary start operator place l r) = layer.Binary at operator place l r

-- the same expression, in parentheses that begin there
abbrev pub started_at : Place → Expression → Expression
started_at at x = roll-Expression (layer_at at (out-Expression x))

abbrev pub start_of_layer : Layer → Place
start_of_layer (layer.Number start l) = start
start_of_layer (layer.Truth start b) = start
start_of_layer (layer.Value start l) = start
start_of_layer (layer.Unary start operator place x) = start
start_of_layer (layer.Cast start class place x) = start
start_of_layer (layer.Binary start operator place l r) = start

-- where an expression begins
abbrev pub start_in : Expression → Place
start_in x = start_of_layer (out-Expression x)
