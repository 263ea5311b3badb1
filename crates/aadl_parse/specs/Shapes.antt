-- The shape of a token: what the grammar shows of it, which is its spelling for a word or mark, and its kind for another.
use Rattle.std.specs.Prelude.{ℕ, Bool, true, false, ◌&&◌, not, List, [], ◌∷◌, codes, Option, Some, None, ⊤, if◌then◌else◌}
use Rattle.std.specs.List.{list_any}
use Rattle.std.specs.Str.{bytes_eq}
use Rattle.hw_text.specs.declared.placed.Placed.{Placed}
use Rattle.hw_text.specs.Reading.{BeginsWithout}
use Rattle.aadl_tree.specs.declared.token.Token.{Token}
use Rattle.aadl_tree.specs.declared.token.Token.TheVariants as token
use Rattle.aadl_tree.specs.Classes.{is_base_package}
use Rattle.aadl_tree.specs.Marks.{mark_spelling}
use Rattle.aadl_tree.specs.Words.{word_spelling}

-- the name `base_types` has a shape of its own, since behind it stands a base type in a classifier
abbrev pub shape : Token → List ℕ
shape (token.Name n) = if is_base_package n then codes "base_types" else codes "NAME"
shape (token.Word w) = word_spelling w
shape (token.Integer n) = codes "INT"
shape (token.Real r) = codes "REAL"
shape (token.Text t) = codes "STRING"
shape (token.SpoiltText n) = codes "SPOILT"
shape (token.Annex t) = codes "ANNEX"
shape (token.Mark m) = mark_spelling m

-- whether the token has one of these shapes
abbrev pub one_of : List (List ℕ) → Placed Token → Bool
one_of shapes t = list_any (bytes_eq (shape t.token)) shapes

-- what stands behind begins with no token of these shapes
abbrev pub Without : List (List ℕ) → List (Placed Token) → Type 0
Without shapes = BeginsWithout (one_of shapes)

-- no shape is in both lists
abbrev pub is_disjoint : List (List ℕ) → List (List ℕ) → Bool
is_disjoint xs [] = true
is_disjoint xs (y ∷ ys) = not (list_any (bytes_eq y) xs) && is_disjoint xs ys

abbrev pub found : Bool → Option ⊤
found true = Some tt
found false = None

-- the word or mark of this spelling
abbrev pub symbol_of : List ℕ → Placed Token → Option ⊤
symbol_of text t = found (one_of (text ∷ []) t)
