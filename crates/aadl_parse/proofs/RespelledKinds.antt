-- The canonical tokens of categories, directions and kinds of ports spell them.
use Rattle.std.proofs.Common.{◌≡◌, List, [], ◌∷◌, codes, refl}
use Rattle.hw_text.specs.declared.placed.Placed.{Placed}
use Rattle.hw_text.specs.Language.{One, ◌⋅◌, Made}
use Rattle.aadl_tree.specs.declared.category.Category.{Category}
use Rattle.aadl_tree.specs.declared.category.Category.TheVariants as category
use Rattle.aadl_tree.specs.declared.class.Class.{Class}
use Rattle.aadl_tree.specs.declared.feature.Direction.{Direction}
use Rattle.aadl_tree.specs.declared.feature.Direction.TheVariants as direction
use Rattle.aadl_tree.specs.declared.feature.PortKind.{PortKind}
use Rattle.aadl_tree.specs.declared.feature.PortKind.TheVariants as kind
use Rattle.aadl_tree.specs.declared.mark.Mark.TheVariants as mark
use Rattle.aadl_tree.specs.declared.token.Token.{Token}
use Rattle.aadl_tree.specs.declared.token.Token.TheVariants as token
use Rattle.aadl_tree.specs.declared.word.Word.TheVariants as word
use Rattle.aadl_tree.specs.Canonical.{category_word, class_tokens}
use Rattle.aadl_tree.specs.Packages.{direction_word, kind_tokens}
use Rattle.aadl_tree.specs.Unplaced.{unplaced_class, unplaced_kind}
use Rattle.aadl_parse.specs.Choice.{Choice, First, Second}
use Rattle.aadl_parse.specs.Builds.{either_of, data_kind_of, event_data_kind_of, event_kind_of, events_of}
use Rattle.aadl_parse.specs.Grammar.{SpellsDataKind, SpellsEventKinds, SpellsKind}
use Rattle.aadl_parse.specs.SimpleValue.{Symbol, SpellsClass, Either}
use Rattle.aadl_parse.specs.Terminals.{category_of, direction_of}
use Rattle.aadl_parse.proofs.Respelled.{Spelled, then, made, one, symbol, either_bare, first, second}
use Rattle.aadl_parse.proofs.RespelledNames.{class}

pub a_category : (c : Category) → Spelled (One category_of) (λ x. x) c (token.Word (category_word c) ∷ [])
a_category category.Data = one category_of (λ x. x) category.Data (token.Word word.Data) (λ at. category.Data) (λ at. refl) (λ at. refl)
a_category category.Thread = one category_of (λ x. x) category.Thread (token.Word word.Thread) (λ at. category.Thread) (λ at. refl) (λ at. refl)
a_category category.Process = one category_of (λ x. x) category.Process (token.Word word.Process) (λ at. category.Process) (λ at. refl) (λ at. refl)
a_category category.System = one category_of (λ x. x) category.System (token.Word word.System) (λ at. category.System) (λ at. refl) (λ at. refl)
a_category category.Device = one category_of (λ x. x) category.Device (token.Word word.Device) (λ at. category.Device) (λ at. refl) (λ at. refl)
a_category category.Processor = one category_of (λ x. x) category.Processor (token.Word word.Processor) (λ at. category.Processor) (λ at. refl) (λ at. refl)

pub a_direction : (d : Direction) → Spelled (One direction_of) (λ x. x) d (token.Word (direction_word d) ∷ [])
a_direction direction.In = one direction_of (λ x. x) direction.In (token.Word word.In) (λ at. direction.In) (λ at. refl) (λ at. refl)
a_direction direction.Out = one direction_of (λ x. x) direction.Out (token.Word word.Out) (λ at. direction.Out) (λ at. refl) (λ at. refl)

pub colon : Spelled (Symbol (codes ":")) (λ u. u) tt (token.Mark mark.Colon ∷ [])
colon = symbol (codes ":") (token.Mark mark.Colon) (λ at. refl)

pub port : Spelled (Symbol (codes "port")) (λ u. u) tt (token.Word word.Port ∷ [])
port = symbol (codes "port") (token.Word word.Port) (λ at. refl)

-- "data" "port" class
a_data : (c : Class) → Spelled (Symbol (codes "data") ⋅ (Symbol (codes "port") ⋅ SpellsClass)) (λ p. (p.0, (p.1.0, unplaced_class p.1.1))) (tt, (tt, unplaced_class c)) (token.Word word.Data ∷ token.Word word.Port ∷ class_tokens c)
a_data c =
    then (Symbol (codes "data")) (Symbol (codes "port") ⋅ SpellsClass) (λ u. u) (λ p. (p.0, unplaced_class p.1)) tt (tt, unplaced_class c) (token.Word word.Data ∷ []) (token.Word word.Port ∷ class_tokens c)
    (symbol (codes "data") (token.Word word.Data) (λ at. refl))
    (then (Symbol (codes "port")) SpellsClass (λ u. u) unplaced_class tt (unplaced_class c) (token.Word word.Port ∷ []) (class_tokens c) port (class c))

either-bare : {X : Type 0} (f : X → X) (c : Choice X X) → f (either_of c) ≡ either_of (either_bare f f c)
either-bare f (First x) = refl
either-bare f (Second x) = refl

abbrev EventDataKind : PortKind → List (Placed Token) → Type 0
EventDataKind = Made event_data_kind_of (Symbol (codes "data") ⋅ (Symbol (codes "port") ⋅ SpellsClass))

abbrev EventKind : PortKind → List (Placed Token) → Type 0
EventKind = Made event_kind_of (Symbol (codes "port"))

-- "event", and what stands behind it
events : (c : Choice PortKind PortKind) (us : List Token) → Spelled (Either EventDataKind EventKind) (either_bare unplaced_kind unplaced_kind) c us → Spelled SpellsKind unplaced_kind (either_of c) (token.Word word.Event ∷ us)
events c us text =
    made either_of (Either SpellsDataKind SpellsEventKinds) (either_bare unplaced_kind unplaced_kind) unplaced_kind (Second (either_of c)) (token.Word word.Event ∷ us) (either-bare unplaced_kind)
    (second SpellsDataKind SpellsEventKinds unplaced_kind unplaced_kind (either_of c) (token.Word word.Event ∷ us)
    (made events_of (Symbol (codes "event") ⋅ Either EventDataKind EventKind) (λ p. (p.0, either_bare unplaced_kind unplaced_kind p.1)) unplaced_kind (tt, c) (token.Word word.Event ∷ us) (λ p. either-bare unplaced_kind p.1)
    (then (Symbol (codes "event")) (Either EventDataKind EventKind) (λ u. u) (either_bare unplaced_kind unplaced_kind) tt c (token.Word word.Event ∷ []) us (symbol (codes "event") (token.Word word.Event) (λ at. refl)) text)))

pub kind_of : (k : PortKind) → Spelled SpellsKind unplaced_kind (unplaced_kind k) (kind_tokens k)
kind_of (kind.Data c) =
    made either_of (Either SpellsDataKind SpellsEventKinds) (either_bare unplaced_kind unplaced_kind) unplaced_kind (First (kind.Data (unplaced_class c))) (kind_tokens (kind.Data c)) (either-bare unplaced_kind)
    (first SpellsDataKind SpellsEventKinds unplaced_kind unplaced_kind (kind.Data (unplaced_class c)) (kind_tokens (kind.Data c))
    (made data_kind_of (Symbol (codes "data") ⋅ (Symbol (codes "port") ⋅ SpellsClass)) (λ p. (p.0, (p.1.0, unplaced_class p.1.1))) unplaced_kind (tt, (tt, unplaced_class c)) (kind_tokens (kind.Data c)) (λ p. refl) (a_data c)))
kind_of kind.Event =
    events (Second kind.Event) (token.Word word.Port ∷ []) (second EventDataKind EventKind unplaced_kind unplaced_kind kind.Event (token.Word word.Port ∷ [])
    (made event_kind_of (Symbol (codes "port")) (λ u. u) unplaced_kind tt (token.Word word.Port ∷ []) (λ u. refl) port))
kind_of (kind.EventData c) =
    let us : List Token = token.Word word.Data ∷ token.Word word.Port ∷ class_tokens c in
    events (First (kind.EventData (unplaced_class c))) us (first EventDataKind EventKind unplaced_kind unplaced_kind (kind.EventData (unplaced_class c)) us
    (made event_data_kind_of (Symbol (codes "data") ⋅ (Symbol (codes "port") ⋅ SpellsClass)) (λ p. (p.0, (p.1.0, unplaced_class p.1.1))) unplaced_kind (tt, (tt, unplaced_class c)) us (λ p. refl) (a_data c)))
