-- Steps back along a link: which there are, and that there are no others.
use Rattle.std.proofs.Common.{◌≡◌, ℕ, Bool, true, false, not, List, [], ◌∷◌, ◌++◌, length, Option, Some, None, refl, sym, ap, subst, ◌∙◌, arith}
use Rattle.std.specs.List.{slice_get}
use Rattle.std.specs.Option.{option_map, is_some, unwrap_or}
use Rattle.std.proofs.lemmas.Bool.{and_parts}
use Rattle.std.proofs.lemmas.List.{length-append}
use Rattle.aadl_tree.specs.declared.connection.Connection.{Connection}
use Rattle.aadl_names.specs.declared.parts.PartRow.{PartRow}
use Rattle.aadl_links.specs.declared.source.Source.{Source}
use Rattle.aadl_links.specs.Wires.{Wires, PortAt, port_at, within, end_named, end_at, subcomponent_named, is_across, is_up, is_down}
use Rattle.aadl_links.specs.Links.{Runs, Rises, IsLink, IsOnlySource, source_at}
use Rattle.aadl_links.specs.Steps.{Enters, IsOnlyRise}
use Rattle.aadl_links.proofs.Ends.{inside_end, deeper_end, no_is}

pub some_is : {X : Type 0} (a b : X) → Some a ≡ Some b → a ≡ b
some_is a b same = ap (λ (o : Option _). unwrap_or o a) same

-- a connection whose source is a port of a subcomponent
pub record IsFromInside (w : Wires) (n : ℕ) (path : List ℕ) (first : List ℕ) (o : Option (List ℕ)) (at : PortAt) : Type 0 where
  pub name : List ℕ
  pub sub : ℕ
  pub port : o ≡ Some name
  pub named : subcomponent_named w n first ≡ Some sub
  pub stands : at ≡ port_at (path ++ sub ∷ []) name

from_by : (w : Wires) (n : ℕ) (path first name : List ℕ) (at : PortAt) (found : Option ℕ) → subcomponent_named w n first ≡ found →
    option_map (λ (s : ℕ). port_at (path ++ s ∷ []) name) found ≡ Some at → IsFromInside w n path first (Some name) at
from_by w n path first name at None is ends = absurd (cc)
from_by w n path first name at (Some s) is ends = record { name = name; sub = s; port = refl; named = is; stands = sym (some_is _ _ ends) }

pub from_inside : (w : Wires) (n : ℕ) (path first : List ℕ) (o : Option (List ℕ)) (at : PortAt) → is_some o ≡ true → end_named w n path first o ≡ Some at → IsFromInside w n path first o at
from_inside w n path first None at some ends = absurd (cc)
from_inside w n path first (Some name) at some ends = from_by w n path first name at (subcomponent_named w n first) refl ends

-- a connection that ends at a port of a subcomponent
pub record IsEntry (w : Wires) (kind : Connection → Bool) (outer : List ℕ) (s : ℕ) (port : List ℕ) (c : ℕ) (from : PortAt) : Type 0 where
  pub n : ℕ
  pub stands : within w outer ≡ Some n
  pub enters : Enters w n s port c
  pub fits : kind enters.row.part ≡ true
  pub begins : end_at w n outer enters.row.part.from ≡ Some from

pub entry : (w : Wires) (kind : Connection → Bool) (outer : List ℕ) (s : ℕ) (port : List ℕ) (c : ℕ) (from : PortAt) →
    ((k : Connection) → kind k ≡ true → is_some k.to.port ≡ true) → Runs w kind c from (port_at (outer ++ s ∷ []) port) → IsEntry w kind outer s port c from
entry w kind outer s port c from has r =
    let e = inside_end w r.row.owner r.path outer r.row.part.to.first.name r.row.part.to.port s port (has r.row.part r.fits) r.ends in
    record {
      n = r.row.owner;
      stands = ap (within w) (sym e.same) ∙ r.stands;
      enters = record { row = r.row; found = r.found; own = refl; first = e.sub; ends = e.dotted };
      fits = r.fits;
      begins = ap (λ (p : List ℕ). end_at w r.row.owner p r.row.part.from) (sym e.same) ∙ r.begins;
    }

pub across_ends : (k : Connection) → is_across k ≡ true → is_some k.to.port ≡ true
across_ends k is = (and_parts (is_some k.from.port) (is_some k.to.port) is).1

pub down_ends : (k : Connection) → is_down k ≡ true → is_some k.to.port ≡ true
down_ends k is = (and_parts (not (is_some k.from.port)) (is_some k.to.port) is).1

pub across_begins : (k : Connection) → is_across k ≡ true → is_some k.from.port ≡ true
across_begins k is = (and_parts (is_some k.from.port) (is_some k.to.port) is).0

pub down_begins : (k : Connection) → is_down k ≡ true → is_some k.from.port ≡ false
down_begins k is = no_is (is_some k.from.port) ((and_parts (not (is_some k.from.port)) (is_some k.to.port) is).0)

pub up_begins : (k : Connection) → is_up k ≡ true → is_some k.from.port ≡ true
up_begins k is = (and_parts (is_some k.from.port) (not (is_some k.to.port)) is).0

pub up_ends : (k : Connection) → is_up k ≡ true → is_some k.to.port ≡ false
up_ends k is = no_is (is_some k.to.port) ((and_parts (is_some k.from.port) (not (is_some k.to.port)) is).1)

-- nothing enters the root
pub no_entry : (w : Wires) (kind : Connection → Bool) (c : ℕ) (from : PortAt) (port : List ℕ) →
    ((k : Connection) → kind k ≡ true → is_some k.to.port ≡ true) → Runs w kind c from (port_at [] port) → ⊥
no_entry w kind c from port has r =
    let d = deeper_end w r.row.owner r.path r.row.part.to.first.name r.row.part.to.port (port_at [] port) (has r.row.part r.fits) r.ends in
    let long = ap length d.longer in
    let more = length-append r.path (d.sub ∷ []) in
    omega (arith, long, more)

-- the last step of a link
pub last_step : (w : Wires) (to : PortAt) (found : Option Source) →
    ((feature : ℕ) (ups : List ℕ) (across : ℕ) (from left : PortAt) → Rises w feature ups from left → Runs w is_across across left to → found ≡ Some (source_at from feature across)) →
    ((feature : ℕ) (ups : List ℕ) (across c : ℕ) (before : List ℕ) (from between : PortAt) → IsLink w feature ups across before from between → Runs w is_down c between to → found ≡ Some (source_at from feature across)) →
    IsOnlySource w to found
last_step w to found cross down feature ups across [] from l = cross feature ups across from l.left l.rises (subst (λ (at : PortAt). Runs w is_across across l.left at) l.down l.over)
last_step w to found cross down feature ups across (c ∷ before) from l =
    down feature ups across c before from l.down.0 (record { left = l.left; entered = l.entered; rises = l.rises; over = l.over; down = l.down.2 }) l.down.1

pub only_root : (w : Wires) (port : List ℕ) → IsOnlySource w (port_at [] port) None
only_root w port =
    last_step w (port_at [] port) None (λ feature ups across from left rises run. absurd (no_entry w is_across across left port across_ends run))
    (λ feature ups across c before from between link run. absurd (no_entry w is_down c between port down_ends run))

-- no link enters where nothing does
pub only_without : (w : Wires) (outer : List ℕ) (s : ℕ) (port : List ℕ) →
    ((n c : ℕ) → within w outer ≡ Some n → Enters w n s port c → ⊥) → IsOnlySource w (port_at (outer ++ s ∷ []) port) None
only_without w outer s port none =
    last_step w (port_at (outer ++ s ∷ []) port) None
    (λ feature ups across from left rises run. let e = entry w is_across outer s port across left across_ends run in absurd (none e.n across e.stands e.enters))
    (λ feature ups across c before from between link run. let e = entry w is_down outer s port c between down_ends run in absurd (none e.n c e.stands e.enters))

-- one connection enters, and it is this one
pub record IsOnlyEntry (w : Wires) (outer : List ℕ) (s : ℕ) (port : List ℕ) (n c : ℕ) : Type 0 where
  pub stands : within w outer ≡ Some n
  pub row : PartRow Connection
  pub found : slice_get w.tables.connections c ≡ Some row
  pub only : (d : ℕ) → Enters w n s port d → c ≡ d

same_n : (w : Wires) (outer : List ℕ) (n m : ℕ) → within w outer ≡ Some n → within w outer ≡ Some m → m ≡ n
same_n w outer n m one two = sym (some_is n m (sym one ∙ two))

pub record IsSameEntry (w : Wires) (kind : Connection → Bool) (outer : List ℕ) (n c d : ℕ) (row : PartRow Connection) (from : PortAt) : Type 0 where
  pub same : c ≡ d
  pub fits : kind row.part ≡ true
  pub begins : end_at w n outer row.part.from ≡ Some from

pub same_row : {X : Type 0} (xs : List X) (c d : ℕ) (x y : X) → c ≡ d → slice_get xs c ≡ Some x → slice_get xs d ≡ Some y → y ≡ x
same_row xs c d x y same one two = some_is y x (sym two ∙ (ap (slice_get xs) (sym same) ∙ one))

pub same_entry : (w : Wires) (kind : Connection → Bool) (outer : List ℕ) (s : ℕ) (port : List ℕ) (n c d : ℕ) (from : PortAt) (one : IsOnlyEntry w outer s port n c) →
    ((k : Connection) → kind k ≡ true → is_some k.to.port ≡ true) → Runs w kind d from (port_at (outer ++ s ∷ []) port) → IsSameEntry w kind outer n c d one.row from
same_entry w kind outer s port n c d from one has run =
    let e = entry w kind outer s port d from has run in
    let m = same_n w outer n e.n one.stands e.stands in
    let c_is = one.only d (subst (λ (k : ℕ). Enters w k s port d) m e.enters) in
    let row_is = same_row w.tables.connections c d one.row e.enters.row c_is one.found e.enters.found in
    record {
      same = c_is;
      fits = ap (λ (r : PartRow Connection). kind r.part) (sym row_is) ∙ e.fits;
      begins = ap (λ (k : ℕ). end_at w k outer one.row.part.from) (sym m) ∙ (ap (λ (r : PartRow Connection). end_at w e.n outer r.part.from) (sym row_is) ∙ e.begins);
    }

-- it leads down
pub only_down : (w : Wires) (outer : List ℕ) (s : ℕ) (port : List ℕ) (n c : ℕ) (found : Option Source) (one : IsOnlyEntry w outer s port n c) →
    one.row.part.from.port ≡ None → IsOnlySource w (port_at outer one.row.part.from.first.name) found → IsOnlySource w (port_at (outer ++ s ∷ []) port) found
only_down w outer s port n c found one own before_it =
    last_step w (port_at (outer ++ s ∷ []) port) found
    (λ feature ups across from left rises run. let e = same_entry w is_across outer s port n c across left one across_ends run in
    let some = across_begins one.row.part e.fits in absurd (let none = ap is_some own in cc))
    (λ feature ups across d before from between link run. let e = same_entry w is_down outer s port n c d between one down_ends run in
    let at : port_at outer one.row.part.from.first.name ≡ between = some_is _ _ (ap (end_named w n outer one.row.part.from.first.name) (sym own) ∙ e.begins) in
    before_it feature ups across before from (subst (λ (p : PortAt). IsLink w feature ups across before from p) (sym at) link))

-- it leads across
pub only_across : (w : Wires) (outer : List ℕ) (s : ℕ) (port : List ℕ) (n c : ℕ) (next : ℕ) (name : List ℕ) (found : Option Source) (one : IsOnlyEntry w outer s port n c) →
    one.row.part.from.port ≡ Some name → subcomponent_named w n one.row.part.from.first.name ≡ Some next → IsOnlyRise w (port_at (outer ++ next ∷ []) name) c found → IsOnlySource w (port_at (outer ++ s ∷ []) port) found
only_across w outer s port n c next name found one dotted named rise =
    last_step w (port_at (outer ++ s ∷ []) port) found
    (λ feature ups across from left rises run. let e = same_entry w is_across outer s port n c across left one across_ends run in
    let f = from_inside w n outer one.row.part.from.first.name one.row.part.from.port left (across_begins one.row.part e.fits) e.begins in
    let sub : f.sub ≡ next = some_is _ _ (sym f.named ∙ named) in
    let word : f.name ≡ name = some_is _ _ (sym f.port ∙ dotted) in
    let at : left ≡ port_at (outer ++ next ∷ []) name = f.stands ∙ (ap (λ (t : ℕ). port_at (outer ++ t ∷ []) f.name) sub ∙ ap (port_at (outer ++ next ∷ [])) word) in
    rise feature ups from (subst (λ (p : PortAt). Rises w feature ups from p) at rises) ∙ ap (λ (k : ℕ). Some (source_at from feature k)) e.same)
    (λ feature ups across d before from between link run. let e = same_entry w is_down outer s port n c d between one down_ends run in
    let none = down_begins one.row.part e.fits in absurd (let some = ap is_some dotted in cc))

-- from no subcomponent that is there
pub only_nowhere : (w : Wires) (outer : List ℕ) (s : ℕ) (port : List ℕ) (n c : ℕ) (name : List ℕ) (one : IsOnlyEntry w outer s port n c) →
    one.row.part.from.port ≡ Some name → subcomponent_named w n one.row.part.from.first.name ≡ None → IsOnlySource w (port_at (outer ++ s ∷ []) port) None
only_nowhere w outer s port n c name one dotted nowhere =
    last_step w (port_at (outer ++ s ∷ []) port) None
    (λ feature ups across from left rises run. let e = same_entry w is_across outer s port n c across left one across_ends run in
    let f = from_inside w n outer one.row.part.from.first.name one.row.part.from.port left (across_begins one.row.part e.fits) e.begins in
    absurd (let both = sym nowhere ∙ f.named in cc))
    (λ feature ups across d before from between link run. let e = same_entry w is_down outer s port n c d between one down_ends run in
    let none = down_begins one.row.part e.fits in absurd (let some = ap is_some dotted in cc))
