-- Steps that are there, and links that are one step longer.
use Rattle.std.proofs.Common.{◌≡◌, ℕ, ◌≤◌, true, not, ◌&&◌, List, [], ◌∷◌, ◌++◌, length, Option, Some, None, Result, Ok, Err, IfOk, IfSome, refl, sym, ap, subst, ◌∙◌}
use Rattle.std.specs.List.{slice_get}
use Rattle.std.specs.Option.{option_map, is_some}
use Rattle.aadl_tree.specs.declared.connection.Connection.{Connection}
use Rattle.aadl_names.specs.declared.parts.PartRow.{PartRow}
use Rattle.aadl_links.specs.declared.source.Source.{Source}
use Rattle.aadl_links.specs.Wires.{Wires, PortAt, port_at, within, end_named, subcomponent_named, is_across, is_up, is_down, sender}
use Rattle.aadl_links.specs.Links.{Runs, IsSourceOf}
use Rattle.aadl_links.specs.Steps.{Enters, Leaves, RisesFrom}
use Rattle.aadl_links.proofs.Steps.{same_row}

both_there : {X Y : Type 0} (a : Option X) (b : Option Y) (x : X) (y : Y) → a ≡ Some x → b ≡ Some y → (is_some a && is_some b) ≡ true
both_there a b x y one two = rw (one, two) refl

second_there : {X Y : Type 0} (a : Option X) (b : Option Y) (y : Y) → a ≡ None → b ≡ Some y → (not (is_some a) && is_some b) ≡ true
second_there a b y one two = rw (one, two) refl

first_there : {X Y : Type 0} (a : Option X) (b : Option Y) (x : X) → a ≡ Some x → b ≡ None → (is_some a && not (is_some b)) ≡ true
first_there a b x one two = rw (one, two) refl

own_at : (w : Wires) (n : ℕ) (path first : List ℕ) (o : Option (List ℕ)) → o ≡ None → end_named w n path first o ≡ Some (port_at path first)
own_at w n path first o is = ap (end_named w n path first) is

dotted_at : (w : Wires) (n : ℕ) (path first : List ℕ) (o : Option (List ℕ)) (name : List ℕ) (s : ℕ) → o ≡ Some name → subcomponent_named w n first ≡ Some s →
    end_named w n path first o ≡ Some (port_at (path ++ s ∷ []) name)
dotted_at w n path first o name s is named = ap (end_named w n path first) is ∙ ap (option_map (λ (s : ℕ). port_at (path ++ s ∷ []) name)) named

-- of a row that is the one of the connection
pub down_run : (w : Wires) (outer : List ℕ) (n s : ℕ) (port : List ℕ) (c : ℕ) (row : PartRow Connection) → slice_get w.tables.connections c ≡ Some row → Enters w n s port c → within w outer ≡ Some n →
    row.part.from.port ≡ None → Runs w is_down c (port_at outer row.part.from.first.name) (port_at (outer ++ s ∷ []) port)
down_run w outer n s port c row found e stands own =
    let is : e.row ≡ row = same_row w.tables.connections c c row e.row refl found e.found in
    let o = ap (λ (r : PartRow Connection). r.part.from.port) is ∙ own in
    record {
      path = outer;
      row = row;
      found = found;
      stands = stands ∙ ap Some (sym e.own ∙ ap (λ (r : PartRow Connection). r.owner) is);
      fits = second_there row.part.from.port row.part.to.port port own (ap (λ (r : PartRow Connection). r.part.to.port) (sym is) ∙ e.ends);
      begins = own_at w row.owner outer row.part.from.first.name row.part.from.port own;
      ends = dotted_at w row.owner outer row.part.to.first.name row.part.to.port port s (ap (λ (r : PartRow Connection). r.part.to.port) (sym is) ∙ e.ends)
          (ap (λ (r : PartRow Connection). subcomponent_named w r.owner r.part.to.first.name) (sym is) ∙ (ap (λ (k : ℕ). subcomponent_named w k e.row.part.to.first.name) e.own ∙ e.first));
    }

pub across_run : (w : Wires) (outer : List ℕ) (n s : ℕ) (port : List ℕ) (c : ℕ) (row : PartRow Connection) (next : ℕ) (name : List ℕ) → slice_get w.tables.connections c ≡ Some row → Enters w n s port c →
    within w outer ≡ Some n → row.part.from.port ≡ Some name → subcomponent_named w n row.part.from.first.name ≡ Some next →
    Runs w is_across c (port_at (outer ++ next ∷ []) name) (port_at (outer ++ s ∷ []) port)
across_run w outer n s port c row next name found e stands dotted named =
    let is : e.row ≡ row = same_row w.tables.connections c c row e.row refl found e.found in
    let owner : n ≡ row.owner = sym e.own ∙ ap (λ (r : PartRow Connection). r.owner) is in
    record {
      path = outer;
      row = row;
      found = found;
      stands = stands ∙ ap Some owner;
      fits = both_there row.part.from.port row.part.to.port name port dotted (ap (λ (r : PartRow Connection). r.part.to.port) (sym is) ∙ e.ends);
      begins = dotted_at w row.owner outer row.part.from.first.name row.part.from.port name next dotted (ap (λ (k : ℕ). subcomponent_named w k row.part.from.first.name) (sym owner) ∙ named);
      ends = dotted_at w row.owner outer row.part.to.first.name row.part.to.port port s (ap (λ (r : PartRow Connection). r.part.to.port) (sym is) ∙ e.ends)
          (ap (λ (r : PartRow Connection). subcomponent_named w r.owner r.part.to.first.name) (sym is) ∙ (ap (λ (k : ℕ). subcomponent_named w k e.row.part.to.first.name) e.own ∙ e.first));
    }

pub up_run : (w : Wires) (path : List ℕ) (n : ℕ) (port : List ℕ) (c : ℕ) (row : PartRow Connection) (next : ℕ) (name : List ℕ) → slice_get w.tables.connections c ≡ Some row → Leaves w n port c →
    within w path ≡ Some n → row.part.from.port ≡ Some name → subcomponent_named w n row.part.from.first.name ≡ Some next →
    Runs w is_up c (port_at (path ++ next ∷ []) name) (port_at path port)
up_run w path n port c row next name found e stands dotted named =
    let is : e.row ≡ row = same_row w.tables.connections c c row e.row refl found e.found in
    let owner : n ≡ row.owner = sym e.own ∙ ap (λ (r : PartRow Connection). r.owner) is in
    let ends = ap (λ (r : PartRow Connection). r.part.to.port) (sym is) ∙ e.ends in
    record {
      path = path;
      row = row;
      found = found;
      stands = stands ∙ ap Some owner;
      fits = first_there row.part.from.port row.part.to.port name dotted ends;
      begins = dotted_at w row.owner path row.part.from.first.name row.part.from.port name next dotted (ap (λ (k : ℕ). subcomponent_named w k row.part.from.first.name) (sym owner) ∙ named);
      ends = own_at w row.owner path row.part.to.first.name row.part.to.port ends ∙ ap (λ (xs : List ℕ). Some (port_at path xs)) (ap (λ (r : PartRow Connection). r.part.to.first.name) (sym is) ∙ e.first);
    }

pub longer_down : (w : Wires) (c : ℕ) (between to : PortAt) (source : Source) → Runs w is_down c between to → IsSourceOf w between source → IsSourceOf w to source
longer_down w c between to source run s = record {
  name = s.name;
  ups = s.ups;
  downs = c ∷ s.downs;
  link = record { left = s.link.left; entered = s.link.entered; rises = s.link.rises; over = s.link.over; down = (between, run, s.link.down) };
}

pub longer_across : (w : Wires) (c : ℕ) (left to : PortAt) (source : Source) → Runs w is_across c left to → RisesFrom w left c source → IsSourceOf w to source
longer_across w c left to source run s = record {
  name = s.name;
  ups = s.ups;
  downs = [];
  link = record { left = left; entered = to; rises = s.rises; over = subst (λ (k : ℕ). Runs w is_across k left to) (sym s.same) run; down = refl };
}

pub longer_up : (w : Wires) (c across : ℕ) (between to : PortAt) (source : Source) → Runs w is_up c between to → RisesFrom w between across source → RisesFrom w to across source
longer_up w c across between to source run s = record {
  name = s.name;
  ups = c ∷ s.ups;
  rises = record { sends = s.rises.sends; near = s.rises.near; up = (between, run, s.rises.up) };
  same = s.same;
}

pub from_sender : (w : Wires) (path name : List ℕ) (across feature : ℕ) → sender w (port_at path name) ≡ Some feature → length path ≤ 34 →
    RisesFrom w (port_at path name) across (record { path = path; feature = feature; across = across })
from_sender w path name across feature sends near = record { name = name; ups = []; rises = record { sends = sends; near = near; up = refl }; same = refl }

if_ok : {A E : Type 0} (P Q : A → Type 0) (r : Result A E) → ((a : A) → P a → Q a) → IfOk r P → IfOk r Q
if_ok P Q (Ok a) then_so holds = then_so a holds
if_ok P Q (Err e) then_so holds = holds

if_some : {A : Type 0} (P Q : A → Type 0) (o : Option A) → ((a : A) → P a → Q a) → IfSome o P → IfSome o Q
if_some P Q None then_so holds = holds
if_some P Q (Some a) then_so holds = then_so a holds

-- what a search from a port before it found is found from a port, where the path was made longer
pub risen : {E : Type 0} (w : Wires) (c across : ℕ) (path more : List ℕ) (name : List ℕ) (to : PortAt) (r : Result (Option Source) E) → more ≡ path → Runs w is_up c (port_at path name) to →
    IfOk r (λ source. IfSome source (RisesFrom w (port_at more name) across)) → IfOk r (λ source. IfSome source (RisesFrom w to across))
risen w c across path more name to r is run =
    if_ok (λ source. IfSome source (RisesFrom w (port_at more name) across)) (λ source. IfSome source (RisesFrom w to across)) r
    (λ source. if_some (RisesFrom w (port_at more name) across) (RisesFrom w to across) source
    (λ one found. longer_up w c across (port_at path name) to one run (subst (λ (p : List ℕ). RisesFrom w (port_at p name) across one) is found)))

pub crossed : {E : Type 0} (w : Wires) (c : ℕ) (path more : List ℕ) (name : List ℕ) (to : PortAt) (r : Result (Option Source) E) → more ≡ path → Runs w is_across c (port_at path name) to →
    IfOk r (λ source. IfSome source (RisesFrom w (port_at more name) c)) → IfOk r (λ source. IfSome source (IsSourceOf w to))
crossed w c path more name to r is run =
    if_ok (λ source. IfSome source (RisesFrom w (port_at more name) c)) (λ source. IfSome source (IsSourceOf w to)) r
    (λ source. if_some (RisesFrom w (port_at more name) c) (IsSourceOf w to) source
    (λ one found. longer_across w c (port_at path name) to one run (subst (λ (p : List ℕ). RisesFrom w (port_at p name) c one) is found)))

pub come_down : {E : Type 0} (w : Wires) (c : ℕ) (between to : PortAt) (r : Result (Option Source) E) → Runs w is_down c between to →
    IfOk r (λ source. IfSome source (IsSourceOf w between)) → IfOk r (λ source. IfSome source (IsSourceOf w to))
come_down w c between to r run =
    if_ok (λ source. IfSome source (IsSourceOf w between)) (λ source. IfSome source (IsSourceOf w to)) r
    (λ source. if_some (IsSourceOf w between) (IsSourceOf w to) source (λ one found. longer_down w c between to one run found))

-- and so is that there is no other
pub only_so : {E : Type 0} (P Q : Option Source → Type 0) (H : Type 0) (r : Result (Option Source) E) → ((h : H) (source : Option Source) → P source → Q source) →
    IfOk r (λ source. H → P source) → IfOk r (λ source. H → Q source)
only_so P Q H r then_so holds = if_ok (λ source. H → P source) (λ source. H → Q source) r (λ source before h. then_so h source (before h)) holds
