-- What the index of destinations tells.
use Rattle.std.proofs.Common.{◌≡◌, ℕ, true, false, List, [], Option, Some, None, refl, sym, ap, ◌∙◌}
use Rattle.std.specs.List.{slice_get}
use Rattle.std.specs.Option.{option_map, is_some}
use Rattle.aadl_tree.specs.declared.connection.Connection.{Connection}
use Rattle.aadl_tree.specs.declared.subcomponent.Subcomponent.{Subcomponent}
use Rattle.aadl_names.specs.declared.parts.PartRow.{PartRow}
use Rattle.aadl_names.specs.Keys.{Key, key, place_of}
use Rattle.aadl_names.specs.Meanings.{part_key}
use Rattle.aadl_links.specs.Wires.{Wires, port_text, name_of, subcomponent_name, subcomponent_named, destination_key, destinations_of}
use Rattle.aadl_links.specs.Links.{HasOneSource}
use Rattle.aadl_links.specs.Steps.{Enters, Leaves}
use Rattle.aadl_links.proofs.Found.{found_row}
use Rattle.aadl_links.proofs.Steps.{same_row, some_is}

key_is : (row : PartRow Connection) (n : ℕ) (first : List ℕ) (port : Option (List ℕ)) → row.owner ≡ n → row.part.to.first.name ≡ first → row.part.to.port ≡ port → destination_key row ≡ key n first (port_text port)
key_is row n first port one two three =
    ap (λ (m : ℕ). key m row.part.to.first.name (port_text row.part.to.port)) one
    ∙ (ap (λ (xs : List ℕ). key n xs (port_text row.part.to.port)) two ∙ ap (λ (o : Option (List ℕ)). key n first (port_text o)) three)

-- a connection that leaves is found
pub leaves_key : (w : Wires) (n : ℕ) (port : List ℕ) (c : ℕ) → HasOneSource w → Leaves w n port c → place_of (destinations_of w.tables) (key n port []) ≡ Some c
leaves_key w n port c one l = ap (place_of (destinations_of w.tables)) (sym (key_is l.row n port None l.own l.first l.ends)) ∙ one c l.row l.found

absent : {X : Type 0} (o : Option X) → is_some o ≡ false → o ≡ None
absent None is = refl
absent (Some x) is = absurd (cc)

clashing : (o : Option (List ℕ)) → o ≡ None → is_some o ≡ true → ⊥
clashing None none some = cc
clashing (Some x) none some = cc

pub found_leaves : (w : Wires) (n : ℕ) (port : List ℕ) (c : ℕ) (row : PartRow Connection) → place_of (destinations_of w.tables) (key n port []) ≡ Some c → slice_get w.tables.connections c ≡ Some row →
    is_some row.part.to.port ≡ false → Leaves w n port c
found_leaves w n port c row place found plain =
    let r = found_row destination_key w.tables.connections c (key n port []) place in
    let is : row ≡ r.row = same_row w.tables.connections c c r.row row refl r.found found in
    let same : destination_key row ≡ key n port [] = ap destination_key is ∙ r.same in
    record {
      row = row;
      found = found;
      own = ap (λ (k : Key). k.owner) same;
      first = ap (λ (k : Key). k.first) same;
      ends = absent row.part.to.port plain;
    }

-- a connection that enters, and the name of what it enters
pub record Known (w : Wires) (n s : ℕ) (port : List ℕ) (d : ℕ) : Type 0 where
  pub called : List ℕ
  pub name : subcomponent_name w s ≡ Some called
  pub place : place_of (destinations_of w.tables) (key n called port) ≡ Some d
  pub sub : subcomponent_named w n called ≡ Some s
  pub row : PartRow Connection
  pub found : slice_get w.tables.connections d ≡ Some row
  pub ends : row.part.to.port ≡ Some port

pub known : (w : Wires) (n s : ℕ) (port : List ℕ) (d : ℕ) → HasOneSource w → Enters w n s port d → Known w n s port d
known w n s port d one e =
    let first = e.row.part.to.first.name in
    let r = found_row (part_key (λ (s : Subcomponent). s.name)) w.tables.subcomponents s (key n first []) e.first in
    record {
      called = first;
      name = ap (option_map name_of) r.found ∙ ap Some (ap (λ (k : Key). k.first) r.same);
      place = ap (place_of (destinations_of w.tables)) (sym (key_is e.row n first (Some port) e.own refl e.ends)) ∙ one d e.row e.found;
      sub = e.first;
      row = e.row;
      found = e.found;
      ends = e.ends;
    }

there : (o : Option (List ℕ)) (port : List ℕ) → is_some o ≡ true → port_text o ≡ port → o ≡ Some port
there None port some is = absurd (cc)
there (Some name) port some is = ap Some is

pub found_enters : (w : Wires) (n s : ℕ) (port : List ℕ) (c : ℕ) (called : List ℕ) (row : PartRow Connection) → place_of (destinations_of w.tables) (key n called port) ≡ Some c →
    slice_get w.tables.connections c ≡ Some row → is_some row.part.to.port ≡ true → subcomponent_named w n called ≡ Some s → Enters w n s port c
found_enters w n s port c called row place found dotted sub =
    let r = found_row destination_key w.tables.connections c (key n called port) place in
    let is : row ≡ r.row = same_row w.tables.connections c c r.row row refl r.found found in
    let same : destination_key row ≡ key n called port = ap destination_key is ∙ r.same in
    record {
      row = row;
      found = found;
      own = ap (λ (k : Key). k.owner) same;
      first = ap (subcomponent_named w n) (ap (λ (k : Key). k.first) same) ∙ sub;
      ends = there row.part.to.port port dotted (ap (λ (k : Key). k.second) same);
    }

-- a found connection that ends elsewhere shows that none is sought
pub no_leaves : (w : Wires) (n : ℕ) (port : List ℕ) (c d : ℕ) (row : PartRow Connection) → HasOneSource w → Leaves w n port d → place_of (destinations_of w.tables) (key n port []) ≡ Some c →
    slice_get w.tables.connections c ≡ Some row → is_some row.part.to.port ≡ true → ⊥
no_leaves w n port c d row one l place found dotted =
    let same : c ≡ d = some_is c d (sym place ∙ leaves_key w n port d one l) in
    let is : l.row ≡ row = same_row w.tables.connections c d row l.row same found l.found in
    let plain : row.part.to.port ≡ None = ap (λ (r : PartRow Connection). r.part.to.port) (sym is) ∙ l.ends in
    clashing row.part.to.port plain dotted

pub same_called : (w : Wires) (n s : ℕ) (port : List ℕ) (d : ℕ) (called : List ℕ) (k : Known w n s port d) → subcomponent_name w s ≡ Some called → k.called ≡ called
same_called w n s port d called k name = some_is k.called called (sym k.name ∙ name)

pub no_enters : (w : Wires) (n s : ℕ) (port : List ℕ) (c d : ℕ) (called : List ℕ) (row : PartRow Connection) → HasOneSource w → Enters w n s port d → subcomponent_name w s ≡ Some called →
    place_of (destinations_of w.tables) (key n called port) ≡ Some c → slice_get w.tables.connections c ≡ Some row → is_some row.part.to.port ≡ false → ⊥
no_enters w n s port c d called row one e name place found plain =
    let k = known w n s port d one e in
    let words = same_called w n s port d called k name in
    let same : c ≡ d = some_is c d (sym place ∙ (ap (λ (xs : List ℕ). place_of (destinations_of w.tables) (key n xs port)) (sym words) ∙ k.place)) in
    let is : k.row ≡ row = same_row w.tables.connections c d row k.row same found k.found in
    clashing row.part.to.port (absent row.part.to.port plain) (ap is_some (ap (λ (r : PartRow Connection). r.part.to.port) (sym is) ∙ k.ends))

pub same_sub : (w : Wires) (n s t : ℕ) (port : List ℕ) (d : ℕ) (called : List ℕ) → HasOneSource w → Enters w n s port d → subcomponent_name w s ≡ Some called → subcomponent_named w n called ≡ Some t → t ≡ s
same_sub w n s t port d called one e name sub =
    let k = known w n s port d one e in
    let words = same_called w n s port d called k name in
    some_is t s (sym sub ∙ (ap (subcomponent_named w n) (sym words) ∙ k.sub))
