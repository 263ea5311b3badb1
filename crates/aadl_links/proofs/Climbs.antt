-- Steps back along connections that lead up.
use Rattle.std.proofs.Common.{◌≡◌, ℕ, ◌≤◌, ◌<◌, Bool, true, false, List, [], ◌∷◌, ◌++◌, length, Option, Some, None, refl, sym, ap, subst, ◌∙◌, arith, if◌then◌else◌}
use Rattle.std.specs.List.{slice_get}
use Rattle.std.specs.Option.{option_and_then, is_some}
use Rattle.std.proofs.lemmas.List.{length-append}
use Rattle.aadl_tree.specs.declared.category.Category.{Category}
use Rattle.aadl_tree.specs.declared.category.Category.TheVariants as category
use Rattle.aadl_tree.specs.declared.connection.Connection.{Connection}
use Rattle.aadl_tree.specs.declared.subcomponent.Subcomponent.{Subcomponent}
use Rattle.aadl_names.specs.declared.parts.PartRow.{PartRow}
use Rattle.aadl_links.specs.declared.source.Source.{Source}
use Rattle.aadl_links.specs.Wires.{Wires, PortAt, port_at, innermost, inside_last, class_inside_row, within, end_at, subcomponent_named, is_up, holds_connections, may_send, sender, sender_row, sender_inside}
use Rattle.aadl_links.specs.Links.{Runs, RunAll, Rises, source_at}
use Rattle.aadl_links.specs.Steps.{Leaves, IsOnlyRise}
use Rattle.aadl_links.proofs.Ends.{own_end, deeper_end}
use Rattle.aadl_links.proofs.Steps.{some_is, from_inside, up_begins, up_ends, same_row}

sends_alone : (c : Category) → may_send c ≡ true → holds_connections c ≡ false
sends_alone category.Data sends = absurd (cc)
sends_alone category.Thread sends = refl
sends_alone category.Process sends = absurd (cc)
sends_alone category.System sends = absurd (cc)
sends_alone category.Device sends = refl
sends_alone category.Processor sends = absurd (cc)

none_inside : (sends holds : Bool) (row other : Option ℕ) (f : ℕ) → (sends ≡ true → holds ≡ false) → (if sends then row else None) ≡ Some f → (if holds then other else None) ≡ None
none_inside true true row other f alone is = absurd (let no = alone refl in cc)
none_inside true false row other f alone is = refl
none_inside false true row other f alone is = absurd (cc)
none_inside false false row other f alone is = refl

none_at : (w : Wires) (name : List ℕ) (s f : ℕ) (o : Option (PartRow Subcomponent)) → option_and_then (sender_inside w name s) o ≡ Some f → option_and_then (class_inside_row w s) o ≡ None
none_at w name s f None is = absurd (cc)
none_at w name s f (Some row) is = none_inside (may_send row.part.category) (holds_connections row.part.category) _ _ f (sends_alone row.part.category) is

none_within : (w : Wires) (name : List ℕ) (f : ℕ) (o : Option ℕ) → option_and_then (sender_row w name) o ≡ Some f → inside_last w o ≡ None
none_within w name f None is = absurd (cc)
none_within w name f (Some s) is = none_at w name s f (slice_get w.tables.subcomponents s) is

-- nothing runs inside of what sends
pub sends_within : (w : Wires) (at : PortAt) (f : ℕ) → sender w at ≡ Some f → within w at.path ≡ None
sends_within w at f is = none_within w at.name f (innermost at.path) is

-- a connection that ends at a port of the component itself
pub record IsExit (w : Wires) (path port : List ℕ) (c : ℕ) (from : PortAt) : Type 0 where
  pub n : ℕ
  pub stands : within w path ≡ Some n
  pub leaves : Leaves w n port c
  pub dotted : is_some leaves.row.part.from.port ≡ true
  pub begins : end_at w n path leaves.row.part.from ≡ Some from

pub exit : (w : Wires) (path port : List ℕ) (c : ℕ) (from : PortAt) → Runs w is_up c from (port_at path port) → IsExit w path port c from
exit w path port c from r =
    let e = own_end w r.row.owner r.path r.row.part.to.first.name r.row.part.to.port (port_at path port) (up_ends r.row.part r.fits) r.ends in
    record {
      n = r.row.owner;
      stands = ap (within w) (sym e.same) ∙ r.stands;
      leaves = record { row = r.row; found = r.found; own = refl; first = e.named; ends = e.plain };
      dotted = up_begins r.row.part r.fits;
      begins = ap (λ (p : List ℕ). end_at w r.row.owner p r.row.part.from) (sym e.same) ∙ r.begins;
    }

one_longer : (w : Wires) (c : ℕ) (from to : PortAt) → Runs w is_up c from to → length to.path < length from.path
one_longer w c from to r =
    let e = exit w to.path to.name c from r in
    let d = deeper_end w e.n to.path e.leaves.row.part.from.first.name e.leaves.row.part.from.port from e.dotted e.begins in
    let long = ap length d.longer in
    let more = length-append to.path (d.sub ∷ []) in
    omega (arith, long, more)

pub no_shorter : (w : Wires) (ups : List ℕ) (from to : PortAt) → RunAll w is_up ups from to → length to.path ≤ length from.path
no_shorter w [] from to run = let same = ap (λ (p : PortAt). length p.path) run in omega (arith, same)
no_shorter w (c ∷ before) from to run =
    let later = no_shorter w before from run.0 run.2 in
    let one = one_longer w c run.0 to run.1 in
    omega (arith, later, one)

-- the last step of what leads up
pub last_rise : (w : Wires) (to : PortAt) (across : ℕ) (found : Option Source) →
    ((feature : ℕ) → sender w to ≡ Some feature → length to.path ≤ 34 → found ≡ Some (source_at to feature across)) →
    ((feature : ℕ) (ups : List ℕ) (c : ℕ) (from between : PortAt) → Rises w feature ups from between → Runs w is_up c between to → found ≡ Some (source_at from feature across)) →
    IsOnlyRise w to across found
last_rise w to across found here up feature [] from r =
    subst (λ (p : PortAt). found ≡ Some (source_at p feature across)) (sym r.up)
    (here feature (ap (sender w) (sym r.up) ∙ r.sends) (subst (λ (p : PortAt). length p.path ≤ 34) r.up r.near))
last_rise w to across found here up feature (c ∷ before) from r =
    up feature before c from r.up.0 (record { sends = r.sends; near = r.near; up = r.up.2 }) r.up.1

pub only_sender : (w : Wires) (to : PortAt) (across f : ℕ) → sender w to ≡ Some f → IsOnlyRise w to across (Some (source_at to f across))
only_sender w to across f is =
    last_rise w to across (Some (source_at to f across))
    (λ feature sends near. ap (λ (k : ℕ). Some (source_at to k across)) (some_is f feature (sym is ∙ sends)))
    (λ feature ups c from between rises run. let e = exit w to.path to.name c between run in
    let none = sends_within w to f is in absurd (let both = sym none ∙ e.stands in cc))

pub only_far : (w : Wires) (to : PortAt) (across : ℕ) → 34 < length to.path → IsOnlyRise w to across None
only_far w to across far feature ups from r = absurd (let long = no_shorter w ups from to r.up in let near = r.near in omega (arith, far, long, near))

-- nothing sends, and nothing leaves
pub only_end : (w : Wires) (path port : List ℕ) (across : ℕ) → sender w (port_at path port) ≡ None → ((n c : ℕ) → within w path ≡ Some n → Leaves w n port c → ⊥) → IsOnlyRise w (port_at path port) across None
only_end w path port across silent none =
    last_rise w (port_at path port) across None
    (λ feature sends near. absurd (let both = sym silent ∙ sends in cc))
    (λ feature ups c from between rises run. let e = exit w path port c between run in absurd (none e.n c e.stands e.leaves))

-- one connection leaves, and it is this one
pub record IsOnlyExit (w : Wires) (path port : List ℕ) (n c : ℕ) : Type 0 where
  pub stands : within w path ≡ Some n
  pub row : PartRow Connection
  pub found : slice_get w.tables.connections c ≡ Some row
  pub only : (d : ℕ) → Leaves w n port d → c ≡ d

pub record IsSameExit (w : Wires) (path : List ℕ) (n : ℕ) (row : PartRow Connection) (from : PortAt) : Type 0 where
  pub dotted : is_some row.part.from.port ≡ true
  pub begins : end_at w n path row.part.from ≡ Some from

pub same_exit : (w : Wires) (path port : List ℕ) (n c d : ℕ) (from : PortAt) (one : IsOnlyExit w path port n c) → Runs w is_up d from (port_at path port) → IsSameExit w path n one.row from
same_exit w path port n c d from one run =
    let e = exit w path port d from run in
    let m : e.n ≡ n = sym (some_is n e.n (sym one.stands ∙ e.stands)) in
    let c_is = one.only d (subst (λ (k : ℕ). Leaves w k port d) m e.leaves) in
    let row_is = same_row w.tables.connections c d one.row e.leaves.row c_is one.found e.leaves.found in
    record {
      dotted = ap (λ (r : PartRow Connection). is_some r.part.from.port) (sym row_is) ∙ e.dotted;
      begins = ap (λ (k : ℕ). end_at w k path one.row.part.from) (sym m) ∙ (ap (λ (r : PartRow Connection). end_at w e.n path r.part.from) (sym row_is) ∙ e.begins);
    }

pub only_up : (w : Wires) (path port : List ℕ) (n c next : ℕ) (name : List ℕ) (across : ℕ) (found : Option Source) (one : IsOnlyExit w path port n c) → sender w (port_at path port) ≡ None →
    one.row.part.from.port ≡ Some name → subcomponent_named w n one.row.part.from.first.name ≡ Some next → IsOnlyRise w (port_at (path ++ next ∷ []) name) across found → IsOnlyRise w (port_at path port) across found
only_up w path port n c next name across found one silent dotted named rise =
    last_rise w (port_at path port) across found
    (λ feature sends near. absurd (let both = sym silent ∙ sends in cc))
    (λ feature ups d from between rises run. let e = same_exit w path port n c d between one run in
    let f = from_inside w n path one.row.part.from.first.name one.row.part.from.port between e.dotted e.begins in
    let sub : f.sub ≡ next = some_is _ _ (sym f.named ∙ named) in
    let word : f.name ≡ name = some_is _ _ (sym f.port ∙ dotted) in
    let at : between ≡ port_at (path ++ next ∷ []) name = f.stands ∙ (ap (λ (t : ℕ). port_at (path ++ t ∷ []) f.name) sub ∙ ap (port_at (path ++ next ∷ [])) word) in
    rise feature ups from (subst (λ (p : PortAt). Rises w feature ups from p) at rises))

-- it begins at no port of a subcomponent
pub only_up_own : (w : Wires) (path port : List ℕ) (n c : ℕ) (across : ℕ) (one : IsOnlyExit w path port n c) → sender w (port_at path port) ≡ None →
    one.row.part.from.port ≡ None → IsOnlyRise w (port_at path port) across None
only_up_own w path port n c across one silent own =
    last_rise w (port_at path port) across None
    (λ feature sends near. absurd (let both = sym silent ∙ sends in cc))
    (λ feature ups d from between rises run. let e = same_exit w path port n c d between one run in let dotted = e.dotted in absurd (let none = ap is_some own in cc))

pub only_up_nowhere : (w : Wires) (path port : List ℕ) (n c : ℕ) (across : ℕ) (one : IsOnlyExit w path port n c) → sender w (port_at path port) ≡ None →
    subcomponent_named w n one.row.part.from.first.name ≡ None → IsOnlyRise w (port_at path port) across None
only_up_nowhere w path port n c across one silent nowhere =
    last_rise w (port_at path port) across None
    (λ feature sends near. absurd (let both = sym silent ∙ sends in cc))
    (λ feature ups d from between rises run. let e = same_exit w path port n c d between one run in
    let f = from_inside w n path one.row.part.from.first.name one.row.part.from.port between e.dotted e.begins in absurd (let both = sym nowhere ∙ f.named in cc))
