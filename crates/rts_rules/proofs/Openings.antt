-- Lists that are made number by number.
use Rattle.std.proofs.Common.{◌≡◌, ◌≤◌, append-nil, ℕ, zero, suc, ◌+◌, ◌<◌, ◌==◌, ◌&&◌, Bool, true, false, List, [], ◌∷◌, ◌++◌, length, drop, get_or, Option, Some, None, IsSomeAnd, slice_get, refl, ap, sym, ◌∙◌, arith, add-one, cond, map, ℤ, pos, append_assoc}
use Rattle.std.proofs.lemmas.List.{drop_all}
use Rattle.arch_model.specs.declared.parts.ArchParts.{ArchParts}
use Rattle.arch_model.specs.declared.pd.Pd.{Pd}
use Rattle.std.specs.Option.{option_map_or}
use Rattle.std.proofs.lemmas.Option.{slice_get_read}
use Rattle.hw_types.specs.declared.field_cell.FieldCell.{FieldCell}
use Rattle.arch_model.specs.declared.type_row.TypeRow.{TypeRow}
use Rattle.arch_model.specs.Values.{zero_value, zero_of}
use Rattle.arch_model.specs.declared.port.Port.{Port}
use Rattle.arch_model.specs.declared.link.Link.{Link}
use Rattle.arch_model.specs.declared.id.PdId.{PdId}
use Rattle.arch_model.specs.declared.id.PortId.{PortId}
use Rattle.arch_model.specs.declared.usage.Usage.{Usage}
use Rattle.arch_model.specs.Usage.{usage_of, ports_from}
use Rattle.rts_rules.specs.declared.slot.Slot.{Slot}
use Rattle.rts_rules.specs.declared.thread.Thread.{Thread}
use Rattle.rts_rules.specs.Queue.{Queue}
use Rattle.rts_rules.specs.Services.{opening_slot, opening_thread, opening_queue, slots_from, threads_from, queues_from, start_of, IsStateOf}

-- a list that grows by one at its end, where what is left gives one first
pub grown : {X : Type 0} (made rest more whole : List X) (x : X) → made ++ rest ≡ whole → rest ≡ x ∷ more → (made ++ x ∷ []) ++ more ≡ whole
grown made rest more whole x is first = append_assoc made (x ∷ []) more ∙ ap (λ xs. made ++ xs) (sym first) ∙ is

pub same : {X : Type 0} (made rest more whole : List X) → made ++ rest ≡ whole → rest ≡ more → made ++ more ≡ whole
same made rest more whole is first = ap (λ xs. made ++ xs) (sym first) ∙ is

drop-some : {X : Type 0} (xs : List X) (n : ℕ) (x : X) → slice_get xs n ≡ Some x → drop n xs ≡ x ∷ drop (suc n) xs
drop-some [] n x here = absurd (cc)
drop-some (y ∷ ys) zero x here = let e : y ≡ x = cc in rw e refl
drop-some (y ∷ ys) (suc n) x here = drop-some ys n x here

-- a port that passes, or does not
pub ports-next : (links : List Link) (who : PdId) (passes : Usage → Bool) (ports : List Port) (number : ℕ) (b : Bool) →
    IsSomeAnd (slice_get ports number) (λ port. b ≡ ((port.owner.0 == who.0) && passes (usage_of links (record { 0 = number }) port))) →
    ports_from number links who passes (drop number ports)
    ≡ cond b (record { 0 = number } ∷ ports_from (number + 1) links who passes (drop (number + 1) ports)) (ports_from (number + 1) links who passes (drop (number + 1) ports))
ports-next links who passes ports number b is = at (slice_get ports number) refl is where
  at : (o : Option Port) → slice_get ports number ≡ o → IsSomeAnd o (λ port. b ≡ ((port.owner.0 == who.0) && passes (usage_of links (record { 0 = number }) port))) →
      ports_from number links who passes (drop number ports)
      ≡ cond b (record { 0 = number } ∷ ports_from (number + 1) links who passes (drop (number + 1) ports)) (ports_from (number + 1) links who passes (drop (number + 1) ports))
  at None here is = absurd is
  at (Some port) here is = rw (drop-some ports number port here, ← is, add-one) refl

pub ports-grow : (links : List Link) (who : PdId) (passes : Usage → Bool) (ports : List Port) (number : ℕ) (b : Bool) (made new whole : List PortId) →
    made ++ ports_from number links who passes (drop number ports) ≡ whole →
    IsSomeAnd (slice_get ports number) (λ port. b ≡ ((port.owner.0 == who.0) && passes (usage_of links (record { 0 = number }) port))) →
    b ≡ true → new ≡ made ++ record { 0 = number } ∷ [] → new ++ ports_from (number + 1) links who passes (drop (number + 1) ports) ≡ whole
ports-grow links who passes ports number b made new whole so_far is holds pushed =
    let rest = ports_from (number + 1) links who passes (drop (number + 1) ports) in
    let id : PortId = record { 0 = number } in
    ap (λ (xs : List PortId). xs ++ rest) pushed
    ∙ grown made (ports_from number links who passes (drop number ports)) rest whole id so_far
    (ports-next links who passes ports number b is ∙ ap (λ t. cond t (id ∷ rest) rest) holds)

pub ports-stay : (links : List Link) (who : PdId) (passes : Usage → Bool) (ports : List Port) (number : ℕ) (b : Bool) (made whole : List PortId) →
    made ++ ports_from number links who passes (drop number ports) ≡ whole →
    IsSomeAnd (slice_get ports number) (λ port. b ≡ ((port.owner.0 == who.0) && passes (usage_of links (record { 0 = number }) port))) →
    b ≡ false → made ++ ports_from (number + 1) links who passes (drop (number + 1) ports) ≡ whole
ports-stay links who passes ports number b made whole so_far is fails =
    let rest = ports_from (number + 1) links who passes (drop (number + 1) ports) in
    let id : PortId = record { 0 = number } in
    same made (ports_from number links who passes (drop number ports)) rest whole so_far
    (ports-next links who passes ports number b is ∙ ap (λ t. cond t (id ∷ rest) rest) fails)

pub slots-next : (arch : ArchParts) (who : PdId) (ports : List Port) (number : ℕ) (b : Bool) →
    IsSomeAnd (slice_get ports number) (λ port. b ≡ (port.owner.0 == who.0)) → b ≡ false →
    slots_from number arch who (drop number ports) ≡ slots_from (number + 1) arch who (drop (number + 1) ports)
slots-next arch who ports number b is fails = at (slice_get ports number) refl is where
  at : (o : Option Port) → slice_get ports number ≡ o → IsSomeAnd o (λ port. b ≡ (port.owner.0 == who.0)) →
      slots_from number arch who (drop number ports) ≡ slots_from (number + 1) arch who (drop (number + 1) ports)
  at None here is = absurd is
  at (Some port) here is = rw (drop-some ports number port here, ← is, fails, add-one) refl

pub slots-more : (arch : ArchParts) (who : PdId) (ports : List Port) (number : ℕ) (b : Bool) (slot : Slot) →
    IsSomeAnd (slice_get ports number) (λ port. b ≡ (port.owner.0 == who.0)) → b ≡ true →
    IsSomeAnd (slice_get ports number) (λ port. slot ≡ opening_slot arch (record { 0 = number }) port) →
    slots_from number arch who (drop number ports) ≡ slot ∷ slots_from (number + 1) arch who (drop (number + 1) ports)
slots-more arch who ports number b slot is passes made = at (slice_get ports number) refl is made where
  at : (o : Option Port) → slice_get ports number ≡ o → IsSomeAnd o (λ port. b ≡ (port.owner.0 == who.0)) →
      IsSomeAnd o (λ port. slot ≡ opening_slot arch (record { 0 = number }) port) →
      slots_from number arch who (drop number ports) ≡ slot ∷ slots_from (number + 1) arch who (drop (number + 1) ports)
  at None here is made = absurd is
  at (Some port) here is made = rw (drop-some ports number port here, ← is, passes, add-one, made) refl

pub threads-next : (arch : ArchParts) (pds : List Pd) (number : ℕ) (thread : Thread) → number < length pds →
    thread ≡ opening_thread arch (record { 0 = number }) →
    threads_from number arch (drop number pds) ≡ thread ∷ threads_from (number + 1) arch (drop (number + 1) pds)
threads-next arch pds number thread inside is =
    go pds number inside ∙ ap (λ (t : Thread). t ∷ threads_from (number + 1) arch (drop (suc number) pds)) (sym is)
    ∙ ap (λ n. thread ∷ threads_from (number + 1) arch (drop n pds)) (sym (add-one number)) where
      go : (xs : List Pd) (n : ℕ) → n < length xs → threads_from number arch (drop n xs)
          ≡ opening_thread arch (record { 0 = number }) ∷ threads_from (number + 1) arch (drop (suc n) xs)
      go [] n within = absurd (omega arith)
      go (x ∷ xs) zero within = refl
      go (x ∷ xs) (suc n) within = go xs n (omega arith)

pub queues-next : (arch : ArchParts) (ports : List Port) (number : ℕ) (queue : Queue) →
    IsSomeAnd (slice_get ports number) (λ port. queue ≡ opening_queue arch (record { 0 = number }) port) →
    queues_from number arch (drop number ports) ≡ queue ∷ queues_from (number + 1) arch (drop (number + 1) ports)
queues-next arch ports number queue made = at (slice_get ports number) refl made where
  at : (o : Option Port) → slice_get ports number ≡ o → IsSomeAnd o (λ port. queue ≡ opening_queue arch (record { 0 = number }) port) →
      queues_from number arch (drop number ports) ≡ queue ∷ queues_from (number + 1) arch (drop (number + 1) ports)
  at None here made = absurd made
  at (Some port) here made = rw (drop-some ports number port here, made, add-one) refl

pub length-threads : (number : ℕ) (arch : ArchParts) (pds : List Pd) → length (threads_from number arch pds) ≡ length pds
length-threads number arch [] = refl
length-threads number arch (pd ∷ pds) = ap suc (length-threads (number + 1) arch pds)

length-queues : (number : ℕ) (arch : ArchParts) (ports : List Port) → length (queues_from number arch ports) ≡ length ports
length-queues number arch [] = refl
length-queues number arch (port ∷ ports) = ap suc (length-queues (number + 1) arch ports)

-- the zeros of what is left
pub zeros-next : (cells : List FieldCell) (place : ℕ) (zero new whole : List ℤ) → zero ++ map (λ (cell : FieldCell). pos 0) (drop place cells) ≡ whole →
    place < length cells → new ≡ zero ++ pos 0 ∷ [] → new ++ map (λ (cell : FieldCell). pos 0) (drop (place + 1) cells) ≡ whole
zeros-next cells place so_far new whole is inside pushed =
    ap (λ (xs : List ℤ). xs ++ map (λ (cell : FieldCell). pos 0) (drop (place + 1) cells)) pushed
    ∙ grown so_far (map (λ (cell : FieldCell). pos 0) (drop place cells)) (map (λ (cell : FieldCell). pos 0) (drop (place + 1) cells)) whole (pos 0) is
    (go cells place inside ∙ ap (λ n. pos 0 ∷ map (λ (cell : FieldCell). pos 0) (drop n cells)) (sym (add-one place))) where
      go : (cells : List FieldCell) (place : ℕ) → place < length cells →
          map (λ (cell : FieldCell). pos 0) (drop place cells) ≡ pos 0 ∷ map (λ (cell : FieldCell). pos 0) (drop (suc place) cells)
      go [] place inside = absurd (omega arith)
      go (cell ∷ cells) zero inside = refl
      go (cell ∷ cells) (suc place) inside = go cells place (omega arith)

zeros-end : (cells : List FieldCell) (place : ℕ) (zero : List ℤ) → zero ++ map (λ (cell : FieldCell). pos 0) (drop place cells) ≡ map (λ (cell : FieldCell). pos 0) cells →
    length cells ≤ place → zero ≡ map (λ (cell : FieldCell). pos 0) cells
zeros-end cells place so_far is past =
    sym (append-nil so_far) ∙ ap (λ (rest : List FieldCell). so_far ++ map (λ (cell : FieldCell). pos 0) rest) (sym (drop_all place cells past)) ∙ is

pub zero-made : (arch : ArchParts) (port : Port) (row : TypeRow) (cells : List FieldCell) (place : ℕ) (zero : List ℤ) →
    port.ty < length arch.types → row ≡ get_or arch.types port.ty row → cells ≡ row.layout.scalars →
    zero ++ map (λ (cell : FieldCell). pos 0) (drop place cells) ≡ map (λ (cell : FieldCell). pos 0) cells → length cells ≤ place →
    zero ≡ zero_of arch port
zero-made arch port row cells place so_far inside here is made past =
    let at : slice_get arch.types port.ty ≡ Some row = slice_get_read arch.types (length arch.types) port.ty row refl inside here in
    zeros-end cells place so_far made past ∙ ap (map (λ (cell : FieldCell). pos 0)) is
    ∙ sym (ap (λ (o : Option TypeRow). option_map_or (λ (r : TypeRow). zero_value r.layout) o []) at)

pub slots-grow : (arch : ArchParts) (who : PdId) (ports : List Port) (number : ℕ) (b : Bool) (slot : Slot) (made new whole : List Slot) →
    made ++ slots_from number arch who (drop number ports) ≡ whole →
    IsSomeAnd (slice_get ports number) (λ port. b ≡ (port.owner.0 == who.0)) → b ≡ true →
    IsSomeAnd (slice_get ports number) (λ port. slot ≡ opening_slot arch (record { 0 = number }) port) → new ≡ made ++ slot ∷ [] →
    new ++ slots_from (number + 1) arch who (drop (number + 1) ports) ≡ whole
slots-grow arch who ports number b slot made new whole so_far is holds opened pushed =
    ap (λ (xs : List Slot). xs ++ slots_from (number + 1) arch who (drop (number + 1) ports)) pushed
    ∙ grown made (slots_from number arch who (drop number ports)) (slots_from (number + 1) arch who (drop (number + 1) ports)) whole slot so_far
    (slots-more arch who ports number b slot is holds opened)

pub slots-stay : (arch : ArchParts) (who : PdId) (ports : List Port) (number : ℕ) (b : Bool) (made whole : List Slot) →
    made ++ slots_from number arch who (drop number ports) ≡ whole →
    IsSomeAnd (slice_get ports number) (λ port. b ≡ (port.owner.0 == who.0)) → b ≡ false →
    made ++ slots_from (number + 1) arch who (drop (number + 1) ports) ≡ whole
slots-stay arch who ports number b made whole so_far is fails =
    same made (slots_from number arch who (drop number ports)) (slots_from (number + 1) arch who (drop (number + 1) ports)) whole so_far
    (slots-next arch who ports number b is fails)

pub threads-grow : (arch : ArchParts) (pds : List Pd) (number : ℕ) (thread : Thread) (made new whole : List Thread) →
    made ++ threads_from number arch (drop number pds) ≡ whole → number < length pds → thread ≡ opening_thread arch (record { 0 = number }) →
    new ≡ made ++ thread ∷ [] → new ++ threads_from (number + 1) arch (drop (number + 1) pds) ≡ whole
threads-grow arch pds number thread made new whole so_far inside is pushed =
    ap (λ (xs : List Thread). xs ++ threads_from (number + 1) arch (drop (number + 1) pds)) pushed
    ∙ grown made (threads_from number arch (drop number pds)) (threads_from (number + 1) arch (drop (number + 1) pds)) whole thread so_far
    (threads-next arch pds number thread inside is)

pub queues-grow : (arch : ArchParts) (ports : List Port) (number : ℕ) (queue : Queue) (made new whole : List Queue) →
    made ++ queues_from number arch (drop number ports) ≡ whole →
    IsSomeAnd (slice_get ports number) (λ port. queue ≡ opening_queue arch (record { 0 = number }) port) →
    new ≡ made ++ queue ∷ [] → new ++ queues_from (number + 1) arch (drop (number + 1) ports) ≡ whole
queues-grow arch ports number queue made new whole so_far is pushed =
    ap (λ (xs : List Queue). xs ++ queues_from (number + 1) arch (drop (number + 1) ports)) pushed
    ∙ grown made (queues_from number arch (drop number ports)) (queues_from (number + 1) arch (drop (number + 1) ports)) whole queue so_far
    (queues-next arch ports number queue is)

pub start-made : (arch : ArchParts) (place : ℕ) (threads : List Thread) (queues : List Queue) → threads ≡ threads_from 0 arch arch.pds →
    queues ++ queues_from place arch (drop place arch.ports) ≡ queues_from 0 arch arch.ports → length arch.ports ≤ place →
    IsStateOf arch (record { threads = threads; queues = queues })
start-made arch place threads queues made queued past =
    let all : queues ≡ queues_from 0 arch arch.ports =
    sym (append-nil queues) ∙ ap (λ (rest : List Port). queues ++ queues_from place arch rest) (sym (drop_all place arch.ports past)) ∙ queued in
    record {
      threads = ap length made ∙ length-threads 0 arch arch.pds;
      queues = ap length all ∙ length-queues 0 arch arch.ports;
    }

pub start-fits : (arch : ArchParts) → IsStateOf arch (start_of arch)
start-fits arch = record { threads = length-threads 0 arch arch.pds; queues = length-queues 0 arch arch.ports }
