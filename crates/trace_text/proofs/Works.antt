-- What is left is listed from its end.
use Rattle.std.proofs.Common.{◌≡◌, ℕ, zero, suc, ◌+◌, ◌<◌, ◌≤◌, List, [], ◌∷◌, ◌++◌, map, drop, length, Some, None, Result, Ok, Err, OnOk, refl, sym, ap, ◌∙◌, append_assoc, arith}
use Rattle.std.specs.Prelude.{false, nat_lt}
use Rattle.std.proofs.lemmas.Option.{slice_get_past}
use Rattle.std.proofs.lemmas.Bool.Decides.{nat_tests}
use Rattle.std.specs.List.{slice_get}
use Rattle.std.specs.Option.{option_map_or}
use Rattle.arch_model.specs.declared.type_row.TypeRow.{TypeRow}
use Rattle.trace_text.specs.declared.piece.Piece.{Piece}
use Rattle.trace_text.specs.declared.piece.Piece.TheVariants as piece
use Rattle.trace_text.specs.declared.work.Work.{Work}
use Rattle.trace_text.specs.declared.work.Work.TheVariants as work
use Rattle.trace_text.specs.Pieces.{ArePiecesOf, comma_pieces, further, members, pieces_at, pieces_of_row, repeated, separated}
use Rattle.trace_text.specs.Working.{all_left, behind_at, behind_row, closing, members_pieces, pieces_left}

pub on-ok : {X E : Type 0} {A B : Type 0} (r : Result X E) → OnOk r A → (A → B) → OnOk r B
on-ok (Ok x) a then = then a
on-ok (Err e) a then = tt

pub left-push : (types : List TypeRow) (all : List (List Piece)) (left : List Work) (last : Work) (end : List Piece) →
    all_left types all (left ++ last ∷ []) end ≡ pieces_left types all last ++ all_left types all left end
left-push types all [] last end = refl
left-push types all (w ∷ left) last end = left-push types all left last (pieces_left types all w ++ end)

-- two are left, the last of which comes first
pub left-two : (types : List TypeRow) (all : List (List Piece)) (left one two : List Work) (behind whole : Work) →
    one ≡ left ++ behind ∷ [] → two ≡ one ++ whole ∷ [] →
    all_left types all two [] ≡ pieces_left types all whole ++ (pieces_left types all behind ++ all_left types all left [])
left-two types all left one two behind whole e f =
    ap (λ w. all_left types all w []) f ∙ (left-push types all one whole []
    ∙ ap (λ p. pieces_left types all whole ++ p) (ap (λ w. all_left types all w []) e ∙ left-push types all left behind []))

pub left-one : (types : List TypeRow) (all : List (List Piece)) (left one : List Work) (behind : Work) →
    one ≡ left ++ behind ∷ [] → all_left types all one [] ≡ pieces_left types all behind ++ all_left types all left []
left-one types all left one behind e = ap (λ w. all_left types all w []) e ∙ left-push types all left behind []

pub drop-at : {X : Type 0} (xs : List X) (k : ℕ) (x : X) → slice_get xs k ≡ Some x → drop k xs ≡ x ∷ drop (k + 1) xs
drop-at [] k x e = absurd (cc)
drop-at (y ∷ xs) zero x e = let same : y ≡ x = cc in ap (λ z. z ∷ xs) same
drop-at (y ∷ xs) (suc k) x e =
    let next : k + 1 ≡ suc k = omega arith in
    let also : suc k + 1 ≡ suc (suc k) = omega arith in
    drop-at xs k x e ∙ (ap (λ n. x ∷ drop n xs) next ∙ ap (λ n. x ∷ drop n (y ∷ xs)) (sym also))

pub drop-none : {X : Type 0} (xs : List X) (k : ℕ) → slice_get xs k ≡ None → drop k xs ≡ []
drop-none [] zero e = refl
drop-none [] (suc k) e = refl
drop-none (y ∷ xs) zero e = absurd (cc)
drop-none (y ∷ xs) (suc k) e = drop-none xs k e

behind-is : (types : List TypeRow) (all : List (List Piece)) (row : TypeRow) (place done : ℕ) → slice_get types place ≡ Some row →
    pieces_left types all (work.Behind place done) ≡ behind_row all done row
behind-is types all row place done here = ap (behind_at all done) here

separated-first : (all : List (List Piece)) (xs : List ℕ) (part : ℕ) → slice_get xs 0 ≡ Some part →
    separated comma_pieces (map (pieces_at all) xs) ≡ pieces_at all part ++ further comma_pieces (map (pieces_at all) (drop 1 xs))
separated-first all [] part e = absurd (cc)
separated-first all (x ∷ xs) part e =
    let same : x ≡ part = cc in ap (λ p. pieces_at all p ++ further comma_pieces (map (pieces_at all) xs)) same

separated-none : (all : List (List Piece)) (xs : List ℕ) → slice_get xs 0 ≡ None →
    separated comma_pieces (map (pieces_at all) xs) ≡ further comma_pieces (map (pieces_at all) (drop 1 xs))
separated-none all [] e = refl
separated-none all (x ∷ xs) e = absurd (cc)

pub begin-some : (types : List TypeRow) (all : List (List Piece)) (row : TypeRow) (place part : ℕ) (left one two : List Work) →
    slice_get types place ≡ Some row → one ≡ left ++ work.Behind place 1 ∷ [] → two ≡ one ++ work.Whole part ∷ [] →
    slice_get (members row.form row.parts) 0 ≡ Some part →
    all_left types all two [] ≡ members_pieces all row ++ all_left types all left []
begin-some types all row place part left one two here e f first =
    let xs = members row.form row.parts in
    let close : List Piece = piece.Byte (closing row.form) ∷ [] in
    let rest = further comma_pieces (map (pieces_at all) (drop 1 xs)) in
    left-two types all left one two (work.Behind place 1) (work.Whole part) e f
    ∙ (ap (λ p. pieces_at all part ++ (p ++ all_left types all left [])) (behind-is types all row place 1 here)
    ∙ (sym (append_assoc (pieces_at all part) (rest ++ close) (all_left types all left []))
    ∙ ap (λ p. p ++ all_left types all left []) (sym (append_assoc (pieces_at all part) rest close) ∙ ap (λ p. p ++ close) (sym (separated-first all xs part first)))))

pub begin-none : (types : List TypeRow) (all : List (List Piece)) (row : TypeRow) (place : ℕ) (left one : List Work) →
    slice_get types place ≡ Some row → one ≡ left ++ work.Behind place 1 ∷ [] → slice_get (members row.form row.parts) 0 ≡ None →
    all_left types all one [] ≡ members_pieces all row ++ all_left types all left []
begin-none types all row place left one here e none =
    let close : List Piece = piece.Byte (closing row.form) ∷ [] in
    left-one types all left one (work.Behind place 1) e
    ∙ ap (λ p. p ++ all_left types all left []) (behind-is types all row place 1 here
    ∙ ap (λ p. p ++ close) (sym (separated-none all (members row.form row.parts) none)))

pub behind-some : (types : List TypeRow) (all : List (List Piece)) (row : TypeRow) (place part done : ℕ) (left one two : List Work) (pieces comma more : List Piece) →
    slice_get types place ≡ Some row → one ≡ left ++ work.Behind place (done + 1) ∷ [] → two ≡ one ++ work.Whole part ∷ [] →
    slice_get (members row.form row.parts) done ≡ Some part → comma ≡ pieces ++ piece.Byte 44 ∷ [] → more ≡ comma ++ piece.Byte 32 ∷ [] →
    more ++ all_left types all two [] ≡ pieces ++ (pieces_left types all (work.Behind place done) ++ all_left types all left [])
behind-some types all row place part done left one two pieces comma more here e f next g h =
    let xs = members row.form row.parts in
    let close : List Piece = piece.Byte (closing row.form) ∷ [] in
    let rest = further comma_pieces (map (pieces_at all) (drop (done + 1) xs)) in
    let two_left : all_left types all two [] ≡ pieces_at all part ++ ((rest ++ close) ++ all_left types all left []) = (left-two types all left one two (work.Behind place (done + 1)) (work.Whole part) e f ∙ ap (λ p. pieces_at all part ++ (p ++ all_left types all left [])) (behind-is types all row place (done + 1) here)) in
    let whole : behind_row all done row ≡ (comma_pieces ++ (pieces_at all part ++ rest)) ++ close = (ap (λ l. further comma_pieces (map (pieces_at all) l) ++ close) (drop-at xs done part next)) in
    let text : more ≡ pieces ++ comma_pieces = (h ∙ (ap (λ p. p ++ piece.Byte 32 ∷ []) g ∙ append_assoc pieces (piece.Byte 44 ∷ []) (piece.Byte 32 ∷ []))) in
    let order : comma_pieces ++ (pieces_at all part ++ ((rest ++ close) ++ all_left types all left [])) ≡ ((comma_pieces ++ (pieces_at all part ++ rest)) ++ close) ++ all_left types all left [] = simp append_assoc in
    ap (λ p. p ++ all_left types all two []) text
    ∙ (ap (λ p. (pieces ++ comma_pieces) ++ p) two_left
    ∙ (append_assoc pieces comma_pieces (pieces_at all part ++ ((rest ++ close) ++ all_left types all left []))
    ∙ ap (λ p. pieces ++ p) (order ∙ ap (λ p. p ++ all_left types all left []) (sym (behind-is types all row place done here ∙ whole)))))

pub behind-none : (all : List (List Piece)) (row : TypeRow) (done : ℕ) → slice_get (members row.form row.parts) done ≡ None →
    behind_row all done row ≡ piece.Byte (closing row.form) ∷ []
behind-none all row done none =
    ap (λ l. further comma_pieces (map (pieces_at all) l) ++ piece.Byte (closing row.form) ∷ []) (drop-none (members row.form row.parts) done none)

pub behind-close : (types : List TypeRow) (all : List (List Piece)) (row : TypeRow) (place done : ℕ) (left : List Work) (pieces more : List Piece) (byte : ℕ) → byte ≡ closing row.form →
    slice_get types place ≡ Some row → slice_get (members row.form row.parts) done ≡ None → more ≡ pieces ++ piece.Byte byte ∷ [] →
    more ++ all_left types all left [] ≡ pieces ++ (pieces_left types all (work.Behind place done) ++ all_left types all left [])
behind-close types all row place done left pieces more byte is here none e =
    ap (λ p. p ++ all_left types all left []) e
    ∙ (append_assoc pieces (piece.Byte byte ∷ []) (all_left types all left [])
    ∙ ap (λ p. pieces ++ (p ++ all_left types all left [])) (ap (λ b. piece.Byte b ∷ []) is ∙ sym (behind-is types all row place done here ∙ behind-none all row done none)))

-- a list has a member where another one of that length has
pub get-none : {X Y : Type 0} (xs : List X) (ys : List Y) (k : ℕ) → length ys ≡ length xs → slice_get xs k ≡ None → slice_get ys k ≡ None
get-none [] [] k same none = refl
get-none [] (y ∷ ys) k same none = absurd (omega (arith, same))
get-none (x ∷ xs) [] k same none = absurd (omega (arith, same))
get-none (x ∷ xs) (y ∷ ys) zero same none = absurd (cc)
get-none (x ∷ xs) (y ∷ ys) (suc k) same none = get-none xs ys k (omega (arith, same)) none

pub whole-some : (types : List TypeRow) (all : List (List Piece)) (place : ℕ) (row : TypeRow) → ArePiecesOf types all → slice_get types place ≡ Some row →
    pieces_at all place ≡ pieces_of_row all place row
whole-some types all place row are here = ap (λ o. option_map_or (λ (p : List Piece). p) o (piece.Byte 42 ∷ [])) (are.each place row here)

pub whole-none : (types : List TypeRow) (all : List (List Piece)) (place : ℕ) → ArePiecesOf types all → slice_get types place ≡ None →
    pieces_at all place ≡ piece.Byte 42 ∷ []
whole-none types all place are here = ap (λ o. option_map_or (λ (p : List Piece). p) o (piece.Byte 42 ∷ [])) (get-none types all place are.many here)

pub repeated-within : {X : Type 0} (n k : ℕ) (x : X) → k < n → slice_get (repeated n x) k ≡ Some x
repeated-within zero k x h = absurd (omega (arith, h))
repeated-within (suc n) zero x h = refl
repeated-within (suc n) (suc k) x h = repeated-within n k x (omega (arith, h))

pub repeated-beyond : {X : Type 0} (n k : ℕ) (x : X) → n ≤ k → slice_get (repeated n x) k ≡ None
repeated-beyond zero k x h = refl
repeated-beyond (suc n) zero x h = absurd (omega (arith, h))
repeated-beyond (suc n) (suc k) x h = repeated-beyond n k x (omega (arith, h))

nothing-left : (types : List TypeRow) (all : List (List Piece)) (left : List Work) (pieces more : List Piece) (w : Work) → pieces_left types all w ≡ piece.Byte 42 ∷ [] →
    more ≡ pieces ++ piece.Byte 42 ∷ [] → more ++ all_left types all left [] ≡ pieces ++ (pieces_left types all w ++ all_left types all left [])
nothing-left types all left pieces more w is e =
    ap (λ p. p ++ all_left types all left []) e
    ∙ (append_assoc pieces (piece.Byte 42 ∷ []) (all_left types all left [])
    ∙ ap (λ p. pieces ++ (p ++ all_left types all left [])) (sym is))

-- where no type is, there is no value
pub whole-nothing : (types : List TypeRow) (all : List (List Piece)) (place : ℕ) (left : List Work) (pieces more : List Piece) (w : Work) → w ≡ work.Whole place →
    length types ≤ place → ArePiecesOf types all → more ≡ pieces ++ piece.Byte 42 ∷ [] →
    more ++ all_left types all left [] ≡ pieces ++ (pieces_left types all w ++ all_left types all left [])
whole-nothing types all place left pieces more w is past are e =
    nothing-left types all left pieces more w (ap (pieces_left types all) is ∙ whole-none types all place are (slice_get_past types place past)) e

pub behind-nothing : (types : List TypeRow) (all : List (List Piece)) (place done : ℕ) (left : List Work) (pieces more : List Piece) (w : Work) → w ≡ work.Behind place done →
    length types ≤ place → more ≡ pieces ++ piece.Byte 42 ∷ [] →
    more ++ all_left types all left [] ≡ pieces ++ (pieces_left types all w ++ all_left types all left [])
behind-nothing types all place done left pieces more w is past e =
    nothing-left types all left pieces more w (ap (pieces_left types all) is ∙ ap (behind_at all done) (slice_get_past types place past)) e

pub not-within : (place many : ℕ) → false ≡ nat_lt place many → many ≤ place
not-within place many e = grind (arith, nat_tests)
