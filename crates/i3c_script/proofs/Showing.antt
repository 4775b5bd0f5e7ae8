-- What `show` tells, slot by slot and record by record.
use Rattle.std.proofs.Common.{◌≡◌, ◌∙◌, ℕ, zero, suc, ◌+◌, ◌<◌, List, [], ◌∷◌, ◌++◌, drop, get_or, length, Some, ap, refl, sym, arith, append_assoc}
use Rattle.std.proofs.lemmas.List.{at_drop_more}
use Rattle.std.specs.Prelude.{Result, Ok, Err, OnOk, slice_get}
use Rattle.i3c_base.specs.declared.requests.Record.{Record}
use Rattle.i3c_base.specs.State.{State, device_at}
use Rattle.i3c_lines.specs.Keeping.{NamesKept}
use Rattle.i3c_script.specs.declared.piece.Piece.{Piece}
use Rattle.i3c_script.specs.declared.tenures.Tenure.{Tenure}
use Rattle.i3c_script.specs.Pieces.{description_pieces, descriptions_pieces, device_pieces, devices_pieces, numbered_pieces, past_pieces, pasts_pieces, target_pieces, targets_pieces, tenure_pieces}
use Rattle.i3c_script.specs.Tenures.{began_at, records_at}

after : (n : ℕ) → n + 1 ≡ suc n
after n = omega arith

-- one more slot
pub devices_more : {N : Type 0} (kept : NamesKept N) (st : State) (names : N) (slot : ℕ) → devices_pieces kept st names (slot + 1) ≡ devices_pieces kept st names slot ++ device_pieces (kept.in_slot names slot) (device_at st slot)
unfolding devices_pieces
devices_more kept st names slot = ap (devices_pieces kept st names) (after slot)

pub devices_none : {N : Type 0} (kept : NamesKept N) (st : State) (names : N) → devices_pieces kept st names 0 ≡ []
unfolding devices_pieces
devices_none kept st names = refl

-- the same of `show all`
pub descriptions_more : {N : Type 0} (kept : NamesKept N) (st : State) (names : N) (slot : ℕ)
    → descriptions_pieces kept st names (slot + 1) ≡ descriptions_pieces kept st names slot ++ description_pieces (kept.in_slot names slot) (device_at st slot)
unfolding descriptions_pieces
descriptions_more kept st names slot = ap (descriptions_pieces kept st names) (after slot)

pub descriptions_none : {N : Type 0} (kept : NamesKept N) (st : State) (names : N) → descriptions_pieces kept st names 0 ≡ []
unfolding descriptions_pieces
descriptions_none kept st names = refl

-- an element by its index
pub at_get : {X : Type 0} (xs : List X) (k : ℕ) (x : X) → k < length xs → x ≡ get_or xs k x → slice_get xs k ≡ Some x
at_get [] k x l e = absurd (omega arith)
at_get (y ∷ ys) zero x l e = ap Some (sym e)
at_get (y ∷ ys) (suc k) x l e = at_get ys k x (omega arith) e

-- one more time of a controller
pub past_more : (ended : List Tenure) (k : ℕ) (tenure : Tenure) → slice_get ended k ≡ Some tenure → pasts_pieces ended (k + 1) ≡ pasts_pieces ended k ++ tenure_pieces tenure.slot (began_at ended k) tenure.records
unfolding pasts_pieces
past_more ended k tenure is = ap (pasts_pieces ended) (after k) ∙ ap (λ o. pasts_pieces ended k ++ past_pieces (began_at ended k) o) is

pub past_none : (ended : List Tenure) → pasts_pieces ended 0 ≡ []
unfolding pasts_pieces
past_none ended = refl

pub began_next : (ended : List Tenure) (k : ℕ) (tenure : Tenure) → slice_get ended k ≡ Some tenure → tenure.records ≡ began_at ended (k + 1)
began_next ended k tenure is = sym (ap (began_at ended) (after k) ∙ ap records_at is)

-- one more static address
pub targets_more : {N : Type 0} (kept : NamesKept N) (names : N) (a : ℕ) → targets_pieces kept names (a + 1) ≡ targets_pieces kept names a ++ target_pieces (kept.at_address names a) a
unfolding targets_pieces
targets_more kept names a = ap (targets_pieces kept names) (after a)

pub targets_none : {N : Type 0} (kept : NamesKept N) (names : N) → targets_pieces kept names 0 ≡ []
unfolding targets_pieces
targets_none kept names = refl

-- a text that is printed behind another one in parts, and one more part
pub printed_more : (before now new parts part : List ℕ) → now ≡ before ++ parts → new ≡ now ++ part → new ≡ before ++ (parts ++ part)
printed_more before now new parts part e f = f ∙ ap (λ l. l ++ part) e ∙ append_assoc before parts part

-- the next record
pub numbered_more : (records : List Record) (number index : ℕ) (r : Record) → index < length records → get_or records index r ≡ r
    → numbered_pieces number (drop index records) ≡ Piece.Entry number r ∷ numbered_pieces (number + 1) (drop (index + 1) records)
numbered_more records number index r within is =
    at_drop_more (numbered_pieces number) records index r within
    ∙ ap (λ one. Piece.Entry number one ∷ numbered_pieces (suc number) (drop (index + 1) records)) is
    ∙ ap (λ n. Piece.Entry number r ∷ numbered_pieces n (drop (index + 1) records)) (sym (after number))

-- two parts are printed, and then what is told of the rest holds of the whole
pub told_behind : {E : Type 0} (r : Result (Unit {0}) E) (before one two new a b rest : List ℕ) → one ≡ before ++ a → two ≡ one ++ b → OnOk r (new ≡ two ++ rest) → OnOk r (new ≡ before ++ (a ++ (b ++ rest)))
told_behind (Ok done) before one two new a b rest e f g = printed_more before one new a (b ++ rest) e (printed_more one two new b rest f g)
told_behind (Err fault) before one two new a b rest e f g = g

-- the same of one part
pub told_on : {E : Type 0} (r : Result (Unit {0}) E) (before one new a rest : List ℕ) → one ≡ before ++ a → OnOk r (new ≡ one ++ rest) → OnOk r (new ≡ before ++ (a ++ rest))
told_on (Ok done) before one new a rest e f = printed_more before one new a rest e f
told_on (Err fault) before one new a rest e f = f

-- the same of two parts that are printed at once
pub told_both : {E : Type 0} (r : Result (Unit {0}) E) (before two new a b rest : List ℕ) → two ≡ before ++ (a ++ b) → OnOk r (new ≡ two ++ rest) → OnOk r (new ≡ before ++ (a ++ (b ++ rest)))
told_both r before two new a b rest e f = told_behind r before (before ++ a) two new a b rest refl (e ∙ sym (append_assoc before a b)) f
