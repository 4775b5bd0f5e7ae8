-- What is told of a line, note by note.
use Rattle.std.proofs.Common.{◌≡◌, ◌∙◌, ℕ, ◌+◌, List, [], ◌∷◌, ◌++◌, OnOk, Ok, Err, Result, add-one, ap, append_assoc, append-nil, inl, is_some, refl, sym}
use Rattle.i3c_base.specs.Cutting.{CutList, cut_of}
use Rattle.i3c_base.specs.State.{State, device_at}
use Rattle.i3c_lines.specs.declared.form_faults.FormFault.{FormFault}
use Rattle.i3c_lines.specs.declared.names.Names.{Names}
use Rattle.i3c_lines.specs.Faults.{IsFaultText, IsSo}
use Rattle.i3c_lines.specs.Forms.{HasNoForm}
use Rattle.i3c_runner.specs.Expecting.{name_in_slot}
use Rattle.i3c_runner.specs.Reasons.{Adds, IsFormNote, line_start, slot_note, slots_told}

-- the notes of one more slot
pub one_slot : (number : ℕ) (st : State) (names : Names) (cuts : CutList) (slot : ℕ) (old mid new : List ℕ) → mid ≡ old ++ slots_told number st names cuts slot
    → new ≡ mid ++ slot_note number (is_some (device_at st slot)) (name_in_slot names slot) (cut_of cuts slot) → new ≡ old ++ slots_told number st names cuts (slot + 1)
unfolding slots_told
one_slot number st names cuts slot old mid new before more =
    let note = slot_note number (is_some (device_at st slot)) (name_in_slot names slot) (cut_of cuts slot) in
    more ∙ ap (λ t. t ++ note) before ∙ append_assoc old (slots_told number st names cuts slot) note ∙ ap (λ n. old ++ slots_told number st names cuts n) (sym (add-one slot))

-- no slot is told yet
pub no_slot : (number : ℕ) (st : State) (names : Names) (cuts : CutList) (text : List ℕ) → text ≡ text ++ slots_told number st names cuts 0
unfolding slots_told
no_slot number st names cuts text = sym (append-nil text)

-- a text was appended, and another one behind it
behind : (old mid new one two : List ℕ) → mid ≡ old ++ one → new ≡ mid ++ two → new ≡ old ++ (one ++ two)
behind old mid new one two first then = then ∙ ap (λ t. t ++ two) first ∙ append_assoc old one two

-- the same of the result of the second
behind_ok : {E : Type 0} (result : Result (Unit {0}) E) (old mid new one two : List ℕ) → mid ≡ old ++ one → OnOk result (new ≡ mid ++ two) → OnOk result (new ≡ old ++ (one ++ two))
behind_ok (Ok done) old mid new one two first then = behind old mid new one two first then
behind_ok (Err why) old mid new one two first then = tt

-- the same of five texts
pub five_behind : {E : Type 0} (result : Result (Unit {0}) E) (old t1 t2 t3 t4 new a b c d e : List ℕ) → t1 ≡ old ++ a → t2 ≡ t1 ++ b → t3 ≡ t2 ++ c → t4 ≡ t3 ++ d → OnOk result (new ≡ t4 ++ e)
    → OnOk result (new ≡ old ++ (a ++ (b ++ (c ++ (d ++ e)))))
five_behind result old t1 t2 t3 t4 new a b c d e one two three four five =
    behind_ok result old t1 new a (b ++ (c ++ (d ++ e))) one (behind_ok result t1 t2 new b (c ++ (d ++ e)) two (behind_ok result t2 t3 new c (d ++ e) three (behind_ok result t3 t4 new d e four five)))

-- the same of six texts
pub six_behind : {E : Type 0} (result : Result (Unit {0}) E) (old t1 t2 t3 t4 t5 new a b c d e f : List ℕ) → t1 ≡ old ++ a → t2 ≡ t1 ++ b → t3 ≡ t2 ++ c → t4 ≡ t3 ++ d → t5 ≡ t4 ++ e → OnOk result (new ≡ t5 ++ f)
    → OnOk result (new ≡ old ++ (a ++ (b ++ (c ++ (d ++ (e ++ f))))))
six_behind result old t1 t2 t3 t4 t5 new a b c d e f one two three four five six =
    five_behind result old t1 t2 t3 t4 new a b c d (e ++ f) one two three four (behind_ok result t4 t5 new e f five six)

-- a fault of a line's form was told
pub form_told : {E : Type 0} (result : Result (Unit {0}) E) (number : ℕ) (line : List ℕ) (fault : FormFault) (old begun told new : List ℕ) → HasNoForm line → IsSo line fault → begun ≡ old ++ line_start number
    → ((reason : List ℕ) × IsFaultText fault reason × (told ≡ begun ++ reason)) → OnOk result (new ≡ told ++ 10 ∷ []) → OnOk result (Adds (IsFormNote number line) old new)
form_told (Ok done) number line fault old begun told new none so begins (reason, is, tells) ends =
    let start = line_start number in (
      start ++ (reason ++ 10 ∷ []),
      inl (none, (reason, (fault, so, is), refl)),
      behind old begun new start (reason ++ 10 ∷ []) begins (behind begun told new reason (10 ∷ []) tells ends),
    )
form_told (Err why) number line fault old begun told new none so begins tells ends = tt
