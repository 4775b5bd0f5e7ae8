-- What is written where a call succeeds.
use Rattle.std.proofs.Common.{◌≡◌, ◌∙◌, ◌++◌, ℕ, List, Option, Result, Ok, Err, ap, append_assoc, subst}
use Rattle.std.specs.Prelude.{IfOk, OnOk, option_map}
use Rattle.serde_json.specs.Data.{Data, Members, object}
use Rattle.i3c_drive.specs.Answers.{first_added}
use Rattle.i3c_every.specs.declared.told.Told.{Told}
use Rattle.i3c_json.specs.declared.told.Told.{Told as Object}
use Rattle.i3c_json.specs.Fields.{put_field, put_pieces}
use Rattle.i3c_json.specs.Objects.{aside_field, put_asking, put_record, put_verdict, told_data}
use Rattle.i3c_lines.specs.declared.names.Name.{Name}
use Rattle.i3c_scene.specs.Replying.{Replied}
use Rattle.i3c_program.specs.Answers.{WritesLine, numbered, put_end_of, reply_in, told_object, waited_field}

pub on_ok : {T E P Q : Type 0} (result : Result T E) → (P → Q) → OnOk result P → OnOk result Q
on_ok (Ok done) f h = f h
on_ok (Err fault) f h = h

pub if_ok : {T E : Type 0} (P Q : T → Type 0) → (result : Result T E) → ((t : T) → P t → Q t) → IfOk result P → IfOk result Q
if_ok P Q (Ok t) f h = f t h
if_ok P Q (Err fault) f h = h

-- an object with these parts tells a program this
pub told_written : {T E : Type 0} (result : Result T E) (now : Object) (old new : List ℕ) → OnOk result (WritesLine (told_data now) old new) → (told : Told Replied) (news : Option (List Name))
    → now.pieces.now ≡ (reply_in told).pieces → now.added ≡ first_added (reply_in told).behind (reply_in told).added → option_map (λ names. names.now) now.asking ≡ news
    → ((members : Members) → put_verdict now.verdict members ≡ put_end_of (reply_in told) (reply_in told).unmet members) → aside_field now.aside ≡ waited_field told → OnOk result (WritesLine (told_object now.number told news) old new)
told_written result now old new written told news pieces added asking verdict aside =
    subst (λ (d : Data). OnOk result (WritesLine d old new)) (λ i. object (put_field (aside i) (put_asking (asking i) (put_record (added i) (put_pieces (pieces i) (verdict (numbered now.number (λ members. members)) i)))))) written

-- the texts of a script, one behind another
pub script_written : (t0 t1 t2 t3 t4 head lines front woven rest foot : List ℕ) → t1 ≡ t0 ++ head → t2 ≡ t1 ++ (lines ++ front) → t3 ≡ t2 ++ (woven ++ rest) → t4 ≡ t3 ++ foot
    → t4 ≡ t0 ++ (head ++ (lines ++ (front ++ (woven ++ (rest ++ foot)))))
script_written t0 t1 t2 t3 t4 head lines front woven rest foot one two three four =
    four
    ∙ ap (λ t. t ++ foot) (three ∙ ap (λ t. t ++ (woven ++ rest)) (two ∙ ap (λ t. t ++ (lines ++ front)) one))
    ∙ append_assoc ((t0 ++ head) ++ (lines ++ front)) (woven ++ rest) foot
    ∙ append_assoc (t0 ++ head) (lines ++ front) ((woven ++ rest) ++ foot)
    ∙ append_assoc t0 head ((lines ++ front) ++ ((woven ++ rest) ++ foot))
    ∙ ap (λ t. t0 ++ (head ++ t)) (append_assoc lines front ((woven ++ rest) ++ foot) ∙ ap (λ t. lines ++ (front ++ t)) (append_assoc woven rest foot))
