-- The object of an answer.
use Rattle.std.specs.Prelude.{◌≡◌, ◌≤◌, ℕ, List, All, [], ◌∷◌, ◌++◌, true, codes, map, option_map, Option, Some, None}
use Rattle.serde_json.specs.Data.{Data, Members, array, boolean, number, object, unsigned, no_members, put}
use Rattle.serde_json.specs.Read.{read}
use Rattle.serde_json.specs.View.{items_of}
use Rattle.serde_json.specs.Written.{compact_text}
use Rattle.i3c_base.specs.declared.requests.Record.{Record}
use Rattle.i3c_step.specs.declared.replies.Refusal.{Refusal as BusRefusal}
use Rattle.i3c_lines.specs.declared.names.Name.{Name}
use Rattle.i3c_lines.specs.declared.refusals.Refusal.{Refusal}
use Rattle.i3c_lines.specs.Refusing.{refusal_token}
use Rattle.i3c_script.specs.declared.piece.Piece.{Piece}
use Rattle.i3c_text.specs.Hex.{byte_text}
use Rattle.i3c_json.specs.declared.answer.Answer.{Answer}
use Rattle.i3c_json.specs.declared.aside.Aside.{Aside}
use Rattle.i3c_json.specs.declared.told.Told.{Told}
use Rattle.i3c_json.specs.declared.verdict.Verdict.{Verdict}
use Rattle.i3c_json.specs.Fields.{put_field, put_pieces}
use Rattle.i3c_json.specs.Values.{name_data, record_data, text_data, unmet_data}

-- the address that a refusal of the bus is about
abbrev pub bus_address : BusRefusal → Option ℕ
bus_address (BusRefusal.NoAnswer a) = Some a
bus_address (BusRefusal.BadAddress a) = Some a
bus_address BusRefusal.SessionOpen = None
bus_address BusRefusal.NoSession = None
bus_address BusRefusal.ActiveStays = None
bus_address BusRefusal.SlotTaken = None
bus_address BusRefusal.NoDevice = None
bus_address BusRefusal.IsActive = None
bus_address BusRefusal.NoAddress = None
bus_address BusRefusal.HasAddress = None
bus_address BusRefusal.NotCapable = None
bus_address BusRefusal.ByteMismatch = None
bus_address BusRefusal.Masked = None
bus_address BusRefusal.Full = None
bus_address BusRefusal.ListStale = None
bus_address BusRefusal.TooLong = None

-- the address that a refusal is about
abbrev pub refusal_address : Refusal → Option ℕ
refusal_address (Refusal.Bus why) = bus_address why
refusal_address Refusal.BadLine = None
refusal_address Refusal.NoBus = None
refusal_address Refusal.BusMade = None
refusal_address Refusal.NameTaken = None
refusal_address Refusal.NoName = None
refusal_address (Refusal.Legacy fault) = None
refusal_address (Refusal.Declare fault) = None
refusal_address Refusal.NoEnd = None
refusal_address Refusal.NotActive = None

abbrev pub put_address : Option ℕ → Members → Members
put_address None members = members
put_address (Some a) members = put (codes "about") (text_data (byte_text a)) members

-- the result of the line
abbrev pub put_outcome : Option Refusal → Members → Members
put_outcome None members = put (codes "ok") (boolean true) members
put_outcome (Some why) members = put_address (refusal_address why) (put (codes "refused") (text_data (refusal_token why)) members)

-- the record that the line added
abbrev pub put_record : Option (ℕ × Record) → Members → Members
put_record None members = members
put_record (Some numbered) members = put (codes "record") (record_data numbered.0 numbered.1) members

-- the names of the devices that ask, if they have changed
abbrev pub put_asking : Option (List Name) → Members → Members
put_asking None members = members
put_asking (Some names) members = put (codes "asking") (array (items_of (map name_data names))) members

-- the object of an answer: the line's number, its result, the fields of its pieces, the record that it added, and the devices
-- that ask
abbrev pub answer_data : ℕ → Option Refusal → List Piece → Option (ℕ × Record) → Option (List Name) → Data
answer_data count refused pieces added asking =
    object (put_asking asking (put_record added (put_pieces pieces (put_outcome refused (put (codes "line") (number (unsigned count)) no_members)))))

-- a text of bytes that print: none is a line feed or another control byte
abbrev pub HasNoControl : List ℕ → Type 0
HasNoControl text = All (λ byte. 32 ≤ byte) text

-- a line has this object's text, which reads back as the object and has no control byte, and then its line feed
pub record IsLineOf (value : Data) (line : List ℕ) : Type 0 where
  pub text : line ≡ compact_text value ++ 10 ∷ []
  pub reads : read (compact_text value) ≡ Some value
  pub one : HasNoControl (compact_text value)

-- the object of an answer in parts
abbrev pub data_of : Answer → Data
data_of answer = answer_data answer.number answer.refused answer.pieces.now answer.added (option_map (λ names. names.now) answer.asking)

-- the verdict on a line that was done, or refused for this reason
abbrev pub verdict_of : Option Refusal → Verdict
verdict_of None = Verdict.Done
verdict_of (Some why) = Verdict.Refused why

-- the expectation of a line doesn't hold, and this is there instead
abbrev pub put_unmet : ℕ → List ℕ → Members → Members
put_unmet line there members = put (codes "unmet") (unmet_data line there) (put (codes "refused") (text_data (codes "Unmet")) members)

-- how the line ended
abbrev pub put_verdict : Verdict → Members → Members
put_verdict Verdict.Done members = put_outcome None members
put_verdict (Verdict.Refused why) members = put_outcome (Some why) members
put_verdict (Verdict.Named name) members = put (codes "refused") (text_data name.now) members
put_verdict (Verdict.Unmet line there) members = put_unmet line there.now members

-- the field of what an answer says besides, and its value
abbrev pub aside_field : Aside → Option (List ℕ × Data)
aside_field Aside.Nothing = None
aside_field (Aside.Happened is_so) = Some (codes "happened", boolean is_so)
aside_field (Aside.Due line) = Some (codes "due", text_data line.now)
aside_field (Aside.Order count) = Some (codes "order", number (unsigned count))
aside_field (Aside.All count) = Some (codes "all", number (unsigned count))
aside_field (Aside.Tried count) = Some (codes "tried", number (unsigned count))
aside_field (Aside.Script lines) = Some (codes "script", text_data lines.now)
aside_field (Aside.Choices numbers) = Some (codes "choices", text_data numbers.now)
aside_field (Aside.Same count) = Some (codes "same", number (unsigned count))
aside_field Aside.Known = Some (codes "known", boolean true)

-- what an answer says besides
abbrev pub put_aside : Aside → Members → Members
put_aside aside members = put_field (aside_field aside) members

-- the object of an answer to a program that meets every order: that of any answer, with what it says besides
abbrev pub told_data : Told → Data
told_data told =
    object (put_aside told.aside (put_asking (option_map (λ names. names.now) told.asking) (put_record told.added (put_pieces told.pieces.now (put_verdict told.verdict (put (codes "line") (number (unsigned told.number)) no_members))))))
