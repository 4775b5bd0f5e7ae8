-- What a program is answered, in lines and as an object.
use Rattle.std.specs.Prelude.{◌≡◌, ◌++◌, ◌∷◌, ℕ, suc, true, false, List, [], Option, None, Some, codes}
use Rattle.std.specs.Fmt.{decimal}
use Rattle.serde_json.specs.Data.{Data, Members, boolean, no_members, number as numeral, object, put, unsigned}
use Rattle.i3c_drive.specs.Answers.{first_added, last_line, news_text}
use Rattle.i3c_every.specs.declared.told.Told.{Told}
use Rattle.i3c_json.specs.Fields.{put_field, put_pieces}
use Rattle.i3c_json.specs.Objects.{IsLineOf, put_asking, put_outcome, put_record, put_unmet}
use Rattle.i3c_json.specs.Values.{text_data}
use Rattle.i3c_lines.specs.declared.names.Name.{Name}
use Rattle.i3c_scene.specs.Replying.{Replied}
use Rattle.i3c_script.specs.Printed.{numbered_text, pieces_text}
use Rattle.i3c_orders.specs.declared.choice.Choice.{Choice}
use Rattle.i3c_orders.specs.Numbers.{numbers_of, numbers_text}
use Rattle.i3c_program.specs.declared.reason.Reason.{Reason}

abbrev pub reason_name : Reason → List ℕ
reason_name Reason.BadLine = codes "BadLine"
reason_name Reason.ManyFrames = codes "ManyFrames"
reason_name Reason.NoPast = codes "NoPast"
reason_name Reason.Unmet = codes "Unmet"
reason_name Reason.Differs = codes "Differs"
reason_name Reason.Most = codes "Most"
reason_name Reason.NoOrder = codes "NoOrder"
reason_name Reason.Over = codes "Over"

-- the reply in what a program is told
abbrev pub reply_in : Told Replied → Replied
reply_in (Told.Answered reply) = reply
reply_in (Told.Happened reply) = reply
reply_in (Told.NothingLeft reply) = reply
reply_in (Told.Marked reply) = reply

-- the last line of an answer to a line that isn't done
abbrev pub refused_line : ℕ → Reason → List ℕ
refused_line number reason = codes "refused " ++ (decimal number ++ (codes " " ++ (reason_name reason ++ 10 ∷ [])))

-- the expectation that doesn't hold, by its number, and what is there instead
abbrev pub unmet_text : ℕ → List ℕ → List ℕ
unmet_text line there = codes "unmet " ++ (decimal line ++ (codes " " ++ (there ++ 10 ∷ [])))

-- the line that was due
abbrev pub due_text : List ℕ → List ℕ
due_text line = codes "due " ++ (line ++ 10 ∷ [])

-- that all orders were tried
abbrev pub all_text : ℕ → List ℕ
all_text count = codes "all " ++ (decimal count ++ (codes " orders" ++ 10 ∷ []))

-- how many orders were tried, where not all are
abbrev pub tried_text : ℕ → List ℕ
tried_text count = codes "tried " ++ (decimal count ++ (codes " orders" ++ 10 ∷ []))

-- the numbers of the answers that the lines of a run took
abbrev pub choices_text : {L S A : Type 0} → List (Choice L S A) → List ℕ
choices_text run = codes "choices " ++ (numbers_text (numbers_of run) ++ 10 ∷ [])

-- whether something happened, where the program waited
abbrev pub waited_text : Told Replied → List ℕ
waited_text (Told.Answered reply) = []
waited_text (Told.Happened reply) = codes "happened" ++ 10 ∷ []
waited_text (Told.NothingLeft reply) = codes "nothing left" ++ 10 ∷ []
waited_text (Told.Marked reply) = []

-- how an answer ends: as a driven line's, unless the line breaks an expectation
abbrev pub ends_so : ℕ → Replied → Option ℕ → List ℕ
ends_so number reply None = last_line number reply.refused
ends_so number reply (Some line) = unmet_text line reply.there ++ refused_line number Reason.Unmet

abbrev pub end_text : ℕ → Replied → List ℕ
end_text number reply = ends_so number reply reply.unmet

-- what a program is told, in lines: what its line came to, the records that it added, whether something happened, those who ask where they have changed, and how the line ended
abbrev pub told_text : ℕ → Told Replied → Option (List Name) → List ℕ
told_text number told news =
    pieces_text (reply_in told).pieces ++ (numbered_text (suc (reply_in told).behind) (reply_in told).added ++ (waited_text told ++ (news_text news ++ end_text number (reply_in told))))

-- an object is appended to a text, on a line
abbrev pub WritesLine : Data → List ℕ → List ℕ → Type 0
WritesLine value old new = (line : List ℕ) × (new ≡ old ++ line) × IsLineOf value line

-- the fields of an answer that every one has: the line's number, and how the line ended
abbrev pub numbered : ℕ → (Members → Members) → Members
numbered count put_end = put_end (put (codes "line") (numeral (unsigned count)) no_members)

-- the object of an answer without a reply: there may be one field besides
abbrev pub bare_object : ℕ → (Members → Members) → Option (List ℕ × Data) → Data
bare_object count put_end besides = object (put_field besides (numbered count put_end))

-- a line isn't done, for this reason
abbrev pub put_reason : Reason → Members → Members
put_reason reason members = put (codes "refused") (text_data (reason_name reason)) members

-- how a line ended with a reply: its expectation doesn't hold, or the bus refused it, or it was done
abbrev pub put_end_of : Replied → Option ℕ → Members → Members
put_end_of reply None members = put_outcome reply.refused members
put_end_of reply (Some line) members = put_unmet line reply.there members

-- whether something happened, where the program waited
abbrev pub waited_field : Told Replied → Option (List ℕ × Data)
waited_field (Told.Answered reply) = None
waited_field (Told.Happened reply) = Some (codes "happened", boolean true)
waited_field (Told.NothingLeft reply) = Some (codes "happened", boolean false)
waited_field (Told.Marked reply) = None

-- what a program is told, as an object
abbrev pub told_object : ℕ → Told Replied → Option (List Name) → Data
told_object count told news =
    object (put_field (waited_field told) (put_asking news (put_record (first_added (reply_in told).behind (reply_in told).added) (put_pieces (reply_in told).pieces (numbered count (put_end_of (reply_in told) (reply_in told).unmet))))))
