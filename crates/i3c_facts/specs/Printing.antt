-- The texts of marks and facts, and of what holds in place of unmet facts.
use Rattle.std.specs.Prelude.{◌≢◌, ⊤, ℕ, ◌^◌, ◌<◌, ◌≤◌, All, Bool, true, false, List, [], ◌∷◌, ◌++◌, Option, Some, None, codes, length}
use Rattle.std.specs.Fmt.{decimal}
use Rattle.i3c_base.specs.declared.range.TheConstants.{SLOTS}
use Rattle.i3c_base.specs.declared.requests.Record.{Record}
use Rattle.i3c_base.specs.State.{Device, State}
use Rattle.i3c_legacy.specs.declared.faults.DeclareFault.{DeclareFault}
use Rattle.i3c_step.specs.declared.replies.Refusal.{Refusal as BusRefusal}
use Rattle.i3c_facts.specs.declared.facts.Claim.{Claim}
use Rattle.i3c_facts.specs.declared.fact.Fact.{Fact}
use Rattle.i3c_facts.specs.declared.before.Before.{Before}
use Rattle.i3c_facts.specs.declared.before.LineResult.{LineResult}
use Rattle.i3c_facts.specs.declared.marks.Mark.{Mark}
use Rattle.i3c_facts.specs.Forms.{served_text}
use Rattle.i3c_facts.specs.Holding.{device_of, place_for, records_of, served_as, slot_of, waiting_below}
use Rattle.i3c_lines.specs.declared.names.Name.{Name}
use Rattle.i3c_lines.specs.declared.names.Place.{Place}
use Rattle.i3c_lines.specs.declared.refusals.Refusal.{Refusal}
use Rattle.i3c_lines.specs.Naming.{letters}
use Rattle.i3c_lines.specs.Printing.{IsNamable, IsWithin}
use Rattle.i3c_lines.specs.Refusing.{refusal_text}
use Rattle.i3c_text.specs.Hex.{byte_text, bytes_text}

-- a mandatory byte, or `--` for none
abbrev pub byte_or_none : Option ℕ → List ℕ
byte_or_none None = codes "--"
byte_or_none (Some byte) = byte_text byte

-- how many records there are of a name with a byte
abbrev pub recorded_text : Name → Option ℕ → ℕ → List ℕ
recorded_text name byte count = codes "record " ++ (letters name ++ (codes " " ++ (byte_or_none byte ++ (codes " " ++ decimal count))))

-- the text of a fact, as a line has it
abbrev pub fact_text : Fact → List ℕ
fact_text (Fact.Active name) = codes "active " ++ letters name
fact_text (Fact.At name address) = letters name ++ (codes " at " ++ byte_text address)
fact_text (Fact.AtAny name) = letters name ++ codes " at any"
fact_text (Fact.AtNone name) = letters name ++ codes " at none"
fact_text (Fact.Gone name) = letters name ++ codes " gone"
fact_text (Fact.Waiting name count) = letters name ++ (codes " waiting " ++ decimal count)
fact_text (Fact.AllWaiting count) = codes "waiting " ++ decimal count
fact_text (Fact.Records count) = codes "records " ++ decimal count
fact_text (Fact.Recorded name byte count) = recorded_text name byte count
fact_text Fact.Assigned = codes "assigned"
fact_text Fact.Listed = codes "listed"
fact_text Fact.Open = codes "open"
fact_text Fact.Done = codes "done"
fact_text (Fact.Refused why) = codes "refused " ++ refusal_text why
fact_text Fact.AnyRefused = codes "refused"
fact_text (Fact.Served way) = codes "served " ++ served_text way
fact_text (Fact.Bytes bytes) = codes "bytes " ++ bytes_text bytes
fact_text (Fact.Asking name) = codes "asking " ++ letters name

-- what a claim says before its fact
abbrev pub negation_text : Bool → List ℕ
negation_text true = codes "not "
negation_text false = []

-- the text of a claim, with `not` if it is negated
abbrev pub claim_text : Claim → List ℕ
claim_text claim = negation_text claim.negated ++ fact_text claim.fact

-- claims, each behind an `or`
abbrev pub more_text : List Claim → List ℕ
more_text [] = []
more_text (claim ∷ claims) = codes " or " ++ (claim_text claim ++ more_text claims)

-- claims, with an `or` between each two
abbrev pub claims_text : List Claim → List ℕ
claims_text [] = []
claims_text (claim ∷ claims) = claim_text claim ++ more_text claims

-- the line of a mark
abbrev pub mark_text : Mark → List ℕ
mark_text Mark.Any = codes "any"
mark_text (Mark.Anywhere name) = codes "anywhere " ++ letters name
mark_text (Mark.Always facts) = codes "always " ++ claims_text facts
mark_text Mark.Track = codes "track"
mark_text Mark.Close = codes "close"
mark_text (Mark.Expect facts) = codes "expect " ++ claims_text facts

-- the name of the active controller
abbrev pub active_text : Option Name → List ℕ
active_text None = codes "active --"
active_text (Some name) = codes "active " ++ letters name

-- the address of a device that is there
abbrev pub address_text : Option ℕ → List ℕ
address_text None = codes " at none"
address_text (Some address) = codes " at " ++ byte_text address

-- where a device is, or that it is gone
abbrev pub place_text : Option Device → List ℕ
place_text None = codes " gone"
place_text (Some d) = address_text d.address

-- how many of its interrupts wait, or that it is gone
abbrev pub waiting_text : Option Device → List ℕ
waiting_text None = codes " gone"
waiting_text (Some d) = codes " waiting " ++ decimal (length d.waiting)

-- how many interrupts of a name's slot were recorded with a byte, or that no device of this name is there
abbrev pub counted_text : Name → Option ℕ → Option ℕ → List Record → List ℕ
counted_text name byte None records = letters name ++ codes " gone"
counted_text name byte (Some slot) records = recorded_text name byte (records_of slot byte records)

-- the result of the previous line, if it isn't the one that a fact says
abbrev pub before_text : Fact → LineResult → List ℕ
before_text fact LineResult.Nothing = codes "not " ++ fact_text fact
before_text fact LineResult.Done = codes "done"
before_text fact (LineResult.Refused why) = codes "refused " ++ refusal_text why

-- what a fact of the previous line says, and `not` where there is no such line
abbrev pub told_text : Fact → LineResult → List ℕ → List ℕ
told_text fact LineResult.Nothing said = codes "not " ++ fact_text fact
told_text fact LineResult.Done said = said
told_text fact (LineResult.Refused why) said = said

-- the bytes that were read, or `--` for none
abbrev pub read_text : Option (List ℕ) → List ℕ
read_text None = codes "bytes --"
read_text (Some bytes) = codes "bytes " ++ bytes_text bytes

-- that a device doesn't ask, or that it is gone
abbrev pub silent_text : Name → Option Device → List ℕ
silent_text name None = letters name ++ codes " gone"
silent_text name (Some d) = codes "not asking " ++ letters name

-- what holds in place of an unmet fact
abbrev pub there_text : State → Option Place → (ℕ → Option Name) → Before → Fact → List ℕ
there_text st place slot_names before (Fact.Active name) = active_text (slot_names st.active)
there_text st place slot_names before (Fact.At name address) = letters name ++ place_text (device_of st place)
there_text st place slot_names before (Fact.AtAny name) = letters name ++ place_text (device_of st place)
there_text st place slot_names before (Fact.AtNone name) = letters name ++ place_text (device_of st place)
there_text st place slot_names before (Fact.Gone name) = letters name ++ place_text (device_of st place)
there_text st place slot_names before (Fact.Waiting name count) = letters name ++ waiting_text (device_of st place)
there_text st place slot_names before (Fact.AllWaiting count) = codes "waiting " ++ decimal (waiting_below st SLOTS)
there_text st place slot_names before (Fact.Records count) = codes "records " ++ decimal (length st.records)
there_text st place slot_names before (Fact.Recorded name byte count) = counted_text name byte (slot_of place) st.records
there_text st place slot_names before Fact.Assigned = codes "not assigned"
there_text st place slot_names before Fact.Listed = codes "not listed"
there_text st place slot_names before Fact.Open = codes "not open"
there_text st place slot_names before Fact.Done = before_text Fact.Done before.result
there_text st place slot_names before (Fact.Refused why) = before_text (Fact.Refused why) before.result
there_text st place slot_names before Fact.AnyRefused = before_text Fact.AnyRefused before.result
there_text st place slot_names before (Fact.Served way) = told_text (Fact.Served way) before.result (codes "served " ++ served_text (served_as before.heard.served))
there_text st place slot_names before (Fact.Bytes bytes) = told_text (Fact.Bytes bytes) before.result (read_text before.heard.read)
there_text st place slot_names before (Fact.Asking name) = silent_text name (device_of st place)

-- what holds in place of an unmet claim: a fact that it negates
abbrev pub unmet_claim : State → Option Place → (ℕ → Option Name) → Before → Fact → Bool → List ℕ
unmet_claim st place slot_names before fact true = fact_text fact
unmet_claim st place slot_names before fact false = there_text st place slot_names before fact

-- what holds in place of these claims, if none of them holds: the first one as it would hold
abbrev pub unmet_text : State → (Name → Option Place) → (ℕ → Option Name) → Before → List Claim → List ℕ
unmet_text st places slot_names before [] = []
unmet_text st places slot_names before (claim ∷ claims) = unmet_claim st (place_for places claim.fact) slot_names before claim.fact claim.negated

-- a name that a fact can have in a line: it has letters, and isn't `or`
abbrev pub IsSayable : Name → Type 0
IsSayable name = IsNamable name × (letters name ≢ codes "or")

-- a refusal that a line can name: its address is in range, and of two that are printed the same it is the one that is read
abbrev pub ReasonHasLine : Refusal → Type 0
ReasonHasLine (Refusal.Bus (BusRefusal.NoAnswer address)) = address < 128
ReasonHasLine (Refusal.Bus (BusRefusal.BadAddress address)) = address < 128
ReasonHasLine (Refusal.Declare DeclareFault.LegacyAddress) = ⊥
ReasonHasLine (Refusal.Declare DeclareFault.LegacyTwice) = ⊥
ReasonHasLine _ = ⊤

-- a fact that a line can say: its numbers are in range, and its name isn't taken for a token of another fact
abbrev pub FactHasLine : Fact → Type 0
FactHasLine (Fact.Active name) = IsSayable name
FactHasLine (Fact.At name address) = IsSayable name × (address < 128)
FactHasLine (Fact.AtAny name) = IsSayable name
FactHasLine (Fact.AtNone name) = IsSayable name
FactHasLine (Fact.Gone name) = IsSayable name × (letters name ≢ codes "active")
FactHasLine (Fact.Waiting name count) = IsSayable name × (letters name ≢ codes "not") × (count < 2 ^ 16)
FactHasLine (Fact.AllWaiting count) = count < 2 ^ 16
FactHasLine (Fact.Records count) = count < 2 ^ 16
FactHasLine (Fact.Recorded name byte count) = IsSayable name × IsWithin 256 byte × (count < 2 ^ 16)
FactHasLine Fact.Assigned = ⊤
FactHasLine Fact.Listed = ⊤
FactHasLine Fact.Open = ⊤
FactHasLine Fact.Done = ⊤
FactHasLine (Fact.Refused why) = ReasonHasLine why
FactHasLine Fact.AnyRefused = ⊤
FactHasLine (Fact.Served way) = ⊤
FactHasLine (Fact.Bytes bytes) = (0 < length bytes) × (length bytes ≤ 16) × All (λ byte. byte < 256) bytes
FactHasLine (Fact.Asking name) = IsSayable name × (letters name ≢ codes "gone")

-- claims that a line can make
abbrev pub HaveLines : List Claim → Type 0
HaveLines [] = ⊤
HaveLines (claim ∷ claims) = FactHasLine claim.fact × HaveLines claims

-- claims that a line can make, at least one
abbrev pub AreSayable : List Claim → Type 0
AreSayable [] = ⊥
AreSayable (claim ∷ claims) = HaveLines (claim ∷ claims)

-- a mark that a line can say
abbrev pub MarkHasLine : Mark → Type 0
MarkHasLine Mark.Any = ⊤
MarkHasLine (Mark.Anywhere name) = IsNamable name
MarkHasLine (Mark.Always facts) = AreSayable facts
MarkHasLine Mark.Track = ⊤
MarkHasLine Mark.Close = ⊤
MarkHasLine (Mark.Expect facts) = AreSayable facts
