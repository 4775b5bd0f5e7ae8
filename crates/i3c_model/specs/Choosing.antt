-- The choice decides the result of an event where drop-offs leave it open.
use Rattle.std.specs.Prelude.{◌≡◌, ℕ, ◌+◌, ◌≤◌, ◌⊎◌, Option, Some, None, MatchOption, option_and_then, ⊤}
use Rattle.i3c_base.specs.declared.answers.Answer.{Answer}
use Rattle.i3c_base.specs.declared.answers.RoundReply.{RoundReply}
use Rattle.i3c_base.specs.declared.requests.Fixed.{Fixed}
use Rattle.i3c_base.specs.declared.requests.Served.{Served}
use Rattle.i3c_base.specs.declared.device.LegacyTarget.{LegacyTarget}
use Rattle.i3c_base.specs.Cutting.{CutList, Lost as LostDevices, lost_by}
use Rattle.i3c_base.specs.Frames.{AllLostAt, AllUnaddressedLostAt, AnyAt, AnyUnaddressedAt, Hands, IsWillingAt, KeepsRole}
use Rattle.i3c_base.specs.Serve.{Frame, Serves, header_bits, refuse_all}
use Rattle.i3c_base.specs.State.{State, legacy_target_at}
use Rattle.i3c_step.specs.declared.events.Event.{Event}
use Rattle.i3c_step.specs.declared.events.Event.TheVariants.{HandOver}
use Rattle.i3c_step.specs.declared.replies.Reply.{Reply}
use Rattle.i3c_step.specs.Serving.{served_of}
use Rattle.i3c_model.specs.declared.plain.Choice.{Choice}
use Rattle.i3c_model.specs.declared.plain.Choice.TheVariants.{Heard, Lost, Silent}

-- what a frame may leave open: the result of its first request, and the result of its own part
pub data Question : Type 0 where
  of_request : Question
  of_own_part : Question

-- the choice that a reply means in either question
abbrev pub of_served : Served → Option Choice
of_served (Served.Recorded place) = Some Heard
of_served Served.Torn = Some Lost
of_served _ = None

abbrev pub of_answer : Answer → Option Choice
of_answer Answer.Done = Some Heard
of_answer (Answer.Bytes bytes) = Some Heard
of_answer Answer.NoEnd = Some Lost
of_answer (Answer.NoAnswer a) = Some Silent

abbrev pub of_round : RoundReply → Option Choice
of_round (RoundReply.Assigned a i) = Some Heard
of_round RoundReply.Nobody = Some Lost
of_round RoundReply.Done = Some Silent
of_round RoundReply.NoAddress = None

abbrev pub own_choice : Reply → Option Choice
own_choice (Reply.Framed framed) = of_answer framed.answer
own_choice (Reply.Handed served) = Some Heard
own_choice (Reply.Round answer) = of_round answer
own_choice _ = None

abbrev pub stands_for : Question → Reply → Option Choice
stands_for of_request reply = option_and_then of_served (served_of reply)
stands_for of_own_part reply = own_choice reply

-- the order in which choices give way
abbrev pub order : Choice → ℕ
order Heard = 0
order Lost = 1
order Silent = 2

-- the given choice is taken if it is lawful, and otherwise the first lawful one
pub record IsTaken (IsLawful : Choice → Type 0) (choice taken : Choice) : Type 0 where
  pub chosen : IsLawful choice → taken ≡ choice
  pub first : ¬ IsLawful choice → (other : Choice) → IsLawful other → order taken ≤ order other

-- a possible reply to the event means this choice in the question
abbrev pub MayStandFor : (Reply → State → Type 0) → Question → Choice → Type 0
MayStandFor Comes q choice = (reply : Reply) × (new : State) × Comes reply new × (stands_for q reply ≡ Some choice)

-- in each question, the reply means the choice that is taken
abbrev pub Follows : (Reply → State → Type 0) → Choice → Reply → Type 0
Follows Comes choice reply = (q : Question) → MatchOption (stands_for q reply) ⊤ (IsTaken (MayStandFor Comes q) choice)

-- an accepted interrupt is torn exactly where that is chosen and may be
abbrev pub ServesAsChosen : State → Fixed → LostDevices → Choice → Served → Type 0
ServesAsChosen st policy lost choice Served.Torn = choice ≡ Lost
ServesAsChosen st policy lost choice (Served.Recorded place) = choice ≡ Lost → (new : State) → ¬ Serves st policy lost Served.Torn new
ServesAsChosen st policy lost choice _ = ⊤

-- a header to one address isn't acknowledged if nobody is there, or if that is chosen and possible
abbrev pub AnswersAsChosen : State → Option ℕ → LostDevices → Choice → Answer → Type 0
AnswersAsChosen st None lost choice answer = ⊤
AnswersAsChosen st (Some a) lost choice Answer.Done = choice ≡ Silent → ¬ AllLostAt st a lost
AnswersAsChosen st (Some a) lost choice _ = ¬ (choice ≡ Silent) → ¬ AnyAt st a

-- the header of SETDASA isn't acknowledged if nobody is there, or if that is chosen and possible
abbrev pub TakesAsChosen : State → ℕ → LostDevices → Choice → Answer → Type 0
TakesAsChosen st f lost choice Answer.Done = choice ≡ Silent → ¬ AllUnaddressedLostAt st f lost
TakesAsChosen st f lost choice _ = ¬ (choice ≡ Silent) → ¬ AnyUnaddressedAt st f

-- the header of a write, without a legacy target there, isn't acknowledged if nobody is there, or if that is chosen and
-- possible
abbrev pub WritesAsChosen : State → ℕ → LostDevices → Choice → Answer → Type 0
WritesAsChosen st a lost choice answer = ((target : LegacyTarget) × (legacy_target_at st a ≡ Some target)) ⊎ AnswersAsChosen st (Some a) lost choice answer

-- data that is read doesn't end unless silence is chosen and may be; the header isn't acknowledged where nobody is there,
-- or that is chosen
abbrev pub ReadsAsChosen : State → ℕ → CutList → ℕ → Choice → Answer → Type 0
ReadsAsChosen st a cuts begin choice (Answer.Bytes bytes) = ⊤
ReadsAsChosen st a cuts begin choice Answer.NoEnd = choice ≡ Silent → ¬ AllLostAt st a (lost_by cuts (begin + 9))
ReadsAsChosen st a cuts begin choice _ = ¬ (choice ≡ Silent) → ¬ AnyAt st a

-- what a handover may leave by each choice: it is granted, or breaks off with the target's byte, or ends with its header
abbrev pub HandsBy : State → ℕ → CutList → Choice → State → Type 0
HandsBy old to cuts Heard new = (served : Served) × Frame old refuse_all cuts served (header_bits served + 27) (Hands to) new
HandsBy old to cuts Lost new = (served : Served) × ((s : ℕ) × IsWillingAt old to s) × Frame old refuse_all cuts served (header_bits served + 27) (KeepsRole to) new
HandsBy old to cuts Silent new = (served : Served) × Frame old refuse_all cuts served (header_bits served + 18) (KeepsRole to) new

-- a choice may be made in a handover
abbrev pub MayHandBy : State → ℕ → CutList → Choice → Type 0
MayHandBy old to cuts choice = (new : State) × HandsBy old to cuts choice new

-- a handover leaves what it leaves by the choice that is taken
abbrev pub HandsAsChosen : State → ℕ → CutList → Choice → State → Type 0
HandsAsChosen old to cuts choice new = (taken : Choice) × HandsBy old to cuts taken new × IsTaken (MayHandBy old to cuts) choice taken

-- a reply doesn't say where a handover ended, but what it leaves does
abbrev pub EndsAsChosen : State → Event → Choice → State → Type 0
EndsAsChosen old (HandOver to cuts) choice new = HandsAsChosen old to cuts choice new
EndsAsChosen old event choice new = ⊤
