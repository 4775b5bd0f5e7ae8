-- The answers of targets in what each event sends.
use Rattle.std.proofs.Common.{◌≡◌, ◌∙◌, ◌⊎◌, ℕ, ◌+◌, ◌≤◌, Bool, true, List, Some, None, arith, inl, inr, refl, sym, subst}
use Rattle.i3c_base.specs.declared.answers.Answer.{Answer}
use Rattle.i3c_base.specs.declared.datum.Direction.{Direction}
use Rattle.i3c_base.specs.declared.kinds.Change.{Change}
use Rattle.i3c_base.specs.declared.requests.Request.TheVariants.{Join, Role, Interrupt}
use Rattle.i3c_base.specs.declared.requests.Served.{Served}
use Rattle.i3c_base.specs.declared.requests.Served.TheVariants.{Quiet, Recorded, Refused, Torn, Joining, WantsRole}
use Rattle.i3c_base.specs.Cutting.{CutList, Lost, lost_by}
use Rattle.i3c_base.specs.Frames.{Hands, Rekinds, SetsLength, SetsNew, SetsStatic}
use Rattle.i3c_base.specs.Numbers.{KindSet}
use Rattle.i3c_base.specs.Serve.{IsWordBits, Serves, header_bits, refuse_all}
use Rattle.i3c_base.specs.State.{State}
use Rattle.i3c_base.proofs.Verdicts.{refuses}
use Rattle.i3c_frame.specs.declared.symbols.Symbol.{Symbol}
use Rattle.i3c_handoff.specs.Offers.{SomeTakes}
use Rattle.i3c_handoff.proofs.OfferLaws.{takes_before}
use Rattle.i3c_step.specs.declared.events.Event.{Event}
use Rattle.i3c_step.specs.declared.events.Event.TheVariants.{Attach, DropOff, Raise, AskJoin, AskRole, Serve, Enec, Disec, Reset, SendList, ReadFrom, WriteTo, SetStatic, SetNew, Get, SetLength, OpenDaa, Round, EndDaa, HandOver}
use Rattle.i3c_step.specs.declared.replies.Reply.{Reply}
use Rattle.i3c_step.specs.Step.{Acts, IsGranted, Step}
use Rattle.i3c_step.proofs.Steps.{IsIdle, refused, short, step_cases}
use Rattle.i3c_step.proofs.Uniqueness.{accept≢refuse}
use Rattle.i3c_bus.specs.Wire.{IsDeclinedPart, IsGetPart, IsHandedWire, IsKindsPart, IsLengthPart, IsListPart, IsNewPart, IsReadPart, IsResetWire, IsStaticPart, IsWritePart}
use Rattle.i3c_wire_laws.specs.Answering.{IsAnsweredAt, IsAnswering}
use Rattle.i3c_wire_laws.specs.Numbers.{IsNumbered, IsNumberedFrame}
use Rattle.i3c_wire_laws.proofs.Answered.{command_at, declined_answered, get_answered, kinds_answered, length_answered, read_answered, setting_answered, write_answered}

-- a command to one address has one of two answers
rekinds_is : (a : ℕ) (f : KindSet → KindSet) (answer : Answer) (lost : Lost) (mid done : State) → Rekinds (Some a) f answer lost mid done → (answer ≡ Answer.Done) ⊎ (answer ≡ Answer.NoAnswer a)
rekinds_is a f answer lost mid done h = elim h [ inl x ↦ inl x.0 | inr x ↦ inr x.0 ]

static_is : (f to : ℕ) (answer : Answer) (lost : Lost) (mid done : State) → SetsStatic f to answer lost mid done → (answer ≡ Answer.Done) ⊎ (answer ≡ Answer.NoAnswer f)
static_is f to answer lost mid done h = elim h [ inl x ↦ inl x.0 | inr x ↦ inr x.0 ]

new_is : (a to : ℕ) (answer : Answer) (lost : Lost) (mid done : State) → SetsNew a to answer lost mid done → (answer ≡ Answer.Done) ⊎ (answer ≡ Answer.NoAnswer a)
new_is a to answer lost mid done h = elim h [ inl x ↦ inl x.0 | inr x ↦ inr x.0 ]

length_is : (a : ℕ) (way : Direction) (most : ℕ) (answer : Answer) (lost : Lost) (mid done : State) → SetsLength (Some a) way most answer lost mid done → (answer ≡ Answer.Done) ⊎ (answer ≡ Answer.NoAnswer a)
length_is a way most answer lost mid done h = elim h [ inl x ↦ inl x.0 | inr x ↦ inr x.0 ]

-- a frame that refuses each request serves nothing, and has no mandatory word
refusing : (st : State) (lost : Lost) (served : Served) (new : State) (bits : ℕ) → Serves st refuse_all lost served new → IsWordBits st served bits → (new ≡ st) × (bits ≡ 0)
refusing st lost Quiet new bits h w = (h.1, w)
refusing st lost Refused new bits h w = (h.1, w)
refusing st lost Joining new bits h w = absurd (accept≢refuse (sym h.1 ∙ refuses st Join))
refusing st lost (WantsRole a) new bits h w = absurd (accept≢refuse (sym h.1 ∙ refuses st (Role a)))
refusing st lost (Recorded place) new bits h w = absurd (accept≢refuse (sym h.accepted ∙ refuses st (Interrupt h.at)))
refusing st lost Torn new bits h w = absurd (accept≢refuse (sym h.accepted ∙ refuses st (Interrupt h.at)))

-- a device that takes the role isn't lost by the last bit of its frame, so not by its answer
taken_answered : (sda : Bool) (old : State) (to : ℕ) (cuts : CutList) (reply : Reply) (new : State) (wire : List Symbol) → (g : IsGranted old to cuts reply new)
    → (n : IsNumberedFrame sda old cuts g.0 (λ bits own. IsHandedWire new (HandOver to cuts) own) wire)
    → IsAnsweredAt sda wire (n.word + header_bits g.0 + 18) (SomeTakes old to (lost_by cuts (n.word + header_bits g.0 + 18)))
taken_answered sda old to cuts reply new wire g n =
    let f = g.2 in
    let last : ℕ = f.word + (header_bits g.0 + 27) in
    let served = refusing old (lost_by cuts last) g.0 f.mid f.word f.serves f.sent in
    let none : n.word ≡ 0 = (refusing old (lost_by cuts last) g.0 f.mid n.word f.serves n.due).1 in
    let hands : Hands to (lost_by cuts last) old f.done = subst (λ m. Hands to (lost_by cuts last) m f.done) served.0 f.own in
    let before : n.word + header_bits g.0 + 18 ≤ last = omega (arith, none, served.1) in
    let takes = takes_before old to cuts (n.word + header_bits g.0 + 18) last before (hands.0, hands.1, hands.2) in
    (true, command_at sda wire (n.word + header_bits g.0) n.own n.part.2.0 to true true _ n.there n.part.2.2, (λ e. takes, λ some. refl))

acts_answer : (sda : Bool) (old : State) (event : Event) (reply : Reply) (new : State) (wire : List Symbol) → Acts old event reply new → IsNumbered sda old event reply new wire
    → IsAnswering sda old event reply wire
acts_answer sda old (Attach s setup) reply new wire h w = subst (λ r. IsAnswering sda old (Attach s setup) r wire) (sym h.0) tt
acts_answer sda old (DropOff s) reply new wire h w = subst (λ r. IsAnswering sda old (DropOff s) r wire) (sym h.0) tt
acts_answer sda old (Raise s byte) reply new wire h w = subst (λ r. IsAnswering sda old (Raise s byte) r wire) (sym h.0) tt
acts_answer sda old (AskJoin s) reply new wire h w = subst (λ r. IsAnswering sda old (AskJoin s) r wire) (sym h.0) tt
acts_answer sda old (AskRole s) reply new wire h w = subst (λ r. IsAnswering sda old (AskRole s) r wire) (sym h.0) tt
acts_answer sda old (Serve policy cuts) reply new wire h w = subst (λ r. IsAnswering sda old (Serve policy cuts) r wire) (sym h.1) tt
acts_answer sda old (Enec None kinds policy cuts) reply new wire h w =
    let n : IsNumberedFrame sda old cuts h.0.served (IsKindsPart old cuts Change.Enable None kinds h.0.answer) wire = subst (λ r. IsNumbered sda old (Enec None kinds policy cuts) r new wire) h.1 w in
    subst (λ r. IsAnswering sda old (Enec None kinds policy cuts) r wire) (sym h.1) (n.word, n.due, tt)
acts_answer sda old (Enec (Some a) kinds policy cuts) reply new wire h w =
    let n : IsNumberedFrame sda old cuts h.0.served (IsKindsPart old cuts Change.Enable (Some a) kinds h.0.answer) wire = subst (λ r. IsNumbered sda old (Enec (Some a) kinds policy cuts) r new wire) h.1 w in
    subst (λ r. IsAnswering sda old (Enec (Some a) kinds policy cuts) r wire) (sym h.1) (n.word, n.due, kinds_answered sda wire (n.word + header_bits h.0.served) Change.Enable a kinds h.0.answer n.own _ n.there n.part.0 n.part.1 (rekinds_is a _ h.0.answer _ h.2.mid h.2.done h.2.own))
acts_answer sda old (Disec None kinds policy cuts) reply new wire h w =
    let n : IsNumberedFrame sda old cuts h.0.served (IsKindsPart old cuts Change.Disable None kinds h.0.answer) wire = subst (λ r. IsNumbered sda old (Disec None kinds policy cuts) r new wire) h.1 w in
    subst (λ r. IsAnswering sda old (Disec None kinds policy cuts) r wire) (sym h.1) (n.word, n.due, tt)
acts_answer sda old (Disec (Some a) kinds policy cuts) reply new wire h w =
    let n : IsNumberedFrame sda old cuts h.0.served (IsKindsPart old cuts Change.Disable (Some a) kinds h.0.answer) wire = subst (λ r. IsNumbered sda old (Disec (Some a) kinds policy cuts) r new wire) h.1 w in
    subst (λ r. IsAnswering sda old (Disec (Some a) kinds policy cuts) r wire) (sym h.1) (n.word, n.due, kinds_answered sda wire (n.word + header_bits h.0.served) Change.Disable a kinds h.0.answer n.own _ n.there n.part.0 n.part.1 (rekinds_is a _ h.0.answer _ h.2.mid h.2.done h.2.own))
acts_answer sda old (Reset policy cuts) reply new wire h w =
    let n : IsNumberedFrame sda old cuts h.0 (λ bits own. IsResetWire own) wire = subst (λ r. IsNumbered sda old (Reset policy cuts) r new wire) h.1 w in
    subst (λ r. IsAnswering sda old (Reset policy cuts) r wire) (sym h.1) (n.word, n.due, tt)
acts_answer sda old (SendList policy cuts) reply new wire h w =
    let n : IsNumberedFrame sda old cuts h.0 (λ bits own. IsListPart old own) wire = subst (λ r. IsNumbered sda old (SendList policy cuts) r new wire) h.1 w in
    subst (λ r. IsAnswering sda old (SendList policy cuts) r wire) (sym h.1) (n.word, n.due, tt)
acts_answer sda old (ReadFrom a policy cuts) reply new wire h w =
    let n : IsNumberedFrame sda old cuts h.0.served (IsReadPart old cuts a h.0.answer) wire = subst (λ r. IsNumbered sda old (ReadFrom a policy cuts) r new wire) h.1 w in
    subst (λ r. IsAnswering sda old (ReadFrom a policy cuts) r wire) (sym h.1) (n.word, n.due, read_answered sda old cuts wire (n.word + header_bits h.0.served) a h.0.answer n.own n.there n.part)
acts_answer sda old (WriteTo a bytes policy cuts) reply new wire h w =
    let n : IsNumberedFrame sda old cuts h.0.served (IsWritePart old cuts a bytes.items h.0.answer) wire = subst (λ r. IsNumbered sda old (WriteTo a bytes policy cuts) r new wire) h.1 w in
    subst (λ r. IsAnswering sda old (WriteTo a bytes policy cuts) r wire) (sym h.1) (n.word, n.due, write_answered sda old cuts wire (n.word + header_bits h.0.served) a bytes.items h.0.answer n.own n.there n.part)
acts_answer sda old (SetStatic f to policy cuts) reply new wire h w =
    let n : IsNumberedFrame sda old cuts h.0.served (IsStaticPart old cuts f to h.0.answer) wire = subst (λ r. IsNumbered sda old (SetStatic f to policy cuts) r new wire) h.1 w in
    subst (λ r. IsAnswering sda old (SetStatic f to policy cuts) r wire) (sym h.1) (n.word, n.due, setting_answered sda wire (n.word + header_bits h.0.served) 0x87 f to h.0.answer n.own _ n.there n.part.0 n.part.1 (static_is f to h.0.answer _ h.2.mid h.2.done h.2.own))
acts_answer sda old (SetNew a to policy cuts) reply new wire h w =
    let n : IsNumberedFrame sda old cuts h.0.served (IsNewPart old cuts a to h.0.answer) wire = subst (λ r. IsNumbered sda old (SetNew a to policy cuts) r new wire) h.1 w in
    subst (λ r. IsAnswering sda old (SetNew a to policy cuts) r wire) (sym h.1) (n.word, n.due, setting_answered sda wire (n.word + header_bits h.0.served) 0x88 a to h.0.answer n.own _ n.there n.part.0 n.part.1 (new_is a to h.0.answer _ h.2.mid h.2.done h.2.own))
acts_answer sda old (Get what a policy cuts) reply new wire h w =
    let n : IsNumberedFrame sda old cuts h.0.served (IsGetPart old cuts what a h.0.answer new) wire = subst (λ r. IsNumbered sda old (Get what a policy cuts) r new wire) h.1 w in
    subst (λ r. IsAnswering sda old (Get what a policy cuts) r wire) (sym h.1) (n.word, n.due, get_answered sda old cuts wire (n.word + header_bits h.0.served) what a h.0.answer new n.own n.there n.part)
acts_answer sda old (SetLength way most None policy cuts) reply new wire h w =
    let n : IsNumberedFrame sda old cuts h.0.served (IsLengthPart old cuts way None most h.0.answer) wire = subst (λ r. IsNumbered sda old (SetLength way most None policy cuts) r new wire) h.1 w in
    subst (λ r. IsAnswering sda old (SetLength way most None policy cuts) r wire) (sym h.1) (n.word, n.due, tt)
acts_answer sda old (SetLength way most (Some a) policy cuts) reply new wire h w =
    let n : IsNumberedFrame sda old cuts h.0.served (IsLengthPart old cuts way (Some a) most h.0.answer) wire = subst (λ r. IsNumbered sda old (SetLength way most (Some a) policy cuts) r new wire) h.1 w in
    subst (λ r. IsAnswering sda old (SetLength way most (Some a) policy cuts) r wire) (sym h.1) (n.word, n.due, length_answered sda wire (n.word + header_bits h.0.served) way a most h.0.answer n.own _ n.there n.part.0 n.part.1 (length_is a way most h.0.answer _ h.2.mid h.2.done h.2.own))
acts_answer sda old (OpenDaa cuts) reply new wire h w = subst (λ r. IsAnswering sda old (OpenDaa cuts) r wire) (sym h.1) tt
acts_answer sda old (HandOver to cuts) reply new wire h w = elim h [
  | inl g ↦
      let n : IsNumberedFrame sda old cuts g.0 (λ bits own. IsHandedWire new (HandOver to cuts) own) wire = subst (λ r. IsNumbered sda old (HandOver to cuts) r new wire) g.1 w in
      subst (λ r. IsAnswering sda old (HandOver to cuts) r wire) (sym g.1) (n.word, n.due, taken_answered sda old to cuts reply new wire g n)
  | inr g ↦
      let n : IsNumberedFrame sda old cuts g.0 (IsDeclinedPart old cuts to new) wire = subst (λ r. IsNumbered sda old (HandOver to cuts) r new wire) g.2 w in
      subst (λ r. IsAnswering sda old (HandOver to cuts) r wire) (sym g.2) (n.word, n.due, declined_answered sda old cuts wire (n.word + header_bits g.0) to new n.own n.there n.part)
]
acts_answer sda old (Round cuts) reply new wire h w = subst (λ r. IsAnswering sda old (Round cuts) r wire) (sym h.1) tt
acts_answer sda old EndDaa reply new wire h w = subst (λ r. IsAnswering sda old EndDaa r wire) (sym h.0) tt

idle_answers : (sda : Bool) (old : State) (event : Event) (reply : Reply) (wire : List Symbol) → IsIdle reply → IsAnswering sda old event reply wire
idle_answers sda old event reply wire (refused why r) = subst (λ x. IsAnswering sda old event x wire) (sym r) tt
idle_answers sda old event reply wire (short r) = subst (λ x. IsAnswering sda old event x wire) (sym r) tt

-- what a step sends
pub step_answers : (sda : Bool) (old : State) (event : Event) (reply : Reply) (new : State) (wire : List Symbol) → Step old event reply new → IsNumbered sda old event reply new wire
    → IsAnswering sda old event reply wire
step_answers sda old event reply new wire h w =
    step_cases old event reply new h (λ idle e. idle_answers sda old event reply wire idle) (λ free acts. acts_answer sda old event reply new wire acts w)
