-- A step behind records that are gone, by its event.
use Rattle.std.proofs.Common.{◌≡◌, ◌⊎◌, ℕ, List, length, Option, Some, None, MatchOption, ap, inl, inr, subst, sym}
use Rattle.i3c_base.specs.declared.answers.Answer.{Answer}
use Rattle.i3c_base.specs.declared.datum.Direction.{Direction}
use Rattle.i3c_base.specs.declared.kinds.Change.{Change}
use Rattle.i3c_base.specs.declared.requests.Fixed.{Fixed}
use Rattle.i3c_base.specs.declared.requests.Record.{Record}
use Rattle.i3c_base.specs.Cutting.{CutList, Lost}
use Rattle.i3c_base.specs.Frames.{Gets, Hands, KeepsRole, Reads, Rekinds, SetsLength, SetsNew, SetsStatic, Writes, changed_kinds, get_bits, kinds_bits, length_bits, list, list_bits, read_bits, reset, transfer_length, write_bits}
use Rattle.i3c_base.specs.Round.{opened}
use Rattle.i3c_base.specs.Serve.{refuse_all}
use Rattle.i3c_base.specs.State.{State, entry_at}
use Rattle.i3c_step.specs.declared.events.Event.{Event}
use Rattle.i3c_step.specs.declared.events.Event.TheVariants.{Attach, DropOff, Raise, AskJoin, AskRole, Serve, Enec, Disec, Reset, SendList, ReadFrom, WriteTo, SetStatic, SetNew, Get, SetLength, OpenDaa, Round, EndDaa, HandOver}
use Rattle.i3c_step.specs.declared.replies.Refusal.{Refusal}
use Rattle.i3c_step.specs.declared.replies.Reply.{Reply}
use Rattle.i3c_step.specs.Step.{Acts, Announces, Becomes, Checks, IsShort, Nothing, Transfers, checks, first_refusal}
use Rattle.i3c_log_laws.specs.Behind.{StepsGoOnAlike, behind, counted_from, reply_from}
use Rattle.i3c_log_laws.proofs.Parts.{gets_behind, hands_behind, keeps_behind, length_behind, new_behind, reads_behind, rekinds_behind, rounds_behind, static_behind, writes_behind}
use Rattle.i3c_log_laws.proofs.Serving.{GoesOn, asking_behind, frame_behind}
use Rattle.i3c_log_laws.proofs.Tests.{checks_behind}

-- a frame to all that is done
announces_behind : (gone : List Record) (old : State) (bits : ℕ) (f : State → State) (policy : Fixed) (cuts : CutList) (reply : Reply) (new : State)
    → GoesOn gone (Becomes f) → Announces old bits f policy cuts reply new → Announces (behind gone old) bits f policy cuts (reply_from (length gone) reply) (behind gone new)
announces_behind gone old bits f policy cuts reply new alike h =
    (counted_from (length gone) h.0, ap (reply_from (length gone)) h.1, asking_behind gone old policy cuts h.0 bits (Becomes f) new alike h.2)

-- a frame with an answer
transfers_behind : (gone : List Record) (old : State) (bits : Answer → ℕ) (Own : Answer → Lost → State → State → Type 0) (policy : Fixed) (cuts : CutList) (reply : Reply) (new : State)
    → ((answer : Answer) → GoesOn gone (Own answer)) → Transfers old bits Own policy cuts reply new
    → Transfers (behind gone old) bits Own policy cuts (reply_from (length gone) reply) (behind gone new)
transfers_behind gone old bits Own policy cuts reply new alike h = (
  record h.0 { served = counted_from (length gone) h.0.served },
  ap (reply_from (length gone)) h.1,
  asking_behind gone old policy cuts h.0.served (bits h.0.answer) (Own h.0.answer) new (alike h.0.answer) h.2,
)

-- what an event that isn't refused does
acts_behind : (gone : List Record) (old : State) (event : Event) (reply : Reply) (new : State)
    → Acts old event reply new → Acts (behind gone old) event (reply_from (length gone) reply) (behind gone new)
acts_behind gone old (Attach s setup) reply new h = (ap (reply_from (length gone)) h.0, ap (behind gone) h.1)
acts_behind gone old (DropOff s) reply new h = (ap (reply_from (length gone)) h.0, ap (behind gone) h.1)
acts_behind gone old (Raise s byte) reply new h = (ap (reply_from (length gone)) h.0, ap (behind gone) h.1)
acts_behind gone old (AskJoin s) reply new h = (ap (reply_from (length gone)) h.0, ap (behind gone) h.1)
acts_behind gone old (AskRole s) reply new h = (ap (reply_from (length gone)) h.0, ap (behind gone) h.1)
acts_behind gone old EndDaa reply new h = (ap (reply_from (length gone)) h.0, ap (behind gone) h.1)
acts_behind gone old (Serve policy cuts) reply new h =
    (counted_from (length gone) h.0, ap (reply_from (length gone)) h.1, frame_behind gone old policy cuts h.0 0 Nothing new (λ lost mid done e. ap (behind gone) e) h.2)
acts_behind gone old (Reset policy cuts) reply new h = announces_behind gone old 9 reset policy cuts reply new (λ lost mid done e. ap (behind gone) e) h
acts_behind gone old (SendList policy cuts) reply new h = announces_behind gone old (list_bits old) list policy cuts reply new (λ lost mid done e. ap (behind gone) e) h
acts_behind gone old (Enec to kinds policy cuts) reply new h =
    let f = changed_kinds Change.Enable kinds in transfers_behind gone old (kinds_bits to) (Rekinds to f) policy cuts reply new (rekinds_behind gone to f) h
acts_behind gone old (Disec to kinds policy cuts) reply new h =
    let f = changed_kinds Change.Disable kinds in transfers_behind gone old (kinds_bits to) (Rekinds to f) policy cuts reply new (rekinds_behind gone to f) h
acts_behind gone old (ReadFrom a policy cuts) reply new h =
    transfers_behind gone old (read_bits (transfer_length old Direction.Read a)) (Reads a) policy cuts reply new (reads_behind gone a) h
acts_behind gone old (WriteTo a bytes policy cuts) reply new h =
    transfers_behind gone old (write_bits bytes.items) (Writes a bytes.items) policy cuts reply new (writes_behind gone a bytes.items) h
acts_behind gone old (SetStatic f to policy cuts) reply new h =
    transfers_behind gone old (kinds_bits (Some f)) (SetsStatic f to) policy cuts reply new (static_behind gone f to) h
acts_behind gone old (SetNew a to policy cuts) reply new h =
    transfers_behind gone old (kinds_bits (Some a)) (SetsNew a to) policy cuts reply new (new_behind gone a to) h
acts_behind gone old (Get what a policy cuts) reply new h =
    transfers_behind gone old (get_bits what (entry_at old a)) (Gets what a) policy cuts reply new (gets_behind gone what a) h
acts_behind gone old (SetLength way most to policy cuts) reply new h =
    transfers_behind gone old (length_bits to) (SetsLength to way most) policy cuts reply new (length_behind gone to way most) h
acts_behind gone old (OpenDaa cuts) reply new h = (
  counted_from (length gone) h.0,
  ap (reply_from (length gone)) h.1,
  asking_behind gone old refuse_all cuts h.0 9 (Becomes opened) new (λ lost mid done e. ap (behind gone) e) h.2,
)
acts_behind gone old (HandOver to cuts) reply new h = elim h [
  | inl x ↦ inl (counted_from (length gone) x.0, ap (reply_from (length gone)) x.1, asking_behind gone old refuse_all cuts x.0 27 (Hands to) new (hands_behind gone to) x.2)
  | inr x ↦ inr (
    counted_from (length gone) x.0,
    x.1,
    ap (reply_from (length gone)) x.2,
    x.3,
    asking_behind gone old refuse_all cuts x.0 x.1 (KeepsRole to) new (keeps_behind gone to) x.4,
  )
]
acts_behind gone old (Round cuts) reply new h = (h.0, ap (reply_from (length gone)) h.1, rounds_behind gone old cuts h.0 new h.2)

-- a step, refused or not
pub steps_go_on_alike : StepsGoOnAlike
steps_go_on_alike gone old new event reply h =
    subst (λ (cs : Checks). MatchOption (first_refusal cs) (IsShort (behind gone old) event said left ⊎ Acts (behind gone old) event said left) (λ why. (said ≡ Reply.Refused why) × (left ≡ behind gone old)))
    (sym (checks_behind gone old event)) (go (first_refusal (checks old event)) h)
  where
    said : Reply
    said = reply_from (length gone) reply

    left : State
    left = behind gone new

    go : (o : Option Refusal) → MatchOption o (IsShort old event reply new ⊎ Acts old event reply new) (λ why. (reply ≡ Reply.Refused why) × (new ≡ old))
        → MatchOption o (IsShort (behind gone old) event said left ⊎ Acts (behind gone old) event said left) (λ why. (said ≡ Reply.Refused why) × (left ≡ behind gone old))
    go (Some why) k = (ap (reply_from (length gone)) k.0, ap (behind gone) k.1)
    go None k = elim k [
      | inl s ↦ inl (s.0, ap (reply_from (length gone)) s.1, ap (behind gone) s.2)
      | inr a ↦ inr (acts_behind gone old event reply new a)
    ]
