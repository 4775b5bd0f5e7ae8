-- The effect of each call on the state under the lock, by its answer.
use Rattle.std.specs.Prelude.{◌≡◌, ◌≢◌, ℕ, ◌+◌, ⊤, MatchOption, Bool, true, false, not, ◌&&◌, [], Option, Some, None, ◌⊎◌, is_some, Result, Ok, Err}
use Rattle.rtrb.specs.Ring.{IsPair, sent}
use Rattle.i3c_base.specs.declared.answers.Answer.{Answer}
use Rattle.i3c_base.specs.declared.answers.RoundReply.{RoundReply}
use Rattle.i3c_base.specs.declared.device.Setup.{Setup}
use Rattle.i3c_base.specs.declared.requests.Request.{Request}
use Rattle.i3c_base.specs.declared.requests.Served.{Served}
use Rattle.i3c_base.specs.declared.requests.Verdict.{Verdict}
use Rattle.i3c_base.specs.Cutting.{CutList}
use Rattle.i3c_base.specs.State.{device_at}
use Rattle.i3c_step.specs.declared.events.Command.{Command}
use Rattle.i3c_step.specs.declared.events.Event.{Event}
use Rattle.i3c_step.specs.declared.replies.Refusal.{Refusal}
use Rattle.i3c_step.specs.declared.replies.Reply.{Reply}
use Rattle.i3c_step.specs.Commands.{event_of}
use Rattle.i3c_step.specs.Giving.{given_by}
use Rattle.i3c_bus.specs.Asking.{Asks}
use Rattle.i3c_shared.specs.declared.faults.CallFault.{CallFault}
use Rattle.i3c_shared.specs.declared.faults.AttachFault.{AttachFault}
use Rattle.i3c_shared.specs.declared.faults.DropFault.{DropFault}
use Rattle.i3c_shared.specs.declared.faults.HandOverFault.{HandOverFault}
use Rattle.i3c_shared.specs.declared.faults.Left.{Left}
use Rattle.i3c_shared.specs.Books.{IsHeld}
use Rattle.i3c_shared.specs.Ports.{SamePort}
use Rattle.i3c_shared.specs.Rings.{is_out, put_out, taken_in}
use Rattle.i3c_shared.specs.Taking.{Grows, Stays}
use Rattle.i3c_shared.specs.Values.{HeldValue, KeptValue, Log, PortValue, Reading}

-- posts are taken up, and then comes this event with this reply
abbrev pub Does : KeptValue → Event → Reply → KeptValue → Type 0
Does old event reply new = Grows old.log event reply new.log × (new.parked ≡ old.parked)

-- no event, and nothing was taken
abbrev pub DoesNothing : KeptValue → KeptValue → Type 0
DoesNothing old new = Stays old.log new.log × (new.parked ≡ old.parked)

-- the slot is empty, and its old port is out: an attachment there is no event
abbrev pub is_awaited : Log → ℕ → Bool
is_awaited log s = is_out log.rings s && not (is_some (device_at log.state s))

-- an accepted attachment: the slot's port goes out, with the other end of its ring and nothing posted
pub record AttachesWith (old new : KeptValue) (s : ℕ) (setup : Setup) (port : PortValue) : Type 0 where
  pub slot : port.slot ≡ s
  pub fresh : sent port.producer ≡ []
  pub taken : Log
  pub grows : Grows old.log (Event.Attach s setup) Reply.Attached taken
  pub ring : Reading
  pub pair : IsPair port.producer ring
  pub put : new.log ≡ record taken { rings = put_out s ring taken.rings }
  pub parked : new.parked ≡ old.parked

-- an attachment by its answer: one into an awaited slot is refused, and changes nothing
abbrev pub Attaches : KeptValue → KeptValue → ℕ → Setup → Result PortValue AttachFault → Type 0
Attaches old new s setup (Ok port) = (is_awaited old.log s ≡ false) × AttachesWith old new s setup port
Attaches old new s setup (Err AttachFault.SlotTaken) =
    ((is_awaited old.log s ≡ false) × Does old (Event.Attach s setup) (Reply.Refused Refusal.SlotTaken) new)
    ⊎ ((is_awaited old.log s ≡ true) × (new ≡ old))
Attaches old new s setup (Err AttachFault.OutOfMemory) = (is_awaited old.log s ≡ false) × DoesNothing old new

-- the reply to a drop-off whose port came back for good
abbrev pub left_reply : Left → Reply
left_reply Left.Now = Reply.Dropped
left_reply Left.WasGone = Reply.Refused Refusal.NoDevice

-- a drop-off whose port came back for good
abbrev pub DropsWith : KeptValue → KeptValue → ℕ → Reply → Type 0
DropsWith old new s reply =
    (taken : Log) × Grows old.log (Event.DropOff s) reply taken × (new.log ≡ record taken { rings = taken_in s taken.rings }) × (new.parked ≡ old.parked)

-- a drop-off that is refused: it is an event unless memory was short
abbrev pub DropsNot : KeptValue → KeptValue → ℕ → DropFault → Type 0
DropsNot old new s DropFault.ActiveStays = Does old (Event.DropOff s) (Reply.Refused Refusal.ActiveStays) new
DropsNot old new s DropFault.OutOfMemory = DoesNothing old new

-- the port is spent, or comes back as it was
abbrev pub Drops : KeptValue → KeptValue → PortValue → Result Left (PortValue × DropFault) → Type 0
Drops old new port (Ok left) = DropsWith old new port.slot (left_reply left)
Drops old new port (Err refused) = SamePort port refused.0 × DropsNot old new port.slot refused.1

-- a wish, by its answer
abbrev pub AsksFor : KeptValue → KeptValue → Event → Result (Unit {0}) CallFault → Type 0
AsksFor old new event (Ok done) = Does old event Reply.Asked new
AsksFor old new event (Err (CallFault.Refused why)) = Does old event (Reply.Refused why) new
AsksFor old new event (Err CallFault.OutOfMemory) = DoesNothing old new

-- a frame that isn't short of memory is kept with the verdicts that its policy gave when the posts were taken up
abbrev pub Sends : {P : Type 0} → (P → Request → Verdict → P → Type 0) → P → P → KeptValue → KeptValue → Command → CutList → Reply → Type 0
Sends gives p q old new command cuts reply =
    (reply ≢ Reply.OutOfMemory)
    × ((g : Grows old.log (event_of command (given_by reply) cuts) reply new.log) × Asks gives p q g.mid.state reply) × (new.parked ≡ old.parked)

-- a frame under the role by its answer: the policy is asked only where it is sent
abbrev pub Commands : {P : Type 0} → (P → Request → Verdict → P → Type 0) → P → P → KeptValue → KeptValue → Command → CutList → Reply → Type 0
Commands gives p q old new command cuts reply =
    ((reply ≡ Reply.OutOfMemory) × (q ≡ p) × DoesNothing old new) ⊎ Sends gives p q old new command cuts reply

-- an opening by its answer: it is an event unless memory was short
abbrev pub Opens : KeptValue → KeptValue → CutList → Result (HeldValue × Served) (HeldValue × CallFault) → Type 0
Opens old new cuts (Ok opened) = Does old (Event.OpenDaa cuts) (Reply.Opened opened.1) new
Opens old new cuts (Err (role, CallFault.OutOfMemory)) = DoesNothing old new
Opens old new cuts (Err (role, CallFault.Refused why)) = Does old (Event.OpenDaa cuts) (Reply.Refused why) new

-- a round or an end that is refused: it is an event unless memory was short
abbrev pub Fails : KeptValue → KeptValue → Event → CallFault → Type 0
Fails old new event (CallFault.Refused why) = Does old event (Reply.Refused why) new
Fails old new event CallFault.OutOfMemory = DoesNothing old new

-- a round by its answer
abbrev pub Rounds : KeptValue → KeptValue → CutList → Result RoundReply CallFault → Type 0
Rounds old new cuts (Ok answer) = Does old (Event.Round cuts) (Reply.Round answer) new
Rounds old new cuts (Err fault) = Fails old new (Event.Round cuts) fault

-- an end by its answer
abbrev pub Ends : KeptValue → KeptValue → Result HeldValue (HeldValue × CallFault) → Type 0
Ends old new (Ok role) = Does old Event.EndDaa Reply.Ended new
Ends old new (Err refused) = Fails old new Event.EndDaa refused.1

-- a handover that the role comes back from: it is an event unless memory was short
abbrev pub HandsNot : KeptValue → KeptValue → ℕ → CutList → HandOverFault → Type 0
HandsNot old new to cuts HandOverFault.OutOfMemory = DoesNothing old new
HandsNot old new to cuts (HandOverFault.Refused why) = Does old (Event.HandOver to cuts) (Reply.Refused why) new
HandsNot old new to cuts (HandOverFault.NoAnswer served a) =
    Does old (Event.HandOver to cuts) (Reply.Framed (record { served = served; answer = Answer.NoAnswer a })) new

-- a handover by its answer: the role is parked for the slot that is active then, and counts the handover
abbrev pub Hands : KeptValue → KeptValue → HeldValue → ℕ → CutList → Result Served (HeldValue × HandOverFault) → Type 0
Hands old new role to cuts (Ok served) =
    Grows old.log (Event.HandOver to cuts) (Reply.Handed served) new.log × (new.parked ≡ Some (record { holder = new.log.state.active; frames = role.frames + 1 }))
Hands old new role to cuts (Err refused) = HandsNot old new to cuts refused.1

-- the role that is parked for the port's slot is taken, and no event happens: it is the active controller's
abbrev pub TakesRole : KeptValue → KeptValue → ℕ → Option HeldValue → Type 0
TakesRole old new s (Some role) = (role.holder ≡ s) × (old.parked ≡ Some role) × IsHeld old.log false role × (new ≡ record old { parked = None })
TakesRole old new s None = MatchOption old.parked ⊤ (λ role. role.holder ≢ s) × (new ≡ old)
