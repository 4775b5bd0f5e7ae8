-- Which events store something, and so may want memory.
use Rattle.std.specs.Prelude.{◌≡◌, ◌⊎◌, ℕ, None, ⊤}
use Rattle.i3c_base.specs.declared.identity.Identity.{Identity}
use Rattle.i3c_base.specs.declared.requests.Fixed.{Fixed}
use Rattle.i3c_base.specs.declared.requests.Request.TheVariants.{Interrupt}
use Rattle.i3c_base.specs.declared.requests.Verdict.TheVariants.{Accept}
use Rattle.i3c_base.specs.Cutting.{CutList, lost_by}
use Rattle.i3c_base.specs.Frames.{AnyAt, AnyUnaddressedAt}
use Rattle.i3c_base.specs.Round.{AnyPickable, IsWinner}
use Rattle.i3c_base.specs.Serve.{IsFirst, verdict}
use Rattle.i3c_base.specs.State.{State}
use Rattle.i3c_step.specs.declared.events.Event.{Event}
use Rattle.i3c_step.specs.declared.events.Event.TheVariants.{Attach, DropOff, Raise, AskJoin, AskRole, Serve, Enec, Disec, Reset, SendList, ReadFrom, WriteTo, SetStatic, SetNew, Get, SetLength, OpenDaa, Round, EndDaa, HandOver}
use Rattle.i3c_step.specs.Step.{checks, first_refusal}

-- an interrupt comes first and is accepted, so the event may add a record
abbrev pub IsRecordDue : State → Fixed → Type 0
IsRecordDue st policy = (a : ℕ) × IsFirst st (Interrupt a) × (verdict st policy (Interrupt a) ≡ Accept)

-- a round may assign an address
abbrev pub MayAssign : State → CutList → Type 0
MayAssign st cuts = AnyPickable st × ((i : Identity) × IsWinner st (lost_by cuts 73) i)

-- the values that the event stores: a device, an interrupt, a record, or an entry for the device that gets an address
abbrev pub Stores : State → Event → Type 0
Stores st (Attach s setup) = ⊤
Stores st (Raise s byte) = ⊤
Stores st (Serve policy cuts) = IsRecordDue st policy
Stores st (Enec to kinds policy cuts) = IsRecordDue st policy
Stores st (Disec to kinds policy cuts) = IsRecordDue st policy
Stores st (Reset policy cuts) = IsRecordDue st policy
Stores st (SendList policy cuts) = IsRecordDue st policy
Stores st (ReadFrom a policy cuts) = IsRecordDue st policy
Stores st (WriteTo a bytes policy cuts) = IsRecordDue st policy
Stores st (SetStatic f new policy cuts) = IsRecordDue st policy ⊎ AnyUnaddressedAt st f
Stores st (SetNew old new policy cuts) = IsRecordDue st policy ⊎ AnyAt st old
Stores st (Get what a policy cuts) = IsRecordDue st policy
Stores st (SetLength way most to policy cuts) = IsRecordDue st policy
Stores st (Round cuts) = MayAssign st cuts
Stores st (DropOff s) = ⊥
Stores st (AskJoin s) = ⊥
Stores st (AskRole s) = ⊥
Stores st (HandOver to cuts) = ⊥
Stores st (OpenDaa cuts) = ⊥
Stores st EndDaa = ⊥

-- the event isn't refused, and stores something
abbrev pub MayStore : State → Event → Type 0
MayStore st event = (first_refusal (checks st event) ≡ None) × Stores st event
