-- The reply that a typed call's answer is.
use Rattle.std.specs.Prelude.{ℕ, Result, Ok, Err}
use Rattle.i3c_base.specs.declared.answers.RoundReply.{RoundReply}
use Rattle.i3c_base.specs.declared.requests.Served.{Served}
use Rattle.i3c_base.specs.declared.refusals.JoinRefusal.{JoinRefusal}
use Rattle.i3c_base.specs.declared.refusals.RaiseRefusal.{RaiseRefusal}
use Rattle.i3c_base.specs.declared.refusals.RoleRefusal.{RoleRefusal}
use Rattle.i3c_step.specs.declared.replies.ActiveStays.{ActiveStays}
use Rattle.i3c_step.specs.declared.replies.DropRefusal.{DropRefusal}
use Rattle.i3c_step.specs.declared.replies.Framed.{Framed}
use Rattle.i3c_step.specs.declared.replies.FrameFault.{FrameFault}
use Rattle.i3c_step.specs.declared.replies.SetFault.{SetFault}
use Rattle.i3c_step.specs.declared.replies.SlotTaken.{SlotTaken}
use Rattle.i3c_step.specs.declared.replies.TargetFault.{TargetFault}
use Rattle.i3c_step.specs.declared.replies.WriteFault.{WriteFault}
use Rattle.i3c_step.specs.declared.replies.Refusal.{Refusal}
use Rattle.i3c_step.specs.declared.replies.Reply.{Reply}

-- the reply of `attach`
abbrev pub attached_reply : Result (Unit {0}) SlotTaken → Reply
attached_reply (Ok done) = Reply.Attached
attached_reply (Err why) = Reply.Refused Refusal.SlotTaken

-- why a raise is refused, among all refusals
abbrev pub raise_refusal : RaiseRefusal → Refusal
raise_refusal RaiseRefusal.NoDevice = Refusal.NoDevice
raise_refusal RaiseRefusal.IsActive = Refusal.IsActive
raise_refusal RaiseRefusal.NoAddress = Refusal.NoAddress
raise_refusal RaiseRefusal.NotCapable = Refusal.NotCapable
raise_refusal RaiseRefusal.ByteMismatch = Refusal.ByteMismatch
raise_refusal RaiseRefusal.Masked = Refusal.Masked
raise_refusal RaiseRefusal.Full = Refusal.Full

-- why a device doesn't drop off, among all refusals
abbrev pub drop_refusal : DropRefusal → Refusal
drop_refusal DropRefusal.NoDevice = Refusal.NoDevice
drop_refusal DropRefusal.ActiveStays = Refusal.ActiveStays

-- the reply of `drop_off`
abbrev pub dropped_reply : Result (Unit {0}) DropRefusal → Reply
dropped_reply (Ok done) = Reply.Dropped
dropped_reply (Err why) = Reply.Refused (drop_refusal why)

-- why a device doesn't wish to join, among all refusals
abbrev pub join_refusal : JoinRefusal → Refusal
join_refusal JoinRefusal.NoDevice = Refusal.NoDevice
join_refusal JoinRefusal.HasAddress = Refusal.HasAddress
join_refusal JoinRefusal.Masked = Refusal.Masked

-- the reply of `ask_join`
abbrev pub joins_reply : Result (Unit {0}) JoinRefusal → Reply
joins_reply (Ok done) = Reply.Asked
joins_reply (Err why) = Reply.Refused (join_refusal why)

-- why a device doesn't wish for the role, among all refusals
abbrev pub role_refusal : RoleRefusal → Refusal
role_refusal RoleRefusal.NoDevice = Refusal.NoDevice
role_refusal RoleRefusal.IsActive = Refusal.IsActive
role_refusal RoleRefusal.NoAddress = Refusal.NoAddress
role_refusal RoleRefusal.NotCapable = Refusal.NotCapable
role_refusal RoleRefusal.Masked = Refusal.Masked

-- the reply of `ask_role`
abbrev pub role_reply : Result (Unit {0}) RoleRefusal → Reply
role_reply (Ok done) = Reply.Asked
role_reply (Err why) = Reply.Refused (role_refusal why)

-- the reply of `raise`
abbrev pub raised_reply : Result ℕ RaiseRefusal → Reply
raised_reply (Ok number) = Reply.Raised number
raised_reply (Err why) = Reply.Refused (raise_refusal why)

-- the reply of a fault of a frame to nobody in particular
abbrev pub frame_fault_reply : FrameFault → Reply
frame_fault_reply FrameFault.ActiveStays = Reply.Refused Refusal.ActiveStays
frame_fault_reply FrameFault.OutOfMemory = Reply.OutOfMemory

-- the reply of `serve`
abbrev pub served_reply : Result Served FrameFault → Reply
served_reply (Ok served) = Reply.Served served
served_reply (Err why) = frame_fault_reply why

-- the reply of a fault of a frame to one address, other than a write
abbrev pub target_fault_reply : TargetFault → Reply
target_fault_reply TargetFault.ActiveStays = Reply.Refused Refusal.ActiveStays
target_fault_reply (TargetFault.NoAnswer a) = Reply.Refused (Refusal.NoAnswer a)
target_fault_reply TargetFault.OutOfMemory = Reply.OutOfMemory

-- the reply of `enec`, `disec` and `read`
abbrev pub framed_reply : Result Framed TargetFault → Reply
framed_reply (Ok framed) = Reply.Framed framed
framed_reply (Err why) = target_fault_reply why

-- the reply of a fault of a private write
abbrev pub write_fault_reply : WriteFault → Reply
write_fault_reply WriteFault.ActiveStays = Reply.Refused Refusal.ActiveStays
write_fault_reply WriteFault.TooLong = Reply.Refused Refusal.TooLong
write_fault_reply (WriteFault.NoAnswer a) = Reply.Refused (Refusal.NoAnswer a)
write_fault_reply WriteFault.OutOfMemory = Reply.OutOfMemory

-- the reply of `write`
abbrev pub wrote_reply : Result Framed WriteFault → Reply
wrote_reply (Ok framed) = Reply.Framed framed
wrote_reply (Err why) = write_fault_reply why

-- the reply of a fault of a frame that gives an address
abbrev pub set_fault_reply : SetFault → Reply
set_fault_reply SetFault.ActiveStays = Reply.Refused Refusal.ActiveStays
set_fault_reply (SetFault.NoAnswer a) = Reply.Refused (Refusal.NoAnswer a)
set_fault_reply (SetFault.BadAddress a) = Reply.Refused (Refusal.BadAddress a)
set_fault_reply SetFault.OutOfMemory = Reply.OutOfMemory

-- the reply of `set_static` and `set_new`
abbrev pub set_reply : Result Framed SetFault → Reply
set_reply (Ok framed) = Reply.Framed framed
set_reply (Err why) = set_fault_reply why

-- the reply of `reset` and `list`
abbrev pub announced_reply : Result Framed FrameFault → Reply
announced_reply (Ok framed) = Reply.Framed framed
announced_reply (Err why) = frame_fault_reply why

-- the reply of `open_daa`, which answers a session, or the role that comes back
abbrev pub opened_reply : Result (ℕ × Served) (ℕ × ActiveStays) → Reply
opened_reply (Ok opened) = Reply.Opened opened.1
opened_reply (Err refused) = Reply.Refused Refusal.ActiveStays

-- the reply of `round`
abbrev pub rounded_reply : Result RoundReply ActiveStays → Reply
rounded_reply (Ok answer) = Reply.Round answer
rounded_reply (Err why) = Reply.Refused Refusal.ActiveStays
