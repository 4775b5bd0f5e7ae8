-- What a tap was told of an event, by the answer of its call.
use Rattle.std.proofs.Common.{◌≡◌, Option, Some, Err, ap, subst, sym}
use Rattle.i3c_frame.specs.declared.symbols.Symbol.{Symbol}
use Rattle.i3c_step.specs.declared.events.Event.{Event}
use Rattle.i3c_step.specs.declared.replies.Reply.{Reply}
use Rattle.i3c_shared.specs.declared.faults.HandOverFault.{HandOverFault}
use Rattle.i3c_shared.specs.Replying.{IsUnhanded}
use Rattle.i3c_shared.specs.Telling.{TellsIf, TellsOf, handing_reply}
use Rattle.i3c_shared.specs.Values.{HeldValue, Log}

pub told_as : {T : Type 0} (gives : T → Symbol → T → Type 0) (tap told : T) (old : Log) (event : Event) (reply : Reply) (answered : Option Reply) (new : Log) → answered ≡ Some reply
    → TellsOf gives tap told old event reply new → TellsIf gives tap told old event answered new
told_as gives tap told old event reply answered new is tells = subst (λ (r : Option Reply). TellsIf gives tap told old event r new) (sym is) tells

pub unhanded_as : (role : HeldValue) (why : HandOverFault) (reply : Reply) → IsUnhanded why reply → handing_reply (Err (role, why)) ≡ Some reply
unhanded_as role HandOverFault.OutOfMemory reply h = absurd h
unhanded_as role (HandOverFault.Refused why) reply h = ap Some (sym h)
unhanded_as role (HandOverFault.NoAnswer served a) reply h = ap Some (sym h)
