-- The slot is put back, and the table and the list still cover the state.
use Rattle.std.proofs.Common.{◌∙◌, ap, subst, sym}
use Rattle.i3c_base.specs.State.{Held, State}
use Rattle.i3c_bus.specs.Near.{IsNear}
use Rattle.i3c_bus.specs.Parts.{state_of}
use Rattle.i3c_bus.proofs.Nearby.{put_back, whole_back}
use Rattle.i3c_bus.proofs.bus_snapshot.BusSnapshot.wake_at.Goals as goal

pub invariant_of-bus : goal.invariant_of-bus
invariant_of-bus c =
    let b = c.bus.inside in let s = c.self.inside in
    let st = state_of s.devices s.raised s.active s.table s.legacy s.in_session s.records.items in
    let near = state_of b.devices b.raised b.active b.table b.legacy b.in_session b.records.items in
    let n = subst (λ (x : State). IsNear c.args.slot x near) (sym c.self.view_is) (subst (λ (x : State). IsNear c.args.slot c.args.self.now x) (sym (ap (λ (h : Held). h.state) c.bus.view_is)) c.requires) in
    whole_back st near _ c.args.slot b.table b.list c.self.invariant.sound n
    (put_back st near c.args.slot c.wake_at.new.self c.set.new.self c.at.result n c.wake_at.ensures c.at.ensures c.set.ensures) c.bus.invariant

pub returns : goal.returns
returns c =
    let b = c.bus.inside in let s = c.self.inside in
    let st = state_of s.devices s.raised s.active s.table s.legacy s.in_session s.records.items in
    let near = state_of b.devices b.raised b.active b.table b.legacy b.in_session b.records.items in
    let n = subst (λ (x : State). IsNear c.args.slot x near) (sym c.self.view_is) (subst (λ (x : State). IsNear c.args.slot c.args.self.now x) (sym (ap (λ (h : Held). h.state) c.bus.view_is)) c.requires) in
    put_back st near c.args.slot c.wake_at.new.self c.set.new.self c.at.result n c.wake_at.ensures c.at.ensures c.set.ensures ∙ c.self.view_is
