-- The tenures are those that the reply leaves.
use Rattle.std.proofs.Common.{◌≡◌, ◌∙◌, ◌+◌, length, subst, sym}
use Rattle.i3c_script.specs.Assigning.{Moves, cuts_left, ended_by}
use Rattle.i3c_script.specs.Situations.{Situation, situation}
use Rattle.i3c_script.proofs.Moving.{moved, sent_by}
use Rattle.i3c_script.proofs.script_bus.ScriptBus.step.Goals as goal

pub returns : goal.returns
returns g c =
    let kept = g.P.Past.kept in
    let at = c.self.inside in
    let old = at.bus.state in
    let new = c.step-hand.new.self.state in
    let event = c.args.event.now in
    let reply = c.step-hand.result.1 in
    let sent = c.step-hand.new.tap in
    let past = ended_by kept reply old.active (at.settings.forgotten + length new.records) sent in
    let is : c.end_tenure.new.past ≡ past = c.in_ok-end_tenure.ensures ∙ (λ t. ended_by kept reply (c.active-active.ensures t) (at.settings.forgotten + length new.records) sent) in
    rw (← c.self.view_is) (subst (λ now. Moves kept (situation old at.settings at.cuts at.past) event reply (situation new at.settings at.cuts now)) (sym is)
    (subst (λ cuts. Moves kept (situation old at.settings at.cuts at.past) event reply (situation new at.settings cuts past))
    (subst (λ (one : Situation _). cuts_left event one.cuts ≡ one.cuts) (sym c.self.view_is) c.requires)
    (moved kept old new at.settings at.cuts at.past sent event reply c.step-hand.ensures.carried.step (sent_by kept g.P.Tap.note_gives g.met.P.Past.noted at.past sent _ c.step-hand.ensures.carried.told))))
