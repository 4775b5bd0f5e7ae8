-- A reset is a frame to all.
use Rattle.std.proofs.Common.{◌∙◌, ◌+◌, ap, refl, sym}
use Rattle.i3c_base.specs.Cutting.{lost_by}
use Rattle.i3c_base.specs.Frames.{reset}
use Rattle.i3c_base.specs.Serve.{given_for}
use Rattle.i3c_base.specs.State.{State}
use Rattle.i3c_step.specs.declared.events.Event.{Event}
use Rattle.i3c_step.proofs.Steps.{not_cut}
use Rattle.i3c_bus.specs.Wire.{IsResetWire}
use Rattle.i3c_bus.proofs.ToAll.{announced, begun_uncut}
use Rattle.i3c_bus.proofs.bus.Bus.reset.Goals as goal

pub drop_lost-requires : goal.drop_lost-requires
drop_lost-requires g c = ap (λ (st : State). lost_by c.args.cuts.now (c.in-Ok.start.bits + 9) st.active) c.clear.ensures.state
    ∙ not_cut c.begin_frame.new.self.state c.args.cuts.now (c.in-Ok.start.bits + 9)
    (begun_uncut c.args.self.now.state c.begin_frame.new.self.state c.args.cuts.now c.in-Ok.start.served c.in-Ok.ensures.begins.0 c.in-Ok.ensures.begins.1 (sym c.cuts_active.ensures ∙ c.if-cuts_active.false))

pub returns-clause-carried : goal.returns-clause-carried
returns-clause-carried g c =
    announced g.T.Tap.note_gives c.args.tap.now c.begin_frame.new.tap c.tell_reset.new.tap c.args.self.now c.begin_frame.new.self c.clear.new.self c.drop_lost.new.self (Event.Reset (given_for c.in-Ok.start.served) c.args.cuts.now) c.args.cuts.now
    c.in-Ok.start.served c.in-Ok.ensures.begins.0 c.in-Ok.start.bits 9 c.args.role.now reset IsResetWire
    (record { tests = refl; acts = λ a. a; wire = λ symbols w. w; records = λ st. refl; stands = λ st. (refl, refl) })
    c.requires.fits (sym c.cuts_active.ensures ∙ c.if-cuts_active.false) c.in-Ok.ensures.begins.1 c.in-Ok.ensures.begins.2 c.in-Ok.ensures.begins.3 c.tell_reset.ensures c.clear.ensures.state c.drop_lost.ensures.state
    c.in-Ok.ensures.room c.clear.ensures.room c.drop_lost.ensures.room
