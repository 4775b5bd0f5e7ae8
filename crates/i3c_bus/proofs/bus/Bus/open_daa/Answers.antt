-- The first request is turned down, and a session is open.
use Rattle.std.proofs.Common.{sym, subst, ◌∙◌}
use Rattle.i3c_base.specs.declared.requests.Served.{Served}
use Rattle.i3c_bus.specs.Calls.{Carries}
use Rattle.i3c_frame.specs.Taps.{Tells}
use Rattle.i3c_step.specs.declared.events.Event.{Event}
use Rattle.i3c_step.specs.declared.replies.Reply.{Reply}
use Rattle.i3c_bus.specs.declared.hand.Hand.{Hand}
use Rattle.i3c_bus.proofs.Opening.{opening_carried}
use Rattle.i3c_bus.proofs.bus.Bus.open_daa.Goals as goal

pub returns-clause-carried : goal.returns-clause-carried
returns-clause-carried g c =
    subst (λ (s : Served). Carries c.args.self.now c.drop_lost.new.self (Event.OpenDaa c.args.cuts.now) (Reply.Opened s) (Hand.Session c.args.role) (Tells g.T.Tap.note_gives c.args.tap.now c.tell_open.new.tap))
    (sym c.go_on-served.ensures.served)
    (opening_carried g.T.Tap.note_gives c.args.tap.now c.begin_refusing-start.new.tap c.go_on-served.new.tap c.tell_open.new.tap c.args.self.now c.open.new.self c.drop_lost.new.self c.args.cuts.now
    c.begin_refusing-start.result.served c.begin_refusing-start.result.bits c.go_on-served.result.bits c.args.role c.requires.fits (sym c.cuts_active.ensures ∙ c.if-cuts_active.false)
    c.begin_refusing-start.ensures.serves c.begin_refusing-start.ensures.sent c.begin_refusing-start.ensures.unrecorded c.go_on-served.ensures.bits
    c.begin_refusing-start.ensures.told c.go_on-served.ensures.told c.tell_open.ensures c.open.ensures.state c.open.ensures.room c.drop_lost.ensures.state c.drop_lost.ensures.room)
