-- A round in which nobody is cut.
use Rattle.std.proofs.Common.{ap, subst}
use Rattle.i3c_step.specs.declared.events.Event.{Event}
use Rattle.i3c_step.specs.declared.replies.Refusal.{Refusal}
use Rattle.i3c_step.specs.Replies.{rounded_reply}
use Rattle.i3c_step.specs.Serving.{recorded_at}
use Rattle.i3c_step.specs.Step.{Step}
use Rattle.i3c_bus.proofs.RoundsMore.{acknowledged, fewer_hear, not_refused, sends_of, step_of}
use Rattle.i3c_bus.proofs.bus.Bus.uncut_round.Goals as goal

pub unreachable-requires : goal.unreachable-requires
unreachable-requires g c =
    not_refused c.args.self.now.state c.round.new.bus.state c.args.cuts.now Refusal.ActiveStays c.requires.fits.1 c.requires.uncut
    (subst (λ r. Step c.args.self.now.state (Event.Round c.args.cuts.now) (rounded_reply r) c.round.new.bus.state) c.in_default.is c.round.ensures.carried.step)

pub returns-clause-sends : goal.returns-clause-sends
returns-clause-sends g c =
    sends_of g.T.Tap.note_gives c.args.tap.now c.round.new.tap c.args.self.now.state c.round.new.bus.state c.args.cuts.now c.round.result c.in-Ok.answer c.in-Ok.is c.requires.uncut c.round.ensures.carried.step c.round.ensures.carried.told

pub returns-clause-acknowledged : goal.returns-clause-acknowledged
returns-clause-acknowledged g c = acknowledged c.args.self.now.state c.round.new.bus.state c.in-Ok.answer c.requires.fits.1
    (step_of c.args.self.now.state c.round.new.bus.state c.args.cuts.now c.round.result c.in-Ok.answer c.in-Ok.is c.requires.uncut c.round.ensures.carried.step)

pub returns-clause-fewer : goal.returns-clause-fewer
returns-clause-fewer g c = fewer_hear c.args.self.now.state c.round.new.bus.state c.in-Ok.answer c.requires.fits.1
    (step_of c.args.self.now.state c.round.new.bus.state c.args.cuts.now c.round.result c.in-Ok.answer c.in-Ok.is c.requires.uncut c.round.ensures.carried.step)

pub returns-clause-room : goal.returns-clause-room
returns-clause-room g c = λ room. c.round.ensures.carried.room.lasts room (ap (λ r. recorded_at (rounded_reply r)) c.in-Ok.is)
