-- The policy that an event carries is asked as itself.
use Rattle.i3c_frame.specs.Taps.{Tells}
use Rattle.i3c_bus.proofs.Agreeing.{carried_asked}
use Rattle.i3c_bus.proofs.bus.Bus.send.Goals as goal

pub returns : goal.returns
returns g c = record {
  carried = carried_asked c.args.command c.args.self.now c.command-reply.new.self c.args.policy c.command-reply.new.policy c.args.cuts.now c.command-reply.result c.args.hand
      (Tells g.T.Tap.note_gives c.args.tap.now c.command-reply.new.tap) c.command-reply.ensures.asks c.command-reply.ensures.carried;
}
