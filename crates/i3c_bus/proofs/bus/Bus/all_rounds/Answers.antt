-- Rounds that give addresses, and a last one.
use Rattle.std.proofs.Common.{ap, arith, length}
use Rattle.i3c_base.specs.declared.answers.RoundReply.{RoundReply}
use Rattle.i3c_bus.proofs.RoundsMore.{few_hear, given_more, last_more, none_given}
use Rattle.i3c_bus.proofs.bus.Bus.all_rounds.Goals as goal

pub loop-init : goal.loop-init
loop-init g c = record {
  told = none_given g.T.Tap.note_gives c.args.tap.now c.args.self.now.state c.args.given.now.items c.requires.none;
  fits = c.requires.fits;
  lasts = λ room. room;
  fewer = few_hear c.self.inside.devices c.args.self.now.state.devices (ap (λ held. held.state.devices) c.self.view_is) c.slots-end.ensures.slots;
  many = ap length c.requires.none;
}

pub loop-preserved : goal.loop-preserved
loop-preserved g c =
    let less = c.uncut_round.ensures.fewer c.in-Assigned.address c.in-Assigned.identity c.in-Assigned.is in record {
      told = given_more g.T.Tap.note_gives c.args.tap.now c.loop.tap c.uncut_round.new.tap c.args.self.now.state c.loop.self.state c.uncut_round.new.self.state c.loop.given.items c.push.new.self.items (c.in-Assigned.address, c.in-Assigned.identity)
          c.uncut_round.result c.push.ensures.items c.in-Assigned.is c.loop.invariant.told c.uncut_round.ensures.sends;
      fits = c.uncut_round.ensures.fits;
      lasts = λ room. c.uncut_round.ensures.room (c.loop.invariant.lasts room);
      fewer = omega (arith, less, c.loop.invariant.fewer);
      many = omega (arith, c.push.ensures.len, c.loop.invariant.many);
    }

pub returns-in-Done-clause-gives : goal.returns-in-Done-clause-gives
returns-in-Done-clause-gives g c =
    last_more g.T.Tap.note_gives c.args.tap.now c.loop.tap c.uncut_round.new.tap c.args.self.now.state c.loop.self.state c.uncut_round.new.self.state c.loop.given.items c.uncut_round.result RoundReply.Done c.in-Done.is c.loop.invariant.told c.uncut_round.ensures.sends

pub returns-in-NoAddress-clause-gives : goal.returns-in-NoAddress-clause-gives
returns-in-NoAddress-clause-gives g c =
    last_more g.T.Tap.note_gives c.args.tap.now c.loop.tap c.uncut_round.new.tap c.args.self.now.state c.loop.self.state c.uncut_round.new.self.state c.loop.given.items c.uncut_round.result RoundReply.NoAddress c.in-NoAddress.is c.loop.invariant.told c.uncut_round.ensures.sends
