-- An opening, rounds, and an end.
use Rattle.i3c_bus.proofs.RoundsMore.{whole}
use Rattle.i3c_bus.proofs.bus.Bus.assign_into.Goals as goal

pub returns-clause-assigned : goal.returns-clause-assigned
returns-clause-assigned g c =
    whole g.T.Tap.note_gives c.args.tap.now c.open_daa.new.tap c.all_rounds-all.new.tap c.end-role.new.tap c.args.self.now.state c.open_daa.new.self.state c.all_rounds-all.new.self.state c.end-role.new.bus.state c.args.cuts.now
    c.open_daa.result c.in-Ok.opened.0 c.in-Ok.opened.1 c.all_rounds-all.new.given.items c.all_rounds-all.result c.in-Ok.is c.open_daa.ensures.carried.step c.open_daa.ensures.carried.told
    c.all_rounds-all.ensures.gives c.end-role.ensures.carried.step c.end-role.ensures.carried.told
