use Rattle.i3c_program.proofs.Parting.{parts_at}
use Rattle.std.proofs.Common.{arith}
use Rattle.i3c_program.proofs.scenario.part_at.Goals as goal

pub returns-in-Some : goal.returns-in-Some
returns-in-Some c =
    let a = c.in_ok-rest.ensures.items in let b = c.in_ok-rest.ensures.tail in
    parts_at c.args.blocks.items c.pop.new.self.items c.split_off.new.self.items c.in_ok-rest.rest.items c.in-Some.block c.args.at (omega (arith, c.if-at-len.false, c.len.ensures)) c.in_ok-rest.ensures.items c.in_ok-rest.ensures.tail c.in-Some.ensures.items
