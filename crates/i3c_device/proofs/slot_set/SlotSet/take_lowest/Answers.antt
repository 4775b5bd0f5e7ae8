-- The lowest of the bits that stand for slots, where one of them is set.
use Rattle.std.proofs.Common.{ap, arith, ◌==◌}
use Rattle.i3c_base.specs.declared.range.TheConstants.{SLOTS}
use Rattle.i3c_device.proofs.SetLaws.{lowest_in, none_first, put_out, put_out_less}
use Rattle.i3c_device.proofs.slot_set.SlotSet.take_lowest.Goals as goal

pub returns-then-self-eq0-clause-taken : goal.returns-then-self-eq0-clause-taken
returns-then-self-eq0-clause-taken c s l = ap (λ b. b == 1) (none_first c.args.self.now.bits SLOTS s c.if-self-eq0.true l)

pub returns-clause-taken : goal.returns-clause-taken
returns-clause-taken c =
    let n = c.args.self.now.bits in
    let least = lowest_in n SLOTS (omega arith) c.if-self-eq0.false in
    (least.0, ap (λ b. b == 1) least.1, λ s l. ap (λ b. b == 1) (least.2 s l), λ s l. put_out n _ s (omega (arith, least.0)) (omega (arith, l)))

pub returns-clause-smaller : goal.returns-clause-smaller
returns-clause-smaller c =
    let n = c.args.self.now.bits in
    let least = lowest_in n SLOTS (omega arith) c.if-self-eq0.false in
    put_out_less n _ (omega (arith, least.0)) least.1
