-- From turn to turn; and what was read in the end.
use Rattle.std.proofs.Common.{◌<◌, ◌^◌, arith, slice_index, subst}
use Rattle.i3c_wires.proofs.KeptColumns.{Contesting, IsHighest, contest_first, contest_last, contesting_one, contesting_zero, highest_less}
use Rattle.i3c_wires.proofs.bit_columns.BitColumns.contest.Goals as goal
use Rattle.i3c_wires.proofs.bit_columns.BitColumns.contest.Goals.{then-zeros-eq0, else-zeros-eq0}

pub loop-turns-init : goal.loop-turns-init
loop-turns-init c = contest_first c.args.self.now c.args.among c.requires c.if-among-eq0.false (omega arith)

pub loop-turns-smaller : goal.loop-turns-smaller
loop-turns-smaller c = highest_less c.loop-turns.turns c.ilog2-left.result (record { low = c.ilog2-left.ensures.power_le; high = c.ilog2-left.ensures.next_power_gt; fits = c.ilog2-left.ensures.bound })

pub loop-turns-preserved : goal.loop-turns-preserved
loop-turns-preserved c =
    let numbers = slice_index c.args.self.now.numbers in
    let t = c.ilog2-left.result in
    let ones = slice_index c.args.self.now.ones t in
    let top : IsHighest c.loop-turns.turns t = record { low = c.ilog2-left.ensures.power_le; high = c.ilog2-left.ensures.next_power_gt; fits = c.ilog2-left.ensures.bound } in
    let turns_fit : c.loop-turns.turns < 2 ^ 64 = omega arith in
    let ones_fit : slice_index c.args.self.now.ones t < 2 ^ 64 = omega arith in
    elim c.if-zeros-eq0.branch [
      | then-zeros-eq0 w ↦ rw (w.bits-is, w.still-is)
          (contesting_one numbers c.args.among c.loop-turns.turns c.loop-turns.bits c.loop-turns.still t ones turns_fit ones_fit (λ s l. c.requires.turned t s top.fits l) w.if-zeros-eq0.true top c.loop-turns.invariant)
      | else-zeros-eq0 w ↦ rw (w.bits-is, w.still-is)
          (contesting_zero numbers c.args.among c.loop-turns.turns c.loop-turns.bits c.loop-turns.still t ones turns_fit ones_fit (λ s l. c.requires.turned t s top.fits l) w.if-zeros-eq0.false top c.loop-turns.invariant)
    ]

pub returns : goal.returns
returns c =
    contest_last c.args.self.now.numbers c.args.among c.loop-turns.bits c.loop-turns.still (omega arith)
    (subst (λ turns. Contesting (slice_index c.args.self.now.numbers) c.args.among turns c.loop-turns.bits c.loop-turns.still) c.loop-turns-test.false c.loop-turns.invariant)
