use Rattle.std.proofs.Common.{replicate, refl, arith}
use Rattle.i3c_base.specs.Cutting.{lost_by}
use Rattle.i3c_model.proofs.Transfers.{all_ones, together_all, together_past, together_start, together_with}
use Rattle.i3c_model.proofs.plain.Plain.registers_together.Goals.{in-Some, in_default}
use Rattle.i3c_model.proofs.plain.Plain.registers_together.Goals as goal

pub loop-index-init : goal.loop-index-init
loop-index-init c = together_start c.args.self.now c.args.at (lost_by c.args.cuts.now c.args.last) (replicate 16 255) refl (all_ones 16)

pub loop-index-preserved : goal.loop-index-preserved
loop-index-preserved c = elim c.match-given.branch [
  | in-Some w ↦ rw w.both-is (together_with c.args.self.now c.args.at (lost_by c.args.cuts.now c.args.last) c.loop-index.index c.loop-index.both w.in-Some.registers w.bitwise_and-both.result c.loop-index.invariant (rw c.from_index.ensures at w.in-Some.ensures) w.bitwise_and-both.ensures.all w.bitwise_and-both.ensures.each)
  | in_default w ↦ rw w.both-is (together_past c.args.self.now c.args.at (lost_by c.args.cuts.now c.args.last) c.loop-index.index c.loop-index.both c.loop-index.invariant (rw c.from_index.ensures at w.in_default.ensures))
]

pub returns-clause-all : goal.returns-clause-all
returns-clause-all c = c.loop-index.invariant.0

pub returns-clause-together : goal.returns-clause-together
returns-clause-together c = together_all c.args.self.now c.args.at (lost_by c.args.cuts.now c.args.last) c.loop-index.index c.loop-index.both (omega (arith, c.loop-index-test.false, c.slots-index-end.ensures.all)) c.loop-index.invariant
