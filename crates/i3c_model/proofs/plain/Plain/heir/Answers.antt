use Rattle.std.proofs.Common.{sym, ◌∙◌, arith}
use Rattle.std.proofs.lemmas.Bool.{both_ways}
use Rattle.i3c_base.specs.Cutting.{lost_by}
use Rattle.i3c_model.proofs.Offering.{heir_more, heir_none}
use Rattle.i3c_model.proofs.plain.Plain.heir.Goals.{else-is_willing-via-then-is_willing+else-not-is_lost, else-is_willing-via-else-is_willing}
use Rattle.i3c_model.proofs.plain.Plain.heir.Goals as goal

pub returns-then-not-is_lost : goal.returns-then-not-is_lost
returns-then-not-is_lost c =
    (c.is_willing.ensures.0 c.if-is_willing.true, sym c.is_lost.ensures ∙ c.if-not-is_lost.true, λ t l w. c.loop-index.invariant t (let same = c.from_index-slot.ensures in omega (arith, same, l)) w)

pub loop-index-preserved : goal.loop-index-preserved
loop-index-preserved c = heir_more c.args.self.now c.args.at (lost_by c.args.cuts.now c.args.last) c.loop-index.index c.from_index-slot.result c.loop-index.invariant c.from_index-slot.ensures (λ willing. elim c.else-is_willing.branch [
  | else-is_willing-via-then-is_willing+else-not-is_lost w ↦ sym w.is_lost.ensures ∙ w.if-not-is_lost.false
  | else-is_willing-via-else-is_willing w ↦ absurd (both_ways _ w.if-is_willing.false (c.is_willing.ensures.1 willing))
])

pub returns : goal.returns
returns c = heir_none c.args.self.now c.args.at (lost_by c.args.cuts.now c.args.last) c.loop-index.index (omega (arith, c.loop-index-test.false, c.slots-index-end.ensures.all)) c.loop-index.invariant
