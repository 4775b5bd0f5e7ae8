use Rattle.std.proofs.Common.{ℕ, slice_index, arith}
use Rattle.i3c_base.specs.Cutting.{lost_by}
use Rattle.i3c_model.specs.Meaning.{DrivesToldLeft}
use Rattle.i3c_model.proofs.Together.{and_past, and_start, and_whole, and_with}
use Rattle.i3c_model.proofs.Told.{one_told, told_driven, told_low}
use Rattle.i3c_model.proofs.plain.Plain.byte_together.Goals.{in-Some, in_default}
use Rattle.i3c_model.proofs.plain.Plain.byte_together.Goals as goal

pub loop-index-init : goal.loop-index-init
loop-index-init c = and_start (DrivesToldLeft c.args.self.now c.args.what c.args.at (lost_by c.args.cuts.now c.args.last) c.args.k)

pub loop-index-preserved : goal.loop-index-preserved
loop-index-preserved c =
    let lost = lost_by c.args.cuts.now c.args.last in
    let D : ℕ → ℕ → Type 0 = DrivesToldLeft c.args.self.now c.args.what c.args.at lost c.args.k in
    elim c.match-told.branch [
      | in-Some w ↦
          let driven = told_driven c.args.self.now c.args.what c.args.at lost c.loop-index.index w.in-Some.bytes c.args.k (rw c.from_index.ensures at w.in-Some.ensures) in
          rw w.both-is (rw w.byte_of-both.ensures (and_with D c.loop-index.index c.loop-index.both (slice_index w.in-Some.bytes c.args.k) c.loop-index.invariant driven (λ v d. one_told c.args.self.now c.args.what c.args.at lost c.args.k c.loop-index.index (slice_index w.in-Some.bytes c.args.k) v driven d)))
      | in_default w ↦ rw w.both-is (and_past D c.loop-index.index c.loop-index.both c.loop-index.invariant (λ v d. rw c.from_index.ensures at w.in_default.ensures d.0.0 d.0.1 d.1))
    ]

pub returns : goal.returns
returns c = and_whole (DrivesToldLeft c.args.self.now c.args.what c.args.at (lost_by c.args.cuts.now c.args.last) c.args.k) c.loop-index.index c.loop-index.both
    (λ s v d. let low = told_low c.args.self.now c.args.what c.args.at (lost_by c.args.cuts.now c.args.last) c.args.k s v d in omega (arith, low, c.loop-index-test.false, c.slots-index-end.ensures.all)) c.loop-index.invariant
