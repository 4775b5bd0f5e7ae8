-- One block more, until none is left.
use Rattle.std.proofs.Common.{◌∙◌, ℕ, arith, subst}
use Rattle.i3c_tracks.specs.Courses.{RunIn}
use Rattle.i3c_tracks.proofs.CourseLaws.{block_at, blocks_more}
use Rattle.i3c_tracks.proofs.course.runs_of.Goals as goal

pub loop-index-preserved : goal.loop-index-preserved
loop-index-preserved c =
    let (own, are, put) = c.in_ok-add_block.ensures in
    blocks_more c.args.blocks.now c.args.opened.now c.args.order.now c.loop-index.index c.loop-index.runs.items own c.add_block.new.runs.items c.loop-index.rest.now c.turns_of.result.0.now c.turns_of.result.1.now
    c.as_slice-block.result.now c.is_opened-opened.result c.loop-index.invariant
    (c.as_slice-block.ensures.value ∙ block_at c.args.blocks.now c.loop-index.index c.index-blocks-index.result c.loop-index-test.true c.index-blocks-index.is)
    c.is_opened-opened.ensures c.turns_of.ensures.taken c.turns_of.ensures.left are put

pub returns : goal.returns
returns c = (c.loop-index.rest.now, subst (λ (n : ℕ). RunIn c.args.blocks.now c.args.opened.now c.args.order.now n c.loop-index.runs.items c.loop-index.rest.now) (omega (arith, c.loop-index-test.false, c.loop-index.auto.index-end)) c.loop-index.invariant)
