-- Behind the last ones nothing is left to add.
use Rattle.std.proofs.Common.{◌∙◌, ◌++◌, ap, arith, sym}
use Rattle.std.proofs.lemmas.List.{append-nil}
use Rattle.i3c_tracks.proofs.UnexpectedLaws.{no_blocks}
use Rattle.i3c_tracks.proofs.unexpected.add_blocks.Goals as goal

pub returns : goal.returns
returns c =
    sym (append-nil c.loop-index.numbers.items) ∙ sym (ap (λ more. c.loop-index.numbers.items ++ more) (no_blocks c.args.blocks.now c.args.marks.now c.loop-index.index (omega (arith, c.min-index-end.ensures, c.loop-index-test.false)))) ∙ c.loop-index.invariant
