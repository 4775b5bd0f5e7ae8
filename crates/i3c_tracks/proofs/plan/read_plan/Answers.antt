-- The plan of a file's lines, which are read one after another.
use Rattle.std.proofs.Common.{◌∙◌, ◌+◌, ℕ, List, ◌∷◌, None, arith, refl, subst, sym}
use Rattle.std.specs.Global.{Vec}
use Rattle.i3c_tracks.specs.Planning.{AreSaid}
use Rattle.i3c_tracks.specs.Saying.{IsFileLine}
use Rattle.i3c_tracks.specs.Taking.{IsTakenNot}
use Rattle.i3c_tracks.proofs.Reading.{one_taken, planned, refused_at}
use Rattle.i3c_tracks.proofs.plan.read_plan.Goals as goal

pub loop-index-init : goal.loop-index-init
loop-index-init c = (None, c.new-draft.ensures.begun None, λ more rest are. (rest, are, sym (c.new-draft.ensures.outline None rest)))

pub loop-index-preserved : goal.loop-index-preserved
loop-index-preserved c =
    let so_far = c.loop-index.invariant in
    let taken = c.in-Ok.ensures in
    let at = c.loop-index.index in
    let line = c.index-lines-index.result in
    let later = taken.3 so_far.0 so_far.1 in (
      later.0,
      later.1,
      λ more rest are.
          let says = subst (λ bytes. IsFileLine bytes taken.0) c.as_slice.ensures.value taken.1 in
          let all = so_far.2 (line ∷ more) ((at + 1, taken.0) ∷ rest) (refl, says, are) in
          (all.0, subst (λ (ls : List (Vec ℕ)). AreSaid 1 ls all.0) (one_taken c.args.lines.now at line more c.loop-index-test.true c.index-lines-index.is) all.1, all.2 ∙ sym (later.2 rest)),
    )

pub returns-in-Err : goal.returns-in-Err
returns-in-Err c =
    let so_far = c.loop-index.invariant in
    let why = subst (λ (bytes : List ℕ). IsTakenNot c.loop-index.draft (c.loop-index.index + 1) bytes c.in-Err.fault) c.as_slice.ensures.value c.in-Err.ensures in
    refused_at c.args.lines.now c.loop-index.index c.index-lines-index.result c.loop-index.draft so_far.0 c.in-Err.fault c.loop-index-test.true c.index-lines-index.is so_far.2 why

pub returns : goal.returns
returns c =
    let so_far = c.loop-index.invariant in
    planned c.args.lines.now c.loop-index.index c.loop-index.draft so_far.0 c.finish.result (omega arith) so_far.1 so_far.2 c.finish.ensures
