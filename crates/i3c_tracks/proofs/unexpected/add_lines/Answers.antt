-- Behind the last ones nothing is left to add.
use Rattle.std.proofs.Common.{◌∙◌, ◌+◌, ◌<◌, ◌++◌, ◌∷◌, [], ap, arith, drop, length, min, sym}
use Rattle.std.proofs.lemmas.List.{append-nil, append_assoc}
use Rattle.i3c_scene.specs.declared.line.Line.{Line}
use Rattle.i3c_tracks.specs.Unexpected.{marked_lines}
use Rattle.i3c_tracks.proofs.UnexpectedLaws.{marked_here, no_lines, unmarked_here}
use Rattle.i3c_tracks.proofs.unexpected.add_lines.Goals as goal
use Rattle.i3c_tracks.proofs.unexpected.add_lines.Goals.{then-marks-index+in_ok-push, else-marks-index}

pub returns : goal.returns
returns c =
    sym (append-nil c.loop-index.numbers.items) ∙ sym (ap (λ more. c.loop-index.numbers.items ++ more) (no_lines c.args.lines.now c.args.marks.now c.loop-index.index (omega (arith, c.min-index-end.ensures, c.loop-index-test.false)))) ∙ c.loop-index.invariant

pub loop-index-preserved : goal.loop-index-preserved
loop-index-preserved c =
    let lines = c.args.lines.now in
    let marks = c.args.marks.now in
    let i = c.loop-index.index in
    let few : i < min (length lines) (length marks) = omega (arith, c.min-index-end.ensures, c.loop-index-test.true) in
    let within : i < length lines = omega (arith, few) in
    let inside : i < length marks = omega (arith, few) in
    let rest = marked_lines (drop (i + 1) lines) (drop (i + 1) marks) in
    elim c.if-marks-index.branch [
      | then-marks-index+in_ok-push w ↦
          let line = w.index-lines-index.result in
          ap (λ items. items ++ rest) (ap (λ v. v.items) w.numbers-is ∙ w.in_ok-push.ensures.items ∙ ap (λ (l : Line). c.loop-index.numbers.items ++ l.number ∷ []) (sym w.index-lines-index.is)) ∙ append_assoc c.loop-index.numbers.items (line.number ∷ []) rest
          ∙ sym (ap (λ more. c.loop-index.numbers.items ++ more) (marked_here lines marks i line within inside w.index-lines-index.is (sym w.if-marks-index.true))) ∙ c.loop-index.invariant
      | else-marks-index w ↦
          ap (λ v. v.items ++ rest) w.numbers-is
          ∙ sym (ap (λ more. c.loop-index.numbers.items ++ more) (unmarked_here lines marks i within inside (sym w.if-marks-index.false))) ∙ c.loop-index.invariant
    ]
