use Rattle.std.proofs.Common.{◌≡◌, ◌∙◌, inr, subst}
use Rattle.i3c_cli.specs.Tellings.{TellsFrames, printed_marks}
use Rattle.i3c_cli.proofs.telling.print_captured.Goals as goal

pub returns-clause-told : goal.returns-clause-told
returns-clause-told g c =
    let old = g.W.Write.contents c.args.out.now in
    let new = g.W.Write.contents c.print_whole.new.out in
    let captured = c.args.captured in
    let frames = c.in_ok-frames.frames in
    let marks : c.deref.result.now ≡ printed_marks c.args.numbers captured.marks.items = c.deref.ensures.value ∙ c.in_ok-marks.ensures in
    inr (record {
      frames = frames;
      are = c.in_ok-frames.ensures.0;
      outcome = c.print_whole.result;
      told = subst (λ marks. TellsFrames c.args.telling frames marks old new c.print_whole.result) marks c.print_whole.ensures.told;
      same = c.tally_of.ensures;
    })
