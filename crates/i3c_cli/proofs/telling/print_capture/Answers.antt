use Rattle.std.proofs.Common.{inr, subst, IfSome}
use Rattle.std.specs.String.{string_bytes}
use Rattle.i3c_wave.specs.CaptureTexts.{IsFound}
use Rattle.i3c_cli.proofs.telling.print_capture.Goals as goal

pub returns-clause-told : goal.returns-clause-told
returns-clause-told g c =
    let known = g.S.Read.remaining c.args.input.now.reader in
    let capturing = c.args.capturing in
    let captured = c.in_ok-captured.captured in
    inr (record {
      captured = captured;
      read = subst (λ scl. IfSome known (λ text. IsFound capturing.legacies scl capturing.sda.now text captured)) c.as_bytes-scl.ensures.value
          (subst (λ sda. IfSome known (λ text. IsFound capturing.legacies c.as_bytes-scl.result.now sda text captured)) c.as_bytes-sda.ensures.value c.in_ok-captured.ensures.found);
      told = c.print_captured.ensures.told;
      noted = (string_bytes c.note_gap.new.notes, c.note_gap.ensures, c.print_captured.ensures.noted);
    })
