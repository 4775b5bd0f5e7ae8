use Rattle.std.proofs.Common.{◌≡◌, IfSome, subst, sym}
use Rattle.i3c_wave.proofs.RunLaws.{prefix_out}
use Rattle.i3c_wave.proofs.run.run_wave.Goals as goal

pub returns-clause-lines : goal.returns-clause-lines
returns-clause-lines g c =
    let known = g.R.Read.remaining c.args.source.now.reader in
    let text = c.deref.result.now in
    let read : IfSome known (λ bytes. text ≡ bytes) = subst (λ text. IfSome known (λ bytes. text ≡ bytes)) (sym c.deref.ensures.value) c.in_ok-text.ensures.text in
    prefix_out c.args.legacies.0 c.args.content known (g.W.Write.contents c.args.writer.now) (g.W.Write.contents c.write_fault.new.out) text c.in-Err.fault c.in-Err-write_fault.stop read c.in-Err.ensures.fault c.in-Err-write_fault.ensures.line.1
