use Rattle.std.proofs.Common.{◌≡◌, ◌∙◌, ap, arith, length}
use Rattle.i3c_traces.proofs.AsciiLaws.{marked, marked_all, marked_more, marked_none}
use Rattle.i3c_traces.proofs.trace.mark_unknown.Goals as goal

pub loop-byte-init : goal.loop-byte-init
loop-byte-init c = marked_none c.args.bytes.now

pub loop-byte-preserved : goal.loop-byte-preserved
loop-byte-preserved c = marked_more c.args.bytes.now c.loop-byte.bytes c.loop-byte.byte-index _ (omega arith) c.loop-byte.invariant c.ascii_byte.ensures

pub returns : goal.returns
returns c =
    let all : c.loop-byte.byte-index ≡ length c.args.bytes.now = omega arith in
    c.loop-byte.invariant ∙ ap (λ n. marked n c.args.bytes.now) all ∙ marked_all c.args.bytes.now
