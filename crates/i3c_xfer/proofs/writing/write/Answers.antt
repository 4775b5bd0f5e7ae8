-- If the header is acknowledged the bytes are written, and otherwise nothing changes.
use Rattle.std.proofs.Common.{◌+◌, ◌∙◌, sym}
use Rattle.std.proofs.lemmas.Bool.{both_ways}
use Rattle.i3c_base.specs.declared.answers.Answer.{Answer}
use Rattle.i3c_base.specs.Cutting.{lost_by}
use Rattle.i3c_base.specs.Frames.{write_bits}
use Rattle.i3c_xfer.proofs.TransferLaws.{same_there, write_missed, write_taken, written_there}
use Rattle.i3c_xfer.proofs.writing.write.Goals as goal

pub returns-then-is_acknowledged-clause-writes : goal.returns-then-is_acknowledged-clause-writes
returns-then-is_acknowledged-clause-writes c st has e =
    let acked = sym c.is_acknowledged.ensures ∙ c.if-is_acknowledged.true in
    write_taken st (record st { devices = c.write.new.self; legacy = c.write-then-is_acknowledged.new.self }) c.args.to c.args.bytes.now c.taker-taker.result (lost_by c.args.cuts.now (c.args.bits_before + 9))
    (λ (answer : Answer). lost_by c.args.cuts.now (c.args.bits_before + write_bits c.args.bytes.now answer)) acked ((c.taker-taker.ensures.acknowledged st has e).0 acked)
    ((λ t. record st { devices = c.write.ensures t; legacy = c.write-then-is_acknowledged.ensures t }) ∙ written_there st c.args.to c.args.bytes.now c.args.devices.now c.args.active c.args.legacy.now has e)

pub returns-else-is_acknowledged-clause-writes : goal.returns-else-is_acknowledged-clause-writes
returns-else-is_acknowledged-clause-writes c st has e =
    let missed = sym c.is_acknowledged.ensures ∙ c.if-is_acknowledged.false in
    write_missed st (record st { devices = c.args.devices.now; legacy = c.args.legacy.now }) c.args.to c.args.bytes.now c.taker-taker.result c.args.cuts.now c.args.bits_before missed
    (λ any. both_ways _ missed ((c.taker-taker.ensures.acknowledged st has e).1 any)) (c.taker-taker.ensures.written st e) (same_there st c.args.devices.now c.args.active c.args.legacy.now has e)
