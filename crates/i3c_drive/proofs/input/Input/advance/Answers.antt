use Rattle.std.proofs.Common.{◌<◌, Ok, ap, arith, length, refl}
use Rattle.std.proofs.lemmas.Grind.{common_steps}
use Rattle.i3c_lines.specs.Gathering.{gathered}
use Rattle.i3c_drive.proofs.Inputs.{front_came, front_put, input_ends, last_came, line_came, nothing_begun, piece_read}
use Rattle.i3c_drive.proofs.input.Input.advance.Goals as goal

pub loop-init : goal.loop-init
loop-init g c = nothing_begun (g.R.Read.remaining c.args.reader.now) c.args.self.now _ refl c.new-self.ensures

pub returns-then-take_front : goal.returns-then-take_front
returns-then-take_front g c =
    record { given = line_came (g.R.Read.remaining c.args.reader.now) (g.R.Read.remaining c.loop.reader) c.args.self.now c.loop.self c.take_front.new.self c.loop.invariant c.if-take_front.ensures }

pub returns-in-Ok-false-2 : goal.returns-in-Ok-false-2
returns-in-Ok-false-2 g c =
    let left = g.R.Read.remaining c.args.reader.now in
    let now = g.R.Read.remaining c.loop.reader in
    let next = g.R.Read.remaining c.read_more.new.reader in
    let old = c.args.self.now in
    let put = c.take_front.new.self in
    let new = c.read_more.new.self in
    let front = c.if-take_front.ensures in
    let ended = c.in-Ok-false.ensures.ended (ap Ok c.in-Ok-false.field-0-test) in
    let so_far = front_put left now old c.loop.self put c.loop.invariant front.0 front.1 front.2 in
    let some : 0 < length (gathered new.line) = grind (arith, common_steps, c.if-is_empty.false, c.is_empty.ensures, c.as_slice.ensures) in
    record { given = last_came left next old new (input_ends left now next old put new so_far front.1 ended.0 c.in-Ok-false.ensures.line ended.2) some ended.2 ended.1 }

pub returns-in-Err : goal.returns-in-Err
returns-in-Err g c =
    let left = g.R.Read.remaining c.args.reader.now in
    let now = g.R.Read.remaining c.loop.reader in
    let next = g.R.Read.remaining c.read_more.new.reader in
    let old = c.args.self.now in
    let put = c.take_front.new.self in
    let new = c.read_more.new.self in
    let front = c.if-take_front.ensures in
    let fault = c.in-Err.ensures.fault in
    let so_far = front_put left now old c.loop.self put c.loop.invariant front.0 front.1 front.2 in
    record { given = (fault.0, front_came left next old new (input_ends left now next old put new so_far front.1 fault.1 c.in-Err.ensures.line fault.2)) }

pub loop-preserved : goal.loop-preserved
loop-preserved g c =
    let left = g.R.Read.remaining c.args.reader.now in
    let now = g.R.Read.remaining c.loop.reader in
    let next = g.R.Read.remaining c.read_more.new.reader in
    let front = c.if-take_front.ensures in
    let so_far = front_put left now c.args.self.now c.loop.self c.take_front.new.self c.loop.invariant front.0 front.1 front.2 in
    piece_read left now next c.args.self.now c.take_front.new.self c.read_more.new.self so_far front.1 (c.in-Ok-true.ensures.piece (ap Ok c.in-Ok-true.field-0-test)) c.in-Ok-true.ensures.line
