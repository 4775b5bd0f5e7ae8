use Rattle.std.proofs.Common.{rules, Ok, ap, arith}
use Rattle.std.proofs.lemmas.Grind.{common_steps}
use Rattle.i3c_tracks.proofs.FileRead.{all_few, all_lines, no_lines, nothing_read, one_more}
use Rattle.i3c_tracks.proofs.exploring.read_lines.Goals as goal

pub loop-init : goal.loop-init
loop-init g c = record {
  room = omega (arith, c.in-Ok.ensures.len);
  read = nothing_read (g.R.Read.remaining c.args.reader.now) c.new-script.result c.new-script.ensures.reading c.new-script.ensures.bytes;
  lines = no_lines c.new-script.result c.new-lines.result.items c.new-script.ensures.given c.new-lines.ensures.items;
}

pub loop-preserved : goal.loop-preserved
loop-preserved g c =
    let known = g.R.Read.remaining c.args.reader.now in
    let so_far = c.loop.invariant in
    let gives = c.in-Ok-true.ensures.line (ap Ok c.in-Ok-true.field-0-test) in
    let more = c.in-Ok-add_line.ensures in
    record {
      room = first_of (search rules, grind (arith, common_steps));
      read = c.in-Ok-true.ensures.read known so_far.read;
      lines = one_more c.loop.script c.advance.new.self c.loop.lines.items c.add_line.new.lines.items c.line.result.now more.0 so_far.lines gives c.line.ensures more.1 more.2;
    }

pub returns-in-Ok-false-clause-fits : goal.returns-in-Ok-false-clause-fits
returns-in-Ok-false-clause-fits g c =
    let known = g.R.Read.remaining c.args.reader.now in
    let out = c.in-Ok-false.ensures.ended (ap Ok c.in-Ok-false.field-0-test) in
    all_few known (g.R.Read.remaining c.advance.new.reader) c.advance.new.self out.1 (c.in-Ok-false.ensures.read known c.loop.invariant.read)

pub returns-in-Ok-false-clause-lines : goal.returns-in-Ok-false-clause-lines
returns-in-Ok-false-clause-lines g c =
    let known = g.R.Read.remaining c.args.reader.now in
    let out = c.in-Ok-false.ensures.ended (ap Ok c.in-Ok-false.field-0-test) in
    all_lines known (g.R.Read.remaining c.advance.new.reader) c.loop.script c.advance.new.self c.loop.lines.items c.loop.invariant.lines out.0 out.1 (c.in-Ok-false.ensures.read known c.loop.invariant.read)
