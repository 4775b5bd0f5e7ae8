use Rattle.std.proofs.Common.{Ok, ap, subst}
use Rattle.std.specs.Io.KnownBytes.{Appends}
use Rattle.i3c_runner.specs.Checks.{LineChecked}
use Rattle.i3c_streams.specs.Outcomes.{AppendsSome}
use Rattle.i3c_runner.proofs.CheckRuns.{all_checked, checks_lost, checks_stop, one_checked}
use Rattle.i3c_runner.proofs.check.Check.check_all.Goals as goal

pub returns-in-Ok-false-clause-checks : goal.returns-in-Ok-false-clause-checks
returns-in-Ok-false-clause-checks g c =
    let known = g.R.Read.remaining c.args.reader.now in
    let self = c.loop-number.self in
    let out = c.in-Ok-false.ensures.ended (ap Ok c.in-Ok-false.field-0-test) in
    all_checked known (g.R.Read.remaining c.loop-number.reader) (g.R.Read.remaining c.advance.new.reader) (g.W.Write.contents c.args.out.now) (g.W.Write.contents c.loop-number.out) c.loop-number.lines c.advance.new.self
    c.args.self.now.names self.names c.args.self.now.told self.told c.loop-number.number c.loop-number.invariant out.0 out.1 (c.in-Ok-false.ensures.read known c.loop-number.invariant.read)

pub returns-in-Err-clause-checks : goal.returns-in-Err-clause-checks
returns-in-Err-clause-checks g c =
    let self = c.loop-number.self in
    checks_stop (g.R.Read.remaining c.args.reader.now) (g.R.Read.remaining c.loop-number.reader) (g.W.Write.contents c.args.out.now) (g.W.Write.contents c.loop-number.out) c.loop-number.lines c.args.self.now.names self.names
    c.args.self.now.told self.told c.loop-number.number c.loop-number.invariant

pub returns-in-Err-check_line-clause-checks : goal.returns-in-Err-check_line-clause-checks
returns-in-Err-check_line-clause-checks g c =
    let self = c.loop-number.self in
    checks_stop (g.R.Read.remaining c.args.reader.now) (g.R.Read.remaining c.loop-number.reader) (g.W.Write.contents c.args.out.now) (g.W.Write.contents c.loop-number.out) c.loop-number.lines c.args.self.now.names self.names
    c.args.self.now.told self.told c.loop-number.number c.loop-number.invariant

pub returns-clause-checks : goal.returns-clause-checks
returns-clause-checks g c =
    let self = c.loop-number.self in
    checks_stop (g.R.Read.remaining c.args.reader.now) (g.R.Read.remaining c.loop-number.reader) (g.W.Write.contents c.args.out.now) (g.W.Write.contents c.loop-number.out) c.loop-number.lines c.args.self.now.names self.names
    c.args.self.now.told self.told c.loop-number.number c.loop-number.invariant

pub returns-in-Err-write_out-clause-checks : goal.returns-in-Err-write_out-clause-checks
returns-in-Err-write_out-clause-checks g c =
    let known = g.R.Read.remaining c.args.reader.now in
    let next = g.R.Read.remaining c.advance.new.reader in
    let old = g.W.Write.contents c.args.out.now in
    let mid = g.W.Write.contents c.loop-number.out in
    let new = g.W.Write.contents c.write_out.new.out in
    let self = c.loop-number.self in
    let text = c.check_line.new.self.text in
    let number = c.loop-number.number in
    let gives = c.in-Ok-true.ensures.line (ap Ok c.in-Ok-true.field-0-test) in
    let does = subst (λ line. LineChecked self.names number line text c.check_line.new.self.names) c.line.ensures c.in-Ok.ensures.0 in
    let out = subst (AppendsSome mid new) c.as_bytes.ensures c.in-Err-write_out.ensures.1 in
    checks_lost known (g.R.Read.remaining c.loop-number.reader) next old mid new c.loop-number.lines c.advance.new.self c.args.self.now.names self.names c.check_line.new.self.names c.args.self.now.told self.told number text
    c.loop-number.invariant gives (c.in-Ok-true.ensures.read known c.loop-number.invariant.read) does out

pub loop-number-preserved : goal.loop-number-preserved
loop-number-preserved g c =
    let known = g.R.Read.remaining c.args.reader.now in
    let next = g.R.Read.remaining c.advance.new.reader in
    let old = g.W.Write.contents c.args.out.now in
    let mid = g.W.Write.contents c.loop-number.out in
    let new = g.W.Write.contents c.write_out.new.out in
    let self = c.loop-number.self in
    let text = c.check_line.new.self.text in
    let number = c.loop-number.number in
    let gives = c.in-Ok-true.ensures.line (ap Ok c.in-Ok-true.field-0-test) in
    let does = subst (λ line. LineChecked self.names number line text c.check_line.new.self.names) c.line.ensures c.in-Ok.ensures.0 in
    let out = subst (Appends mid new) c.as_bytes.ensures c.in-Ok-write_out.ensures in
    one_checked known (g.R.Read.remaining c.loop-number.reader) next old mid new c.loop-number.lines c.advance.new.self c.args.self.now.names self.names c.check_line.new.self.names c.args.self.now.told self.told
    c.check_line.new.self.told number text c.loop-number.invariant gives (c.in-Ok-true.ensures.read known c.loop-number.invariant.read) does c.in-Ok.ensures.1 out
