use Rattle.std.proofs.Common.{◌≤◌, ◌++◌, arith, subst, sym, take}
use Rattle.i3c_lines.specs.Gathering.{gathered}
use Rattle.i3c_streams.specs.Outcomes.{written}
use Rattle.i3c_streams.specs.Reading.{IsPiece}
use Rattle.i3c_runner.specs.ScriptSteps.{ReadPart, RunsTo, progress}
use Rattle.i3c_streams.specs.declared.reading.TheConstants.{MOST_BYTES}
use Rattle.i3c_runner.proofs.ScriptRead.{all_so_far, large_part, leaves_all, leaves_more, more_so_far, none_so_far, stopped_in, unread_part}
use Rattle.i3c_runner.proofs.script.Script.read_all.Goals as goal

pub loop-init : goal.loop-init
loop-init g c =
    let known = g.R.Read.remaining c.args.reader.now in
    (omega arith, leaves_all known MOST_BYTES, λ none. none_so_far known (g.W.Write.contents c.args.out.now) (gathered c.args.self.now.line) (progress c.args.self.now) none)

pub returns-in-Err-clause-runs : goal.returns-in-Err-clause-runs
returns-in-Err-clause-runs g c none =
    let known = g.R.Read.remaining c.args.reader.now in
    let now = g.R.Read.remaining c.loop.reader in
    let next = g.R.Read.remaining c.read_piece.new.reader in
    let old = g.W.Write.contents c.args.out.now in
    let mid = g.W.Write.contents c.loop.out in
    let so_far = c.loop.invariant.2 none in
    subst (ReadPart known next old mid (progress c.args.self.now)) (sym c.in-Err.ensures.0)
    (unread_part known now next old mid (gathered c.loop.self.line) (progress c.args.self.now) (progress c.loop.self) c.loop.left so_far c.in-Err.ensures.1)

pub returns-in-End-clause-runs : goal.returns-in-End-clause-runs
returns-in-End-clause-runs g c none =
    let known = g.R.Read.remaining c.args.reader.now in
    let now = g.R.Read.remaining c.loop.reader in
    let next = g.R.Read.remaining c.read_piece.new.reader in
    let old = g.W.Write.contents c.args.out.now in
    let mid = g.W.Write.contents c.loop.out in
    let new = g.W.Write.contents c.end.new.out in
    let so_far = c.loop.invariant.2 none in
    let piece = subst (IsPiece now next c.loop.left c.read_piece.new.chunk) c.in-End.is c.in-Ok.ensures in
    all_so_far known now next old mid new (gathered c.loop.self.line) (progress c.args.self.now) (progress c.loop.self) (progress c.end.new.self) c.loop.left c.end.result so_far piece.1 piece.2
    (c.end.ensures.runs so_far.rest so_far.begun so_far.runs.one)

pub returns-in-Err-take-clause-runs : goal.returns-in-Err-take-clause-runs
returns-in-Err-take-clause-runs g c none =
    let known = g.R.Read.remaining c.args.reader.now in
    let now = g.R.Read.remaining c.loop.reader in
    let next = g.R.Read.remaining c.read_piece.new.reader in
    let old = g.W.Write.contents c.args.out.now in
    let mid = g.W.Write.contents c.loop.out in
    let new = g.W.Write.contents c.take.new.out in
    let so_far = c.loop.invariant.2 none in
    let chunk = c.read_piece.new.chunk in
    let count = c.in-Within.count in
    let piece = subst (IsPiece now next c.loop.left chunk) c.in-Within.is c.in-Ok.ensures in
    let same : count ≤ count = omega arith in
    stopped_in known now next old mid new (gathered c.loop.self.line) chunk (progress c.args.self.now) (progress c.loop.self) c.loop.left count count c.in-Err-take.fault so_far same piece.3
    (c.in-Err-take.ensures.runs so_far.rest so_far.begun so_far.runs.one)

pub returns-in-Err-take-2-clause-runs : goal.returns-in-Err-take-2-clause-runs
returns-in-Err-take-2-clause-runs g c none =
    let known = g.R.Read.remaining c.args.reader.now in
    let now = g.R.Read.remaining c.loop.reader in
    let next = g.R.Read.remaining c.read_piece.new.reader in
    let old = g.W.Write.contents c.args.out.now in
    let mid = g.W.Write.contents c.loop.out in
    let new = g.W.Write.contents c.take-in-Beyond.new.out in
    let so_far = c.loop.invariant.2 none in
    let chunk = c.read_piece.new.chunk in
    let count = c.in-Beyond.count in
    let piece = subst (IsPiece now next c.loop.left chunk) c.in-Beyond.is c.in-Ok.ensures in
    let (more, larger, room, consumed) = piece.3 in
    let within : count ≤ more = omega (arith, piece.0, larger) in
    stopped_in known now next old mid new (gathered c.loop.self.line) chunk (progress c.args.self.now) (progress c.loop.self) c.loop.left count more c.in-Err-take-2.fault so_far within consumed
    (c.in-Err-take-2.ensures.runs so_far.rest so_far.begun so_far.runs.one)

pub returns-in-Ok-take-2-clause-runs : goal.returns-in-Ok-take-2-clause-runs
returns-in-Ok-take-2-clause-runs g c none =
    let known = g.R.Read.remaining c.args.reader.now in
    let now = g.R.Read.remaining c.loop.reader in
    let next = g.R.Read.remaining c.read_piece.new.reader in
    let old = g.W.Write.contents c.args.out.now in
    let mid = g.W.Write.contents c.loop.out in
    let new = g.W.Write.contents c.take-in-Beyond.new.out in
    let so_far = c.loop.invariant.2 none in
    let chunk = c.read_piece.new.chunk in
    let c1 = progress c.loop.self in
    let c2 = progress c.take-in-Beyond.new.self in
    let piece = subst (IsPiece now next c.loop.left chunk) c.in-Beyond.is c.in-Ok.ensures in
    let (more, larger, room, consumed) = piece.3 in
    let (rest, runs, begins) = c.in-Ok-take-2.ensures.runs so_far.rest so_far.begun so_far.runs.one in
    large_part known now next old mid new (gathered c.loop.self.line) chunk (progress c.args.self.now) c1 c2 c.loop.left more so_far larger room consumed rest
    (subst (λ n. RunsTo (so_far.rest ++ take n chunk) rest (written mid) (written new) c1 c2) piece.0 runs)

pub loop-preserved : goal.loop-preserved
loop-preserved g c =
    let known = g.R.Read.remaining c.args.reader.now in
    let now = g.R.Read.remaining c.loop.reader in
    let next = g.R.Read.remaining c.read_piece.new.reader in
    let old = g.W.Write.contents c.args.out.now in
    let mid = g.W.Write.contents c.loop.out in
    let new = g.W.Write.contents c.take.new.out in
    let chunk = c.read_piece.new.chunk in
    let count = c.in-Within.count in
    let piece = subst (IsPiece now next c.loop.left chunk) c.in-Within.is c.in-Ok.ensures in (
      omega (arith, piece.0, piece.1, c.loop.invariant.0),
      leaves_more known now next chunk MOST_BYTES c.loop.left count c.loop.invariant.1 piece.3 piece.1 piece.2,
      λ none.
          let so_far = c.loop.invariant.2 none in
          let (rest, runs, begins) = c.in-Ok-take.ensures.runs so_far.rest so_far.begun so_far.runs.one in
          more_so_far known now next old mid new (gathered c.loop.self.line) (gathered c.take.new.self.line) chunk (progress c.args.self.now) (progress c.loop.self) (progress c.take.new.self) c.loop.left count so_far piece.1 piece.2 piece.3 rest runs begins,
    )
