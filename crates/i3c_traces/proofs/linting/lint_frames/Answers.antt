use Rattle.std.proofs.Common.{◌≡◌, ◌++◌, ◌∙◌, ◌+◌, [], arith, min, rules, ap, append-nil, subst, sym}
use Rattle.i3c_monitor.specs.Linting.{report_lines, reported, to_come}
use Rattle.i3c_monitor.specs.LintLines.{lint_text, report_text}
use Rattle.i3c_streams.specs.Outcomes.{AppendsSome}
use Rattle.i3c_traces.specs.Linted.{break_text, breaks, faults_in, frames_text}
use Rattle.i3c_traces.proofs.LintWritten.{counted_on, ended_on, reported_on}
use Rattle.i3c_streams.proofs.WrittenOn.{front_out, some_out, written_on}
use Rattle.i3c_streams.proofs.Written.{appends_both}
use Rattle.i3c_traces.proofs.linting.lint_frames.Goals as goal

pub returns-in_err-report-clause-told : goal.returns-in_err-report-clause-told
returns-in_err-report-clause-told g c =
    let old = g.W.Write.contents c.args.out.now in
    let new = g.W.Write.contents c.loop-text.out in
    let frames = c.args.frames.now in
    let marks = c.args.marks.now in
    let inv = c.loop-text.invariant in
    let out : AppendsSome old new (frames_text c.args.legacies.0 frames marks) =
    subst (AppendsSome old new) (sym inv.2) (front_out old new inv.0 (c.loop-text.text ++ (lint_text frames.symbols.items marks (to_come c.loop-text.linter) ++ break_text frames.broken)) inv.1) in
    search rules

pub returns-in_err-push_report-clause-told : goal.returns-in_err-push_report-clause-told
returns-in_err-push_report-clause-told g c =
    let old = g.W.Write.contents c.args.out.now in
    let new = g.W.Write.contents c.loop-text.out in
    let frames = c.args.frames.now in
    let marks = c.args.marks.now in
    let inv = c.loop-text.invariant in
    let out : AppendsSome old new (frames_text c.args.legacies.0 frames marks) =
    subst (AppendsSome old new) (sym inv.2) (front_out old new inv.0 (c.loop-text.text ++ (lint_text frames.symbols.items marks (to_come c.loop-text.linter) ++ break_text frames.broken)) inv.1) in
    search rules

pub returns-in_err-write_gathered-clause-told : goal.returns-in_err-write_gathered-clause-told
returns-in_err-write_gathered-clause-told g c =
    let old = g.W.Write.contents c.args.out.now in
    let mid = g.W.Write.contents c.loop-text.out in
    let new = g.W.Write.contents c.write_gathered.new.out in
    let frames = c.args.frames.now in
    let marks = c.args.marks.now in
    let trace = frames.symbols.items in
    let tail = break_text frames.broken in
    let report = c.in-Some.report in
    let rest = to_come c.next_report.new.linter in
    let inv = c.loop-text.invariant in
    let told : to_come c.loop-text.linter ≡ report_lines report ++ rest = c.in_ok-report.ensures.told ∙ ap (λ report. reported report ++ rest) c.in-Some.is in
    let all : frames_text c.args.legacies.0 frames marks ≡ inv.0 ++ ((c.loop-text.text ++ report_text trace marks report) ++ (lint_text trace marks rest ++ tail)) =
    reported_on trace marks (frames_text c.args.legacies.0 frames marks) inv.0 c.loop-text.text tail (to_come c.loop-text.linter) (report_lines report) rest told inv.2 in
    let grown : c.push_report.new.text ≡ c.loop-text.text ++ report_text trace marks report =
    c.in_ok-push_report.ensures ∙ ap (λ trace. c.loop-text.text ++ report_text trace marks report) c.deref-in-Some.ensures.value in
    let fault = c.in_err-write_gathered.ensures.written in
    let out : AppendsSome old new (frames_text c.args.legacies.0 frames marks) =
    subst (AppendsSome old new) (sym all)
    (some_out old mid new inv.0 (c.loop-text.text ++ report_text trace marks report) (lint_text trace marks rest ++ tail) inv.1 (subst (AppendsSome mid new) grown fault.1)) in
    search rules

pub loop-text-preserved-in_ok-write_gathered : goal.loop-text-preserved-in_ok-write_gathered
loop-text-preserved-in_ok-write_gathered g c =
    let old = g.W.Write.contents c.args.out.now in
    let mid = g.W.Write.contents c.loop-text.out in
    let new = g.W.Write.contents c.write_gathered.new.out in
    let frames = c.args.frames.now in
    let marks = c.args.marks.now in
    let trace = frames.symbols.items in
    let tail = break_text frames.broken in
    let report = c.in-Some.report in
    let rest = to_come c.next_report.new.linter in
    let inv = c.loop-text.invariant in
    let told : to_come c.loop-text.linter ≡ report_lines report ++ rest = c.in_ok-report.ensures.told ∙ ap (λ report. reported report ++ rest) c.in-Some.is in
    let all : frames_text c.args.legacies.0 frames marks ≡ inv.0 ++ ((c.loop-text.text ++ report_text trace marks report) ++ (lint_text trace marks rest ++ tail)) =
    reported_on trace marks (frames_text c.args.legacies.0 frames marks) inv.0 c.loop-text.text tail (to_come c.loop-text.linter) (report_lines report) rest told inv.2 in
    let grown : c.push_report.new.text ≡ c.loop-text.text ++ report_text trace marks report =
    c.in_ok-push_report.ensures ∙ ap (λ trace. c.loop-text.text ++ report_text trace marks report) c.deref-in-Some.ensures.value in
    let wrote = c.in_ok-write_gathered.ensures.written in
    let counted : c.saturating_add-refused.result ≡ min (c.loop-text.refused + faults_in marks report) 18446744073709551615 =
    c.saturating_add-refused.ensures ∙ ap (λ n. min (c.loop-text.refused + n) 18446744073709551615) c.faults_of.ensures in (
      inv.0 ++ wrote.0,
      appends_both old mid new inv.0 wrote.0 inv.1 wrote.1,
      written_on (frames_text c.args.legacies.0 frames marks) inv.0 (c.loop-text.text ++ report_text trace marks report) wrote.0 c.write_gathered.new.gathered (lint_text trace marks rest ++ tail) all (sym grown ∙ wrote.2),
      inv.3 ∙ counted_on marks c.loop-text.refused c.saturating_add-refused.result (breaks frames.broken) (to_come c.loop-text.linter) report rest told counted,
      omega (arith, counted),
    )

pub loop-text-preserved : goal.loop-text-preserved
loop-text-preserved g c =
    let old = g.W.Write.contents c.args.out.now in
    let mid = g.W.Write.contents c.loop-text.out in
    let new = g.W.Write.contents c.write_gathered.new.out in
    let frames = c.args.frames.now in
    let marks = c.args.marks.now in
    let trace = frames.symbols.items in
    let tail = break_text frames.broken in
    let report = c.in-Some.report in
    let rest = to_come c.next_report.new.linter in
    let inv = c.loop-text.invariant in
    let told : to_come c.loop-text.linter ≡ report_lines report ++ rest = c.in_ok-report.ensures.told ∙ ap (λ report. reported report ++ rest) c.in-Some.is in
    let all : frames_text c.args.legacies.0 frames marks ≡ inv.0 ++ ((c.loop-text.text ++ report_text trace marks report) ++ (lint_text trace marks rest ++ tail)) =
    reported_on trace marks (frames_text c.args.legacies.0 frames marks) inv.0 c.loop-text.text tail (to_come c.loop-text.linter) (report_lines report) rest told inv.2 in
    let grown : c.push_report.new.text ≡ c.loop-text.text ++ report_text trace marks report =
    c.in_ok-push_report.ensures ∙ ap (λ trace. c.loop-text.text ++ report_text trace marks report) c.deref-in-Some.ensures.value in
    let wrote = c.in_ok-write_gathered.ensures.written in
    let counted : c.saturating_add-refused.result ≡ min (c.loop-text.refused + faults_in marks report) 18446744073709551615 =
    c.saturating_add-refused.ensures ∙ ap (λ n. min (c.loop-text.refused + n) 18446744073709551615) c.faults_of.ensures in (
      inv.0 ++ wrote.0,
      appends_both old mid new inv.0 wrote.0 inv.1 wrote.1,
      written_on (frames_text c.args.legacies.0 frames marks) inv.0 (c.loop-text.text ++ report_text trace marks report) wrote.0 c.write_gathered.new.gathered (lint_text trace marks rest ++ tail) all (sym grown ∙ wrote.2),
      inv.3 ∙ counted_on marks c.loop-text.refused c.saturating_add-refused.result (breaks frames.broken) (to_come c.loop-text.linter) report rest told counted,
      omega (arith, counted),
    )

pub returns-in_err-push_end-clause-told : goal.returns-in_err-push_end-clause-told
returns-in_err-push_end-clause-told g c =
    let old = g.W.Write.contents c.args.out.now in
    let new = g.W.Write.contents c.loop-text.out in
    let frames = c.args.frames.now in
    let marks = c.args.marks.now in
    let inv = c.loop-text.invariant in
    let out : AppendsSome old new (frames_text c.args.legacies.0 frames marks) =
    subst (AppendsSome old new) (sym inv.2) (front_out old new inv.0 (c.loop-text.text ++ (lint_text frames.symbols.items marks (to_come c.loop-text.linter) ++ break_text frames.broken)) inv.1) in
    search rules

pub returns-in_err-write_out-clause-told : goal.returns-in_err-write_out-clause-told
returns-in_err-write_out-clause-told g c =
    let old = g.W.Write.contents c.args.out.now in
    let mid = g.W.Write.contents c.loop-text.out in
    let new = g.W.Write.contents c.write_out.new.out in
    let frames = c.args.frames.now in
    let marks = c.args.marks.now in
    let tail = break_text frames.broken in
    let inv = c.loop-text.invariant in
    let ended : to_come c.loop-text.linter ≡ [] = search rules in
    let all : frames_text c.args.legacies.0 frames marks ≡ inv.0 ++ ((c.loop-text.text ++ tail) ++ []) =
    ended_on frames.symbols.items marks (frames_text c.args.legacies.0 frames marks) inv.0 c.loop-text.text tail (to_come c.loop-text.linter) ended inv.2 ∙ ap (λ text. inv.0 ++ text) (sym (append-nil (c.loop-text.text ++ tail))) in
    let fault = c.in_err-write_out.ensures in
    let some : AppendsSome mid new (c.loop-text.text ++ tail) = subst (AppendsSome mid new) (c.as_bytes.ensures ∙ c.in_ok-push_end.ensures) fault.1 in
    let out : AppendsSome old new (frames_text c.args.legacies.0 frames marks) = subst (AppendsSome old new) (sym all) (some_out old mid new inv.0 (c.loop-text.text ++ tail) [] inv.1 some) in
    search rules
