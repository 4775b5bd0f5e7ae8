use Rattle.std.proofs.Common.{◌≡◌, ◌∷◌, ◌++◌, ◌∙◌, ◌+◌, [], arith, min, rules, ap, append-nil, option_to_list, subst, sym}
use Rattle.std.specs.Io.KnownBytes.{Appends}
use Rattle.i3c_monitor.specs.Lines.{line_text}
use Rattle.i3c_monitor.specs.Trace.{to_come, trace_told}
use Rattle.i3c_streams.specs.Outcomes.{AppendsSome}
use Rattle.i3c_traces.specs.Traces.{lines_text, refusals_in, refused_in, trace_text}
use Rattle.i3c_streams.proofs.WrittenOn.{count_on, front_out, gathered_on, some_out, written_on}
use Rattle.i3c_streams.proofs.Written.{appends_both}
use Rattle.i3c_traces.proofs.trace.print_trace.Goals as goal

pub returns-in_err-decoded-clause-told : goal.returns-in_err-decoded-clause-told
returns-in_err-decoded-clause-told g c =
    let old = g.W.Write.contents c.args.out.now in
    let new = g.W.Write.contents c.loop-text.out in
    let inv = c.loop-text.invariant in
    let out : AppendsSome old new (trace_text c.args.codes c.args.trace.now c.args.marks.now) =
    subst (AppendsSome old new) (sym inv.2) (front_out old new inv.0 (c.loop-text.text ++ lines_text c.args.trace.now c.args.marks.now (to_come c.loop-text.monitor)) inv.1) in
    search rules

pub returns-in_err-push_decoded-clause-told : goal.returns-in_err-push_decoded-clause-told
returns-in_err-push_decoded-clause-told g c =
    let old = g.W.Write.contents c.args.out.now in
    let new = g.W.Write.contents c.loop-text.out in
    let inv = c.loop-text.invariant in
    let out : AppendsSome old new (trace_text c.args.codes c.args.trace.now c.args.marks.now) =
    subst (AppendsSome old new) (sym inv.2) (front_out old new inv.0 (c.loop-text.text ++ lines_text c.args.trace.now c.args.marks.now (to_come c.loop-text.monitor)) inv.1) in
    search rules

pub returns-in_err-write_gathered-clause-told : goal.returns-in_err-write_gathered-clause-told
returns-in_err-write_gathered-clause-told g c =
    let old = g.W.Write.contents c.args.out.now in
    let mid = g.W.Write.contents c.loop-text.out in
    let new = g.W.Write.contents c.write_gathered.new.out in
    let trace = c.args.trace.now in
    let marks = c.args.marks.now in
    let decoded = c.in-Some.decoded in
    let rest = to_come c.next_decoded.new.monitor in
    let inv = c.loop-text.invariant in
    let told : to_come c.loop-text.monitor ≡ decoded ∷ rest = c.in_ok-decoded.ensures.told ∙ ap (λ decoded. option_to_list decoded ++ rest) c.in-Some.is in
    let all : trace_text c.args.codes trace marks ≡ inv.0 ++ ((c.loop-text.text ++ line_text trace marks decoded) ++ lines_text trace marks rest) =
    gathered_on (trace_text c.args.codes trace marks) inv.0 c.loop-text.text (line_text trace marks decoded) (lines_text trace marks rest)
    (inv.2 ∙ ap (λ decoded. inv.0 ++ (c.loop-text.text ++ lines_text trace marks decoded)) told) in
    let grown : c.push_decoded.new.text ≡ c.loop-text.text ++ line_text trace marks decoded = c.in_ok-push_decoded.ensures in
    let fault = c.in_err-write_gathered.ensures.written in
    let out : AppendsSome old new (trace_text c.args.codes trace marks) =
    subst (AppendsSome old new) (sym all)
    (some_out old mid new inv.0 (c.loop-text.text ++ line_text trace marks decoded) (lines_text trace marks rest) inv.1 (subst (AppendsSome mid new) grown fault.1)) in
    search rules

pub loop-text-preserved : goal.loop-text-preserved
loop-text-preserved g c =
    let old = g.W.Write.contents c.args.out.now in
    let mid = g.W.Write.contents c.loop-text.out in
    let new = g.W.Write.contents c.write_gathered.new.out in
    let trace = c.args.trace.now in
    let marks = c.args.marks.now in
    let decoded = c.in-Some.decoded in
    let rest = to_come c.next_decoded.new.monitor in
    let inv = c.loop-text.invariant in
    let told : to_come c.loop-text.monitor ≡ decoded ∷ rest = c.in_ok-decoded.ensures.told ∙ ap (λ decoded. option_to_list decoded ++ rest) c.in-Some.is in
    let all : trace_text c.args.codes trace marks ≡ inv.0 ++ ((c.loop-text.text ++ line_text trace marks decoded) ++ lines_text trace marks rest) =
    gathered_on (trace_text c.args.codes trace marks) inv.0 c.loop-text.text (line_text trace marks decoded) (lines_text trace marks rest)
    (inv.2 ∙ ap (λ decoded. inv.0 ++ (c.loop-text.text ++ lines_text trace marks decoded)) told) in
    let grown : c.push_decoded.new.text ≡ c.loop-text.text ++ line_text trace marks decoded = c.in_ok-push_decoded.ensures in
    let wrote = c.in_ok-write_gathered.ensures.written in
    let counted : c.saturating_add-refused.result ≡ min (c.loop-text.refused + refusals_in marks decoded) 18446744073709551615 =
    c.saturating_add-refused.ensures ∙ ap (λ n. min (c.loop-text.refused + n) 18446744073709551615) c.refusals.ensures in (
      inv.0 ++ wrote.0,
      appends_both old mid new inv.0 wrote.0 inv.1 wrote.1,
      written_on (trace_text c.args.codes trace marks) inv.0 (c.loop-text.text ++ line_text trace marks decoded) wrote.0 c.write_gathered.new.gathered (lines_text trace marks rest) all (sym grown ∙ wrote.2),
      inv.3 ∙ ap (λ decoded. min (c.loop-text.refused + refused_in marks decoded) 18446744073709551615) told
          ∙ count_on c.loop-text.refused (refusals_in marks decoded) c.saturating_add-refused.result (refused_in marks rest) counted,
      omega (arith, counted),
    )

pub returns-in_err-write_out-clause-told : goal.returns-in_err-write_out-clause-told
returns-in_err-write_out-clause-told g c =
    let old = g.W.Write.contents c.args.out.now in
    let mid = g.W.Write.contents c.loop-text.out in
    let new = g.W.Write.contents c.write_out.new.out in
    let trace = c.args.trace.now in
    let marks = c.args.marks.now in
    let inv = c.loop-text.invariant in
    let ended : to_come c.loop-text.monitor ≡ [] = search rules in
    let all : trace_text c.args.codes trace marks ≡ inv.0 ++ (c.loop-text.text ++ []) = inv.2 ∙ ap (λ decoded. inv.0 ++ (c.loop-text.text ++ lines_text trace marks decoded)) ended in
    let fault = c.in_err-write_out.ensures in
    let some : AppendsSome mid new c.loop-text.text = subst (AppendsSome mid new) c.as_bytes.ensures fault.1 in
    let out : AppendsSome old new (trace_text c.args.codes trace marks) = subst (AppendsSome old new) (sym all) (some_out old mid new inv.0 c.loop-text.text [] inv.1 some) in
    search rules

pub returns-clause-told : goal.returns-clause-told
returns-clause-told g c =
    let old = g.W.Write.contents c.args.out.now in
    let mid = g.W.Write.contents c.loop-text.out in
    let new = g.W.Write.contents c.write_out.new.out in
    let trace = c.args.trace.now in
    let marks = c.args.marks.now in
    let inv = c.loop-text.invariant in
    let ended : to_come c.loop-text.monitor ≡ [] = search rules in
    let all : trace_text c.args.codes trace marks ≡ inv.0 ++ c.loop-text.text =
    inv.2 ∙ ap (λ decoded. inv.0 ++ (c.loop-text.text ++ lines_text trace marks decoded)) ended ∙ ap (λ text. inv.0 ++ text) (append-nil c.loop-text.text) in
    let wrote : Appends mid new c.loop-text.text = subst (Appends mid new) c.as_bytes.ensures c.in_ok-write_out.ensures in
    let counted : min (refused_in marks (trace_told c.args.codes trace)) 18446744073709551615 ≡ min (c.loop-text.refused + 0) 18446744073709551615 =
    inv.3 ∙ ap (λ decoded. min (c.loop-text.refused + refused_in marks decoded) 18446744073709551615) ended in
    (omega (arith, counted, inv.4), subst (Appends old new) (sym all) (appends_both old mid new inv.0 c.loop-text.text inv.1 wrote))
