use Rattle.std.proofs.Common.{◌≡◌, ◌++◌, ◌∙◌, ◌+◌, [], arith, rules, MatchResult, ap, drop, sym, subst}
use Rattle.std.proofs.lemmas.List.{drop_all}
use Rattle.std.specs.Io.KnownBytes.{Appends}
use Rattle.i3c_streams.specs.declared.faults.ScriptFault.{ScriptFault}
use Rattle.i3c_streams.specs.Outcomes.{AppendsSome}
use Rattle.i3c_streams.proofs.Written.{appends_both}
use Rattle.i3c_streams.proofs.WrittenOn.{some_out, written_on}
use Rattle.i3c_wave.specs.Dump.{after_symbol, dump_text, symbol_dump, symbols_dump}
use Rattle.i3c_wave.proofs.DumpLaws.{next_symbol}
use Rattle.i3c_wave.proofs.RunLaws.{last_out}
use Rattle.i3c_wave.proofs.run.write_dump.Goals as goal

pub returns-in_err-write_symbol : goal.returns-in_err-write_symbol
returns-in_err-write_symbol g c =
    let old = g.W.Write.contents c.args.out.now in
    let mid = g.W.Write.contents c.loop-symbol.out in
    let new = g.W.Write.contents c.write_symbol.new.out in
    let trace = c.args.trace.now in
    let inv = c.loop-symbol.invariant in
    let all = next_symbol c.args.legacies.0 c.loop-symbol.wave trace c.loop-symbol.symbol-index c.symbol-item.result inv.0 c.loop-symbol.text (dump_text c.args.legacies.0 c.args.content trace) c.loop-symbol-test.true c.symbol-item.is inv.2 in
    let fault = c.in_err-write_symbol.ensures.out in
    let out : AppendsSome old new (dump_text c.args.legacies.0 c.args.content trace) =
    subst (AppendsSome old new) (sym all)
    (some_out old mid new inv.0 (c.loop-symbol.text ++ symbol_dump c.args.legacies.0 c.loop-symbol.wave c.symbol-item.result) _ inv.1 fault.1) in
    search rules

pub loop-symbol-preserved : goal.loop-symbol-preserved
loop-symbol-preserved g c =
    let old = g.W.Write.contents c.args.out.now in
    let mid = g.W.Write.contents c.loop-symbol.out in
    let new = g.W.Write.contents c.write_symbol.new.out in
    let legacies = c.args.legacies.0 in
    let trace = c.args.trace.now in
    let symbol = c.symbol-item.result in
    let wave = c.loop-symbol.wave in
    let left = drop (c.loop-symbol.symbol-index + 1) trace in
    let inv = c.loop-symbol.invariant in
    let all = next_symbol legacies wave trace c.loop-symbol.symbol-index symbol inv.0 c.loop-symbol.text (dump_text legacies c.args.content trace) c.loop-symbol-test.true c.symbol-item.is inv.2 in
    let wrote = c.in_ok-write_symbol.ensures.out in (
      inv.0 ++ wrote.0,
      appends_both old mid new inv.0 wrote.0 inv.1 wrote.1,
      written_on (dump_text legacies c.args.content trace) inv.0 (c.loop-symbol.text ++ symbol_dump legacies wave symbol) wrote.0 c.write_symbol.new.text (symbols_dump legacies (after_symbol legacies wave symbol) left) all wrote.2
          ∙ ap (λ next. (inv.0 ++ wrote.0) ++ (c.write_symbol.new.text ++ symbols_dump legacies next left)) (sym c.in_ok-write_symbol.ensures.wave),
    )

pub returns : goal.returns
returns g c =
    let inv = c.loop-symbol.invariant in
    let legacies = c.args.legacies.0 in
    let trace = c.args.trace.now in
    let ended : drop c.loop-symbol.symbol-index trace ≡ [] = drop_all c.loop-symbol.symbol-index trace (omega arith) in
    let all = inv.2 ∙ ap (λ left. inv.0 ++ (c.loop-symbol.text ++ symbols_dump legacies c.loop-symbol.wave left)) ended in
    let old = g.W.Write.contents c.args.out.now in
    let mid = g.W.Write.contents c.loop-symbol.out in
    let new = g.W.Write.contents c.write_out.new.out in
    let goes = subst (λ text. MatchResult c.write_out.result (λ _. Appends mid new text) (λ fault. (fault ≡ ScriptFault.Write) × AppendsSome mid new text)) c.as_bytes.ensures c.write_out.ensures in
    last_out old mid new inv.0 c.loop-symbol.text (dump_text legacies c.args.content trace) c.write_out.result all inv.1 goes
