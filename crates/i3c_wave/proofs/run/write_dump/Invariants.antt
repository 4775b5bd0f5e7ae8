use Rattle.std.proofs.Common.{◌≡◌, ℕ, List, ◌++◌, drop}
use Rattle.std.specs.Io.KnownBytes.{Appends}
use Rattle.i3c_wave.specs.Dump.{dump_text, symbols_dump}
use Rattle.i3c_wave.proofs.run.write_dump.Given as goal

-- some of the dump went out, some is gathered, and the rest is that of the symbols to come
abbrev pub invariant-loop-symbol : goal.invariant-loop-symbol
invariant-loop-symbol g l =
    (first : List ℕ) × Appends (g.W.Write.contents l.initial.out) (g.W.Write.contents l.out) first
    × (dump_text l.fn.legacies.0 l.fn.content l.fn.trace ≡ first ++ (l.text ++ symbols_dump l.fn.legacies.0 l.wave (drop l.symbol-index l.fn.trace)))
