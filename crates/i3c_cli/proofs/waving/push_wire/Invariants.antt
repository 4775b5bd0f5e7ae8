use Rattle.std.proofs.Common.{◌≡◌, ◌++◌, length}
use Rattle.i3c_wave.specs.Dump.{symbols_dump}
use Rattle.i3c_cli.specs.Wavings.{after_wire}
use Rattle.i3c_cli.proofs.waving.push_wire.Given as goal

-- the symbols that are left to append
abbrev pub invariant-loop-rest : goal.invariant-loop-rest
invariant-loop-rest l = record {
  text : l.text ++ symbols_dump l.fn.legacies.0 l.wave l.rest ≡ l.initial.text ++ symbols_dump l.fn.legacies.0 l.initial.wave l.fn.wire;
  wave : after_wire l.fn.legacies.0 l.wave l.rest ≡ after_wire l.fn.legacies.0 l.initial.wave l.fn.wire;
}

abbrev pub decreases-loop-rest : goal.decreases-loop-rest
decreases-loop-rest l = length l.rest
