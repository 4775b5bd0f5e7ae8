use Rattle.std.proofs.Common.{◌≡◌, ◌≤◌, ◌+◌, length}
use Rattle.i3c_streams.specs.declared.reading.TheConstants.{MOST_BYTES}
use Rattle.i3c_traces.specs.Symbols.{text_size}
use Rattle.i3c_traces.proofs.frames.is_too_large.Given as goal

-- the texts so far are as long as what isn't left
abbrev pub invariant-loop-rest : goal.invariant-loop-rest
invariant-loop-rest l = record {
  room : l.left ≤ MOST_BYTES;
  counted : text_size l.fn.symbols + l.left ≡ MOST_BYTES + text_size l.rest;
}

abbrev pub decreases-loop-rest : goal.decreases-loop-rest
decreases-loop-rest l = length l.rest
