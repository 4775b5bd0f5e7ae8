use Rattle.std.proofs.Common.{◌≡◌, ◌+◌, ◌≤◌, [], drop, length, take}
use Rattle.i3c_script.specs.Framing.{frames_in}
use Rattle.i3c_script.proofs.frames.first_frame.Given as goal

abbrev pub invariant-loop-rest : goal.invariant-loop-rest
invariant-loop-rest l = record {
  same : frames_in (take l.passed l.begun) l.rest ≡ frames_in [] l.fn.symbols;
  left : drop l.passed l.begun ≡ l.rest;
  within : l.passed ≤ length l.begun;
  short : l.passed + length l.rest ≤ length l.fn.symbols;
}

abbrev pub decreases-loop-rest : goal.decreases-loop-rest
decreases-loop-rest l = length l.rest
