use Rattle.std.proofs.Common.{◌≡◌, drop}
use Rattle.i3c_script.specs.Framing.{whole_frames}
use Rattle.i3c_script.proofs.frames.behind_frames.Given as goal

abbrev pub invariant-loop : goal.invariant-loop
invariant-loop l = whole_frames l.rest ≡ drop l.counter (whole_frames l.fn.symbols)
