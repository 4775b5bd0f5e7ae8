use Rattle.std.proofs.Common.{◌≡◌, ◌<◌, ℕ, Decides, get_or}
use Rattle.i3c_lines.proofs.names.have_same_bytes.Given as goal

-- whether both begin alike
abbrev pub invariant-loop-index : goal.invariant-loop-index
invariant-loop-index l = Decides l.same ((k : ℕ) → k < l.index → get_or l.fn.bytes k 0 ≡ get_or l.fn.others k 0)
