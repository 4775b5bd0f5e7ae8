use Rattle.std.proofs.Common.{◌≡◌, ◌<◌, ◌↔◌, ℕ, get_or}
use Rattle.i3c_bus.proofs.raises.Raises.is_same.Given as goal

-- no bit differs so far just if both begin alike
abbrev pub invariant-loop-index : goal.invariant-loop-index
invariant-loop-index l = (l.differing ≡ 0) ↔ ((k : ℕ) → k < l.index → get_or l.self-inside.numbers k 0 ≡ get_or l.other-inside.numbers k 0)
