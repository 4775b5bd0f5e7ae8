-- The slots below the index are cut alike.
use Rattle.std.proofs.Common.{nat_eq, ◌≡◌, ℕ, ◌<◌, true}
use Rattle.std.specs.Option.{option_eq}
use Rattle.i3c_base.specs.Cutting.{cut_of}
use Rattle.i3c_base.proofs.cuts.CutsPartialEq.eq.Given as goal

abbrev pub invariant-loop-index : goal.invariant-loop-index
invariant-loop-index l = (s : ℕ) → s < l.index → option_eq nat_eq (cut_of l.self s) (cut_of l.other s) ≡ true
