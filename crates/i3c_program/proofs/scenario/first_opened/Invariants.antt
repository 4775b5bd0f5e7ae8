use Rattle.std.proofs.Common.{◌≡◌, ◌≤◌, ◌<◌, ℕ, Some, true}
use Rattle.std.specs.Prelude.{slice_get}
use Rattle.i3c_program.proofs.scenario.first_opened.Given as goal

abbrev pub invariant-loop-index : goal.invariant-loop-index
invariant-loop-index l = (l.from ≤ l.index) × ((k : ℕ) → l.from ≤ k → k < l.index → slice_get l.opened k ≡ Some true → ⊥)
