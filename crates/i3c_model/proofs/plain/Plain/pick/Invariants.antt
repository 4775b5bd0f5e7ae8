use Rattle.std.proofs.Common.{ℕ, ◌<◌}
use Rattle.i3c_base.specs.State.{IsPickable}
use Rattle.i3c_model.proofs.plain.Plain.pick.Given as goal

-- none of the addresses so far may be picked
abbrev pub invariant-loop-value : goal.invariant-loop-value
invariant-loop-value l = (a : ℕ) → a < l.value → IsPickable l.self a → ⊥
