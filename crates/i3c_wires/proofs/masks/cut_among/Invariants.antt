use Rattle.std.proofs.Common.{◌≡◌, ℕ, take}
use Rattle.i3c_base.specs.Cutting.{cut_of}
use Rattle.i3c_wires.specs.Masks.{is_at, mask_of}
use Rattle.i3c_wires.proofs.masks.cut_among.Given as goal

-- the contenders so far
abbrev pub invariant-loop-place : goal.invariant-loop-place
invariant-loop-place l = l.places ≡ mask_of (λ (e : ℕ × ℕ). is_at l.bit (cut_of l.cuts e.0)) (take l.place l.keys)
