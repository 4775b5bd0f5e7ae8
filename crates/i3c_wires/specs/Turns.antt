-- The bits at which nothing is decided.
use Rattle.std.specs.Prelude.{ℕ, suc, ◌≡◌, ◌-◌, false}
use Rattle.i3c_base.specs.Cutting.{CutList, cut_of}
use Rattle.i3c_wires.specs.Contest.{is_one}
use Rattle.i3c_wires.specs.Masks.{is_at}

-- at the bit after which `left` follow, the contender isn't cut, and its key has the bit of this number
pub record IsQuiet (cuts : CutList) (width left number : ℕ) (e : ℕ × ℕ) : Type 0 where
  pub uncut : is_at (width - suc left) (cut_of cuts e.0) ≡ false
  pub alike : is_one left e.1 ≡ is_one left number
