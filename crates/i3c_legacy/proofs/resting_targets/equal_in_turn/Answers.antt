-- Two lists of targets are the same where their slices are.
use Rattle.std.proofs.Common.{◌≡◌, Decides, rules}
use Rattle.std.proofs.lemmas.Slice.Eq.{slice_eq-Decides}
use Rattle.i3c_legacy.specs.declared.legacy_targets.Placed.{Placed}
use Rattle.i3c_legacy.specs.contracts.legacy_targets.PlacedPartialEq.TheImpl.{eq-value}
use Rattle.i3c_legacy.proofs.resting_targets.equal_in_turn.Goals as goal

same_placed : (a b : Placed) → Decides (eq-value.it a b) (a ≡ b)
same_placed a b = search rules

pub returns : goal.returns
returns c = slice_eq-Decides same_placed c.args.placed.now c.args.others.now c.eq.result c.eq.ensures
