-- Two lists of targets are the same where their slices are.
use Rattle.std.proofs.Common.{◌≡◌, Decides, rules}
use Rattle.std.proofs.lemmas.Slice.Eq.{slice_eq-Decides}
use Rattle.i3c_legacy.specs.declared.legacies.Declared.{Declared}
use Rattle.i3c_legacy.specs.contracts.legacies.DeclaredPartialEq.TheImpl.{eq-value}
use Rattle.i3c_legacy.proofs.comparing.targets_equal_in_turn.Goals as goal

same_target : (a b : Declared) → Decides (eq-value.it a b) (a ≡ b)
same_target a b = search rules

pub returns : goal.returns
returns c = slice_eq-Decides same_target c.args.targets.now c.args.others.now c.eq.result c.eq.ensures
