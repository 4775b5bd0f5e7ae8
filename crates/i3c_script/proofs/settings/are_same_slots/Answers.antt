-- Two lists of slots are the same where their slices are.
use Rattle.std.proofs.Common.{◌≡◌, ℕ, Decides, rules}
use Rattle.std.proofs.lemmas.Slice.Eq.{slice_eq-Decides}
use Rattle.i3c_base.specs.contracts.range.SlotPartialEq.TheImpl.{eq-value}
use Rattle.i3c_script.proofs.settings.are_same_slots.Goals as goal

same_slot : (a b : ℕ) → Decides (eq-value.it a b) (a ≡ b)
same_slot a b = search rules

pub returns : goal.returns
returns c = slice_eq-Decides same_slot c.args.slots.now c.args.others.now c.eq.result c.eq.ensures
