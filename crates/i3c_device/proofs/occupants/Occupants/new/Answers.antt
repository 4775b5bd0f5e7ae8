use Rattle.std.proofs.Common.{◌≡◌, ◌∙◌, None, ap, length, rules, subst, sym}
use Rattle.i3c_base.specs.declared.range.TheConstants.{SLOTS}
use Rattle.i3c_base.specs.State.{no_devices}
use Rattle.i3c_base.proofs.Lookups.{length-no_devices}
use Rattle.i3c_device.specs.SlotIndex.{AreMarks}
use Rattle.i3c_device.proofs.MarkLaws.{all_none}
use Rattle.i3c_device.proofs.occupants.Occupants.new.Goals as goal
use Rattle.i3c_device.proofs.occupants.Occupants.new.Goals.{After-from_fn}

are_none : (c : After-from_fn) → c.from_fn.result ≡ no_devices
unfolding no_devices
are_none c = all_none c.from_fn.result SLOTS c.from_fn.ensures.items.long (λ k l. let at = c.from_fn.ensures.items.at k None l in search (rules, at))

pub invariant_of-result : goal.invariant_of-result
invariant_of-result c =
    let none = are_none (goal.at.invariant_of-result c).After-from_fn in
    (ap length none ∙ length-no_devices, subst (AreMarks c.new.result) (sym none) c.new.ensures)

pub returns : goal.returns
returns c = are_none (goal.at.returns c).After-from_fn
