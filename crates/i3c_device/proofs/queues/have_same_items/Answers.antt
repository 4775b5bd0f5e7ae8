use Rattle.std.proofs.Common.{◌≡◌, ◌∙◌, Decides, rules}
use Rattle.std.specs.Cmp.Lexicographic.{pointwise}
use Rattle.std.proofs.lemmas.Slice.Eq.{slice_eq-Decides}
use Rattle.i3c_base.specs.declared.device.Waiting.{Waiting}
use Rattle.i3c_base.specs.contracts.device.WaitingPartialEq.TheImpl.{eq-value}
use Rattle.i3c_device.proofs.queues.have_same_items.Goals as goal

same_waiting : (a b : Waiting) → Decides (eq-value.it a b) (a ≡ b)
same_waiting a b = search rules

pub returns : goal.returns
returns c =
    slice_eq-Decides same_waiting c.args.waiting.now.items c.args.others.now.items c.eq.result
    (c.eq.ensures ∙ (λ t. pointwise eq-value.it (c.as_slice.ensures.value t) (c.as_slice-2.ensures.value t)))
