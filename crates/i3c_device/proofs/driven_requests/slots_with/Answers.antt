-- One slot more, until none is left.
use Rattle.std.proofs.Common.{◌∙◌, ◌&&◌, ◌==◌, ap, slice_index}
use Rattle.i3c_device.specs.Sets.{has}
use Rattle.i3c_device.proofs.FindLaws.{chosen_all, chosen_more, chosen_none}
use Rattle.i3c_device.proofs.driven_requests.slots_with.Goals as goal

pub loop-index-init : goal.loop-index-init
loop-index-init c = chosen_none (λ s. slice_index c.args.keys.now s == c.key-driven.result) c.args.among c.none-slots.result c.none-slots.ensures

pub loop-index-preserved : goal.loop-index-preserved
loop-index-preserved c =
    chosen_more (λ s. slice_index c.args.keys.now s == c.key-driven.result) c.args.among c.loop-index.left c.take_lowest.new.self c.in-Some.index c.loop-index.slots c.with-slots.result c.loop-index.invariant
    c.in-Some.ensures.taken.0 c.in-Some.ensures.taken.1 c.in-Some.ensures.taken.3 c.with-slots.ensures

pub returns : goal.returns
returns c s l =
    chosen_all (λ t. slice_index c.args.keys.now t == c.key-driven.result) c.args.among c.loop-index.left c.loop-index.slots c.loop-index.invariant c.in_default.ensures.taken s l
    ∙ ap (λ k. has c.args.among s && slice_index c.args.keys.now s == k) c.key-driven.ensures
