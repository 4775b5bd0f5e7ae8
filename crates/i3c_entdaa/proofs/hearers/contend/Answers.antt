-- One hearer more, until nobody hears.
use Rattle.std.proofs.Common.{◌+◌, arith, get_or, sym, subst, refl, None}
use Rattle.i3c_base.specs.declared.range.TheConstants.{SLOTS}
use Rattle.i3c_entdaa.proofs.HearersLaws.{ContendersSoFar, contenders_complete, contenders_exact, contenders_more, contenders_none, contenders_skip, left_first, left_more, none_from, silent_below, taken_from}
use Rattle.i3c_entdaa.proofs.hearers.contend.Goals as goal
use Rattle.i3c_entdaa.proofs.hearers.contend.Goals.{In_default}

pub loop-index-init : goal.loop-index-init
loop-index-init c = record {
  so_far = subst (ContendersSoFar c.args.devices.now 0) (sym c.requires) (contenders_none c.args.devices.now);
  low = omega arith;
  left = left_first c.args.devices.now c.hearers-left.result c.hearers-left.ensures.hearing;
}

pub loop-index-preserved : goal.loop-index-preserved
loop-index-preserved c =
    let devices = c.args.devices.now in
    let i = c.in-Some.index in
    let taken = c.in-Some.ensures.taken in
    let hearer = taken_from devices c.loop-index.first i c.loop-index.left c.loop-index.invariant.left taken.0 taken.1 in
    let before = contenders_skip devices c.loop-index.first i c.loop-index.keys.items c.hearers-left.ensures.slots hearer.0 (omega (arith, taken.0))
    (silent_below devices c.loop-index.first i c.loop-index.left c.loop-index.invariant.left taken.0 taken.2) c.loop-index.invariant.so_far in
    let slot = c.from_index.result in
    let more = contenders_more devices slot (get_or devices slot None) c.loop-index.keys.items c.enter.new.keys.items c.hearers-left.ensures.slots (omega (arith, taken.0, c.from_index.ensures))
    (subst (λ k. ContendersSoFar devices k c.loop-index.keys.items) (sym c.from_index.ensures) before) refl c.enter.ensures.entered c.enter.ensures.short c.enter.ensures.in_range in
    record {
      so_far = subst (λ k. ContendersSoFar devices (k + 1) c.enter.new.keys.items) c.from_index.ensures more;
      low = omega (arith, taken.0);
      left = left_more devices c.loop-index.first i c.loop-index.left c.take_lowest.new.self c.loop-index.invariant.left hearer.0 taken.2 taken.3;
    }

-- nobody hears from here on
all_so_far : (c : In_default) → ContendersSoFar c.args.devices.now SLOTS c.loop-index.keys.items
all_so_far c =
    contenders_skip c.args.devices.now c.loop-index.first SLOTS c.loop-index.keys.items c.hearers-left.ensures.slots c.loop-index.invariant.low (omega arith)
    (none_from c.args.devices.now c.loop-index.first c.loop-index.left c.loop-index.invariant.left c.in_default.ensures.taken) c.loop-index.invariant.so_far

pub returns-clause-exact : goal.returns-clause-exact
returns-clause-exact c = contenders_exact c.args.devices.now c.loop-index.keys.items c.hearers-left.ensures.slots (all_so_far (goal.at.returns-clause-exact c).In_default)

pub returns-clause-complete : goal.returns-clause-complete
returns-clause-complete c = contenders_complete c.args.devices.now c.loop-index.keys.items c.hearers-left.ensures.slots (all_so_far (goal.at.returns-clause-complete c).In_default)
