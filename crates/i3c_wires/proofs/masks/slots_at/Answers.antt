-- One place more, until none is left.
use Rattle.std.proofs.Common.{◌<◌, ◌≤◌, ◌≡◌, arith, get_or, length, subst, sym}
use Rattle.std.proofs.lemmas.List.{get_or_default}
use Rattle.std.specs.Int.{bit_at, trailing_zeros}
use Rattle.i3c_wires.proofs.ColumnLaws.{SlotsLeft, lowest_less, lowest_off, mask_width, slots_all, slots_next, slots_none, slots_place, subtracted}
use Rattle.i3c_wires.proofs.masks.slots_at.Goals as goal
use Rattle.i3c_wires.proofs.masks.slots_at.Goals.{In-loop-rest}

-- the place that is looked at holds a contender
inside : (c : In-loop-rest) → (c.loop-rest.passed ≤ trailing_zeros mask_width c.loop-rest.rest) × (bit_at c.args.places (trailing_zeros mask_width c.loop-rest.rest) ≡ 1) × (trailing_zeros mask_width c.loop-rest.rest < length c.args.keys.now)
inside c = slots_place c.requires.places.0 c.args.keys.now c.args.places c.loop-rest.passed c.loop-rest.rest c.loop-rest.slots.items c.requires.places.1 (omega (arith, c.loop-rest-test.true)) (omega arith) c.loop-rest.invariant

pub loop-rest-init : goal.loop-rest-init
loop-rest-init c = slots_none c.args.keys.now c.args.places c.new-slots.result.items c.new-slots.ensures

pub bounds-keys-place : goal.bounds-keys-place
bounds-keys-place c = (inside (goal.at.bounds-keys-place c).In-loop-rest).2

pub bounds-keys-place-in-loop-rest : goal.bounds-keys-place-in-loop-rest
bounds-keys-place-in-loop-rest c = (inside (goal.at.bounds-keys-place-in-loop-rest c).In-loop-rest).2

pub push-requires : goal.push-requires
push-requires c = let at = inside (goal.at.push-requires c).In-loop-rest in omega (arith, at.0, at.2, c.requires.few, c.loop-rest.invariant.so_far.room)

pub loop-rest-preserved : goal.loop-rest-preserved
loop-rest-preserved c =
    let keys = c.args.keys.now in
    let place = trailing_zeros mask_width c.loop-rest.rest in
    let x = get_or keys place c.index-keys-place.result in
    let some : 0 < c.loop-rest.rest = omega (arith, c.loop-rest-test.true) in
    let low = inside (goal.at.loop-rest-preserved c).In-loop-rest in
    let at : x ≡ get_or keys place x = sym (get_or_default keys place x c.index-keys-place.result low.2) in
    rw (subtracted c.loop-rest.rest some (omega arith))
    (slots_next c.requires.places.0 keys c.args.places c.loop-rest.passed c.loop-rest.rest c.loop-rest.slots.items c.push.new.self.items x c.requires.places.1 some (omega arith) c.loop-rest.invariant at c.push.ensures.items)

pub loop-rest-smaller : goal.loop-rest-smaller
loop-rest-smaller c = let some : 0 < c.loop-rest.rest = omega (arith, c.loop-rest-test.true) in rw (subtracted c.loop-rest.rest some (omega arith)) (lowest_less c.loop-rest.rest some (omega arith))

pub overflow_sub-rest : goal.overflow_sub-rest
overflow_sub-rest c = omega (arith, lowest_off c.loop-rest.rest (omega (arith, c.loop-rest-test.true)) (omega arith))

pub returns : goal.returns
returns c =
    slots_all c.args.keys.now c.args.places c.loop-rest.passed c.loop-rest.slots.items (omega (arith, c.requires.few))
    (subst (λ rest. SlotsLeft c.args.keys.now c.args.places c.loop-rest.passed rest c.loop-rest.slots.items) c.loop-rest-test.false c.loop-rest.invariant)
