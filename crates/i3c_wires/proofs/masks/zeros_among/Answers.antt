-- One place more, until none is left.
use Rattle.std.proofs.Common.{◌<◌, arith, length, subst}
use Rattle.std.specs.Int.{trailing_zeros}
use Rattle.i3c_wires.proofs.ColumnLaws.{ZerosSoFar, key_one, key_zero, lowest_less, lowest_off, lowest_place, mask_width, subtracted, zeros_all, zeros_none, zeros_pass, zeros_put}
use Rattle.i3c_wires.proofs.masks.zeros_among.Goals as goal
use Rattle.i3c_wires.proofs.masks.zeros_among.Goals.{In-loop-rest, then-keys-place-eq0, else-keys-place-eq0}

pub loop-rest-init : goal.loop-rest-init
loop-rest-init c = zeros_none c.args.keys.now c.args.among c.args.left

pub loop-rest-smaller : goal.loop-rest-smaller
loop-rest-smaller c = rw (subtracted c.loop-rest.rest (omega arith) (omega arith)) (lowest_less c.loop-rest.rest (omega arith) (omega arith))

pub overflow_sub-rest : goal.overflow_sub-rest
overflow_sub-rest c = omega (arith, lowest_off c.loop-rest.rest (omega (arith, c.loop-rest-test.true)) (omega arith))

pub returns : goal.returns
returns c =
    zeros_all c.requires.places.0 c.args.keys.now c.args.among c.args.left c.loop-rest.low (omega (arith, c.requires.few)) (omega arith) c.requires.places.1
    (subst (λ rest. ZerosSoFar c.args.keys.now c.args.among c.args.left rest c.loop-rest.low) c.loop-rest-test.false c.loop-rest.invariant)

-- the place that is looked at holds a contender
inside : (c : In-loop-rest) → trailing_zeros mask_width c.loop-rest.rest < length c.args.keys.now
inside c = lowest_place c.requires.places.0 c.args.keys.now c.args.among c.args.left c.loop-rest.rest c.loop-rest.low c.requires.places.1 (omega (arith, c.loop-rest-test.true)) (omega arith) c.loop-rest.invariant

pub bounds-keys-place : goal.bounds-keys-place
bounds-keys-place c = inside c

pub bounds-keys-place-in-loop-rest : goal.bounds-keys-place-in-loop-rest
bounds-keys-place-in-loop-rest c = inside c

pub loop-rest-preserved : goal.loop-rest-preserved
loop-rest-preserved c =
    let keys = c.args.keys.now in
    let place = trailing_zeros mask_width c.loop-rest.rest in
    let some : 0 < c.loop-rest.rest = omega (arith, c.loop-rest-test.true) in
    let low = inside (goal.at.loop-rest-preserved c).In-loop-rest in
    elim c.if-keys-place-eq0.branch [
      | then-keys-place-eq0 w ↦ rw (w.low-is, subtracted c.loop-rest.rest some (omega arith))
          (zeros_put keys c.args.among c.args.left c.loop-rest.rest c.loop-rest.low some (omega arith) c.loop-rest.invariant
          (key_zero keys place c.args.left c.index-keys-place.result low w.if-keys-place-eq0.true))
      | else-keys-place-eq0 w ↦ rw (w.low-is, subtracted c.loop-rest.rest some (omega arith))
          (zeros_pass keys c.args.among c.args.left c.loop-rest.rest c.loop-rest.low some (omega arith) c.loop-rest.invariant
          (key_one keys place c.args.left c.index-keys-place.result low w.if-keys-place-eq0.false))
    ]
