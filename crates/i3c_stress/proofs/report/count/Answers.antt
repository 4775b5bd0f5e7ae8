use Rattle.std.proofs.Common.{◌∙◌, ◌+◌, ap, arith, cond, refl, sym}
use Rattle.std.specs.Prelude.{slice_index}
use Rattle.i3c_stress.specs.Counting.{is_accepted, is_refused}
use Rattle.i3c_stress.specs.Devices.{is_at, is_raise_at}
use Rattle.i3c_stress.proofs.Counted.{next_count, next_raise, whole_count}
use Rattle.i3c_stress.proofs.report.count.Goals as goal

pub returns-clause-accepted : goal.returns-clause-accepted
returns-clause-accepted c =
    whole_count is_accepted c.args.closed.now.run.entries _ _ (omega (arith, c.loop-place-test.false, c.len-place-end.ensures)) c.loop-place.invariant.0

pub returns-clause-refused : goal.returns-clause-refused
returns-clause-refused c =
    whole_count is_refused c.args.closed.now.run.entries _ _ (omega (arith, c.loop-place-test.false, c.len-place-end.ensures)) c.loop-place.invariant.1

pub returns-clause-by_slot : goal.returns-clause-by_slot
returns-clause-by_slot c = λ slot below.
    whole_count (is_raise_at slot) c.args.closed.now.run.entries _ _ (omega (arith, c.loop-place-test.false, c.len-place-end.ensures)) (c.loop-place.invariant.4 slot below).0

pub loop-place-init : goal.loop-place-init
loop-place-init c = (refl, refl, omega arith, omega arith, λ slot below. (c.no_raises-by_slot.ensures slot below, omega (arith, c.no_raises-by_slot.ensures slot below)))

pub loop-place-preserved : goal.loop-place-preserved
loop-place-preserved c =
    let at = sym c.in-Ok-Some.ensures ∙ c.in-Ok-Some.field-0-is in
    let accepted = next_count is_accepted c.args.closed.now.run.entries _ _ _ _ _ at c.loop-place.invariant.0 c.loop-place.invariant.2 c.is_accepted.ensures c.from-accepted.ensures in
    let refused = next_count is_refused c.args.closed.now.run.entries _ _ _ _ _ at c.loop-place.invariant.1 c.loop-place.invariant.3 c.is_refused.ensures c.from-refused.ensures in (
      accepted.0,
      refused.0,
      accepted.1,
      refused.1,
      λ slot below.
          let old = slice_index c.loop-place.by_slot slot in
          let before = c.loop-place.invariant.4 slot below in
          let counted = c.count_raise.ensures slot below ∙ ap (λ raised. old + cond (is_at slot raised) 1 0) c.raising.ensures in
          next_raise (is_raise_at slot) c.args.closed.now.run.entries _ old _ _ at before.0 before.1 counted,
    )
