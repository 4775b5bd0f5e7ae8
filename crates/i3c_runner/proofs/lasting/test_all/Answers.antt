use Rattle.std.proofs.Common.{◌∙◌, ◌++◌, [], ap, append-nil, sym}
use Rattle.i3c_runner.specs.Expecting.{lasts_if}
use Rattle.i3c_runner.proofs.Outlasting.{still_tested, told_tested, unmet_tested}
use Rattle.i3c_runner.proofs.lasting.test_all.Goals as goal

pub loop-one-preserved-in-Continue-branch-2 : goal.loop-one-preserved-in-Continue-branch-2
loop-one-preserved-in-Continue-branch-2 c =
    let st = c.args.bus.now.state in let names = c.args.names.now in let before = c.args.before.now in
    let all = c.loop-one.yielded in let one = c.in-Some.one in let still = c.loop-one.still.items in
    let holds = c.in_ok-test_one.field-0 in let tested = c.in_ok-test_one.ensures in (
      still_tested st names before all one still c.keep.new.lasting.items holds tested.holds c.loop-one.invariant.0 (c.in_ok-keep.ensures ∙ ap (λ h. still ++ lasts_if h one []) (sym c.if-branch.true)),
      told_tested st names before all one c.args.text.now c.loop-one.text c.test_one.new.text holds tested.holds c.loop-one.invariant.1 tested.told,
      unmet_tested st names before all one c.args.unmet.now c.loop-one.unmet c.test_one.new.unmet holds tested.holds c.loop-one.invariant.2 tested.counted,
    )

pub loop-one-preserved : goal.loop-one-preserved
loop-one-preserved c =
    let st = c.args.bus.now.state in let names = c.args.names.now in let before = c.args.before.now in
    let all = c.loop-one.yielded in let one = c.in-Some.one in let still = c.loop-one.still.items in
    let holds = c.in_ok-test_one.field-0 in let tested = c.in_ok-test_one.ensures in (
      still_tested st names before all one still still holds tested.holds c.loop-one.invariant.0 (sym (append-nil still) ∙ ap (λ h. still ++ lasts_if h one []) (sym c.if-branch.false)),
      told_tested st names before all one c.args.text.now c.loop-one.text c.test_one.new.text holds tested.holds c.loop-one.invariant.1 tested.told,
      unmet_tested st names before all one c.args.unmet.now c.loop-one.unmet c.test_one.new.unmet holds tested.holds c.loop-one.invariant.2 tested.counted,
    )
