use Rattle.std.proofs.Common.{◌≡◌, ◌∙◌, true, rules, subst, sym, arith, below_more}
use Rattle.std.proofs.lemmas.Grind.{common_steps}
use Rattle.i3c_base.specs.State.{IsPresent, device_at}
use Rattle.i3c_script.proofs.Presence.{there}
use Rattle.i3c_script.proofs.slot_lookup.free_slot.Goals as goal

pub loop-number-preserved : goal.loop-number-preserved
loop-number-preserved c =
    let held : c.present.result ≡ true = search rules in
    let present : IsPresent c.args.bus.now.state c.unwrap-slot.result = there (device_at c.args.bus.now.state c.unwrap-slot.result) (sym c.present.ensures ∙ held) in
    let same : c.unwrap-slot.result ≡ c.loop-number.number = grind (arith, common_steps) in
    below_more _ _ c.loop-number.invariant (subst (IsPresent c.args.bus.now.state) same present)

pub loop-number-init : goal.loop-number-init
loop-number-init c = search rules
