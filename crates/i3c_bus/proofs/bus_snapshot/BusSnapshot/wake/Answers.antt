-- The bus that wakes is in the state of the one at rest, and its list is the one that was made again.
use Rattle.std.proofs.Common.{◌≡◌, ◌∙◌, List, Option, ap, map, option_map, refl, subst, sym, true}
use Rattle.i3c_base.specs.declared.device.LegacyTarget.{LegacyTarget}
use Rattle.i3c_base.specs.Covered.{Table}
use Rattle.i3c_base.specs.State.{State}
use Rattle.i3c_step.specs.Sound.{IsSound}
use Rattle.i3c_bus.specs.Parts.{state_of}
use Rattle.i3c_bus.specs.Whole.{IsCopyOf}
use Rattle.i3c_bus.proofs.bus_snapshot.BusSnapshot.wake.Goals as goal

pub invariant_of-bus : goal.invariant_of-bus
invariant_of-bus c =
    let i = c.self.inside in
    let same : state_of c.wake.new.self c.copied.result c.new-active.result.0 c.woken-table.result c.woken.result i.in_session c.in-Ok.records.items ≡ state_of i.devices i.raised i.active i.table i.legacy i.in_session i.records.items =
    λ t. state_of (c.wake.ensures t) (c.copied.ensures t) (c.new-active.ensures.kept t) (c.woken-table.ensures t) (c.woken.ensures t) i.in_session (c.in-Ok.ensures t) in
    record {
      sound = subst IsSound (sym same) c.self.invariant.sound;
      covered = (
        refl,
        ap (λ (t : Table). t.legacy) c.woken-table.ensures
            ∙ (c.self.invariant.covered.1 ∙ ap (λ (targets : List (Option LegacyTarget)). map (option_map (λ (t : LegacyTarget). t.lvr)) targets) (sym c.woken.ensures)),
        refl,
        refl,
      );
      copied = subst (λ (s : State). s.listed ≡ true → IsCopyOf s c.wake_list.new.list) (sym (same ∙ c.self.view_is)) c.wake_list.ensures;
    }
