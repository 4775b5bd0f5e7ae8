-- Few static addresses leave an address free, and what is made at the pick is a start.
use Rattle.std.proofs.Common.{rules, ◌≡◌, ◌∙◌, ℕ, List, Option, sym, ap, subst, set, map, option_map, refl, Some, None, false}
use Rattle.std.proofs.lemmas.Bool.{both_ways}
use Rattle.i3c_base.specs.Covered.{Table}
use Rattle.i3c_base.specs.declared.device.LegacyTarget.{LegacyTarget}
use Rattle.i3c_base.specs.Round.{winner}
use Rattle.i3c_base.specs.State.{Device as DeviceState, entry_of, fixed_of, IsPickIn, IsPickableIn, IsStart, no_entries}
use Rattle.i3c_bus.specs.Parts.{state_of}
use Rattle.i3c_step.proofs.Soundness.{sound_start}
use Rattle.i3c_bus.proofs.Starting.{lvrs_kept, some_free, start_seen}
use Rattle.i3c_bus.proofs.bus.Bus.new.Goals as goal

pub unreachable-requires : goal.unreachable-requires
unreachable-requires c =
    some_free c.args.legacies c.addresses-taken.ensures.few c.addresses-taken.ensures.few_declared
    (λ a p. c.in_default.ensures a (subst (λ (t : Table). IsPickableIn t.given t.legacy t.declared a) (sym c.new-table.ensures) p))

-- the table with its row
table : (c : goal.After-new-3) → c.put.new.self
    ≡ record { given = set no_entries c.in-Some.address (Some (entry_of c.args.legacies.declared c.args.main.identity)); legacy = c.args.legacies.legacy; declared = c.args.legacies.declared; listed = false }
table c =
    let fixed : c.fixed.result ≡ fixed_of c.args.legacies.declared c.args.main.identity = c.fixed.ensures ∙ ap (λ (d : DeviceState). d.fixed) c.device-controller.ensures in
    c.put.ensures
    ∙ (ap (λ (f : Option ℕ). record c.new-table.result { given = set c.new-table.result.given c.in-Some.address (Some (record (entry_of c.args.legacies.declared c.args.main.identity) { fixed = f })); listed = false }) fixed
    ∙ ap (λ (t : Table). record t { given = set t.given c.in-Some.address (Some (entry_of c.args.legacies.declared c.args.main.identity)); listed = false }) c.new-table.ensures)

started : (c : goal.After-new-3)
    → IsStart c.args.main c.args.legacies (state_of c.put-2.new.self c.new.result c.new-active.result.0 c.put.new.self c.new-legacy.result false c.new-3.result.items)
started c =
    let pick : IsPickIn no_entries c.args.legacies.legacy c.args.legacies.declared c.in-Some.address =
    subst (λ (t : Table). IsPickIn t.given t.legacy t.declared c.in-Some.address) c.new-table.ensures c.in-Some.ensures in
    start_seen c.args.main c.args.legacies c.in-Some.address (fixed_of c.args.legacies.declared c.args.main.identity) c.new-devices.result c.put-2.new.self c.new.result c.new-active.result.0 c.default-holder.result c.take_address.new.self c.put.new.self c.new-legacy.result
    c.new-3.result.items c.addresses-taken.ensures.board pick c.new-devices.ensures (sym c.default-holder.ensures.1 ∙ c.default-holder.ensures.2) refl
    (c.take_address.ensures ∙ ap (winner c.in-Some.address) c.device-controller.ensures) c.put-2.ensures c.new.ensures c.new-active.ensures.kept (table c) c.new-legacy.ensures c.new-3.ensures.items

pub invariant_of-bus : goal.invariant_of-bus
invariant_of-bus c = record {
  sound = sound_start c.args.main c.args.legacies _ (started c);
  covered = (
    refl,
    ap (λ (t : Table). t.legacy) (table c) ∙ (sym (lvrs_kept c.args.legacies.legacy) ∙ ap (λ (targets : List (Option LegacyTarget)). map (option_map (λ (t : LegacyTarget). t.lvr)) targets) (sym c.new-legacy.ensures)),
    refl,
    refl,
  );
  copied = λ listed. absurd (both_ways _ (ap (λ (t : Table). t.listed) c.put.ensures) listed);
}

pub returns-clause-start : goal.returns-clause-start
returns-clause-start c = started c

pub returns-clause-capable : goal.returns-clause-capable
returns-clause-capable c = search rules
