use Rattle.std.proofs.Common.{ℕ, Some, ap, refl, sym, subst, ◌∙◌}
use Rattle.std.specs.BTreeMap.{Updates}
use Rattle.std.specs.Ordering.{nat_cmp}
use Rattle.i3c_base.specs.declared.range.TheConstants.{ADDRESSES}
use Rattle.i3c_base.specs.Round.{winner}
use Rattle.i3c_base.specs.State.{Device, Entry, IsPickableIn, attached, legacy_targets_of}
use Rattle.i3c_model.specs.Views.{places_of}
use Rattle.i3c_model.proofs.Starts.{main_entry, none_raised, one_is_left, started}
use Rattle.i3c_model.proofs.plain.Plain.new.Goals as goal

pub unreachable-requires : goal.unreachable-requires
unreachable-requires c =
    let of_targets = subst (λ places. (a : ℕ) → IsPickableIn (places_of ADDRESSES c.new-2.result) places (places_of ADDRESSES c.in_ok-identities.field-0) a → ⊥) c.in_ok-targets.ensures.targets.1 c.in_default.ensures in
    one_is_left c.new-2.result c.args.legacies c.new-2.ensures.empty c.addresses-statics.ensures.few c.addresses-statics.ensures.few_declared
    (subst (λ places. (a : ℕ) → IsPickableIn (places_of ADDRESSES c.new-2.result) (legacy_targets_of c.args.legacies.legacy) places a → ⊥) c.in_ok-identities.ensures.identities.1 of_targets)

pub returns-clause-start : goal.returns-clause-start
returns-clause-start c =
    let seated = c.take_address.ensures ∙ (ap (winner c.in-Some.address) c.new-controller.ensures ∙ ap (λ fixed. winner c.in-Some.address (attached fixed c.args.main)) c.fixed_of-fixed.ensures.same) in
    let entered = c.new-entry.ensures ∙ (λ t. record (main_entry c.args.legacies c.args.main) { fixed = c.fixed_of-fixed.ensures.same t }) in
    started c.args.main c.args.legacies c.in_ok-targets.field-0 c.in_ok-identities.field-0 c.new.result c.insert.new.self c.new-2.result c.insert-2.new.self c.in-Some.address c.default.result _ c.new-3.result.items
    c.in_ok-targets.ensures.targets c.in_ok-identities.ensures.identities c.addresses-statics.ensures.board (none_raised _ refl) c.new.ensures.empty c.new-2.ensures.empty c.new-3.ensures.items (sym c.default.ensures.1 ∙ c.default.ensures.2)
    (subst (λ (x : Device). Updates nat_cmp c.new.result c.insert.new.self c.default.result (Some x)) seated c.in_ok-insert.ensures.updates)
    (subst (λ (x : Entry). Updates nat_cmp c.new-2.result c.insert-2.new.self c.in-Some.address (Some x)) entered c.in_ok-insert-2.ensures.updates)
    c.in-Some.ensures
