-- The devices with the old address have the new one, and the row moves there; or nothing changes.
use Rattle.std.proofs.Common.{◌≡◌, ◌∙◌, ◌+◌, ◌↔◌, ℕ, List, Option, true, ap, refl, subst, sym, Result, IsOk, MatchResult, false}
use Rattle.std.proofs.lemmas.Bool.{both_ways}
use Rattle.i3c_base.specs.Covered.{Table}
use Rattle.i3c_base.specs.Cutting.{lost_by}
use Rattle.i3c_base.specs.Frames.{AllLostAt, AnyAt, SomeLeftAt, with_new, with_new_at}
use Rattle.i3c_base.specs.State.{Device, HasDevices, Held, entry_at, each_in}
use Rattle.i3c_entdaa.proofs.RoundLaws.{pickable_there}
use Rattle.i3c_events.specs.declared.hearing.NoAnswer.{NoAnswer}
use Rattle.i3c_step.specs.Sound.{IsSound}
use Rattle.i3c_step.specs.Step.{is_no_target, is_pickable}
use Rattle.i3c_step.proofs.Addresses.{pickable_settled}
use Rattle.i3c_step.proofs.Soundness.{sound_with_new}
use Rattle.i3c_bus.specs.Parts.{state_of}
use Rattle.i3c_bus.specs.Whole.{IsWhole}
use Rattle.i3c_bus.proofs.Seen.{seen, seen_devices}
use Rattle.i3c_bus.proofs.Settings.{is_some_there, itself, no_target_or}
use Rattle.i3c_bus.proofs.bus.Bus.give_new.Goals as goal

same : (c : goal.After-renumber) → HasDevices (seen c.self.inside) c.self.inside.devices c.active-active.result
same c = seen_devices _ _ _ c.self.view_is c.active-active.ensures

-- a device has the old address, and the devices afterwards
heard : (c : goal.After-renumber) → AnyAt (seen c.self.inside) c.args.old × (c.hear_new-heard.new.devices ≡ each_in (with_new_at c.active-active.result c.args.old c.args.new) c.self.inside.devices)
heard c = subst (λ (r : Result (Unit {0}) NoAnswer). MatchResult r
    (λ u. AnyAt (seen c.self.inside) c.args.old × (c.hear_new-heard.new.devices ≡ each_in (with_new_at c.active-active.result c.args.old c.args.new) c.self.inside.devices))
    (λ none. (none.0 ≡ c.args.old) × AllLostAt (seen c.self.inside) c.args.old (lost_by c.args.cuts.now (c.args.bits_before + 18)) × (c.hear_new-heard.new.devices ≡ c.self.inside.devices)))
    c.in-Ok.is (c.hear_new-heard.ensures.set (seen c.self.inside) (same c))

pub renumber-requires-clause-given : goal.renumber-requires-clause-given
renumber-requires-clause-given c = is_some_there (entry_at (seen c.self.inside) c.args.old) (no_target_or (seen c.self.inside) c.args.old (subst (λ (h : Held). is_no_target h.state c.args.old ≡ false) (sym c.self.view_is) c.requires.there)).0

pub renumber-requires-clause-pickable : goal.renumber-requires-clause-pickable
renumber-requires-clause-pickable c =
    pickable_there (seen c.self.inside) c.self.inside.table c.args.new c.self.invariant.covered
    (pickable_settled (seen c.self.inside) (seen c.self.inside) c.args.new (itself (seen c.self.inside)) (subst (λ (h : Held). is_pickable h.state c.args.new ≡ true) (sym c.self.view_is) c.requires.given))

after : (c : goal.After-renumber)
    → state_of c.hear_new-heard.new.devices c.self.inside.raised c.self.inside.active c.renumber.new.self c.self.inside.legacy c.self.inside.in_session c.self.inside.records.items
    ≡ with_new c.args.old c.args.new (seen c.self.inside)
after c =
    let active : c.active-active.result ≡ c.self.inside.active = c.active-active.ensures ∙ ap (λ (h : Held). h.state.active) (sym c.self.view_is) in
    let devices : c.hear_new-heard.new.devices ≡ each_in (with_new_at c.self.inside.active c.args.old c.args.new) c.self.inside.devices =
    (heard c).1 ∙ ap (λ (a : ℕ). each_in (with_new_at a c.args.old c.args.new) c.self.inside.devices) active in
    λ t. state_of (devices t) c.self.inside.raised c.self.inside.active (c.renumber.ensures t) c.self.inside.legacy c.self.inside.in_session c.self.inside.records.items

pub invariant_of-self : goal.invariant_of-self
invariant_of-self c =
    let other = (no_target_or (seen c.self.inside) c.args.old (subst (λ (h : Held). is_no_target h.state c.args.old ≡ false) (sym c.self.view_is) c.requires.there)).1 in
    let pick = subst (λ (h : Held). is_pickable h.state c.args.new ≡ true) (sym c.self.view_is) c.requires.given in
    record {
      sound = subst IsSound (sym (after c)) (sound_with_new c.args.old c.args.new (seen c.self.inside) (seen c.self.inside) (itself (seen c.self.inside)) other pick c.self.invariant.sound);
      covered = (refl, ap (λ (t : Table). t.legacy) c.renumber.ensures ∙ c.self.invariant.covered.1, refl, refl);
      copied = λ listed. absurd (both_ways _ (ap (λ (t : Table). t.listed) c.renumber.ensures) listed);
    }

pub returns-in-Ok-clause-given : goal.returns-in-Ok-clause-given
returns-in-Ok-clause-given c =
    subst (λ (h : Held). AnyAt h.state c.args.old
    × (state_of c.hear_new-heard.new.devices c.self.inside.raised c.self.inside.active c.renumber.new.self c.self.inside.legacy c.self.inside.in_session c.self.inside.records.items
    ≡ with_new c.args.old c.args.new h.state)) c.self.view_is ((heard c).0, after c)

pub returns-in-Ok-clause-answered : goal.returns-in-Ok-clause-answered
returns-in-Ok-clause-answered c =
    subst (λ (h : Held). true ≡ true ↔ SomeLeftAt h.state c.args.old (lost_by c.args.cuts.now (c.args.bits_before + 18))) c.self.view_is
    (subst (λ (r : Result (Unit {0}) NoAnswer). IsOk r ↔ SomeLeftAt (seen c.self.inside) c.args.old (lost_by c.args.cuts.now (c.args.bits_before + 18))) c.in-Ok.is
    (c.hear_new-heard.ensures.answered (seen c.self.inside) (same c)))

pub invariant_of-self-in-Err : goal.invariant_of-self-in-Err
invariant_of-self-in-Err c =
    let m = subst (λ (r : Result (Unit {0}) NoAnswer). MatchResult r
    (λ u. AnyAt (seen c.self.inside) c.args.old × (c.hear_new-heard.new.devices ≡ each_in (with_new_at c.active-active.result c.args.old c.args.new) c.self.inside.devices))
    (λ none. (none.0 ≡ c.args.old) × AllLostAt (seen c.self.inside) c.args.old (lost_by c.args.cuts.now (c.args.bits_before + 18)) × (c.hear_new-heard.new.devices ≡ c.self.inside.devices)))
    c.in-Err.is (c.hear_new-heard.ensures.set (seen c.self.inside) (seen_devices _ _ _ c.self.view_is c.active-active.ensures)) in
    subst (λ (ds : List (Option Device)). IsWhole (state_of ds c.self.inside.raised c.self.inside.active c.self.inside.table c.self.inside.legacy c.self.inside.in_session c.self.inside.records.items) c.self.inside.table c.self.inside.list)
    (sym m.2) c.self.invariant

pub returns-in-Err-clause-given : goal.returns-in-Err-clause-given
returns-in-Err-clause-given c =
    let m = subst (λ (r : Result (Unit {0}) NoAnswer). MatchResult r
    (λ u. AnyAt (seen c.self.inside) c.args.old × (c.hear_new-heard.new.devices ≡ each_in (with_new_at c.active-active.result c.args.old c.args.new) c.self.inside.devices))
    (λ none. (none.0 ≡ c.args.old) × AllLostAt (seen c.self.inside) c.args.old (lost_by c.args.cuts.now (c.args.bits_before + 18)) × (c.hear_new-heard.new.devices ≡ c.self.inside.devices)))
    c.in-Err.is (c.hear_new-heard.ensures.set (seen c.self.inside) (seen_devices _ _ _ c.self.view_is c.active-active.ensures)) in
    let left : state_of c.hear_new-heard.new.devices c.self.inside.raised c.self.inside.active c.self.inside.table c.self.inside.legacy c.self.inside.in_session c.self.inside.records.items ≡ seen c.self.inside =
    ap (λ (ds : List (Option Device)). state_of ds c.self.inside.raised c.self.inside.active c.self.inside.table c.self.inside.legacy c.self.inside.in_session c.self.inside.records.items) m.2 in
    subst (λ (h : Held). (c.in-Err.none.0 ≡ c.args.old) × AllLostAt h.state c.args.old (lost_by c.args.cuts.now (c.args.bits_before + 18))
    × (state_of c.hear_new-heard.new.devices c.self.inside.raised c.self.inside.active c.self.inside.table c.self.inside.legacy c.self.inside.in_session c.self.inside.records.items ≡ h.state)) c.self.view_is (m.0, m.1, left)

pub returns-in-Err-clause-answered : goal.returns-in-Err-clause-answered
returns-in-Err-clause-answered c =
    subst (λ (h : Held). false ≡ true ↔ SomeLeftAt h.state c.args.old (lost_by c.args.cuts.now (c.args.bits_before + 18))) c.self.view_is
    (subst (λ (r : Result (Unit {0}) NoAnswer). IsOk r ↔ SomeLeftAt (seen c.self.inside) c.args.old (lost_by c.args.cuts.now (c.args.bits_before + 18))) c.in-Err.is
    (c.hear_new-heard.ensures.answered (seen c.self.inside) (seen_devices _ _ _ c.self.view_is c.active-active.ensures)))
