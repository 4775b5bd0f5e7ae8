-- The devices that take SETDASA have the new address, and so has the table; or nothing changes.
use Rattle.std.proofs.Common.{◌≡◌, ◌∙◌, ◌+◌, ◌||◌, ◌↔◌, ℕ, List, Option, Some, true, ap, inl, inr, refl, subst, sym, Result, IsOk, MatchResult, false}
use Rattle.std.proofs.lemmas.Bool.{both_ways, or_cases}
use Rattle.i3c_base.specs.Covered.{Table}
use Rattle.i3c_base.specs.Cutting.{lost_by}
use Rattle.i3c_base.specs.Frames.{AllUnaddressedLostAt, AnyUnaddressedAt, SomeUnaddressedLeftAt, with_static, with_static_at}
use Rattle.i3c_base.specs.State.{Device, HasDevices, Held, declared_at, each_in}
use Rattle.i3c_entdaa.proofs.RoundLaws.{pickable_there}
use Rattle.i3c_events.specs.declared.hearing.NoAnswer.{NoAnswer}
use Rattle.i3c_step.specs.Sound.{IsSound}
use Rattle.i3c_step.specs.Step.{is_kept_for, is_pickable}
use Rattle.i3c_step.proofs.Addresses.{pickable_settled}
use Rattle.i3c_step.proofs.Soundness.{sound_with_static}
use Rattle.i3c_bus.specs.Parts.{state_of}
use Rattle.i3c_bus.specs.Statics.{IsFixedAt}
use Rattle.i3c_bus.specs.Whole.{IsWhole}
use Rattle.i3c_bus.proofs.Seen.{seen, seen_devices}
use Rattle.i3c_bus.proofs.Settings.{itself}
use Rattle.i3c_bus.proofs.bus.Bus.give_static.Goals as goal

-- what is asked, of the fields
given : (c : goal.After-settle) → (is_pickable (seen c.self.inside) c.args.new || is_kept_for (seen c.self.inside) (Some c.args.identity.now) c.args.new) ≡ true
given c = subst (λ (h : Held). (is_pickable h.state c.args.new || is_kept_for h.state (Some c.args.identity.now) c.args.new) ≡ true) (sym c.self.view_is) c.requires.given

same : (c : goal.After-settle) → HasDevices (seen c.self.inside) c.self.inside.devices c.active-active.result
same c = seen_devices _ _ _ c.self.view_is c.active-active.ensures

-- a device without a dynamic address is at the static one, and the devices afterwards
heard : (c : goal.After-settle) → AnyUnaddressedAt (seen c.self.inside) c.args.fixed × (c.hear_static-heard.new.devices ≡ each_in (with_static_at c.active-active.result c.args.fixed c.args.new) c.self.inside.devices)
heard c = subst (λ (r : Result (Unit {0}) NoAnswer). MatchResult r
    (λ u. AnyUnaddressedAt (seen c.self.inside) c.args.fixed × (c.hear_static-heard.new.devices ≡ each_in (with_static_at c.active-active.result c.args.fixed c.args.new) c.self.inside.devices))
    (λ none. (none.0 ≡ c.args.fixed) × AllUnaddressedLostAt (seen c.self.inside) c.args.fixed (lost_by c.args.cuts.now (c.args.bits_before + 18)) × (c.hear_static-heard.new.devices ≡ c.self.inside.devices)))
    c.in-Ok.is (c.hear_static-heard.ensures.set (seen c.self.inside) (same c))

pub settle-requires-clause-fixed : goal.settle-requires-clause-fixed
settle-requires-clause-fixed c = subst (λ (h : Held). IsFixedAt h.state.declared c.args.identity.now c.args.fixed) (sym c.self.view_is) c.requires.fixed

pub settle-requires-clause-given : goal.settle-requires-clause-given
settle-requires-clause-given c =
    elim (or_cases (is_pickable (seen c.self.inside) c.args.new) (is_kept_for (seen c.self.inside) (Some c.args.identity.now) c.args.new) (subst (λ (h : Held). (is_pickable h.state c.args.new || is_kept_for h.state (Some c.args.identity.now) c.args.new) ≡ true) (sym c.self.view_is) c.requires.given)) [
      | inl p ↦ inl (pickable_there (seen c.self.inside) c.self.inside.table c.args.new c.self.invariant.covered (pickable_settled (seen c.self.inside) (seen c.self.inside) c.args.new (itself (seen c.self.inside)) p))
      | inr k ↦ inr k
    ]

after : (c : goal.After-settle)
    → state_of c.hear_static-heard.new.devices c.self.inside.raised c.self.inside.active c.settle.new.table c.self.inside.legacy c.self.inside.in_session c.self.inside.records.items
    ≡ with_static c.args.fixed c.args.identity.now c.args.new (seen c.self.inside)
after c =
    let active : c.active-active.result ≡ c.self.inside.active = c.active-active.ensures ∙ ap (λ (h : Held). h.state.active) (sym c.self.view_is) in
    let devices : c.hear_static-heard.new.devices ≡ each_in (with_static_at c.self.inside.active c.args.fixed c.args.new) c.self.inside.devices =
    (heard c).1 ∙ ap (λ (a : ℕ). each_in (with_static_at a c.args.fixed c.args.new) c.self.inside.devices) active in
    λ t. state_of (devices t) c.self.inside.raised c.self.inside.active (c.settle.ensures t) c.self.inside.legacy c.self.inside.in_session c.self.inside.records.items

pub invariant_of-self : goal.invariant_of-self
invariant_of-self c =
    let declared : declared_at (seen c.self.inside) c.args.fixed ≡ Some c.args.identity.now = subst (λ (h : Held). declared_at h.state c.args.fixed ≡ Some c.args.identity.now) (sym c.self.view_is) c.requires.declared in
    record {
      sound = subst IsSound (sym (after c))
          (sound_with_static c.args.fixed c.args.identity.now c.args.new (seen c.self.inside) (seen c.self.inside) (itself (seen c.self.inside)) declared (given c) c.self.invariant.sound);
      covered = (refl, ap (λ (t : Table). t.legacy) c.settle.ensures ∙ c.self.invariant.covered.1, refl, refl);
      copied = λ listed. absurd (both_ways _ (ap (λ (t : Table). t.listed) c.settle.ensures) listed);
    }

pub returns-in-Ok-clause-given : goal.returns-in-Ok-clause-given
returns-in-Ok-clause-given c =
    subst (λ (h : Held). AnyUnaddressedAt h.state c.args.fixed
    × (state_of c.hear_static-heard.new.devices c.self.inside.raised c.self.inside.active c.settle.new.table c.self.inside.legacy c.self.inside.in_session c.self.inside.records.items
    ≡ with_static c.args.fixed c.args.identity.now c.args.new h.state)) c.self.view_is ((heard c).0, after c)

pub returns-in-Ok-clause-answered : goal.returns-in-Ok-clause-answered
returns-in-Ok-clause-answered c =
    subst (λ (h : Held). true ≡ true ↔ SomeUnaddressedLeftAt h.state c.args.fixed (lost_by c.args.cuts.now (c.args.bits_before + 18))) c.self.view_is
    (subst (λ (r : Result (Unit {0}) NoAnswer). IsOk r ↔ SomeUnaddressedLeftAt (seen c.self.inside) c.args.fixed (lost_by c.args.cuts.now (c.args.bits_before + 18))) c.in-Ok.is
    (c.hear_static-heard.ensures.answered (seen c.self.inside) (same c)))

pub invariant_of-self-in-Err : goal.invariant_of-self-in-Err
invariant_of-self-in-Err c =
    let m = subst (λ (r : Result (Unit {0}) NoAnswer). MatchResult r
    (λ u. AnyUnaddressedAt (seen c.self.inside) c.args.fixed × (c.hear_static-heard.new.devices ≡ each_in (with_static_at c.active-active.result c.args.fixed c.args.new) c.self.inside.devices))
    (λ none. (none.0 ≡ c.args.fixed) × AllUnaddressedLostAt (seen c.self.inside) c.args.fixed (lost_by c.args.cuts.now (c.args.bits_before + 18)) × (c.hear_static-heard.new.devices ≡ c.self.inside.devices)))
    c.in-Err.is (c.hear_static-heard.ensures.set (seen c.self.inside) (seen_devices _ _ _ c.self.view_is c.active-active.ensures)) in
    subst (λ (ds : List (Option Device)). IsWhole (state_of ds c.self.inside.raised c.self.inside.active c.self.inside.table c.self.inside.legacy c.self.inside.in_session c.self.inside.records.items) c.self.inside.table c.self.inside.list)
    (sym m.2) c.self.invariant

pub returns-in-Err-clause-given : goal.returns-in-Err-clause-given
returns-in-Err-clause-given c =
    let m = subst (λ (r : Result (Unit {0}) NoAnswer). MatchResult r
    (λ u. AnyUnaddressedAt (seen c.self.inside) c.args.fixed × (c.hear_static-heard.new.devices ≡ each_in (with_static_at c.active-active.result c.args.fixed c.args.new) c.self.inside.devices))
    (λ none. (none.0 ≡ c.args.fixed) × AllUnaddressedLostAt (seen c.self.inside) c.args.fixed (lost_by c.args.cuts.now (c.args.bits_before + 18)) × (c.hear_static-heard.new.devices ≡ c.self.inside.devices)))
    c.in-Err.is (c.hear_static-heard.ensures.set (seen c.self.inside) (seen_devices _ _ _ c.self.view_is c.active-active.ensures)) in
    let left : state_of c.hear_static-heard.new.devices c.self.inside.raised c.self.inside.active c.self.inside.table c.self.inside.legacy c.self.inside.in_session c.self.inside.records.items ≡ seen c.self.inside =
    ap (λ (ds : List (Option Device)). state_of ds c.self.inside.raised c.self.inside.active c.self.inside.table c.self.inside.legacy c.self.inside.in_session c.self.inside.records.items) m.2 in
    subst (λ (h : Held). (c.in-Err.none.0 ≡ c.args.fixed) × AllUnaddressedLostAt h.state c.args.fixed (lost_by c.args.cuts.now (c.args.bits_before + 18))
    × (state_of c.hear_static-heard.new.devices c.self.inside.raised c.self.inside.active c.self.inside.table c.self.inside.legacy c.self.inside.in_session c.self.inside.records.items ≡ h.state)) c.self.view_is (m.0, m.1, left)

pub returns-in-Err-clause-answered : goal.returns-in-Err-clause-answered
returns-in-Err-clause-answered c =
    subst (λ (h : Held). false ≡ true ↔ SomeUnaddressedLeftAt h.state c.args.fixed (lost_by c.args.cuts.now (c.args.bits_before + 18))) c.self.view_is
    (subst (λ (r : Result (Unit {0}) NoAnswer). IsOk r ↔ SomeUnaddressedLeftAt (seen c.self.inside) c.args.fixed (lost_by c.args.cuts.now (c.args.bits_before + 18))) c.in-Err.is
    (c.hear_static-heard.ensures.answered (seen c.self.inside) (seen_devices _ _ _ c.self.view_is c.active-active.ensures)))
