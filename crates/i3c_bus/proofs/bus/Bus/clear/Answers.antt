-- Each device hears the reset, and the table keeps the active controller's own entry.
use Rattle.std.proofs.Common.{◌≡◌, ◌∙◌, ℕ, Some, None, ap, get_or, option_map, refl, set, subst, sym}
use Rattle.std.proofs.lemmas.Bool.{both_ways}
use Rattle.i3c_base.specs.Covered.{Table}
use Rattle.i3c_base.specs.Frames.{reset}
use Rattle.i3c_base.specs.Places.{changed}
use Rattle.i3c_base.specs.Serve.{without_role}
use Rattle.i3c_base.specs.State.{Held, device_at}
use Rattle.i3c_bus.specs.Parts.{state_of}
use Rattle.i3c_bus.specs.Readings.{address_of}
use Rattle.i3c_bus.proofs.Resetting.{reset_at, reset_devices, reset_given}
use Rattle.i3c_bus.proofs.Seen.{seen}
use Rattle.i3c_step.specs.Sound.{IsSound}
use Rattle.i3c_table.specs.Putting.{cleared as table_cleared}
use Rattle.i3c_step.proofs.Soundness.{sound_reset}
use Rattle.i3c_bus.proofs.bus.Bus.clear.Goals as goal

-- the parts are those of a reset
cleared : (c : goal.After-clear)
    → state_of c.lose_role_wish.new.self c.self.inside.raised c.self.inside.active c.clear.new.self c.self.inside.legacy c.self.inside.in_session c.self.inside.records.items ≡ reset (seen c.self.inside)
cleared c =
    let slot : c.active-active.result ≡ c.self.inside.active = c.active-active.ensures ∙ ap (λ (h : Held). h.state.active) (sym c.self.view_is) in
    let own : address_of (device_at (seen c.self.inside) c.self.inside.active) ≡ Some c.in-Some.own =
    ap (λ (s : ℕ). address_of (device_at (seen c.self.inside) s)) (sym slot) ∙ (ap (λ (h : Held). address_of (device_at h.state c.active-active.result)) c.self.view_is ∙ (sym c.address.ensures ∙ c.in-Some.is)) in
    let devices = c.lose_role_wish.ensures
    ∙ (ap (λ heard. set heard c.active-active.result (option_map without_role (get_or heard c.active-active.result None))) c.hear.ensures
    ∙ reset_devices c.active-active.result c.self.inside.devices) in
    (λ t. state_of (devices t) c.self.inside.raised c.self.inside.active (c.clear.ensures t) c.self.inside.legacy c.self.inside.in_session c.self.inside.records.items)
    ∙ (ap (λ (s : ℕ). state_of (changed (reset_at s) c.self.inside.devices) c.self.inside.raised c.self.inside.active (table_cleared c.in-Some.own c.self.inside.table) c.self.inside.legacy c.self.inside.in_session c.self.inside.records.items) slot
    ∙ ap (λ given. record (state_of (changed (reset_at c.self.inside.active) c.self.inside.devices) c.self.inside.raised c.self.inside.active (table_cleared c.in-Some.own c.self.inside.table) c.self.inside.legacy c.self.inside.in_session c.self.inside.records.items) { given = given })
    (reset_given (seen c.self.inside) c.in-Some.own c.self.inside.table.given own))

pub invariant_of-self : goal.invariant_of-self
invariant_of-self c = record {
  sound = subst IsSound (sym (cleared c)) (sound_reset (seen c.self.inside) c.self.invariant.sound);
  covered = (refl, ap (λ (t : Table). t.legacy) c.clear.ensures ∙ c.self.invariant.covered.1, refl, refl);
  copied = λ listed. absurd (both_ways _ (ap (λ (t : Table). t.listed) c.clear.ensures) listed);
}

pub returns-clause-state : goal.returns-clause-state
returns-clause-state c = cleared c ∙ ap (λ (h : Held). reset h.state) c.self.view_is
