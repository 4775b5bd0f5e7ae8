use borrow.Author.Tests.{tests}
use Rattle.std.proofs.Common.{ℕ, Some, rules, not, ◌&&◌, ◌==◌, if◌then◌else◌, ap, refl}
use Rattle.i3c_base.specs.Frames.{readdressed}
use Rattle.i3c_base.specs.State.{Device, State, has_address}
use Rattle.i3c_model.specs.Meaning.{moving}
use Rattle.i3c_model.proofs.Framing.{is_reached}
use Rattle.i3c_model.proofs.PlaceLaws.{map_keyed_pairs}
use Rattle.i3c_model.proofs.States.{retained_there, within_fewer}
use Rattle.i3c_model.proofs.plain.Plain.give_new.Goals as goal

-- a device at the old address takes the new one
abbrev taking : ℕ → ℕ → ℕ → ℕ → Device → Device
taking active old new s d = if not (s == active) && has_address old d then readdressed new d else d

pub invariant_of-self : goal.invariant_of-self
invariant_of-self c = within_fewer c.self.inside _ (refl, refl) c.retain.ensures.no_new_key (λ k h. h) c.self.invariant

pub returns : goal.returns
returns c =
    let each = map_keyed_pairs _ (taking c.self.inside.active c.args.old c.args.new) _ (λ k v b w g q. search (rules, tests)) _ _ c.retain.ensures.filtered in
    retained_there c.self.inside c.args.self.now c.self.view_is c.self.invariant c.retain.new.self (taking c.self.inside.active c.args.old c.args.new) (moving c.args.self.now c.args.old c.args.new)
    (λ s d at. ap (λ b. if b then readdressed c.args.new d else d) (is_reached c.args.self.now (Some c.args.old) c.self.inside.active s d (ap (λ (st : State). st.active) c.self.view_is))) each
