use borrow.Author.Tests.{tests}
use Rattle.std.proofs.Common.{ℕ, List, Some, rules, not, ◌&&◌, ◌==◌, if◌then◌else◌, ap, refl}
use Rattle.i3c_base.specs.Frames.{overwritten}
use Rattle.i3c_base.specs.State.{Device, State, has_address}
use Rattle.i3c_model.specs.Meaning.{overwriting}
use Rattle.i3c_model.proofs.Framing.{is_reached}
use Rattle.i3c_model.proofs.PlaceLaws.{map_keyed_pairs}
use Rattle.i3c_model.proofs.States.{retained_there, within_fewer}
use Rattle.i3c_model.proofs.plain.Plain.overwrite_devices.Goals as goal

-- the first registers of a device at the address are replaced
abbrev replacing : ℕ → ℕ → List ℕ → ℕ → Device → Device
replacing active a bytes s d = if not (s == active) && has_address a d then record d { registers = overwritten bytes d.registers } else d

pub invariant_of-self : goal.invariant_of-self
invariant_of-self c = within_fewer c.self.inside _ (refl, refl) c.retain.ensures.no_new_key (λ k h. h) c.self.invariant

pub returns : goal.returns
returns c =
    let bytes : List ℕ = c.args.bytes.now in
    let each = map_keyed_pairs _ (replacing c.self.inside.active c.args.at bytes) _ (λ k v b w g q. search (rules, tests)) _ _ c.retain.ensures.filtered in
    retained_there c.self.inside c.args.self.now c.self.view_is c.self.invariant c.retain.new.self (replacing c.self.inside.active c.args.at bytes) (overwriting c.args.self.now c.args.at bytes)
    (λ s d at. ap (λ b. if b then record d { registers = overwritten bytes d.registers } else d) (is_reached c.args.self.now (Some c.args.at) c.self.inside.active s d (ap (λ (st : State). st.active) c.self.view_is))) each
