use borrow.Author.Tests.{tests}
use Rattle.std.proofs.Common.{ℕ, Option, rules, not, ◌&&◌, ◌==◌, if◌then◌else◌, ap, refl}
use Rattle.i3c_base.specs.declared.datum.Direction.{Direction}
use Rattle.i3c_base.specs.Frames.{limited}
use Rattle.i3c_base.specs.State.{Device, State}
use Rattle.i3c_model.specs.Meaning.{is_meant}
use Rattle.i3c_model.proofs.Framing.{is_reached}
use Rattle.i3c_model.proofs.PlaceLaws.{map_keyed_pairs}
use Rattle.i3c_model.proofs.States.{retained_there, within_fewer}
use Rattle.i3c_model.proofs.plain.Plain.limit.Goals as goal

-- a device that the command reaches has this maximum length
abbrev limiting : ℕ → Option ℕ → Direction → ℕ → ℕ → Device → Device
limiting active to way most s d = if not (s == active) && is_meant to d then limited way most d else d

pub invariant_of-self : goal.invariant_of-self
invariant_of-self c = within_fewer c.self.inside _ (refl, refl) c.retain.ensures.no_new_key (λ k h. h) c.self.invariant

pub returns : goal.returns
returns c =
    let each = map_keyed_pairs _ (limiting c.self.inside.active c.args.to.now c.args.way c.args.most) _ (λ k v b w g q. search (rules, tests)) _ _ c.retain.ensures.filtered in
    retained_there c.self.inside c.args.self.now c.self.view_is c.self.invariant c.retain.new.self (limiting c.self.inside.active c.args.to.now c.args.way c.args.most) _
    (λ s d at. ap (λ b. if b then limited c.args.way c.args.most d else d) (is_reached c.args.self.now c.args.to.now c.self.inside.active s d (ap (λ (st : State). st.active) c.self.view_is))) each
