use borrow.Author.Tests.{tests}
use Rattle.std.proofs.Common.{ℕ, Option, rules, not, ◌&&◌, ◌==◌, if◌then◌else◌, ap, refl}
use Rattle.i3c_base.specs.Numbers.{KindSet}
use Rattle.i3c_base.specs.Frames.{changed_kinds}
use Rattle.i3c_base.specs.State.{Device, State}
use Rattle.i3c_model.specs.Meaning.{is_meant}
use Rattle.i3c_model.proofs.Framing.{is_reached}
use Rattle.i3c_model.proofs.PlaceLaws.{map_keyed_pairs}
use Rattle.i3c_model.proofs.States.{retained_there, within_fewer}
use Rattle.i3c_model.proofs.plain.Plain.change_kinds.Goals as goal

-- the enabled kinds of a device that the command reaches are changed
abbrev rekinding : ℕ → Option ℕ → (KindSet → KindSet) → ℕ → Device → Device
rekinding active to f s d = if not (s == active) && is_meant to d then record d { kinds = f d.kinds } else d

pub invariant_of-self : goal.invariant_of-self
invariant_of-self c = within_fewer c.self.inside _ (refl, refl) c.retain.ensures.no_new_key (λ k h. h) c.self.invariant

pub returns : goal.returns
returns c =
    let f : KindSet → KindSet = changed_kinds c.args.change c.args.kinds in
    let each = map_keyed_pairs _ (rekinding c.self.inside.active c.args.to.now f) _ (λ k v b w g q. search (rules, tests)) _ _ c.retain.ensures.filtered in
    retained_there c.self.inside c.args.self.now c.self.view_is c.self.invariant c.retain.new.self (rekinding c.self.inside.active c.args.to.now f) _
    (λ s d at. ap (λ b. if b then record d { kinds = f d.kinds } else d) (is_reached c.args.self.now c.args.to.now c.self.inside.active s d (ap (λ (st : State). st.active) c.self.view_is))) each
