use borrow.Author.Tests.{tests}
use Rattle.std.proofs.Common.{rules, if◌then◌else◌, ap, refl}
use Rattle.i3c_base.specs.Frames.{takes_static}
use Rattle.i3c_base.specs.Round.{winner}
use Rattle.i3c_base.specs.State.{State}
use Rattle.i3c_model.specs.Meaning.{settling}
use Rattle.i3c_model.proofs.PlaceLaws.{map_keyed_pairs}
use Rattle.i3c_model.proofs.States.{retained_there, within_fewer}
use Rattle.i3c_model.proofs.plain.Plain.give_static.Goals as goal

pub invariant_of-self : goal.invariant_of-self
invariant_of-self c = within_fewer c.self.inside _ (refl, refl) c.retain.ensures.no_new_key (λ k h. h) c.self.invariant

pub returns : goal.returns
returns c =
    let each = map_keyed_pairs _ (settling c.self.inside.active c.args.fixed c.args.new) _ (λ k v b w g q. search (rules, tests)) _ _ c.retain.ensures.filtered in
    retained_there c.self.inside c.args.self.now c.self.view_is c.self.invariant c.retain.new.self (settling c.self.inside.active c.args.fixed c.args.new) _
    (λ s d at. ap (λ (st : State). if takes_static st.active c.args.fixed s d then winner c.args.new d else d) c.self.view_is) each
