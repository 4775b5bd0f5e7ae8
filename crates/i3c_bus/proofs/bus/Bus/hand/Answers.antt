-- The table keeps addresses for declared identities, as the copy of the device that takes the role.
use Rattle.std.proofs.Common.{◌≡◌, ◌∙◌, ap, refl, subst, sym}
use Rattle.std.proofs.lemmas.Bool.{both_ways}
use Rattle.i3c_base.specs.Covered.{Table}
use Rattle.i3c_base.specs.Frames.{IsWillingAt, handed}
use Rattle.i3c_base.specs.State.{Held}
use Rattle.i3c_bus.specs.Parts.{state_of}
use Rattle.i3c_bus.proofs.Currency.{handed_by}
use Rattle.i3c_bus.proofs.Seen.{seen}
use Rattle.i3c_step.specs.Sound.{IsSound}
use Rattle.i3c_step.proofs.Soundness.{sound_handed}
use Rattle.i3c_bus.proofs.bus.Bus.hand.Goals as goal

after : (c : goal.After-give)
    → state_of c.lose_role_wish.new.self c.self.inside.raised c.give.new.active c.take_over.new.self c.self.inside.legacy c.self.inside.in_session c.self.inside.records.items ≡ handed c.args.slot c.args.address (seen c.self.inside)
after c = handed_by (seen c.self.inside) c.self.inside.table c.args.slot c.args.address c.give.new.active c.take_over.new.self c.lose_role_wish.new.self
    refl refl c.take_over.ensures c.lose_role_wish.ensures c.give.ensures.kept

pub invariant_of-self : goal.invariant_of-self
invariant_of-self c =
    let willing : IsWillingAt (seen c.self.inside) c.args.address c.args.slot = subst (λ (h : Held). IsWillingAt h.state c.args.address c.args.slot) (sym c.self.view_is) c.requires.willing in
    record {
      sound = subst IsSound (sym (after c)) (sound_handed c.args.slot c.args.address (seen c.self.inside) willing c.self.invariant.sound);
      covered = (refl, ap (λ (t : Table). t.legacy) c.take_over.ensures ∙ c.self.invariant.covered.1, refl, refl);
      copied = λ listed. absurd (both_ways _ (ap (λ (t : Table). t.listed) c.take_over.ensures) listed);
    }

pub returns-clause-state : goal.returns-clause-state
returns-clause-state c = after c ∙ ap (λ (h : Held). handed c.args.slot c.args.address h.state) c.self.view_is
