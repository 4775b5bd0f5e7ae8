-- A round over the parts of a bus is one of the bus.
use Rattle.std.proofs.Common.{◌≡◌, ℕ, false, refl, subst, sym, ◌∙◌}
use Rattle.i3c_base.specs.Cutting.{lost_by}
use Rattle.i3c_base.specs.Round.{Rounds}
use Rattle.i3c_base.specs.State.{Held, State}
use Rattle.i3c_entdaa.specs.Rounds.{IsAcknowledged, IsRead, reply_of}
use Rattle.i3c_bus.specs.Parts.{state_of}
use Rattle.i3c_step.specs.Step.{cuts_active}
use Rattle.i3c_step.proofs.Soundness.{sound_round}
use Rattle.i3c_step.proofs.Steps.{not_cut}
use Rattle.i3c_bus.proofs.Currency.{current_round}
use Rattle.i3c_bus.proofs.bus.Bus.round.Goals as goal

pub invariant_of-self : goal.invariant_of-self
invariant_of-self g c =
    let before : State = state_of c.self.inside.devices c.self.inside.raised c.self.inside.active c.self.inside.table c.self.inside.legacy c.self.inside.in_session c.self.inside.records.items in
    let after : State = state_of c.round-round.new.devices c.self.inside.raised c.self.inside.active c.round-round.new.table c.self.inside.legacy c.self.inside.in_session c.self.inside.records.items in
    let rounds : Rounds before c.args.cuts.now (reply_of c.round-round.result) after =
    subst (λ ds. Rounds before c.args.cuts.now (reply_of c.round-round.result) (record after { declared = ds })) (sym c.round-round.ensures.declared) (c.round-round.ensures.rounds before refl c.self.invariant.covered) in
    let uncut : (last : ℕ) → lost_by c.args.cuts.now last before.active ≡ false = λ last. not_cut before c.args.cuts.now last (subst (λ (h : Held). cuts_active h.state c.args.cuts.now ≡ false) (sym c.self.view_is) c.requires) in
    record {
      sound = sound_round before c.args.cuts.now (reply_of c.round-round.result) after rounds uncut c.self.invariant.sound;
      covered = (refl, c.round-round.ensures.legacy ∙ c.self.invariant.covered.1, refl, refl);
      copied = current_round before c.args.cuts.now (reply_of c.round-round.result) after c.self.inside.list rounds uncut c.self.invariant.copied;
    }

pub returns-clause-rounds : goal.returns-clause-rounds
returns-clause-rounds g c =
    let before : State = state_of c.self.inside.devices c.self.inside.raised c.self.inside.active c.self.inside.table c.self.inside.legacy c.self.inside.in_session c.self.inside.records.items in
    let after : State = state_of c.round-round.new.devices c.self.inside.raised c.self.inside.active c.round-round.new.table c.self.inside.legacy c.self.inside.in_session c.self.inside.records.items in
    let rounds : Rounds before c.args.cuts.now (reply_of c.round-round.result) after =
    subst (λ ds. Rounds before c.args.cuts.now (reply_of c.round-round.result) (record after { declared = ds })) (sym c.round-round.ensures.declared) (c.round-round.ensures.rounds before refl c.self.invariant.covered) in
    subst (λ (h : Held). Rounds h.state c.args.cuts.now (reply_of c.round-round.result) after) c.self.view_is rounds

pub returns-clause-read : goal.returns-clause-read
returns-clause-read g c =
    let before : State = state_of c.self.inside.devices c.self.inside.raised c.self.inside.active c.self.inside.table c.self.inside.legacy c.self.inside.in_session c.self.inside.records.items in
    subst (λ (h : Held). IsRead h.state c.args.cuts.now c.round-round.result) c.self.view_is (c.round-round.ensures.read before refl c.self.invariant.covered)

pub returns-clause-acknowledged : goal.returns-clause-acknowledged
returns-clause-acknowledged g c =
    let before : State = state_of c.self.inside.devices c.self.inside.raised c.self.inside.active c.self.inside.table c.self.inside.legacy c.self.inside.in_session c.self.inside.records.items in
    subst (λ (h : Held). IsAcknowledged h.state c.args.cuts.now c.round-round.result) c.self.view_is (c.round-round.ensures.acknowledged before refl)
