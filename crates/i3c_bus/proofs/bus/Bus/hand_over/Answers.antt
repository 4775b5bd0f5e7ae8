-- The role is offered: a willing device takes it, or nobody does.
use Rattle.std.proofs.Common.{◌≡◌, ◌∙◌, ◌+◌, ℕ, ap, inl, inr, refl, subst, sym}
use Rattle.i3c_base.specs.declared.answers.Answer.{Answer}
use Rattle.i3c_base.specs.declared.requests.Served.{Served}
use Rattle.i3c_base.specs.Cutting.{lost_by}
use Rattle.i3c_base.specs.Serve.{emptied}
use Rattle.i3c_base.specs.State.{HasDevices, State}
use Rattle.i3c_frame.specs.Taps.{Tells}
use Rattle.i3c_handoff.specs.declared.outcome.Offer.TheVariants.{Taken}
use Rattle.i3c_handoff.specs.Offers.{IsOffered, offer_bits}
use Rattle.i3c_handoff.specs.Wire.{IsOfferWire}
use Rattle.i3c_step.specs.declared.events.Event.{Event}
use Rattle.i3c_step.specs.declared.replies.Reply.{Reply}
use Rattle.i3c_bus.specs.declared.hand.Hand.{Hand}
use Rattle.i3c_bus.specs.Calls.{Carries}
use Rattle.i3c_bus.specs.Wire.{IsUntaken}
use Rattle.i3c_bus.proofs.Handovers.{declined_carried, handed_carried, taken_by}
use Rattle.i3c_bus.proofs.Seen.{has_devices}
use Rattle.i3c_bus.proofs.bus.Bus.hand_over.Goals as goal

-- the devices that the role is offered to are the bus's
pub hand-role-requires-clause-willing : goal.hand-role-requires-clause-willing
hand-role-requires-clause-willing g c =
    let same : HasDevices c.args.self.now.state c.self.inside.devices c.active-active.result = has_devices _ _ _ c.self.view_is c.active-active.ensures in
    let taken : IsOffered c.args.self.now.state c.args.to (lost_by c.args.cuts.now (c.go_on-served.result.bits + 27)) (Taken c.in-Taken.slot) =
    subst (λ o. IsOffered c.args.self.now.state c.args.to (lost_by c.args.cuts.now (c.go_on-served.result.bits + offer_bits o)) o) c.in-Taken.is (c.offer-offer.ensures.offered c.args.self.now.state same) in
    (taken_by c.args.self.now.state c.args.to c.in-Taken.slot _ taken).0

pub drop_lost-requires : goal.drop_lost-requires
drop_lost-requires g c =
    let same : HasDevices c.args.self.now.state c.self.inside.devices c.active-active.result = has_devices _ _ _ c.self.view_is c.active-active.ensures in
    let taken : IsOffered c.args.self.now.state c.args.to (lost_by c.args.cuts.now (c.go_on-served.result.bits + 27)) (Taken c.in-Taken.slot) =
    subst (λ o. IsOffered c.args.self.now.state c.args.to (lost_by c.args.cuts.now (c.go_on-served.result.bits + offer_bits o)) o) c.in-Taken.is (c.offer-offer.ensures.offered c.args.self.now.state same) in
    let bits : c.offer_bits.result ≡ 27 = c.offer_bits.ensures ∙ ap offer_bits c.in-Taken.is in
    ap (λ (st : State). lost_by c.args.cuts.now (c.go_on-served.result.bits + c.offer_bits.result) st.active) c.hand-role.ensures.state
    ∙ (ap (λ (n : ℕ). lost_by c.args.cuts.now (c.go_on-served.result.bits + n) c.in-Taken.slot) bits ∙ (taken_by c.args.self.now.state c.args.to c.in-Taken.slot (lost_by c.args.cuts.now (c.go_on-served.result.bits + 27)) taken).1)

pub returns-in-Taken-clause-carried : goal.returns-in-Taken-clause-carried
returns-in-Taken-clause-carried g c =
    let old : State = c.args.self.now.state in
    let same : HasDevices old c.self.inside.devices c.active-active.result = has_devices _ _ _ c.self.view_is c.active-active.ensures in
    let taken : IsOffered old c.args.to (lost_by c.args.cuts.now (c.go_on-served.result.bits + 27)) (Taken c.in-Taken.slot) =
    subst (λ o. IsOffered old c.args.to (lost_by c.args.cuts.now (c.go_on-served.result.bits + offer_bits o)) o) c.in-Taken.is (c.offer-offer.ensures.offered old same) in
    let bits : c.offer_bits.result ≡ 27 = c.offer_bits.ensures ∙ ap offer_bits c.in-Taken.is in
    subst (λ (s : Served). Carries c.args.self.now c.drop_lost.new.self (Event.HandOver c.args.to c.args.cuts.now) (Reply.Handed s) (Hand.Role c.hand-role.result) (Tells g.T.Tap.note_gives c.args.tap.now c.tell_offer.new.tap))
    (sym c.go_on-served.ensures.served)
    (handed_carried g.T.Tap.note_gives c.args.tap.now c.begin_refusing-start.new.tap c.go_on-served.new.tap c.tell_offer.new.tap c.args.self.now c.hand-role.new.self c.drop_lost.new.self c.args.to c.in-Taken.slot c.args.role c.hand-role.result
    c.args.cuts.now c.begin_refusing-start.result.served c.begin_refusing-start.result.bits c.go_on-served.result.bits c.requires.fits c.in_default.ensures
    (record {
      serves = c.begin_refusing-start.ensures.serves;
      sent = c.begin_refusing-start.ensures.sent;
      unrecorded = c.begin_refusing-start.ensures.unrecorded;
      count = c.go_on-served.ensures.bits;
      begun = c.begin_refusing-start.ensures.told;
      on = c.go_on-served.ensures.told;
    })
    taken (subst (λ o. Tells g.T.Tap.note_gives c.go_on-served.new.tap c.tell_offer.new.tap (IsOfferWire c.args.to o)) c.in-Taken.is c.tell_offer.ensures)
    c.hand-role.ensures.state c.hand-role.ensures.room
    (c.drop_lost.ensures.state ∙ ap (λ (n : ℕ). emptied (lost_by c.args.cuts.now (c.go_on-served.result.bits + n)) c.hand-role.new.self.state) bits) c.drop_lost.ensures.room c.hand-role.ensures.held)

pub returns-in-Nobody : goal.returns-in-Nobody
returns-in-Nobody g c =
    let old : State = c.args.self.now.state in
    let same : HasDevices old c.self.inside.devices c.active-active.result = has_devices _ _ _ c.self.view_is c.active-active.ensures in
    record {
      carried = subst (λ (s : Served). Carries c.args.self.now c.drop_lost-in-Nobody.new.self (Event.HandOver c.args.to c.args.cuts.now) (Reply.Framed (record { served = s; answer = Answer.NoAnswer c.args.to })) (Hand.Role c.args.role) (Tells g.T.Tap.note_gives c.args.tap.now c.tell_offer.new.tap))
          (sym c.go_on-served.ensures.served)
          (declined_carried g.T.Tap.note_gives c.args.tap.now c.begin_refusing-start.new.tap c.go_on-served.new.tap c.tell_offer.new.tap c.args.self.now c.drop_lost-in-Nobody.new.self c.args.to c.args.role c.offer-offer.result
          c.args.cuts.now c.begin_refusing-start.result.served c.begin_refusing-start.result.bits c.go_on-served.result.bits c.requires.fits c.in_default.ensures
          (record {
            serves = c.begin_refusing-start.ensures.serves;
            sent = c.begin_refusing-start.ensures.sent;
            unrecorded = c.begin_refusing-start.ensures.unrecorded;
            count = c.go_on-served.ensures.bits;
            begun = c.begin_refusing-start.ensures.told;
            on = c.go_on-served.ensures.told;
          })
          (elim c.in-Nobody.is [ inl e ↦ subst IsUntaken (sym e) tt | inr e ↦ subst IsUntaken (sym e.1) tt ])
          (c.offer-offer.ensures.offered old same) (c.offer-offer.ensures.acknowledged old same) (c.offer-offer.ensures.read old same) c.tell_offer.ensures
          (c.drop_lost-in-Nobody.ensures.state ∙ ap (λ (n : ℕ). emptied (lost_by c.args.cuts.now (c.go_on-served.result.bits + n)) old) c.offer_bits.ensures) c.drop_lost-in-Nobody.ensures.room);
      kept = refl;
      unsent = λ other. absurd (other refl);
    }
