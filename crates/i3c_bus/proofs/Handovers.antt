-- A role that is offered, and handed over or not.
use Rattle.std.proofs.Common.{◌≡◌, ℕ, ◌+◌, true, false, ◌∷◌, None, arith, ap, ◌∙◌, refl, sym, subst, ◌↔◌, inl, inr}
use Rattle.i3c_base.specs.declared.answers.Answer.{Answer}
use Rattle.i3c_base.specs.declared.requests.Served.{Served}
use Rattle.i3c_base.specs.Cutting.{CutList, Lost, lost_by}
use Rattle.i3c_base.specs.Frames.{Hands, IsRefusedBits, IsWillingAt, KeepsRole, handed}
use Rattle.i3c_base.specs.Serve.{IsWordBits, Serves, emptied, header_bits, refuse_all}
use Rattle.i3c_base.specs.State.{Held, State}
use Rattle.i3c_frame.specs.declared.symbols.Symbol.{Symbol}
use Rattle.i3c_frame.specs.Taps.{Tells}
use Rattle.i3c_handoff.specs.declared.outcome.Offer.{Offer}
use Rattle.i3c_handoff.specs.declared.outcome.Offer.TheVariants.{Nobody, Torn, Taken}
use Rattle.i3c_handoff.specs.Offers.{IsOffered, IsReadAs, SomeTakes, is_acknowledged, offer_bits}
use Rattle.i3c_handoff.specs.Wire.{IsOfferWire}
use Rattle.i3c_step.specs.declared.events.Event.{Event}
use Rattle.i3c_step.specs.declared.replies.Refusal.{Refusal}
use Rattle.i3c_step.specs.declared.replies.Reply.{Reply}
use Rattle.i3c_step.specs.Serving.{place_of}
use Rattle.i3c_step.specs.Step.{cuts_active, first_refusal, hand_checks}
use Rattle.i3c_step.proofs.Acting.{acting}
use Rattle.i3c_bus.specs.declared.hand.Hand.{Hand}
use Rattle.i3c_bus.specs.Calls.{Carries}
use Rattle.i3c_bus.specs.Hands.{HandFits}
use Rattle.i3c_bus.specs.Wire.{IsBegun, IsDeclinedPart, IsHandedWire, IsOn, IsUntaken}
use Rattle.i3c_bus.proofs.Opening.{begun_anyway, tells_parts}

-- how a frame began that refuses each request
pub record IsWayTo {T : Type 0} (gives : T → Symbol → T → Type 0) (tap first second : T) (old : State) (cuts : CutList) (served : Served) (word bits : ℕ) : Type 0 where
  pub serves : (lost : Lost) → Serves old refuse_all lost served old
  pub sent : IsWordBits old served word
  pub unrecorded : place_of served ≡ None
  pub count : bits ≡ word + header_bits served
  pub begun : Tells gives tap first (IsBegun old cuts served old)
  pub on : Tells gives first second (IsOn old cuts served word)

-- an offer that isn't refused
pub offer_free : (st : State) (cuts : CutList) (to : ℕ) → st.in_session ≡ false → first_refusal ((cuts_active st cuts, Refusal.ActiveStays) ∷ hand_checks st to) ≡ None
    → first_refusal ((st.in_session, Refusal.SessionOpen) ∷ (cuts_active st cuts, Refusal.ActiveStays) ∷ hand_checks st to) ≡ None
offer_free st cuts to closed free = ap (λ b. first_refusal ((b, Refusal.SessionOpen) ∷ (cuts_active st cuts, Refusal.ActiveStays) ∷ hand_checks st to)) closed ∙ free

-- a device at the address took it
pub handed_carried : {T : Type 0} (gives : T → Symbol → T → Type 0) (tap first second last : T) (old mid new : Held) (to slot holder taker : ℕ) (cuts : CutList) (served : Served) (word bits : ℕ)
    → HandFits (Hand.Role holder) old.state → first_refusal ((cuts_active old.state cuts, Refusal.ActiveStays) ∷ hand_checks old.state to) ≡ None → IsWayTo gives tap first second old.state cuts served word bits
    → IsOffered old.state to (lost_by cuts (bits + 27)) (Taken slot) → Tells gives second last (IsOfferWire to (Taken slot))
    → mid.state ≡ handed slot to old.state → mid.room ≡ old.room → new.state ≡ emptied (lost_by cuts (bits + 27)) mid.state → new.room ≡ mid.room → taker ≡ slot
    → Carries old new (Event.HandOver to cuts) (Reply.Handed served) (Hand.Role taker) (Tells gives tap last)
handed_carried gives tap first second last old mid new to slot holder taker cuts served word bits fits free way hands own is kept gone same took =
    let all : bits + 27 ≡ word + (header_bits served + 27) = let count = way.count in omega (arith, count) in
    let after : new.state ≡ emptied (lost_by cuts (word + (header_bits served + 27))) (handed slot to old.state) = gone ∙ (λ k. emptied (lost_by cuts (all k)) (is k)) in
    let active : new.state.active ≡ slot = ap (λ (st : State). st.active) after in
    record {
      step = acting old.state (Event.HandOver to cuts) (Reply.Handed served) new.state (offer_free old.state cuts to fits.1 free) (inl (
        served,
        refl,
        record {
          word = word;
          mid = old.state;
          done = handed slot to old.state;
          sent = way.sent;
          serves = way.serves (lost_by cuts (word + (header_bits served + 27)));
          own = subst (λ n. Hands to (lost_by cuts n) old.state (handed slot to old.state)) all hands;
          left = after;
        },
      ));
      told = tells_parts gives tap first second last old.state cuts served word new.state (λ b. IsHandedWire new.state (Event.HandOver to cuts)) way.sent
          (way.begun.0, way.begun.1, begun_anyway served old.state cuts old.state new.state way.begun.0 way.unrecorded way.begun.2) way.on
          (own.0, own.1, subst (λ s. IsOfferWire to (Taken s) own.0) (sym active) own.2);
      fits = (took ∙ sym active, ap (λ (st : State). st.in_session) after ∙ fits.1);
      room = record { enough = λ full e. cc; lasts = λ full none. same ∙ (kept ∙ full) };
    }

-- an offer that nobody took
keeps_of : (st : State) (a : ℕ) (lost : Lost) (offer : Offer) → IsUntaken offer → IsOffered st a lost offer → KeepsRole a lost st st × IsRefusedBits st a (offer_bits offer)
keeps_of st a lost Nobody untaken h = h
keeps_of st a lost (Torn byte) untaken h = h
keeps_of st a lost (Taken s) untaken h = absurd untaken

pub declined_carried : {T : Type 0} (gives : T → Symbol → T → Type 0) (tap first second last : T) (old new : Held) (to holder : ℕ) (offer : Offer) (cuts : CutList) (served : Served) (word bits : ℕ)
    → HandFits (Hand.Role holder) old.state → first_refusal ((cuts_active old.state cuts, Refusal.ActiveStays) ∷ hand_checks old.state to) ≡ None → IsWayTo gives tap first second old.state cuts served word bits
    → IsUntaken offer → IsOffered old.state to (lost_by cuts (bits + offer_bits offer)) offer → ((is_acknowledged offer ≡ true) ↔ SomeTakes old.state to (lost_by cuts (bits + 18))) → IsReadAs old.state to cuts (bits + 19) offer
    → Tells gives second last (IsOfferWire to offer) → new.state ≡ emptied (lost_by cuts (bits + offer_bits offer)) old.state → new.room ≡ old.room
    → Carries old new (Event.HandOver to cuts) (Reply.Framed (record { served = served; answer = Answer.NoAnswer to })) (Hand.Role holder) (Tells gives tap last)
declined_carried gives tap first second last old new to holder offer cuts served word bits fits free way untaken offered acked read own gone same =
    let n : ℕ = offer_bits offer in
    let all : bits + n ≡ word + (header_bits served + n) = let count = way.count in omega (arith, count) in
    let after : new.state ≡ emptied (lost_by cuts (word + (header_bits served + n))) old.state = gone ∙ ap (λ k. emptied (lost_by cuts k) old.state) all in
    let keeps = keeps_of old.state to (lost_by cuts (bits + n)) offer untaken offered in
    let part : IsDeclinedPart old.state cuts to new.state (word + header_bits served) own.0 = subst (λ b. IsDeclinedPart old.state cuts to new.state b own.0) way.count (offer, untaken, acked, read, gone, own.2) in
    record {
      step = acting old.state (Event.HandOver to cuts) (Reply.Framed (record { served = served; answer = Answer.NoAnswer to })) new.state (offer_free old.state cuts to fits.1 free) (inr (
        served,
        n,
        refl,
        keeps.1,
        record {
          word = word;
          mid = old.state;
          done = old.state;
          sent = way.sent;
          serves = way.serves (lost_by cuts (word + (header_bits served + n)));
          own = subst (λ k. KeepsRole to (lost_by cuts k) old.state old.state) all keeps.0;
          left = after;
        },
      ));
      told = tells_parts gives tap first second last old.state cuts served word new.state (IsDeclinedPart old.state cuts to new.state) way.sent
          (way.begun.0, way.begun.1, begun_anyway served old.state cuts old.state new.state way.begun.0 way.unrecorded way.begun.2) way.on (own.0, own.1, part);
      fits = (fits.0 ∙ sym (ap (λ (st : State). st.active) after), ap (λ (st : State). st.in_session) after ∙ fits.1);
      room = record { enough = λ full e. cc; lasts = λ full none. same ∙ full };
    }

-- the slot that took it, as the offer says
pub taken_by : (st : State) (a slot : ℕ) (lost : Lost) → IsOffered st a lost (Taken slot) → IsWillingAt st a slot × (lost slot ≡ false)
taken_by st a slot lost h =
    let same : h.0 ≡ slot = sym (ap (λ (s : State). s.active) h.4) in (
      subst (IsWillingAt st a) same h.1,
      subst (λ s. lost s ≡ false) same h.2,
    )
