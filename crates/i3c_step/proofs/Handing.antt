-- A role that is handed over.
use Rattle.std.proofs.Common.{◌≡◌, ℕ, ◌+◌, false, sym, ap, ◌∙◌, subst}
use Rattle.i3c_base.specs.declared.requests.Request.TheVariants.{Join, Role, Interrupt}
use Rattle.i3c_base.specs.declared.requests.Served.{Served}
use Rattle.i3c_base.specs.declared.requests.Served.TheVariants.{Quiet, Recorded, Refused, Torn, Joining, WantsRole}
use Rattle.i3c_base.specs.Cutting.{CutList, Lost, lost_by}
use Rattle.i3c_base.specs.Frames.{Hands, IsWillingAt, handed}
use Rattle.i3c_base.specs.Serve.{Serves, emptied, header_bits, refuse_all}
use Rattle.i3c_base.specs.State.{State}
use Rattle.i3c_step.specs.declared.replies.Reply.{Reply}
use Rattle.i3c_step.specs.Step.{IsDeclined, IsGranted}
use Rattle.i3c_base.proofs.Verdicts.{refuses}
use Rattle.i3c_step.proofs.Uniqueness.{accept≢refuse}

-- a frame that refuses each request serves nothing
nothing_served : (st : State) (lost : Lost) (served : Served) (new : State) → Serves st refuse_all lost served new → new ≡ st
nothing_served st lost Quiet new h = h.1
nothing_served st lost Refused new h = h.1
nothing_served st lost Joining new h = absurd (accept≢refuse (sym h.1 ∙ refuses st Join))
nothing_served st lost (WantsRole a) new h = absurd (accept≢refuse (sym h.1 ∙ refuses st (Role a)))
nothing_served st lost (Recorded place) new h = absurd (accept≢refuse (sym h.accepted ∙ refuses st (Interrupt h.at)))
nothing_served st lost Torn new h = absurd (accept≢refuse (sym h.accepted ∙ refuses st (Interrupt h.at)))

-- the slot that it went to, and what is left then
pub record IsHandedOver (old : State) (a : ℕ) (cuts : CutList) (new : State) : Type 0 where
  pub slot : ℕ
  pub last : ℕ
  pub willing : IsWillingAt old a slot
  pub left : lost_by cuts last slot ≡ false
  pub after : new ≡ emptied (lost_by cuts last) (handed slot a old)

pub granted : (old : State) (a : ℕ) (cuts : CutList) (reply : Reply) (new : State) → IsGranted old a cuts reply new → IsHandedOver old a cuts new
granted old a cuts reply new g =
    let f = g.2 in
    let last : ℕ = f.word + (header_bits g.0 + 27) in
    let own : Hands a (lost_by cuts last) old f.done = subst (λ m. Hands a (lost_by cuts last) m f.done) (nothing_served old _ g.0 f.mid f.serves) f.own in
    record { slot = own.0; last = last; willing = own.1; left = own.2; after = f.left ∙ ap (emptied (lost_by cuts last)) own.4 }

-- if it isn't, the frame loses the devices that its cuts lose
pub declined : (old : State) (a : ℕ) (cuts : CutList) (reply : Reply) (new : State) → IsDeclined old a cuts reply new → (last : ℕ) × (new ≡ emptied (lost_by cuts last) old)
declined old a cuts reply new g =
    let f = g.4 in
    let last : ℕ = f.word + (header_bits g.0 + g.1) in
    let same : f.done ≡ old = f.own.1 ∙ nothing_served old _ g.0 f.mid f.serves in
    (last, f.left ∙ ap (emptied (lost_by cuts last)) same)
