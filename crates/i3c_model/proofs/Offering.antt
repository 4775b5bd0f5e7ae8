-- The device that takes the offered role, and the end of the offer.
use Rattle.std.proofs.Common.{◌≡◌, ℕ, ◌+◌, ◌≤◌, ◌<◌, true, length, is_none, Option, Some, None, MatchOption, inl, inr, sym, refl, ap, ◌∙◌, subst, arith}
use Rattle.std.specs.Prelude.{⊤}
use Rattle.std.proofs.lemmas.Bool.{both_ways, cases_eq, cases_lt, false≢true}
use Rattle.std.proofs.lemmas.List.{get_or_past}
use Rattle.std.proofs.lemmas.Option.{none-some}
use Rattle.i3c_base.specs.declared.answers.Answer.{Answer}
use Rattle.i3c_base.specs.declared.requests.Fixed.{Fixed}
use Rattle.i3c_base.specs.declared.requests.Request.TheVariants.{Join, Role, Interrupt}
use Rattle.i3c_base.specs.declared.requests.Served.{Served}
use Rattle.i3c_base.specs.declared.requests.Served.TheVariants.{Quiet, Recorded, Refused, Torn, Joining, WantsRole}
use Rattle.i3c_base.specs.Cutting.{CutList, IsUncut, Lost as LostDevices, cut_of, is_by, lost_by}
use Rattle.i3c_base.specs.Frames.{Hands, IsWillingAt, KeepsRole, handed}
use Rattle.i3c_base.specs.Serve.{Frame, IsWordBits, Serves, emptied, header_bits, refuse_all}
use Rattle.i3c_base.specs.State.{State}
use Rattle.i3c_step.specs.declared.events.Event.TheVariants.{HandOver}
use Rattle.i3c_step.specs.declared.replies.Reply.{Reply}
use Rattle.i3c_step.specs.Step.{Acts}
use Rattle.i3c_base.proofs.Verdicts.{refuses}
use Rattle.i3c_step.proofs.Uniqueness.{accept≢refuse}
use Rattle.i3c_model.specs.declared.plain.Choice.{Choice}
use Rattle.i3c_model.specs.declared.plain.Choice.TheVariants.{Heard, Lost, Silent}
use Rattle.i3c_model.specs.Choosing.{Follows, HandsAsChosen, HandsBy, IsTaken, MayHandBy, MayStandFor, of_own_part, of_request, of_served, stands_for}
use Rattle.i3c_model.specs.Meaning.{IsHeir, MayDecline, NoHeir}
use Rattle.i3c_model.proofs.Framing.{refused_frame}
use Rattle.i3c_model.proofs.Taking.{follows, heard≢silent, later_by, taken_heard, taken_lost, taken_silent}

-- each willing device at the address in the slots below n is lost
abbrev pub NoHeirBelow : State → ℕ → LostDevices → ℕ → Type 0
NoHeirBelow st a lost n = (s : ℕ) → s < n → IsWillingAt st a s → lost s ≡ true

pub heir_more : (st : State) (a : ℕ) (lost : LostDevices) (n s : ℕ) → NoHeirBelow st a lost n → s ≡ n → (IsWillingAt st a s → lost s ≡ true) → NoHeirBelow st a lost (n + 1)
heir_more st a lost n s none same here t l w = elim (cases_eq t n) [
  | inl e ↦ let at : t ≡ s = e ∙ sym same in ap lost at ∙ here (subst (IsWillingAt st a) at w)
  | inr ne ↦ none t (omega arith) w
]

pub heir_none : (st : State) (a : ℕ) (lost : LostDevices) (n : ℕ) → length st.devices ≤ n → NoHeirBelow st a lost n → NoHeir st a lost
heir_none st a lost n all none s w = elim (cases_lt s (length st.devices)) [
  | inl l ↦ none s (omega arith) w
  | inr past ↦ absurd (none-some w.0 (sym (get_or_past st.devices s None past) ∙ w.1.0))
]

pub heir_absent : (st : State) (a : ℕ) (lost : LostDevices) (o : Option ℕ) → is_none o ≡ true → MatchOption o (NoHeir st a lost) (IsHeir st a lost) → NoHeir st a lost
heir_absent st a lost None e h = h
heir_absent st a lost (Some s) e h = absurd (false≢true e)

-- where nobody is cut, nobody is willing
pub none_willing : (st : State) (a : ℕ) (cuts : CutList) (last : ℕ) → IsUncut cuts → NoHeir st a (lost_by cuts last) → (s : ℕ) → ¬ IsWillingAt st a s
none_willing st a cuts last uncut none s w = false≢true (sym (ap (is_by last) (uncut s)) ∙ none s w)

-- a frame that refuses each request serves nothing, and reads no byte
serves_none : (st : State) (lost : LostDevices) (served : Served) (word : ℕ) (new : State) → Serves st refuse_all lost served new → IsWordBits st served word → (new ≡ st) × (word ≡ 0)
serves_none st lost Quiet word new h w = (h.1, w)
serves_none st lost Refused word new h w = (h.1, w)
serves_none st lost Joining word new h w = absurd (accept≢refuse (sym h.1 ∙ refuses st Join))
serves_none st lost (WantsRole a) word new h w = absurd (accept≢refuse (sym h.1 ∙ refuses st (Role a)))
serves_none st lost (Recorded place) word new h w = absurd (accept≢refuse (sym h.accepted ∙ refuses st (Interrupt h.at)))
serves_none st lost Torn word new h w = absurd (accept≢refuse (sym h.accepted ∙ refuses st (Interrupt h.at)))

stands_none : (st : State) (lost : LostDevices) (served : Served) (new : State) → Serves st refuse_all lost served new → of_served served ≡ None
stands_none st lost Quiet new h = refl
stands_none st lost Refused new h = refl
stands_none st lost Joining new h = refl
stands_none st lost (WantsRole a) new h = refl
stands_none st lost (Recorded place) new h = absurd (accept≢refuse (sym h.accepted ∙ refuses st (Interrupt h.at)))
stands_none st lost Torn new h = absurd (accept≢refuse (sym h.accepted ∙ refuses st (Interrupt h.at)))

-- an offer at this address; `header` is the number of bits of its header
module _ (old : State) (to : ℕ) (cuts : CutList) (choice : Choice) (header : ℕ) (header_sent : (policy : Fixed) (lost : LostDevices) (served : Served) (new : State) → Serves old policy lost served new → header ≡ header_bits served) where
  abbrev By : ℕ → LostDevices
  By bits = lost_by cuts (header + bits)

  abbrev Comes : Reply → State → Type 0
  Comes = Acts old (HandOver to cuts)

  -- its own part starts on the state after serving
  own_of : (served : Served) (bits : ℕ) (Own : LostDevices → State → State → Type 0) (new : State) → Frame old refuse_all cuts served (header_bits served + bits) Own new → (done : State) × Own (By bits) old done
  own_of served bits Own new f =
      let last : ℕ = f.word + (header_bits served + bits) in
      let none = serves_none old (lost_by cuts last) served f.word f.mid f.serves f.sent in
      let headers : header ≡ header_bits served = header_sent refuse_all (lost_by cuts last) served f.mid f.serves in
      let word = none.1 in
      let same : last ≡ header + bits = omega (arith, word, headers) in
      (f.done, subst (λ n. Own (lost_by cuts n) old f.done) same (subst (λ m. Own (lost_by cuts last) m f.done) none.0 f.own))

  none_later : NoHeir old to (By 18) → NoHeir old to (By 27)
  none_later none s w = later_by (header + 18) (header + 27) (cut_of cuts s) (omega arith) (none s w)

  -- what each choice needs
  heard_needs : (new : State) → HandsBy old to cuts Heard new → NoHeir old to (By 27) → ⊥
  heard_needs new h none = let own = (own_of h.0 27 (Hands to) new h.1).1 in both_ways _ own.2 (none own.0 own.1)

  lost_needs : (new : State) → HandsBy old to cuts Lost new → NoHeir old to (By 27)
  lost_needs new h = (own_of h.0 27 (KeepsRole to) new h.2).1.0

  silent_needs : (new : State) → HandsBy old to cuts Silent new → NoHeir old to (By 18)
  silent_needs new h = (own_of h.0 18 (KeepsRole to) new h.1).1.0

  -- what each reply needs
  heard_reply : MayStandFor Comes of_own_part Heard → NoHeir old to (By 27) → ⊥
  heard_reply l none = elim l.2 [
    | inl g ↦ heard_needs l.1 (g.0, g.2) none
    | inr d ↦ let e : Some Silent ≡ Some Heard = sym (ap (stands_for of_own_part) d.2) ∙ l.3 in cc
  ]

  lost_reply : MayStandFor Comes of_own_part Lost → ⊥
  lost_reply l = elim l.2 [
    | inl g ↦ let e : Some Heard ≡ Some Lost = sym (ap (stands_for of_own_part) g.1) ∙ l.3 in cc
    | inr d ↦ let e : Some Silent ≡ Some Lost = sym (ap (stands_for of_own_part) d.2) ∙ l.3 in cc
  ]

  silent_reply : MayStandFor Comes of_own_part Silent → NoHeir old to (By 27)
  silent_reply l = elim l.2 [
    | inl g ↦ absurd (let e : Some Heard ≡ Some Silent = sym (ap (stands_for of_own_part) g.1) ∙ l.3 in heard≢silent cc)
    | inr d ↦ elim d.3 [
      | inl early ↦ none_later (silent_needs l.1 (d.0, subst (λ n. Frame old refuse_all cuts d.0 (header_bits d.0 + n) (KeepsRole to) l.1) early d.4))
      | inr late ↦ lost_needs l.1 (d.0, late.1, subst (λ n. Frame old refuse_all cuts d.0 (header_bits d.0 + n) (KeepsRole to) l.1) late.0 d.4)
    ]
  ]

  module _ (served : Served) (serves : (lost : LostDevices) → Serves old refuse_all lost served old) (sent : IsWordBits old served 0) where
    frame : (bits : ℕ) (Own : LostDevices → State → State → Type 0) (done new : State) → Own (By bits) old done → new ≡ emptied (By bits) done → Frame old refuse_all cuts served (header_bits served + bits) Own new
    frame bits Own done new own left = refused_frame old cuts served header bits Own done new sent (serves (By bits)) (header_sent refuse_all (By bits) served old (serves (By bits))) own left

    settled : MatchOption (of_served served) ⊤ (IsTaken (MayStandFor Comes of_request) choice)
    settled = subst (λ o. MatchOption o ⊤ (IsTaken (MayStandFor Comes of_request) choice)) (sym (stands_none old (By 27) served old (serves (By 27)))) tt

    -- the role is granted
    module _ (heir : ℕ) (is_heir : IsHeir old to (By 27) heir) (new : State) (left : new ≡ emptied (By 27) (handed heir to old)) where
      granted_frame : Frame old refuse_all cuts served (header_bits served + 27) (Hands to) new
      granted_frame = frame 27 (Hands to) (handed heir to old) new (heir, is_heir.0, is_heir.1, is_heir.2, refl) left

      some : NoHeir old to (By 27) → ⊥
      some none = both_ways _ is_heir.1 (none heir is_heir.0)

      pub granted_acts : Acts old (HandOver to cuts) (Reply.Handed served) new
      granted_acts = inl (served, refl, granted_frame)

      pub granted_follows : Follows (Acts old (HandOver to cuts)) choice (Reply.Handed served)
      granted_follows = follows Comes choice (Reply.Handed served) settled (taken_heard (MayStandFor Comes of_own_part) choice (λ c. lost_reply) (λ c l. some (silent_reply l)))

      pub granted_as : HandsAsChosen old to cuts choice new
      granted_as = (Heard, (served, granted_frame), taken_heard (MayHandBy old to cuts) choice (λ c l. some (lost_needs l.0 l.1)) (λ c l. some (none_later (silent_needs l.0 l.1))))

    -- nobody takes the role
    module _ (bits : ℕ) (none : NoHeir old to (By 27)) (may : MayDecline old to (By 18) choice bits) (new : State) (left : new ≡ emptied (By bits) old) where
      by_bits : NoHeir old to (By bits)
      by_bits = elim may [
        | inl h ↦ subst (λ n. NoHeir old to (By n)) (sym h.0) h.1
        | inr h ↦ subst (λ n. NoHeir old to (By n)) (sym h.0) none
      ]

      declined_frame : Frame old refuse_all cuts served (header_bits served + bits) (KeepsRole to) new
      declined_frame = frame bits (KeepsRole to) old new (by_bits, refl) left

      abbrev reply : Reply
      reply = Reply.Framed (record { served = served; answer = Answer.NoAnswer to })

      pub declined_acts : Acts old (HandOver to cuts) (Reply.Framed (record { served = served; answer = Answer.NoAnswer to })) new
      declined_acts = inr (served, bits, refl, elim may [ inl h ↦ inl h.0 | inr h ↦ inr (h.0, h.1) ], declined_frame)

      pub declined_follows : Follows (Acts old (HandOver to cuts)) choice (Reply.Framed (record { served = served; answer = Answer.NoAnswer to }))
      declined_follows = follows Comes choice reply settled (taken_silent (MayStandFor Comes of_own_part) choice (reply, new, declined_acts, refl) (λ ne. ((λ l. heard_reply l none), lost_reply)))

      pub declined_as : HandsAsChosen old to cuts choice new
      declined_as = elim may [
        | inl h ↦ (
          Silent,
          (served, subst (λ n. Frame old refuse_all cuts served (header_bits served + n) (KeepsRole to) new) h.0 declined_frame),
          taken_silent (MayHandBy old to cuts) choice (new, (served, subst (λ n. Frame old refuse_all cuts served (header_bits served + n) (KeepsRole to) new) h.0 declined_frame))
              (λ ne. ((λ l. heard_needs l.0 l.1 none), (λ l. h.2 ne l.1.1.0 l.1.1.1))),
        )
        | inr h ↦ (
          Lost,
          (served, h.1, subst (λ n. Frame old refuse_all cuts served (header_bits served + n) (KeepsRole to) new) h.0 declined_frame),
          taken_lost (MayHandBy old to cuts) choice (new, (served, h.1, subst (λ n. Frame old refuse_all cuts served (header_bits served + n) (KeepsRole to) new) h.0 declined_frame))
              (λ ne l. heard_needs l.0 l.1 none) (λ e l. h.2 e (silent_needs l.0 l.1)),
        )
      ]
