-- Without cuts a step is a function of the state and the event.
use Rattle.std.proofs.lemmas.Bool.{both_ways, cases_order, false≢true}
use Rattle.std.proofs.Common.{◌≡◌, ◌≢◌, ℕ, ◌+◌, true, Option, Some, None, MatchOption, ◌⊎◌, inl, inr, sym, refl, ap, ◌∙◌, subst}
use Rattle.i3c_base.specs.declared.requests.Fixed.{Fixed}
use Rattle.i3c_base.specs.declared.identity.Identity.{Identity}
use Rattle.i3c_base.specs.declared.answers.RoundReply.{RoundReply}
use Rattle.i3c_base.specs.declared.requests.Served.{Served}
use Rattle.i3c_base.specs.State.{State, entry_at}
use Rattle.i3c_base.specs.declared.answers.Answer.{Answer}
use Rattle.i3c_base.specs.Numbers.{KindSet}
use Rattle.i3c_base.specs.Frames.{Gets, SetsLength, get_bits, length_bits, transfer_length, AllLostAt, AnyAt, Hands, KeepsRole, Reads, Rekinds, Writes, changed_kinds, handed, read_bits, write_bits, SetsNew, SetsStatic, kinds_bits}
use Rattle.i3c_base.specs.Cutting.{CutList, Lost, IsUncut, lost_by}
use Rattle.i3c_base.specs.Serve.{Frame, Serves, emptied}
use Rattle.i3c_base.specs.Round.{Rounds, assigned}
use Rattle.std.specs.Prelude.{⊤}
use Rattle.i3c_base.specs.Serve.{refuse_all}
use Rattle.i3c_base.specs.Round.{AllHearersLost, AnyHears, IsAddressFor, IsBeatenByLost, IsContender}
use Rattle.i3c_base.specs.declared.datum.Direction.{Direction}
use Rattle.i3c_base.specs.declared.kinds.Change.{Change}
use Rattle.i3c_step.specs.declared.events.Event.{Event}
use Rattle.i3c_step.specs.declared.events.Event.TheVariants.{Attach, DropOff, Raise, AskJoin, AskRole, Serve, Enec, Disec, Reset, SendList, ReadFrom, WriteTo, SetStatic, SetNew, Get, SetLength, OpenDaa, Round, EndDaa, HandOver}
use Rattle.i3c_step.specs.declared.replies.Refusal.{Refusal}
use Rattle.i3c_step.specs.declared.replies.Reply.{Reply}
use Rattle.i3c_step.specs.Step.{Acts, IsShort, RekindsBy, Step, Transfers, checks, cuts_in, first_refusal}
use Rattle.i3c_base.specs.Cutting.{nobody}
use Rattle.i3c_step.proofs.Lost.{lost_nobody, unlost}
use Rattle.i3c_step.proofs.Transfers.{gets_unique, lengths_unique, reads_unique, writes_unique, news_unique, statics_unique}
use Rattle.i3c_step.proofs.Uniqueness.{address_unique, serves_unique, winner_unique}

-- two frames agree if their own parts do
frames_agree : (old : State) (policy : Fixed) (cuts : CutList) (served other : Served) (rest more : ℕ) (Own Next : Lost → State → State → Type 0) (new next : State) (Q : Type 0)
    → IsUncut cuts → ((mid done last : State) → Own nobody mid done → Next nobody mid last → Q × (done ≡ last))
    → Frame old policy cuts served rest Own new → Frame old policy cuts other more Next next → (served ≡ other) × Q × (new ≡ next)
frames_agree old policy cuts served other rest more Own Next new next Q uncut agree f g =
    let p : lost_by cuts (f.word + rest) ≡ nobody = lost_nobody cuts uncut (f.word + rest) in
    let q : lost_by cuts (g.word + more) ≡ nobody = lost_nobody cuts uncut (g.word + more) in
    let served_same = serves_unique old policy served other f.mid g.mid (subst (λ l. Serves old policy l served f.mid) p f.serves) (subst (λ l. Serves old policy l other g.mid) q g.serves) in
    let own : Own nobody f.mid f.done = subst (λ l. Own l f.mid f.done) p f.own in
    let next_own : Next nobody f.mid g.done = subst (λ m. Next nobody m g.done) (sym served_same.1) (subst (λ l. Next l g.mid g.done) q g.own) in
    let r = agree f.mid f.done g.done own next_own in
    (served_same.0, r.0, f.left ∙ (ap (λ l. emptied l f.done) p ∙ (ap (emptied nobody) r.1 ∙ (ap (λ l. emptied l g.done) (sym q) ∙ sym g.left))))

-- without losses ENEC and DISEC have one answer
nobody_lost : (st : State) (a : ℕ) → AnyAt st a → AllLostAt st a nobody → ⊥
nobody_lost st a any all = false≢true (all any.0 any.1 any.2)

rekinds_unique : (to : Option ℕ) (f : KindSet → KindSet) (answer other : Answer) (mid done last : State)
    → Rekinds to f answer nobody mid done → Rekinds to f other nobody mid last → (answer ≡ other) × (done ≡ last)
rekinds_unique None f answer other mid done last h k = (h.0 ∙ sym k.0, h.1 ∙ sym k.1)
rekinds_unique (Some a) f answer other mid done last h k = elim h [
  | inl x ↦ elim k [ inl y ↦ (x.0 ∙ sym y.0, x.2 ∙ sym y.2) | inr y ↦ absurd (nobody_lost mid a x.1 y.1) ]
  | inr x ↦ elim k [ inl y ↦ absurd (nobody_lost mid a y.1 x.1) | inr y ↦ (x.0 ∙ sym y.0, x.2 ∙ sym y.2) ]
]

rekinds_by_unique : (old : State) (to : Option ℕ) (f : KindSet → KindSet) (policy : Fixed) (cuts : CutList) (reply other : Reply) (new next : State) → IsUncut cuts
    → RekindsBy old to f policy cuts reply new → RekindsBy old to f policy cuts other next → (reply ≡ other) × (new ≡ next)
rekinds_by_unique old to f policy cuts reply other new next u h k =
    let r = frames_agree old policy cuts h.0.served k.0.served _ _ _ _ new next (h.0.answer ≡ k.0.answer) u (rekinds_unique to f h.0.answer k.0.answer) h.2 k.2 in
    let framed : h.0 ≡ k.0 = λ t. record { served = r.0 t; answer = r.1 t } in
    (h.1 ∙ (ap Reply.Framed framed ∙ sym k.1), r.2)

-- without losses private transfers have one answer
transfers_unique : (old : State) (bits : Answer → ℕ) (Own : Answer → Lost → State → State → Type 0) (policy : Fixed) (cuts : CutList) (reply other : Reply) (new next : State) → IsUncut cuts
    → ((answer also : Answer) (mid done last : State) → Own answer nobody mid done → Own also nobody mid last → (answer ≡ also) × (done ≡ last))
    → Transfers old bits Own policy cuts reply new → Transfers old bits Own policy cuts other next → (reply ≡ other) × (new ≡ next)
transfers_unique old bits Own policy cuts reply other new next u unique h k =
    let r = frames_agree old policy cuts h.0.served k.0.served _ _ _ _ new next (h.0.answer ≡ k.0.answer) u (unique h.0.answer k.0.answer) h.2 k.2 in
    let framed : h.0 ≡ k.0 = λ t. record { served = r.0 t; answer = r.1 t } in
    (h.1 ∙ (ap Reply.Framed framed ∙ sym k.1), r.2)

-- without losses each reply of a round is its only one
nobody_beats : (st : State) (cuts : CutList) → IsUncut cuts → (last s : ℕ) → lost_by cuts last s ≡ true → ⊥
nobody_beats st cuts uncut last s h = both_ways _ (unlost cuts uncut last s) h

no_hearer : (st : State) (cuts : CutList) → IsUncut cuts → (last : ℕ) → AllHearersLost st (lost_by cuts last) → AnyHears st → ⊥
no_hearer st cuts uncut last all any = nobody_beats st cuts uncut last any.0 (all any.0 any.1 any.2)

hears : (st : State) (lost : Lost) (i : Identity) → IsContender st lost i → AnyHears st
hears st lost i c = (c.0, c.1, c.2)

somebody_wins : (st : State) (cuts : CutList) → IsUncut cuts → AnyHears st → AllHearersLost st (lost_by cuts 73) ⊎ IsBeatenByLost st (lost_by cuts 73) → ⊥
somebody_wins st cuts uncut any h = elim h [
  | inl all ↦ no_hearer st cuts uncut 73 all any
  | inr b ↦ nobody_beats st cuts uncut 73 b.0 b.3
]

rounds_unique : (old : State) (cuts : CutList) (answer other : RoundReply) (new next : State) → IsUncut cuts → Rounds old cuts answer new → Rounds old cuts other next → (answer ≡ other) × (new ≡ next)
rounds_unique old cuts RoundReply.NoAddress RoundReply.NoAddress new next u h k = (refl, h.1 ∙ sym k.1)
rounds_unique old cuts RoundReply.NoAddress RoundReply.Done new next u h k = absurd (h.0 k.0.0 k.0.1)
rounds_unique old cuts RoundReply.NoAddress RoundReply.Nobody new next u h k = absurd (h.0 k.0.0 k.0.1)
rounds_unique old cuts RoundReply.NoAddress (RoundReply.Assigned b j) new next u h k = absurd (h.0 k.0.0 k.0.1)
rounds_unique old cuts RoundReply.Done RoundReply.NoAddress new next u h k = absurd (k.0 h.0.0 h.0.1)
rounds_unique old cuts RoundReply.Done RoundReply.Done new next u h k = (refl, h.2 ∙ sym k.2)
rounds_unique old cuts RoundReply.Done RoundReply.Nobody new next u h k = absurd (no_hearer old cuts u 0 h.1 k.1)
rounds_unique old cuts RoundReply.Done (RoundReply.Assigned b j) new next u h k = absurd (no_hearer old cuts u 0 h.1 (hears old _ j k.1.0))
rounds_unique old cuts RoundReply.Nobody RoundReply.NoAddress new next u h k = absurd (k.0 h.0.0 h.0.1)
rounds_unique old cuts RoundReply.Nobody RoundReply.Done new next u h k = absurd (no_hearer old cuts u 0 k.1 h.1)
rounds_unique old cuts RoundReply.Nobody RoundReply.Nobody new next u h k = (refl, h.3 ∙ sym k.3)
rounds_unique old cuts RoundReply.Nobody (RoundReply.Assigned b j) new next u h k = absurd (somebody_wins old cuts u h.1 h.2)
rounds_unique old cuts (RoundReply.Assigned a i) RoundReply.NoAddress new next u h k = absurd (k.0 h.0.0 h.0.1)
rounds_unique old cuts (RoundReply.Assigned a i) RoundReply.Done new next u h k = absurd (no_hearer old cuts u 0 k.1 (hears old _ i h.1.0))
rounds_unique old cuts (RoundReply.Assigned a i) RoundReply.Nobody new next u h k = absurd (somebody_wins old cuts u k.1 k.2)
rounds_unique old cuts (RoundReply.Assigned a i) (RoundReply.Assigned b j) new next u h k =
    let who : i ≡ j = winner_unique old (lost_by cuts 73) i j h.1 k.1 in
    let where_to : a ≡ b = address_unique old i a b h.2 (subst (λ x. IsAddressFor old x b) (sym who) k.2) in (
      λ t. RoundReply.Assigned (where_to t) (who t),
      h.3 ∙ ((λ t. emptied (lost_by cuts 73) (assigned (lost_by cuts 73) (who t) (where_to t) old)) ∙ sym k.3),
    )

-- without losses a handover has one outcome
hands_unique : (a : ℕ) (mid done last : State) → Hands a nobody mid done → Hands a nobody mid last → ⊤ × (done ≡ last)
hands_unique a mid done last h k = elim (cases_order h.0 k.0) [
  | inl same ↦ (tt, h.4 ∙ (ap (λ s. handed s a mid) same ∙ sym k.4))
  | inr other ↦ elim other [ inl less ↦ absurd (false≢true (k.3 h.0 less h.1)) | inr more ↦ absurd (false≢true (h.3 k.0 more k.1)) ]
]

hands_or_keeps : {Q : Type 0} (a : ℕ) (mid done last : State) → Hands a nobody mid done → KeepsRole a nobody mid last → Q
hands_or_keeps a mid done last h k = absurd (false≢true (k.0 h.0 h.1))

handed_unique : (old : State) (a : ℕ) (cuts : CutList) (reply other : Reply) (new next : State) → IsUncut cuts
    → Acts old (HandOver a cuts) reply new → Acts old (HandOver a cuts) other next → (reply ≡ other) × (new ≡ next)
handed_unique old a cuts reply other new next u h k = elim h [
  | inl x ↦ elim k [
    | inl y ↦ let r = frames_agree old refuse_all cuts x.0 y.0 _ _ _ _ new next ⊤ u (hands_unique a) x.2 y.2 in (x.1 ∙ (ap Reply.Handed r.0 ∙ sym y.1), r.2)
    | inr y ↦ absurd (frames_agree old refuse_all cuts x.0 y.0 _ _ _ _ new next ⊥ u (λ mid done last p q. hands_or_keeps a mid done last p q) x.2 y.4).1
  ]
  | inr x ↦ elim k [
    | inl y ↦ absurd (frames_agree old refuse_all cuts x.0 y.0 _ _ _ _ new next ⊥ u (λ mid done last p q. hands_or_keeps a mid last done q p) x.4 y.2).1
    | inr y ↦
        let r = frames_agree old refuse_all cuts x.0 y.0 _ _ _ _ new next ⊤ u (λ mid done last p q. (tt, p.1 ∙ sym q.1)) x.4 y.4 in
        (x.2 ∙ (ap (λ s. Reply.Framed (record { served = s; answer = Answer.NoAnswer a })) r.0 ∙ sym y.2), r.2)
  ]
]

-- without cuts what an event does is a function
acts_unique : (old : State) (event : Event) (reply other : Reply) (new next : State) → MatchOption (cuts_in event) ⊤ IsUncut
    → Acts old event reply new → Acts old event other next → (reply ≡ other) × (new ≡ next)
acts_unique old (Attach s setup) reply other new next u h k = (h.0 ∙ sym k.0, h.1 ∙ sym k.1)
acts_unique old (DropOff s) reply other new next u h k = (h.0 ∙ sym k.0, h.1 ∙ sym k.1)
acts_unique old (AskJoin s) reply other new next u h k = (h.0 ∙ sym k.0, h.1 ∙ sym k.1)
acts_unique old (Raise s byte) reply other new next u h k = (h.0 ∙ sym k.0, h.1 ∙ sym k.1)
acts_unique old (Serve policy cuts) reply other new next u h k =
    let r = frames_agree old policy cuts h.0 k.0 _ _ _ _ new next ⊤ u (λ mid done last x y. (tt, x ∙ sym y)) h.2 k.2 in
    (h.1 ∙ (ap Reply.Served r.0 ∙ sym k.1), r.2)
acts_unique old (Enec to kinds policy cuts) reply other new next u h k = rekinds_by_unique old to (changed_kinds Change.Enable kinds) policy cuts reply other new next u h k
acts_unique old (Disec to kinds policy cuts) reply other new next u h k = rekinds_by_unique old to (changed_kinds Change.Disable kinds) policy cuts reply other new next u h k
acts_unique old (AskRole s) reply other new next u h k = (h.0 ∙ sym k.0, h.1 ∙ sym k.1)
acts_unique old (Reset policy cuts) reply other new next u h k =
    let r = frames_agree old policy cuts h.0 k.0 _ _ _ _ new next ⊤ u (λ mid done last x y. (tt, x ∙ sym y)) h.2 k.2 in
    (h.1 ∙ (ap (λ s. Reply.Framed (record { served = s; answer = Answer.Done })) r.0 ∙ sym k.1), r.2)
acts_unique old (SendList policy cuts) reply other new next u h k =
    let r = frames_agree old policy cuts h.0 k.0 _ _ _ _ new next ⊤ u (λ mid done last x y. (tt, x ∙ sym y)) h.2 k.2 in
    (h.1 ∙ (ap (λ s. Reply.Framed (record { served = s; answer = Answer.Done })) r.0 ∙ sym k.1), r.2)
acts_unique old (ReadFrom a policy cuts) reply other new next u h k = transfers_unique old (read_bits (transfer_length old Direction.Read a)) (Reads a) policy cuts reply other new next u (reads_unique a) h k
acts_unique old (WriteTo a bytes policy cuts) reply other new next u h k =
    transfers_unique old (write_bits bytes.items) (Writes a bytes.items) policy cuts reply other new next u (writes_unique a bytes.items) h k
acts_unique old (SetStatic f to policy cuts) reply other new next u h k =
    transfers_unique old (kinds_bits (Some f)) (SetsStatic f to) policy cuts reply other new next u (statics_unique f to) h k
acts_unique old (SetNew a to policy cuts) reply other new next u h k =
    transfers_unique old (kinds_bits (Some a)) (SetsNew a to) policy cuts reply other new next u (news_unique a to) h k
acts_unique old (Get what a policy cuts) reply other new next u h k =
    transfers_unique old (get_bits what (entry_at old a)) (Gets what a) policy cuts reply other new next u (gets_unique what a) h k
acts_unique old (SetLength way most to policy cuts) reply other new next u h k =
    transfers_unique old (length_bits to) (SetsLength to way most) policy cuts reply other new next u (lengths_unique to way most) h k
acts_unique old (OpenDaa cuts) reply other new next u h k =
    let r = frames_agree old refuse_all cuts h.0 k.0 _ _ _ _ new next ⊤ u (λ mid done last x y. (tt, x ∙ sym y)) h.2 k.2 in
    (h.1 ∙ (ap Reply.Opened r.0 ∙ sym k.1), r.2)
acts_unique old (Round cuts) reply other new next u h k =
    let r = rounds_unique old cuts h.0 k.0 new next u h.2 k.2 in (h.1 ∙ (ap Reply.Round r.0 ∙ sym k.1), r.1)
acts_unique old (HandOver to cuts) reply other new next u h k = handed_unique old to cuts reply other new next u h k
acts_unique old EndDaa reply other new next u h k = (h.0 ∙ sym k.0, h.1 ∙ sym k.1)

-- without cuts a step is a function, where there is memory
pub uncut_is_function : (old : State) (event : Event) (reply other : Reply) (new next : State) → MatchOption (cuts_in event) ⊤ IsUncut
    → Step old event reply new → Step old event other next → reply ≢ Reply.OutOfMemory → other ≢ Reply.OutOfMemory → (reply ≡ other) × (new ≡ next)
uncut_is_function old event reply other new next u h k ample also = go (first_refusal (checks old event)) h k
  where
    go : (o : Option Refusal)
        → MatchOption o (IsShort old event reply new ⊎ Acts old event reply new) (λ why. (reply ≡ Reply.Refused why) × (new ≡ old))
        → MatchOption o (IsShort old event other next ⊎ Acts old event other next) (λ why. (other ≡ Reply.Refused why) × (next ≡ old))
        → (reply ≡ other) × (new ≡ next)
    go None x y = elim x [
      | inl m ↦ absurd (ample m.1)
      | inr p ↦ elim y [ inl m ↦ absurd (also m.1) | inr q ↦ acts_unique old event reply other new next u p q ]
    ]
    go (Some why) x y = (x.0 ∙ sym y.0, x.1 ∙ sym y.1)
