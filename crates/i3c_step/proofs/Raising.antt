-- What a raise does, and so what every step does.
use Rattle.std.proofs.lemmas.Bool.{both_ways, cases_lt, cond-false, cond-true, eqb-false, eqb-true, eq-eqb, ne_eqb, not-false}
use Rattle.std.proofs.lemmas.List.{get_or_past, length-set}
use Rattle.std.proofs.Common.{◌≡◌, ℕ, suc, Bool, true, false, not, ◌<◌, ◌≤◌, length, [], ◌∷◌, ◌++◌, Option, Some, None, is_none, is_some, ◌==◌, if◌then◌else◌, inl, inr, sym, refl, ap, ◌∙◌, subst}
use Rattle.std.specs.List.{Contains}
use Rattle.i3c_base.specs.declared.device.Waiting.{Waiting}
use Rattle.i3c_base.specs.State.{Device, HasDistinctIdentities, State, device_at, in_slot, raised_at}
use Rattle.i3c_base.specs.Local.{raise}
use Rattle.i3c_base.proofs.Lookups.{change_from, set_in}
use Rattle.i3c_step.specs.declared.events.Event.{Event}
use Rattle.i3c_step.specs.declared.events.Event.TheVariants.{Attach, DropOff, Raise, AskJoin, AskRole, Serve, Enec, Disec, Reset, SendList, ReadFrom, WriteTo, SetStatic, SetNew, Get, SetLength, OpenDaa, Round, EndDaa, HandOver}
use Rattle.i3c_step.specs.declared.replies.Reply.{Reply}
use Rattle.i3c_step.specs.Step.{Acts, Step, checks, first_refusal}
use Rattle.i3c_step.specs.History.{IsAccepted, Moment}
use Rattle.i3c_step.specs.Serving.{recorded_at}
use Rattle.i3c_step.specs.Sound.{Addresses}
use Rattle.i3c_step.specs.Stays.{accepted_at, number_raised, raised_as}
use Rattle.i3c_step.proofs.Fates.{Contains-one, Counts, StepFacts-frame, StepFacts-unserved, Fate, Fate-none, Grows, IsEven, StepFacts}
use Rattle.i3c_step.proofs.Fronts.{since_none}
use Rattle.i3c_step.proofs.Steps.{IsIdle, no_test, refused, short, step_cases}
use Rattle.i3c_step.proofs.Transfers.{gets_keep, lengths_keep, reads_keep, writes_keep, news_keep, statics_keep}
use Rattle.i3c_step.proofs.Unserved.{Unserved, Unserved-ask_join, Unserved-ask_role, Unserved-attach, Unserved-drop_off, Unserved-ended, Unserved-handed, Unserved-list, Unserved-opened, Unserved-rekinds, Unserved-reset, Unserved-round, Unserved-same, Unserved-written, waiting_in, Unserved-with_new, Unserved-with_static, Unserved-with_length}

none_from : {A : Type 0} (o : Option A) → is_some o ≡ false → o ≡ None
none_from None h = refl
none_from (Some x) h = absurd (both_ways true h refl)

some_from : {A : Type 0} (o : Option A) → is_none o ≡ false → (x : A) × (o ≡ Some x)
some_from None h = absurd (both_ways true h refl)
some_from (Some x) h = (x, refl)

-- the interrupt that a raise adds
abbrev next_raise : State → ℕ → Option ℕ → Waiting
next_raise st s byte = record { number = suc (raised_at st s); byte = byte }

-- a device with one interrupt more
abbrev queued : Waiting → Device → Device
queued w d = record d { waiting = d.waiting ++ w ∷ [] }

-- a raise that isn't refused
StepFacts-raise : (old : State) (s : ℕ) (byte : Option ℕ) (m : Moment) → first_refusal (checks old (Raise s byte)) ≡ None → m.event ≡ Raise s byte
    → m.reply ≡ Reply.Raised (suc (raised_at old s)) → m.after ≡ raise s byte old → IsEven old → StepFacts old m
StepFacts-raise old s byte m free event reply e even = record {
  fates = λ t. fate t (t == s) refl;
  even = subst IsEven (sym e) (length-set old.raised s _ ∙ (even ∙ sym (length-set old.devices s _)));
  grows = subst (λ o. Grows o old m.after) (sym (ap recorded_at reply)) records;
}
  where
    w : Waiting
    w = next_raise old s byte

    records : m.after.records ≡ old.records
    records = ap (λ (st : State). st.records) e

    low : s < length old.raised
    low = elim (cases_lt s (length old.raised)) [
      | inl l ↦ l
      | inr past ↦ absurd (both_ways _ (no_test 0 (checks old (Raise s byte)) free) (ap is_none (get_or_past old.devices s None (subst (λ k. k ≤ s) even past))))
    ]

    count : (t : ℕ) → raised_at m.after t ≡ (if t == s then suc (raised_at old s) else raised_at old t)
    count t = ap (λ st. raised_at st t) e ∙ set_in old.raised s t (suc (raised_at old s)) 0 low

    asked : (t : ℕ) → accepted_at m t ≡ (if s == t then w ∷ [] else [])
    asked t = λ k. raised_as (number_raised (reply k)) (event k) t

    there : (x : Device) × (device_at old s ≡ Some x)
    there = some_from (device_at old s) (no_test 0 (checks old (Raise s byte)) free)

    accepted : IsAccepted old m s w
    accepted =
        let addressed : is_none there.0.address ≡ false = subst (λ (o : Option Device). in_slot (λ x. is_none x.address) o ≡ false) there.1 (no_test 2 (checks old (Raise s byte)) free) in
        let enabled : not there.0.kinds.interrupt ≡ false = subst (λ (o : Option Device). in_slot (λ x. not x.kinds.interrupt) o ≡ false) there.1 (no_test 5 (checks old (Raise s byte)) free) in
        let a = some_from there.0.address addressed in
        record { event = event; reply = reply; device = there.0; there = there.1; address = a.0; addressed = a.1; enabled = not-false _ enabled }

    was : (t : ℕ) (d : Device) → device_at m.after t ≡ Some d → (x : Device) × (device_at old t ≡ Some x) × ((if t == s then queued w x else x) ≡ d)
    was t d p = change_from s (queued w) old t d (subst (λ (st : State). device_at st t ≡ Some d) e p)

    fate : (t : ℕ) (b : Bool) → (t == s) ≡ b → Fate old m t
    fate t true f =
        let at : t ≡ s = eqb-true t s f in
        let one : accepted_at m t ≡ w ∷ [] = asked t ∙ cond-true (s == t) _ [] (eq-eqb s t (sym at)) in
        let more : raised_at m.after t ≡ suc (raised_at old s) = count t ∙ cond-true (t == s) _ _ f in
        record {
          left = waiting_in (device_at old t) ++ w ∷ [];
          moves = ap (λ ws. waiting_in (device_at old t) ++ ws) one ∙ ap (λ ws. ws ++ (waiting_in (device_at old t) ++ w ∷ [])) (sym (since_none old m.after t records));
          rests = λ d p. let x = was t d p in
              ap (λ (y : Device). y.waiting) (sym x.2) ∙ (ap (λ (b : Bool). (if b then queued w x.0 else x.0).waiting) f ∙ ap (λ ws. ws ++ w ∷ []) (sym (ap waiting_in x.1)));
          accepted = λ v c. subst (λ k. IsAccepted old m k v) (sym at) (subst (IsAccepted old m s) (Contains-one w v (subst (λ ws. Contains ws v) one c)) accepted);
          counts = subst (λ ws. Counts ws (raised_at old t) (raised_at m.after t)) (sym one) (ap (λ k. suc (raised_at old k)) (sym at), more ∙ ap (λ k. suc (raised_at old k)) (sym at));
        }
    fate t false f =
        let none : accepted_at m t ≡ [] = asked t ∙ cond-false (s == t) _ [] (ne_eqb s t (λ k. eqb-false t s f (sym k))) in
        Fate-none old m t none (count t ∙ cond-false (t == s) _ _ f) (waiting_in (device_at old t))
        (ap (λ ws. ws ++ waiting_in (device_at old t)) (sym (since_none old m.after t records)))
        (λ d p. let x = was t d p in
        ap (λ (y : Device). y.waiting) (sym x.2) ∙ (ap (λ (b : Bool). (if b then queued w x.0 else x.0).waiting) f ∙ sym (ap waiting_in x.1)))

StepFacts-acts : (old : State) (event : Event) (reply : Reply) (new : State) → first_refusal (checks old event) ≡ None → Acts old event reply new
    → Addresses old → HasDistinctIdentities old → IsEven old → StepFacts old (record { event = event; reply = reply; after = new })
StepFacts-acts old (Attach s setup) reply new free h inv distinct even = StepFacts-unserved old _ (ap number_raised h.0) (ap recorded_at h.0)
    (subst (Unserved old) (sym h.1) (Unserved-attach s setup old (none_from (device_at old s) (no_test 0 (checks old (Attach s setup)) free)))) even
StepFacts-acts old (DropOff s) reply new free h inv distinct even =
    StepFacts-unserved old _ (ap number_raised h.0) (ap recorded_at h.0) (subst (Unserved old) (sym h.1) (Unserved-drop_off s old)) even
StepFacts-acts old (AskJoin s) reply new free h inv distinct even =
    StepFacts-unserved old _ (ap number_raised h.0) (ap recorded_at h.0) (subst (Unserved old) (sym h.1) (Unserved-ask_join s old)) even
StepFacts-acts old (Raise s byte) reply new free h inv distinct even = StepFacts-raise old s byte _ free refl h.0 h.1 even
StepFacts-acts old (Serve policy cuts) reply new free h inv distinct even =
    StepFacts-frame old _ policy cuts h.0 _ _ (λ lost mid done e. Unserved-same mid done e) h.2 (ap number_raised h.1) (ap recorded_at h.1) inv distinct even
StepFacts-acts old (Enec to kinds policy cuts) reply new free h inv distinct even =
    StepFacts-frame old _ policy cuts h.0.served _ _ (Unserved-rekinds to _ h.0.answer) h.2 (ap number_raised h.1) (ap recorded_at h.1) inv distinct even
StepFacts-acts old (Disec to kinds policy cuts) reply new free h inv distinct even =
    StepFacts-frame old _ policy cuts h.0.served _ _ (Unserved-rekinds to _ h.0.answer) h.2 (ap number_raised h.1) (ap recorded_at h.1) inv distinct even
StepFacts-acts old (AskRole s) reply new free h inv distinct even =
    StepFacts-unserved old _ (ap number_raised h.0) (ap recorded_at h.0) (subst (Unserved old) (sym h.1) (Unserved-ask_role s old)) even
StepFacts-acts old (Reset policy cuts) reply new free h inv distinct even =
    StepFacts-frame old _ policy cuts h.0 _ _ (λ lost mid done e. subst (Unserved mid) (sym e) (Unserved-reset mid)) h.2 (ap number_raised h.1) (ap recorded_at h.1) inv distinct even
StepFacts-acts old (SendList policy cuts) reply new free h inv distinct even =
    StepFacts-frame old _ policy cuts h.0 _ _ (λ lost mid done e. subst (Unserved mid) (sym e) (Unserved-list mid)) h.2 (ap number_raised h.1) (ap recorded_at h.1) inv distinct even
StepFacts-acts old (ReadFrom a policy cuts) reply new free h inv distinct even =
    StepFacts-frame old _ policy cuts h.0.served _ _ (reads_keep Unserved (λ st. Unserved-same st st refl) a h.0.answer) h.2 (ap number_raised h.1) (ap recorded_at h.1) inv distinct even
StepFacts-acts old (WriteTo a bytes policy cuts) reply new free h inv distinct even =
    StepFacts-frame old _ policy cuts h.0.served _ _ (writes_keep Unserved a bytes.items (λ st. Unserved-same st st refl) (Unserved-written a bytes.items) h.0.answer) h.2
    (ap number_raised h.1) (ap recorded_at h.1) inv distinct even
StepFacts-acts old (SetStatic f to policy cuts) reply new free h inv distinct even =
    StepFacts-frame old _ policy cuts h.0.served _ _ (statics_keep Unserved f to (λ st. Unserved-same st st refl) (λ i st. Unserved-with_static f i to st) h.0.answer) h.2
    (ap number_raised h.1) (ap recorded_at h.1) inv distinct even
StepFacts-acts old (SetNew a to policy cuts) reply new free h inv distinct even =
    StepFacts-frame old _ policy cuts h.0.served _ _ (news_keep Unserved a to (λ st. Unserved-same st st refl) (Unserved-with_new a to) h.0.answer) h.2
    (ap number_raised h.1) (ap recorded_at h.1) inv distinct even
StepFacts-acts old (Get what a policy cuts) reply new free h inv distinct even =
    StepFacts-frame old _ policy cuts h.0.served _ _ (gets_keep Unserved (λ st. Unserved-same st st refl) what a h.0.answer) h.2 (ap number_raised h.1) (ap recorded_at h.1) inv distinct even
StepFacts-acts old (SetLength way most to policy cuts) reply new free h inv distinct even =
    StepFacts-frame old _ policy cuts h.0.served _ _ (lengths_keep Unserved to way most (λ st. Unserved-same st st refl) (Unserved-with_length to way most) h.0.answer) h.2
    (ap number_raised h.1) (ap recorded_at h.1) inv distinct even
StepFacts-acts old (OpenDaa cuts) reply new free h inv distinct even =
    StepFacts-frame old _ _ cuts h.0 _ _ (λ lost mid done e. subst (Unserved mid) (sym e) (Unserved-opened mid)) h.2 (ap number_raised h.1) (ap recorded_at h.1) inv distinct even
StepFacts-acts old (Round cuts) reply new free h inv distinct even = StepFacts-unserved old _ (ap number_raised h.1) (ap recorded_at h.1) (Unserved-round old cuts h.0 new h.2) even
StepFacts-acts old (HandOver to cuts) reply new free h inv distinct even = elim h [
  | inl g ↦ StepFacts-frame old _ _ cuts g.0 _ _ (λ lost mid done e. subst (Unserved mid) (sym e.4) (Unserved-handed e.0 to mid)) g.2 (ap number_raised g.1) (ap recorded_at g.1) inv distinct even
  | inr g ↦ StepFacts-frame old _ _ cuts g.0 _ _ (λ lost mid done e. Unserved-same mid done e.1) g.4 (ap number_raised g.2) (ap recorded_at g.2) inv distinct even
]
StepFacts-acts old EndDaa reply new free h inv distinct even =
    StepFacts-unserved old _ (ap number_raised h.0) (ap recorded_at h.0) (subst (Unserved old) (sym h.1) (Unserved-ended old)) even

-- a step that changed nothing raised nothing and recorded nothing
StepFacts-idle : (old : State) (m : Moment) → IsIdle m.reply → m.after ≡ old → IsEven old → StepFacts old m
StepFacts-idle old m (refused why r) e even = StepFacts-unserved old m (ap number_raised r) (ap recorded_at r) (Unserved-same old m.after e) even
StepFacts-idle old m (short r) e even = StepFacts-unserved old m (ap number_raised r) (ap recorded_at r) (Unserved-same old m.after e) even

pub StepFacts-step : (old : State) (m : Moment) → Step old m.event m.reply m.after → Addresses old → HasDistinctIdentities old → IsEven old → StepFacts old m
StepFacts-step old m h inv distinct even = step_cases old m.event m.reply m.after h
    (λ idle e. StepFacts-idle old m idle e even) (λ free acts. StepFacts-acts old m.event m.reply m.after free acts inv distinct even)
