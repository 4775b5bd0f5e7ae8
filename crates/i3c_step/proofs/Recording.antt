-- Each accepted interrupt is recorded once.
use Rattle.std.proofs.lemmas.Bool.{cond-true, eq-eqb, eqb-true}
use Rattle.std.proofs.lemmas.List.Elements.{Contains-append_cases, Contains-append_left, Contains-append_right}
use Rattle.std.proofs.Common.{◌≡◌, ℕ, Bool, true, false, List, [], ◌∷◌, ◌++◌, filter, map, Option, Some, None, ◌==◌, if◌then◌else◌, ◌⊎◌, inl, inr, sym, refl, ap, ◌∙◌, subst, arith}
use Rattle.std.specs.List.{Contains}
use Rattle.i3c_base.specs.declared.device.Setup.{Setup}
use Rattle.i3c_base.specs.declared.device.Waiting.{Waiting}
use Rattle.i3c_base.specs.declared.requests.Record.{Record}
use Rattle.i3c_base.specs.State.{Board, Device, IsStart, State, device_at, raised_at}
use Rattle.i3c_step.specs.History.{AllDistinct, History, IsAccepted, IsLegal, Moment, WasRaised, reached}
use Rattle.i3c_step.specs.Records.{HasFaithfulRecords, IsRecordedFor, RecordsAt, RecordsGrow, numbers_of, raise_of}
use Rattle.i3c_step.specs.Serving.{recorded_at}
use Rattle.i3c_step.specs.Stays.{accepted_at, number_raised, raised_as, recorded_since}
use Rattle.i3c_step.proofs.Fates.{Contains-nil, Contains-one, Fate, Grows, StepFacts}
use Rattle.i3c_step.proofs.Numbering.{IsLawful, IsLawful-earlier, IsLawful-start, last_facts, more_records, numbered_reached, since_more}
use Rattle.i3c_step.proofs.Numbers.{Between, Between-front, Increasing-between, once-between}
use Rattle.i3c_step.proofs.Unserved.{waiting_in}

Contains-same : (w : Waiting) (xs ys : List Waiting) → xs ≡ ys → Contains xs w → Contains ys w
Contains-same w xs ys e h = subst (λ ws. Contains ws w) e h

pub Contains-first : {A : Type 0} (x : A) (xs : List A) → Contains (x ∷ xs) x
Contains-first x xs = (0, omega arith, refl)

-- what waits was raised in the present stay
waiting_raised : (start : State) (h : History) → IsLawful start h → (s : ℕ) (d : Device) (w : Waiting) → device_at (reached start h) s ≡ Some d → Contains d.waiting w → WasRaised start h s w
waiting_raised start [] law s d w p c = absurd (Contains-nil w (Contains-same w d.waiting [] (law.empty s d p) c))
waiting_raised start (m ∷ earlier) law s d w p c =
    go (λ e there i. inr ((e, there), (d, p), waiting_raised start earlier (IsLawful-earlier start m earlier law) s e w there i))
  where
    old : State
    old = reached start earlier

    f : Fate old m s
    f = (last_facts start m earlier law).fates s

    was : Contains (waiting_in (device_at old s) ++ accepted_at m s) w
    was = Contains-same w _ _ (sym f.moves) (Contains-append_right (recorded_since old m.after s) f.left w (Contains-same w d.waiting f.left (f.rests d p) c))

    waited : ((e : Device) → device_at old s ≡ Some e → Contains e.waiting w → WasRaised start (m ∷ earlier) s w)
        → (o : Option Device) → device_at old s ≡ o → Contains (waiting_in o) w → WasRaised start (m ∷ earlier) s w
    waited before None e i = absurd (Contains-nil w i)
    waited before (Some x) e i = before x e i

    go : ((e : Device) → device_at old s ≡ Some e → Contains e.waiting w → WasRaised start (m ∷ earlier) s w) → WasRaised start (m ∷ earlier) s w
    go before = elim (Contains-append_cases (waiting_in (device_at old s)) (accepted_at m s) w was) [
      | inl i ↦ waited before (device_at old s) refl i
      | inr a ↦ inl (f.accepted w a)
    ]

-- an accepted raise is the one that its moment names
accepted_contains : (old : State) (m : Moment) (s : ℕ) (w : Waiting) → IsAccepted old m s w → Contains (accepted_at m s) w
accepted_contains old m s w a =
    let named : accepted_at m s ≡ (if s == s then w ∷ [] else []) = λ k. raised_as (number_raised (a.reply k)) (a.event k) s in
    Contains-same w (w ∷ []) (accepted_at m s) (sym (named ∙ cond-true (s == s) _ [] (eq-eqb s s refl))) (Contains-first w [])

-- a raise that is among those of a slot's records is one record's
recorded_among : (s : ℕ) (rs : List Record) (w : Waiting) → Contains (map raise_of (filter (λ (r : Record). r.slot == s) rs)) w
    → (r : Record) × Contains rs r × (r.slot ≡ s) × (raise_of r ≡ w)
recorded_among s [] w c = absurd (Contains-nil w c)
recorded_among s (q ∷ rs) w c = go (recorded_among s rs w) (q.slot == s) refl c
  where
    later : (r : Record) × Contains rs r × (r.slot ≡ s) × (raise_of r ≡ w) → (r : Record) × Contains (q ∷ rs) r × (r.slot ≡ s) × (raise_of r ≡ w)
    later h = (h.0, Contains-append_right (q ∷ []) rs h.0 h.1, h.2, h.3)

    go : (Contains (map raise_of (filter (λ (r : Record). r.slot == s) rs)) w → (r : Record) × Contains rs r × (r.slot ≡ s) × (raise_of r ≡ w))
        → (t : Bool) → (q.slot == s) ≡ t → Contains (map raise_of (if t then q ∷ filter (λ (r : Record). r.slot == s) rs else filter (λ (r : Record). r.slot == s) rs)) w
        → (r : Record) × Contains (q ∷ rs) r × (r.slot ≡ s) × (raise_of r ≡ w)
    go rest true e k = elim (Contains-append_cases (raise_of q ∷ []) (map raise_of (filter (λ (r : Record). r.slot == s) rs)) w k) [
      | inl i ↦ (q, Contains-first q rs, eqb-true q.slot s e, Contains-one (raise_of q) w i)
      | inr i ↦ later (rest i)
    ]
    go rest false e k = later (rest k)

recorded_now : (old new : State) (s : ℕ) (w : Waiting) (o : Option ℕ) → Grows o old new → Contains (recorded_since old new s) w → IsRecordedFor new s w
recorded_now old new s w o grows c =
    let more = more_records o old new grows in
    let r = recorded_among s more.0 w (Contains-same w _ _ (since_more old new s more.0 more.1) c) in
    (r.0, subst (λ rs. Contains rs r.0) (sym more.1) (Contains-append_right old.records more.0 r.0 r.1), r.2, r.3)

-- records stay
recorded_stays : (old new : State) (s : ℕ) (w : Waiting) (o : Option ℕ) → Grows o old new → IsRecordedFor old s w → IsRecordedFor new s w
recorded_stays old new s w o grows h =
    let more = more_records o old new grows in
    (h.0, subst (λ rs. Contains rs h.0) (sym more.1) (Contains-append_left old.records more.0 h.0 h.1), h.2, h.3)

-- an accepted raise of a present device's stay waits or is recorded
raised_stays : (start : State) (h : History) → IsLawful start h → (s : ℕ) (d : Device) (w : Waiting) → device_at (reached start h) s ≡ Some d → WasRaised start h s w
    → Contains d.waiting w ⊎ IsRecordedFor (reached start h) s w
raised_stays start [] law s d w p raised = absurd raised
raised_stays start (m ∷ earlier) law s d w p raised = elim raised [
  | inl a ↦ after (Contains-append_right (waiting_in (device_at old s)) (accepted_at m s) w (accepted_contains old m s w a))
  | inr was ↦ elim (raised_stays start earlier (IsLawful-earlier start m earlier law) s was.0.0 w was.0.1 was.2) [
    | inl i ↦ after (Contains-append_left (waiting_in (device_at old s)) (accepted_at m s) w (Contains-same w _ _ (sym (ap waiting_in was.0.1)) i))
    | inr r ↦ inr (recorded_stays old m.after s w (recorded_at m.reply) facts.grows r)
  ]
]
  where
    old : State
    old = reached start earlier

    facts : StepFacts old m
    facts = last_facts start m earlier law

    after : Contains (waiting_in (device_at old s) ++ accepted_at m s) w → Contains d.waiting w ⊎ IsRecordedFor m.after s w
    after c = let f = facts.fates s in elim (Contains-append_cases (recorded_since old m.after s) f.left w (Contains-same w _ _ f.moves c)) [
      | inl i ↦ inr (recorded_now old m.after s w (recorded_at m.reply) facts.grows i)
      | inr i ↦ inl (Contains-same w f.left d.waiting (sym (f.rests d p)) i)
    ]

-- the records grow as they should
records_grow : (start : State) (h : History) → IsLawful start h → RecordsGrow start h
records_grow start [] law = tt
records_grow start (m ∷ earlier) law =
    (go (recorded_at m.reply) (last_facts start m earlier law).grows, records_grow start earlier (IsLawful-earlier start m earlier law))
  where
    go : (o : Option ℕ) → Grows o (reached start earlier) m.after → RecordsAt o start earlier m.after
    go None e = e
    go (Some place) a = record {
      last = a.last;
      appended = a.appended;
      placed = a.placed;
      device = a.device;
      there = a.there;
      address = a.address;
      raised = waiting_raised start earlier (IsLawful-earlier start m earlier law) a.last.slot a.device (raise_of a.last) a.there a.waits;
    }

pub faithful_records : (main : Setup) (board : Board) (start : State) (h : History)
    → IsStart main board start → IsLegal start h → AllDistinct start h → HasFaithfulRecords start h
faithful_records main board start h begins legal distinct = record {
  grow = records_grow start h law;
  once = once-between (reached start h).records (λ s. (0, _, between s));
  rise = λ s. Increasing-between 0 (numbers_of s (reached start h).records) _ (between s);
  complete = raised_stays start h law;
}
  where
    law : IsLawful start h
    law = IsLawful-start main board start h begins legal distinct

    between : (s : ℕ) → Between 0 (numbers_of s (reached start h).records) (raised_at (reached start h) s)
    between s = Between-front 0 (numbers_of s (reached start h).records) _ _ ((numbered_reached start h law).rise s)
