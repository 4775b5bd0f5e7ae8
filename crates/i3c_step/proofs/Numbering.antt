-- Over a history, the numbers of each slot's records and then of its waiting interrupts rise.
use Rattle.std.proofs.lemmas.List.{append-nil, drop_at, length-set, map-append}
use Rattle.std.proofs.Common.{◌≡◌, ℕ, length, List, [], ◌∷◌, ◌++◌, drop, filter, map, Option, Some, None, ◌==◌, sym, refl, ap, ◌∙◌, subst, append_assoc, arith}
use Rattle.i3c_base.specs.declared.device.Setup.{Setup}
use Rattle.i3c_base.specs.declared.device.Waiting.{Waiting}
use Rattle.i3c_base.specs.declared.requests.Record.{Record}
use Rattle.i3c_base.specs.State.{Board, Device, HasDistinctIdentities, IsStart, State, addressed, device_at, no_devices, raised_at, unaddressed}
use Rattle.i3c_base.proofs.Lookups.{length-no_devices, length-no_raises, no_raises_at}
use Rattle.i3c_step.specs.History.{AllDistinct, History, IsLegal, Moment, reached}
use Rattle.i3c_step.specs.Records.{numbers_of, raise_of}
use Rattle.i3c_step.specs.Sound.{Addresses}
use Rattle.i3c_step.specs.Stays.{accepted_at, recorded_since}
use Rattle.i3c_step.proofs.Addresses.{Addresses-start, Addresses-step, start_device}
use Rattle.i3c_step.proofs.Fates.{Counts, Fate, Grows, IsEven, StepFacts}
use Rattle.i3c_step.proofs.Kept.{history_keeps}
use Rattle.i3c_step.proofs.Numbers.{Between, Between-clear, Between-raise, numbers, numbers_of-append}
use Rattle.i3c_step.proofs.Raising.{StepFacts-step}
use Rattle.i3c_step.proofs.Unserved.{waiting_in}

-- of slot s, the numbers of its records and then those that wait rise, up to the number of its raises
abbrev pub Rises : State → ℕ → Type 0
Rises st s = Between 0 (numbers_of s st.records ++ numbers (waiting_in (device_at st s))) (raised_at st s)

-- the numbers of each slot rise so
pub record IsNumbered (st : State) : Type 0 where
  pub rise : (s : ℕ) → Rises st s
  pub even : IsEven st

-- the records after a step are those before and some more
pub more_records : (o : Option ℕ) (old new : State) → Grows o old new → (more : List Record) × (new.records ≡ old.records ++ more)
more_records None old new e = ([], e ∙ sym (append-nil old.records))
more_records (Some place) old new a = (a.last ∷ [], a.appended)

-- what a step recorded of a slot
pub since_more : (old new : State) (s : ℕ) (more : List Record) → new.records ≡ old.records ++ more
    → recorded_since old new s ≡ map raise_of (filter (λ (r : Record). r.slot == s) more)
since_more old new s more e =
    let rest : drop (length old.records) new.records ≡ more = ap (drop (length old.records)) e ∙ drop_at old.records more (length old.records) refl in
    ap (λ (rs : List Record). map raise_of (filter (λ (r : Record). r.slot == s) rs)) rest

-- the numbers of a slot's records after a step
numbers_since : (old new : State) (s : ℕ) (more : List Record) → new.records ≡ old.records ++ more
    → numbers_of s new.records ≡ numbers_of s old.records ++ numbers (recorded_since old new s)
numbers_since old new s more e =
    ap (numbers_of s) e ∙ (numbers_of-append s old.records more ∙ ap (λ ws. numbers_of s old.records ++ numbers ws) (sym (since_more old new s more e)))

-- the count of raises follows the accepted ones
Between-accepted : (xs : List ℕ) (ws more : List Waiting) (n m : ℕ) → Counts more n m → Between 0 (xs ++ numbers ws) n → Between 0 (xs ++ numbers (ws ++ more)) m
Between-accepted xs ws [] n m c h =
    subst (λ vs. Between 0 (xs ++ numbers vs) m) (sym (append-nil ws)) (subst (λ k. Between 0 (xs ++ numbers ws) k) (sym c) h)
Between-accepted xs ws (w ∷ []) n m c h = subst (λ k. Between 0 (xs ++ numbers (ws ++ w ∷ [])) k) (sym c.1) (Between-raise 0 xs ws w n c.0 h)
Between-accepted xs ws (w ∷ v ∷ vs) n m c h = absurd c

-- a step keeps it
Rises-step : (old : State) (m : Moment) → StepFacts old m → (s : ℕ) → Rises old s → Rises m.after s
Rises-step old m facts s h = go (device_at m.after s) refl
  where
    f : Fate old m s
    f = facts.fates s

    split : numbers_of s old.records ++ numbers (recorded_since old m.after s ++ f.left) ≡ numbers_of s m.after.records ++ numbers f.left
    split =
        let more = more_records _ old m.after facts.grows in
        ap (λ ns. numbers_of s old.records ++ ns) (map-append (λ (w : Waiting). w.number) (recorded_since old m.after s) f.left)
        ∙ (sym (append_assoc (numbers_of s old.records) (numbers (recorded_since old m.after s)) (numbers f.left))
        ∙ ap (λ ns. ns ++ numbers f.left) (sym (numbers_since old m.after s more.0 more.1)))

    left : Between 0 (numbers_of s m.after.records ++ numbers f.left) (raised_at m.after s)
    left = subst (λ ns. Between 0 ns (raised_at m.after s)) split
        (subst (λ ws. Between 0 (numbers_of s old.records ++ numbers ws) (raised_at m.after s)) f.moves
        (Between-accepted (numbers_of s old.records) (waiting_in (device_at old s)) (accepted_at m s) (raised_at old s) (raised_at m.after s) f.counts h))

    go : (o : Option Device) → device_at m.after s ≡ o → Rises m.after s
    go None e = subst (λ o. Between 0 (numbers_of s m.after.records ++ numbers (waiting_in o)) (raised_at m.after s)) (sym e)
        (Between-clear 0 (numbers_of s m.after.records) (numbers f.left) (raised_at m.after s) left)
    go (Some d) e = subst (λ o. Between 0 (numbers_of s m.after.records ++ numbers (waiting_in o)) (raised_at m.after s)) (sym e)
        (subst (λ ws. Between 0 (numbers_of s m.after.records ++ numbers ws) (raised_at m.after s)) (sym (f.rests d e)) left)

-- a legal history from a start where nothing waits, with distinct identities all along
pub record IsLawful (start : State) (h : History) : Type 0 where
  pub addresses : Addresses start
  pub numbered : IsNumbered start
  pub empty : (s : ℕ) (d : Device) → device_at start s ≡ Some d → d.waiting ≡ []
  pub legal : IsLegal start h
  pub distinct : AllDistinct start h

pub IsLawful-earlier : (start : State) (m : Moment) (earlier : History) → IsLawful start (m ∷ earlier) → IsLawful start earlier
IsLawful-earlier start m earlier law = record { addresses = law.addresses; numbered = law.numbered; empty = law.empty; legal = law.legal.1; distinct = law.distinct.1 }

distinct_reached : (start : State) (h : History) → AllDistinct start h → HasDistinctIdentities (reached start h)
distinct_reached start [] all = all
distinct_reached start (m ∷ earlier) all = all.0

facts_from : (start : State) (m : Moment) (earlier : History) → IsLawful start (m ∷ earlier) → IsNumbered (reached start earlier) → StepFacts (reached start earlier) m
facts_from start m earlier law n =
    StepFacts-step (reached start earlier) m law.legal.0 (history_keeps Addresses Addresses-step start earlier law.legal.1 law.addresses)
    (distinct_reached start earlier law.distinct.1) n.even

-- each state of the history is numbered
pub numbered_reached : (start : State) (h : History) → IsLawful start h → IsNumbered (reached start h)
numbered_reached start [] law = law.numbered
numbered_reached start (m ∷ earlier) law =
    let before = numbered_reached start earlier (IsLawful-earlier start m earlier law) in
    let facts = facts_from start m earlier law before in
    record { rise = λ s. Rises-step (reached start earlier) m facts s (before.rise s); even = facts.even }

-- what its last step does
pub last_facts : (start : State) (m : Moment) (earlier : History) → IsLawful start (m ∷ earlier) → StepFacts (reached start earlier) m
last_facts start m earlier law = facts_from start m earlier law (numbered_reached start earlier (IsLawful-earlier start m earlier law))

-- nothing waits at a start, and nothing was raised
pub IsLawful-start : (main : Setup) (board : Board) (start : State) (h : History) → IsStart main board start → IsLegal start h → AllDistinct start h → IsLawful start h
IsLawful-start main board start h begins legal distinct = record {
  addresses = Addresses-start main board start begins;
  numbered = subst IsNumbered (sym begins.2) (record {
    rise = λ s. subst (λ ws. Between 0 (numbers ws) (raised_at first s)) (sym (nothing s (device_at first s) refl)) (subst (Between 0 []) (sym (no_raises_at s)) (omega arith));
    even = length-no_raises ∙ sym (length-set _ 0 _ ∙ (length-set no_devices 0 _ ∙ length-no_devices));
  });
  empty = λ s d p. ap (λ (x : Device). x.waiting) (start_device main board begins.0 s d (subst (λ (st : State). device_at st s ≡ Some d) begins.2 p)).1;
  legal = legal;
  distinct = distinct;
}
  where
    first : State
    first = addressed 0 begins.0 main.identity (unaddressed main board)

    nothing : (s : ℕ) (o : Option Device) → device_at first s ≡ o → waiting_in o ≡ []
    nothing s None e = refl
    nothing s (Some d) e = ap (λ (x : Device). x.waiting) (start_device main board begins.0 s d e).1
