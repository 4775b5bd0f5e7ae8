-- A session without cuts comes to its end.
use Rattle.std.proofs.lemmas.Bool.{both_ways, cond-false, eq-eqb, false≢true}
use Rattle.std.proofs.lemmas.List.Elements.{All-head, All-tail}
use Rattle.std.proofs.lemmas.List.Sums.{sum_by-cons}
use Rattle.std.proofs.lemmas.List.{length-set}
use Rattle.std.proofs.lemmas.Option.{none-some}
use Rattle.std.proofs.Common.{◌≡◌, ℕ, zero, suc, ◌+◌, ◌≤◌, ◌<◌, Bool, true, false, not, ◌&&◌, List, [], ◌∷◌, ◌++◌, ◌==◌, count_by, length, get_or, Option, Some, None, is_some, option_map, MatchOption, if◌then◌else◌, ◌⊎◌, inl, inr, sym, refl, ap, ◌∙◌, subst, arith}
use Rattle.std.specs.List.{All, Contains}
use Rattle.i3c_base.specs.declared.answers.RoundReply.{RoundReply}
use Rattle.i3c_base.specs.declared.device.Setup.{Setup}
use Rattle.i3c_base.specs.declared.identity.Identity.{Identity}
use Rattle.i3c_base.specs.declared.range.TheConstants.{SLOTS}
use Rattle.i3c_base.specs.Cutting.{CutList, IsUncut, Lost, lost_by}
use Rattle.i3c_base.specs.Numbers.{same_identity}
use Rattle.i3c_base.specs.Round.{Rounds, assigned, winner, wins}
use Rattle.i3c_base.specs.Serve.{emptied}
use Rattle.i3c_base.specs.Local.{attach, drop_off, raise}
use Rattle.i3c_base.specs.State.{Board, Device, IsStart, State, attached, change, device_at, in_slot, no_devices, raised_at, fixed_of}
use Rattle.i3c_base.proofs.Lookups.{change_at, drop_off_from, each_at, each_from, emptied_at, emptied_from, length-no_devices, set_at}
use Rattle.i3c_step.specs.declared.events.Event.{Event}
use Rattle.i3c_step.specs.declared.events.Event.TheVariants.{Attach, DropOff, Raise, AskJoin, AskRole, Serve, Enec, Disec, Reset, SendList, ReadFrom, WriteTo, SetStatic, SetNew, Get, SetLength, OpenDaa, Round, EndDaa, HandOver}
use Rattle.i3c_step.specs.declared.replies.Reply.{Reply}
use Rattle.i3c_step.specs.declared.replies.Refusal.{Refusal}
use Rattle.i3c_step.specs.Runs.{IsLegalRun, IsRun}
use Rattle.i3c_step.specs.Sessions.{IsInSession, IsLastRound, hearers, is_round}
use Rattle.i3c_step.specs.Sound.{HasActive}
use Rattle.i3c_step.specs.Step.{Acts, IsShort, Step, checks, cuts_active, first_refusal}
use Rattle.i3c_step.proofs.Follows.{Came-step, Follows-round}
use Rattle.i3c_step.proofs.Holding.{AllDeaf, active_start, active_step, deaf_start, deaf_step}
use Rattle.i3c_step.proofs.Kept.{run_keeps}
use Rattle.i3c_step.proofs.Lost.{unlost}
use Rattle.i3c_step.proofs.Recording.{Contains-first}
use Rattle.i3c_step.proofs.Steps.{no_test, step_cases, test_at}

-- the device in this slot hears the session
abbrev hears_at : Option Device → Bool
hears_at place = in_slot (λ d. d.hearing) place

abbrev one_if : Bool → ℕ
one_if b = if b then 1 else 0

one_more : (a b : Bool) → (a ≡ true → b ≡ true) → one_if a ≤ one_if b
one_more true b h = subst (λ c. 1 ≤ one_if c) (sym (h refl)) (omega arith)
one_more false true h = omega arith
one_more false false h = omega arith

-- a device that hears afterwards heard before
abbrev IsWithin : List (Option Device) → List (Option Device) → Type 0
IsWithin xs ys = (k : ℕ) → hears_at (get_or xs k None) ≡ true → hears_at (get_or ys k None) ≡ true

not_more : (xs ys : List (Option Device)) → length xs ≡ length ys → IsWithin xs ys → hearers xs ≤ hearers ys
unfolding hearers
not_more [] [] e h = omega arith
not_more [] (y ∷ ys) e h = omega arith
not_more (x ∷ xs) [] e h = absurd (omega (arith, e))
not_more (x ∷ xs) (y ∷ ys) e h =
    let first : one_if (hears_at x) ≤ one_if (hears_at y) = one_more (hears_at x) (hears_at y) (h 0) in
    let rest : hearers xs ≤ hearers ys = not_more xs ys (omega (arith, e)) (λ k. h (suc k)) in
    omega (arith, first, rest)

-- and a device that hears no more makes them fewer
fewer : (xs ys : List (Option Device)) (j : ℕ) → length xs ≡ length ys → IsWithin xs ys → hears_at (get_or ys j None) ≡ true → hears_at (get_or xs j None) ≡ false → hearers xs < hearers ys
unfolding hearers
fewer [] [] j e h was is = absurd (both_ways _ refl was)
fewer [] (y ∷ ys) j e h was is = absurd (omega (arith, e))
fewer (x ∷ xs) [] j e h was is = absurd (omega (arith, e))
fewer (x ∷ xs) (y ∷ ys) zero e h was is =
    let none : one_if (hears_at x) ≡ 0 = ap one_if is in
    let one : one_if (hears_at y) ≡ 1 = ap one_if was in
    let rest : hearers xs ≤ hearers ys = not_more xs ys (omega (arith, e)) (λ k. h (suc k)) in
    omega (arith, none, one, rest)
fewer (x ∷ xs) (y ∷ ys) (suc j) e h was is =
    let first : one_if (hears_at x) ≤ one_if (hears_at y) = one_more (hears_at x) (hears_at y) (h 0) in
    let rest : hearers xs < hearers ys = fewer xs ys j (omega (arith, e)) (λ k. h (suc k)) was is in
    omega (arith, first, rest)

at_most_one : (b : Bool) → one_if b ≤ 1
at_most_one true = omega arith
at_most_one false = omega arith

pub at_most : (xs : List (Option Device)) → hearers xs ≤ length xs
unfolding hearers
at_most [] = omega arith
at_most (x ∷ xs) = omega (arith, at_most_one (hears_at x), at_most xs)

-- where a device doesn't hear, not each place does
pub not_all : (xs : List (Option Device)) (j : ℕ) (d : Device) → get_or xs j None ≡ Some d → d.hearing ≡ false → hearers xs < length xs
unfolding hearers
not_all [] j d p deaf = absurd (none-some d p)
not_all (x ∷ xs) zero d p deaf =
    let none : one_if (hears_at x) ≡ 0 = ap (λ place. one_if (hears_at place)) p ∙ ap one_if deaf in
    omega (arith, none, at_most xs)
not_all (x ∷ xs) (suc j) d p deaf = omega (arith, at_most_one (hears_at x), not_all xs j d p deaf)

-- an identity is the same as itself
itself : (i : Identity) → same_identity i i ≡ true
itself i = λ k. eq-eqb i.pid i.pid refl k && (eq-eqb i.bcr.0 i.bcr.0 refl k && eq-eqb i.dcr.0 i.dcr.0 refl k)

-- a device that hears after a round heard before
within_assigned : (lost : Lost) (i : Identity) (a : ℕ) (old : State) → IsWithin (emptied lost (assigned lost i a old)).devices old.devices
within_assigned lost i a old k h = go (device_at (emptied lost (assigned lost i a old)) k) refl h
  where
    one : (x d : Device) (b : Bool) → (if b then winner a x else x) ≡ d → d.hearing ≡ true → x.hearing ≡ true
    one x d true e hears = absurd (both_ways _ refl (ap (λ (y : Device). y.hearing) e ∙ hears))
    one x d false e hears = ap (λ (y : Device). y.hearing) e ∙ hears

    go : (o : Option Device) → device_at (emptied lost (assigned lost i a old)) k ≡ o → hears_at o ≡ true → hears_at (device_at old k) ≡ true
    go None e hears = absurd (false≢true hears)
    go (Some d) e hears =
        let left = emptied_from lost (assigned lost i a old) k d e in
        let x = each_from (λ s y. if wins lost i s y then winner a y else y) old k d left.1 in
        ap hears_at x.1 ∙ one x.0 d (wins lost i k x.0) x.2 hears

-- the winner hears no more
winner_deaf : (lost : Lost) (i : Identity) (a : ℕ) (old : State) (s : ℕ) (d : Device) → device_at old s ≡ Some d → d.hearing ≡ true → lost s ≡ false → d.identity ≡ i
    → hears_at (device_at (emptied lost (assigned lost i a old)) s) ≡ false
winner_deaf lost i a old s d there hears left same =
    let won : wins lost i s d ≡ true = (λ k. hears k && (not (left k) && same_identity (same k) i)) ∙ itself i in
    let at : device_at (emptied lost (assigned lost i a old)) s ≡ Some (winner a d) =
    emptied_at lost (assigned lost i a old) s
    ∙ (cond-false (lost s) None (device_at (assigned lost i a old) s) left
    ∙ (each_at (λ t y. if wins lost i t y then winner a y else y) old s
    ∙ (ap (option_map (λ (y : Device). if wins lost i s y then winner a y else y)) there ∙ ap (λ (b : Bool). Some (if b then winner a d else d)) won))) in
    ap hears_at at

-- there are as many places for devices as slots
abbrev IsSlotted : State → Type 0
IsSlotted st = length st.devices ≡ SLOTS

slotted_step : (old : State) (event : Event) (reply : Reply) (new : State) → Step old event reply new → IsSlotted old → IsSlotted new
slotted_step old event reply new h e = (Came-step old event reply new h).1 ∙ e

slotted_start : (main : Setup) (board : Board) (start : State) → IsStart main board start → IsSlotted start
slotted_start main board start h = ap (λ (st : State). length st.devices) h.2 ∙ (length-set _ 0 _ ∙ (length-set no_devices 0 (Some (attached (fixed_of board.declared main.identity) main)) ∙ length-no_devices))

-- what a round without cuts answers, if it isn't the last
record Goes (old : State) (reply : Reply) (new : State) : Type 0 where
  less : hearers new.devices < hearers old.devices
  session : new.in_session ≡ true

lost_none : {P : Type 0} (cuts : CutList) → IsUncut cuts → (last s : ℕ) → lost_by cuts last s ≡ true → P
lost_none cuts uncut last s h = absurd (both_ways _ (unlost cuts uncut last s) h)

-- in a round without cuts somebody acknowledges the address byte
pub uncut_is_acknowledged : {P : Type 0} (old : State) (cuts : CutList) (new : State) → IsUncut cuts → Rounds old cuts RoundReply.Nobody new → P
uncut_is_acknowledged old cuts new uncut h = elim h.2 [
  | inl lost ↦ lost_none cuts uncut 73 h.1.0 (lost h.1.0 h.1.1 h.1.2)
  | inr beaten ↦ lost_none cuts uncut 73 beaten.0 beaten.3
]

-- a device that gets an address hears no more
pub one_fewer : (old : State) (cuts : CutList) (a : ℕ) (i : Identity) (new : State) → Rounds old cuts (RoundReply.Assigned a i) new → hearers new.devices < hearers old.devices
one_fewer old cuts a i new h =
    let lost : Lost = lost_by cuts 73 in
    let after : State = emptied lost (assigned lost i a old) in
    let c = h.1.0 in
    let long : length after.devices ≡ length old.devices = ap (λ (st : State). length st.devices) (sym h.3) ∙ (Follows-round old cuts (RoundReply.Assigned a i) new h).long in
    let less : hearers after.devices < hearers old.devices =
    fewer after.devices old.devices c.0 long (within_assigned lost i a old) (ap hears_at c.2.0 ∙ c.2.1) (winner_deaf lost i a old c.0 c.1 c.2.0 c.2.1 c.3 c.4) in
    subst (λ (st : State). hearers st.devices < hearers old.devices) (sym h.3) less

goes_on : (old : State) (cuts : CutList) (reply : Reply) (new : State) → IsUncut cuts → old.in_session ≡ true → (answer : RoundReply) → reply ≡ Reply.Round answer → Rounds old cuts answer new
    → IsLastRound reply ⊎ Goes old reply new
goes_on old cuts reply new uncut busy RoundReply.NoAddress e h = inl (inr e)
goes_on old cuts reply new uncut busy RoundReply.Done e h = inl (inl e)
goes_on old cuts reply new uncut busy RoundReply.Nobody e h = uncut_is_acknowledged old cuts new uncut h
goes_on old cuts reply new uncut busy (RoundReply.Assigned a i) e h =
    inr (record { less = one_fewer old cuts a i new h; session = ap (λ (st : State). st.in_session) h.3 ∙ busy })

-- an uncut round of a session isn't refused
round_goes : (old : State) (cuts : CutList) (reply : Reply) (new : State) → IsUncut cuts → old.in_session ≡ true → Step old (Event.Round cuts) reply new → IsLastRound reply ⊎ Goes old reply new
round_goes old cuts reply new uncut busy h = go (first_refusal (checks old (Event.Round cuts))) free h
  where
    free : first_refusal (checks old (Event.Round cuts)) ≡ None
    free = ap (λ b. first_refusal ((not b, Refusal.NoSession) ∷ (cuts_active old cuts, Refusal.ActiveStays) ∷ [])) busy
        ∙ ap (λ (o : Option ℕ). first_refusal ((is_some o, Refusal.ActiveStays) ∷ [])) (uncut old.active)

    go : (o : Option Refusal) → o ≡ None
        → MatchOption o (IsShort old (Event.Round cuts) reply new ⊎ Acts old (Event.Round cuts) reply new) (λ why. (reply ≡ Reply.Refused why) × (new ≡ old))
        → IsLastRound reply ⊎ Goes old reply new
    go (Some why) e k = absurd (none-some why (sym e))
    go None e k = elim k [
      | inl s ↦ absurd (false≢true s.0)
      | inr a ↦ goes_on old cuts reply new uncut busy a.0 a.1 a.2
    ]

Contains-later : {A : Type 0} (y : A) (xs : List A) (x : A) → Contains xs x → Contains (y ∷ xs) x
Contains-later y xs x h = (suc h.0, omega (arith, h.1), h.2)

-- a step of the session that isn't its last round: a round leaves one hearer fewer, and the session is open
record Went (old : State) (event : Event) (new : State) : Type 0 where
  less : one_if (is_round event) + hearers new.devices ≤ hearers old.devices
  session : new.in_session ≡ true

-- the rest of what happens in it: no device begins to hear
record Calm (old new : State) : Type 0 where
  long : length new.devices ≡ length old.devices
  within : IsWithin new.devices old.devices
  session : new.in_session ≡ old.in_session

calm_same : (st : State) → Calm st st
calm_same st = record { long = refl; within = λ k hears. hears; session = refl }

calm_attached : (s : ℕ) (setup : Setup) (st : State) → Calm st (attach s setup st)
calm_attached s setup st = record {
  long = length-set st.devices s (Some (attached (fixed_of st.declared setup.identity) setup));
  within = λ k hears. elim (set_at st.devices s k (Some (attached (fixed_of st.declared setup.identity) setup)) None) [
    | inl e ↦ absurd (false≢true (ap hears_at (sym e.1) ∙ hears))
    | inr e ↦ ap hears_at (sym e) ∙ hears
  ];
  session = refl;
}

calm_dropped : (s : ℕ) (st : State) → Calm st (drop_off s st)
calm_dropped s st = record {
  long = length-set st.devices s None;
  within = λ k hears. go k (device_at (drop_off s st) k) refl hears;
  session = refl;
}
  where
    go : (k : ℕ) (o : Option Device) → device_at (drop_off s st) k ≡ o → hears_at o ≡ true → hears_at (device_at st k) ≡ true
    go k None e hears = absurd (false≢true hears)
    go k (Some d) e hears = ap hears_at (drop_off_from s st k d e).1 ∙ hears

-- a device that is changed hears as it heard
as_before : (b : Bool) (f : Device → Device) (o : Option Device) → ((d : Device) → (f d).hearing ≡ d.hearing) → hears_at (option_map (λ d. if b then f d else d) o) ≡ hears_at o
as_before b f None e = refl
as_before true f (Some d) e = e d
as_before false f (Some d) e = refl

calm_changed : (s : ℕ) (f : Device → Device) (st : State) → ((d : Device) → (f d).hearing ≡ d.hearing) → Calm st (change s f st)
calm_changed s f st e = record {
  long = length-set st.devices s (option_map f (device_at st s));
  within = λ k hears. sym (as_before (k == s) f (device_at st k) e) ∙ (ap hears_at (sym (change_at s f st k)) ∙ hears);
  session = refl;
}

calm_raised : (s : ℕ) (byte : Option ℕ) (st : State) → Calm st (raise s byte st)
calm_raised s byte st =
    let changed = calm_changed s (λ d. record d { waiting = d.waiting ++ record { number = suc (raised_at st s); byte = byte } ∷ [] }) st (λ d. refl) in
    record { long = changed.long; within = changed.within; session = refl }

went_calm : (old : State) (event : Event) (new : State) → is_round event ≡ false → old.in_session ≡ true → Calm old new → Went old event new
went_calm old event new other busy calm = record {
  less = omega (arith, ap one_if other, not_more new.devices old.devices calm.long calm.within);
  session = calm.session ∙ busy;
}

-- which is so of each event but a round and the end
calm_step : (old : State) (event : Event) (reply : Reply) (new : State) → is_round event ≡ false → old.in_session ≡ true → (first_refusal (checks old event) ≡ None → Acts old event reply new → Calm old new)
    → Step old event reply new → IsLastRound reply ⊎ Went old event new
calm_step old event reply new other busy acts h =
    inr (went_calm old event new other busy (step_cases old event reply new h (λ idle e. subst (Calm old) (sym e) (calm_same old)) acts))

-- no frame but a round is sent while a session is open
refused : {P : Type 0} (old : State) (event : Event) → old.in_session ≡ true → test_at 0 (checks old event) ≡ old.in_session → first_refusal (checks old event) ≡ None → P
refused old event busy test free = absurd (both_ways _ (sym test ∙ no_test 0 (checks old event) free) busy)

goes : (old : State) (event : Event) (reply : Reply) (new : State) → IsInSession event → old.in_session ≡ true → Step old event reply new → IsLastRound reply ⊎ Went old event new
goes old (Round cuts) reply new uncut busy h = elim (round_goes old cuts reply new uncut busy h) [
  | inl last ↦ inl last
  | inr g ↦ inr (record { less = omega (arith, g.less); session = g.session })
]
goes old EndDaa reply new within busy h = absurd within
goes old (Attach s setup) reply new within busy h = calm_step old (Attach s setup) reply new refl busy (λ free acts. subst (Calm old) (sym acts.1) (calm_attached s setup old)) h
goes old (DropOff s) reply new within busy h = calm_step old (DropOff s) reply new refl busy (λ free acts. subst (Calm old) (sym acts.1) (calm_dropped s old)) h
goes old (Raise s byte) reply new within busy h = calm_step old (Raise s byte) reply new refl busy (λ free acts. subst (Calm old) (sym acts.1) (calm_raised s byte old)) h
goes old (AskJoin s) reply new within busy h =
    calm_step old (AskJoin s) reply new refl busy (λ free acts. subst (Calm old) (sym acts.1) (calm_changed s (λ d. record d { join_wish = true }) old (λ d. refl))) h
goes old (AskRole s) reply new within busy h =
    calm_step old (AskRole s) reply new refl busy (λ free acts. subst (Calm old) (sym acts.1) (calm_changed s (λ d. record d { role_wish = true }) old (λ d. refl))) h
goes old (Serve policy cuts) reply new within busy h = calm_step old (Serve policy cuts) reply new refl busy (λ free acts. refused old (Serve policy cuts) busy refl free) h
goes old (Enec to kinds policy cuts) reply new within busy h = calm_step old (Enec to kinds policy cuts) reply new refl busy (λ free acts. refused old (Enec to kinds policy cuts) busy refl free) h
goes old (Disec to kinds policy cuts) reply new within busy h = calm_step old (Disec to kinds policy cuts) reply new refl busy (λ free acts. refused old (Disec to kinds policy cuts) busy refl free) h
goes old (Reset policy cuts) reply new within busy h = calm_step old (Reset policy cuts) reply new refl busy (λ free acts. refused old (Reset policy cuts) busy refl free) h
goes old (SendList policy cuts) reply new within busy h = calm_step old (SendList policy cuts) reply new refl busy (λ free acts. refused old (SendList policy cuts) busy refl free) h
goes old (ReadFrom a policy cuts) reply new within busy h = calm_step old (ReadFrom a policy cuts) reply new refl busy (λ free acts. refused old (ReadFrom a policy cuts) busy refl free) h
goes old (WriteTo a bytes policy cuts) reply new within busy h = calm_step old (WriteTo a bytes policy cuts) reply new refl busy (λ free acts. refused old (WriteTo a bytes policy cuts) busy refl free) h
goes old (SetStatic f to policy cuts) reply new within busy h = calm_step old (SetStatic f to policy cuts) reply new refl busy (λ free acts. refused old (SetStatic f to policy cuts) busy refl free) h
goes old (SetNew a to policy cuts) reply new within busy h = calm_step old (SetNew a to policy cuts) reply new refl busy (λ free acts. refused old (SetNew a to policy cuts) busy refl free) h
goes old (Get what a policy cuts) reply new within busy h = calm_step old (Get what a policy cuts) reply new refl busy (λ free acts. refused old (Get what a policy cuts) busy refl free) h
goes old (SetLength way most to policy cuts) reply new within busy h = calm_step old (SetLength way most to policy cuts) reply new refl busy (λ free acts. refused old (SetLength way most to policy cuts) busy refl free) h
goes old (OpenDaa cuts) reply new within busy h = calm_step old (OpenDaa cuts) reply new refl busy (λ free acts. refused old (OpenDaa cuts) busy refl free) h
goes old (HandOver to cuts) reply new within busy h = calm_step old (HandOver to cuts) reply new refl busy (λ free acts. refused old (HandOver to cuts) busy refl free) h

-- so a last one comes while fewer hear than rounds are left
ends : (old : State) (session : List Event) (answers : List Reply) (new : State) → All IsInSession session → hearers old.devices < count_by is_round session → old.in_session ≡ true → IsRun old session answers new
    → (answer : Reply) × Contains answers answer × IsLastRound answer
ends old [] answers new all less busy run = absurd (omega (arith, less))
ends old (event ∷ session) [] new all less busy run = absurd run
ends old (event ∷ session) (answer ∷ answers) new all less busy run =
    elim (goes old event answer run.0 (All-head IsInSession event session all) busy run.1) [
      | inl last ↦ (answer, Contains-first answer answers, last)
      | inr went ↦
          let more : count_by is_round (event ∷ session) ≡ one_if (is_round event) + count_by is_round session = sum_by-cons (λ e. one_if (is_round e)) event session in
          let later = ends run.0 session answers new (All-tail IsInSession event session all) (omega (arith, less, went.less, more)) went.session run.2 in
          (later.0, Contains-later answer answers later.0 later.1, later.2)
    ]

pub sessions_end : (main : Setup) (board : Board) (events : List Event) (replies : List Reply) (mid : State) → IsLegalRun main board events replies mid → mid.in_session ≡ true
    → (session : List Event) (answers : List Reply) (new : State) → All IsInSession session → SLOTS ≤ count_by is_round session → IsRun mid session answers new
    → (answer : Reply) × Contains answers answer × IsLastRound answer
sessions_end main board events replies mid legal busy session answers new all many run =
    let active : HasActive mid = run_keeps HasActive active_step legal.0 events replies mid legal.2 (active_start main board legal.0 legal.1) in
    let deaf : AllDeaf mid = run_keeps AllDeaf deaf_step legal.0 events replies mid legal.2 (deaf_start main board legal.0 legal.1) in
    let slots : length mid.devices ≡ SLOTS = run_keeps IsSlotted slotted_step legal.0 events replies mid legal.2 (slotted_start main board legal.0 legal.1) in
    let less : hearers mid.devices < length mid.devices = not_all mid.devices mid.active active.0 active.2 (deaf mid.active active.0 active.2 (ap is_some active.3)) in
    ends mid session answers new all (omega (arith, less, slots, many)) busy run
