-- The contest of a round, over the hearers: its winner, or the reason that it has none.
use Rattle.std.proofs.Common.{◌≡◌, ℕ, ◌<◌, ◌≤◌, ◌^◌, ◌==◌, Bool, true, false, not, ◌&&◌, ◌⊎◌, inl, inr, List, [], ◌∷◌, get_or, Option, None, Some, refl, ap, sym, subst, ◌∙◌, arith}
use Rattle.std.specs.List.{All, Contains, list_all, list_any}
use Rattle.std.proofs.lemmas.Bool.{and_from, and_parts, and_right, both_ways, cases_Bool, cases_eq, eq-eqb, eqb-true, not-true, not-false, true_from_ne_false}
use Rattle.std.proofs.lemmas.List.Elements.{All-contains}
use Rattle.std.proofs.lemmas.Option.{same_Some}
use Rattle.i3c_base.specs.declared.identity.Identity.{Identity}
use Rattle.i3c_base.specs.declared.range.TheConstants.{SLOTS}
use Rattle.i3c_base.specs.Cutting.{CutList, counted_from, lost_by}
use Rattle.i3c_base.specs.Numbers.{IsBelow, IsInRange, number_of}
use Rattle.i3c_base.specs.Round.{AllHearersLost, IsBeatenByLost, IsHearer, IsWinner}
use Rattle.i3c_base.specs.State.{Device, State}
use Rattle.i3c_base.proofs.NumberLaws.{below_number, number_below}
use Rattle.i3c_base.proofs.LostLaws.{left_before, lost_counted, lost_later}
use Rattle.i3c_wires.specs.Contest.{AllLost, EachBit, LostIsBelow, holders, is_lost}
use Rattle.i3c_device.specs.declared.slot_set.SlotSet.{SlotSet}
use Rattle.i3c_device.specs.Sets.{has}
use Rattle.i3c_device.specs.Walks.{hears_as}
use Rattle.i3c_entdaa.specs.Hearers.{IsContenderKey, contenders_from}
use Rattle.i3c_entdaa.specs.Parts.{AreTakers, HearersAreRanged, IsContest}
use Rattle.i3c_entdaa.specs.Rounds.{IsTaken}
use Rattle.i3c_entdaa.proofs.HearersLaws.{as_whom, hears_so}
use Rattle.i3c_entdaa.proofs.Picks.{some_fails, some_pick, unpicked}

-- what a contest of these keys read
record Read (st : State) (cuts : CutList) (keys : List (ℕ × ℕ)) (bits : ℕ) : Type 0 where
  sound : All (IsContenderKey st.devices) keys
  complete : (s : ℕ) (d : Device) → IsHearer st s d → Contains keys (s, number_of d.identity)
  least : All (λ e. is_lost (counted_from 1 cuts) 64 e ≡ false → bits ≤ e.1) keys

-- the contender of a key
of_key : (st : State) (keys : List (ℕ × ℕ)) (e : ℕ × ℕ) → All (IsContenderKey st.devices) keys → Contains keys e → IsContenderKey st.devices e
of_key st keys e sound has = All-contains (IsContenderKey st.devices) keys e sound has

hearer_of : (st : State) (e : ℕ × ℕ) (k : IsContenderKey st.devices e) → IsHearer st e.0 k.device
hearer_of st e k = (k.there, k.hearing)

-- a hearer's identity is in range
in_range_of : (st : State) (cuts : CutList) (keys : List (ℕ × ℕ)) (bits s : ℕ) (d : Device) → Read st cuts keys bits → IsHearer st s d → IsInRange d.identity
in_range_of st cuts keys bits s d read hears =
    let k : IsContenderKey st.devices (s, number_of d.identity) = of_key st keys (s, number_of d.identity) read.sound (read.complete s d hears) in
    let same : k.device ≡ d = same_Some k.device d (sym k.there ∙ hears.0) in
    subst (λ (x : Device). IsInRange x.identity) same k.in_range

-- a device that isn't lost in a round isn't lost in its contest
in_contest : (cuts : CutList) (s n : ℕ) → lost_by cuts 73 s ≡ false → is_lost (counted_from 1 cuts) 64 (s, n) ≡ false
in_contest cuts s n left = lost_counted cuts 1 63 s ∙ left_before cuts 64 73 s (omega arith) left

-- and a device that is lost in the contest is lost in the round
in_round : (cuts : CutList) (e : ℕ × ℕ) → is_lost (counted_from 1 cuts) 64 e ≡ true → lost_by cuts 73 e.0 ≡ true
in_round cuts e h = lost_later cuts 64 73 e.0 (omega arith) (sym (lost_counted cuts 1 63 e.0) ∙ h)

-- no hearer that isn't lost has a smaller number than was read
least_of : (st : State) (cuts : CutList) (keys : List (ℕ × ℕ)) (bits s : ℕ) (d : Device) → Read st cuts keys bits → IsHearer st s d → lost_by cuts 73 s ≡ false → bits ≤ number_of d.identity
least_of st cuts keys bits s d read hears left =
    All-contains (λ (e : ℕ × ℕ). is_lost (counted_from 1 cuts) 64 e ≡ false → bits ≤ e.1) keys (s, number_of d.identity) read.least (read.complete s d hears) (in_contest cuts s (number_of d.identity) left)

-- a hearer that isn't lost, whose number was read, has the winning identity
winner_of : (st : State) (cuts : CutList) (keys : List (ℕ × ℕ)) (bits : ℕ) (e : ℕ × ℕ) → Read st cuts keys bits → Contains keys e → e.1 ≡ bits → lost_by cuts 73 e.0 ≡ false
    → (i : Identity) × IsInRange i × (number_of i ≡ bits) × IsWinner st (lost_by cuts 73) i
winner_of st cuts keys bits e read has is left =
    let k : IsContenderKey st.devices e = of_key st keys e read.sound has in
    let number : number_of k.device.identity ≡ bits = sym k.number ∙ is in (
      k.device.identity,
      k.in_range,
      number,
      (
        (e.0, k.device, hearer_of st e k, left, refl),
        λ j other below.
            let d : Device = other.1 in
            let in_range : IsInRange d.identity = in_range_of st cuts keys bits other.0 d read other.2 in
            let l : bits ≤ number_of d.identity = least_of st cuts keys bits other.0 d read other.2 other.3 in
            let m : number_of d.identity < number_of k.device.identity = below_number d.identity k.device.identity in_range k.in_range (subst (λ (x : Identity). IsBelow x k.device.identity) (sym other.4) below) in
            absurd (omega (arith, l, m, number)),
      ),
    )

-- a lost hearer whose number is below those of all that aren't lost beats them
beaten_by : (st : State) (cuts : CutList) (keys : List (ℕ × ℕ)) (bits : ℕ) (e : ℕ × ℕ) → Read st cuts keys bits → Contains keys e → lost_by cuts 73 e.0 ≡ true
    → ((s : ℕ) (d : Device) → IsHearer st s d → lost_by cuts 73 s ≡ false → e.1 < number_of d.identity) → IsBeatenByLost st (lost_by cuts 73)
beaten_by st cuts keys bits e read has gone below =
    let k : IsContenderKey st.devices e = of_key st keys e read.sound has in (
      e.0,
      k.device,
      hearer_of st e k,
      gone,
      λ i other.
          let d : Device = other.1 in
          let l : number_of k.device.identity < number_of d.identity = subst (λ n. n < number_of d.identity) k.number (below other.0 d other.2 other.3) in
          subst (λ (x : Identity). IsBelow k.device.identity x) other.4 (number_below k.device.identity d.identity k.in_range (in_range_of st cuts keys bits other.0 d read other.2) l),
    )

-- each winner of the contest is lost by the ACK
abbrev NoneLeft : CutList → List (ℕ × ℕ) → ℕ → Type 0
NoneLeft cuts keys bits = list_any (λ s. not (lost_by cuts 73 s)) (holders (counted_from 1 cuts) keys 64 bits) ≡ false

untaken : (st : State) (cuts : CutList) (keys : List (ℕ × ℕ)) (bits : ℕ) → Read st cuts keys bits → NoneLeft cuts keys bits → ¬ IsTaken st cuts bits
untaken st cuts keys bits read none taken =
    let s : ℕ = taken.1.0 in
    let d : Device = taken.1.1 in
    let left : lost_by cuts 73 s ≡ false = taken.1.3 in
    let is : number_of d.identity ≡ bits = ap number_of taken.1.4 ∙ taken.2 in
    let e : ℕ × ℕ = (s, number_of d.identity) in
    let wins : (e.1 == bits && not (is_lost (counted_from 1 cuts) 64 e)) ≡ true = and_from (e.1 == bits) (not (is_lost (counted_from 1 cuts) 64 e)) (eq-eqb e.1 bits is) (ap not (in_contest cuts s e.1 left)) in
    both_ways (not (lost_by cuts 73 s)) (unpicked (λ t. not (lost_by cuts 73 t)) (λ k. k.1 == bits && not (is_lost (counted_from 1 cuts) 64 k)) keys e none (read.complete s d taken.1.2) wins) (ap not left)

-- a winner of the contest that is lost by the ACK beats the others
beaten_winner : (st : State) (cuts : CutList) (keys : List (ℕ × ℕ)) (bits w : ℕ) (ws : List ℕ) → Read st cuts keys bits → NoneLeft cuts keys bits → holders (counted_from 1 cuts) keys 64 bits ≡ w ∷ ws
    → IsBeatenByLost st (lost_by cuts 73)
beaten_winner st cuts keys bits w ws read none is =
    let q : ℕ × ℕ → Bool = λ k. k.1 == bits && not (is_lost (counted_from 1 cuts) 64 k) in
    let e = some_pick (λ t. true) q keys (ap (list_any (λ t. true)) is) in
    let wins = and_parts (e.0.1 == bits) (not (is_lost (counted_from 1 cuts) 64 e.0)) e.2 in
    let number : e.0.1 ≡ bits = eqb-true e.0.1 bits wins.0 in
    let gone : lost_by cuts 73 e.0.0 ≡ true = not-false (lost_by cuts 73 e.0.0) (unpicked (λ t. not (lost_by cuts 73 t)) q keys e.0 none e.1 e.2) in
    beaten_by st cuts keys bits e.0 read e.1 gone (λ s d hears left.
    let l : bits ≤ number_of d.identity = least_of st cuts keys bits s d read hears left in
    elim (cases_eq (number_of d.identity) bits) [
      | inl same ↦ absurd (untaken st cuts keys bits read none (d.identity, (s, d, hears, left, refl), same))
      | inr other ↦ omega (arith, l, number)
    ])

-- nobody won the contest
beaten_early : (st : State) (cuts : CutList) (keys : List (ℕ × ℕ)) (bits : ℕ) → Read st cuts keys bits → AllLost (counted_from 1 cuts) keys 64 ⊎ LostIsBelow (counted_from 1 cuts) keys 64
    → AllHearersLost st (lost_by cuts 73) ⊎ IsBeatenByLost st (lost_by cuts 73)
beaten_early st cuts keys bits read (inl all) =
    inl (λ s d hears. in_round cuts (s, number_of d.identity) (All-contains (λ (e : ℕ × ℕ). is_lost (counted_from 1 cuts) 64 e ≡ true) keys (s, number_of d.identity) all (read.complete s d hears)))
beaten_early st cuts keys bits read (inr h) =
    inr (beaten_by st cuts keys bits h.0 read h.1 (in_round cuts h.0 h.2) (λ s d hears left.
    All-contains (λ (f : ℕ × ℕ). is_lost (counted_from 1 cuts) 64 f ≡ false → h.0.1 < f.1) keys (s, number_of d.identity) h.3 (read.complete s d hears) (in_contest cuts s (number_of d.identity) left)))

lost_of : (st : State) (cuts : CutList) (keys : List (ℕ × ℕ)) (bits : ℕ) (winners : List ℕ) → Read st cuts keys bits → NoneLeft cuts keys bits → winners ≡ holders (counted_from 1 cuts) keys 64 bits
    → (winners ≡ [] → AllLost (counted_from 1 cuts) keys 64 ⊎ LostIsBelow (counted_from 1 cuts) keys 64) → AllHearersLost st (lost_by cuts 73) ⊎ IsBeatenByLost st (lost_by cuts 73)
lost_of st cuts keys bits [] read none is why = beaten_early st cuts keys bits read (why refl)
lost_of st cuts keys bits (w ∷ ws) read none is why = inr (beaten_winner st cuts keys bits w ws read none (sym is))

-- the whole of a contest
pub contest_of : (st : State) (devices : List (Option Device)) (cuts counted : CutList) (keys : List (ℕ × ℕ)) (winners : List ℕ) (bits : ℕ) (acknowledged : Bool) → st.devices ≡ devices → counted ≡ counted_from 1 cuts
    → keys ≡ contenders_from 0 devices → All (IsContenderKey devices) keys → ((s : ℕ) (d : Device) → get_or devices s None ≡ Some d → d.hearing ≡ true → Contains keys (s, number_of d.identity))
    → list_all (λ (e : ℕ × ℕ). lost_by cuts 0 e.0) keys ≡ false
    → winners ≡ holders counted keys 64 bits → All (λ (e : ℕ × ℕ). is_lost counted 64 e ≡ false → bits ≤ e.1) keys → (winners ≡ [] → AllLost counted keys 64 ⊎ LostIsBelow counted keys 64)
    → EachBit counted keys 64 bits → bits < 2 ^ 64
    → acknowledged ≡ list_any (λ s. not (lost_by cuts 73 s)) winners → IsContest st cuts bits acknowledged
contest_of st devices cuts counted keys winners bits acknowledged same shift exact sound complete some_left won least why each small ack = record {
  heard =
      let e = some_fails (λ (k : ℕ × ℕ). lost_by cuts 0 k.0) keys some_left in
      let k : IsContenderKey st.devices e.0 = of_key st keys e.0 read.sound e.1 in
      (k.device.identity, (e.0.0, k.device, hearer_of st e.0 k, e.2, refl));
  contested = (small, subst (λ ks. EachBit (counted_from 1 cuts) ks 64 bits) (exact ∙ ap (contenders_from 0) (sym same)) (subst (λ c. EachBit c keys 64 bits) shift each));
  won = λ is.
      let e = some_pick (λ s. not (lost_by cuts 73 s)) (λ k. k.1 == bits && not (is_lost (counted_from 1 cuts) 64 k)) keys (ap (list_any (λ s. not (lost_by cuts 73 s))) (sym held) ∙ (sym ack ∙ is)) in
      let wins = and_parts (e.0.1 == bits) (not (is_lost (counted_from 1 cuts) 64 e.0)) e.2 in
      winner_of st cuts keys bits e.0 read e.1 (eqb-true e.0.1 bits wins.0) (not-true (lost_by cuts 73 e.0.0) e.3);
  lost = λ is. (untaken st cuts keys bits read (none is), lost_of st cuts keys bits winners read (none is) held (λ empty. subst (λ c. AllLost c keys 64 ⊎ LostIsBelow c keys 64) shift (why empty)));
}
  where
    read : Read st cuts keys bits
    read = record {
      sound = subst (λ ds. All (IsContenderKey ds) keys) (sym same) sound;
      complete = λ s d hears. complete s d (ap (λ ds. get_or ds s None) (sym same) ∙ hears.0) hears.1;
      least = subst (λ c. All (λ (e : ℕ × ℕ). is_lost c 64 e ≡ false → bits ≤ e.1) keys) shift least;
    }

    held : winners ≡ holders (counted_from 1 cuts) keys 64 bits
    held = won ∙ ap (λ c. holders c keys 64 bits) shift

    none : acknowledged ≡ false → NoneLeft cuts keys bits
    none is = ap (list_any (λ s. not (lost_by cuts 73 s))) (sym held) ∙ (sym ack ∙ is)

-- ---- the devices that acknowledge the address

same_truth : (a b : Bool) → (a ≡ true → b ≡ true) → (b ≡ true → a ≡ true) → a ≡ b
same_truth true b there back = sym (there refl)
same_truth false true there back = back refl
same_truth false false there back = refl

-- the winners, among the contenders that aren't lost, are the hearers whose number was read
pub takers_of : (devices : List (Option Device)) (cuts counted : CutList) (keys : List (ℕ × ℕ)) (winners : List ℕ) (bits : ℕ) (slots takers : SlotSet) → counted ≡ counted_from 1 cuts → All (IsContenderKey devices) keys
    → ((s : ℕ) (d : Device) → get_or devices s None ≡ Some d → d.hearing ≡ true → Contains keys (s, number_of d.identity)) → winners ≡ holders counted keys 64 bits
    → ((s : ℕ) → s < SLOTS → has slots s ≡ list_any (λ t. t == s) winners) → ((s : ℕ) → s < SLOTS → has takers s ≡ (has slots s && not (lost_by cuts 73 s))) → AreTakers cuts devices bits takers
takers_of devices cuts counted keys winners bits slots takers shift sound complete won of left s l =
    left s l ∙ elim (cases_Bool (lost_by cuts 73 s)) [
      | inl gone ↦ and_right (has slots s) (not (lost_by cuts 73 s)) (ap not gone) ∙ sym (and_right (hears_as bits (get_or devices s None)) (not (lost_by cuts 73 s)) (ap not gone))
      | inr stays ↦ ap (λ b. b && not (lost_by cuts 73 s)) (of s l ∙ (ap (list_any (λ t. t == s)) held ∙ same_truth _ _ (there stays) (back stays)))
    ]
  where
    picks : ℕ × ℕ → Bool
    picks k = k.1 == bits && not (is_lost (counted_from 1 cuts) 64 k)

    held : winners ≡ holders (counted_from 1 cuts) keys 64 bits
    held = won ∙ ap (λ c. holders c keys 64 bits) shift

    there : lost_by cuts 73 s ≡ false → list_any (λ t. t == s) (holders (counted_from 1 cuts) keys 64 bits) ≡ true → hears_as bits (get_or devices s None) ≡ true
    there stays any =
        let e = some_pick (λ t. t == s) picks keys any in
        let k : IsContenderKey devices e.0 = All-contains (IsContenderKey devices) keys e.0 sound e.1 in
        let at : e.0.0 ≡ s = eqb-true e.0.0 s e.3 in
        let number : e.0.1 ≡ bits = eqb-true e.0.1 bits (and_parts (e.0.1 == bits) (not (is_lost (counted_from 1 cuts) 64 e.0)) e.2).0 in
        hears_so bits (get_or devices s None) k.device (ap (λ n. get_or devices n None) (sym at) ∙ k.there) k.hearing (sym k.number ∙ number)

    back : lost_by cuts 73 s ≡ false → hears_as bits (get_or devices s None) ≡ true → list_any (λ t. t == s) (holders (counted_from 1 cuts) keys 64 bits) ≡ true
    back stays h =
        let w = as_whom bits (get_or devices s None) h in
        let e : ℕ × ℕ = (s, number_of w.0.identity) in
        let is : number_of w.0.identity ≡ bits = w.3 in
        let wins : picks e ≡ true = and_from (e.1 == bits) (not (is_lost (counted_from 1 cuts) 64 e)) (eq-eqb e.1 bits is) (ap not (in_contest cuts s e.1 stays)) in
        true_from_ne_false (list_any (λ t. t == s) (holders (counted_from 1 cuts) keys 64 bits)) (λ none. both_ways (s == s) (unpicked (λ t. t == s) picks keys e none (complete s w.0 w.1 w.2) wins) (eq-eqb s s refl))

-- whose identity is that of a contender is in range
pub ranged_of : (devices : List (Option Device)) (keys : List (ℕ × ℕ)) → All (IsContenderKey devices) keys
    → ((s : ℕ) (d : Device) → get_or devices s None ≡ Some d → d.hearing ≡ true → Contains keys (s, number_of d.identity)) → HearersAreRanged devices
ranged_of devices keys sound complete s d there hears =
    let k : IsContenderKey devices (s, number_of d.identity) = All-contains (IsContenderKey devices) keys (s, number_of d.identity) sound (complete s d there hears) in
    subst (λ (x : Device). IsInRange x.identity) (same_Some k.device d (sym k.there ∙ there)) k.in_range
