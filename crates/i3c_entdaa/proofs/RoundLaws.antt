-- A round's answers and what each leaves, where a table is that of the state.
use Rattle.std.specs.Prelude.{slice_index_or}
use Rattle.std.proofs.Common.{◌≡◌, ℕ, ◌==◌, ◌&&◌, not, if◌then◌else◌, arith, length, get_or, Bool, true, false, inl, inr, List, Option, None, Some, option_map, set, refl, ap, sym, subst, ◌∙◌}
use Rattle.std.proofs.Math.ListN.{get_or-map}
use Rattle.std.proofs.lemmas.Bool.{and_from, and_parts, both_ways, cases_Bool, cases_eq, eq-eqb, eqb-true, false_from_ne_true, ne_eqb}
use Rattle.std.proofs.lemmas.Option.{none-some}
use Rattle.i3c_base.specs.declared.answers.RoundReply.{RoundReply}
use Rattle.i3c_base.specs.declared.device.LegacyTarget.{LegacyTarget}
use Rattle.i3c_base.specs.declared.identity.Identity.{Identity}
use Rattle.i3c_base.specs.Covered.{IsTable, Table}
use Rattle.i3c_base.specs.Cutting.{CutList, Lost, lost_by}
use Rattle.i3c_base.specs.declared.range.TheConstants.{SLOTS}
use Rattle.i3c_base.specs.Numbers.{IsInRange, number_of, same_identity}
use Rattle.i3c_base.specs.Places.{changed}
use Rattle.i3c_base.specs.Round.{AllHearersLost, AnyHears, IsAddressFor, IsWinner, Rounds, assigned, assigned_at, winner}
use Rattle.i3c_base.specs.Serve.{emptied, left_at}
use Rattle.i3c_base.specs.State.{Device, State, IsPick, IsPickIn, IsPickable, IsPickableIn, IsKeptIn, IsUnknownIn, each_in, kept_entry_of}
use Rattle.i3c_base.proofs.Lookups.{length-changed}
use Rattle.i3c_base.proofs.NumberLaws.{same_number}
use Rattle.i3c_device.specs.declared.slot_set.SlotSet.{SlotSet}
use Rattle.i3c_device.specs.Sets.{has}
use Rattle.i3c_device.specs.Walks.{hears_as, taken_at}
use Rattle.i3c_device.proofs.EachLaws.{all_changed, changed_in}
use Rattle.i3c_entdaa.specs.Parts.{AreTakers, HearersAreRanged, IsAddressIn, IsContest}
use Rattle.i3c_entdaa.specs.Rounds.{IsAcknowledged, IsHeard, IsRead, IsSent}
use Rattle.i3c_entdaa.specs.declared.outcome.Round.{Round}

-- an address is no legacy target's exactly where it has no LVR
unmapped : {A B : Type 0} (f : A → B) (o : Option A) → option_map f o ≡ None → o ≡ None
unmapped f None e = refl
unmapped f (Some x) e = absurd (none-some (f x) (sym e))

lvr_at : (st : State) (table : Table) (a : ℕ) → IsTable st table → slice_index_or table.legacy a None ≡ option_map (λ (t : LegacyTarget). t.lvr) (slice_index_or st.legacy a None)
lvr_at st table a is = ap (λ ls. slice_index_or ls a None) is.1 ∙ get_or-map (option_map (λ (t : LegacyTarget). t.lvr)) st.legacy a None

pub pickable_here : (st : State) (table : Table) (a : ℕ) → IsTable st table → IsPickableIn table.given table.legacy table.declared a → IsPickable st a
pickable_here st table a is p =
    (p.0, ap (λ es. slice_index_or es a None) (sym is.0) ∙ p.1, unmapped (λ (t : LegacyTarget). t.lvr) (slice_index_or st.legacy a None) (sym (lvr_at st table a is) ∙ p.2), ap (λ ds. slice_index_or ds a None) (sym is.3) ∙ p.3)

pub pickable_there : (st : State) (table : Table) (a : ℕ) → IsTable st table → IsPickable st a → IsPickableIn table.given table.legacy table.declared a
pickable_there st table a is p = (p.0, ap (λ es. slice_index_or es a None) is.0 ∙ p.1, lvr_at st table a is ∙ ap (option_map (λ (t : LegacyTarget). t.lvr)) p.2, ap (λ ds. slice_index_or ds a None) is.3 ∙ p.3)

pick_here : (st : State) (table : Table) (a : ℕ) → IsTable st table → IsPickIn table.given table.legacy table.declared a → IsPick st a
pick_here st table a is p = (pickable_here st table a is p.0, λ b l q. p.1 b l (pickable_there st table b is q))

-- the address that the table has for an identity
address_here : (st : State) (table : Table) (i : Identity) (a : ℕ) → IsTable st table → IsAddressIn table i a → IsAddressFor st i a
address_here st table i a is (inl kept) = inl (subst (λ es. IsKeptIn es i a) is.0 kept)
address_here st table i a is (inr picked) = inr (subst (λ es. IsUnknownIn es i) is.0 picked.0, pick_here st table a is picked.1)

-- the devices without those that are lost
emptied_here : (st : State) (table : Table) (lost : Lost) (devices left : List (Option Device)) → st.devices ≡ devices → IsTable st table → left ≡ changed (left_at lost) devices
    → record st { devices = left; given = table.given; listed = table.listed } ≡ emptied lost st
emptied_here st table lost devices left same is e =
    let gone : left ≡ changed (left_at lost) st.devices = e ∙ ap (changed (left_at lost)) (sym same) in
    λ t. record st { devices = gone t; given = is.0 t; listed = is.2 t }

-- the same after the winners took an address
assigned_here : (st : State) (table after : Table) (lost : Lost) (i : Identity) (a : ℕ) (devices taken left : List (Option Device)) → st.devices ≡ devices → IsTable st table
    → taken ≡ each_in (assigned_at lost i a) devices → left ≡ changed (left_at lost) taken → after ≡ record table { given = set table.given a (Some (kept_entry_of table.declared i)); listed = false }
    → record st { devices = left; given = after.given; listed = after.listed } ≡ emptied lost (assigned lost i a st)
assigned_here st table after lost i a devices taken left same is e f put =
    let gone : left ≡ changed (left_at lost) (each_in (assigned_at lost i a) st.devices) = f ∙ ap (changed (left_at lost)) (e ∙ ap (each_in (assigned_at lost i a)) (sym same)) in
    let given : after.given ≡ set st.given a (Some (kept_entry_of st.declared i)) = ap (λ (t : Table). t.given) put ∙ (λ t. set (is.0 t) a (Some (kept_entry_of (is.3 t) i))) in
    let listed : after.listed ≡ false = ap (λ (t : Table). t.listed) put in
    λ t. record st { devices = gone t; given = given t; listed = listed t }

-- the hearers that acknowledge take the address: those with the identity that aren't lost
same_test : (i j : Identity) (bits : ℕ) → IsInRange i → IsInRange j → number_of j ≡ bits → (number_of i == bits) ≡ same_identity i j
same_test i j bits a b is = elim (cases_eq (number_of i) bits) [
  | inl e ↦ eq-eqb (number_of i) bits e ∙ sym (same_parts i j (same_number i j a b (e ∙ sym is)))
  | inr ne ↦ ne_eqb (number_of i) bits ne ∙ sym (false_from_ne_true (same_identity i j) (λ t. ne (equal_parts i j t ∙ is)))
]
  where
    same_parts : (i j : Identity) → i ≡ j → same_identity i j ≡ true
    same_parts i j e = and_from (i.pid == j.pid) ((i.bcr.0 == j.bcr.0) && (i.dcr.0 == j.dcr.0)) (eq-eqb i.pid j.pid (ap (λ (x : Identity). x.pid) e)) (and_from (i.bcr.0 == j.bcr.0) (i.dcr.0 == j.dcr.0) (eq-eqb i.bcr.0 j.bcr.0 (ap (λ (x : Identity). x.bcr.0) e)) (eq-eqb i.dcr.0 j.dcr.0 (ap (λ (x : Identity). x.dcr.0) e)))

    equal_parts : (i j : Identity) → same_identity i j ≡ true → number_of i ≡ number_of j
    equal_parts i j t =
        let p = and_parts (i.pid == j.pid) ((i.bcr.0 == j.bcr.0) && (i.dcr.0 == j.dcr.0)) t in
        let q = and_parts (i.bcr.0 == j.bcr.0) (i.dcr.0 == j.dcr.0) p.1 in
        let pid = eqb-true i.pid j.pid p.0 in
        let bcr = eqb-true i.bcr.0 j.bcr.0 q.0 in
        let dcr = eqb-true i.dcr.0 j.dcr.0 q.1 in
        omega (arith, pid, bcr, dcr)

taken_alike : (lost : Lost) (i : Identity) (bits a s : ℕ) (o : Option Device) (takers : SlotSet) → number_of i ≡ bits → IsInRange i → ((d : Device) → o ≡ Some d → d.hearing ≡ true → IsInRange d.identity)
    → has takers s ≡ (hears_as bits o && not (lost s)) → taken_at takers a s o ≡ option_map (assigned_at lost i a s) o
taken_alike lost i bits a s None takers is range ranged e = elim (has takers s) as (λ b. ◌≡◌ {A = Option Device} (if b then None else None) None) [ true ↦ refl | false ↦ refl ]
taken_alike lost i bits a s (Some d) takers is range ranged e =
    ap (λ b. if b then Some (winner a d) else Some d) e ∙ (elim (cases_Bool d.hearing) [
      | inl h ↦
          ap (λ b. if (d.hearing && b) && not (lost s) then Some (winner a d) else Some d) (same_test d.identity i bits (ranged d refl h) range is)
          ∙ go d.hearing (lost s) (same_identity d.identity i)
      | inr n ↦ ap (λ b. if (b && number_of d.identity == bits) && not (lost s) then Some (winner a d) else Some d) n ∙ sym (ap (λ b. Some (if b && (not (lost s) && same_identity d.identity i) then winner a d else d)) n)
    ])
  where
    go : (h x m : Bool) → (if (h && m) && not x then Some (winner a d) else Some d) ≡ Some (if h && (not x && m) then winner a d else d)
    go true true true = refl
    go true true false = refl
    go true false true = refl
    go true false false = refl
    go false x m = refl

pub taken_assigned : (cuts : CutList) (i : Identity) (bits a : ℕ) (devices : List (Option Device)) (takers : SlotSet) → length devices ≡ SLOTS → number_of i ≡ bits → IsInRange i → HearersAreRanged devices
    → AreTakers cuts devices bits takers → changed (taken_at takers a) devices ≡ each_in (assigned_at (lost_by cuts 73) i a) devices
taken_assigned cuts i bits a devices takers sized is range ranged are =
    all_changed (λ s place. option_map (assigned_at (lost_by cuts 73) i a s) place) devices (changed (taken_at takers a) devices) (length-changed (taken_at takers a) devices)
    (λ k l. changed_in (taken_at takers a) devices k l ∙ taken_alike (lost_by cuts 73) i bits a k (get_or devices k None) takers is range (ranged k) (are k (omega (arith, l, sized))))

-- somebody heard the header
any_hears : (st : State) (cuts : CutList) → IsHeard st cuts → AnyHears st
any_hears st cuts heard = (heard.1.0, heard.1.1, heard.1.2)

-- no address is left
pub no_address_round : (st : State) (table : Table) (cuts : CutList) (devices : List (Option Device)) → st.devices ≡ devices → IsTable st table → ((a : ℕ) → ¬ IsPickableIn table.given table.legacy table.declared a)
    → Rounds st cuts RoundReply.NoAddress (record st { devices = devices; given = table.given; listed = table.listed })
no_address_round st table cuts devices same is none = ((λ a p. none a (pickable_there st table a is p)), λ t. record st { devices = sym same t; given = is.0 t; listed = is.2 t })

-- where each hearer is lost, nobody acknowledges the header
pub heard_not : (st : State) (cuts : CutList) → AllHearersLost st (lost_by cuts 0) → ¬ IsHeard st cuts
heard_not st cuts lost heard = both_ways (lost_by cuts 0 heard.1.0) heard.1.3 (lost heard.1.0 heard.1.1 heard.1.2)

-- nobody acknowledged the header
pub done_round : (st : State) (table : Table) (cuts : CutList) (picked : ℕ) (devices left : List (Option Device)) → st.devices ≡ devices → IsTable st table → IsPickIn table.given table.legacy table.declared picked
    → AllHearersLost st (lost_by cuts 0) → left ≡ changed (left_at (lost_by cuts 0)) devices → Rounds st cuts RoundReply.Done (record st { devices = left; given = table.given; listed = table.listed })
done_round st table cuts picked devices left same is pick lost e =
    ((picked, pickable_here st table picked is pick.0), lost, emptied_here st table (lost_by cuts 0) devices left same is e)

-- nobody acknowledged the address
pub nobody_round : (st : State) (table : Table) (cuts : CutList) (picked bits : ℕ) (devices left : List (Option Device)) (acknowledged : Bool) → st.devices ≡ devices → IsTable st table → IsPickIn table.given table.legacy table.declared picked
    → IsContest st cuts bits acknowledged → acknowledged ≡ false → left ≡ changed (left_at (lost_by cuts 73)) devices
    → Rounds st cuts RoundReply.Nobody (record st { devices = left; given = table.given; listed = table.listed })
nobody_round st table cuts picked bits devices left acknowledged same is pick contest untook e =
    ((picked, pickable_here st table picked is pick.0), any_hears st cuts contest.heard, (contest.lost untook).1, emptied_here st table (lost_by cuts 73) devices left same is e)

-- what was sent after these bits
sent_here : (st : State) (table : Table) (i : Identity) (bits a : ℕ) → IsTable st table → number_of i ≡ bits → IsInRange i → IsAddressIn table i a → IsSent st bits a
sent_here st table i bits a is number in_range address = (i, in_range, number, address_here st table i a is address)

pub nobody_read : (st : State) (table : Table) (cuts : CutList) (i : Identity) (bits a : ℕ) (acknowledged : Bool) → IsTable st table → IsContest st cuts bits acknowledged → number_of i ≡ bits → IsInRange i
    → IsAddressIn table i a → IsRead st cuts (Round.Nobody bits a)
nobody_read st table cuts i bits a acknowledged is contest number in_range address = (contest.contested, sent_here st table i bits a is number in_range address)

pub nobody_acknowledged : (st : State) (cuts : CutList) (bits a : ℕ) (acknowledged : Bool) → IsContest st cuts bits acknowledged → acknowledged ≡ false → IsAcknowledged st cuts (Round.Nobody bits a)
nobody_acknowledged st cuts bits a acknowledged contest untook = (contest.heard, (contest.lost untook).0)

-- the identity of the bits that were read won
won_here : (st : State) (cuts : CutList) (i : Identity) (bits : ℕ) (acknowledged : Bool) → IsContest st cuts bits acknowledged → acknowledged ≡ true → number_of i ≡ bits → IsInRange i → IsWinner st (lost_by cuts 73) i
won_here st cuts i bits acknowledged contest took number in_range =
    let w = contest.won took in
    let same : w.0 ≡ i = same_number w.0 i w.1 in_range (w.2 ∙ sym number) in
    subst (λ (j : Identity). IsWinner st (lost_by cuts 73) j) same w.3

pub assigned_round : (st : State) (table after : Table) (cuts : CutList) (i : Identity) (picked bits a : ℕ) (devices taken left : List (Option Device)) (acknowledged : Bool) → st.devices ≡ devices → IsTable st table
    → IsPickIn table.given table.legacy table.declared picked → IsContest st cuts bits acknowledged → acknowledged ≡ true → number_of i ≡ bits → IsInRange i → IsAddressIn table i a
    → taken ≡ each_in (assigned_at (lost_by cuts 73) i a) devices → left ≡ changed (left_at (lost_by cuts 73)) taken → after ≡ record table { given = set table.given a (Some (kept_entry_of table.declared i)); listed = false }
    → Rounds st cuts (RoundReply.Assigned a i) (record st { devices = left; given = after.given; listed = after.listed })
assigned_round st table after cuts i picked bits a devices taken left acknowledged same is pick contest took number in_range address e f put = (
  (picked, pickable_here st table picked is pick.0),
  won_here st cuts i bits acknowledged contest took number in_range,
  address_here st table i a is address,
  assigned_here st table after (lost_by cuts 73) i a devices taken left same is e f put,
)

pub assigned_read : (st : State) (table : Table) (cuts : CutList) (i : Identity) (bits a : ℕ) (acknowledged : Bool) → IsTable st table → IsContest st cuts bits acknowledged → number_of i ≡ bits → IsInRange i
    → IsAddressIn table i a → IsRead st cuts (Round.Assigned bits a i)
assigned_read st table cuts i bits a acknowledged is contest number in_range address = (contest.contested, sent_here st table i bits a is number in_range address, number)

pub assigned_acknowledged : (st : State) (cuts : CutList) (i : Identity) (bits a : ℕ) (acknowledged : Bool) → IsContest st cuts bits acknowledged → acknowledged ≡ true → IsAcknowledged st cuts (Round.Assigned bits a i)
assigned_acknowledged st cuts i bits a acknowledged contest took = let w = contest.won took in (contest.heard, (w.0, w.3.0, w.2))
