-- While the list is current, what was read of it is a copy of the table.
use Rattle.std.proofs.Common.{◌≡◌, ℕ, true, false, List, set, Option, option_map, ap, sym, ◌∙◌, subst}
use Rattle.std.proofs.lemmas.Bool.{both_ways}
use Rattle.i3c_base.specs.declared.answers.RoundReply.{RoundReply}
use Rattle.i3c_base.specs.Covered.{Table}
use Rattle.i3c_base.specs.Cutting.{CutList, lost_by}
use Rattle.i3c_base.specs.Frames.{handed}
use Rattle.i3c_base.specs.Round.{Rounds}
use Rattle.i3c_base.specs.Serve.{emptied, without_role}
use Rattle.i3c_base.specs.State.{Device, State, device_at, taken_over}
use Rattle.i3c_deftgts.specs.declared.entries.Entry.{Entry}
use Rattle.i3c_bus.specs.Parts.{state_of}
use Rattle.i3c_bus.specs.Whole.{IsCopyOf}
use Rattle.i3c_bus.proofs.Owning.{copied_still, keeps_emptied}

-- after a round the list is current only where nothing was assigned
pub current_round : (old : State) (cuts : CutList) (answer : RoundReply) (new : State) (list : List Entry) → Rounds old cuts answer new → ((last : ℕ) → lost_by cuts last old.active ≡ false)
    → (old.listed ≡ true → IsCopyOf old list) → new.listed ≡ true → IsCopyOf new list
current_round old cuts RoundReply.NoAddress new list h left copied = subst (λ (s : State). s.listed ≡ true → IsCopyOf s list) (sym h.1) copied
current_round old cuts RoundReply.Done new list h left copied =
    subst (λ (s : State). s.listed ≡ true → IsCopyOf s list) (sym h.2) (copied_still old (emptied (lost_by cuts 0) old) list (keeps_emptied (lost_by cuts 0) old (left 0)) copied)
current_round old cuts RoundReply.Nobody new list h left copied =
    subst (λ (s : State). s.listed ≡ true → IsCopyOf s list) (sym h.3) (copied_still old (emptied (lost_by cuts 73) old) list (keeps_emptied (lost_by cuts 73) old (left 73)) copied)
current_round old cuts (RoundReply.Assigned a i) new list h left copied = λ listed. absurd (both_ways _ (ap (λ (s : State). s.listed) h.3) listed)

-- the state whose table was taken over, as the role that was handed over leaves it
pub handed_by : (st : State) (before : Table) (slot own active : ℕ) (table : Table) (devices : List (Option Device)) → before.given ≡ st.given → before.declared ≡ st.declared
    → table ≡ record before { given = taken_over before.declared own before.given; listed = false }
    → devices ≡ set st.devices slot (option_map without_role (device_at st slot)) → active ≡ slot → state_of devices st.raised active table st.legacy st.in_session st.records ≡ handed slot own st
handed_by st before slot own active table devices given declared taken lost moved =
    (λ t. state_of (lost t) st.raised (moved t) (taken t) st.legacy st.in_session st.records)
    ∙ (λ t. record (handed slot own st) { given = taken_over (declared t) own (given t); declared = declared t })
