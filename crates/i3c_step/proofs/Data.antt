-- What is told of an identity is what the table says of it.
use Rattle.std.proofs.Common.{◌≡◌, ℕ, ◌<◌, ◌∷◌, [], List, All, false, Option, Some, None, option_map, length, get_or, ap, refl, subst, sym, ◌∙◌}
use Rattle.std.proofs.lemmas.Grind.{same_number_lists}
use Rattle.std.proofs.lemmas.Option.{none-some, same_Some}
use Rattle.std.specs.Int.{bit_at}
use Rattle.i3c_base.specs.declared.answers.Answer.{Answer}
use Rattle.i3c_base.specs.declared.datum.Datum.{Datum}
use Rattle.i3c_base.specs.declared.device.Setup.{Setup}
use Rattle.i3c_base.specs.declared.identity.Bcr.{Bcr}
use Rattle.i3c_base.specs.declared.identity.Dcr.{Dcr}
use Rattle.i3c_base.specs.declared.identity.Identity.{Identity}
use Rattle.i3c_base.specs.declared.requests.Fixed.{Fixed}
use Rattle.i3c_base.specs.Cutting.{CutList, IsUncut, Lost}
use Rattle.i3c_base.specs.Frames.{DrivesTold, Gets, IsToldAt, pid_bytes, told_bytes, told_length}
use Rattle.i3c_base.specs.State.{Board, Device, Entry, IsTargetAt, State, entry_at, entry_in}
use Rattle.i3c_step.specs.declared.events.Event.{Event}
use Rattle.i3c_step.specs.declared.replies.Framed.{Framed}
use Rattle.i3c_step.specs.declared.replies.Reply.{Reply}
use Rattle.i3c_step.specs.Laws.{said_bytes}
use Rattle.i3c_step.specs.Runs.{IsLegalRun}
use Rattle.i3c_step.specs.Sound.{Addresses, IsFor}
use Rattle.i3c_step.specs.Step.{Step}
use Rattle.i3c_step.proofs.Addresses.{Addresses-none_new, Addresses-start, Addresses-step, NoneNew-serves, settled_served}
use Rattle.i3c_step.proofs.Kept.{run_keeps}
use Rattle.i3c_step.proofs.Lost.{unlost}
use Rattle.i3c_step.proofs.Steps.{IsIdle, refused, short, step_cases}
use Rattle.i3c_step.proofs.Uniqueness.{and_unique}

-- a device that an entry is for tells what the entry says
tells : (what : Datum) (declared : List (Option Identity)) (d : Device) (e : Entry) (said : List ℕ) → IsFor declared d.identity e → said_bytes what e ≡ Some said → told_bytes what d ≡ said
tells Datum.Pid declared d e said for says = go e.kept refl says
  where
    go : (o : Option Identity) → e.kept ≡ o → option_map (λ (i : Identity). pid_bytes i.pid) o ≡ Some said → pid_bytes d.identity.pid ≡ said
    go None k s = absurd (none-some said s)
    go (Some i) k s = ap (λ (j : Identity). pid_bytes j.pid) (sym (for.kept i k)) ∙ same_Some (pid_bytes i.pid) said s
tells Datum.Bcr declared d e said for says = ap (λ (bcr : Bcr). bcr.0 ∷ []) (sym for.bcr) ∙ same_Some (e.bcr.0 ∷ []) said says
tells Datum.Dcr declared d e said for says = ap (λ (dcr : Dcr). dcr.0 ∷ []) (sym for.dcr) ∙ same_Some (e.dcr.0 ∷ []) said says
tells Datum.Status declared d e said for says = absurd (none-some said says)
tells Datum.WriteLength declared d e said for says = absurd (none-some said says)
tells Datum.ReadLength declared d e said for says = absurd (none-some said says)
tells Datum.Speed declared d e said for says = absurd (none-some said says)
tells Datum.Capabilities declared d e said for says = absurd (none-some said says)

-- as many bytes as are read
long : (what : Datum) (e : Entry) (said : List ℕ) → said_bytes what e ≡ Some said → length said ≡ told_length what (Some e)
long Datum.Pid e said says = go e.kept says
  where
    go : (o : Option Identity) → option_map (λ (i : Identity). pid_bytes i.pid) o ≡ Some said → length said ≡ 6
    go None s = absurd (none-some said s)
    go (Some i) s = ap length (sym (same_Some (pid_bytes i.pid) said s))
long Datum.Bcr e said says = ap length (sym (same_Some (e.bcr.0 ∷ []) said says))
long Datum.Dcr e said says = ap length (sym (same_Some (e.dcr.0 ∷ []) said says))
long Datum.Status e said says = absurd (none-some said says)
long Datum.WriteLength e said says = absurd (none-some said says)
long Datum.ReadLength e said says = absurd (none-some said says)
long Datum.Speed e said says = absurd (none-some said says)
long Datum.Capabilities e said says = absurd (none-some said says)

-- each device at the address tells this
all_tell : (st : State) (what : Datum) (a : ℕ) (e : Entry) (said : List ℕ) → Addresses st → entry_at st a ≡ Some e → said_bytes what e ≡ Some said
    → (s : ℕ) (d : Device) → IsTargetAt st a s d → told_bytes what d ≡ said
all_tell st what a e said inv there says s d target =
    let used = inv.used s a d target.0 target.1 in
    let same : used.0 ≡ e = same_Some used.0 e (sym used.1 ∙ there) in
    tells what st.declared d e said (subst (IsFor st.declared d.identity) same used.2) says

-- so the lines give it
told_said : (st : State) (what : Datum) (a : ℕ) (e : Entry) (lost : Lost) (bytes said : List ℕ) → ((s : ℕ) → lost s ≡ false) → Addresses st → entry_at st a ≡ Some e → said_bytes what e ≡ Some said
    → All (λ byte. byte < 256) said → IsToldAt st what a lost bytes → bytes ≡ said
told_said st what a e lost bytes said nobody inv there says small h =
    let count : length bytes ≡ length said = h.1 ∙ (ap (told_length what) there ∙ sym (long what e said says)) in
    same_number_lists bytes said count (λ k l.
    let low : k < length said = subst (λ n. k < n) count l in
    and_unique (get_or bytes k 0) (get_or said k 0) (DrivesTold st what a k) (h.3 (λ s d t. nobody s) k l) (
      small k 0 low,
      λ bit m. (
        λ one s v x. ap (λ (byte : ℕ). bit_at byte bit) (x.2 ∙ ap (λ told. get_or told k 0) (all_tell st what a e said inv there says s x.0 x.1)) ∙ one,
        λ all. ap (λ told. bit_at (get_or told k 0) bit) (sym (all_tell st what a e said inv there says h.0.0 h.0.1 h.0.2)) ∙ all h.0.0 (get_or (told_bytes what h.0.1) k 0) (h.0.1, h.0.2, refl),
      ),
    ))

-- the own part of a frame that is answered with bytes
read_told : (what : Datum) (a : ℕ) (answer : Answer) (bytes : List ℕ) (lost : Lost) (mid done : State) → answer ≡ Answer.Bytes bytes → Gets what a answer lost mid done → IsToldAt mid what a lost bytes
read_told what a answer bytes lost mid done e h = (subst (λ x. Gets what a x lost mid done) e h).0

-- the frame of a reply, if it is one
abbrev framed_in : Framed → Reply → Framed
framed_in other (Reply.Framed framed) = framed
framed_in other _ = other

told_step : (old : State) (what : Datum) (a : ℕ) (policy : Fixed) (cuts : CutList) (framed : Framed) (new : State) (bytes said : List ℕ) (e : Entry) → Addresses old → IsUncut cuts
    → Step old (Event.Get what a policy cuts) (Reply.Framed framed) new → framed.answer ≡ Answer.Bytes bytes → entry_at old a ≡ Some e → said_bytes what e ≡ Some said → All (λ byte. byte < 256) said → bytes ≡ said
told_step old what a policy cuts framed new bytes said e inv uncut step answer there says small =
    step_cases old (Event.Get what a policy cuts) (Reply.Framed framed) new step (λ idle same. absurd (busy idle)) (λ free acts.
    let frame = acts.2 in
    let same : framed ≡ acts.0 = ap (framed_in framed) acts.1 in
    let mid : Addresses frame.mid = Addresses-none_new old frame.mid (NoneNew-serves old policy _ acts.0.served frame.mid frame.serves) inv in
    let settled = settled_served old policy _ acts.0.served frame.mid frame.serves in
    told_said frame.mid what a e _ bytes said (λ s. unlost cuts uncut _ s) mid (ap (λ (given : List (Option Entry)). entry_in given a) settled.given ∙ there) says small
    (read_told what a acts.0.answer bytes _ frame.mid frame.done (ap (λ (f : Framed). f.answer) (sym same) ∙ answer) frame.own))
  where
    busy : IsIdle (Reply.Framed framed) → ⊥
    busy (refused why e) = cc
    busy (short e) = cc

pub data_along : (main : Setup) (board : Board) (events : List Event) (replies : List Reply) (st : State) → IsLegalRun main board events replies st
    → (what : Datum) (a : ℕ) (policy : Fixed) (cuts : CutList) (framed : Framed) (new : State) (bytes said : List ℕ) (e : Entry) → IsUncut cuts
    → Step st (Event.Get what a policy cuts) (Reply.Framed framed) new → framed.answer ≡ Answer.Bytes bytes → entry_at st a ≡ Some e → said_bytes what e ≡ Some said → All (λ byte. byte < 256) said → bytes ≡ said
data_along main board events replies st run what a policy cuts framed new bytes said e uncut step answer there says small =
    let inv : Addresses st = run_keeps Addresses Addresses-step run.0 events replies st run.2 (Addresses-start main board run.0 run.1) in
    told_step st what a policy cuts framed new bytes said e inv uncut step answer there says small
