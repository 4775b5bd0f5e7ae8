-- The active controller stays present.
use Rattle.std.proofs.lemmas.Bool.{cond-false, eqb-false, ne_eqb}
use Rattle.std.proofs.Common.{◌≡◌, ℕ, suc, ◌++◌, length, false, true, ◌∷◌, [], List, Option, Some, None, option_map, ◌==◌, ◌<◌, arith, if◌then◌else◌, inl, inr, sym, ap, ◌∙◌, subst}
use Rattle.i3c_base.specs.declared.answers.Answer.{Answer}
use Rattle.i3c_base.specs.declared.answers.RoundReply.{RoundReply}
use Rattle.i3c_base.specs.declared.device.Setup.{Setup}
use Rattle.i3c_base.specs.declared.identity.Identity.{Identity}
use Rattle.i3c_base.specs.declared.range.TheConstants.{SLOTS}
use Rattle.i3c_base.specs.declared.requests.Fixed.{Fixed}
use Rattle.i3c_base.specs.declared.requests.Request.{Request}
use Rattle.i3c_base.specs.declared.requests.Served.{Served}
use Rattle.i3c_base.specs.declared.requests.Served.TheVariants.{Quiet, Recorded, Refused, Torn, Joining, WantsRole}
use Rattle.i3c_base.specs.Cutting.{CutList, Lost, lost_by}
use Rattle.i3c_base.specs.Numbers.{KindSet}
use Rattle.i3c_base.specs.State.{Board, Device, State, IsPresent, IsStart, attached, change, device_at, each, no_devices, raised_at, unaddressed, fixed_of}
use Rattle.i3c_base.specs.Serve.{Frame, Serves, drives, each_driver, emptied, without_front, without_join, without_role}
use Rattle.i3c_base.specs.declared.datum.Direction.{Direction}
use Rattle.i3c_base.specs.Frames.{Rekinds, handed, list, overwritten, reaches, rekinded, reset, unaddressed_device, written, readdressed, takes_static, with_new, with_static, limited, with_length}
use Rattle.i3c_base.specs.Round.{Rounds, assigned, hears, opened, unhearing, winner, wins}
use Rattle.i3c_base.proofs.Lookups.{change_at, drop_off_at, each_at, emptied_at, length-no_devices, set_at, set_in}
use Rattle.i3c_step.specs.declared.events.Event.{Event}
use Rattle.i3c_step.specs.declared.events.Event.TheVariants.{Attach, DropOff, Raise, AskJoin, AskRole, Serve, Enec, Disec, Reset, SendList, ReadFrom, WriteTo, SetStatic, SetNew, Get, SetLength, OpenDaa, Round, EndDaa, HandOver}
use Rattle.i3c_step.specs.declared.replies.Reply.{Reply}
use Rattle.i3c_step.specs.Runs.{IsLegalRun}
use Rattle.i3c_step.proofs.Handing.{declined, granted}
use Rattle.i3c_step.proofs.Kept.{run_keeps}
use Rattle.i3c_step.specs.Step.{Acts, Step, checks, first_refusal, hand_checks, read_checks, target_checks, write_checks, static_checks, new_checks}
use Rattle.i3c_step.proofs.Steps.{active_left, no_test, step_cases}
use Rattle.i3c_step.proofs.Transfers.{gets_keep, lengths_keep, limited_by, reads_keep, writes_keep, news_keep, statics_keep}

-- the active slot is occupied
abbrev pub HasActive : State → Type 0
HasActive st = IsPresent st st.active

-- so it is, and the frame doesn't lose it
pub record IsSafe (lost : Lost) (st : State) : Type 0 where
  pub present : HasActive st
  pub left : lost st.active ≡ false

-- a present device stays, whatever changes in it
pub Present-each : (f : ℕ → Device → Device) (st : State) (s : ℕ) → IsPresent st s → IsPresent (each f st) s
Present-each f st s h = (f s h.0, each_at f st s ∙ ap (option_map (f s)) h.1)

pub Present-change : (t : ℕ) (f : Device → Device) (st : State) (s : ℕ) → IsPresent st s → IsPresent (change t f st) s
Present-change t f st s h = (_, change_at t f st s ∙ ap (option_map (λ d. if s == t then f d else d)) h.1)

Present-driver : (r : Request) (f : Device → Device) (st : State) (s : ℕ) → IsPresent st s → IsPresent (each_driver r f st) s
Present-driver r f st = Present-each (λ s d. if drives st r s then f d else d) st

Present-rekinded : (to : Option ℕ) (f : KindSet → KindSet) (st : State) (s : ℕ) → IsPresent st s → IsPresent (rekinded to f st) s
Present-rekinded to f st = Present-each (λ s d. if reaches st to s d then record d { kinds = f d.kinds } else d) st

Present-assigned : (lost : Lost) (i : Identity) (a : ℕ) (st : State) (s : ℕ) → IsPresent st s → IsPresent (assigned lost i a st) s
Present-assigned lost i a st = Present-each (λ s d. if wins lost i s d then winner a d else d) st

Safe-same : (lost : Lost) (mid done : State) → done ≡ mid → IsSafe lost mid → IsSafe lost done
Safe-same lost mid done e h = subst (IsSafe lost) (sym e) h

Safe-driver : (lost : Lost) (r : Request) (f : Device → Device) (st : State) → IsSafe lost st → IsSafe lost (each_driver r f st)
Safe-driver lost r f st h = record { present = Present-driver r f st _ h.present; left = h.left }

-- serving keeps each device
pub Safe-serves : (st : State) (policy : Fixed) (lost : Lost) (served : Served) (new : State) (gone : Lost) → Serves st policy lost served new → IsSafe gone st → IsSafe gone new
Safe-serves st policy lost Quiet new gone h p = Safe-same gone st new h.1 p
Safe-serves st policy lost Refused new gone h p = Safe-same gone st new h.1 p
Safe-serves st policy lost Joining new gone h p = Safe-same gone _ new h.2 (Safe-driver gone Request.Join without_join st p)
Safe-serves st policy lost (WantsRole a) new gone h p = Safe-same gone _ new h.2 (Safe-driver gone (Request.Role a) without_role st p)
Safe-serves st policy lost (Recorded place) new gone h p = subst (IsSafe gone) (sym h.left)
    (let q = Safe-driver gone (Request.Interrupt h.at) without_front st p in record { present = q.present; left = q.left })
Safe-serves st policy lost Torn new gone h p = Safe-same gone _ new h.left (Safe-driver gone (Request.Interrupt h.at) without_front st p)

pub Active-emptied : (lost : Lost) (st : State) → IsSafe lost st → HasActive (emptied lost st)
Active-emptied lost st h = (h.present.0, emptied_at lost st st.active ∙ (cond-false (lost st.active) None (device_at st st.active) h.left ∙ h.present.1))

-- a frame that doesn't cut the active controller keeps it present
Active-frame : (old : State) (policy : Fixed) (cuts : CutList) (served : Served) (rest : ℕ) (Own : Lost → State → State → Type 0) (new : State)
    → ((lost : Lost) (mid done : State) → Own lost mid done → IsSafe lost mid → IsSafe lost done)
    → Frame old policy cuts served rest Own new → ((last : ℕ) → lost_by cuts last old.active ≡ false) → HasActive old → HasActive new
Active-frame old policy cuts served rest Own new own frame uncut h =
    let mid : IsSafe _ frame.mid = Safe-serves old policy _ served frame.mid _ frame.serves (record { present = h; left = uncut _ }) in
    subst HasActive (sym frame.left) (Active-emptied _ frame.done (own _ frame.mid frame.done frame.own mid))

Safe-rekinded : (to : Option ℕ) (f : KindSet → KindSet) (lost : Lost) (st : State) → IsSafe lost st → IsSafe lost (rekinded to f st)
Safe-rekinded to f lost st h = record { present = Present-rekinded to f st _ h.present; left = h.left }

pub Safe-rekinds : (to : Option ℕ) (f : KindSet → KindSet) (answer : Answer) (lost : Lost) (mid done : State) (gone : Lost) → Rekinds to f answer lost mid done → IsSafe gone mid → IsSafe gone done
Safe-rekinds None f answer lost mid done gone h p = Safe-same gone _ done h.1 (Safe-rekinded None f gone mid p)
Safe-rekinds (Some a) f answer lost mid done gone h p = elim h [
  | inl e ↦ Safe-same gone _ done e.2 (Safe-rekinded (Some a) f gone mid p)
  | inr e ↦ Safe-same gone mid done e.2 p
]

-- a write keeps the active controller present
pub Present-written : (a : ℕ) (bytes : List ℕ) (st : State) (s : ℕ) → IsPresent st s → IsPresent (written a bytes st) s
Present-written a bytes st s h = Present-each (λ t d. if reaches st (Some a) t d then record d { registers = overwritten bytes d.registers } else d) st s h

Safe-written : (a : ℕ) (bytes : List ℕ) (lost : Lost) (st : State) → IsSafe lost st → IsSafe lost (written a bytes st)
Safe-written a bytes lost st h = record { present = Present-written a bytes st _ h.present; left = h.left }

pub Present-with_length : (to : Option ℕ) (way : Direction) (most : ℕ) (st : State) (s : ℕ) → IsPresent st s → IsPresent (with_length to way most st) s
Present-with_length to way most st s h = Present-each (λ t d. if reaches st to t d then limited way most d else d) st s h

Safe-with_length : (to : Option ℕ) (way : Direction) (most : ℕ) (lost : Lost) (st : State) → IsSafe lost st → IsSafe lost (with_length to way most st)
Safe-with_length to way most lost st h = record { present = Present-with_length to way most st _ h.present; left = h.left }

-- a new address by a static one keeps the active controller present
pub Present-with_static : (f : ℕ) (i : Identity) (a : ℕ) (st : State) (s : ℕ) → IsPresent st s → IsPresent (with_static f i a st) s
Present-with_static f i a st s h = Present-each (λ t d. if takes_static st.active f t d then winner a d else d) st s h

Safe-with_static : (f : ℕ) (i : Identity) (a : ℕ) (lost : Lost) (st : State) → IsSafe lost st → IsSafe lost (with_static f i a st)
Safe-with_static f i a lost st h = record { present = Present-with_static f i a st _ h.present; left = h.left }

pub Present-with_new : (old a : ℕ) (st : State) (s : ℕ) → IsPresent st s → IsPresent (with_new old a st) s
Present-with_new old a st s h = Present-each (λ t d. if reaches st (Some old) t d then readdressed a d else d) st s h

Safe-with_new : (old a : ℕ) (lost : Lost) (st : State) → IsSafe lost st → IsSafe lost (with_new old a st)
Safe-with_new old a lost st h = record { present = Present-with_new old a st _ h.present; left = h.left }

Safe-opened : (lost : Lost) (mid done : State) → done ≡ opened mid → IsSafe lost mid → IsSafe lost done
Safe-opened lost mid done e h = Safe-same lost (opened mid) done e (record { present = Present-each (λ s d. hears d) mid _ h.present; left = h.left })

Safe-reset : (lost : Lost) (mid done : State) → done ≡ reset mid → IsSafe lost mid → IsSafe lost done
Safe-reset lost mid done e h =
    subst (IsSafe lost) (sym e) (record { present = Present-each (λ s d. if s == mid.active then without_role d else unaddressed_device d) mid _ h.present; left = h.left })

Safe-list : (lost : Lost) (mid done : State) → done ≡ list mid → IsSafe lost mid → IsSafe lost done
Safe-list lost mid done e h = subst (IsSafe lost) (sym e) (record { present = h.present; left = h.left })

pub Active-round : (old : State) (cuts : CutList) (answer : RoundReply) (new : State) → Rounds old cuts answer new
    → ((last : ℕ) → lost_by cuts last old.active ≡ false) → HasActive old → HasActive new
Active-round old cuts RoundReply.NoAddress new h uncut p = subst HasActive (sym h.1) p
Active-round old cuts RoundReply.Done new h uncut p = subst HasActive (sym h.2) (Active-emptied (lost_by cuts 0) old (record { present = p; left = uncut 0 }))
Active-round old cuts RoundReply.Nobody new h uncut p = subst HasActive (sym h.3) (Active-emptied (lost_by cuts 73) old (record { present = p; left = uncut 73 }))
Active-round old cuts (RoundReply.Assigned a i) new h uncut p = subst HasActive (sym h.3)
    (Active-emptied (lost_by cuts 73) (assigned (lost_by cuts 73) i a old) (record { present = Present-assigned (lost_by cuts 73) i a old _ p; left = uncut 73 }))

Active-acts : (old : State) (event : Event) (reply : Reply) (new : State) → first_refusal (checks old event) ≡ None → Acts old event reply new → HasActive old → HasActive new
Active-acts old (Attach s setup) reply new free h p = subst HasActive (sym h.1)
    (elim (set_at old.devices s old.active (Some (attached (fixed_of old.declared setup.identity) setup)) None) [ inl e ↦ (attached (fixed_of old.declared setup.identity) setup, e.1) | inr e ↦ (p.0, e ∙ p.1) ])
Active-acts old (DropOff s) reply new free h p =
    let other : (s == old.active) ≡ false = no_test 1 (checks old (DropOff s)) free in
    subst HasActive (sym h.1) (p.0, drop_off_at s old old.active ∙ (cond-false (old.active == s) None (device_at old old.active) (ne_eqb old.active s (λ e. eqb-false s old.active other (sym e))) ∙ p.1))
Active-acts old (AskJoin s) reply new free h p = subst HasActive (sym h.1) (Present-change s (λ d. record d { join_wish = true }) old _ p)
Active-acts old (Raise s byte) reply new free h p = subst HasActive (sym h.1)
    (Present-change s (λ d. record d { waiting = d.waiting ++ record { number = suc (raised_at old s); byte = byte } ∷ [] }) old _ p)
Active-acts old (Serve policy cuts) reply new free h p = Active-frame old policy cuts _ _ _ new Safe-same h.2 (λ last. active_left old cuts _ _ _ [] last free) p
Active-acts old (Enec to kinds policy cuts) reply new free h p =
    Active-frame old policy cuts _ _ _ new (λ lost mid done. Safe-rekinds to _ _ lost mid done lost) h.2 (λ last. active_left old cuts _ _ _ (target_checks old to) last free) p
Active-acts old (Disec to kinds policy cuts) reply new free h p =
    Active-frame old policy cuts _ _ _ new (λ lost mid done. Safe-rekinds to _ _ lost mid done lost) h.2 (λ last. active_left old cuts _ _ _ (target_checks old to) last free) p
Active-acts old (AskRole s) reply new free h p = subst HasActive (sym h.1) (Present-change s (λ d. record d { role_wish = true }) old _ p)
Active-acts old (Reset policy cuts) reply new free h p = Active-frame old policy cuts _ _ _ new Safe-reset h.2 (λ last. active_left old cuts _ _ _ [] last free) p
Active-acts old (SendList policy cuts) reply new free h p = Active-frame old policy cuts _ _ _ new Safe-list h.2 (λ last. active_left old cuts _ _ _ [] last free) p
Active-acts old (ReadFrom a policy cuts) reply new free h p =
    Active-frame old policy cuts _ _ _ new (λ lost. reads_keep (λ mid done. IsSafe lost mid → IsSafe lost done) (λ st safe. safe) a h.0.answer lost) h.2
    (λ last. active_left old cuts _ _ _ (read_checks old a) last free) p
Active-acts old (WriteTo a bytes policy cuts) reply new free h p =
    Active-frame old policy cuts _ _ _ new
    (λ lost. writes_keep (λ mid done. IsSafe lost mid → IsSafe lost done) a bytes.items (λ st safe. safe) (Safe-written a bytes.items lost) h.0.answer lost) h.2
    (λ last. active_left old cuts _ _ _ (write_checks old a bytes.items) last free) p
Active-acts old (SetStatic f to policy cuts) reply new free h p =
    Active-frame old policy cuts _ _ _ new
    (λ lost. statics_keep (λ mid done. IsSafe lost mid → IsSafe lost done) f to (λ st safe. safe) (λ i st. Safe-with_static f i to lost st) h.0.answer lost) h.2
    (λ last. active_left old cuts _ _ _ (static_checks old f to) last free) p
Active-acts old (SetNew a to policy cuts) reply new free h p =
    Active-frame old policy cuts _ _ _ new
    (λ lost. news_keep (λ mid done. IsSafe lost mid → IsSafe lost done) a to (λ st safe. safe) (Safe-with_new a to lost) h.0.answer lost) h.2
    (λ last. active_left old cuts _ _ _ (new_checks old a to) last free) p
Active-acts old (Get what a policy cuts) reply new free h p =
    Active-frame old policy cuts _ _ _ new (λ lost. gets_keep (λ mid done. IsSafe lost mid → IsSafe lost done) (λ st safe. safe) what a h.0.answer lost) h.2
    (λ last. active_left old cuts _ _ _ (target_checks old (Some a)) last free) p
Active-acts old (SetLength way most to policy cuts) reply new free h p =
    Active-frame old policy cuts _ _ _ new
    (λ lost. lengths_keep (λ mid done. IsSafe lost mid → IsSafe lost done) to way most (λ st safe. safe) (Safe-with_length to way most lost) h.0.answer lost) h.2
    (λ last. active_left old cuts _ _ _ (target_checks old to) last free) p
Active-acts old (OpenDaa cuts) reply new free h p = Active-frame old _ cuts _ _ _ new Safe-opened h.2 (λ last. active_left old cuts _ _ _ [] last free) p
Active-acts old (Round cuts) reply new free h p = Active-round old cuts h.0 new h.2 (λ last. active_left old cuts _ _ _ [] last free) p
Active-acts old (HandOver to cuts) reply new free h p = elim h [
  | inl g ↦
      let x = granted old to cuts reply new g in
      subst HasActive (sym x.after) (Active-emptied (lost_by cuts x.last) (handed x.slot to old)
      (record { present = Present-change x.slot without_role old x.slot (x.willing.0, x.willing.1.0); left = x.left }))
  | inr g ↦
      let x = declined old to cuts reply new g in
      subst HasActive (sym x.1) (Active-emptied (lost_by cuts x.0) old (record { present = p; left = active_left old cuts _ _ _ (hand_checks old to) x.0 free }))
]
Active-acts old EndDaa reply new free h p = subst HasActive (sym h.1) (Present-each (λ s d. unhearing d) old _ p)

-- each step keeps it
pub Active-step : (old : State) (event : Event) (reply : Reply) (new : State) → Step old event reply new → HasActive old → HasActive new
Active-step old event reply new h p = step_cases old event reply new h (λ idle e. subst HasActive (sym e) p) (λ free acts. Active-acts old event reply new free acts p)

-- a start's active controller is the main one, in slot 0
pub Active-start : (main : Setup) (board : Board) (start : State) → IsStart main board start → HasActive start
Active-start main board start h = subst HasActive (sym h.2)
    (Present-change 0 (λ (d : Device). record d { address = Some h.0 }) (unaddressed main board) 0 (attached (fixed_of board.declared main.identity) main, set_in no_devices 0 0 (Some (attached (fixed_of board.declared main.identity) main)) None low))
  where
    low : 0 < length no_devices
    low = let n : length no_devices ≡ SLOTS = length-no_devices in omega arith

-- so a device is in the active slot of each state that a legal run leads to
pub active_along : (main : Setup) (board : Board) (events : List Event) (replies : List Reply) (new : State) → IsLegalRun main board events replies new → HasActive new
active_along main board events replies new run = run_keeps HasActive Active-step run.0 events replies new run.2 (Active-start main board run.0 run.1)
