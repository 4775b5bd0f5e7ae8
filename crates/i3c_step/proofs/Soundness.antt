-- Every bus is sound: waiting interrupts fit their devices, and each step keeps that.
use Rattle.std.proofs.lemmas.Bool.{eq-eqb, eqb-true, not-false}
use Rattle.std.proofs.lemmas.List.Elements.{All-append, All-cons, All-drop, All-nil}
use Rattle.std.proofs.Common.{◌≡◌, ℕ, suc, Bool, true, false, not, List, [], ◌∷◌, ◌++◌, Option, Some, None, is_none, is_some, option_map, ◌==◌, if◌then◌else◌, inl, inr, sym, refl, ap, ◌∙◌, subst, ◌||◌}
use Rattle.std.specs.List.{All}
use Rattle.i3c_base.specs.declared.answers.Answer.{Answer}
use Rattle.i3c_base.specs.declared.answers.RoundReply.{RoundReply}
use Rattle.i3c_base.specs.declared.device.Setup.{Setup}
use Rattle.i3c_base.specs.declared.device.Waiting.{Waiting}
use Rattle.i3c_base.specs.declared.identity.Bcr.{Bcr}
use Rattle.i3c_base.specs.declared.identity.Identity.{Identity}
use Rattle.i3c_base.specs.declared.requests.Fixed.{Fixed}
use Rattle.i3c_base.specs.declared.requests.Request.{Request}
use Rattle.i3c_base.specs.declared.requests.Served.{Served}
use Rattle.i3c_base.specs.declared.requests.Served.TheVariants.{Quiet, Recorded, Refused, Torn, Joining, WantsRole}
use Rattle.i3c_base.specs.Numbers.{KindSet, has_byte}
use Rattle.i3c_base.specs.State.{Board, Device, State, IsStart, change, device_at, each, in_slot, raised_at, declared_at}
use Rattle.i3c_base.specs.Cutting.{CutList, Lost, lost_by, nobody}
use Rattle.i3c_base.specs.Local.{ask_join, ask_role, attach, drop_off, raise}
use Rattle.i3c_base.specs.Serve.{Frame, Serves, drives, each_driver, emptied, tail, without_front, without_join, without_role}
use Rattle.i3c_base.specs.declared.datum.Direction.{Direction}
use Rattle.i3c_base.specs.Frames.{IsWillingAt, Rekinds, handed, list, overwritten, reaches, rekinded, reset, unaddressed_device, written, active_has, readdressed, takes_static, with_new, with_static, limited, with_length}
use Rattle.i3c_base.specs.Round.{Rounds, assigned, ended, hears, opened, unhearing, winner, wins}
use Rattle.i3c_base.specs.Numbers.{same_bool}
use Rattle.i3c_base.proofs.Lookups.{attach_from, change_at, change_from, drop_off_from, each_from, emptied_from}
use Rattle.i3c_step.specs.declared.events.Event.{Event}
use Rattle.i3c_step.specs.declared.events.Event.TheVariants.{Attach, DropOff, Raise, AskJoin, AskRole, Serve, Enec, Disec, Reset, SendList, ReadFrom, WriteTo, SetStatic, SetNew, Get, SetLength, OpenDaa, Round, EndDaa, HandOver}
use Rattle.i3c_step.specs.declared.replies.Reply.{Reply}
use Rattle.i3c_step.specs.Step.{Acts, Step, checks, first_refusal, is_kept_for, is_pickable}
use Rattle.i3c_step.specs.Sound.{IsFitting, IsSound}
use Rattle.i3c_step.proofs.Active.{Active-emptied, Active-round, IsSafe, Present-change, Present-each, Present-written, Safe-rekinds, Safe-serves, Present-with_new, Present-with_static}
use Rattle.i3c_step.proofs.Addresses.{Addresses-emptied, Addresses-none_new, Addresses-round, Addresses-start, Addresses-step, IsSteady, NoneNew-change, NoneNew-ended, NoneNew-handed, NoneNew-list, NoneNew-opened, NoneNew-rekinds, NoneNew-reset, NoneNew-serves, NoneNew-written, start_device, Addresses-with_new, Addresses-with_static, IsSettled, Suits-static, pickable_settled}
use Rattle.i3c_step.proofs.Follows.{Follows-change, Follows-emptied, Follows-ended, Follows-opened, Follows-rekinds, Follows-reset, Follows-round, Follows-serves, Follows-written, Follows-with_new, Follows-with_static}
use Rattle.i3c_step.proofs.Handing.{declined, granted}
use Rattle.i3c_step.proofs.Holding.{active_follows, active_start, active_step}
use Rattle.i3c_step.proofs.Steps.{no_test, step_cases}
use Rattle.i3c_step.proofs.Transfers.{gets_keep, lengths_keep, limited_by, reads_keep, writes_keep, news_keep, statics_keep}

-- what waits in each device fits it
abbrev AllFit : State → Type 0
AllFit st = (s : ℕ) (d : Device) → device_at st s ≡ Some d → IsFitting d

-- the interrupt has a byte exactly where the BCR says so
abbrev FitsBcr : Bcr → Waiting → Type 0
FitsBcr bcr w = is_some w.byte ≡ has_byte bcr

Fits-if : (b : Bool) (d e : Device) → IsFitting e → IsFitting d → IsFitting (if b then e else d)
Fits-if true d e x y = x
Fits-if false d e x y = y

All-tail : (P : Waiting → Type 0) (ws : List Waiting) → All P ws → All P (tail ws)
All-tail P [] h = h
All-tail P (w ∷ ws) h = All-drop P 1 (w ∷ ws) h

AllFit-each : (f : ℕ → Device → Device) (st : State) → ((s : ℕ) (d : Device) → IsFitting d → IsFitting (f s d)) → AllFit st → AllFit (each f st)
AllFit-each f st keeps all s d p = let w = each_from f st s d p in subst IsFitting w.2 (keeps s w.0 (all s w.0 w.1))

AllFit-driver : (r : Request) (f : Device → Device) (st : State) → ((d : Device) → IsFitting d → IsFitting (f d)) → AllFit st → AllFit (each_driver r f st)
AllFit-driver r f st keeps = AllFit-each (λ s d. if drives st r s then f d else d) st (λ s d h. Fits-if (drives st r s) d (f d) (keeps d h) h)

AllFit-emptied : (lost : Lost) (st : State) → AllFit st → AllFit (emptied lost st)
AllFit-emptied lost st all s d p = all s d (emptied_from lost st s d p).1

-- an attached device has nothing waiting
AllFit-attach : (s : ℕ) (setup : Setup) (st : State) → AllFit st → AllFit (attach s setup st)
AllFit-attach s setup st all t d p = elim (attach_from s setup st t d p) [
  | inl e ↦ subst IsFitting e.1 (All-nil (FitsBcr setup.identity.bcr))
  | inr e ↦ all t d e
]

same_bool-true : (a b : Bool) → same_bool a b ≡ true → b ≡ a
same_bool-true true b h = h
same_bool-true false true h = sym h
same_bool-true false false h = refl

-- a raise that isn't refused brings a byte that fits
AllFit-raise : (s : ℕ) (byte : Option ℕ) (st : State) → first_refusal (checks st (Raise s byte)) ≡ None → AllFit st → AllFit (raise s byte st)
AllFit-raise s byte st free all t d p = let w = change_from s more st t d p in subst IsFitting w.2 (go w.0 w.1 (t == s) refl)
  where
    raised : Waiting
    raised = record { number = suc (raised_at st s); byte = byte }

    more : Device → Device
    more x = record x { waiting = x.waiting ++ raised ∷ [] }

    fits : (x : Device) → device_at st s ≡ Some x → is_some byte ≡ has_byte x.identity.bcr
    fits x there =
        let mismatch : Device → Bool = λ (y : Device). not (same_bool (has_byte y.identity.bcr) (is_some byte)) in
        let none : mismatch x ≡ false = subst (λ (o : Option Device). in_slot mismatch o ≡ false) there (no_test 4 (checks st (Raise s byte)) free) in
        same_bool-true (has_byte x.identity.bcr) (is_some byte) (not-false _ none)

    go : (x : Device) → device_at st t ≡ Some x → (b : Bool) → (t == s) ≡ b → IsFitting (if b then more x else x)
    go x there true e =
        let here : device_at st s ≡ Some x = ap (device_at st) (sym (eqb-true t s e)) ∙ there in
        All-append (FitsBcr x.identity.bcr) x.waiting (raised ∷ []) (all t x there)
        (All-cons (FitsBcr x.identity.bcr) raised [] (fits x here) (All-nil (FitsBcr x.identity.bcr)))
    go x there false e = all t x there

AllFit-fronts : (st : State) (a : ℕ) → AllFit st → AllFit (each_driver (Request.Interrupt a) without_front st)
AllFit-fronts st a = AllFit-driver (Request.Interrupt a) without_front st (λ d h. All-tail (FitsBcr d.identity.bcr) d.waiting h)

-- serving takes wishes and fronts away
AllFit-serves : (st : State) (policy : Fixed) (lost : Lost) (served : Served) (new : State) → Serves st policy lost served new → AllFit st → AllFit new
AllFit-serves st policy lost Quiet new h all = subst AllFit (sym h.1) all
AllFit-serves st policy lost Refused new h all = subst AllFit (sym h.1) all
AllFit-serves st policy lost Joining new h all = subst AllFit (sym h.2) (AllFit-driver Request.Join without_join st (λ d f. f) all)
AllFit-serves st policy lost (WantsRole a) new h all = subst AllFit (sym h.2) (AllFit-driver (Request.Role a) without_role st (λ d f. f) all)
AllFit-serves st policy lost (Recorded place) new h all = subst AllFit (sym h.left) (AllFit-fronts st h.at all)
AllFit-serves st policy lost Torn new h all = subst AllFit (sym h.left) (AllFit-fronts st h.at all)

AllFit-rekinded : (to : Option ℕ) (f : KindSet → KindSet) (st : State) → AllFit st → AllFit (rekinded to f st)
AllFit-rekinded to f st = AllFit-each (λ s d. if reaches st to s d then record d { kinds = f d.kinds } else d) st
    (λ s d h. Fits-if (reaches st to s d) d (record d { kinds = f d.kinds }) h h)

AllFit-rekinds : (to : Option ℕ) (f : KindSet → KindSet) (answer : Answer) (lost : Lost) (mid done : State) → Rekinds to f answer lost mid done → AllFit mid → AllFit done
AllFit-rekinds None f answer lost mid done h all = subst AllFit (sym h.1) (AllFit-rekinded None f mid all)
AllFit-rekinds (Some a) f answer lost mid done h all = elim h [
  | inl e ↦ subst AllFit (sym e.2) (AllFit-rekinded (Some a) f mid all)
  | inr e ↦ subst AllFit (sym e.2) all
]

AllFit-written : (a : ℕ) (bytes : List ℕ) (st : State) → AllFit st → AllFit (written a bytes st)
AllFit-written a bytes st = AllFit-each (λ s d. if reaches st (Some a) s d then record d { registers = overwritten bytes d.registers } else d) st
    (λ s d h. Fits-if (reaches st (Some a) s d) d (record d { registers = overwritten bytes d.registers }) h h)

AllFit-with_static : (f : ℕ) (i : Identity) (a : ℕ) (st : State) → AllFit st → AllFit (with_static f i a st)
AllFit-with_static f i a st = AllFit-each (λ s d. if takes_static st.active f s d then winner a d else d) st
    (λ s d h. Fits-if (takes_static st.active f s d) d (winner a d) h h)

AllFit-with_new : (old a : ℕ) (st : State) → AllFit st → AllFit (with_new old a st)
AllFit-with_new old a st = AllFit-each (λ s d. if reaches st (Some old) s d then readdressed a d else d) st
    (λ s d h. Fits-if (reaches st (Some old) s d) d (readdressed a d) h h)

AllFit-with_length : (to : Option ℕ) (way : Direction) (most : ℕ) (st : State) → AllFit st → AllFit (with_length to way most st)
AllFit-with_length to way most st = AllFit-each (λ s d. if reaches st to s d then limited way most d else d) st
    (λ s d h. Fits-if (reaches st to s d) d (limited way most d) (limited_by IsFitting way most d h h) h)

AllFit-opened : (st : State) → AllFit st → AllFit (opened st)
AllFit-opened st = AllFit-each (λ s d. hears d) st (λ s d h. Fits-if (is_none d.address) d (record d { hearing = true }) h h)

AllFit-assigned : (lost : Lost) (i : Identity) (a : ℕ) (st : State) → AllFit st → AllFit (assigned lost i a st)
AllFit-assigned lost i a st = AllFit-each (λ s d. if wins lost i s d then winner a d else d) st (λ s d h. Fits-if (wins lost i s d) d (winner a d) h h)

AllFit-round : (old : State) (cuts : CutList) (answer : RoundReply) (new : State) → Rounds old cuts answer new → AllFit old → AllFit new
AllFit-round old cuts RoundReply.NoAddress new h all = subst AllFit (sym h.1) all
AllFit-round old cuts RoundReply.Done new h all = subst AllFit (sym h.2) (AllFit-emptied _ old all)
AllFit-round old cuts RoundReply.Nobody new h all = subst AllFit (sym h.3) (AllFit-emptied _ old all)
AllFit-round old cuts (RoundReply.Assigned a i) new h all =
    subst AllFit (sym h.3) (AllFit-emptied (lost_by cuts 73) (assigned (lost_by cuts 73) i a old) (AllFit-assigned (lost_by cuts 73) i a old all))

-- a frame keeps what its own part keeps
AllFit-frame : (old : State) (policy : Fixed) (cuts : CutList) (served : Served) (rest : ℕ) (Own : Lost → State → State → Type 0) (new : State)
    → ((lost : Lost) (mid done : State) → Own lost mid done → AllFit mid → AllFit done) → Frame old policy cuts served rest Own new → AllFit old → AllFit new
AllFit-frame old policy cuts served rest Own new own frame all =
    let mid : AllFit frame.mid = AllFit-serves old policy _ served frame.mid frame.serves all in
    subst AllFit (sym frame.left) (AllFit-emptied _ frame.done (own _ frame.mid frame.done frame.own mid))

AllFit-drop_off : (s : ℕ) (st : State) → AllFit st → AllFit (drop_off s st)
AllFit-drop_off s st all t d p = all t d (drop_off_from s st t d p).1

AllFit-change : (s : ℕ) (f : Device → Device) (st : State) → ((d : Device) → IsFitting d → IsFitting (f d)) → AllFit st → AllFit (change s f st)
AllFit-change s f st keeps all t d p =
    let x = change_from s f st t d p in subst IsFitting x.2 (Fits-if (t == s) x.0 (f x.0) (keeps x.0 (all t x.0 x.1)) (all t x.0 x.1))

AllFit-ask_join : (s : ℕ) (st : State) → AllFit st → AllFit (ask_join s st)
AllFit-ask_join s st = AllFit-change s (λ y. record y { join_wish = true }) st (λ d f. f)

AllFit-ask_role : (s : ℕ) (st : State) → AllFit st → AllFit (ask_role s st)
AllFit-ask_role s st = AllFit-change s (λ y. record y { role_wish = true }) st (λ d f. f)

AllFit-reset : (st : State) → AllFit st → AllFit (reset st)
AllFit-reset st = AllFit-each (λ s d. if s == st.active then without_role d else unaddressed_device d) st
    (λ s d h. Fits-if (s == st.active) (unaddressed_device d) (without_role d) h h)

AllFit-acts : (old : State) (event : Event) (reply : Reply) (new : State) → first_refusal (checks old event) ≡ None → Acts old event reply new → AllFit old → AllFit new
AllFit-acts old (Attach s setup) reply new free h all = subst AllFit (sym h.1) (AllFit-attach s setup old all)
AllFit-acts old (DropOff s) reply new free h all = subst AllFit (sym h.1) (AllFit-drop_off s old all)
AllFit-acts old (AskJoin s) reply new free h all = subst AllFit (sym h.1) (AllFit-ask_join s old all)
AllFit-acts old (Raise s byte) reply new free h all = subst AllFit (sym h.1) (AllFit-raise s byte old free all)
AllFit-acts old (Serve policy cuts) reply new free h all = AllFit-frame old policy cuts _ _ _ new (λ lost mid done e fit. subst AllFit (sym e) fit) h.2 all
AllFit-acts old (Enec to kinds policy cuts) reply new free h all = AllFit-frame old policy cuts _ _ _ new (AllFit-rekinds to _ _) h.2 all
AllFit-acts old (Disec to kinds policy cuts) reply new free h all = AllFit-frame old policy cuts _ _ _ new (AllFit-rekinds to _ _) h.2 all
AllFit-acts old (AskRole s) reply new free h all = subst AllFit (sym h.1) (AllFit-ask_role s old all)
AllFit-acts old (Reset policy cuts) reply new free h all = AllFit-frame old policy cuts _ _ _ new (λ lost mid done e fit. subst AllFit (sym e) (AllFit-reset mid fit)) h.2 all
AllFit-acts old (SendList policy cuts) reply new free h all = AllFit-frame old policy cuts _ _ _ new (λ lost mid done e fit. subst AllFit (sym e) fit) h.2 all
AllFit-acts old (ReadFrom a policy cuts) reply new free h all =
    AllFit-frame old policy cuts _ _ _ new (reads_keep (λ mid done. AllFit mid → AllFit done) (λ st fit. fit) a h.0.answer) h.2 all
AllFit-acts old (WriteTo a bytes policy cuts) reply new free h all =
    AllFit-frame old policy cuts _ _ _ new (writes_keep (λ mid done. AllFit mid → AllFit done) a bytes.items (λ st fit. fit) (AllFit-written a bytes.items) h.0.answer) h.2 all
AllFit-acts old (SetStatic f to policy cuts) reply new free h all =
    AllFit-frame old policy cuts _ _ _ new (λ lost mid done. statics_keep (λ st next. AllFit st → AllFit next) f to (λ st fit. fit) (λ i st. AllFit-with_static f i to st) h.0.answer lost mid done) h.2 all
AllFit-acts old (SetNew a to policy cuts) reply new free h all =
    AllFit-frame old policy cuts _ _ _ new (λ lost mid done. news_keep (λ st next. AllFit st → AllFit next) a to (λ st fit. fit) (AllFit-with_new a to) h.0.answer lost mid done) h.2 all
AllFit-acts old (Get what a policy cuts) reply new free h all =
    AllFit-frame old policy cuts _ _ _ new (gets_keep (λ mid done. AllFit mid → AllFit done) (λ st fit. fit) what a h.0.answer) h.2 all
AllFit-acts old (SetLength way most to policy cuts) reply new free h all =
    AllFit-frame old policy cuts _ _ _ new (lengths_keep (λ mid done. AllFit mid → AllFit done) to way most (λ st fit. fit) (AllFit-with_length to way most) h.0.answer) h.2 all
AllFit-acts old (OpenDaa cuts) reply new free h all =
    AllFit-frame old _ cuts _ _ _ new (λ lost mid done e fit. subst AllFit (sym e) (AllFit-opened mid fit)) h.2 all
AllFit-acts old (Round cuts) reply new free h all = AllFit-round old cuts h.0 new h.2 all
AllFit-acts old (HandOver to cuts) reply new free h all = elim h [
  | inl g ↦
      let x = granted old to cuts reply new g in
      subst AllFit (sym x.after) (AllFit-emptied (lost_by cuts x.last) (handed x.slot to old) (AllFit-change x.slot without_role old (λ d f. f) all))
  | inr g ↦ let x = declined old to cuts reply new g in subst AllFit (sym x.1) (AllFit-emptied (lost_by cuts x.0) old all)
]
AllFit-acts old EndDaa reply new free h all = subst AllFit (sym h.1) (AllFit-each (λ s d. unhearing d) old (λ s d f. f) all)

-- a start is sound: nothing waits there
pub sound_start : (main : Setup) (board : Board) (st : State) → IsStart main board st → IsSound st
sound_start main board st h = record {
  addresses = Addresses-start main board st h;
  active = active_start main board st h;
  fitting = subst AllFit (sym h.2) (λ s d p.
      subst IsFitting (sym (start_device main board h.0 s d p).1) (All-nil (FitsBcr main.identity.bcr)));
}

-- the active controller is present, where nobody is lost
all_safe : (st : State) → IsSound st → IsSafe nobody st
all_safe st sound = record { present = (sound.active.0, sound.active.2); left = refl }

-- serving keeps a bus sound, whatever the frame loses
pub sound_serves : (st : State) (policy : Fixed) (lost : Lost) (served : Served) (new : State) → Serves st policy lost served new → IsSound st → IsSound new
sound_serves st policy lost served new h sound = record {
  addresses = Addresses-none_new st new (NoneNew-serves st policy lost served new h) sound.addresses;
  active = active_follows st new (Follows-serves st policy lost served new h) (Safe-serves st policy lost served new nobody h (all_safe st sound)).present sound.active;
  fitting = AllFit-serves st policy lost served new h sound.fitting;
}

-- enabling and disabling keeps a bus sound
pub sound_rekinds : (to : Option ℕ) (f : KindSet → KindSet) (answer : Answer) (lost : Lost) (mid done : State) → Rekinds to f answer lost mid done → IsSound mid → IsSound done
sound_rekinds to f answer lost mid done h sound = record {
  addresses = Addresses-none_new mid done (NoneNew-rekinds to f answer lost mid done h) sound.addresses;
  active = active_follows mid done (Follows-rekinds to f answer lost mid done h) (Safe-rekinds to f answer lost mid done nobody h (all_safe mid sound)).present sound.active;
  fitting = AllFit-rekinds to f answer lost mid done h sound.fitting;
}

-- a private transfer keeps a bus sound
pub sound_written : (a : ℕ) (bytes : List ℕ) (st : State) → IsSound st → IsSound (written a bytes st)
sound_written a bytes st sound = record {
  addresses = Addresses-none_new st (written a bytes st) (NoneNew-written a bytes st) sound.addresses;
  active = active_follows st (written a bytes st) (Follows-written a bytes st) (Present-written a bytes st st.active (sound.active.0, sound.active.2)) sound.active;
  fitting = AllFit-written a bytes st sound.fitting;
}

-- an address given at a declared static one keeps a bus sound, if it suits the identity
pub sound_with_static : (f : ℕ) (i : Identity) (a : ℕ) (old st : State) → IsSettled old st → declared_at st f ≡ Some i → (is_pickable old a || is_kept_for old (Some i) a) ≡ true
    → IsSound st → IsSound (with_static f i a st)
sound_with_static f i a old st same declared given sound = record {
  addresses = Addresses-with_static f i a st declared (Suits-static old st a i same given sound.addresses) sound.addresses;
  active = active_follows st (with_static f i a st) (Follows-with_static f i a st) (Present-with_static f i a st st.active (sound.active.0, sound.active.2)) sound.active;
  fitting = AllFit-with_static f i a st sound.fitting;
}

-- an address given in another's place keeps a bus sound
pub sound_with_new : (was a : ℕ) (old st : State) → IsSettled old st → active_has old was ≡ false → is_pickable old a ≡ true → IsSound st → IsSound (with_new was a st)
sound_with_new was a old st same other given sound = record {
  addresses = Addresses-with_new was a st (same.active was other) (pickable_settled old st a same given) sound.addresses;
  active = active_follows st (with_new was a st) (Follows-with_new was a st) (Present-with_new was a st st.active (sound.active.0, sound.active.2)) sound.active;
  fitting = AllFit-with_new was a st sound.fitting;
}

-- a change of a device that keeps its identity and its address keeps a bus sound
sound_changed : (s : ℕ) (f : Device → Device) (st : State) → ((d : Device) → IsSteady (f d) d) → ((d : Device) → ((f d).address ≡ d.address) × ((f d).hearing ≡ d.hearing))
    → ((d : Device) → IsFitting d → IsFitting (f d)) → IsSound st → IsSound (change s f st)
sound_changed s f st steady same keeps sound = record {
  addresses = Addresses-none_new st (change s f st) (NoneNew-change s f st steady) sound.addresses;
  active = active_follows st (change s f st) (Follows-change s f st same) (Present-change s f st st.active (sound.active.0, sound.active.2)) sound.active;
  fitting = AllFit-change s f st keeps sound.fitting;
}

-- a sound bus stays sound when a device wishes to join or for the role
pub sound_wishes : (s : ℕ) (st : State) → IsSound st → IsSound (ask_join s st)
sound_wishes s st sound = sound_changed s (λ d. record d { join_wish = true }) st (λ d. record { identity = refl; fixed = refl; address = λ a p. p }) (λ d. (refl, refl)) (λ d f. f) sound

pub sound_role_wishes : (s : ℕ) (st : State) → IsSound st → IsSound (ask_role s st)
sound_role_wishes s st sound = sound_changed s (λ d. record d { role_wish = true }) st (λ d. record { identity = refl; fixed = refl; address = λ a p. p }) (λ d. (refl, refl)) (λ d f. f) sound

-- devices that are gone, if the active controller isn't among them
pub sound_emptied : (lost : Lost) (st : State) → lost st.active ≡ false → IsSound st → IsSound (emptied lost st)
sound_emptied lost st left sound = record {
  addresses = Addresses-emptied lost st sound.addresses;
  active = active_follows st (emptied lost st) (Follows-emptied lost st) (Active-emptied lost st (record { present = (sound.active.0, sound.active.2); left = left })) sound.active;
  fitting = AllFit-emptied lost st sound.fitting;
}

-- a session that is opened
pub sound_opened : (st : State) → IsSound st → IsSound (opened st)
sound_opened st sound = record {
  addresses = Addresses-none_new st (opened st) (NoneNew-opened st) sound.addresses;
  active = active_follows st (opened st) (Follows-opened st) (Present-each (λ s d. hears d) st st.active (sound.active.0, sound.active.2)) sound.active;
  fitting = AllFit-opened st sound.fitting;
}

-- the end of a session keeps a bus sound
pub sound_ended : (st : State) → IsSound st → IsSound (ended st)
sound_ended st sound = record {
  addresses = Addresses-none_new st (ended st) (NoneNew-ended st) sound.addresses;
  active = active_follows st (ended st) (Follows-ended st) (Present-each (λ s d. unhearing d) st st.active (sound.active.0, sound.active.2)) sound.active;
  fitting = AllFit-each (λ s d. unhearing d) st (λ s d f. f) sound.fitting;
}

-- a round that doesn't lose the active controller
pub sound_round : (old : State) (cuts : CutList) (answer : RoundReply) (new : State) → Rounds old cuts answer new → ((last : ℕ) → lost_by cuts last old.active ≡ false) → IsSound old → IsSound new
sound_round old cuts answer new h left sound = record {
  addresses = Addresses-round old cuts answer new h sound.addresses;
  active = active_follows old new (Follows-round old cuts answer new h) (Active-round old cuts answer new h left (sound.active.0, sound.active.2)) sound.active;
  fitting = AllFit-round old cuts answer new h sound.fitting;
}

pub sound_reset : (st : State) → IsSound st → IsSound (reset st)
sound_reset st sound = record {
  addresses = Addresses-none_new st (reset st) (NoneNew-reset st) sound.addresses;
  active = active_follows st (reset st) (Follows-reset st) (Present-each (λ s d. if s == st.active then without_role d else unaddressed_device d) st st.active (sound.active.0, sound.active.2)) sound.active;
  fitting = AllFit-reset st sound.fitting;
}

pub sound_list : (st : State) → IsSound st → IsSound (list st)
sound_list st sound = record {
  addresses = Addresses-none_new st (list st) (NoneNew-list st) sound.addresses;
  active = sound.active;
  fitting = sound.fitting;
}

-- a role that is handed to a device with an address
pub sound_handed : (s a : ℕ) (st : State) → IsWillingAt st a s → IsSound st → IsSound (handed s a st)
sound_handed s a st willing sound = record {
  addresses = Addresses-none_new st (handed s a st) (NoneNew-handed s a st) sound.addresses;
  active = (
    if s == s then without_role willing.0 else willing.0,
    a,
    change_at s without_role st s ∙ ap (option_map (λ d. if s == s then without_role d else d)) willing.1.0,
    ap (λ (c : Bool). (if c then without_role willing.0 else willing.0).address) (eq-eqb s s refl) ∙ willing.1.1,
  );
  fitting = AllFit-change s without_role st (λ d f. f) sound.fitting;
}

-- each step keeps it
pub sound_step : (old : State) (event : Event) (reply : Reply) (new : State) → Step old event reply new → IsSound old → IsSound new
sound_step old event reply new h sound = record {
  addresses = Addresses-step old event reply new h sound.addresses;
  active = active_step old event reply new h sound.active;
  fitting = step_cases old event reply new h (λ idle e. subst AllFit (sym e) sound.fitting)
      (λ free acts. AllFit-acts old event reply new free acts sound.fitting);
}
