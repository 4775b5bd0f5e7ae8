-- An event that raises and serves nothing leaves each waiting list as it was.
use Rattle.std.proofs.lemmas.List.{length-set}
use Rattle.std.proofs.Common.{◌≡◌, ℕ, Bool, true, false, length, get_or, List, [], Option, Some, None, option_map, is_none, ◌==◌, if◌then◌else◌, inl, inr, sym, refl, ap, ◌∙◌, subst}
use Rattle.i3c_base.specs.declared.answers.Answer.{Answer}
use Rattle.i3c_base.specs.declared.answers.RoundReply.{RoundReply}
use Rattle.i3c_base.specs.declared.device.Setup.{Setup}
use Rattle.i3c_base.specs.declared.device.Waiting.{Waiting}
use Rattle.i3c_base.specs.declared.identity.Identity.{Identity}
use Rattle.i3c_base.specs.declared.requests.Request.{Request}
use Rattle.i3c_base.specs.Cutting.{CutList, Lost, lost_by}
use Rattle.i3c_base.specs.Numbers.{KindSet}
use Rattle.i3c_base.specs.State.{Device, State, attached, device_at, each, fixed_of}
use Rattle.i3c_base.specs.Local.{ask_join, ask_role, attach, drop_off}
use Rattle.i3c_step.proofs.Transfers.{limited_by}
use Rattle.i3c_base.specs.Serve.{drives, each_driver, emptied, without_role}
use Rattle.i3c_base.specs.declared.datum.Direction.{Direction}
use Rattle.i3c_base.specs.Frames.{Rekinds, handed, list, overwritten, reaches, rekinded, reset, unaddressed_device, written, readdressed, takes_static, with_new, with_static, limited, with_length}
use Rattle.i3c_base.specs.Round.{Rounds, assigned, ended, hears, opened, unhearing, winner, wins}
use Rattle.i3c_base.proofs.Lookups.{attach_from, change_from, drop_off_from, each_at, emptied_from, length-changed}

-- what waits in a slot
abbrev pub waiting_in : Option Device → List Waiting
waiting_in None = []
waiting_in (Some d) = d.waiting

-- nothing is raised or served: what waits in a slot's device waited in the slot before
pub record Unserved (old new : State) : Type 0 where
  pub waiting : (s : ℕ) (d : Device) → device_at new s ≡ Some d → d.waiting ≡ waiting_in (device_at old s)
  pub records : new.records ≡ old.records
  pub raised : new.raised ≡ old.raised
  pub long : length new.devices ≡ length old.devices

-- each device changed, whose waiting list is changed by g
pub waiting_each : (g : List Waiting → List Waiting) (f : ℕ → Device → Device) (st : State) (s : ℕ) → g [] ≡ [] → ((d : Device) → (f s d).waiting ≡ g d.waiting)
    → waiting_in (device_at (each f st) s) ≡ g (waiting_in (device_at st s))
waiting_each g f st s none some = ap waiting_in (each_at f st s) ∙ go (device_at st s)
  where
    go : (o : Option Device) → waiting_in (option_map (f s) o) ≡ g (waiting_in o)
    go None = sym none
    go (Some d) = some d

pub Unserved-each : (f : ℕ → Device → Device) (st new : State) → ((s : ℕ) (d : Device) → (f s d).waiting ≡ d.waiting)
    → new.devices ≡ (each f st).devices → new.records ≡ st.records → new.raised ≡ st.raised → Unserved st new
Unserved-each f st new same devices records raised = record {
  waiting = λ s d p. sym (ap waiting_in p) ∙ (ap (λ places. waiting_in (get_or places s None)) devices ∙ waiting_each (λ ws. ws) f st s refl (same s));
  records = records;
  raised = raised;
  long = ap length devices ∙ length-changed (λ s place. option_map (f s) place) st.devices;
}

pub waiting-if : (b : Bool) (e d : Device) → e.waiting ≡ d.waiting → (if b then e else d).waiting ≡ d.waiting
waiting-if true e d h = h
waiting-if false e d h = refl

pub Unserved-same : (old new : State) → new ≡ old → Unserved old new
Unserved-same old new e = subst (Unserved old) (sym e) (record { waiting = λ s d p. sym (ap waiting_in p); records = refl; raised = refl; long = refl })

pub Unserved-emptied : (lost : Lost) (old mid : State) → Unserved old mid → Unserved old (emptied lost mid)
Unserved-emptied lost old mid u = record {
  waiting = λ s d p. u.waiting s d (emptied_from lost mid s d p).1;
  records = u.records;
  raised = u.raised;
  long = length-changed (λ s place. if lost s then None else place) mid.devices ∙ u.long;
}

pub Unserved-driver : (r : Request) (f : Device → Device) (st : State) → ((d : Device) → (f d).waiting ≡ d.waiting) → Unserved st (each_driver r f st)
Unserved-driver r f st same =
    Unserved-each (λ s d. if drives st r s then f d else d) st _ (λ s d. waiting-if (drives st r s) (f d) d (same d)) refl refl refl

-- a device that is attached to an empty slot has nothing waiting
pub Unserved-attach : (s : ℕ) (setup : Setup) (st : State) → device_at st s ≡ None → Unserved st (attach s setup st)
Unserved-attach s setup st empty = record {
  waiting = λ t d p. elim (attach_from s setup st t d p) [
    | inl e ↦ ap (λ (x : Device). x.waiting) (sym e.1) ∙ sym (ap waiting_in (ap (device_at st) e.0 ∙ empty))
    | inr e ↦ sym (ap waiting_in e)
  ];
  records = refl;
  raised = refl;
  long = length-set st.devices s (Some (attached (fixed_of st.declared setup.identity) setup));
}

-- a slot that is emptied, and a device that wishes to join
pub Unserved-drop_off : (s : ℕ) (st : State) → Unserved st (drop_off s st)
Unserved-drop_off s st = record {
  waiting = λ t d p. sym (ap waiting_in (drop_off_from s st t d p).1);
  records = refl;
  raised = refl;
  long = length-set st.devices s None;
}

pub Unserved-ask_role : (s : ℕ) (st : State) → Unserved st (ask_role s st)
Unserved-ask_role s st = record {
  waiting = λ t d p.
      let x = change_from s (λ (y : Device). record y { role_wish = true }) st t d p in
      ap (λ (y : Device). y.waiting) (sym x.2) ∙ (waiting-if (t == s) (record x.0 { role_wish = true }) x.0 refl ∙ sym (ap waiting_in x.1));
  records = refl;
  raised = refl;
  long = length-set st.devices s _;
}

pub Unserved-reset : (st : State) → Unserved st (reset st)
Unserved-reset st = Unserved-each (λ s d. if s == st.active then without_role d else unaddressed_device d) st (reset st) (λ s d. kept (s == st.active) d) refl refl refl
  where
    kept : (b : Bool) (d : Device) → (if b then without_role d else unaddressed_device d).waiting ≡ d.waiting
    kept true d = refl
    kept false d = refl

pub Unserved-handed : (s own : ℕ) (st : State) → Unserved st (handed s own st)
Unserved-handed s own st = record {
  waiting = λ t d p.
      let x = change_from s without_role st t d p in
      ap (λ (y : Device). y.waiting) (sym x.2) ∙ (waiting-if (t == s) (without_role x.0) x.0 refl ∙ sym (ap waiting_in x.1));
  records = refl;
  raised = refl;
  long = length-set st.devices s _;
}

pub Unserved-list : (st : State) → Unserved st (list st)
Unserved-list st = record { waiting = λ s d p. sym (ap waiting_in p); records = refl; raised = refl; long = refl }

pub Unserved-ask_join : (s : ℕ) (st : State) → Unserved st (ask_join s st)
Unserved-ask_join s st = record {
  waiting = λ t d p.
      let x = change_from s (λ (y : Device). record y { join_wish = true }) st t d p in
      ap (λ (y : Device). y.waiting) (sym x.2) ∙ (waiting-if (t == s) (record x.0 { join_wish = true }) x.0 refl ∙ sym (ap waiting_in x.1));
  records = refl;
  raised = refl;
  long = length-set st.devices s _;
}

Unserved-rekinded : (to : Option ℕ) (f : KindSet → KindSet) (st : State) → Unserved st (rekinded to f st)
Unserved-rekinded to f st = Unserved-each (λ s d. if reaches st to s d then record d { kinds = f d.kinds } else d) st _
    (λ s d. waiting-if (reaches st to s d) (record d { kinds = f d.kinds }) d refl) refl refl refl

pub Unserved-rekinds : (to : Option ℕ) (f : KindSet → KindSet) (answer : Answer) (lost : Lost) (mid done : State) → Rekinds to f answer lost mid done → Unserved mid done
Unserved-rekinds None f answer lost mid done h = subst (Unserved mid) (sym h.1) (Unserved-rekinded None f mid)
Unserved-rekinds (Some a) f answer lost mid done h = elim h [
  | inl e ↦ subst (Unserved mid) (sym e.2) (Unserved-rekinded (Some a) f mid)
  | inr e ↦ Unserved-same mid done e.2
]

pub Unserved-written : (a : ℕ) (bytes : List ℕ) (st : State) → Unserved st (written a bytes st)
Unserved-written a bytes st = Unserved-each (λ s d. if reaches st (Some a) s d then record d { registers = overwritten bytes d.registers } else d) st _
    (λ s d. waiting-if (reaches st (Some a) s d) (record d { registers = overwritten bytes d.registers }) d refl) refl refl refl

pub Unserved-with_length : (to : Option ℕ) (way : Direction) (most : ℕ) (st : State) → Unserved st (with_length to way most st)
Unserved-with_length to way most st =
    Unserved-each (λ s d. if reaches st to s d then limited way most d else d) st (with_length to way most st)
    (λ s d. waiting-if (reaches st to s d) (limited way most d) d (limited_by (λ x. x.waiting ≡ d.waiting) way most d refl refl)) refl refl refl

pub Unserved-with_static : (f : ℕ) (i : Identity) (a : ℕ) (st : State) → Unserved st (with_static f i a st)
Unserved-with_static f i a st =
    Unserved-each (λ s d. if takes_static st.active f s d then winner a d else d) st (with_static f i a st) (λ s d. waiting-if (takes_static st.active f s d) (winner a d) d refl) refl refl refl

pub Unserved-with_new : (old a : ℕ) (st : State) → Unserved st (with_new old a st)
Unserved-with_new old a st =
    Unserved-each (λ s d. if reaches st (Some old) s d then readdressed a d else d) st (with_new old a st) (λ s d. waiting-if (reaches st (Some old) s d) (readdressed a d) d refl) refl refl refl

pub Unserved-opened : (st : State) → Unserved st (opened st)
Unserved-opened st = Unserved-each (λ s d. hears d) st (opened st) (λ s d. waiting-if (is_none d.address) (record d { hearing = true }) d refl) refl refl refl

pub Unserved-ended : (st : State) → Unserved st (ended st)
Unserved-ended st = Unserved-each (λ s d. unhearing d) st (ended st) (λ s d. refl) refl refl refl

Unserved-assigned : (lost : Lost) (i : Identity) (a : ℕ) (st : State) → Unserved st (assigned lost i a st)
Unserved-assigned lost i a st =
    Unserved-each (λ s d. if wins lost i s d then winner a d else d) st (assigned lost i a st) (λ s d. waiting-if (wins lost i s d) (winner a d) d refl) refl refl refl

pub Unserved-round : (old : State) (cuts : CutList) (answer : RoundReply) (new : State) → Rounds old cuts answer new → Unserved old new
Unserved-round old cuts RoundReply.NoAddress new h = Unserved-same old new h.1
Unserved-round old cuts RoundReply.Done new h = subst (Unserved old) (sym h.2) (Unserved-emptied (lost_by cuts 0) old old (Unserved-same old old refl))
Unserved-round old cuts RoundReply.Nobody new h = subst (Unserved old) (sym h.3) (Unserved-emptied (lost_by cuts 73) old old (Unserved-same old old refl))
Unserved-round old cuts (RoundReply.Assigned a i) new h = subst (Unserved old) (sym h.3)
    (Unserved-emptied (lost_by cuts 73) old (assigned (lost_by cuts 73) i a old) (Unserved-assigned (lost_by cuts 73) i a old))
