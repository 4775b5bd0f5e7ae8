-- Devices stay in their slots; one that has an address hears no session, and the active controller keeps its.
use Rattle.std.proofs.lemmas.Bool.{and_parts, both_ways, eq-eqb, false≢true}
use Rattle.std.proofs.lemmas.List.{length-set}
use Rattle.std.proofs.Common.{◌≡◌, ℕ, suc, Bool, true, false, List, [], ◌∷◌, ◌++◌, length, Option, Some, None, is_none, is_some, option_map, ◌==◌, ◌⊎◌, if◌then◌else◌, inl, inr, sym, refl, ap, ◌∙◌, subst, not}
use Rattle.i3c_base.specs.declared.answers.Answer.{Answer}
use Rattle.i3c_base.specs.declared.answers.RoundReply.{RoundReply}
use Rattle.i3c_base.specs.declared.identity.Identity.{Identity}
use Rattle.i3c_base.specs.declared.requests.Fixed.{Fixed}
use Rattle.i3c_base.specs.declared.requests.Request.{Request}
use Rattle.i3c_base.specs.declared.requests.Request.TheVariants.{Join, Role, Interrupt}
use Rattle.i3c_base.specs.declared.requests.Served.{Served}
use Rattle.i3c_base.specs.declared.requests.Served.TheVariants.{Quiet, Recorded, Refused, Torn, Joining, WantsRole}
use Rattle.i3c_base.specs.Cutting.{CutList, Lost, lost_by}
use Rattle.i3c_base.specs.declared.datum.Direction.{Direction}
use Rattle.i3c_base.specs.Frames.{Rekinds, handed, list, overwritten, reaches, readdressed, rekinded, reset, takes_static, unaddressed_device, with_new, with_static, written, limited, with_length}
use Rattle.i3c_base.specs.Local.{drop_off, raise}
use Rattle.i3c_base.specs.Numbers.{KindSet}
use Rattle.i3c_base.specs.Round.{Rounds, assigned, ended, hears, opened, unhearing, winner, wins}
use Rattle.i3c_base.specs.Serve.{Frame, Serves, drives, each_driver, emptied, without_front, without_join, without_role}
use Rattle.i3c_base.specs.State.{Device, State, change, device_at, each, has_address, is_the, raised_at}
use Rattle.i3c_base.proofs.Lookups.{attach_from, change_from, drop_off_from, each_from, emptied_from, length-changed}
use Rattle.i3c_step.specs.declared.events.Event.{Event}
use Rattle.i3c_step.specs.declared.events.Event.TheVariants.{Attach, DropOff, Raise, AskJoin, AskRole, Serve, Enec, Disec, Reset, SendList, ReadFrom, WriteTo, SetStatic, SetNew, Get, SetLength, OpenDaa, Round, EndDaa, HandOver}
use Rattle.i3c_step.specs.declared.replies.Reply.{Reply}
use Rattle.i3c_step.specs.Slots.{HasAttached}
use Rattle.i3c_step.specs.Step.{Acts, Step}
use Rattle.i3c_step.proofs.Handing.{IsHandedOver, declined, granted}
use Rattle.i3c_step.proofs.Steps.{step_cases}
use Rattle.i3c_step.proofs.Transfers.{gets_keep, lengths_keep, limited_by, news_keep, reads_keep, statics_keep, writes_keep}

-- a device with an address hears no session
abbrev pub IsDeaf : Device → Type 0
IsDeaf d = is_some d.address ≡ true → d.hearing ≡ false

-- d, which was x, is deaf if x was, and has an address if x had one and it has to keep it
pub record IsLater (keeps : Type 0) (x d : Device) : Type 0 where
  pub deaf : IsDeaf x → IsDeaf d
  pub addressed : keeps → is_some x.address ≡ true → is_some d.address ≡ true

later_same : (keeps : Type 0) (x d : Device) → d.address ≡ x.address → d.hearing ≡ x.hearing → IsLater keeps x d
later_same keeps x d address hearing = record { deaf = λ h a. hearing ∙ h (ap is_some (sym address) ∙ a); addressed = λ k a. ap is_some address ∙ a }

later_if : (keeps : Type 0) (b : Bool) (d e : Device) → IsLater keeps d e → IsLater keeps d (if b then e else d)
later_if keeps true d e h = h
later_if keeps false d e h = later_same keeps d d refl refl

-- the address and whether it hears stay
abbrev IsSame : Device → Device → Type 0
IsSame x d = (d.address ≡ x.address) × (d.hearing ≡ x.hearing)

-- the active controller is the same, and each device was in its slot before; the active controller's keeps its address
pub record Follows (old new : State) : Type 0 where
  pub devices : (s : ℕ) (d : Device) → device_at new s ≡ Some d → (x : Device) × (device_at old s ≡ Some x) × IsLater (s ≡ old.active) x d
  pub active : new.active ≡ old.active
  pub long : length new.devices ≡ length old.devices

pub Follows-refl : (st : State) → Follows st st
Follows-refl st = record { devices = λ s d p. (d, p, later_same _ d d refl refl); active = refl; long = refl }

pub Follows-then : (old mid new : State) → Follows old mid → Follows mid new → Follows old new
Follows-then old mid new h k = record {
  devices = λ s d p. let x = k.devices s d p in let y = h.devices s x.0 x.1 in
      (y.0, y.1, record { deaf = λ t. x.2.deaf (y.2.deaf t); addressed = λ a t. x.2.addressed (a ∙ sym h.active) (y.2.addressed a t) });
  active = k.active ∙ h.active;
  long = k.long ∙ h.long;
}

pub Follows-each : (f : ℕ → Device → Device) (st : State) → ((s : ℕ) (d : Device) → IsLater (s ≡ st.active) d (f s d)) → Follows st (each f st)
Follows-each f st later = record {
  devices = λ s d p. let x = each_from f st s d p in (x.0, x.1, subst (IsLater (s ≡ st.active) x.0) x.2 (later s x.0));
  active = refl;
  long = length-changed (λ s place. option_map (f s) place) st.devices;
}

pub Follows-change : (s : ℕ) (f : Device → Device) (st : State) → ((d : Device) → IsSame d (f d)) → Follows st (change s f st)
Follows-change s f st same = record {
  devices = λ t d p. let x = change_from s f st t d p in
      (x.0, x.1, subst (IsLater (t ≡ st.active) x.0) x.2 (later_if _ (t == s) x.0 (f x.0) (later_same _ x.0 (f x.0) (same x.0).0 (same x.0).1)));
  active = refl;
  long = length-set st.devices s _;
}

pub Follows-emptied : (lost : Lost) (st : State) → Follows st (emptied lost st)
Follows-emptied lost st = record {
  devices = λ s d p. (d, (emptied_from lost st s d p).1, later_same _ d d refl refl);
  active = refl;
  long = length-changed (λ s place. if lost s then None else place) st.devices;
}

pub Follows-drop_off : (s : ℕ) (st : State) → Follows st (drop_off s st)
Follows-drop_off s st = record { devices = λ t d p. (d, (drop_off_from s st t d p).1, later_same _ d d refl refl); active = refl; long = length-set st.devices s None }

Follows-raise : (s : ℕ) (byte : Option ℕ) (st : State) → Follows st (raise s byte st)
Follows-raise s byte st =
    let n = Follows-change s (λ d. record d { waiting = d.waiting ++ record { number = suc (raised_at st s); byte = byte } ∷ [] }) st (λ d. (refl, refl)) in
    record { devices = n.devices; active = refl; long = n.long }

Follows-driver : (r : Request) (f : Device → Device) (st : State) → ((d : Device) → IsSame d (f d)) → Follows st (each_driver r f st)
Follows-driver r f st same = Follows-each (λ s d. if drives st r s then f d else d) st (λ s d. later_if _ (drives st r s) d (f d) (later_same _ d (f d) (same d).0 (same d).1))

pub Follows-serves : (st : State) (policy : Fixed) (lost : Lost) (served : Served) (new : State) → Serves st policy lost served new → Follows st new
Follows-serves st policy lost Quiet new h = subst (Follows st) (sym h.1) (Follows-refl st)
Follows-serves st policy lost Refused new h = subst (Follows st) (sym h.1) (Follows-refl st)
Follows-serves st policy lost Joining new h = subst (Follows st) (sym h.2) (Follows-driver Join without_join st (λ d. (refl, refl)))
Follows-serves st policy lost (WantsRole a) new h = subst (Follows st) (sym h.2) (Follows-driver (Role a) without_role st (λ d. (refl, refl)))
Follows-serves st policy lost (Recorded place) new h = subst (Follows st) (sym h.left)
    (let n = Follows-driver (Interrupt h.at) without_front st (λ d. (refl, refl)) in record { devices = n.devices; active = refl; long = n.long })
Follows-serves st policy lost Torn new h = subst (Follows st) (sym h.left) (Follows-driver (Interrupt h.at) without_front st (λ d. (refl, refl)))

Follows-rekinded : (to : Option ℕ) (f : KindSet → KindSet) (st : State) → Follows st (rekinded to f st)
Follows-rekinded to f st = Follows-each (λ s d. if reaches st to s d then record d { kinds = f d.kinds } else d) st
    (λ s d. later_if _ (reaches st to s d) d (record d { kinds = f d.kinds }) (later_same _ d (record d { kinds = f d.kinds }) refl refl))

pub Follows-rekinds : (to : Option ℕ) (f : KindSet → KindSet) (answer : Answer) (lost : Lost) (mid done : State) → Rekinds to f answer lost mid done → Follows mid done
Follows-rekinds None f answer lost mid done h = subst (Follows mid) (sym h.1) (Follows-rekinded None f mid)
Follows-rekinds (Some a) f answer lost mid done h = elim h [
  | inl e ↦ subst (Follows mid) (sym e.2) (Follows-rekinded (Some a) f mid)
  | inr e ↦ subst (Follows mid) (sym e.2) (Follows-refl mid)
]

pub Follows-written : (a : ℕ) (bytes : List ℕ) (st : State) → Follows st (written a bytes st)
Follows-written a bytes st =
    let n = Follows-each (λ s d. if reaches st (Some a) s d then record d { registers = overwritten bytes d.registers } else d) st
    (λ s d. later_if _ (reaches st (Some a) s d) d (record d { registers = overwritten bytes d.registers }) (later_same _ d (record d { registers = overwritten bytes d.registers }) refl refl)) in
    record { devices = n.devices; active = refl; long = n.long }

pub Follows-with_length : (to : Option ℕ) (way : Direction) (most : ℕ) (st : State) → Follows st (with_length to way most st)
Follows-with_length to way most st =
    let n = Follows-each (λ s d. if reaches st to s d then limited way most d else d) st
    (λ s d. later_if _ (reaches st to s d) d (limited way most d) (limited_by (λ x. IsLater (s ≡ st.active) d x) way most d (later_same (s ≡ st.active) d (record d { most_written = most }) refl refl) (later_same (s ≡ st.active) d (record d { most_read = most }) refl refl))) in
    record { devices = n.devices; active = refl; long = n.long }

-- an address that is given takes none away
pub Follows-with_static : (f : ℕ) (i : Identity) (a : ℕ) (st : State) → Follows st (with_static f i a st)
Follows-with_static f i a st =
    let n = Follows-each (λ s d. if takes_static st.active f s d then winner a d else d) st
    (λ s d. later_if _ (takes_static st.active f s d) d (winner a d) (record { deaf = λ h k. refl; addressed = λ k h. refl })) in
    record { devices = n.devices; active = refl; long = n.long }

-- nor does a new one, whose device hears no session if it had one
pub Follows-with_new : (old a : ℕ) (st : State) → Follows st (with_new old a st)
Follows-with_new old a st =
    let n = Follows-each (λ s d. if reaches st (Some old) s d then readdressed a d else d) st (λ s d. later_moved s d (reaches st (Some old) s d) refl) in
    record { devices = n.devices; active = refl; long = n.long }
  where
    has : (o : Option ℕ) → is_the old o ≡ true → is_some o ≡ true
    has None h = absurd (false≢true h)
    has (Some x) h = refl

    later_moved : (s : ℕ) (d : Device) (b : Bool) → reaches st (Some old) s d ≡ b → IsLater (s ≡ st.active) d (if b then readdressed a d else d)
    later_moved s d true e = record { deaf = λ h k. h (has d.address (and_parts (not (s == st.active)) (has_address old d) e).1); addressed = λ k h. refl }
    later_moved s d false e = later_same _ d d refl refl

-- only a device without an address hears a session that is opened
later_hears : (keeps : Type 0) (d : Device) → IsLater keeps d (hears d)
later_hears keeps d = go d.address refl
  where
    go : (o : Option ℕ) → d.address ≡ o → IsLater keeps d (hears d)
    go None e = subst (IsLater keeps d) (sym (ap (λ (o : Option ℕ). if is_none o then record d { hearing = true } else d) e))
        (record { deaf = λ h a. absurd (both_ways (is_some d.address) (ap is_some e) a); addressed = λ k a. a })
    go (Some a) e = subst (IsLater keeps d) (sym (ap (λ (o : Option ℕ). if is_none o then record d { hearing = true } else d) e)) (later_same keeps d d refl refl)

pub Follows-opened : (st : State) → Follows st (opened st)
Follows-opened st = let n = Follows-each (λ s d. hears d) st (λ s d. later_hears _ d) in record { devices = n.devices; active = refl; long = n.long }

pub Follows-ended : (st : State) → Follows st (ended st)
Follows-ended st = let n = Follows-each (λ s d. unhearing d) st (λ s d. record { deaf = λ h a. refl; addressed = λ k a. a }) in record { devices = n.devices; active = refl; long = n.long }

-- a reset leaves the active controller its address
later_reset : (s active : ℕ) (d : Device) (b : Bool) → (s == active) ≡ b → IsLater (s ≡ active) d (if b then without_role d else unaddressed_device d)
later_reset s active d true e = later_same _ d (without_role d) refl refl
later_reset s active d false e = record {
  deaf = λ h a. absurd (both_ways _ refl a);
  addressed = λ k a. absurd (both_ways (s == active) e (eq-eqb s active k));
}

pub Follows-reset : (st : State) → Follows st (reset st)
Follows-reset st =
    let n = Follows-each (λ s d. if s == st.active then without_role d else unaddressed_device d) st (λ s d. later_reset s st.active d (s == st.active) refl) in
    record { devices = n.devices; active = refl; long = n.long }

pub Follows-list : (st : State) → Follows st (list st)
Follows-list st = record { devices = λ s d p. (d, p, later_same _ d d refl refl); active = refl; long = refl }

Follows-assigned : (lost : Lost) (i : Identity) (a : ℕ) (st : State) → Follows st (assigned lost i a st)
Follows-assigned lost i a st =
    let n = Follows-each (λ s d. if wins lost i s d then winner a d else d) st (λ s d. later_if _ (wins lost i s d) d (winner a d) (record { deaf = λ h k. refl; addressed = λ k h. refl })) in
    record { devices = n.devices; active = refl; long = n.long }

pub Follows-round : (old : State) (cuts : CutList) (answer : RoundReply) (new : State) → Rounds old cuts answer new → Follows old new
Follows-round old cuts RoundReply.NoAddress new h = subst (Follows old) (sym h.1) (Follows-refl old)
Follows-round old cuts RoundReply.Done new h = subst (Follows old) (sym h.2) (Follows-emptied _ old)
Follows-round old cuts RoundReply.Nobody new h = subst (Follows old) (sym h.3) (Follows-emptied _ old)
Follows-round old cuts (RoundReply.Assigned a i) new h =
    subst (Follows old) (sym h.3) (Follows-then old (assigned (lost_by cuts 73) i a old) _ (Follows-assigned (lost_by cuts 73) i a old) (Follows-emptied _ (assigned (lost_by cuts 73) i a old)))

Follows-frame : (old : State) (policy : Fixed) (cuts : CutList) (served : Served) (rest : ℕ) (Own : Lost → State → State → Type 0) (new : State)
    → ((lost : Lost) (mid done : State) → Own lost mid done → Follows mid done) → Frame old policy cuts served rest Own new → Follows old new
Follows-frame old policy cuts served rest Own new own frame =
    let mid : Follows old frame.mid = Follows-serves old policy _ served frame.mid frame.serves in
    let done : Follows old frame.done = Follows-then old frame.mid frame.done mid (own _ frame.mid frame.done frame.own) in
    subst (Follows old) (sym frame.left) (Follows-then old frame.done _ done (Follows-emptied _ frame.done))

-- a device of a later state was attached there, or was there; the active controller's has the address that it had
abbrev pub Came : State → Event → Reply → State → Type 0
Came old event reply new =
    (s : ℕ) (d : Device) → device_at new s ≡ Some d → (HasAttached event reply s × IsDeaf d) ⊎ ((x : Device) × (device_at old s ≡ Some x) × IsLater (s ≡ new.active) x d)

came : (old : State) (event : Event) (reply : Reply) (new : State) → Follows old new → Came old event reply new × (length new.devices ≡ length old.devices)
came old event reply new h = (
  λ s d p. let x = h.devices s d p in inr (x.0, x.1, record { deaf = x.2.deaf; addressed = λ k. x.2.addressed (k ∙ h.active) }),
  h.long,
)

-- a role that is handed over leaves the devices in their slots
came_handed : (old : State) (to : ℕ) (cuts : CutList) (reply : Reply) (new : State) → IsHandedOver old to cuts new → Came old (HandOver to cuts) reply new × (length new.devices ≡ length old.devices)
came_handed old to cuts reply new h = (
  λ s d p.
      let left = emptied_from (lost_by cuts h.last) (handed h.slot to old) s d (subst (λ (st : State). device_at st s ≡ Some d) h.after p) in
      let x = change_from h.slot without_role old s d left.1 in
      inr (x.0, x.1, subst (IsLater (s ≡ new.active) x.0) x.2 (later_if _ (s == h.slot) x.0 (without_role x.0) (later_same _ x.0 (without_role x.0) refl refl))),
  ap (λ (st : State). length st.devices) h.after ∙ (length-changed (λ s place. if lost_by cuts h.last s then None else place) (handed h.slot to old).devices ∙ length-set old.devices h.slot _),
)

Came-acts : (old : State) (event : Event) (reply : Reply) (new : State) → Acts old event reply new → Came old event reply new × (length new.devices ≡ length old.devices)
Came-acts old (Attach s setup) reply new h = (
  λ t d p. elim (attach_from s setup old t d (subst (λ (st : State). device_at st t ≡ Some d) h.1 p)) [
    | inl e ↦ inl ((setup, ap (λ k. Attach k setup) (sym e.0), h.0), subst IsDeaf e.1 (λ a. absurd (both_ways _ refl a)))
    | inr e ↦ inr (d, e, later_same _ d d refl refl)
  ],
  ap (λ (st : State). length st.devices) h.1 ∙ length-set old.devices s _,
)
Came-acts old (DropOff s) reply new h = came old (DropOff s) reply new (subst (Follows old) (sym h.1) (Follows-drop_off s old))
Came-acts old (Raise s byte) reply new h = came old (Raise s byte) reply new (subst (Follows old) (sym h.1) (Follows-raise s byte old))
Came-acts old (AskJoin s) reply new h = came old (AskJoin s) reply new
    (subst (Follows old) (sym h.1) (Follows-change s (λ d. record d { join_wish = true }) old (λ d. (refl, refl))))
Came-acts old (Serve policy cuts) reply new h = came old (Serve policy cuts) reply new
    (Follows-frame old policy cuts _ _ _ new (λ lost mid done e. subst (Follows mid) (sym e) (Follows-refl mid)) h.2)
Came-acts old (Enec to kinds policy cuts) reply new h = came old (Enec to kinds policy cuts) reply new (Follows-frame old policy cuts _ _ _ new (Follows-rekinds to _ _) h.2)
Came-acts old (Disec to kinds policy cuts) reply new h = came old (Disec to kinds policy cuts) reply new (Follows-frame old policy cuts _ _ _ new (Follows-rekinds to _ _) h.2)
Came-acts old (AskRole s) reply new h = came old (AskRole s) reply new
    (subst (Follows old) (sym h.1) (Follows-change s (λ d. record d { role_wish = true }) old (λ d. (refl, refl))))
Came-acts old (Reset policy cuts) reply new h = came old (Reset policy cuts) reply new
    (Follows-frame old policy cuts _ _ _ new (λ lost mid done e. subst (Follows mid) (sym e) (Follows-reset mid)) h.2)
Came-acts old (SendList policy cuts) reply new h = came old (SendList policy cuts) reply new
    (Follows-frame old policy cuts _ _ _ new (λ lost mid done e. subst (Follows mid) (sym e) (Follows-list mid)) h.2)
Came-acts old (ReadFrom a policy cuts) reply new h = came old (ReadFrom a policy cuts) reply new
    (Follows-frame old policy cuts _ _ _ new (reads_keep Follows Follows-refl a h.0.answer) h.2)
Came-acts old (WriteTo a bytes policy cuts) reply new h = came old (WriteTo a bytes policy cuts) reply new
    (Follows-frame old policy cuts _ _ _ new (writes_keep Follows a bytes.items Follows-refl (Follows-written a bytes.items) h.0.answer) h.2)
Came-acts old (SetStatic f to policy cuts) reply new h = came old (SetStatic f to policy cuts) reply new
    (Follows-frame old policy cuts _ _ _ new (statics_keep Follows f to Follows-refl (λ i st. Follows-with_static f i to st) h.0.answer) h.2)
Came-acts old (SetNew a to policy cuts) reply new h = came old (SetNew a to policy cuts) reply new
    (Follows-frame old policy cuts _ _ _ new (news_keep Follows a to Follows-refl (Follows-with_new a to) h.0.answer) h.2)
Came-acts old (Get what a policy cuts) reply new h = came old (Get what a policy cuts) reply new
    (Follows-frame old policy cuts _ _ _ new (gets_keep Follows Follows-refl what a h.0.answer) h.2)
Came-acts old (SetLength way most to policy cuts) reply new h = came old (SetLength way most to policy cuts) reply new
    (Follows-frame old policy cuts _ _ _ new (lengths_keep Follows to way most Follows-refl (Follows-with_length to way most) h.0.answer) h.2)
Came-acts old (OpenDaa cuts) reply new h = came old (OpenDaa cuts) reply new
    (Follows-frame old _ cuts _ _ _ new (λ lost mid done e. subst (Follows mid) (sym e) (Follows-opened mid)) h.2)
Came-acts old (Round cuts) reply new h = came old (Round cuts) reply new (Follows-round old cuts h.0 new h.2)
Came-acts old (HandOver to cuts) reply new h = elim h [
  | inl g ↦ came_handed old to cuts reply new (granted old to cuts reply new g)
  | inr g ↦ let x = declined old to cuts reply new g in came old (HandOver to cuts) reply new (subst (Follows old) (sym x.1) (Follows-emptied (lost_by cuts x.0) old))
]
Came-acts old EndDaa reply new h = came old EndDaa reply new (subst (Follows old) (sym h.1) (Follows-ended old))

-- what holds of each step
pub Came-step : (old : State) (event : Event) (reply : Reply) (new : State) → Step old event reply new → Came old event reply new × (length new.devices ≡ length old.devices)
Came-step old event reply new h =
    step_cases old event reply new h (λ idle e. came old event reply new (subst (Follows old) (sym e) (Follows-refl old))) (λ free acts. Came-acts old event reply new acts)
