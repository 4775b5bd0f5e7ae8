-- The numbers of a bus fit their types, whatever happens on it.
use Rattle.std.proofs.lemmas.List.Elements.{All-append, All-drop}
use Rattle.std.proofs.lemmas.Option.{none-some, same_Some}
use Rattle.std.proofs.Common.{◌≡◌, ◌∙◌, ℕ, ◌==◌, Bool, true, false, List, All, Option, Some, None, length, drop, get_or, set, option_map, if◌then◌else◌, is_none, arith, inl, inr, ap, refl, sym, subst}
use Rattle.i3c_base.specs.declared.answers.Answer.{Answer}
use Rattle.i3c_base.specs.declared.answers.RoundReply.{RoundReply}
use Rattle.i3c_base.specs.declared.datum.Direction.{Direction}
use Rattle.i3c_base.specs.declared.device.LegacyTarget.{LegacyTarget}
use Rattle.i3c_base.specs.declared.device.Setup.{Setup}
use Rattle.i3c_base.specs.declared.identity.Identity.{Identity}
use Rattle.i3c_base.specs.declared.requests.Fixed.{Fixed}
use Rattle.i3c_base.specs.declared.requests.Request.{Request}
use Rattle.i3c_base.specs.declared.requests.Served.{Served}
use Rattle.i3c_base.specs.declared.requests.Served.TheVariants.{Quiet, Recorded, Refused, Torn, Joining, WantsRole}
use Rattle.i3c_base.specs.Cutting.{CutList, Lost, lost_by}
use Rattle.i3c_base.specs.Frames.{Rekinds, active_has, handed, legacy_written, limited, list, overwritten, reaches, readdressed, rekinded, released_at, reset, takes_static, unaddressed_device, with_length, with_new, with_static, written, Reads, SetsNew, SetsStatic, Writes}
use Rattle.i3c_base.specs.Local.{attach, drop_off, raise}
use Rattle.i3c_base.specs.Numbers.{IsInRange, KindSet}
use Rattle.i3c_base.specs.Round.{Rounds, assigned, ended, opened, unhearing, winner, wins}
use Rattle.i3c_base.specs.Serve.{Frame, Serves, drives, each_driver, emptied, without_front, without_join, without_role}
use Rattle.i3c_base.specs.State.{Device, Entry, State, change, declared_at, declared_in, device_at, each, entry_at, entry_in, kept_entry_of, known_in, legacy_target_at, released, taken_over, unkept}
use Rattle.i3c_base.proofs.Lookups.{attach_from, change_from, changed_at, drop_off_from, each_from, emptied_from, option_map_from, set_from, taken_over_at}
use Rattle.i3c_base.proofs.StaticLaws.{declared_at_fixed}
use Rattle.i3c_step.specs.declared.events.Event.{Event}
use Rattle.i3c_step.specs.declared.events.Event.TheVariants.{Attach, DropOff, Raise, AskJoin, AskRole, Serve, Enec, Disec, Reset, SendList, ReadFrom, WriteTo, SetStatic, SetNew, Get, SetLength, OpenDaa, Round, EndDaa, HandOver}
use Rattle.i3c_step.specs.declared.replies.Reply.{Reply}
use Rattle.i3c_step.specs.Step.{Acts, Step}
use Rattle.i3c_step.proofs.Handing.{declined, granted}
use Rattle.i3c_step.proofs.Maps.{cond_kept_from}
use Rattle.i3c_step.proofs.Steps.{step_cases}
use Rattle.i3c_step.proofs.Transfers.{gets_keep, lengths_keep}
use Rattle.i3c_wire_laws.specs.Fitting.{EntryFits, EventFits, Fits, IsByte, TargetFits}
use Rattle.i3c_wire_laws.proofs.Addressing.{static_low}

-- the identities of devices
abbrev DevicesFit : State → Type 0
DevicesFit st = (s : ℕ) (d : Device) → device_at st s ≡ Some d → IsInRange d.identity

-- what a table keeps
abbrev GivenFit : List (Option Entry) → Type 0
GivenFit given = (a : ℕ) (e : Entry) → entry_in given a ≡ Some e → EntryFits e

-- the legacy targets
abbrev TargetsFit : List (Option LegacyTarget) → Type 0
TargetsFit targets = (a : ℕ) (target : LegacyTarget) → get_or targets a None ≡ Some target → TargetFits a target

-- a state with devices and a table that fit, and with the same targets and declarations
fits_with : (old new : State) → DevicesFit new → GivenFit new.given → TargetsFit new.legacy → new.declared ≡ old.declared → Fits old → Fits new
fits_with old new devices entries targets same fits = record {
  devices = devices;
  entries = entries;
  targets = targets;
  declared = λ a i e. fits.declared a i (sym (ap (λ ds. declared_in ds a) same) ∙ e);
}

-- one where devices alone have changed
fits_devices : (old new : State) → DevicesFit new → new.given ≡ old.given → new.legacy ≡ old.legacy → new.declared ≡ old.declared → Fits old → Fits new
fits_devices old new devices given legacy same fits =
    fits_with old new devices (subst GivenFit (sym given) fits.entries) (subst TargetsFit (sym legacy) fits.targets) same fits

-- devices that keep their identities
devices_each : (f : ℕ → Device → Device) (st : State) → ((s : ℕ) (d : Device) → (f s d).identity ≡ d.identity) → DevicesFit st → DevicesFit (each f st)
devices_each f st keeps fit s d p =
    let w = each_from f st s d p in
    let same : d.identity ≡ w.0.identity = ap (λ (x : Device). x.identity) (sym w.2) ∙ keeps s w.0 in
    subst IsInRange (sym same) (fit s w.0 w.1)

either : (b : Bool) (d e : Device) → e.identity ≡ d.identity → (if b then e else d).identity ≡ d.identity
either true d e h = h
either false d e h = refl

fits_each : (f : ℕ → Device → Device) (st : State) → ((s : ℕ) (d : Device) → (f s d).identity ≡ d.identity) → Fits st → Fits (each f st)
fits_each f st keeps fits = fits_devices st (each f st) (devices_each f st keeps fits.devices) refl refl refl fits

devices_change : (s : ℕ) (f : Device → Device) (st : State) → ((d : Device) → (f d).identity ≡ d.identity) → DevicesFit st → DevicesFit (change s f st)
devices_change s f st keeps fit t d p =
    let w = change_from s f st t d p in
    let same : d.identity ≡ w.0.identity = ap (λ (x : Device). x.identity) (sym w.2) ∙ either (t == s) w.0 (f w.0) (keeps w.0) in
    subst IsInRange (sym same) (fit t w.0 w.1)

fits_emptied : (lost : Lost) (st : State) → Fits st → Fits (emptied lost st)
fits_emptied lost st fits = fits_devices st (emptied lost st) (λ s d p. fits.devices s d (emptied_from lost st s d p).1) refl refl refl fits

fits_attach : (s : ℕ) (setup : Setup) (st : State) → IsInRange setup.identity → Fits st → Fits (attach s setup st)
fits_attach s setup st brings fits = fits_devices st (attach s setup st) (λ t d p. elim (attach_from s setup st t d p) [
  | inl e ↦ subst (λ (x : Device). IsInRange x.identity) e.1 brings
  | inr e ↦ fits.devices t d e
]) refl refl refl fits

fits_drop_off : (s : ℕ) (st : State) → Fits st → Fits (drop_off s st)
fits_drop_off s st fits = fits_devices st (drop_off s st) (λ t d p. fits.devices t d (drop_off_from s st t d p).1) refl refl refl fits

fits_change : (s : ℕ) (f : Device → Device) (st : State) → ((d : Device) → (f d).identity ≡ d.identity) → Fits st → Fits (change s f st)
fits_change s f st keeps fits = fits_devices st (change s f st) (devices_change s f st keeps fits.devices) refl refl refl fits

fits_raise : (s : ℕ) (byte : Option ℕ) (st : State) → Fits st → Fits (raise s byte st)
fits_raise s byte st fits = fits_devices st (raise s byte st) (devices_change s _ st (λ d. refl) fits.devices) refl refl refl fits

fits_driver : (r : Request) (f : Device → Device) (st : State) → ((d : Device) → (f d).identity ≡ d.identity) → Fits st → Fits (each_driver r f st)
fits_driver r f st keeps = fits_each (λ s d. if drives st r s then f d else d) st (λ s d. either (drives st r s) d (f d) (keeps d))

fits_serves : (st : State) (policy : Fixed) (lost : Lost) (served : Served) (new : State) → Serves st policy lost served new → Fits st → Fits new
fits_serves st policy lost Quiet new h fits = subst Fits (sym h.1) fits
fits_serves st policy lost Refused new h fits = subst Fits (sym h.1) fits
fits_serves st policy lost Joining new h fits = subst Fits (sym h.2) (fits_driver Request.Join without_join st (λ d. refl) fits)
fits_serves st policy lost (WantsRole a) new h fits = subst Fits (sym h.2) (fits_driver (Request.Role a) without_role st (λ d. refl) fits)
fits_serves st policy lost (Recorded place) new h fits =
    let driven = each_driver (Request.Interrupt h.at) without_front st in
    let all : Fits driven = fits_driver (Request.Interrupt h.at) without_front st (λ d. refl) fits in
    subst Fits (sym h.left) (fits_devices driven _ all.devices refl refl refl all)
fits_serves st policy lost Torn new h fits = subst Fits (sym h.left) (fits_driver (Request.Interrupt h.at) without_front st (λ d. refl) fits)

fits_rekinded : (to : Option ℕ) (f : KindSet → KindSet) (st : State) → Fits st → Fits (rekinded to f st)
fits_rekinded to f st = fits_each _ st (λ s d. either (reaches st to s d) d (record d { kinds = f d.kinds }) refl)

fits_rekinds : (to : Option ℕ) (f : KindSet → KindSet) (answer : Answer) (lost : Lost) (mid done : State) → Rekinds to f answer lost mid done → Fits mid → Fits done
fits_rekinds None f answer lost mid done h fits = subst Fits (sym h.1) (fits_rekinded None f mid fits)
fits_rekinds (Some a) f answer lost mid done h fits = elim h [
  | inl k ↦ subst Fits (sym k.2) (fits_rekinded (Some a) f mid fits)
  | inr k ↦ subst Fits (sym k.2) fits
]

-- SETMWL and SETMRL
limited_same : (way : Direction) (most : ℕ) (d : Device) → (limited way most d).identity ≡ d.identity
limited_same Direction.Write most d = refl
limited_same Direction.Read most d = refl

fits_length : (to : Option ℕ) (way : Direction) (most : ℕ) (st : State) → Fits st → Fits (with_length to way most st)
fits_length to way most st = fits_each _ st (λ s d. either (reaches st to s d) d (limited way most d) (limited_same way most d))

-- an entry more in a table, or one less
pub given_set : (given : List (Option Entry)) (a : ℕ) (o : Option Entry) → ((e : Entry) → o ≡ Some e → EntryFits e) → GivenFit given → GivenFit (set given a o)
given_set given a o fits all b e h = elim (set_from given a b o e h) [ inl x ↦ fits e x.1 | inr x ↦ all b e x ]

-- the entry of an identity whose numbers fit
kept_fits : (st : State) (i : Identity) (e : Entry) → Fits st → IsInRange i → Some (kept_entry_of st.declared i) ≡ Some e → EntryFits e
kept_fits st i e fits range h = subst EntryFits (same_Some (kept_entry_of st.declared i) e h) (record {
  bcr = range.1;
  dcr = range.2;
  fixed = λ f k. let low = static_low f (fits.declared f i (declared_at_fixed st.declared i f k)).0 in omega (arith, low);
})

released_fits : (o : Option Entry) (e : Entry) → ((k : Entry) → o ≡ Some k → EntryFits k) → option_map released o ≡ Some e → EntryFits e
released_fits o e all h =
    let w = option_map_from released o e h in
    let fits = all w.0 w.1 in
    subst EntryFits w.2 (record { bcr = fits.bcr; dcr = fits.dcr; fixed = λ f k. absurd (none-some f k) })

released_given : (o : Option ℕ) (given : List (Option Entry)) → GivenFit given → GivenFit (released_at o given)
released_given None given all = all
released_given (Some a) given all = given_set given a (option_map released (entry_in given a)) (λ e h. released_fits (entry_in given a) e (all a) h) all

-- SETDASA
fits_static : (f : ℕ) (i : Identity) (a : ℕ) (st : State) → declared_at st f ≡ Some i → Fits st → Fits (with_static f i a st)
fits_static f i a st declared fits =
    let range = (fits.declared f i declared).1 in
    fits_with st (with_static f i a st) (devices_each _ st (λ s d. either (takes_static st.active f s d) d (winner a d) refl) fits.devices)
    (given_set (released_at (known_in st.given i) st.given) a (Some (kept_entry_of st.declared i)) (λ e h. kept_fits st i e fits range h) (released_given (known_in st.given i) st.given fits.entries))
    fits.targets refl fits

-- SETNEWDA
fits_new : (old a : ℕ) (st : State) → Fits st → Fits (with_new old a st)
fits_new old a st fits =
    fits_with st (with_new old a st) (devices_each _ st (λ s d. either (reaches st (Some old) s d) d (readdressed a d) refl) fits.devices)
    (given_set (set st.given old None) a (entry_in st.given old) (fits.entries old) (given_set st.given old None (λ e h. absurd (none-some e h)) fits.entries)) fits.targets refl fits

-- a target whose registers are written
target_written : (a : ℕ) (bytes : List ℕ) (o : Option LegacyTarget) (target : LegacyTarget) → All IsByte bytes → ((was : LegacyTarget) → o ≡ Some was → TargetFits a was)
    → legacy_written bytes o ≡ Some target → TargetFits a target
target_written a bytes None target small all h = absurd (none-some target h)
target_written a bytes (Some was) target small all h =
    let fits = all was refl in
    subst (TargetFits a) (same_Some _ target h) (record {
      static = fits.static;
      lvr = fits.lvr;
      registers = All-append IsByte bytes (drop (length bytes) was.registers) small (All-drop IsByte (length bytes) was.registers fits.registers);
    })

fits_written : (a : ℕ) (bytes : List ℕ) (st : State) → All IsByte bytes → Fits st → Fits (written a bytes st)
fits_written a bytes st small fits =
    fits_with st (written a bytes st) (devices_each _ st (λ s d. either (reaches st (Some a) s d) d (record d { registers = overwritten bytes d.registers }) refl) fits.devices)
    fits.entries
    (λ b target h. elim (set_from st.legacy a b (legacy_written bytes (legacy_target_at st a)) target h) [
      | inl x ↦ subst (λ c. TargetFits c target) (sym x.0) (target_written a bytes (legacy_target_at st a) target small (fits.targets a) x.1)
      | inr x ↦ fits.targets b target x
    ]) refl fits

fits_assigned : (lost : Lost) (i : Identity) (a : ℕ) (st : State) → IsInRange i → Fits st → Fits (assigned lost i a st)
fits_assigned lost i a st range fits =
    fits_with st (assigned lost i a st) (devices_each _ st (λ s d. either (wins lost i s d) d (winner a d) refl) fits.devices)
    (given_set st.given a (Some (kept_entry_of st.declared i)) (λ e h. kept_fits st i e fits range h) fits.entries) fits.targets refl fits

fits_round : (old : State) (cuts : CutList) (answer : RoundReply) (new : State) → Rounds old cuts answer new → Fits old → Fits new
fits_round old cuts RoundReply.NoAddress new h fits = subst Fits (sym h.1) fits
fits_round old cuts RoundReply.Done new h fits = subst Fits (sym h.2) (fits_emptied _ old fits)
fits_round old cuts RoundReply.Nobody new h fits = subst Fits (sym h.3) (fits_emptied _ old fits)
fits_round old cuts (RoundReply.Assigned a i) new h fits =
    let won = h.1.0 in
    let range : IsInRange i = subst IsInRange won.4 (fits.devices won.0 won.1 won.2.0) in
    subst Fits (sym h.3) (fits_emptied (lost_by cuts 73) (assigned (lost_by cuts 73) i a old) (fits_assigned (lost_by cuts 73) i a old range fits))

-- RSTDAA
fits_reset : (st : State) → Fits st → Fits (reset st)
fits_reset st fits = fits_with st (reset st) (devices_each _ st (λ s d. go (s == st.active) d) fits.devices) entries fits.targets refl fits
  where
    go : (b : Bool) (d : Device) → (if b then without_role d else unaddressed_device d).identity ≡ d.identity
    go true d = refl
    go false d = refl

    none : (b : Bool) → (if b then option_map unkept None else None) ≡ None
    none true = refl
    none false = refl

    entries : GivenFit (reset st).given
    entries a e h =
        let at = changed_at (λ a place. if active_has st a then option_map unkept place else None) st.given a None (none (active_has st a)) in
        let w = option_map_from unkept (entry_at st a) e (cond_kept_from (active_has st a) (option_map unkept (entry_at st a)) e (sym at ∙ h)).1 in
        let f = fits.entries a w.0 w.1 in
        subst EntryFits w.2 (record { bcr = f.bcr; dcr = f.dcr; fixed = f.fixed })

-- GETACCCR
fits_handed : (s own : ℕ) (st : State) → Fits st → Fits (handed s own st)
fits_handed s own st fits = fits_with st (handed s own st) (devices_change s without_role st (λ d. refl) fits.devices) entries fits.targets refl fits
  where
    entries : GivenFit (taken_over st.declared own st.given)
    entries a e h =
        let w = option_map_from _ (entry_at st a) e (sym (taken_over_at st.declared own st.given a) ∙ h) in
        let f = fits.entries a w.0 w.1 in
        subst EntryFits w.2 (record { bcr = f.bcr; dcr = f.dcr; fixed = f.fixed })

-- a frame keeps what its own part keeps
fits_frame : (old : State) (policy : Fixed) (cuts : CutList) (served : Served) (rest : ℕ) (Own : Lost → State → State → Type 0) (new : State)
    → ((lost : Lost) (mid done : State) → Own lost mid done → Fits mid → Fits done) → Frame old policy cuts served rest Own new → Fits old → Fits new
fits_frame old policy cuts served rest Own new own f fits =
    subst Fits (sym f.left) (fits_emptied _ f.done (own _ f.mid f.done f.own (fits_serves old policy _ served f.mid f.serves fits)))

-- private transfers, and frames that give an address
fits_reads : (a : ℕ) (answer : Answer) (lost : Lost) (mid done : State) → Reads a answer lost mid done → Fits mid → Fits done
fits_reads a (Answer.Bytes bytes) lost mid done h fits = subst Fits (sym h.1) fits
fits_reads a (Answer.NoAnswer b) lost mid done h fits = subst Fits (sym h.2) fits
fits_reads a Answer.NoEnd lost mid done h fits = subst Fits (sym h.2) fits
fits_reads a Answer.Done lost mid done h fits = absurd h

fits_writes : (a : ℕ) (bytes : List ℕ) → All IsByte bytes → (answer : Answer) (lost : Lost) (mid done : State) → Writes a bytes answer lost mid done → Fits mid → Fits done
fits_writes a bytes small Answer.Done lost mid done h fits = subst Fits (sym h.1) (fits_written a bytes mid small fits)
fits_writes a bytes small (Answer.NoAnswer b) lost mid done h fits = subst Fits (sym h.2) fits
fits_writes a bytes small (Answer.Bytes read) lost mid done h fits = absurd h
fits_writes a bytes small Answer.NoEnd lost mid done h fits = absurd h

fits_statics : (f a : ℕ) (answer : Answer) (lost : Lost) (mid done : State) → SetsStatic f a answer lost mid done → Fits mid → Fits done
fits_statics f a answer lost mid done h fits = elim h [
  | inl e ↦ subst Fits (sym e.2.2) (fits_static f e.2.0 a mid e.2.1 fits)
  | inr e ↦ subst Fits (sym e.2) fits
]

fits_news : (old a : ℕ) (answer : Answer) (lost : Lost) (mid done : State) → SetsNew old a answer lost mid done → Fits mid → Fits done
fits_news old a answer lost mid done h fits = elim h [
  | inl e ↦ subst Fits (sym e.2) (fits_new old a mid fits)
  | inr e ↦ subst Fits (sym e.2) fits
]

fits_acts : (old : State) (event : Event) (reply : Reply) (new : State) → EventFits event → Acts old event reply new → Fits old → Fits new
fits_acts old (Attach s setup) reply new brings h fits = subst Fits (sym h.1) (fits_attach s setup old brings fits)
fits_acts old (DropOff s) reply new brings h fits = subst Fits (sym h.1) (fits_drop_off s old fits)
fits_acts old (Raise s byte) reply new brings h fits = subst Fits (sym h.1) (fits_raise s byte old fits)
fits_acts old (AskJoin s) reply new brings h fits = subst Fits (sym h.1) (fits_change s _ old (λ d. refl) fits)
fits_acts old (AskRole s) reply new brings h fits = subst Fits (sym h.1) (fits_change s _ old (λ d. refl) fits)
fits_acts old (Serve policy cuts) reply new brings h fits = fits_frame old policy cuts h.0 _ _ new (λ lost mid done e f. subst Fits (sym e) f) h.2 fits
fits_acts old (Enec to kinds policy cuts) reply new brings h fits = fits_frame old policy cuts h.0.served _ _ new (fits_rekinds to _ _) h.2 fits
fits_acts old (Disec to kinds policy cuts) reply new brings h fits = fits_frame old policy cuts h.0.served _ _ new (fits_rekinds to _ _) h.2 fits
fits_acts old (Reset policy cuts) reply new brings h fits = fits_frame old policy cuts h.0 _ _ new (λ lost mid done e f. subst Fits (sym e) (fits_reset mid f)) h.2 fits
fits_acts old (SendList policy cuts) reply new brings h fits =
    fits_frame old policy cuts h.0 _ _ new (λ lost mid done e f. subst Fits (sym e) (fits_devices mid (list mid) f.devices refl refl refl f)) h.2 fits
fits_acts old (ReadFrom a policy cuts) reply new brings h fits = fits_frame old policy cuts h.0.served _ _ new (fits_reads a h.0.answer) h.2 fits
fits_acts old (WriteTo a bytes policy cuts) reply new brings h fits = fits_frame old policy cuts h.0.served _ _ new (fits_writes a bytes.items brings h.0.answer) h.2 fits
fits_acts old (SetStatic f to policy cuts) reply new brings h fits = fits_frame old policy cuts h.0.served _ _ new (fits_statics f to h.0.answer) h.2 fits
fits_acts old (SetNew a to policy cuts) reply new brings h fits = fits_frame old policy cuts h.0.served _ _ new (fits_news a to h.0.answer) h.2 fits
fits_acts old (Get what a policy cuts) reply new brings h fits =
    fits_frame old policy cuts h.0.served _ _ new (gets_keep (λ mid done. Fits mid → Fits done) (λ st f. f) what a h.0.answer) h.2 fits
fits_acts old (SetLength way most to policy cuts) reply new brings h fits =
    fits_frame old policy cuts h.0.served _ _ new (lengths_keep (λ mid done. Fits mid → Fits done) to way most (λ st f. f) (fits_length to way most) h.0.answer) h.2 fits
fits_acts old (OpenDaa cuts) reply new brings h fits =
    fits_frame old _ cuts h.0 _ _ new (λ lost mid done e f. subst Fits (sym e) (fits_devices mid (opened mid) (devices_each _ mid (λ s d. either (is_none d.address) d (record d { hearing = true }) refl) f.devices) refl refl refl f)) h.2 fits
fits_acts old (HandOver to cuts) reply new brings h fits = elim h [
  | inl g ↦ let x = granted old to cuts reply new g in subst Fits (sym x.after) (fits_emptied (lost_by cuts x.last) (handed x.slot to old) (fits_handed x.slot to old fits))
  | inr g ↦ let x = declined old to cuts reply new g in subst Fits (sym x.1) (fits_emptied (lost_by cuts x.0) old fits)
]
fits_acts old (Round cuts) reply new brings h fits = fits_round old cuts h.0 new h.2 fits
fits_acts old EndDaa reply new brings h fits = subst Fits (sym h.1) (fits_devices old (ended old) (devices_each (λ s d. unhearing d) old (λ s d. refl) fits.devices) refl refl refl fits)

-- a step keeps them
pub fits_step : (old : State) (event : Event) (reply : Reply) (new : State) → EventFits event → Step old event reply new → Fits old → Fits new
fits_step old event reply new brings h fits = step_cases old event reply new h (λ idle e. subst Fits (sym e) fits) (λ free acts. fits_acts old event reply new brings acts fits)
