-- The abstract bus that the maps are seen as: its contents, and how they change.
use Rattle.std.proofs.Common.{◌≡◌, IsSome, Bor, ℕ, suc, ◌<◌, true, not, ◌&&◌, ◌==◌, List, [], ◌∷◌, ◌++◌, map, get_or, set, Option, Some, None, Result, Ok, Err, OnErr, Global, Vec, option_map, is_some, ◌↔◌, if◌then◌else◌, sym, refl, ap, ◌∙◌, subst}
use Rattle.std.specs.List.{filter}
use Rattle.std.specs.Option.{option_copied}
use Rattle.std.specs.Ordering.{nat_cmp}
use Rattle.std.specs.BTreeMap.{BTreeMap, Updates, WritesThrough, get}
use Rattle.std.proofs.lemmas.Bool.{false≢true}
use Rattle.std.proofs.lemmas.List.{set-get_or}
use Rattle.std.proofs.lemmas.Option.{none-some}
use Rattle.i3c_base.specs.declared.requests.Request.{Request}
use Rattle.i3c_base.specs.declared.range.TheConstants.{ADDRESSES, SLOTS}
use Rattle.i3c_base.specs.Cutting.{Lost}
use Rattle.i3c_base.specs.declared.requests.Record.{Record}
use Rattle.i3c_base.specs.Local.{raise}
use Rattle.i3c_base.specs.Places.{changed}
use Rattle.i3c_base.specs.declared.device.LegacyTarget.{LegacyTarget}
use Rattle.i3c_base.specs.Frames.{legacy_written, overwritten}
use Rattle.i3c_base.specs.Serve.{asks, drives, emptied, recorded}
use Rattle.i3c_base.specs.State.{change, Device, Entry, State, declared_at, device_at, each, entry_at, in_slot, legacy_target_at, raised_at}
use Rattle.i3c_model.specs.declared.plain.Plain.TheInside.{Inside}
use Rattle.i3c_model.specs.Views.{IsKeyedBelow, IsWithinPlaces, places_of, state_of}
use Rattle.i3c_model.proofs.PlaceLaws.{below_put, written_puts, places_at, places_changed, places_left, places_put, places_same}

-- what is lent is what is there
pub lent_seen : {A : Type 0} (r : Option (Bor A)) → option_copied r ≡ option_map (λ d. d.now) r
lent_seen None = refl
lent_seen (Some d) = refl

-- what holds anyway holds after an error
pub after_error : {T E P : Type 0} (r : Result T E) → P → OnErr r P
after_error (Ok x) h = tt
after_error (Err e) h = h

-- an option is some exactly where it has a value
pub is_there : {A : Type 0} (o p : Option A) → p ≡ o → is_some o ≡ true ↔ ((y : A) × (p ≡ Some y))
is_there None p e = (λ h. absurd (false≢true h), λ h. absurd (none-some h.0 (sym e ∙ h.1)))
is_there (Some x) p e = (λ h. (x, e), λ h. refl)

-- no key is new
pub within_fewer : (p q : Inside) → (q.legacy ≡ p.legacy) × (q.declared ≡ p.declared) → ((k : ℕ) → IsSome (get nat_cmp q.devices k) → IsSome (get nat_cmp p.devices k)) → ((k : ℕ) → IsSome (get nat_cmp q.given k) → IsSome (get nat_cmp p.given k)) → IsWithinPlaces p → IsWithinPlaces q
within_fewer p q same devices given within =
    record {
      slots = λ k h. within.slots k (devices k h);
      statics = subst (IsKeyedBelow ADDRESSES) (sym same.0) within.statics;
      declarations = subst (IsKeyedBelow ADDRESSES) (sym same.1) within.declarations;
      addresses = λ k h. within.addresses k (given k h);
    }

-- a device is put into a slot
pub within_put : (p q : Inside) (s : ℕ) (d : Device) → (q.legacy ≡ p.legacy) × (q.declared ≡ p.declared) → q.given ≡ p.given → s < SLOTS → Updates nat_cmp p.devices q.devices s (Some d) → IsWithinPlaces p → IsWithinPlaces q
within_put p q s d same given l put within = record {
  slots = below_put SLOTS p.devices q.devices s d within.slots l put;
  statics = subst (IsKeyedBelow ADDRESSES) (sym same.0) within.statics;
  declarations = subst (IsKeyedBelow ADDRESSES) (sym same.1) within.declarations;
  addresses = subst (IsKeyedBelow ADDRESSES) (sym given) within.addresses;
}

-- a device is changed in its slot
pub within_written : (p q : Inside) (s : ℕ) (d w : Device) → (q.legacy ≡ p.legacy) × (q.declared ≡ p.declared) → q.given ≡ p.given → s < SLOTS → WritesThrough nat_cmp (nat_cmp s) p.devices w q.devices → Some d ≡ get nat_cmp p.devices s → IsWithinPlaces p → IsWithinPlaces q
within_written p q s d w same given l written at within = within_put p q s w same given l (written_puts p.devices q.devices s d w written at) within

-- p is a machine's inside, which is seen as the abstract bus st
module _ (p : Inside) (st : State) (seen : state_of p ≡ st) (within : IsWithinPlaces p) where
  -- the values in a slot, at an address given, and at a static address
  pub device_there : (s : ℕ) → device_at st s ≡ get nat_cmp p.devices s
  device_there s = ap (λ x. device_at x s) (sym seen) ∙ places_at SLOTS p.devices s within.slots

  pub entry_there : (a : ℕ) → entry_at st a ≡ get nat_cmp p.given a
  entry_there a = ap (λ x. entry_at x a) (sym seen) ∙ places_at ADDRESSES p.given a within.addresses

  pub target_there : (a : ℕ) → legacy_target_at st a ≡ get nat_cmp p.legacy a
  target_there a = ap (λ x. legacy_target_at x a) (sym seen) ∙ places_at ADDRESSES p.legacy a within.statics

  pub declared_there : (a : ℕ) → declared_at st a ≡ get nat_cmp p.declared a
  declared_there a = ap (λ x. declared_at x a) (sym seen) ∙ places_at ADDRESSES p.declared a within.declarations

  -- the slot of a device that is there drives what the device asks for
  pub drives_there : (s : ℕ) (d : Device) (r : Request) → get nat_cmp p.devices s ≡ Some d → drives st r s ≡ (not (s == p.active) && asks d r)
  drives_there s d r e =
      (λ t. not (s == (sym seen t).active) && in_slot (λ x. asks x r) (device_there s t)) ∙ ap (λ o. not (s == p.active) && in_slot (λ x. asks x r) o) e

  -- the same entries in another map
  pub same_devices : (new : BTreeMap ℕ Device) → new.entries ≡ p.devices.entries → state_of (record p { devices = new }) ≡ st
  same_devices new e = ap (λ (places : List (Option Device)). record (state_of p) { devices = places }) (places_same SLOTS p.devices new e) ∙ seen

  pub same_entries : (new : BTreeMap ℕ Entry) → new.entries ≡ p.given.entries → state_of (record p { given = new }) ≡ st
  same_entries new e = ap (λ (places : List (Option Entry)). record (state_of p) { given = places }) (places_same ADDRESSES p.given new e) ∙ seen

  -- one slot's place
  pub placed_there : (new : BTreeMap ℕ Device) (s : ℕ) (o : Option Device) → s < SLOTS → Updates nat_cmp p.devices new s o → places_of SLOTS new ≡ set st.devices s o
  placed_there new s o l put = places_put SLOTS p.devices new s o l put.1 put.2 ∙ ap (λ (x : State). set x.devices s o) seen

  -- each device changed
  pub each_there : (new : BTreeMap ℕ Device) (g h : ℕ → Device → Device) → ((s : ℕ) (d : Device) → get nat_cmp p.devices s ≡ Some d → g s d ≡ h s d) → new.entries ≡ map (λ e. (e.0, g e.0 e.1)) p.devices.entries
      → places_of SLOTS new ≡ (each h st).devices
  each_there new g h same e = places_changed SLOTS g h p.devices new same e ∙ ap (λ (x : State). changed (λ s place. option_map (h s) place) x.devices) seen

  -- a bus of other devices
  pub devices_there : (new : BTreeMap ℕ Device) (places : List (Option Device)) → places_of SLOTS new ≡ places → state_of (record p { devices = new }) ≡ record st { devices = places }
  devices_there new places e = λ t. record (seen t) { devices = e t }

  pub retained_there : (new : BTreeMap ℕ Device) (g h : ℕ → Device → Device) → ((s : ℕ) (d : Device) → get nat_cmp p.devices s ≡ Some d → g s d ≡ h s d) → new.entries ≡ map (λ e. (e.0, g e.0 e.1)) p.devices.entries
      → state_of (record p { devices = new }) ≡ each h st
  retained_there new g h same e = devices_there new (each h st).devices (each_there new g h same e)

  -- lost devices gone
  pub emptied_there : (new : BTreeMap ℕ Device) (lost : Lost) → new.entries ≡ filter (λ e. not (lost e.0)) p.devices.entries → state_of (record p { devices = new }) ≡ emptied lost st
  emptied_there new lost e =
      devices_there new (emptied lost st).devices (places_left SLOTS lost p.devices new e ∙ ap (λ (x : State). changed (λ s place. if lost s then None else place) x.devices) seen)

  -- an interrupt raised
  pub raised_there : (new : BTreeMap ℕ Device) (s : ℕ) (d : Device) (byte : Option ℕ) (number : ℕ) → s < SLOTS → Some d ≡ get nat_cmp p.devices s → number ≡ suc (get_or p.raised s 0)
      → Updates nat_cmp p.devices new s (Some (record d { waiting = d.waiting ++ record { number = number; byte = byte } ∷ [] })) → state_of (record p { devices = new; raised = set p.raised s number }) ≡ raise s byte st
  raised_there new s d byte number l at e put =
      let more : ℕ → Device → Device = λ n x. record x { waiting = x.waiting ++ record { number = n; byte = byte } ∷ [] } in
      let there : device_at st s ≡ Some d = device_there s ∙ sym at in
      let count : number ≡ suc (raised_at st s) = e ∙ ap (λ (x : State). suc (raised_at x s)) seen in
      let devices_are : places_of SLOTS new ≡ set st.devices s (option_map (more (suc (raised_at st s))) (device_at st s)) =
      placed_there new s (Some (more number d)) l put
      ∙ (ap (λ n. set st.devices s (Some (more n d))) count ∙ ap (λ o. set st.devices s (option_map (more (suc (raised_at st s))) o)) (sym there)) in
      λ t. record (seen t) { devices = devices_are t; raised = set (seen t).raised s (count t) }

  -- one device changed
  pub changed_there : (new : BTreeMap ℕ Device) (s : ℕ) (d w : Device) (f : Device → Device) → s < SLOTS → WritesThrough nat_cmp (nat_cmp s) p.devices w new → Some d ≡ get nat_cmp p.devices s → w ≡ f d → state_of (record p { devices = new }) ≡ change s f st
  changed_there new s d w f l written at e =
      let put = written_puts p.devices new s d w written at in
      devices_there new _ (placed_there new s (Some w) l put ∙ (ap (λ x. set st.devices s (Some x)) e ∙ ap (λ o. set st.devices s (option_map f o)) (at ∙ sym (device_there s))))

  -- a record appended
  pub recorded_there : (records : Vec Record Global) (r : Record) → records.items ≡ p.records.items ++ r ∷ [] → state_of (record p { records = records }) ≡ recorded r st
  recorded_there records r e = λ t. record (seen t) { records = (e ∙ ap (λ (x : State). x.records ++ r ∷ []) seen) t }

  -- a legacy target is changed
  low_target : (a : ℕ) (t : LegacyTarget) → Some t ≡ get nat_cmp p.legacy a → a < ADDRESSES
  low_target a t at = within.statics a (subst IsSome at refl)

  pub within_target : (new : BTreeMap ℕ LegacyTarget) (a : ℕ) (t w : LegacyTarget) → WritesThrough nat_cmp (nat_cmp a) p.legacy w new → Some t ≡ get nat_cmp p.legacy a → IsWithinPlaces (record p { legacy = new })
  within_target new a t w written at = record {
    slots = within.slots;
    declarations = within.declarations;
    statics = below_put ADDRESSES p.legacy new a w within.statics (low_target a t at) (written_puts p.legacy new a t w written at);
    addresses = within.addresses;
  }

  pub target_written : (new : BTreeMap ℕ LegacyTarget) (a : ℕ) (t w : LegacyTarget) (bytes : List ℕ) → WritesThrough nat_cmp (nat_cmp a) p.legacy w new → Some t ≡ get nat_cmp p.legacy a → w ≡ record t { registers = overwritten bytes t.registers }
      → state_of (record p { legacy = new }) ≡ record st { legacy = set st.legacy a (legacy_written bytes (legacy_target_at st a)) }
  target_written new a t w bytes written at e =
      let put = written_puts p.legacy new a t w written at in
      let there : legacy_target_at st a ≡ Some t = target_there a ∙ sym at in
      let places_are : places_of ADDRESSES new ≡ set st.legacy a (legacy_written bytes (legacy_target_at st a)) =
      places_put ADDRESSES p.legacy new a (Some w) (low_target a t at) put.1 put.2
      ∙ (ap (λ (x : State). set x.legacy a (Some w)) seen ∙ (ap (λ x. set st.legacy a (Some x)) e ∙ ap (λ o. set st.legacy a (legacy_written bytes o)) (sym there))) in
      λ i. record (seen i) { legacy = places_are i }

  -- or there is none to change
  pub target_absent : (a : ℕ) (bytes : List ℕ) → get nat_cmp p.legacy a ≡ None → st ≡ record st { legacy = set st.legacy a (legacy_written bytes (legacy_target_at st a)) }
  target_absent a bytes none =
      let there : legacy_target_at st a ≡ None = target_there a ∙ none in
      let places_are : st.legacy ≡ set st.legacy a (legacy_written bytes (legacy_target_at st a)) =
      sym (set-get_or st.legacy a None) ∙ (ap (set st.legacy a) there ∙ ap (λ o. set st.legacy a (legacy_written bytes o)) (sym there)) in
      λ i. record st { legacy = places_are i }
