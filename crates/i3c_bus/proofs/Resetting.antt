-- A reset over the parts of a bus.
use Rattle.std.proofs.Common.{◌≡◌, ℕ, Bool, true, false, not, List, [], Option, Some, None, get_or, set, option_map, ◌==◌, if◌then◌else◌, refl, sym, ap, ◌∙◌}
use Rattle.std.proofs.lemmas.Bool.{cond-false, cond-true, eq-eqb, eqb-false, eqb-true, ne_eqb}
use Rattle.std.proofs.lemmas.List.{ext_get_or, get_or_past, length-set}
use Rattle.i3c_base.specs.Frames.{active_has, unaddressed_device}
use Rattle.i3c_base.specs.Places.{changed}
use Rattle.i3c_base.specs.Serve.{without_role}
use Rattle.i3c_base.specs.State.{Device, Entry, State, device_at, has_address, in_slot, unkept}
use Rattle.i3c_base.proofs.Lookups.{changed_at, changed_same, length-changed, set_default}
use Rattle.i3c_ccc.specs.declared.codes.Code.{Code}
use Rattle.i3c_device.specs.Walks.{heard_at}
use Rattle.i3c_table.specs.Putting.{only_at}
use Rattle.i3c_bus.specs.Readings.{address_of}

-- a device that hears a reset, and the active controller's own
abbrev pub reset_at : ℕ → ℕ → Option Device → Option Device
reset_at active s place = option_map (λ d. if s == active then without_role d else unaddressed_device d) place

abbrev hears_reset : ℕ → ℕ → Option Device → Option Device
hears_reset active s place = heard_at active None Code.Rstdaa [] s place

-- the devices that hear it, and the active controller's own wish
other_place : (b : Bool) (o : Option Device) → b ≡ false → option_map (λ d. if not b then unaddressed_device d else d) o ≡ option_map (λ d. if b then without_role d else unaddressed_device d) o
other_place b None e = refl
other_place b (Some d) e = ap (λ c. Some (if not c then unaddressed_device d else d)) e ∙ sym (ap (λ c. Some (if c then without_role d else unaddressed_device d)) e)

own_place : (b : Bool) (o : Option Device) → b ≡ true
    → option_map without_role (option_map (λ d. if not b then unaddressed_device d else d) o) ≡ option_map (λ d. if b then without_role d else unaddressed_device d) o
own_place b None e = refl
own_place b (Some d) e = ap (λ c. Some (without_role (if not c then unaddressed_device d else d))) e ∙ sym (ap (λ c. Some (if c then without_role d else unaddressed_device d)) e)

pub reset_devices : (active : ℕ) (devices : List (Option Device))
    → set (changed (hears_reset active) devices) active (option_map without_role (get_or (changed (hears_reset active) devices) active None)) ≡ changed (reset_at active) devices
reset_devices active devices = ext_get_or None (set heard active own) (changed (reset_at active) devices)
    (length-set heard active own ∙ (length-changed (hears_reset active) devices ∙ sym (length-changed (reset_at active) devices)))
    (λ k l. place k (k == active) refl)
  where
    heard : List (Option Device)
    heard = changed (hears_reset active) devices

    own : Option Device
    own = option_map without_role (get_or heard active None)

    at : (k : ℕ) → get_or heard k None ≡ hears_reset active k (get_or devices k None)
    at k = changed_at (hears_reset active) devices k None refl

    put : (k : ℕ) → get_or (set heard active own) k None ≡ (if k == active then own else get_or heard k None)
    put k = set_default heard active k own None (λ past. ap (option_map without_role) (get_or_past heard active None past))

    here : own ≡ reset_at active active (get_or devices active None)
    here = ap (option_map without_role) (at active) ∙ own_place (active == active) (get_or devices active None) (eq-eqb active active refl)

    place : (k : ℕ) (b : Bool) → (k == active) ≡ b → get_or (set heard active own) k None ≡ get_or (changed (reset_at active) devices) k None
    place k true e =
        let same : k ≡ active = eqb-true k active e in
        put k ∙ (cond-true (k == active) own (get_or heard k None) e ∙ (here ∙ (ap (λ j. reset_at active j (get_or devices j None)) (sym same) ∙ sym (changed_at (reset_at active) devices k None refl))))
    place k false e =
        put k ∙ (cond-false (k == active) own (get_or heard k None) e ∙ (at k ∙ (other_place (k == active) (get_or devices k None) e ∙ sym (changed_at (reset_at active) devices k None refl))))

-- the active controller's address is the one that stays
pub own_address : (st : State) (own : ℕ) → address_of (device_at st st.active) ≡ Some own → (d : Device) × (device_at st st.active ≡ Some d) × (d.address ≡ Some own)
own_address st own e = go (device_at st st.active) refl e
  where
    go : (o : Option Device) → device_at st st.active ≡ o → address_of o ≡ Some own → (d : Device) × (device_at st st.active ≡ Some d) × (d.address ≡ Some own)
    go None there h = cc
    go (Some d) there h = (d, there, h)

pub has_own : (st : State) (own a : ℕ) → address_of (device_at st st.active) ≡ Some own → active_has st a ≡ (own == a)
has_own st own a e =
    let d = own_address st own e in
    ap (in_slot (has_address a)) d.1 ∙ ap (λ (x : Option ℕ). the x) d.2
  where
    the : Option ℕ → Bool
    the None = false
    the (Some b) = b == a

turned : (a b : ℕ) (c : Bool) → (a == b) ≡ c → (b == a) ≡ c
turned a b true e = eq-eqb b a (sym (eqb-true a b e))
turned a b false e = ne_eqb b a (λ k. eqb-false a b e (sym k))

pub reset_given : (st : State) (own : ℕ) (given : List (Option Entry)) → address_of (device_at st st.active) ≡ Some own
    → only_at own given ≡ changed (λ a place. if active_has st a then option_map unkept place else None) given
reset_given st own given e = changed_same (λ a place. if a == own then option_map unkept place else None) (λ a place. if active_has st a then option_map unkept place else None) None given
    (λ k. ap (λ c. if c then option_map unkept (get_or given k None) else None) (turned own k (own == k) refl ∙ sym (has_own st own k e)))
