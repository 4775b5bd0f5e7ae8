-- What is read behind an accepted interrupt.
use Rattle.std.specs.Int.{bit_at}
use Rattle.std.specs.Prelude.{IsSomeAnd, MatchOption, IfSome, slice_get}
use Rattle.std.proofs.lemmas.Bool.{and_parts, both_ways, cases_eq, cond-true, eqb-false, ne_eqb, not-true}
use Rattle.std.proofs.lemmas.Option.{none-some, same_Some}
use Rattle.std.proofs.Common.{◌≡◌, ℕ, ◌<◌, Bool, true, false, not, ◌&&◌, ◌==◌, nat_le, if◌then◌else◌, List, [], ◌∷◌, length, get_or, Option, Some, None, is_some, option_map, inl, inr, sym, refl, ap, ◌∙◌, subst, arith}
use Rattle.std.proofs.lemmas.Bool.Decides.{nat_tests}
use Rattle.i3c_base.specs.declared.range.TheConstants.{SLOTS}
use Rattle.i3c_base.specs.declared.requests.Request.{Request}
use Rattle.i3c_base.specs.declared.requests.Request.TheVariants.{Interrupt}
use Rattle.i3c_base.specs.declared.device.Waiting.{Waiting}
use Rattle.i3c_base.specs.declared.requests.Record.{Record}
use Rattle.i3c_base.specs.Cutting.{CutList, cut_of, is_by, lost_by}
use Rattle.i3c_base.specs.State.{Device, Population, State, device_at, population, with_active}
use Rattle.i3c_base.specs.Serve.{DrivesByte, IsFrontOf, IsLowestDriver, drives}
use Rattle.i3c_device.specs.Holding.{front_in}
use Rattle.i3c_device.specs.Raising.{front_byte}
use Rattle.i3c_device.specs.declared.slot_set.SlotSet.{SlotSet}
use Rattle.i3c_device.specs.Sets.{IsLowestOf, has}
use Rattle.i3c_device.specs.Walks.{AreDrivers}
use Rattle.i3c_ibi.specs.Driving.{HaveBytes, IsByteRead, IsReading, Together, byte_beside, driven, slot_byte}
use Rattle.i3c_device.proofs.FirstLaws.{driven_below}

and_join : (a b : Bool) → a ≡ true → b ≡ true → (a && b) ≡ true
and_join a b p q = ap (λ x. x && b) p ∙ q

not_false : (b : Bool) → b ≡ false → not b ≡ true
not_false b e = ap not e

-- a device that isn't cut by the end of its byte drives it whole
pub driven_left : (cut : Option ℕ) (byte : ℕ) → is_by 9 cut ≡ false → driven cut byte ≡ byte
driven_left None byte h = refl
driven_left (Some bit) byte h = let late : nat_le 9 bit ≡ true = grind (arith, nat_tests) in cond-true (nat_le 9 bit) byte _ late

-- the byte that the device in a slot answers with, there and back
slot_byte_of : (o : Option Device) (w : Waiting) → IsFrontOf o w → slot_byte o ≡ w.byte
slot_byte_of o w f = ap slot_byte f.2 ∙ ap front_byte f.3

slot_byte_from : (o : Option Device) (v : ℕ) → slot_byte o ≡ Some v → (w : Waiting) × IsFrontOf o w × (w.byte ≡ Some v)
slot_byte_from None v e = absurd (none-some v e)
slot_byte_from (Some d) v e = go d.waiting refl e
  where
    go : (ws : List Waiting) → d.waiting ≡ ws → front_byte ws ≡ Some v → (w : Waiting) × IsFrontOf (Some d) w × (w.byte ≡ Some v)
    go [] is k = absurd (none-some v k)
    go (w ∷ ws) is k = (w, (d, ws, refl, is), k)

-- one front in one slot
one_front : (o : Option Device) (v w : Waiting) → IsFrontOf o v → IsFrontOf o w → v ≡ w
one_front o v w f g =
    let same : f.0 ≡ g.0 = same_Some f.0 g.0 (sym f.2 ∙ g.2) in
    let lists : (v ∷ f.1) ≡ (w ∷ g.1) = sym f.3 ∙ (ap (λ (d : Device). d.waiting) same ∙ g.3) in
    cc

-- the byte beside the lowest slot's, there and back
beside_of : (cuts : CutList) (drivers : SlotSet) (slot s v : ℕ) (o : Option Device) (w : Waiting) → (s ≡ slot → ⊥) → has drivers s ≡ true → IsFrontOf o w → w.byte ≡ Some v
    → byte_beside cuts drivers slot s o ≡ Some (driven (cut_of cuts s) v)
beside_of cuts drivers slot s v o w ne d f e =
    cond-true (not (s == slot) && has drivers s) _ None (and_join _ _ (not_false _ (ne_eqb s slot ne)) d) ∙ ap (option_map (driven (cut_of cuts s))) (slot_byte_of o w f ∙ e)

beside_from : (cuts : CutList) (drivers : SlotSet) (slot s v : ℕ) (place : Option Device) → byte_beside cuts drivers slot s place ≡ Some v → (u : ℕ) × (has drivers s ≡ true) × (slot_byte place ≡ Some u) × (driven (cut_of cuts s) u ≡ v)
beside_from cuts drivers slot s v place e = go (not (s == slot) && has drivers s) refl e
  where
    mapped : (o : Option ℕ) → slot_byte place ≡ o → option_map (driven (cut_of cuts s)) o ≡ Some v → (u : ℕ) × (slot_byte place ≡ Some u) × (driven (cut_of cuts s) u ≡ v)
    mapped None is k = absurd (none-some v k)
    mapped (Some u) is k = (u, is, same_Some _ v k)

    go : (b : Bool) → (not (s == slot) && has drivers s) ≡ b → (if b then option_map (driven (cut_of cuts s)) (slot_byte place) else None) ≡ Some v
        → (u : ℕ) × (has drivers s ≡ true) × (slot_byte place ≡ Some u) × (driven (cut_of cuts s) u ≡ v)
    go true is k = let m = mapped (slot_byte place) refl k in (m.0, (and_parts (not (s == slot)) (has drivers s) is).1, m.1, m.2)
    go false is k = absurd (none-some v k)

-- where only the lowest slot drives, there is none beside it
beside_none : (cuts : CutList) (drivers : SlotSet) (slot s : ℕ) (place : Option Device) → (has drivers s ≡ true → s ≡ slot) → byte_beside cuts drivers slot s place ≡ None
beside_none cuts drivers slot s place h = go (not (s == slot) && has drivers s) refl
  where
    go : (b : Bool) → (not (s == slot) && has drivers s) ≡ b → (if b then option_map (driven (cut_of cuts s)) (slot_byte place) else None) ≡ None
    go true is = let p = and_parts (not (s == slot)) (has drivers s) is in absurd (eqb-false s slot (not-true _ p.0) (h p.1))
    go false is = refl

-- the bytes of the drivers of an interrupt
abbrev BytesRead : State → CutList → SlotSet → ℕ → ℕ → ℕ → Type 0
BytesRead st cuts drivers slot own both = Together (λ s. byte_beside cuts drivers slot s (device_at st s)) (driven (cut_of cuts slot) own) SLOTS both

-- a driver of it drives 1 at each bit that is read as 1
drives_to : (st : State) (cuts : CutList) (at slot own both : ℕ) (front : Waiting) (drivers : SlotSet) → AreDrivers (population st) (Interrupt at) drivers → length st.devices ≡ SLOTS
    → IsFrontOf (device_at st slot) front → front.byte ≡ Some own → BytesRead st cuts drivers slot own both
    → (bit : ℕ) → bit < 8 → bit_at both bit ≡ 1 → (s u : ℕ) → DrivesByte st (Interrupt at) s u → bit_at (driven (cut_of cuts s) u) bit ≡ 1
drives_to st cuts at slot own both front drivers are long fronted e tog bit l b s u d =
    let k = (tog.bits bit l).0 b in
    let low : s < SLOTS = driven_below (population st) s (Interrupt at) long d.0 in
    elim (cases_eq s slot) [
      | inl same ↦
          let f : IsFrontOf (device_at st slot) d.1.0 = subst (λ t. IsFrontOf (device_at st t) d.1.0) same d.1.1 in
          let one : d.1.0 ≡ front = one_front (device_at st slot) d.1.0 front f fronted in
          let byte : own ≡ u = same_Some own u (sym e ∙ (ap (λ (w : Waiting). w.byte) (sym one) ∙ d.1.2)) in
          let drove : driven (cut_of cuts slot) own ≡ driven (cut_of cuts s) u = λ t. driven (cut_of cuts (sym same t)) (byte t) in
          subst (λ x. bit_at x bit ≡ 1) drove k.0
      | inr ne ↦ k.1 s _ low (beside_of cuts drivers slot s u (device_at st s) d.1.0 ne (are s low ∙ d.0) d.1.1 d.1.2)
    ]

-- and 1 is read where they all drive it
drives_from : (st : State) (cuts : CutList) (at slot own both : ℕ) (front : Waiting) (drivers : SlotSet) → AreDrivers (population st) (Interrupt at) drivers → drives st (Interrupt at) slot ≡ true
    → IsFrontOf (device_at st slot) front → front.byte ≡ Some own → BytesRead st cuts drivers slot own both
    → (bit : ℕ) → bit < 8 → ((s u : ℕ) → DrivesByte st (Interrupt at) s u → bit_at (driven (cut_of cuts s) u) bit ≡ 1) → bit_at both bit ≡ 1
drives_from st cuts at slot own both front drivers are lowest fronted e tog bit l all =
    (tog.bits bit l).1 (
      all slot own (lowest, (front, fronted, e)),
      λ s v m k.
          let f = beside_from cuts drivers slot s v (device_at st s) k in
          let d : drives st (Interrupt at) s ≡ true = sym (are s m) ∙ f.1 in
          subst (λ x. bit_at x bit ≡ 1) f.3 (all s f.0 (d, slot_byte_from (device_at st s) f.0 f.2)),
    )

-- each of them isn't lost, and the AND of what they drive is that of their bytes
reads_to : (st : State) (cuts : CutList) (at slot own both : ℕ) (front : Waiting) (drivers : SlotSet) → AreDrivers (population st) (Interrupt at) drivers → length st.devices ≡ SLOTS
    → IsFrontOf (device_at st slot) front → front.byte ≡ Some own → BytesRead st cuts drivers slot own both → ((t : ℕ) → drives st (Interrupt at) t ≡ true → lost_by cuts 9 t ≡ false)
    → (bit : ℕ) → bit < 8 → bit_at both bit ≡ 1 → (s u : ℕ) → DrivesByte st (Interrupt at) s u → bit_at u bit ≡ 1
reads_to st cuts at slot own both front drivers are long fronted e tog left bit l b s u d =
    subst (λ x. bit_at x bit ≡ 1) (driven_left (cut_of cuts s) u (left s d.0)) (drives_to st cuts at slot own both front drivers are long fronted e tog bit l b s u d)

reads_from : (st : State) (cuts : CutList) (at slot own both : ℕ) (front : Waiting) (drivers : SlotSet) → AreDrivers (population st) (Interrupt at) drivers → drives st (Interrupt at) slot ≡ true
    → IsFrontOf (device_at st slot) front → front.byte ≡ Some own → BytesRead st cuts drivers slot own both → ((t : ℕ) → drives st (Interrupt at) t ≡ true → lost_by cuts 9 t ≡ false)
    → (bit : ℕ) → bit < 8 → ((s u : ℕ) → DrivesByte st (Interrupt at) s u → bit_at u bit ≡ 1) → bit_at both bit ≡ 1
reads_from st cuts at slot own both front drivers are lowest fronted e tog left bit l all =
    drives_from st cuts at slot own both front drivers are lowest fronted e tog bit l (λ s u d. subst (λ x. bit_at x bit ≡ 1) (sym (driven_left (cut_of cuts s) u (left s d.0))) (all s u d))

-- the lowest of the drivers
lowest_driver : (st : State) (r : Request) (drivers : SlotSet) (slot : ℕ) → AreDrivers (population st) r drivers → IsLowestOf drivers slot → IsLowestDriver st r slot
lowest_driver st r drivers slot are h = (sym (are slot h.0) ∙ h.1, λ t l. sym (are t (omega (arith, l, h.0))) ∙ h.2 t l)

-- a reading of the bytes
pub reading_at : (st : State) (cuts : CutList) (at slot : ℕ) (front : Waiting) (byte : Option ℕ) (drivers : SlotSet) → AreDrivers (population st) (Interrupt at) drivers → length st.devices ≡ SLOTS
    → IsLowestOf drivers slot × IsFrontOf (device_at st slot) front → MatchOption (slot_byte (device_at st slot)) (byte ≡ None) (λ own. IsSomeAnd byte (BytesRead st cuts drivers slot own)) → IfSome byte (λ v. v < 256)
    → IsReading st cuts at (record { slot = slot; number = front.number; at = at; byte = byte })
reading_at st cuts at slot front byte drivers are long found read small =
    go front.byte refl byte (subst (λ o. MatchOption o (byte ≡ None) (λ own. IsSomeAnd byte (BytesRead st cuts drivers slot own))) (slot_byte_of (device_at st slot) front found.1) read) small
  where
    lowest : IsLowestDriver st (Interrupt at) slot
    lowest = lowest_driver st (Interrupt at) drivers slot are found.0

    one : (s : ℕ) → s < SLOTS → ((t : ℕ) → drives st (Interrupt at) t ≡ true → t ≡ slot) → has drivers s ≡ true → s ≡ slot
    one s l h t = h s (sym (are s l) ∙ t)

    go : (o : Option ℕ) → front.byte ≡ o → (byte : Option ℕ) → MatchOption o (byte ≡ None) (λ own. IsSomeAnd byte (BytesRead st cuts drivers slot own)) → IfSome byte (λ v. v < 256)
        → IsReading st cuts at (record { slot = slot; number = front.number; at = at; byte = byte })
    go None e byte none small = record {
      front = front;
      lowest = lowest;
      fronted = found.1;
      number = refl;
      address = refl;
      present = ap is_some (none ∙ sym e);
      byte = subst (λ o. IfSome o (IsByteRead st cuts at)) (sym none) tt;
      alone = λ h l. none ∙ sym e;
      together = λ h v k. absurd (none-some v (sym none ∙ k));
    }
    go (Some own) e None nothing small = absurd nothing
    go (Some own) e (Some both) tog small = record {
      front = front;
      lowest = lowest;
      fronted = found.1;
      number = refl;
      address = refl;
      present = ap is_some (sym e);
      byte = record {
        small = small;
        bits = λ bit l. (
          λ b s u d. drives_to st cuts at slot own both front drivers are long found.1 e tog bit l b s u d,
          λ all. drives_from st cuts at slot own both front drivers are lowest.0 found.1 e tog bit l all,
        );
      };
      alone = λ h l. ap Some (tog.alone (λ s m. beside_none cuts drivers slot s (device_at st s) (one s m h)) ∙ driven_left (cut_of cuts slot) own l) ∙ sym e;
      together = λ h v k.
          let is : both ≡ v = same_Some both v k in (
            subst (λ x. x < 256) is small,
            λ bit l. (
              λ b s u d. reads_to st cuts at slot own both front drivers are long found.1 e tog h bit l (subst (λ x. bit_at x bit ≡ 1) (sym is) b) s u d,
              λ all. subst (λ x. bit_at x bit ≡ 1) is (reads_from st cuts at slot own both front drivers are lowest.0 found.1 e tog h bit l all),
            ),
          );
    }

-- the byte that was read beside the own one
pub read_as : (devices : List (Option Device)) (cuts : CutList) (drivers : SlotSet) (lowest own both : ℕ) → slot_byte (get_or devices lowest None) ≡ Some own
    → Together (λ s. byte_beside cuts drivers lowest s (get_or devices s None)) (driven (cut_of cuts lowest) own) SLOTS both
    → MatchOption (slot_byte (get_or devices lowest None)) (Some both ≡ None) (λ v. IsSomeAnd (Some both) (Together (λ s. byte_beside cuts drivers lowest s (get_or devices s None)) (driven (cut_of cuts lowest) v) SLOTS))
read_as devices cuts drivers lowest own both e h =
    subst (λ o. MatchOption o (Some both ≡ None) (λ v. IsSomeAnd (Some both) (Together (λ s. byte_beside cuts drivers lowest s (get_or devices s None)) (driven (cut_of cuts lowest) v) SLOTS))) (sym e) h

-- the same of devices that a bus has
pub reading_of : (st : State) (devices : List (Option Device)) (cuts : CutList) (at slot : ℕ) (front : Waiting) (byte : Option ℕ) (drivers : SlotSet) → st.devices ≡ devices → AreDrivers (population st) (Interrupt at) drivers
    → length devices ≡ SLOTS → IsLowestOf drivers slot × IsFrontOf (get_or devices slot None) front
    → MatchOption (slot_byte (get_or devices slot None)) (byte ≡ None) (λ own. IsSomeAnd byte (Together (λ s. byte_beside cuts drivers slot s (get_or devices s None)) (driven (cut_of cuts slot) own) SLOTS))
    → IfSome byte (λ v. v < 256) → IsReading st cuts at (record { slot = slot; number = front.number; at = at; byte = byte })
reading_of st devices cuts at slot front byte drivers same are long found read small =
    subst (λ s. IsReading s cuts at (record { slot = slot; number = front.number; at = at; byte = byte })) (λ k. record st { devices = sym same k })
    (reading_at (record st { devices = devices }) cuts at slot front byte drivers (subst (λ ds. AreDrivers (with_active ds st.active) (Interrupt at) drivers) same are) long found read small)

-- the front that is found first in a list
pub front_at : (place : Option Device) (d : Device) (w : Waiting) → Some d ≡ place → slice_get d.waiting 0 ≡ Some w → IsFrontOf place w
front_at place d w there first = go d.waiting refl first
  where
    go : (ws : List Waiting) → d.waiting ≡ ws → slice_get ws 0 ≡ Some w → IsFrontOf place w
    go [] e k = absurd (none-some w k)
    go (v ∷ ws) e k = (d, ws, sym there, e ∙ ap (λ x. x ∷ ws) (same_Some v w k))

pub front_held : (place : Option Device) (w : Waiting) → front_in place ≡ Some w → IsFrontOf place w
front_held None w first = absurd (none-some w first)
front_held (Some d) w first = front_at (Some d) d w refl first

-- a byte was read exactly if the interrupt has one
pub due_byte : (all : Population) (cuts : CutList) (at : ℕ) (due : Bool) (r : Record) → HaveBytes all at due → ((st : State) → st.devices ≡ all.devices → st.active ≡ all.active → IsReading st cuts at r)
    → is_some r.byte ≡ due
due_byte all cuts at due r fitting read =
    let st : State = record { devices = all.devices; raised = []; active = all.active; legacy = []; declared = []; given = []; in_session = false; listed = false; records = [] } in
    let h : IsReading st cuts at r = read st refl refl in
    h.present ∙ fitting r.slot h.front h.lowest.0 h.fronted

pub no_byte : (o : Option ℕ) → is_some o ≡ false → o ≡ None
no_byte None e = refl
no_byte (Some v) e = absurd (both_ways _ e refl)
