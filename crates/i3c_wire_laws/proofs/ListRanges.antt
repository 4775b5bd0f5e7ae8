-- The bytes of a list.
use Rattle.std.proofs.lemmas.Option.{none-some}
use Rattle.std.specs.List.{flat_map}
use Rattle.std.specs.Option.{option_to_list}
use Rattle.std.specs.Prelude.{⊤}
use Rattle.std.proofs.Common.{◌≡◌, ℕ, zero, suc, ◌+◌, ◌-◌, ◌*◌, ◌<◌, ◌≤◌, List, [], ◌∷◌, ◌++◌, length, length-append, map, get_or, set, Option, Some, None, option_map, arith, inl, inr, refl, subst}
use Rattle.i3c_base.specs.declared.device.LegacyTarget.{LegacyTarget}
use Rattle.i3c_base.specs.declared.identity.Lvr.{Lvr}
use Rattle.i3c_base.specs.Covered.{lvrs}
use Rattle.i3c_base.specs.State.{Entry as Given, State, entry_at}
use Rattle.i3c_base.proofs.Lookups.{option_map_from, set_from}
use Rattle.i3c_word.specs.declared.Word.{Word}
use Rattle.i3c_frame.specs.declared.symbols.Symbol.{Symbol}
use Rattle.i3c_deftgts.specs.declared.entries.Entry.{Entry}
use Rattle.i3c_deftgts.specs.Entries.{device_at, entries_of, legacy_at, upwards}
use Rattle.i3c_deftgts.specs.Layout.{Carry, bytes_of, list_bytes, static_byte}
use Rattle.i3c_step.specs.Sound.{Addresses}
use Rattle.i3c_bus.specs.Whole.{the_table}
use Rattle.i3c_wire_laws.specs.Fitting.{EntryFits, Fits, IsByte}
use Rattle.i3c_wire_laws.proofs.Addressing.{entry_low, static_low}
use Rattle.i3c_wire_laws.proofs.OwnRanges.{AreBytes, AreInRange, bytes_on, words_fit}

-- the bytes of each entry, one by one
abbrev AreFit : List Entry → Type 0
AreFit [] = ⊤
AreFit (entry ∷ rest) = AreBytes (bytes_of entry) × AreFit rest

fit_on : (first rest : List Entry) → AreFit first → AreFit rest → AreFit (first ++ rest)
fit_on [] rest h k = k
fit_on (entry ∷ first) rest h k = (h.0, fit_on first rest h.1 k)

flat_bytes : (entries : List Entry) → AreFit entries → AreBytes (flat_map bytes_of entries)
flat_bytes [] h = tt
flat_bytes (entry ∷ rest) h = bytes_on (bytes_of entry) (flat_map bytes_of rest) h.0 (flat_bytes rest h.1)

-- the entries at addresses, the first of which is n
upwards_fit : {A : Type 0} (entry : ℕ → A → Entry) (n : ℕ) (xs : List (Option A)) → ((k : ℕ) (x : A) → get_or xs k None ≡ Some x → AreBytes (bytes_of (entry (n + k) x))) → AreFit (upwards entry n xs)
upwards_fit entry n [] h = tt
upwards_fit entry n (None ∷ rest) h = upwards_fit entry (suc n) rest (λ k x e. subst (λ a. AreBytes (bytes_of (entry a x))) (omega arith) (h (suc k) x e))
upwards_fit entry n (Some y ∷ rest) h =
    (subst (λ a. AreBytes (bytes_of (entry a y))) (omega arith) (h 0 y refl), upwards_fit entry (suc n) rest (λ k x e. subst (λ a. AreBytes (bytes_of (entry a x))) (omega arith) (h (suc k) x e)))

upwards_few : {A : Type 0} (entry : ℕ → A → Entry) (n limit : ℕ) (xs : List (Option A)) → ((k : ℕ) (x : A) → get_or xs k None ≡ Some x → n + k < limit) → length (upwards entry n xs) ≤ limit - n
upwards_few entry n limit [] h = omega arith
upwards_few entry n limit (None ∷ rest) h =
    let later = upwards_few entry (suc n) limit rest (λ k x e. let l = h (suc k) x e in omega (arith, l)) in omega (arith, later)
upwards_few entry n limit (Some y ∷ rest) h =
    let first = h 0 y refl in
    let later = upwards_few entry (suc n) limit rest (λ k x e. let l = h (suc k) x e in omega (arith, l)) in
    omega (arith, first, later)

-- what holds of an address holds of it counted from 0
from_none : (P : ℕ → Type 0) (a : ℕ) → P a → P (0 + a)
from_none P a h = let same : a ≡ 0 + a = omega arith in subst P same h

-- the LVR at a place is a target's
lvr_from : (targets : List (Option LegacyTarget)) (a : ℕ) (lvr : Lvr) → get_or (map (option_map (λ (t : LegacyTarget). t.lvr)) targets) a None ≡ Some lvr
    → (target : LegacyTarget) × (get_or targets a None ≡ Some target) × (target.lvr ≡ lvr)
lvr_from [] a lvr h = absurd (none-some lvr h)
lvr_from (place ∷ rest) zero lvr h = option_map_from (λ (t : LegacyTarget). t.lvr) place lvr h
lvr_from (place ∷ rest) (suc a) lvr h = lvr_from rest a lvr h

-- the entry of a device
fixed_byte : (fixed : Option ℕ) → ((f : ℕ) → fixed ≡ Some f → f < 128) → IsByte (static_byte fixed)
fixed_byte None low = omega arith
fixed_byte (Some f) low = let l = low f refl in omega (arith, l)

given_bytes : (a : ℕ) (given : Given) → a < 128 → EntryFits given → AreBytes (bytes_of (device_at a given))
given_bytes a given low fits =
    let twice : IsByte (2 * a) = omega (arith, low) in
    (twice, (fits.dcr, (fits.bcr, (fixed_byte given.fixed fits.fixed, tt))))

-- the bytes of a legacy target's entry fit
target_bytes : (a : ℕ) (lvr : Lvr) → a < 128 → IsByte lvr.0 → AreBytes (bytes_of (legacy_at a lvr))
target_bytes a lvr low small =
    let twice : IsByte (2 * a) = omega (arith, low) in
    (omega arith, (small, (omega arith, (twice, tt))))

-- the entries of a list, which are few
record FitsList (entries : List Entry) (limit : ℕ) : Type 0 where
  fit : AreFit entries
  few : length entries ≤ limit

own_fits : (st : State) (own : ℕ) → Fits st → Addresses st → FitsList (option_to_list (option_map (device_at own) (entry_at st own))) 1
own_fits st own fits known = go (entry_at st own) refl
  where
    go : (o : Option Given) → entry_at st own ≡ o → FitsList (option_to_list (option_map (device_at own) o)) 1
    go None e = record { fit = tt; few = omega arith }
    go (Some given) e = record { fit = (given_bytes own given (entry_low st own given known e) (fits.entries own given e), tt); few = omega arith }

-- an entry of the table without the own one
others_from : (st : State) (own a : ℕ) (given : Given) → get_or (set st.given own None) a None ≡ Some given → entry_at st a ≡ Some given
others_from st own a given h = elim (set_from st.given own a None given h) [ inl e ↦ absurd (none-some given e.1) | inr e ↦ e ]

others_fit : (st : State) (own : ℕ) → Fits st → Addresses st → FitsList (upwards device_at 0 (set st.given own None)) 128
others_fit st own fits known = record {
  fit = upwards_fit device_at 0 (set st.given own None) (λ a given e. let k = others_from st own a given e in from_none (λ b. AreBytes (bytes_of (device_at b given))) a (given_bytes a given (entry_low st a given known k) (fits.entries a given k)));
  few = upwards_few device_at 0 128 (set st.given own None) (λ a given e. from_none (λ b. b < 128) a (entry_low st a given known (others_from st own a given e)));
}

targets_fit : (st : State) → Fits st → FitsList (upwards legacy_at 0 (lvrs st)) 120
targets_fit st fits = record {
  fit = upwards_fit legacy_at 0 (lvrs st) (λ a lvr e.
      let t = lvr_from st.legacy a lvr e in
      let f = fits.targets a t.0 t.1 in
      let low = static_low a f.static in
      from_none (λ b. AreBytes (bytes_of (legacy_at b lvr))) a (target_bytes a lvr (omega (arith, low)) (subst (λ (l : Lvr). IsByte l.0) t.2 f.lvr)));
  few = upwards_few legacy_at 0 120 (lvrs st) (λ a lvr e. let t = lvr_from st.legacy a lvr e in from_none (λ b. b < 120) a (static_low a (fits.targets a t.0 t.1).static));
}

-- two lists, one behind the other
fits_on : (first rest : List Entry) (m n : ℕ) → FitsList first m → FitsList rest n → FitsList (first ++ rest) (m + n)
fits_on first rest m n h k = record { fit = fit_on first rest h.fit k.fit; few = omega (arith, length-append first rest, h.few, k.few) }

-- the words of a list
pub list_fits : (st : State) (own : ℕ) (words : List Word) → Fits st → Addresses st → Carry (list_bytes (entries_of (the_table st) own)) words → AreInRange (map Symbol.Word words)
list_fits st own words fits known carry =
    let all : FitsList (entries_of (the_table st) own) (1 + (128 + 120)) =
    fits_on _ _ 1 (128 + 120) (own_fits st own fits known) (fits_on _ _ 128 120 (others_fit st own fits known) (targets_fit st fits)) in
    let count : IsByte (length (entries_of (the_table st) own) - 1) = omega (arith, all.few) in
    words_fit words (list_bytes (entries_of (the_table st) own)) carry.same (count, flat_bytes (entries_of (the_table st) own) all.fit)
