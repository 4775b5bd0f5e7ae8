-- Addresses of a sound bus have seven bits.
use Rattle.std.proofs.lemmas.Bool.{and_parts, cases_lt, false≢true, leb-true}
use Rattle.std.proofs.lemmas.List.{get_or_past}
use Rattle.std.proofs.lemmas.Option.{none-some}
use Rattle.std.proofs.Common.{◌≡◌, ◌∙◌, ℕ, ◌<◌, ◌≤◌, ◌==◌, Bool, true, not, nat_le, Option, Some, None, length, arith, inl, inr, refl, sym, subst}
use Rattle.i3c_base.specs.declared.identity.Identity.{Identity}
use Rattle.i3c_base.specs.declared.requests.Request.{Request}
use Rattle.i3c_base.specs.declared.requests.Request.TheVariants.{Join, Role, Interrupt}
use Rattle.i3c_base.specs.Round.{IsAddressFor}
use Rattle.i3c_base.specs.Serve.{asks, drives}
use Rattle.i3c_base.specs.State.{Device, Entry, State, device_at, entry_at, has_address, in_slot, is_static, is_usable, kept_of}
use Rattle.i3c_base.proofs.StaticLaws.{is_the-true}
use Rattle.i3c_header.specs.Keys.{address_of}
use Rattle.i3c_step.specs.Sound.{Addresses}

pub static_low : (a : ℕ) → is_static a ≡ true → a < 120
static_low a s = let at_most = leb-true a 0x77 (and_parts (nat_le 0x08 a) (nat_le a 0x77) s).1 in omega (arith, at_most)

pub usable_low : (a : ℕ) → is_usable a ≡ true → a < 128
usable_low a h =
    let low = and_parts (nat_le 0x08 a) _ h in
    let at_most = leb-true a 0x77 (and_parts (nat_le a 0x77) _ low.1).0 in
    omega (arith, at_most)

-- an address of the table
pub entry_low : (st : State) (a : ℕ) (e : Entry) → Addresses st → entry_at st a ≡ Some e → a < 128
entry_low st a e known h = elim (cases_lt a (length st.given)) [
  | inl l ↦ subst (λ n. a < n) known.long l
  | inr past ↦ absurd (none-some e (sym (get_or_past st.given a None past) ∙ h))
]

-- an address that is kept for an identity
pub kept_low : (st : State) (a : ℕ) (i : Identity) → Addresses st → kept_of (entry_at st a) ≡ Some i → a < 128
kept_low st a i known h = go (entry_at st a) refl h
  where
    go : (o : Option Entry) → entry_at st a ≡ o → kept_of o ≡ Some i → a < 128
    go None e h = absurd (none-some i h)
    go (Some entry) e h = entry_low st a entry known e

-- the address of a winner
pub winner_low : (st : State) (i : Identity) (a : ℕ) → Addresses st → IsAddressFor st i a → a < 128
winner_low st i a known h = elim h [
  | inl kept ↦ kept_low st a i known kept.0
  | inr pick ↦ let at_most : a ≤ 0x77 = pick.1.0.0.1 in omega (arith, at_most)
]

-- the address of a device
device_low : (st : State) (s a : ℕ) (test : Device → Bool) → Addresses st → ((d : Device) → test d ≡ true → d.address ≡ Some a) → in_slot test (device_at st s) ≡ true → a < 128
device_low st s a test known has h = go (device_at st s) refl h
  where
    go : (o : Option Device) → device_at st s ≡ o → in_slot test o ≡ true → a < 128
    go None e h = absurd (false≢true h)
    go (Some d) e h = let u = known.used s a d e (has d h) in entry_low st a u.0 known u.1

-- the address that a request drives
pub driver_low : (st : State) (r : Request) (s : ℕ) → Addresses st → drives st r s ≡ true → address_of r < 128
driver_low st Join s known h = omega arith
driver_low st (Role a) s known h =
    device_low st s a (λ d. asks d (Role a)) known (λ d t. is_the-true a d.address (and_parts (has_address a d) _ t).0) (and_parts (not (s == st.active)) _ h).1
driver_low st (Interrupt a) s known h =
    device_low st s a (λ d. asks d (Interrupt a)) known (λ d t. is_the-true a d.address (and_parts (has_address a d) _ t).0) (and_parts (not (s == st.active)) _ h).1
