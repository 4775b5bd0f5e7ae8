-- What a name stands for, as a byte.
use Rattle.std.specs.Prelude.{◌⊎◌}
use Rattle.std.proofs.Common.{◌≡◌, ◌∙◌, ℕ, ◌+◌, ◌-◌, ◌<◌, ◌≤◌, nat_lt, if◌then◌else◌, ap, arith, inl, inr}
use Rattle.std.proofs.lemmas.Bool.{cases_lt, cond-true, cond-false, le-ltb, lt-ltb}
use Rattle.i3c_lines.specs.declared.names.Place.{Place}

-- a byte that stands for a place
abbrev pub IsCode : ℕ → Type 0
IsCode code = (code ≤ 64) ⊎ (128 ≤ code)

-- bytes below 64 are slots, 64 is a device that is gone, and from 128 on they are static addresses
abbrev pub place_of : ℕ → Place
place_of code = if nat_lt code 64 then Place.Slot code else (if nat_lt code 128 then Place.Gone else Place.Legacy (code - 128))

-- the byte that stands for a place
abbrev pub code_of : Place → ℕ
code_of (Place.Slot s) = s
code_of Place.Gone = 64
code_of (Place.Legacy a) = 128 + a

pub place_slot : (code : ℕ) → code < 64 → place_of code ≡ Place.Slot code
place_slot code low = cond-true (nat_lt code 64) (Place.Slot code) (if nat_lt code 128 then Place.Gone else Place.Legacy (code - 128)) (lt-ltb code 64 low)

pub place_gone : (code : ℕ) → 64 ≤ code → code < 128 → place_of code ≡ Place.Gone
place_gone code low high =
    cond-false (nat_lt code 64) (Place.Slot code) (if nat_lt code 128 then Place.Gone else Place.Legacy (code - 128)) (le-ltb code 64 low)
    ∙ cond-true (nat_lt code 128) Place.Gone (Place.Legacy (code - 128)) (lt-ltb code 128 high)

pub place_legacy : (code : ℕ) → 128 ≤ code → place_of code ≡ Place.Legacy (code - 128)
place_legacy code low =
    cond-false (nat_lt code 64) (Place.Slot code) (if nat_lt code 128 then Place.Gone else Place.Legacy (code - 128)) (le-ltb code 64 (omega (arith, low)))
    ∙ cond-false (nat_lt code 128) Place.Gone (Place.Legacy (code - 128)) (le-ltb code 128 low)

-- a byte is that of what it stands for
pub code_back : (code : ℕ) → IsCode code → code_of (place_of code) ≡ code
code_back code (inl low) = elim (cases_lt code 64) [
  | inl less ↦ ap code_of (place_slot code less)
  | inr more ↦ (let last : 64 ≡ code = omega (arith, low, more) in ap code_of (place_gone code more (omega (arith, low))) ∙ last)
]
code_back code (inr high) = ap code_of (place_legacy code high) ∙ (let whole : 128 + (code - 128) ≡ code = omega (arith, high) in whole)
