-- What two tables store at an address that was given in both.
use Rattle.std.proofs.Common.{◌≡◌, ◌∙◌, ℕ, Bool, true, false, List, Some, None, ap, get_or, is_some, refl, sym, if◌then◌else◌}
use Rattle.std.proofs.lemmas.Bool.{cond-true, false≢true}
use Rattle.std.proofs.lemmas.Option.{same_Some}
use Rattle.i3c_base.specs.Sets.{is_in}
use Rattle.i3c_table.specs.declared.registers.Registers.{Registers}
use Rattle.i3c_base.specs.State.{kept_of}
use Rattle.i3c_table.specs.Stored.{identity_of, kept_at, no_registers, stored_at}

module _ (held kept : ℕ) (registers : List Registers) (numbers : List ℕ) (held' kept' : ℕ) (registers' : List Registers) (numbers' : List ℕ) (a : ℕ) (has : is_in held a ≡ true) (too : is_in held' a ≡ true) where
  pub stored_alike : get_or registers a no_registers ≡ get_or registers' a no_registers → kept_at kept numbers a ≡ kept_at kept' numbers' a → stored_at held kept registers numbers a ≡ stored_at held' kept' registers' numbers' a
  stored_alike same keeper =
      cond-true (is_in held a) _ None has
      ∙ ((λ t. Some (record { bcr = (same t).bcr; dcr = (same t).dcr; kept = keeper t; fixed = (same t).fixed })) ∙ sym (cond-true (is_in held' a) _ None too))

  pub stored_parts : stored_at held kept registers numbers a ≡ stored_at held' kept' registers' numbers' a → (get_or registers a no_registers ≡ get_or registers' a no_registers) × (kept_at kept numbers a ≡ kept_at kept' numbers' a)
  stored_parts same =
      let entry : record { bcr = (get_or registers a no_registers).bcr; dcr = (get_or registers a no_registers).dcr; kept = kept_at kept numbers a; fixed = (get_or registers a no_registers).fixed }
      ≡ record { bcr = (get_or registers' a no_registers).bcr; dcr = (get_or registers' a no_registers).dcr; kept = kept_at kept' numbers' a; fixed = (get_or registers' a no_registers).fixed }
      = same_Some _ _ (sym (cond-true (is_in held a) _ None has) ∙ (same ∙ cond-true (is_in held' a) _ None too)) in
      (λ t. record { bcr = (entry t).bcr; dcr = (entry t).dcr; fixed = (entry t).fixed }, λ t. (entry t).kept)

-- an address is kept for the identity of one number in both
pub kept_alike : (kept : ℕ) (numbers : List ℕ) (kept' : ℕ) (numbers' : List ℕ) (a : ℕ) → is_in kept a ≡ true → is_in kept' a ≡ true → get_or numbers a 0 ≡ get_or numbers' a 0 → kept_at kept numbers a ≡ kept_at kept' numbers' a
kept_alike kept numbers kept' numbers' a has too same =
    cond-true (is_in kept a) _ None has ∙ (ap (λ n. Some (identity_of n)) same ∙ sym (cond-true (is_in kept' a) _ None too))

-- an address with an entry that is kept for an identity is one of those that are kept
pub kept_in : (held kept : ℕ) (registers : List Registers) (numbers : List ℕ) (a : ℕ) → is_some (kept_of (stored_at held kept registers numbers a)) ≡ true → is_in kept a ≡ true
kept_in held kept registers numbers a some = go (is_in held a) (is_in kept a) some
  where
    go : (here keeps : Bool)
        → is_some (kept_of (if here then Some (record { bcr = (get_or registers a no_registers).bcr; dcr = (get_or registers a no_registers).dcr; kept = if keeps then Some (identity_of (get_or numbers a 0)) else None; fixed = (get_or registers a no_registers).fixed }) else None)) ≡ true
        → keeps ≡ true
    go here true h = refl
    go true false h = absurd (false≢true h)
    go false false h = absurd (false≢true h)

-- and the other way round
pub in_kept : (held kept : ℕ) (registers : List Registers) (numbers : List ℕ) (a : ℕ) → is_in held a ≡ true → is_in kept a ≡ true → is_some (kept_of (stored_at held kept registers numbers a)) ≡ true
in_kept held kept registers numbers a here keeps =
    ap (λ e. is_some (kept_of e)) (cond-true (is_in held a) _ None here) ∙ ap is_some (cond-true (is_in kept a) _ None keeps)
