-- The table of a new controller, as it is stored.
use Rattle.std.proofs.Common.{◌≡◌, ◌≢◌, ℕ, ◌&&◌, ◌==◌, Bool, true, false, not, List, get_or, Option, Some, None, option_map, option_and_then, if◌then◌else◌, ◌⊎◌, sym, refl, ap, ◌∙◌, inl, inr}
use Rattle.std.specs.List.{find, range_with_len}
use Rattle.std.proofs.lemmas.Bool.{and_parts, both_ways, cases_eq, cond-true, cond-false, eq-eqb, ne_eqb}
use Rattle.std.proofs.lemmas.List.{ext_get_or}
use Rattle.std.proofs.lemmas.Option.{none-some}
use Rattle.i3c_base.specs.declared.identity.Identity.{Identity}
use Rattle.i3c_base.specs.declared.range.TheConstants.{ADDRESSES}
use Rattle.i3c_base.specs.Sets.{is_in}
use Rattle.i3c_base.specs.State.{Board, Entry, IsFree, declared_in, entry_in, has_fixed, home_in, is_the, kept_again, taken_over}
use Rattle.i3c_base.proofs.Lookups.{length-taken_over, taken_over_at}
use Rattle.i3c_base.proofs.StaticLaws.{found_passes}
use Rattle.i3c_table.specs.declared.registers.Registers.{Registers}
use Rattle.i3c_table.specs.Stored.{again_stored, home_stored, kept_at, no_registers, stored, stored_at, IsWhole}
use Rattle.i3c_table.proofs.Homes.{again_at}
use Rattle.i3c_table.proofs.StoredLaws.{IsSmall, entry_stored, length-stored, out_of, some_or_none}

module _ (declared : List (Option Identity)) (held kept own : ℕ) (registers : List Registers) (numbers : List ℕ) (fits : IsSmall held) where
  abbrev given : List (Option Entry)
  given = stored held kept registers numbers

  -- the entry at an address that was given
  abbrev pub entry_here : ℕ → Entry
  entry_here a = record { bcr = (get_or registers a no_registers).bcr; dcr = (get_or registers a no_registers).dcr; kept = kept_at kept numbers a; fixed = (get_or registers a no_registers).fixed }

  -- where the kept addresses are those that are kept again, the table is taken over
  pub taken_stored : (kept' : ℕ) (numbers' : List ℕ) → ((a : ℕ) → is_in held a ≡ true → kept_at kept' numbers' a ≡ kept_again declared (stored held kept registers numbers) own a (entry_here a))
      → stored held kept' registers numbers' ≡ taken_over declared own (stored held kept registers numbers)
  taken_stored kept' numbers' again = ext_get_or None (stored held kept' registers numbers') (taken_over declared own given)
      (length-stored held kept' registers numbers' ∙ sym (length-taken_over declared own given ∙ length-stored held kept registers numbers)) (λ a below.
      entry_stored held kept' registers numbers' a fits ∙ (at a ∙ sym (taken_over_at declared own given a)))
    where
      at : (a : ℕ) → stored_at held kept' registers numbers' a ≡ option_map (λ (e : Entry). record e { kept = kept_again declared given own a e }) (entry_in given a)
      at a = elim (some_or_none (is_in held a)) [
        | inl has ↦
            cond-true (is_in held a) _ None has
            ∙ (ap (λ k. Some (record { bcr = (get_or registers a no_registers).bcr; dcr = (get_or registers a no_registers).dcr; kept = k; fixed = (get_or registers a no_registers).fixed })) (again a has)
            ∙ sym (ap (option_map (λ (e : Entry). record e { kept = kept_again declared given own a e })) (entry_stored held kept registers numbers a fits ∙ cond-true (is_in held a) _ None has)))
        | inr out ↦
            out_of held kept' registers numbers' a out
            ∙ sym (ap (option_map (λ (e : Entry). record e { kept = kept_again declared given own a e })) (entry_stored held kept registers numbers a fits ∙ out_of held kept registers numbers a out))
      ]

  -- nothing is declared
  pub nothing_again : (none : ℕ) (numbers' : List ℕ) → ((a : ℕ) → is_in none a ≡ false) → ((f : ℕ) → IsFree declared f) → (a : ℕ) → is_in held a ≡ true
      → kept_at none numbers' a ≡ kept_again declared (stored held kept registers numbers) own a (entry_here a)
  nothing_again none numbers' nothing free a has = cond-false (is_in none a) _ None (nothing a) ∙ sym (no_identity (get_or registers a no_registers).fixed)
    where
      either : (b : Bool) (o : Option Identity) → o ≡ None → (if b then o else None) ≡ None
      either true o e = e
      either false o e = refl

      no_identity : (o : Option ℕ) → option_and_then (λ f. if is_the a (home_in given own f) then declared_in declared f else None) o ≡ None
      no_identity None = refl
      no_identity (Some f) = either (is_the a (home_in given own f)) (declared_in declared f) (free f)

  module _ (among : ℕ) (own_out : is_in among own ≡ false) (others : (a : ℕ) → a ≢ own → is_in among a ≡ is_in held a) where
    same_test : (f a : ℕ) → (is_in among a && is_the f (get_or registers a no_registers).fixed) ≡ (not (a == own) && has_fixed f (entry_in (stored held kept registers numbers) a))
    same_test f a = elim (cases_eq a own) [
      | inl e ↦
          ap (λ b. b && is_the f (get_or registers a no_registers).fixed) (ap (is_in among) e ∙ own_out) ∙ sym (ap (λ b. not b && has_fixed f (entry_in given a)) (eq-eqb a own e))
      | inr other ↦
          (λ k. others a other k && is_the f (get_or registers a no_registers).fixed)
          ∙ (given_test (some_or_none (is_in held a)) ∙ sym (ap (λ b. not b && has_fixed f (entry_in given a)) (ne_eqb a own other)))
    ]
      where
        given_test : (is_in held a ≡ true) ⊎ (is_in held a ≡ false) → (is_in held a && is_the f (get_or registers a no_registers).fixed) ≡ has_fixed f (entry_in given a)
        given_test (inl has) =
            ap (λ b. b && is_the f (get_or registers a no_registers).fixed) has ∙ sym (ap (has_fixed f) (entry_stored held kept registers numbers a fits ∙ cond-true (is_in held a) _ None has))
        given_test (inr out) =
            ap (λ b. b && is_the f (get_or registers a no_registers).fixed) out ∙ sym (ap (has_fixed f) (entry_stored held kept registers numbers a fits ∙ out_of held kept registers numbers a out))

    home_same : (f : ℕ) → home_stored among registers f ≡ home_in (stored held kept registers numbers) own f
    unfolding home_stored
    home_same f = λ k. find (λ a. same_test f a k) (range_with_len 0 ADDRESSES)

    again_same : (a : ℕ) → again_stored declared among registers a ≡ kept_again declared (stored held kept registers numbers) own a (entry_here a)
    unfolding again_stored
    again_same a = λ k. option_and_then (λ f. if is_the a (home_same f k) then declared_in declared f else None) (get_or registers a no_registers).fixed

    -- the controller's own address is nobody's home
    own_none : (e : Entry) → kept_again declared (stored held kept registers numbers) own own e ≡ None
    own_none e = go e.fixed
      where
        never : (f : ℕ) (o : Option ℕ) → home_in given own f ≡ o → is_the own o ≡ false
        never f None is = refl
        never f (Some b) is = elim (cases_eq b own) [
          | inr other ↦ ne_eqb b own other
          | inl same ↦
              let passes = found_passes (λ a. not (a == own) && has_fixed f (entry_in given a)) (range_with_len 0 ADDRESSES) b is in
              let first : not (b == own) ≡ true = (and_parts (not (b == own)) (has_fixed f (entry_in given b)) passes).0 in
              absurd (both_ways (not (b == own)) (ap not (eq-eqb b own same)) first)
        ]

        go : (o : Option ℕ) → option_and_then (λ f. if is_the own (home_in given own f) then declared_in declared f else None) o ≡ None
        go None = refl
        go (Some f) = cond-false (is_the own (home_in given own f)) (declared_in declared f) None (never f (home_in given own f) refl)

    -- so the addresses that were kept again are as a new controller keeps them
    pub all_again : (kept' : ℕ) (numbers' : List ℕ) → ((a : ℕ) → kept_at kept' numbers' a ≡ again_at declared among registers a) → (a : ℕ) → is_in held a ≡ true
        → kept_at kept' numbers' a ≡ kept_again declared (stored held kept registers numbers) own a (entry_here a)
    all_again kept' numbers' again a has = again a ∙ elim (cases_eq a own) [
      | inl e ↦ rw e (cond-false (is_in among own) _ None own_out ∙ sym (own_none (entry_here own)))
      | inr other ↦ cond-true (is_in among a) _ None (others a other ∙ has) ∙ again_same a
    ]

    -- and were given
    pub whole_again : (board : Board) (kept' : ℕ) (numbers' : List ℕ) → IsWhole held kept board → ((a : ℕ) → kept_at kept' numbers' a ≡ again_at declared among registers a) → IsWhole held kept' board
    whole_again board kept' numbers' h again = record { usable = h.usable; apart = h.apart; undeclared = h.undeclared; among = λ a has. stood a has (some_or_none (is_in among a)) }
      where
        stood : (a : ℕ) → is_in kept' a ≡ true → (is_in among a ≡ true) ⊎ (is_in among a ≡ false) → is_in held a ≡ true
        stood a has (inl in_it) = sym (others a (λ e. both_ways (is_in among own) own_out (ap (is_in among) (sym e) ∙ in_it))) ∙ in_it
        stood a has (inr out) = absurd (none-some _ (sym (cond-false (is_in among a) _ None out) ∙ (sym (again a) ∙ cond-true (is_in kept' a) _ None has)))
