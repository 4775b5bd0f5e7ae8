-- An address that is released, and one that is exchanged for another.
use Rattle.std.proofs.Common.{◌≡◌, ◌≢◌, ℕ, ◌<◌, Bool, true, false, ◌||◌, List, length, get_or, set, Option, Some, None, option_map, if◌then◌else◌, ◌⊎◌, sym, refl, ap, ◌∙◌, inl, inr, arith, subst}
use Rattle.std.proofs.lemmas.Bool.{both_ways, cases_eq, cases_lt, cond-true, cond-false}
use Rattle.std.proofs.lemmas.List.{ext_get_or, get_or_past, get_or-set_other, get_or-set_same, length-set}
use Rattle.i3c_base.specs.Frames.{moved, released_at}
use Rattle.i3c_base.specs.Sets.{is_in}
use Rattle.i3c_base.specs.State.{Board, Entry, IsFree, IsUsable, entry_in, released}
use Rattle.i3c_base.proofs.Lookups.{set_at}
use Rattle.i3c_table.specs.declared.registers.Registers.{Registers}
use Rattle.i3c_table.specs.Stored.{identity_of, kept_at, no_registers, stored, stored_at, IsWhole}
use Rattle.i3c_table.proofs.StoredLaws.{IsSmall, entry_stored, length-stored, out_of, small_whole, some_or_none}

-- what is stored at an address is the same
stored_same : (held kept held' kept' : ℕ) (registers registers' : List Registers) (numbers numbers' : List ℕ) (a b : ℕ) → is_in held' a ≡ is_in held b → is_in kept' a ≡ is_in kept b
    → get_or registers' a no_registers ≡ get_or registers b no_registers → get_or numbers' a 0 ≡ get_or numbers b 0 → stored_at held' kept' registers' numbers' a ≡ stored_at held kept registers numbers b
stored_same held kept held' kept' registers registers' numbers numbers' a b h k r n = λ t.
    if h t then Some (record { bcr = (r t).bcr; dcr = (r t).dcr; kept = if k t then Some (identity_of (n t)) else None; fixed = (r t).fixed }) else None

-- ---- a release

module _ (held kept kept' a : ℕ) (registers : List Registers) (numbers : List ℕ) (r : Registers) (fits : IsSmall held) (l : a < 128) (long : length registers ≡ 128)
    (out : is_in kept' a ≡ false) (others : (b : ℕ) → b ≢ a → is_in kept' b ≡ is_in kept b)
    (bcr : r.bcr ≡ (get_or registers a no_registers).bcr) (dcr : r.dcr ≡ (get_or registers a no_registers).dcr) (fixed : r.fixed ≡ None) where
  pub released_stored : stored held kept' (set registers a r) numbers ≡ released_at (Some a) (stored held kept registers numbers)
  released_stored =
      let old : List (Option Entry) = stored held kept registers numbers in
      let long_old = length-stored held kept registers numbers in
      ext_get_or None (stored held kept' (set registers a r) numbers) (set old a (option_map released (entry_in old a)))
      (length-stored held kept' (set registers a r) numbers ∙ sym (length-set old a (option_map released (entry_in old a)) ∙ long_old)) (λ b below.
      entry_stored held kept' (set registers a r) numbers b fits ∙ elim (cases_eq b a) [
        | inl e ↦ rw e (here (some_or_none (is_in held a)) ∙ sym (get_or-set_same old a (option_map released (entry_in old a)) None (omega (arith, l, long_old))))
        | inr other ↦
            stored_same held kept held kept' registers (set registers a r) numbers numbers b b refl (others b other) (get_or-set_other registers a b r no_registers other) refl
            ∙ (sym (entry_stored held kept registers numbers b fits) ∙ sym (get_or-set_other old a b (option_map released (entry_in old a)) None other))
      ])
    where
      put : get_or (set registers a r) a no_registers ≡ r
      put = get_or-set_same registers a r no_registers (omega (arith, l, long))

      none : kept_at kept' numbers a ≡ None
      none = cond-false (is_in kept' a) _ None out

      here : (is_in held a ≡ true) ⊎ (is_in held a ≡ false) → stored_at held kept' (set registers a r) numbers a ≡ option_map released (entry_in (stored held kept registers numbers) a)
      here (inl has) =
          cond-true (is_in held a) _ None has
          ∙ ((λ t. Some (record { bcr = (put t).bcr; dcr = (put t).dcr; kept = none t; fixed = (put t).fixed }))
          ∙ ((λ t. Some (record { bcr = bcr t; dcr = dcr t; kept = None; fixed = fixed t }))
          ∙ sym (ap (option_map released) (entry_stored held kept registers numbers a fits ∙ cond-true (is_in held a) _ None has))))
      here (inr gone) = out_of held kept' (set registers a r) numbers a gone ∙ sym (ap (option_map released) (entry_stored held kept registers numbers a fits ∙ out_of held kept registers numbers a gone))

  pub whole_released : (board : Board) → IsWhole held kept board → IsWhole held kept' board
  whole_released board h = record {
    usable = h.usable;
    apart = h.apart;
    undeclared = h.undeclared;
    among = λ b has. elim (cases_eq b a) [
      | inl e ↦ absurd (both_ways (is_in kept' a) out (ap (is_in kept') (sym e) ∙ has))
      | inr other ↦ h.among b (sym (others b other) ∙ has)
    ];
  }

-- ---- a move

-- a set after an address was exchanged for another
pub record IsMoved (old new set set' : ℕ) : Type 0 where
  pub here : is_in set' new ≡ (is_in set old || is_in set new)
  pub gone : is_in set' old ≡ false
  pub others : (a : ℕ) → a ≢ old → a ≢ new → is_in set' a ≡ is_in set a

or_false : (a b : Bool) → b ≡ false → (a || b) ≡ a
or_false true b e = refl
or_false false b e = e

module _ (held kept held' kept' old new : ℕ) (registers : List Registers) (numbers : List ℕ) (board : Board) (h : IsWhole held kept board) (apart : old ≢ new)
    (gave : IsMoved old new held held') (keeps : IsMoved old new kept kept') (free : is_in held new ≡ false) where
  not_kept : is_in kept new ≡ false
  not_kept = elim (some_or_none (is_in kept new)) [ inr out ↦ out | inl has ↦ absurd (both_ways (is_in held new) free (h.among new has)) ]

  pub whole_moved : IsUsable new → IsFree board.legacy new → IsFree board.declared new → IsWhole held' kept' board
  whole_moved usable lone undeclared = record {
    usable = λ b has. at IsUsable usable h.usable b has;
    apart = λ b has. at (IsFree board.legacy) lone h.apart b has;
    undeclared = λ b has. at (IsFree board.declared) undeclared h.undeclared b has;
    among = λ b has. elim (cases_eq b new) [
      | inl e ↦ rw e (gave.here ∙ (or_false (is_in held old) (is_in held new) free ∙ h.among old (sym (or_false (is_in kept old) (is_in kept new) not_kept) ∙ (sym keeps.here ∙ (ap (is_in kept') (sym e) ∙ has)))))
      | inr other ↦ elim (cases_eq b old) [
        | inl e ↦ absurd (both_ways (is_in kept' old) keeps.gone (ap (is_in kept') (sym e) ∙ has))
        | inr another ↦ gave.others b another other ∙ h.among b (sym (keeps.others b another other) ∙ has)
      ]
    ];
  }
    where
      at : (P : ℕ → Type 0) → P new → ((b : ℕ) → is_in held b ≡ true → P b) → (b : ℕ) → is_in held' b ≡ true → P b
      at P p each b has = elim (cases_eq b new) [
        | inl e ↦ subst P (sym e) p
        | inr other ↦ elim (cases_eq b old) [
          | inl e ↦ absurd (both_ways (is_in held' old) gave.gone (ap (is_in held') (sym e) ∙ has))
          | inr another ↦ each b (sym (gave.others b another other) ∙ has)
        ]
      ]

  pub moved_stored : (registers' : List Registers) (numbers' : List ℕ) → IsSmall held' → new < 128 → get_or registers' new no_registers ≡ get_or registers old no_registers
      → ((b : ℕ) → b ≢ new → get_or registers' b no_registers ≡ get_or registers b no_registers) → get_or numbers' new 0 ≡ get_or numbers old 0 → ((b : ℕ) → b ≢ new → get_or numbers' b 0 ≡ get_or numbers b 0)
      → stored held' kept' registers' numbers' ≡ moved old new (stored held kept registers numbers)
  moved_stored registers' numbers' fits' l its registers_others number numbers_others =
      let given : List (Option Entry) = stored held kept registers numbers in
      let fits = small_whole held kept board h in
      let long = length-stored held kept registers numbers in
      let without : List (Option Entry) = set given old None in
      let long_without : length without ≡ 128 = length-set given old None ∙ long in
      ext_get_or None (stored held' kept' registers' numbers') (set without new (entry_in given old))
      (length-stored held' kept' registers' numbers' ∙ sym (length-set without new (entry_in given old) ∙ long_without)) (λ b below.
      entry_stored held' kept' registers' numbers' b fits' ∙ elim (cases_eq b new) [
        | inl e ↦ rw e (stored_same held kept held' kept' registers registers' numbers numbers' new old (gave.here ∙ or_false (is_in held old) (is_in held new) free) (keeps.here ∙ or_false (is_in kept old) (is_in kept new) not_kept) its number
            ∙ (sym (entry_stored held kept registers numbers old fits) ∙ sym (get_or-set_same without new (entry_in given old) None (omega (arith, l, long_without)))))
        | inr other ↦ elim (cases_eq b old) [
          | inl e ↦ rw e (out_of held' kept' registers' numbers' old gave.gone ∙ sym (get_or-set_other without new old (entry_in given old) None apart ∙ cleared_at given old))
          | inr another ↦
              stored_same held kept held' kept' registers registers' numbers numbers' b b (gave.others b another other) (keeps.others b another other) (registers_others b other) (numbers_others b other)
              ∙ (sym (entry_stored held kept registers numbers b fits) ∙ sym (get_or-set_other without new b (entry_in given old) None other ∙ get_or-set_other given old b None None another))
        ]
      ])
    where
      cleared_at : (xs : List (Option Entry)) (i : ℕ) → get_or (set xs i None) i None ≡ None
      cleared_at xs i = elim (set_at xs i i None None) [ inl e ↦ e.1 | inr same ↦ elim (cases_lt i (length xs)) [ inl less ↦ get_or-set_same xs i None None less | inr past ↦ same ∙ get_or_past xs i None past ] ]
