-- The entry at an address of a stored table.
use Rattle.std.proofs.Common.{◌≡◌, ◌≢◌, ℕ, ◌^◌, ◌<◌, ◌≤◌, ◌==◌, Bool, true, false, List, length, get_or, set, Option, Some, None, MatchOption, option_map, ◌⊎◌, if◌then◌else◌, sym, refl, ap, ◌∙◌, inl, inr, arith, subst, zero-add}
use Rattle.std.proofs.lemmas.Bool.{both_ways, cases_eq, cases_lt, cond-true, cond-false, eq-eqb, ne_eqb}
use Rattle.std.proofs.lemmas.List.{ext_get_or, get_or_past, get_or-set_other, get_or-set_same, length-set}
use Rattle.std.proofs.lemmas.List.FromFn.{get_or-map-range_with_len, length-map-range_with_len}
use Rattle.std.proofs.lemmas.Option.{none-some, same_Some}
use Rattle.i3c_base.specs.declared.identity.Identity.{Identity}
use Rattle.i3c_base.specs.declared.range.TheConstants.{ADDRESSES}
use Rattle.i3c_base.specs.Covered.{Table}
use Rattle.i3c_base.specs.Numbers.{IsInRange, number_of}
use Rattle.i3c_base.specs.State.{Board, Entry, IsFree, IsUsable, entry_in, kept_of, no_entries, unkept}
use Rattle.i3c_base.proofs.Lookups.{changed_at, length-changed, length-no_entries, no_entries_at}
use Rattle.i3c_base.proofs.NumberLaws.{same_number}
use Rattle.i3c_table.specs.declared.registers.Registers.{Registers}
use Rattle.i3c_table.specs.declared.row.Row.{Row}
use Rattle.i3c_table.specs.Putting.{MayPut, only_at}
use Rattle.i3c_base.specs.Sets.{is_in}
use Rattle.i3c_table.specs.Stored.{identity_of, kept_at, no_registers, stored, stored_at, IsWhole}

-- ---- identities and their numbers

pub number_again : (n : ℕ) → number_of (identity_of n) ≡ n
number_again n = omega arith

pub identity_in_range : (n : ℕ) → n < 2 ^ 64 → IsInRange (identity_of n)
identity_in_range n fits = (omega arith, omega arith, omega arith)

pub identity_again : (i : Identity) → IsInRange i → identity_of (number_of i) ≡ i
identity_again i h = same_number (identity_of (number_of i)) i (identity_in_range (number_of i) (let p = h.0 in let b = h.1 in let d = h.2 in omega (arith, p, b, d))) h (number_again (number_of i))

pub identity_is : (i : Identity) (n : ℕ) → IsInRange i → number_of i ≡ n → i ≡ identity_of n
identity_is i n h e = sym (identity_again i h) ∙ ap identity_of e

-- ---- the entry at an address

pub some_or_none : (b : Bool) → (b ≡ true) ⊎ (b ≡ false)
some_or_none true = inl refl
some_or_none false = inr refl

-- no address of the set is past the last one
abbrev pub IsSmall : ℕ → Type 0
IsSmall held = (b : ℕ) → 128 ≤ b → is_in held b ≡ false

pub small_whole : (held kept : ℕ) (board : Board) → IsWhole held kept board → IsSmall held
small_whole held kept board h b past = elim (some_or_none (is_in held b)) [
  | inr out ↦ out
  | inl has ↦ let at_most = (h.usable b has).1 in absurd (omega (arith, past, at_most))
]

pub small_put : (held held' a : ℕ) → IsSmall held → a < 128 → ((b : ℕ) → b ≢ a → is_in held' b ≡ is_in held b) → IsSmall held'
small_put held held' a h l others b past = others b (λ e. absurd (omega (arith, l, past, e))) ∙ h b past

module _ (held kept : ℕ) (registers : List Registers) (numbers : List ℕ) where
  pub length-stored : length (stored held kept registers numbers) ≡ ADDRESSES
  unfolding stored
  length-stored = length-map-range_with_len (stored_at held kept registers numbers) 0 ADDRESSES

  within : (a : ℕ) → a < 128 → entry_in (stored held kept registers numbers) a ≡ stored_at held kept registers numbers a
  unfolding stored
  within a l = get_or-map-range_with_len (stored_at held kept registers numbers) 0 ADDRESSES a a None l (zero-add a)

  pub out_of : (a : ℕ) → is_in held a ≡ false → stored_at held kept registers numbers a ≡ None
  out_of a out = cond-false (is_in held a) _ None out

  pub entry_stored : (a : ℕ) → IsSmall held → entry_in (stored held kept registers numbers) a ≡ stored_at held kept registers numbers a
  entry_stored a fits = elim (cases_lt a 128) [
    | inl l ↦ within a l
    | inr past ↦ get_or_past (stored held kept registers numbers) a None (omega (arith, past, length-stored)) ∙ sym (out_of a (fits a past))
  ]

  pub free_stored : (a : ℕ) → IsSmall held → IsFree (stored held kept registers numbers) a → is_in held a ≡ false
  free_stored a fits free = elim (some_or_none (is_in held a)) [
    | inr out ↦ out
    | inl has ↦ absurd (none-some _ (sym free ∙ (entry_stored a fits ∙ cond-true (is_in held a) _ None has)))
  ]

  pub kept_stored : (a : ℕ) → IsSmall held → ((b : ℕ) → is_in kept b ≡ true → is_in held b ≡ true) → kept_of (entry_in (stored held kept registers numbers) a) ≡ kept_at kept numbers a
  kept_stored a fits among = elim (some_or_none (is_in held a)) [
    | inl has ↦ ap kept_of (entry_stored a fits ∙ cond-true (is_in held a) _ None has)
    | inr out ↦ ap kept_of (entry_stored a fits ∙ out_of a out) ∙ sym (elim (some_or_none (is_in kept a)) [
      | inr not_kept ↦ cond-false (is_in kept a) _ None not_kept
      | inl is_kept ↦ absurd (both_ways (is_in held a) out (among a is_kept))
    ])
  ]

  pub row_stored : (a : ℕ) (identity : Option Identity) → IsSmall held → ((b : ℕ) → is_in kept b ≡ true → is_in held b ≡ true)
      → is_in held a ≡ true → identity ≡ kept_of (entry_in (stored held kept registers numbers) a)
      → entry_in (stored held kept registers numbers) a ≡ Some (record { bcr = (get_or registers a no_registers).bcr; dcr = (get_or registers a no_registers).dcr; kept = identity; fixed = (get_or registers a no_registers).fixed })
  row_stored a identity fits among has same =
      let its : identity ≡ kept_at kept numbers a = same ∙ kept_stored a fits among in
      entry_stored a fits ∙ (cond-true (is_in held a) _ None has ∙ sym (ap (λ k. Some (record { bcr = (get_or registers a no_registers).bcr; dcr = (get_or registers a no_registers).dcr; kept = k; fixed = (get_or registers a no_registers).fixed })) its))

-- ---- changes

-- an entry that is put
pub put_stored : (held kept held' kept' : ℕ) (registers registers' : List Registers) (numbers numbers' : List ℕ) (a : ℕ) (e : Entry) → IsSmall held → IsSmall held' → a < 128
    → is_in held' a ≡ true → ((b : ℕ) → b ≢ a → is_in held' b ≡ is_in held b) → ((b : ℕ) → b ≢ a → is_in kept' b ≡ is_in kept b)
    → ((b : ℕ) → b ≢ a → get_or registers' b no_registers ≡ get_or registers b no_registers) → ((b : ℕ) → b ≢ a → get_or numbers' b 0 ≡ get_or numbers b 0)
    → (get_or registers' a no_registers).bcr ≡ e.bcr → (get_or registers' a no_registers).dcr ≡ e.dcr → (get_or registers' a no_registers).fixed ≡ e.fixed → kept_at kept' numbers' a ≡ e.kept
    → stored held' kept' registers' numbers' ≡ set (stored held kept registers numbers) a (Some e)
put_stored held kept held' kept' registers registers' numbers numbers' a e fits fits' l has others kept_others registers_others numbers_others bcr dcr fixed identity =
    let old : List (Option Entry) = stored held kept registers numbers in
    let long = length-stored held kept registers numbers in
    ext_get_or None (stored held' kept' registers' numbers') (set old a (Some e)) (length-stored held' kept' registers' numbers' ∙ sym (length-set old a (Some e) ∙ long)) (λ b below. elim (cases_eq b a) [
      | inl same ↦ rw same (entry_stored held' kept' registers' numbers' a fits' ∙ (cond-true (is_in held' a) _ None has ∙ ((λ t. Some (record { bcr = bcr t; dcr = dcr t; kept = identity t; fixed = fixed t })) ∙ sym (get_or-set_same old a (Some e) None (omega (arith, l, long))))))
      | inr other ↦ entry_stored held' kept' registers' numbers' b fits' ∙ (unchanged b other ∙ (sym (entry_stored held kept registers numbers b fits) ∙ sym (get_or-set_other old a b (Some e) None other)))
    ])
  where
    unchanged : (b : ℕ) → b ≢ a → stored_at held' kept' registers' numbers' b ≡ stored_at held kept registers numbers b
    unchanged b other = λ t.
        if others b other t then Some (record { bcr = (registers_others b other t).bcr; dcr = (registers_others b other t).dcr; kept = if kept_others b other t then Some (identity_of (numbers_others b other t)) else None; fixed = (registers_others b other t).fixed }) else None

-- nothing stored
pub whole_none : (none : ℕ) (board : Board) → ((a : ℕ) → is_in none a ≡ false) → IsWhole none none board
whole_none none board nothing = record {
  usable = λ a has. absurd (both_ways (is_in none a) (nothing a) has);
  undeclared = λ a has. absurd (both_ways (is_in none a) (nothing a) has);
  apart = λ a has. absurd (both_ways (is_in none a) (nothing a) has);
  among = λ a has. has;
}

pub none_stored : (none : ℕ) (registers : List Registers) (numbers : List ℕ) → ((a : ℕ) → is_in none a ≡ false) → stored none none registers numbers ≡ no_entries
none_stored none registers numbers nothing =
    let long = length-stored none none registers numbers in
    ext_get_or None (stored none none registers numbers) no_entries (long ∙ sym length-no_entries) (λ a below. entry_stored none none registers numbers a (λ b past. nothing b) ∙ (out_of none none registers numbers a (nothing a) ∙ sym (no_entries_at a)))

-- ---- what holds of each table

-- an address more, which is kept or isn't
pub whole_put : (held kept held' kept' a : ℕ) (board : Board) → IsWhole held kept board → (is_in held a ≡ false → IsUsable a × IsFree board.legacy a × IsFree board.declared a)
    → is_in held' a ≡ true → ((b : ℕ) → b ≢ a → is_in held' b ≡ is_in held b) → ((b : ℕ) → b ≢ a → is_in kept' b ≡ is_in kept b) → IsWhole held' kept' board
whole_put held kept held' kept' a board h new has others kept_others = record {
  usable = λ b in_it. elim (cases_eq b a) [ inl e ↦ subst IsUsable (sym e) here.0 | inr other ↦ h.usable b (sym (others b other) ∙ in_it) ];
  apart = λ b in_it. elim (cases_eq b a) [ inl e ↦ subst (IsFree board.legacy) (sym e) here.1 | inr other ↦ h.apart b (sym (others b other) ∙ in_it) ];
  undeclared = λ b in_it. elim (cases_eq b a) [ inl e ↦ subst (IsFree board.declared) (sym e) here.2 | inr other ↦ h.undeclared b (sym (others b other) ∙ in_it) ];
  among = λ b in_it. elim (cases_eq b a) [ inl e ↦ ap (is_in held') e ∙ has | inr other ↦ others b other ∙ h.among b (sym (kept_others b other) ∙ in_it) ];
}
  where
    here : IsUsable a × IsFree board.legacy a × IsFree board.declared a
    here = elim (some_or_none (is_in held a)) [ inl stood ↦ (h.usable a stood, h.apart a stood, h.undeclared a stood) | inr out ↦ new out ]

-- one address alone, which isn't kept
pub whole_only : (held kept held' none a : ℕ) (board : Board) → IsWhole held kept board → is_in held' a ≡ is_in held a → ((b : ℕ) → b ≢ a → is_in held' b ≡ false) → ((b : ℕ) → is_in none b ≡ false) → IsWhole held' none board
whole_only held kept held' none a board h here others nothing = record {
  usable = λ b in_it. h.usable b (stood b in_it);
  apart = λ b in_it. h.apart b (stood b in_it);
  undeclared = λ b in_it. h.undeclared b (stood b in_it);
  among = λ b in_it. absurd (both_ways (is_in none b) (nothing b) in_it);
}
  where
    stood : (b : ℕ) → is_in held' b ≡ true → is_in held b ≡ true
    stood b in_it = elim (cases_eq b a) [ inl e ↦ ap (is_in held) e ∙ (sym here ∙ (ap (is_in held') (sym e) ∙ in_it)) | inr other ↦ absurd (both_ways (is_in held' b) (others b other) in_it) ]

-- a row comes to a usable address that is nobody's static one
pub new_row : (held kept : ℕ) (registers : List Registers) (numbers : List ℕ) (table : Table) (row : Row) → stored held kept registers numbers ≡ table.given → IsSmall held → MayPut table row
    → is_in held row.address ≡ false → IsUsable row.address × IsFree table.legacy row.address × IsFree table.declared row.address
new_row held kept registers numbers table row view fits (inl pickable) out = (pickable.0, pickable.2, pickable.3)
new_row held kept registers numbers table row view fits (inr keeps) out =
    let none = ap (λ g. kept_of (entry_in g row.address)) (sym view) ∙ ap kept_of (entry_stored held kept registers numbers row.address fits ∙ out_of held kept registers numbers row.address out) in
    absurd (none-some keeps.0 (sym none ∙ keeps.2.0))

-- at an address that is kept, a row with an identity is of the same number
kept_row : (held kept : ℕ) (registers : List Registers) (numbers : List ℕ) (table : Table) (row : Row) (i : Identity) → stored held kept registers numbers ≡ table.given → IsSmall held
    → ((b : ℕ) → is_in kept b ≡ true → is_in held b ≡ true) → MayPut table row → row.identity ≡ Some i → is_in kept row.address ≡ true → get_or numbers row.address 0 ≡ number_of i
kept_row held kept registers numbers table row i view fits among (inl pickable) is has =
    absurd (both_ways (is_in held row.address) (free_stored held kept registers numbers row.address fits (subst (λ g. IsFree g row.address) (sym view) pickable.1)) (among row.address has))
kept_row held kept registers numbers table row i view fits among (inr keeps) is has =
    let here = kept_stored held kept registers numbers row.address fits among ∙ cond-true (is_in kept row.address) _ None has in
    let its : identity_of (get_or numbers row.address 0) ≡ keeps.0 = same_Some _ _ (sym here ∙ (ap (λ g. kept_of (entry_in g row.address)) view ∙ keeps.2.0)) in
    sym (number_again (get_or numbers row.address 0)) ∙ ap number_of (its ∙ same_Some _ _ (sym keeps.1 ∙ is))

-- and one without comes to an address that isn't kept
unkept_row : (held kept : ℕ) (registers : List Registers) (numbers : List ℕ) (table : Table) (row : Row) → stored held kept registers numbers ≡ table.given → IsSmall held
    → ((b : ℕ) → is_in kept b ≡ true → is_in held b ≡ true) → MayPut table row → row.identity ≡ None → is_in kept row.address ≡ false
unkept_row held kept registers numbers table row view fits among (inl pickable) is = elim (some_or_none (is_in kept row.address)) [
  | inr out ↦ out
  | inl has ↦ absurd (both_ways (is_in held row.address) (free_stored held kept registers numbers row.address fits (subst (λ g. IsFree g row.address) (sym view) pickable.1)) (among row.address has))
]
unkept_row held kept registers numbers table row view fits among (inr keeps) is = absurd (none-some keeps.0 (sym is ∙ keeps.1))

-- so a row fits what its address is kept for
pub fitting_row : (held kept : ℕ) (registers : List Registers) (numbers : List ℕ) (table : Table) (row : Row) (identity : Option Identity) → stored held kept registers numbers ≡ table.given → IsSmall held
    → ((b : ℕ) → is_in kept b ≡ true → is_in held b ≡ true) → MayPut table row → row.identity ≡ identity
    → MatchOption identity (is_in kept row.address ≡ false) (λ i. is_in kept row.address ≡ true → get_or numbers row.address 0 ≡ number_of i)
fitting_row held kept registers numbers table row None view fits among may is = unkept_row held kept registers numbers table row view fits among may is
fitting_row held kept registers numbers table row (Some i) view fits among may is = kept_row held kept registers numbers table row i view fits among may is

only_at_at : (own : ℕ) (given : List (Option Entry)) (a : ℕ) → entry_in (only_at own given) a ≡ (if a == own then option_map unkept (entry_in given a) else None)
only_at_at own given a = changed_at (λ b place. if b == own then option_map unkept place else None) given a None (none_if (a == own))
  where
    none_if : (b : Bool) → ◌≡◌ {A = Option Entry} (if b then None else None) None
    none_if true = refl
    none_if false = refl

-- the controller's own entry alone, kept for nobody
pub only_stored : (held kept held' none own : ℕ) (registers : List Registers) (numbers : List ℕ) → IsSmall held → is_in held' own ≡ is_in held own → ((b : ℕ) → b ≢ own → is_in held' b ≡ false) → ((b : ℕ) → is_in none b ≡ false)
    → stored held' none registers numbers ≡ only_at own (stored held kept registers numbers)
only_stored held kept held' none own registers numbers fits here others nothing =
    let old : List (Option Entry) = stored held kept registers numbers in
    ext_get_or None (stored held' none registers numbers) (only_at own old) (length-stored held' none registers numbers ∙ sym (length-changed (λ b place. if b == own then option_map unkept place else None) old ∙ length-stored held kept registers numbers)) (λ a below.
    entry_stored held' none registers numbers a small ∙ (elim (cases_eq a own) [
      | inl e ↦ rw e (alone (is_in held own) refl) ∙ sym (only_at_at own old a ∙ (cond-true (a == own) (option_map unkept (entry_in old a)) None (eq-eqb a own e) ∙ ap (λ b. option_map unkept (entry_in old b)) e))
      | inr other ↦ out_of held' none registers numbers a (others a other) ∙ sym (only_at_at own old a ∙ cond-false (a == own) (option_map unkept (entry_in old a)) None (ne_eqb a own other))
    ]))
  where
    small : IsSmall held'
    small b past = elim (cases_eq b own) [ inl e ↦ ap (is_in held') e ∙ (here ∙ (ap (is_in held) (sym e) ∙ fits b past)) | inr other ↦ others b other ]

    alone : (b : Bool) → is_in held own ≡ b → stored_at held' none registers numbers own ≡ option_map unkept (entry_in (stored held kept registers numbers) own)
    alone true e = cond-true (is_in held' own) _ None (here ∙ e) ∙ (ap (λ k. Some (record { bcr = (get_or registers own no_registers).bcr; dcr = (get_or registers own no_registers).dcr; kept = k; fixed = (get_or registers own no_registers).fixed })) (cond-false (is_in none own) _ None (nothing own))
        ∙ sym (ap (option_map unkept) (entry_stored held kept registers numbers own fits ∙ cond-true (is_in held own) _ None e)))
    alone false e = out_of held' none registers numbers own (here ∙ e) ∙ sym (ap (option_map unkept) (entry_stored held kept registers numbers own fits ∙ out_of held kept registers numbers own e))
