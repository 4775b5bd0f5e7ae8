-- The first of the five faults, and the entries where there is none.
use Rattle.std.proofs.Common.{◌≡◌, ◌≢◌, ℕ, ◌+◌, ◌-◌, ◌≤◌, ◌<◌, ◌%◌, ◌/◌, Bool, true, false, not, ◌||◌, nat_lt, ◌==◌, List, [], ◌∷◌, length, map, take, drop, get_or, Option, Some, None, option_map, Result, Ok, Err, MatchResult, sym, refl, ap, ◌∙◌, arith}
use Rattle.std.specs.List.{position_from}
use Rattle.std.proofs.lemmas.Bool.{eq-eqb, le-ltb, lt-ltb, ne_eqb}
use Rattle.std.proofs.lemmas.List.{length-drop, take_all}
use Rattle.i3c_word.specs.declared.Word.{Word}
use Rattle.i3c_deftgts.specs.declared.entries.Entry.{Entry}
use Rattle.i3c_deftgts.specs.declared.faults.ListFault.{ListFault}
use Rattle.i3c_deftgts.specs.declared.faults.ListFault.TheVariants.{Parity, Truncated, Count}
use Rattle.i3c_deftgts.specs.Layout.{bytes}
use Rattle.i3c_deftgts.specs.Reading.{entries_in, entry_fault, first_entry, first_fault, first_of, has_wrong_t, is_count, is_cut_short, is_miscounted, later_entries, missing_address, said, same_address, ReadAs}

-- the first one
abbrev chosen : Option ℕ → Bool → Bool → List (Option Entry) → Option ListFault
chosen wrong_t cut miscounted entries = first_of (option_map Parity wrong_t ∷ said cut Truncated ∷ said miscounted Count ∷ missing_address entries ∷ same_address entries ∷ [])

module _ (words : List Word) where
  abbrev miscounted : Bool
  miscounted = is_miscounted (bytes words) (length (entries_in (bytes words)))

  pub told_parity : (n : ℕ) → position_from has_wrong_t 1 words ≡ Some n → first_fault words ≡ Some (Parity n)
  told_parity n e = ap (λ p. chosen p (is_cut_short (length words)) miscounted (entries_in (bytes words))) e

  pub told_cut : position_from has_wrong_t 1 words ≡ None → is_cut_short (length words) ≡ true → first_fault words ≡ Some Truncated
  told_cut e cut =
      ap (λ p. chosen p (is_cut_short (length words)) miscounted (entries_in (bytes words))) e
      ∙ ap (λ b. chosen None b miscounted (entries_in (bytes words))) cut

  pub told_count : position_from has_wrong_t 1 words ≡ None → is_cut_short (length words) ≡ false → miscounted ≡ true → first_fault words ≡ Some Count
  told_count e whole wrong =
      ap (λ p. chosen p (is_cut_short (length words)) miscounted (entries_in (bytes words))) e
      ∙ (ap (λ b. chosen None b miscounted (entries_in (bytes words))) whole
      ∙ ap (λ b. chosen None false b (entries_in (bytes words))) wrong)

  pub told_addresses : position_from has_wrong_t 1 words ≡ None → is_cut_short (length words) ≡ false → miscounted ≡ false → first_fault words ≡ entry_fault (entries_in (bytes words))
  told_addresses e whole right =
      ap (λ p. chosen p (is_cut_short (length words)) miscounted (entries_in (bytes words))) e
      ∙ (ap (λ b. chosen None b miscounted (entries_in (bytes words))) whole
      ∙ ap (λ b. chosen None false b (entries_in (bytes words))) right)

pub whole_is_not : (n : ℕ) → 5 ≤ n → (n - 5) % 4 ≡ 0 → is_cut_short n ≡ false
whole_is_not n l even = ap (λ b. b || not ((n - 1) % 4 == 0)) (le-ltb n 5 l) ∙ ap not (eq-eqb ((n - 1) % 4) 0 (omega (arith, even, l)))

-- the entries of five words or more
pub length-later : (words : List Word) → length (later_entries (bytes words)) ≡ length words / 4
length-later [] = refl
length-later (w ∷ []) = refl
length-later (w ∷ x ∷ []) = refl
length-later (w ∷ x ∷ y ∷ []) = refl
length-later (w ∷ x ∷ y ∷ z ∷ rest) = omega (arith, length-later rest)

pub five_words : (words : List Word) (d : Word) → 5 ≤ length words → entries_in (bytes words) ≡ first_entry (get_or words 1 d).byte (get_or words 2 d).byte (get_or words 3 d).byte (get_or words 4 d).byte ∷ later_entries (bytes (drop 5 words))
five_words [] d l = absurd (omega arith)
five_words (v ∷ []) d l = absurd (omega arith)
five_words (v ∷ w ∷ []) d l = absurd (omega arith)
five_words (v ∷ w ∷ x ∷ []) d l = absurd (omega arith)
five_words (v ∷ w ∷ x ∷ y ∷ []) d l = absurd (omega arith)
five_words (v ∷ w ∷ x ∷ y ∷ z ∷ rest) d l = refl

counted : (words : List Word) (d : Word) (n : ℕ) → 5 ≤ length words → is_miscounted (bytes words) n ≡ not (is_count (get_or words 0 d).byte n)
counted [] d n l = absurd (omega arith)
counted (w ∷ rest) d n l = refl

pub count_of : (words : List Word) (d : Word) → 5 ≤ length words → miscounted words ≡ not (is_count (get_or words 0 d).byte (1 + length (drop 5 words) / 4))
count_of words d l =
    let many : length (entries_in (bytes words)) ≡ 1 + length (drop 5 words) / 4 = ap length (five_words words d l) ∙ omega (arith, length-later (drop 5 words)) in
    ap (is_miscounted (bytes words)) many ∙ counted words d (1 + length (drop 5 words) / 4) l

-- what a list's entries are read as is what its words are
pub read_result : (result : Result (List Entry) ListFault) (words : List Word) (entries : List (Option Entry)) → entries_in (bytes words) ≡ entries → first_fault words ≡ entry_fault entries
    → MatchResult result (λ list. (entry_fault entries ≡ None) × (entries ≡ map Some list)) (λ fault. entry_fault entries ≡ Some fault)
    → MatchResult result (λ list. ReadAs words list) (λ fault. first_fault words ≡ Some fault)
read_result (Ok list) words entries same fault h = record { flawless = fault ∙ h.0; same = same ∙ h.1 }
read_result (Err wrong) words entries same fault h = fault ∙ h

-- the same for five words or more: `rest` has those behind the first five
pub rest_of : (words : List Word) → take (length words - 5) (drop 5 words) ≡ drop 5 words
rest_of words = take_all (length words - 5) (drop 5 words) (omega (arith, length-drop 5 words))

pub is_whole : (words : List Word) → 5 ≤ length words → length (take (length words - 5) (drop 5 words)) % 4 ≡ 0 → is_cut_short (length words) ≡ false
is_whole words l even =
    let long : length (drop 5 words) ≡ length words - 5 = length-drop 5 words in
    whole_is_not (length words) l (rw (ap (λ k. k % 4) (sym long)) (rw (rest_of words) at even))

pub is_right : (words : List Word) (d : Word) (right : Bool) → 5 ≤ length words → right ≡ is_count (get_or words 0 d).byte (1 + length (take (length words - 5) (drop 5 words)) / 4) → miscounted words ≡ not right
is_right words d right l is = count_of words d l ∙ ap not (sym (is ∙ ap (λ r. is_count (get_or words 0 d).byte (1 + length r / 4)) (rest_of words)))
