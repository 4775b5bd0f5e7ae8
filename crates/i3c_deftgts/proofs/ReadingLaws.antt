-- Words that are read as entries.
use Rattle.std.proofs.Common.{◌≡◌, ℕ, ◌+◌, ◌*◌, ◌≤◌, ◌<◌, Bool, true, false, ◌||◌, List, [], ◌∷◌, ◌++◌, length, map, drop, get_or, Option, Some, None, option_map, is_none, is_some, MatchOption, sym, refl, ap, ◌∙◌, arith, append_assoc, length-append}
use Rattle.std.specs.List.{filter_map, position_from}
use Rattle.std.proofs.lemmas.List.{append-nil, map_push}
use Rattle.i3c_word.specs.declared.Word.{Word}
use Rattle.i3c_deftgts.specs.declared.entries.Entry.{Entry}
use Rattle.i3c_deftgts.specs.declared.faults.ListFault.{ListFault}
use Rattle.i3c_deftgts.specs.declared.faults.ListFault.TheVariants.{Address, Twice}
use Rattle.i3c_deftgts.specs.Entries.{address_of, has_twice, is_among}
use Rattle.i3c_deftgts.specs.Layout.{bytes}
use Rattle.i3c_deftgts.specs.Reading.{entry_fault, first_of, later_entries, later_entry, said, same_address}
use Rattle.i3c_deftgts.proofs.GatheringLaws.{twice_push}

-- how far the entries after the first one are read: those that are done, and what was gathered of them
pub record IsReading (first : Entry) (words rest : List Word) (gathered : List Entry) (twice : Bool) (number : ℕ) : Type 0 where
  pub done : List Entry
  pub split : later_entries (bytes words) ≡ map Some done ++ later_entries (bytes rest)
  pub counted : number ≡ 1 + length done
  pub left : 4 * length done + length rest ≡ length words
  pub noted : twice ≡ has_twice (first ∷ done)
  pub kept : twice ≡ false → gathered ≡ first ∷ done

-- nothing is read yet
pub reading_none : (first : Entry) (words : List Word) (gathered : List Entry) → gathered ≡ first ∷ [] → IsReading first words words gathered false 1
reading_none first words gathered is = record {
  done = [];
  split = refl;
  counted = refl;
  left = omega arith;
  noted = refl;
  kept = λ e. is;
}

-- four words more are an entry
pub four_words : (rest : List Word) (d : Word) → 4 ≤ length rest → later_entries (bytes rest) ≡ later_entry (get_or rest 0 d).byte (get_or rest 1 d).byte (get_or rest 2 d).byte (get_or rest 3 d).byte ∷ later_entries (bytes (drop 4 rest))
four_words [] d l = absurd (omega arith)
four_words (w ∷ []) d l = absurd (omega arith)
four_words (w ∷ x ∷ []) d l = absurd (omega arith)
four_words (w ∷ x ∷ y ∷ []) d l = absurd (omega arith)
four_words (w ∷ x ∷ y ∷ z ∷ rest) d l = refl

-- fewer are none
pub few_words : (rest : List Word) → length rest < 4 → later_entries (bytes rest) ≡ []
few_words [] l = refl
few_words (w ∷ []) l = refl
few_words (w ∷ x ∷ []) l = refl
few_words (w ∷ x ∷ y ∷ []) l = refl
few_words (w ∷ x ∷ y ∷ z ∷ rest) l = absurd (omega arith)

-- what `insert` says
abbrev pub Inserted : Option Entry → List Entry → List Entry → Entry → Type 0
Inserted back old new entry = MatchOption back ((is_among (address_of entry) old ≡ false) × (new ≡ old ++ entry ∷ [])) (λ _. (is_among (address_of entry) old ≡ true) × (new ≡ old))

pub first_in : (back : Option Entry) (old new : List Entry) (first : Entry) → old ≡ [] → Inserted back old new first → new ≡ first ∷ []
first_in None old new first none h = h.1 ∙ ap (λ es. es ++ first ∷ []) none
first_in (Some other) old new first none h = let no = ap (is_among (address_of first)) none in let yes = h.0 in cc

module _ (first : Entry) (words rest more : List Word) (gathered : List Entry) (twice : Bool) (number : ℕ) (entry : Entry) where
  -- one entry more is done, whether it was kept or not
  more_done : (new : List Entry) (now_twice : Bool) (is : IsReading first words rest gathered twice number) → later_entries (bytes rest) ≡ Some entry ∷ later_entries (bytes more) → length rest ≡ 4 + length more
      → now_twice ≡ (has_twice (first ∷ is.done) || is_among (address_of entry) (first ∷ is.done)) → (now_twice ≡ false → new ≡ (first ∷ is.done) ++ entry ∷ []) → IsReading first words more new now_twice (number + 1)
  more_done new now_twice is next four noted kept = record {
    done = is.done ++ entry ∷ [];
    split = is.split ∙ (ap (λ es. map Some is.done ++ es) next
        ∙ (sym (append_assoc (map Some is.done) (Some entry ∷ []) (later_entries (bytes more))) ∙ ap (λ es. es ++ later_entries (bytes more)) (sym (map_push Some is.done entry))));
    counted = let had = is.counted in let long = length-append is.done (entry ∷ []) in omega (arith, had, long);
    left = let had = is.left in let long = length-append is.done (entry ∷ []) in omega (arith, had, long, four);
    noted = noted ∙ sym (twice_push (first ∷ is.done) entry);
    kept = kept;
  }

  -- its address is new
  kept_so_far : (b : Bool) (is : IsReading first words rest gathered twice number) → twice ≡ b → is_among (address_of entry) gathered ≡ false → twice ≡ (has_twice (first ∷ is.done) || is_among (address_of entry) (first ∷ is.done))
  kept_so_far true is e fresh = e ∙ sym (ap (λ b. b || is_among (address_of entry) (first ∷ is.done)) (sym is.noted ∙ e))
  kept_so_far false is e fresh = e ∙ sym (ap (λ b. b || is_among (address_of entry) (first ∷ is.done)) (sym is.noted ∙ e) ∙ (ap (is_among (address_of entry)) (sym (is.kept e)) ∙ fresh))

  pub reading_more : (back : Option Entry) (new : List Entry) → IsReading first words rest gathered twice number → later_entries (bytes rest) ≡ Some entry ∷ later_entries (bytes more) → length rest ≡ 4 + length more
      → is_some back ≡ false → Inserted back gathered new entry → IsReading first words more new twice (number + 1)
  reading_more (Some other) new is next four none h = cc
  reading_more None new is next four none h = more_done new twice is next four (kept_so_far twice is refl h.0) (λ e. h.1 ∙ ap (λ es. es ++ entry ∷ []) (is.kept e))

  -- one before has its address
  or_twice : (b : Bool) (is : IsReading first words rest gathered twice number) → twice ≡ b → is_among (address_of entry) gathered ≡ true → true ≡ (has_twice (first ∷ is.done) || is_among (address_of entry) (first ∷ is.done))
  or_twice true is e had = sym (ap (λ b. b || is_among (address_of entry) (first ∷ is.done)) (sym is.noted ∙ e))
  or_twice false is e had = sym (ap (λ b. b || is_among (address_of entry) (first ∷ is.done)) (sym is.noted ∙ e) ∙ (ap (is_among (address_of entry)) (sym (is.kept e)) ∙ had))

  pub reading_twice : (back : Option Entry) (new : List Entry) → IsReading first words rest gathered twice number → later_entries (bytes rest) ≡ Some entry ∷ later_entries (bytes more) → length rest ≡ 4 + length more
      → is_some back ≡ true → Inserted back gathered new entry → IsReading first words more new true (number + 1)
  reading_twice None new is next four none h = cc
  reading_twice (Some other) new is next four none h = more_done new true is next four (or_twice twice is refl h.0) (λ e. cc)

-- the fault of one address twice, alone
abbrev said_twice : Bool → Option ListFault
said_twice b = first_of (None ∷ said b Twice ∷ [])

-- entries that are there
position_past : (entries : List Entry) (rest : List (Option Entry)) (n : ℕ) → position_from is_none n (map Some entries ++ rest) ≡ position_from is_none (n + length entries) rest
position_past [] rest n = let same : n ≡ n + 0 = omega arith in ap (λ k. position_from (is_none {T = Entry}) k rest) same
position_past (entry ∷ entries) rest n = let same : (n + 1) + length entries ≡ n + length (entry ∷ entries) = omega arith in position_past entries rest (n + 1) ∙ ap (λ k. position_from (is_none {T = Entry}) k rest) same

present : (entries : List Entry) → filter_map (λ (entry : Option Entry). entry) (map Some entries) ≡ entries
present [] = refl
present (entry ∷ entries) = ap (λ es. entry ∷ es) (present entries)

whole : (first : Entry) (words rest : List Word) (gathered : List Entry) (twice : Bool) (number : ℕ) (is : IsReading first words rest gathered twice number) → Some first ∷ later_entries (bytes words) ≡ map Some (first ∷ is.done) ++ later_entries (bytes rest)
whole first words rest gathered twice number is = ap (λ es. Some first ∷ es) is.split

-- the next one lacks its address
pub lacks : (first : Entry) (words rest more : List Word) (gathered : List Entry) (twice : Bool) (number : ℕ) → IsReading first words rest gathered twice number → later_entries (bytes rest) ≡ None ∷ later_entries (bytes more) → entry_fault (Some first ∷ later_entries (bytes words)) ≡ Some (Address (number + 1))
lacks first words rest more gathered twice number is next =
    let at : position_from is_none 1 (Some first ∷ later_entries (bytes words)) ≡ Some (number + 1) =
    ap (position_from is_none 1) (whole first words rest gathered twice number is) ∙ (position_past (first ∷ is.done) (later_entries (bytes rest)) 1
    ∙ (ap (position_from is_none (1 + length (first ∷ is.done))) next ∙ ap Some (let had = is.counted in omega (arith, had)))) in
    ap (λ p. first_of (option_map Address p ∷ same_address (Some first ∷ later_entries (bytes words)) ∷ [])) at

-- entries that are there have no fault but one address twice
none_missing : (entries : List Entry) → position_from (is_none {T = Entry}) 1 (map Some entries) ≡ None
none_missing entries = ap (position_from (is_none {T = Entry}) 1) (sym (append-nil (map Some entries))) ∙ position_past entries [] 1

fault_of_all : (entries : List Entry) → entry_fault (map Some entries) ≡ said_twice (has_twice entries)
fault_of_all entries =
    ap (λ p. first_of (option_map Address p ∷ same_address (map Some entries) ∷ [])) (none_missing entries)
    ∙ ap (λ es. said_twice (has_twice es)) (present entries)

pub no_entry_fault : (entries : List Entry) → has_twice entries ≡ false → entry_fault (map Some entries) ≡ None
no_entry_fault entries own = fault_of_all entries ∙ ap said_twice own

-- nothing is left
module _ (first : Entry) (words rest : List Word) (gathered : List Entry) (twice : Bool) (number : ℕ) where
  all_there : (is : IsReading first words rest gathered twice number) → length rest < 4 → Some first ∷ later_entries (bytes words) ≡ map Some (first ∷ is.done)
  all_there is few = whole first words rest gathered twice number is ∙ (ap (λ es. map Some (first ∷ is.done) ++ es) (few_words rest few) ∙ append-nil (map Some (first ∷ is.done)))

  last_fault : (is : IsReading first words rest gathered twice number) → length rest < 4 → entry_fault (Some first ∷ later_entries (bytes words)) ≡ said_twice twice
  last_fault is few = ap entry_fault (all_there is few) ∙ (fault_of_all (first ∷ is.done) ∙ ap said_twice (sym is.noted))

  pub told_twice : IsReading first words rest gathered twice number → length rest < 4 → twice ≡ true → entry_fault (Some first ∷ later_entries (bytes words)) ≡ Some Twice
  told_twice is few e = last_fault is few ∙ ap said_twice e

  pub all_read : IsReading first words rest gathered twice number → length rest < 4 → twice ≡ false → (entry_fault (Some first ∷ later_entries (bytes words)) ≡ None) × (Some first ∷ later_entries (bytes words) ≡ map Some gathered)
  all_read is few e = (last_fault is few ∙ ap said_twice e, all_there is few ∙ ap (map Some) (sym (is.kept e)))
