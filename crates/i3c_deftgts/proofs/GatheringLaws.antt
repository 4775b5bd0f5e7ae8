-- Entries that are gathered, with marks at their addresses.
use Rattle.std.proofs.Common.{◌≡◌, ℕ, ◌<◌, Bool, true, false, not, ◌||◌, cond, ◌==◌, List, [], ◌∷◌, ◌++◌, length, get_or, set, replicate, inl, inr, sym, refl, ap, ◌∙◌, arith, length-append}
use Rattle.std.proofs.lemmas.Bool.{cases_eq, eq-eqb, ne_eqb}
use Rattle.std.proofs.lemmas.List.{get_or-replicate, get_or-set_other, get_or-set_same, length-replicate, length-set}
use Rattle.std.proofs.lemmas.List.Folds.{sum_by-replicate}
use Rattle.std.proofs.lemmas.List.Sums.{count_by-le-length, sum_by-set}
use Rattle.i3c_base.specs.declared.range.TheConstants.{ADDRESSES}
use Rattle.i3c_deftgts.specs.declared.entries.Entry.{Entry}
use Rattle.i3c_deftgts.specs.Entries.{address_of, has_twice, is_among, AreMarked}

eq_flip : (a b : ℕ) → (a == b) ≡ (b == a)
eq_flip a b = elim (cases_eq a b) [
  | inl same ↦ eq-eqb a b same ∙ sym (eq-eqb b a (sym same))
  | inr other ↦ ne_eqb a b other ∙ sym (ne_eqb b a (λ e. other (sym e)))
]

-- one more entry
pub among_push : (a : ℕ) (entries : List Entry) (entry : Entry) → is_among a (entries ++ entry ∷ []) ≡ (is_among a entries || (address_of entry == a))
among_push a [] entry = or_false (address_of entry == a)
  where
    or_false : (b : Bool) → (b || false) ≡ b
    or_false true = refl
    or_false false = refl
among_push a (x ∷ xs) entry = ap (λ b. (address_of x == a) || b) (among_push a xs entry) ∙ or_assoc (address_of x == a) (is_among a xs) (address_of entry == a)
  where
    or_assoc : (p q r : Bool) → (p || (q || r)) ≡ ((p || q) || r)
    or_assoc true q r = refl
    or_assoc false q r = refl

pub twice_push : (entries : List Entry) (entry : Entry) → has_twice (entries ++ entry ∷ []) ≡ (has_twice entries || is_among (address_of entry) entries)
twice_push [] entry = refl
twice_push (x ∷ xs) entry =
    ap (λ b. b || has_twice (xs ++ entry ∷ [])) (among_push (address_of x) xs entry)
    ∙ (ap (λ b. (is_among (address_of x) xs || (address_of entry == address_of x)) || b) (twice_push xs entry)
    ∙ (ap (λ b. (is_among (address_of x) xs || b) || (has_twice xs || is_among (address_of entry) xs)) (eq_flip (address_of entry) (address_of x))
    ∙ shuffled (is_among (address_of x) xs) (address_of x == address_of entry) (has_twice xs) (is_among (address_of entry) xs)))
  where
    shuffled : (p q r s : Bool) → ((p || q) || (r || s)) ≡ ((p || r) || (q || s))
    shuffled true q r s = refl
    shuffled false true true s = refl
    shuffled false true false s = refl
    shuffled false false r s = refl

-- no entry, and no mark
pub marked_none : (entries : List Entry) → entries ≡ [] → AreMarked (replicate ADDRESSES false) entries
marked_none entries none = record {
  long = length-replicate {A = Bool} ADDRESSES false;
  marked = λ a l. get_or-replicate {A = Bool} ADDRESSES a false false l ∙ ap (is_among a) (sym none);
  counted = sum_by-replicate (λ (b : Bool). cond b 1 0) ADDRESSES false ∙ ap length (sym none);
  own = ap has_twice none;
}

-- one more entry, whose address has no mark
pub marked_more : (marks : List Bool) (entries : List Entry) (entry : Entry) → AreMarked marks entries → address_of entry < ADDRESSES → get_or marks (address_of entry) false ≡ false → AreMarked (set marks (address_of entry) true) (entries ++ entry ∷ [])
marked_more marks entries entry are below fresh =
    let within : address_of entry < length marks = let long = are.long in omega (arith, long, below) in
    let absent : is_among (address_of entry) entries ≡ false = sym (are.marked (address_of entry) below) ∙ fresh in
    record {
      long = length-set marks (address_of entry) true ∙ are.long;
      marked = λ a l. elim (cases_eq a (address_of entry)) [
        | inl same ↦
            ap (λ b. get_or (set marks (address_of entry) true) b false) same
            ∙ (get_or-set_same marks (address_of entry) true false within
            ∙ sym (among_push a entries entry ∙ (ap (λ b. is_among a entries || b) (eq-eqb (address_of entry) a (sym same)) ∙ or_true (is_among a entries))))
        | inr other ↦
            get_or-set_other marks (address_of entry) a true false other
            ∙ (are.marked a l ∙ sym (among_push a entries entry ∙ (ap (λ b. is_among a entries || b) (ne_eqb (address_of entry) a (λ e. other (sym e))) ∙ or_false (is_among a entries))))
      ];
      counted =
          let one : ◌≡◌ {A = ℕ} (cond (get_or marks (address_of entry) false) 1 0) 0 = ap (λ b. cond b 1 0) fresh in
          let more = sum_by-set (λ (b : Bool). cond b 1 0) marks (address_of entry) true false within in
          let had = are.counted in
          let last = length-append entries (entry ∷ []) in
          omega (arith, one, more, had, last);
      own = twice_push entries entry ∙ (ap (λ b. b || is_among (address_of entry) entries) are.own ∙ absent);
    }
  where
    or_true : (b : Bool) → (b || true) ≡ true
    or_true true = refl
    or_true false = refl

    or_false : (b : Bool) → (b || false) ≡ b
    or_false true = refl
    or_false false = refl

-- there is room for it
pub marked_room : (marks : List Bool) (entries : List Entry) (a : ℕ) → AreMarked marks entries → a < ADDRESSES → get_or marks a false ≡ false → length entries < 128
marked_room marks entries a are below fresh =
    let within : a < length marks = let long = are.long in omega (arith, long, below) in
    let one : ◌≡◌ {A = ℕ} (cond (get_or marks a false) 1 0) 0 = ap (λ b. cond b 1 0) fresh in
    let more = sum_by-set (λ (b : Bool). cond b 1 0) marks a true false within in
    let most = count_by-le-length (λ b. b) (set marks a true) in
    let long = length-set marks a true ∙ are.long in
    let had = are.counted in
    omega (arith, one, more, most, long, had)

-- what `!` says of a mark
pub unmarked : (mark : Bool) → true ≡ not mark → mark ≡ false
unmarked true h = cc
unmarked false h = refl
