-- Slots by the addresses that they have.
use Rattle.std.proofs.Common.{◌≡◌, ℕ, ◌<◌, ◌≤◌, Bool, true, false, ◌&&◌, ◌==◌, if◌then◌else◌, List, length, length-set, set, replicate, slice_index, inl, inr, refl, sym, ap, ◌∙◌, arith}
use Rattle.std.proofs.lemmas.Bool.{cases_eq, cond-true, eq-eqb, ne_eqb}
use Rattle.std.proofs.lemmas.List.{get_or-replicate, get_or-set_other, get_or-set_same, length-replicate}
use Rattle.i3c_base.specs.declared.range.TheConstants.{ADDRESSES, SLOTS}
use Rattle.i3c_device.specs.declared.answering.Answering.{Answering}
use Rattle.i3c_device.specs.declared.answering.TheConstants.{NOWHERE}
use Rattle.i3c_device.specs.declared.slot_set.SlotSet.{SlotSet}
use Rattle.i3c_device.specs.Answering.{AreFound, set_at}
use Rattle.i3c_device.specs.Sets.{has}

-- nobody has an address
pub found_none : (none : SlotSet) → ((s : ℕ) → has none s ≡ false) → AreFound (record { addresses = replicate SLOTS NOWHERE; slots = replicate ADDRESSES none })
found_none none empty = record {
  every = length-replicate {A = ℕ} SLOTS NOWHERE;
  all = length-replicate {A = SlotSet} ADDRESSES none;
  found = λ a s l m.
      ap (λ x. has x s) (get_or-replicate ADDRESSES a none (record { bits = 0 }) l) ∙ (empty s ∙ sym (ap (λ k. k == a) (get_or-replicate SLOTS s NOWHERE 0 m) ∙ ne_eqb NOWHERE a (λ e. omega (arith, e, l))));
}

-- one set anew
pub entered_in : (slots : List SlotSet) (at i : ℕ) (more : SlotSet) (b : Bool) → at < length slots → ((s : ℕ) → s < SLOTS → has more s ≡ (if s == i then b else has (set_at slots at) s)) → (a s : ℕ) → s < SLOTS
    → has (set_at (set slots at more) a) s ≡ (if a == at && s == i then b else has (set_at slots a) s)
entered_in slots at i more b low put a s l = elim (cases_eq a at) [
  | inl e ↦
      ap (λ k. has (set_at (set slots at more) k) s) e ∙ (ap (λ x. has x s) (get_or-set_same slots at more (record { bits = 0 }) low) ∙ (put s l
      ∙ (ap (λ k. if s == i then b else has (set_at slots k) s) (sym e) ∙ sym (ap (λ x. if x && s == i then b else has (set_at slots a) s) (eq-eqb a at e)))))
  | inr ne ↦ ap (λ x. has x s) (get_or-set_other slots at a more (record { bits = 0 }) ne) ∙ sym (ap (λ x. if x && s == i then b else has (set_at slots a) s) (ne_eqb a at ne))
]

-- where there is no set
pub entered_nowhere : (slots : List SlotSet) (at i : ℕ) (b : Bool) (a s : ℕ) → a < ADDRESSES → ADDRESSES ≤ at → has (set_at slots a) s ≡ (if a == at && s == i then b else has (set_at slots a) s)
entered_nowhere slots at i b a s l past = sym (ap (λ x. if x && s == i then b else has (set_at slots a) s) (ne_eqb a at (λ e. omega (arith, e, l, past))))

-- a slot that had an address has another
pub found_set : (old new : Answering) (between : List SlotSet) (i address : ℕ) → i < SLOTS → new.addresses ≡ set old.addresses i address → length new.slots ≡ ADDRESSES
    → ((a s : ℕ) → a < ADDRESSES → s < SLOTS → has (set_at between a) s ≡ (if a == slice_index old.addresses i && s == i then false else has (set_at old.slots a) s))
    → ((a s : ℕ) → a < ADDRESSES → s < SLOTS → has (set_at new.slots a) s ≡ (if a == address && s == i then true else has (set_at between a) s)) → AreFound old → AreFound new
found_set old new between i address here is long left entered are = record {
  every = ap length is ∙ (length-set old.addresses i address ∙ are.every);
  all = long;
  found = λ a s l m. entered a s l m ∙ (elim (cases_eq s i) [ inl e ↦ own a s l m e | inr ne ↦ other a s l m ne ] ∙ ap (λ xs. slice_index xs s == a) (sym is));
}
  where
    own : (a s : ℕ) → a < ADDRESSES → s < SLOTS → s ≡ i → (if a == address && s == i then true else has (set_at between a) s) ≡ (slice_index (set old.addresses i address) s == a)
    own a s l m e =
        let there : slice_index (set old.addresses i address) s ≡ address = ap (λ k. slice_index (set old.addresses i address) k) e ∙ get_or-set_same old.addresses i address 0 (omega (arith, are.every, here)) in
        elim (cases_eq a address) [
          | inl same ↦ ap (λ x. if x && s == i then true else has (set_at between a) s) (eq-eqb a address same) ∙ (cond-true (s == i) true (has (set_at between a) s) (eq-eqb s i e) ∙ sym (ap (λ k. k == a) there ∙ eq-eqb address a (sym same)))
          | inr differs ↦ ap (λ x. if x && s == i then true else has (set_at between a) s) (ne_eqb a address differs) ∙ (gone a s l m e ∙ sym (ap (λ k. k == a) there ∙ ne_eqb address a (λ t. differs (sym t))))
        ]
      where
        gone : (a s : ℕ) → a < ADDRESSES → s < SLOTS → s ≡ i → has (set_at between a) s ≡ false
        gone a s l m e = left a s l m ∙ elim (cases_eq a (slice_index old.addresses i)) [
          | inl same ↦ ap (λ x. if x && s == i then false else has (set_at old.slots a) s) (eq-eqb a (slice_index old.addresses i) same) ∙ cond-true (s == i) false (has (set_at old.slots a) s) (eq-eqb s i e)
          | inr differs ↦ ap (λ x. if x && s == i then false else has (set_at old.slots a) s) (ne_eqb a (slice_index old.addresses i) differs)
              ∙ (are.found a s l m ∙ (ap (λ k. slice_index old.addresses k == a) e ∙ ne_eqb (slice_index old.addresses i) a (λ t. differs (sym t))))
        ]

    apart : (x : Bool) (y z : Bool) → (if x && false then y else z) ≡ z
    apart true y z = refl
    apart false y z = refl

    other : (a s : ℕ) → a < ADDRESSES → s < SLOTS → (s ≡ i → ⊥) → (if a == address && s == i then true else has (set_at between a) s) ≡ (slice_index (set old.addresses i address) s == a)
    other a s l m ne =
        ap (λ x. if a == address && x then true else has (set_at between a) s) (ne_eqb s i ne) ∙ (apart (a == address) true (has (set_at between a) s) ∙ (left a s l m
        ∙ (ap (λ x. if a == slice_index old.addresses i && x then false else has (set_at old.slots a) s) (ne_eqb s i ne) ∙ (apart (a == slice_index old.addresses i) false (has (set_at old.slots a) s)
        ∙ (are.found a s l m ∙ sym (ap (λ k. k == a) (get_or-set_other old.addresses i s address 0 ne)))))))
