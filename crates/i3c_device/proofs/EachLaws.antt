-- A change that happens in some slots, one after another, lowest first.
use Rattle.std.proofs.Common.{◌≡◌, ℕ, zero, suc, ◌+◌, ◌<◌, Bool, true, false, ◌==◌, if◌then◌else◌, List, [], ◌∷◌, length, get_or, set, Option, Some, None, is_none, option_map, inl, inr, refl, sym, ap, ◌∙◌, arith, length-set, zero-add}
use Rattle.std.proofs.lemmas.Bool.{cases_Bool, cases_eq, cond-true, cond-false, eq-eqb, ne_eqb}
use Rattle.std.proofs.lemmas.List.{ext_get_or, get_or_default, get_or-set_other, get_or-set_same}
use Rattle.i3c_base.specs.declared.range.TheConstants.{SLOTS}
use Rattle.i3c_base.specs.declared.requests.Request.{Request}
use Rattle.i3c_base.specs.Places.{changed, changed_from}
use Rattle.i3c_base.specs.Round.{hears, unhearing}
use Rattle.i3c_base.specs.Serve.{drives_in, without}
use Rattle.i3c_base.specs.State.{Device, Population, in_slot}
use Rattle.i3c_base.proofs.Lookups.{length-changed}
use Rattle.i3c_device.specs.declared.slot_index.SlotIndex.{SlotIndex}
use Rattle.i3c_device.specs.declared.slot_set.SlotSet.{SlotSet}
use Rattle.i3c_device.specs.Finding.{within}
use Rattle.i3c_device.specs.SlotIndex.{AreMarks, IsSetOf}
use Rattle.i3c_device.specs.Sets.{has}
use Rattle.i3c_device.specs.Walks.{taken_from}

-- of `changed`, within the list
changed_from_in : (f : ℕ → Option Device → Option Device) (n : ℕ) (xs : List (Option Device)) (k : ℕ) → k < length xs → get_or (changed_from n f xs) k None ≡ f (k + n) (get_or xs k None)
changed_from_in f n [] k l = absurd (omega arith)
changed_from_in f n (x ∷ xs) zero l = ap (λ k. f k x) (sym (zero-add n))
changed_from_in f n (x ∷ xs) (suc k) l =
    let same : k + suc n ≡ suc k + n = omega arith in
    changed_from_in f (suc n) xs k (omega arith) ∙ ap (λ m. f m (get_or xs k None)) same

pub changed_in : (f : ℕ → Option Device → Option Device) (xs : List (Option Device)) (k : ℕ) → k < length xs → get_or (changed f xs) k None ≡ f k (get_or xs k None)
changed_in f xs k l = let same : k + 0 ≡ k = omega arith in changed_from_in f 0 xs k l ∙ ap (λ m. f m (get_or xs k None)) same

-- places that are each changed
pub all_changed : (f : ℕ → Option Device → Option Device) (xs ys : List (Option Device)) → length ys ≡ length xs → ((k : ℕ) → k < length xs → get_or ys k None ≡ f k (get_or xs k None)) → ys ≡ changed f xs
all_changed f xs ys long each =
    ext_get_or None ys (changed f xs) (long ∙ sym (length-changed f xs)) (λ k l. let low : k < length xs = omega arith in each k low ∙ sym (changed_in f xs k low))

-- a change of some slots that has the wanted effect on each
pub narrowed : (f g : ℕ → Option Device → Option Device) (among : SlotSet) (xs ys : List (Option Device)) → length xs ≡ SLOTS → ys ≡ changed (within among f) xs
    → ((s : ℕ) → s < SLOTS → within among f s (get_or xs s None) ≡ g s (get_or xs s None)) → ys ≡ changed g xs
narrowed f g among xs ys long e same =
    all_changed g xs ys (ap length e ∙ length-changed (within among f) xs)
    (λ k l. ap (λ zs. get_or zs k None) e ∙ (changed_in (within among f) xs k l ∙ same k (omega arith)))

-- a change that leaves the other slots as they are
pub spared : (f : ℕ → Option Device → Option Device) (test : Device → Bool) (among : SlotSet) (xs ys : List (Option Device)) → length xs ≡ SLOTS → IsSetOf test among xs
    → ((s : ℕ) (o : Option Device) → in_slot test o ≡ false → f s o ≡ o) → ys ≡ changed (within among f) xs → ys ≡ changed f xs
spared f test among xs ys long is spares e = narrowed f f among xs ys long e (λ s l. elim (cases_Bool (has among s)) [
  | inl t ↦ cond-true (has among s) (f s (get_or xs s None)) (get_or xs s None) t
  | inr n ↦ cond-false (has among s) (f s (get_or xs s None)) (get_or xs s None) n ∙ sym (spares s (get_or xs s None) (sym (is s l) ∙ n))
])

-- an accepted request that these slots drive
pub accepted_alike : (all : Population) (r : Request) (s : ℕ) (o : Option Device) (among : SlotSet) → has among s ≡ drives_in all r s → within among (λ k place. taken_from r place) s o ≡ option_map (λ d. if drives_in all r s then without r d else d) o
accepted_alike all r s None among e = elim (has among s) as (λ b. ◌≡◌ {A = Option Device} (if b then None else None) None) [ true ↦ refl | false ↦ refl ]
accepted_alike all r s (Some d) among e = ap (λ b. if b then Some (without r d) else Some d) e ∙ go (drives_in all r s)
  where
    go : (b : Bool) → (if b then Some (without r d) else Some d) ≡ Some (if b then without r d else d)
    go true = refl
    go false = refl

-- an opening and an end
pub open_spares : (s : ℕ) (o : Option Device) → in_slot (λ d. is_none d.address) o ≡ false → option_map hears o ≡ o
open_spares s None e = refl
open_spares s (Some d) e = ap Some (cond-false (is_none d.address) (record d { hearing = true }) d e)

pub end_spares : (s : ℕ) (o : Option Device) → in_slot (λ d. d.hearing) o ≡ false → option_map unhearing o ≡ o
end_spares s None e = refl
end_spares s (Some d) e = λ t. Some (record d { hearing = sym e t })

-- the slots that are left are as they were, and the others are changed; the marks are true all along
pub record Walks (f : ℕ → Option Device → Option Device) (among left : SlotSet) (marks : SlotIndex) (xs ys : List (Option Device)) : Type 0 where
  pub long : length ys ≡ SLOTS
  pub marked : AreMarks marks ys
  pub among_them : (s : ℕ) → s < SLOTS → has left s ≡ true → has among s ≡ true
  pub walked : (s : ℕ) → s < SLOTS → get_or ys s None ≡ (if has left s then get_or xs s None else within among f s (get_or xs s None))

pub walks_none : (f : ℕ → Option Device → Option Device) (among : SlotSet) (marks : SlotIndex) (xs : List (Option Device)) → length xs ≡ SLOTS → AreMarks marks xs → Walks f among among marks xs xs
walks_none f among marks xs long marked = record {
  long = long;
  marked = marked;
  among_them = λ s l h. h;
  walked = λ s l. elim (cases_Bool (has among s)) [
    | inl t ↦ sym (cond-true (has among s) (get_or xs s None) (within among f s (get_or xs s None)) t)
    | inr n ↦ sym (cond-false (has among s) (get_or xs s None) (within among f s (get_or xs s None)) n ∙ cond-false (has among s) (f s (get_or xs s None)) (get_or xs s None) n)
  ];
}

-- what a slot's turn makes of whatever was seen there
pub turned : (f : ℕ → Option Device → Option Device) (ys : List (Option Device)) (i : ℕ) (seen place : Option Device) → i < length ys → place ≡ f i (get_or ys i seen) → place ≡ f i (get_or ys i None)
turned f ys i seen place l e = e ∙ ap (f i) (get_or_default ys i seen None l)

pub walks_more : (f : ℕ → Option Device → Option Device) (among left next : SlotSet) (marks more : SlotIndex) (xs ys : List (Option Device)) (i : ℕ) (place : Option Device) → Walks f among left marks xs ys
    → i < SLOTS → has left i ≡ true → ((s : ℕ) → s < SLOTS → has next s ≡ (if s == i then false else has left s)) → place ≡ f i (get_or ys i None) → AreMarks more (set ys i place)
    → Walks f among next more xs (set ys i place)
walks_more f among left next marks more xs ys i place h low there rest is marked = record {
  long = length-set ys i place ∙ h.long;
  marked = marked;
  among_them = λ s l t. elim (cases_eq s i) [
    | inl e ↦ ap (has among) e ∙ h.among_them i low there
    | inr ne ↦ h.among_them s l (sym (rest s l ∙ cond-false (s == i) false (has left s) (ne_eqb s i ne)) ∙ t)
  ];
  walked = λ s l. elim (cases_eq s i) [
    | inl e ↦ ap (λ k. get_or (set ys i place) k None) e ∙ (here ∙ sym (ap done e ∙ changed_here))
    | inr ne ↦ get_or-set_other ys i s place None ne ∙ (h.walked s l ∙ ap (λ b. if b then get_or xs s None else within among f s (get_or xs s None)) (sym (rest s l ∙ cond-false (s == i) false (has left s) (ne_eqb s i ne))))
  ];
}
  where
    done : ℕ → Option Device
    done s = if has next s then get_or xs s None else within among f s (get_or xs s None)

    same : get_or ys i None ≡ get_or xs i None
    same = h.walked i low ∙ cond-true (has left i) (get_or xs i None) (within among f i (get_or xs i None)) there

    here : get_or (set ys i place) i None ≡ f i (get_or xs i None)
    here = get_or-set_same ys i place None (omega (arith, h.long)) ∙ (is ∙ ap (f i) same)

    changed_here : done i ≡ f i (get_or xs i None)
    changed_here =
        cond-false (has next i) (get_or xs i None) (within among f i (get_or xs i None)) (rest i low ∙ cond-true (i == i) false (has left i) (eq-eqb i i refl))
        ∙ cond-true (has among i) (f i (get_or xs i None)) (get_or xs i None) (h.among_them i low there)

pub walks_all : (f : ℕ → Option Device → Option Device) (among left : SlotSet) (marks : SlotIndex) (xs ys : List (Option Device)) → Walks f among left marks xs ys → length xs ≡ SLOTS
    → ((s : ℕ) → s < SLOTS → has left s ≡ false) → ys ≡ changed (within among f) xs
walks_all f among left marks xs ys h long none =
    all_changed (within among f) xs ys (h.long ∙ sym long)
    (λ k l. let low : k < SLOTS = omega arith in h.walked k low ∙ cond-false (has left k) (get_or xs k None) (within among f k (get_or xs k None)) (none k low))
