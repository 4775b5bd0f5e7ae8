-- Whose requests the next frame would meet, slot by slot.
use Rattle.std.proofs.Common.{◌≡◌, ◌⊎◌, ◌<◌, ◌≤◌, ◌∙◌, ℕ, suc, ◌+◌, true, false, cond, [], ◌++◌, arith, ap, inl, inr, refl, subst, sym, if◌then◌else◌}
use Rattle.std.proofs.lemmas.Bool.{cases_Bool, cases_lt, eq-eqb, ne_eqb}
use Rattle.std.proofs.lemmas.List.{append-nil}
use Rattle.std.specs.Prelude.{Option, ◌==◌}
use Rattle.i3c_base.specs.declared.range.TheConstants.{SLOTS}
use Rattle.i3c_base.specs.declared.requests.Request.{Request}
use Rattle.i3c_base.specs.Serve.{drives}
use Rattle.i3c_base.specs.State.{State}
use Rattle.i3c_bus.specs.Readings.{AreAskers}
use Rattle.i3c_device.specs.declared.slot_set.SlotSet.{SlotSet}
use Rattle.i3c_device.specs.Sets.{IsLowestOf, has}
use Rattle.i3c_lines.specs.declared.names.Name.{Name}
use Rattle.i3c_script.specs.Pieces.{asker_of, askers_below}

-- in the set are the slots from this one on whose devices drive the request
pub record AreLeft (st : State) (r : Request) (from : ℕ) (left : SlotSet) : Type 0 where
  pub before : (s : ℕ) → s < from → s < SLOTS → has left s ≡ false
  pub behind : (s : ℕ) → from ≤ s → s < SLOTS → has left s ≡ drives st r s

pub all_left : (st : State) (r : Request) (askers : SlotSet) → AreAskers st r askers → AreLeft st r 0 askers
all_left st r askers are = record {
  before = λ s below within. absurd (omega (arith, below));
  behind = λ s from within. are s within;
}

-- the lowest slot of those that are left asks, and the others are left
pub next_asks : (st : State) (r : Request) (n : ℕ) (left others : SlotSet) → n < SLOTS → AreLeft st r n left → IsLowestOf left n → ((s : ℕ) → s < SLOTS → has others s ≡ (if s == n then false else has left s))
    → (drives st r n ≡ true) × AreLeft st r (n + 1) others
next_asks st r n left others within are (inside, is, none) but = (
  sym (are.behind n (omega arith) within) ∙ is,
  record {
    before = λ s below fits. below_is s below fits;
    behind = λ s from fits. but s fits ∙ other s (omega (arith, from)) ∙ are.behind s (omega (arith, from)) fits;
  },
) where
  other : (s : ℕ) → n < s → (if s == n then false else has left s) ≡ has left s
  other s more = ap (λ b. cond b false (has left s)) (ne_eqb s n (λ e. absurd (omega (arith, more, e))))

  below_is : (s : ℕ) → s < n + 1 → s < SLOTS → has others s ≡ false
  below_is s below fits = but s fits ∙ by (cases_lt s n) where
    by : (s < n) ⊎ (n ≤ s) → (if s == n then false else has left s) ≡ false
    by (inl less) = ap (λ b. cond b false (has left s)) (ne_eqb s n (λ e. absurd (omega (arith, less, e)))) ∙ are.before s less fits
    by (inr more) = ap (λ b. cond b false (has left s)) (eq-eqb s n (omega (arith, more, below)))

-- a slot that isn't the lowest of those that are left doesn't ask
pub next_is_silent : (st : State) (r : Request) (n : ℕ) (left : SlotSet) → n < SLOTS → AreLeft st r n left → (IsLowestOf left n → ⊥) → (drives st r n ≡ false) × AreLeft st r (n + 1) left
next_is_silent st r n left within are other = (sym (are.behind n (omega arith) within) ∙ not_in, record { before = λ s below fits. by s fits (cases_lt s n) below; behind = λ s from fits. are.behind s (omega (arith, from)) fits }) where
  not_in : has left n ≡ false
  not_in = by_case (cases_Bool (has left n)) where
    by_case : (has left n ≡ true) ⊎ (has left n ≡ false) → has left n ≡ false
    by_case (inl is) = absurd (other (within, is, λ s below. are.before s below (omega (arith, below, within))))
    by_case (inr none) = none

  by : (s : ℕ) → s < SLOTS → (s < n) ⊎ (n ≤ s) → s < n + 1 → has left s ≡ false
  by s fits (inl less) below = are.before s less fits
  by s fits (inr more) below = let same : n ≡ s = omega (arith, more, below) in subst (λ k. has left k ≡ false) same not_in

after : (n : ℕ) → n + 1 ≡ suc n
after n = omega arith

pub none_asked : (st : State) (name_of : ℕ → Option Name) (r : Request) → askers_below st name_of r 0 ≡ []
unfolding askers_below
none_asked st name_of r = refl

-- one more slot, which asks
pub asker_more : (st : State) (name_of : ℕ → Option Name) (r : Request) (slot : ℕ) → drives st r slot ≡ true → askers_below st name_of r (slot + 1) ≡ askers_below st name_of r slot ++ asker_of (name_of slot)
unfolding askers_below
asker_more st name_of r slot asks = ap (askers_below st name_of r) (after slot) ∙ ap (λ b. askers_below st name_of r slot ++ cond b (asker_of (name_of slot)) []) asks

-- one more slot, which doesn't ask
pub silent_more : (st : State) (name_of : ℕ → Option Name) (r : Request) (slot : ℕ) → drives st r slot ≡ false → askers_below st name_of r (slot + 1) ≡ askers_below st name_of r slot
unfolding askers_below
silent_more st name_of r slot silent = ap (askers_below st name_of r) (after slot) ∙ ap (λ b. askers_below st name_of r slot ++ cond b (asker_of (name_of slot)) []) silent ∙ append-nil (askers_below st name_of r slot)
