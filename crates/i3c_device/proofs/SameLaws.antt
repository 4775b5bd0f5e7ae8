-- Devices that are the same in two lists, slot by slot.
use Rattle.std.proofs.Common.{◌≡◌, ℕ, ◌<◌, Bool, false, ◌||◌, List, length, get_or, Option, Some, None, is_some, Decides, inl, inr, refl, sym, ap, ◌∙◌, arith}
use Rattle.std.proofs.lemmas.Bool.{cases_eq, false≢true}
use Rattle.std.proofs.lemmas.List.{ext_get_or}
use Rattle.i3c_base.specs.declared.range.TheConstants.{SLOTS}
use Rattle.i3c_base.specs.State.{Device}
use Rattle.i3c_device.specs.declared.enabled.Enabled.{Enabled}
use Rattle.i3c_device.specs.declared.slot_set.SlotSet.{SlotSet}
use Rattle.i3c_device.specs.Enabling.{seen, seen_in}
use Rattle.i3c_device.specs.Sets.{has}
use Rattle.i3c_device.proofs.FindLaws.{TakesOut, still_in}
use Rattle.i3c_device.proofs.SeenWalks.{now_at}

-- a test of the device in a slot of both
pub both_seen : (e more : Enabled) (xs ys now others : List (Option Device)) (s : ℕ) (b : Bool) → seen e xs ≡ now → seen more ys ≡ others
    → Decides b (seen_in e s (get_or xs s None) ≡ seen_in more s (get_or ys s None)) → Decides b (get_or now s None ≡ get_or others s None)
both_seen e more xs ys now others s b is are h = (
  λ t. now_at e xs now s is ∙ (h.0 t ∙ sym (now_at more ys others s are)),
  λ same. h.1 (sym (now_at e xs now s is) ∙ (same ∙ now_at more ys others s are)),
)

-- the slots that aren't left hold the same in both
abbrev pub AreSameBut : SlotSet → List (Option Device) → List (Option Device) → Type 0
AreSameBut left now others = (s : ℕ) → s < SLOTS → has left s ≡ false → get_or now s None ≡ get_or others s None

pub same_empty : (present there either : SlotSet) (now others : List (Option Device)) → ((s : ℕ) → s < SLOTS → has present s ≡ is_some (get_or now s None)) → ((s : ℕ) → s < SLOTS → has there s ≡ is_some (get_or others s None))
    → ((s : ℕ) → s < SLOTS → has either s ≡ (has present s || has there s)) → AreSameBut either now others
same_empty present there either now others is are or s l none =
    go (get_or now s None) (get_or others s None) (sym ((λ j. is s l j || are s l j)) ∙ (sym (or s l) ∙ none))
  where
    go : (o p : Option Device) → (is_some o || is_some p) ≡ false → o ≡ p
    go None None h = refl
    go None (Some d) h = absurd (false≢true (sym h))
    go (Some d) p h = absurd (false≢true (sym h))

pub same_more : (left next : SlotSet) (i j : ℕ) (now others : List (Option Device)) → AreSameBut left now others → TakesOut i left next → j ≡ i → get_or now j None ≡ get_or others j None → AreSameBut next now others
same_more left next i j now others h out at same s l gone = elim (cases_eq s i) [
  | inl e ↦ ap (λ k. get_or now k None) (e ∙ sym at) ∙ (same ∙ sym (ap (λ k. get_or others k None) (e ∙ sym at)))
  | inr ne ↦ h s l (sym (still_in i left next out s l ne) ∙ gone)
]

pub same_all : (left : SlotSet) (now others : List (Option Device)) → AreSameBut left now others → ((s : ℕ) → s < SLOTS → has left s ≡ false) → length now ≡ SLOTS → length others ≡ SLOTS → now ≡ others
same_all left now others h none long too_long = ext_get_or None now others (long ∙ sym too_long) (λ s l. let low : s < SLOTS = omega (arith, l, long) in h s low (none s low))
