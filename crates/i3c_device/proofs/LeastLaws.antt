-- The contest of the hearers' identities.
use Rattle.std.proofs.Common.{◌≡◌, ℕ, ◌<◌, ◌≤◌, ◌&&◌, ◌==◌, List, length, get_or, Option, Some, None, MatchOption, option_map, slice_index, inl, inr, refl, sym, ap, subst, ◌∙◌, arith}
use Rattle.std.proofs.lemmas.Bool.{cases_lt}
use Rattle.std.proofs.lemmas.List.{get_or_past}
use Rattle.std.proofs.lemmas.Option.{none-some}
use Rattle.std.specs.Int.{bit_at}
use Rattle.i3c_base.specs.declared.range.TheConstants.{SLOTS}
use Rattle.i3c_base.specs.Numbers.{IsInRange, KindSet, number_of}
use Rattle.i3c_base.specs.State.{Device, in_slot}
use Rattle.i3c_wires.specs.declared.bit_columns.BitColumns.{BitColumns}
use Rattle.i3c_wires.specs.declared.bit_columns.Won.{Won}
use Rattle.i3c_wires.specs.BitColumns.{IsWon}
use Rattle.i3c_device.specs.declared.enabled.Enabled.{Enabled}
use Rattle.i3c_device.specs.declared.slot_set.SlotSet.{SlotSet}
use Rattle.i3c_device.specs.Enabling.{seen, under}
use Rattle.i3c_device.specs.Least.{IsLeastHeard, NobodyHears}
use Rattle.i3c_device.specs.SlotIndex.{HaveColumns, IsSetOf}
use Rattle.i3c_device.specs.Sets.{has}
use Rattle.i3c_device.specs.Walks.{hears_as}
use Rattle.i3c_device.proofs.SeenWalks.{asked_seen, now_at, unseen}

-- a device that hears is in one of the slots
heard_in : (places : List (Option Device)) (hearing : SlotSet) (s : ℕ) (d : Device) → length places ≡ SLOTS → IsSetOf (λ d. d.hearing) hearing places → get_or places s None ≡ Some d → (s < SLOTS) × (has hearing s ≡ d.hearing)
heard_in places hearing s d long of there = elim (cases_lt s SLOTS) [
  | inl l ↦ (l, of s l ∙ ap (in_slot (λ d. d.hearing)) there)
  | inr past ↦ absurd (none-some d (sym (get_or_past places s None (omega (arith, long, past))) ∙ there))
]

-- the winner of the contest has the least identity
pub least_won : (places : List (Option Device)) (kept : BitColumns) (hearing slots : SlotSet) (won : Won) → length places ≡ SLOTS → IsSetOf (λ d. d.hearing) hearing places → HaveColumns kept places → IsWon kept.numbers hearing.bits won
    → slots.bits ≡ won.winners → IsLeastHeard places (won.bits, slots)
least_won places kept hearing slots won long of are h is = record {
  slots = λ s l. ap (λ b. bit_at b s == 1) is ∙ (h.winners s l ∙ (ap (λ b. b && (slice_index kept.numbers s == won.bits)) (of s l) ∙ go s (get_or places s None) refl));
  some = (h.some.0, h.some.1, ap (λ b. bit_at b h.some.0 == 1) is ∙ h.some.2);
  lowest = λ s d there hears.
      let t = heard_in places hearing s d long of there in
      omega (arith, (are.1 s d there).0, h.lowest s t.0 (t.1 ∙ hears));
  ranged = λ s d there hears. (are.1 s d there).1;
}
  where
    go : (s : ℕ) (o : Option Device) → get_or places s None ≡ o → (in_slot (λ d. d.hearing) o && (slice_index kept.numbers s == won.bits)) ≡ hears_as won.bits o
    go s None there = refl
    go s (Some d) there = ap (λ n. d.hearing && (n == won.bits)) (are.1 s d there).0

-- as they are seen with their kinds
pub least_seen : (e : Enabled) (xs now : List (Option Device)) (least : Option (ℕ × SlotSet)) → seen e xs ≡ now → MatchOption least (NobodyHears xs) (IsLeastHeard xs) → MatchOption least (NobodyHears now) (IsLeastHeard now)
least_seen e xs now None is h = λ s d there. let u = unseen e s (get_or xs s None) d (sym (now_at e xs now s is) ∙ there) in ap (λ x. x.hearing) u.2 ∙ h s u.0 u.1
least_seen e xs now (Some least) is h = record {
  slots = λ s l. h.slots s l ∙ sym (asked_seen (hears_as least.0) e xs now s is alike);
  some = h.some;
  lowest = λ s d there hears.
      let u = unseen e s (get_or xs s None) d (sym (now_at e xs now s is) ∙ there) in
      subst (λ x. least.0 ≤ number_of x.identity) (sym u.2) (h.lowest s u.0 u.1 (sym (ap (λ x. x.hearing) u.2) ∙ hears));
  ranged = λ s d there hears.
      let u = unseen e s (get_or xs s None) d (sym (now_at e xs now s is) ∙ there) in
      subst (λ x. IsInRange x.identity) (sym u.2) (h.ranged s u.0 u.1 (sym (ap (λ x. x.hearing) u.2) ∙ hears));
}
  where
    alike : (kinds : KindSet) (o : Option Device) → hears_as least.0 (option_map (under kinds) o) ≡ hears_as least.0 o
    alike kinds None = refl
    alike kinds (Some d) = refl
