-- Devices that are lost by a bit.
use Rattle.std.proofs.Common.{◌≡◌, ℕ, ◌+◌, ◌-◌, ◌≤◌, true, false, Option, None, Some, option_map, refl, ap, inl, inr, sym, ◌∙◌, arith}
use Rattle.std.proofs.Math.ListN.{get_or-map}
use Rattle.std.proofs.lemmas.Bool.{both_ways, cases_Bool, cases_lt, le-leb, leb-true, lt-leb}
use Rattle.i3c_base.specs.Cutting.{CutList, counted_from, cut_of, is_by, lost_by}

-- a device that is lost by a bit is lost by each later one
is_by_later : (first last : ℕ) (cut : Option ℕ) → first ≤ last → is_by first cut ≡ true → is_by last cut ≡ true
is_by_later first last None l h = h
is_by_later first last (Some bit) l h = let early = leb-true bit first h in le-leb bit last (omega arith)

pub lost_later : (cuts : CutList) (first last s : ℕ) → first ≤ last → lost_by cuts first s ≡ true → lost_by cuts last s ≡ true
lost_later cuts first last s l h = is_by_later first last (cut_of cuts s) l h

-- and a device that isn't lost by a later bit isn't lost by an earlier one
pub left_before : (cuts : CutList) (first last s : ℕ) → first ≤ last → lost_by cuts last s ≡ false → lost_by cuts first s ≡ false
left_before cuts first last s l h = elim (cases_Bool (lost_by cuts first s)) [
  | inl t ↦ absurd (both_ways (lost_by cuts last s) h (lost_later cuts first last s l t))
  | inr f ↦ f
]

-- where bits are counted from a later one
is_by_counted : (first last : ℕ) (cut : Option ℕ) → is_by last (option_map (λ bit. bit - first) cut) ≡ is_by (last + first) cut
is_by_counted first last None = refl
is_by_counted first last (Some bit) = elim (cases_lt last (bit - first)) [
  | inl l ↦ lt-leb (bit - first) last l ∙ sym (lt-leb bit (last + first) (omega arith))
  | inr l ↦ le-leb (bit - first) last l ∙ sym (le-leb bit (last + first) (omega arith))
]

pub lost_counted : (cuts : CutList) (first last s : ℕ) → lost_by (counted_from first cuts) last s ≡ lost_by cuts (last + first) s
lost_counted cuts first last s = ap (is_by last) (get_or-map (option_map (λ (bit : ℕ). bit - first)) cuts s None) ∙ is_by_counted first last (cut_of cuts s)
