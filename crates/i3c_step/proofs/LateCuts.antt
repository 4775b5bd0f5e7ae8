-- Cuts behind a frame's last bit lose nobody.
use Rattle.std.proofs.Common.{◌≡◌, ◌≢◌, ◌∙◌, ◌<◌, ◌≤◌, ℕ, zero, suc, false, [], ◌∷◌, Option, Some, None, is_some, ap, arith, inl, inr, refl, sym}
use Rattle.std.proofs.Math.ListN.{set}
use Rattle.std.proofs.Math.Nat.{min-eq_left, min-eq_right}
use Rattle.std.proofs.lemmas.Bool.Decides.{leb_tells}
use Rattle.std.proofs.lemmas.List.{get_or-set_other}
use Rattle.i3c_base.specs.State.{State}
use Rattle.i3c_base.specs.Cutting.{CutList, cut_of, earlier, is_by, lost_by}
use Rattle.i3c_step.specs.Step.{cuts_active}

-- cuts that name the active controller both or neither, and lose the same slots by each bit up to the last one
pub record AreAlike (st : State) (last : ℕ) (cuts other : CutList) : Type 0 where
  pub active : cuts_active st cuts ≡ cuts_active st other
  pub lost : (k : ℕ) → k ≤ last → lost_by cuts k ≡ lost_by other k

-- with another cut of a slot
abbrev pub and_cut : ℕ → ℕ → CutList → CutList
and_cut s bit cuts = set cuts s (Some (earlier (cut_of cuts s) bit))

not_by : (bit k : ℕ) → k < bit → is_by k (Some bit) ≡ false
not_by bit k late = elim (leb_tells bit k) [
  | inl (_, le) ↦ absurd (omega arith)
  | inr (is, _) ↦ is
]

-- a later cut doesn't count
by_earlier : (had : Option ℕ) (bit k : ℕ) → k < bit → is_by k (Some (earlier had bit)) ≡ is_by k had
by_earlier None bit k late = not_by bit k late
by_earlier (Some p) bit k late = elim (leb_tells p bit) [
  | inl (_, le) ↦ ap (λ (b : ℕ). is_by k (Some b)) (min-eq_left le)
  | inr (_, gt) ↦ ap (λ (b : ℕ). is_by k (Some b)) (min-eq_right (omega arith)) ∙ (not_by bit k late ∙ sym (not_by p k (omega arith)))
]

late_at : (cuts : CutList) (s bit k t : ℕ) → k < bit → is_by k (cut_of cuts t) ≡ is_by k (cut_of (and_cut s bit cuts) t)
late_at [] s bit k t late = refl
late_at (c ∷ cs) zero bit k zero late = sym (by_earlier c bit k late)
late_at (c ∷ cs) zero bit k (suc t) late = refl
late_at (c ∷ cs) (suc s) bit k zero late = refl
late_at (c ∷ cs) (suc s) bit k (suc t) late = late_at cs s bit k t late

late_lost : (cuts : CutList) (s bit last k : ℕ) → last < bit → k ≤ last → lost_by cuts k ≡ lost_by (and_cut s bit cuts) k
late_lost cuts s bit last k late le = λ i t. late_at cuts s bit k t (omega arith) i

-- a late cut of another slot than the active controller's
pub late_alike : (st : State) (cuts : CutList) (s bit last : ℕ) → s ≢ st.active → last < bit → AreAlike st last cuts (and_cut s bit cuts)
late_alike st cuts s bit last other late = record {
  active = sym (ap is_some (get_or-set_other cuts s st.active (Some (earlier (cut_of cuts s) bit)) None (λ e. other (sym e))));
  lost = λ k le. late_lost cuts s bit last k late le;
}

-- the bit of a cut doesn't change the device that it names
named_at : (cuts : CutList) (s bit more t : ℕ) → is_some (cut_of (and_cut s bit cuts) t) ≡ is_some (cut_of (and_cut s more cuts) t)
named_at [] s bit more t = refl
named_at (c ∷ cs) zero bit more zero = refl
named_at (c ∷ cs) zero bit more (suc t) = refl
named_at (c ∷ cs) (suc s) bit more zero = refl
named_at (c ∷ cs) (suc s) bit more (suc t) = named_at cs s bit more t

-- two late cuts of any slot
pub both_alike : (st : State) (cuts : CutList) (s bit more last : ℕ) → last < bit → last < more → AreAlike st last (and_cut s bit cuts) (and_cut s more cuts)
both_alike st cuts s bit more last late later = record {
  active = named_at cuts s bit more st.active;
  lost = λ k le. sym (late_lost cuts s bit last k late le) ∙ late_lost cuts s more last k later le;
}

pub alike_back : (st : State) (last : ℕ) (cuts other : CutList) → AreAlike st last cuts other → AreAlike st last other cuts
alike_back st last cuts other h = record { active = sym h.active; lost = λ k le. sym (h.lost k le) }
