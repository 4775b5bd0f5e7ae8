-- A contest without cuts.
use Rattle.std.proofs.Common.{◌≡◌, ℕ, ◌-◌, ◌≤◌, ◌==◌, Bool, true, false, not, ◌&&◌, List, [], ◌∷◌, map, refl, ap, ◌∙◌, inl, inr, ◌⊎◌}
use Rattle.std.proofs.lemmas.Bool.{both_ways}
use Rattle.std.proofs.lemmas.List.Elements.{All-head, All-weaker, filter_agree}
use Rattle.std.specs.List.{All, filter}
use Rattle.i3c_base.specs.Cutting.{CutList, IsUncut, is_by}
use Rattle.i3c_wires.specs.Contest.{AllLost, LostIsBelow, holders, is_lost}

pub uncut_not_lost : (cuts : CutList) (width : ℕ) (e : ℕ × ℕ) → IsUncut cuts → is_lost cuts width e ≡ false
uncut_not_lost cuts width e uncut = ap (is_by (width - 1)) (uncut e.0)

-- the winners are all whose key was read
pub uncut_holders : (cuts : CutList) (keys : List (ℕ × ℕ)) (width number : ℕ) → IsUncut cuts → holders cuts keys width number ≡ map (λ e. e.0) (filter (λ e. e.1 == number) keys)
uncut_holders cuts keys width number uncut =
    ap (map (λ (e : ℕ × ℕ). e.0)) (filter_agree (λ e. e.1 == number && not (is_lost cuts width e)) (λ e. e.1 == number) (λ e. ap (λ b. e.1 == number && not b) (uncut_not_lost cuts width e uncut) ∙ kept (e.1 == number)) keys)
  where
    kept : (b : Bool) → (b && true) ≡ b
    kept true = refl
    kept false = refl

-- no key is below the number that was read
pub uncut_least : (cuts : CutList) (keys : List (ℕ × ℕ)) (width number : ℕ) → IsUncut cuts → All (λ e. is_lost cuts width e ≡ false → number ≤ e.1) keys → All (λ e. number ≤ e.1) keys
uncut_least cuts keys width number uncut least = All-weaker (λ e. is_lost cuts width e ≡ false → number ≤ e.1) (λ e. number ≤ e.1) (λ e l. l (uncut_not_lost cuts width e uncut)) keys least

-- nobody wins only where nobody contends
pub uncut_none : (cuts : CutList) (keys : List (ℕ × ℕ)) (width : ℕ) → IsUncut cuts → AllLost cuts keys width ⊎ LostIsBelow cuts keys width → keys ≡ []
uncut_none cuts [] width uncut why = refl
uncut_none cuts (e ∷ keys) width uncut (inl all) = absurd (both_ways (is_lost cuts width e) (uncut_not_lost cuts width e uncut) (All-head (λ e. is_lost cuts width e ≡ true) e keys all))
uncut_none cuts (e ∷ keys) width uncut (inr below) = absurd (both_ways (is_lost cuts width below.0) (uncut_not_lost cuts width below.0 uncut) below.2)
