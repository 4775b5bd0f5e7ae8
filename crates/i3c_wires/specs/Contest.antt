-- Arbitration: what contenders drive, which of them are still in at each bit, and whose key was read. A contender is a slot
-- and its key. The first bit, 0, is the most significant one of the width. A cut contender drives nothing from the bit of its
-- cut on.
use Rattle.std.specs.Prelude.{ℕ, suc, ◌≡◌, ◌-◌, ◌/◌, ◌%◌, ◌^◌, ◌<◌, ◌==◌, Bool, false, not, ◌&&◌, IsTrue, List, Option, map, unwrap_or}
use Rattle.std.specs.List.{All, Contains, filter, list_all}
use Rattle.i3c_base.specs.Cutting.{CutList, lost_by, no_cuts}

-- the cuts of a contest: none where none are given
abbrev pub cuts_in : Option CutList → CutList
cuts_in cuts = unwrap_or cuts no_cuts

-- the bit of the number after which `left` bits follow is 1
abbrev pub is_one : ℕ → ℕ → Bool
is_one left number = number / 2 ^ left % 2 == 1

-- the contender drives 1 at the bit of its key after which `left` bits follow
abbrev pub drives_one : ℕ → ℕ × ℕ → Bool
drives_one left e = is_one left e.1

-- still in at that bit: the key agrees with the number that was read on all bits above it
abbrev pub is_in : ℕ → ℕ → ℕ × ℕ → Bool
is_in read left e = e.1 / 2 ^ suc left == read / 2 ^ suc left

-- cut at that bit of the width or before
abbrev pub is_cut : CutList → ℕ → ℕ → ℕ × ℕ → Bool
is_cut cuts width left e = lost_by cuts (width - suc left) e.0

-- each bit of the number that was read, of this width, is the AND of the contenders that are still in and not cut
abbrev pub EachBit : CutList → List (ℕ × ℕ) → ℕ → ℕ → Type 0
EachBit cuts keys width read = (left : ℕ) → left < width → is_one left read ≡ list_all (drives_one left) (filter (λ e. is_in read left e && not (is_cut cuts width left e)) keys)

-- cut at the last bit of the width or before
abbrev pub is_lost : CutList → ℕ → ℕ × ℕ → Bool
is_lost cuts width e = lost_by cuts (width - 1) e.0

-- the slots that have this number as their key and aren't lost, in the order of the keys
abbrev pub holders : CutList → List (ℕ × ℕ) → ℕ → ℕ → List ℕ
holders cuts keys width number = map (λ e. e.0) (filter (λ e. e.1 == number && not (is_lost cuts width e)) keys)

-- every contender is lost
abbrev pub AllLost : CutList → List (ℕ × ℕ) → ℕ → Type 0
AllLost cuts keys width = All (λ e. IsTrue (is_lost cuts width e)) keys

-- the key of some lost contender is below the keys of all that aren't lost
abbrev pub LostIsBelow : CutList → List (ℕ × ℕ) → ℕ → Type 0
LostIsBelow cuts keys width = (e : ℕ × ℕ) × Contains keys e × IsTrue (is_lost cuts width e) × All (λ f. is_lost cuts width f ≡ false → e.1 < f.1) keys
