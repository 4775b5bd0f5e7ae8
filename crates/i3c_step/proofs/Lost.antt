-- Cuts that are empty lose nobody.
use Rattle.std.proofs.Common.{◌≡◌, ℕ, false, ap}
use Rattle.i3c_base.specs.Cutting.{CutList, IsUncut, is_by, lost_by, nobody}

pub unlost : (cuts : CutList) → IsUncut cuts → (last s : ℕ) → lost_by cuts last s ≡ false
unlost cuts uncut last s = ap (is_by last) (uncut s)

pub lost_nobody : (cuts : CutList) → IsUncut cuts → (last : ℕ) → lost_by cuts last ≡ nobody
lost_nobody cuts uncut last = λ k s. unlost cuts uncut last s k
