-- The rings at the start.
use Rattle.std.proofs.Common.{◌≡◌, ℕ, zero, suc, ◌<◌, ◌==◌, Bool, true, false, [], length, replicate, refl, sym, ap, ◌∙◌, arith, get_or-set_same, get_or-set_other}
use Rattle.std.specs.Prelude.{Some, None}
use Rattle.std.proofs.lemmas.Bool.Decides.{nat_tests}
use Rattle.std.proofs.lemmas.Option.{none-some}
use Rattle.rtrb.specs.Ring.{received, consumer_capacity}
use Rattle.i3c_base.specs.declared.range.TheConstants.{SLOTS}
use Rattle.i3c_shared.specs.declared.port.TheConstants.{POSTS}
use Rattle.i3c_shared.specs.Beginning.{no_rings}
use Rattle.i3c_shared.specs.Raises.{raises_of}
use Rattle.i3c_shared.specs.Rings.{Fits, put_out, ring_at}
use Rattle.i3c_shared.specs.Values.{Reading, Rings}
use Rattle.i3c_shared.proofs.Fitting.{put_count}

abbrev empty : ℕ → Rings
empty n = replicate n None

none_out : (n s : ℕ) → ring_at (empty n) s ≡ None
none_out zero s = refl
none_out (suc n) zero = refl
none_out (suc n) (suc s) = none_out n s

none_count : (n : ℕ) → length (empty n) ≡ n
none_count zero = refl
none_count (suc n) = ap suc (none_count n)

pub no_rings_count : length no_rings ≡ SLOTS
unfolding no_rings
no_rings_count = none_count SLOTS

no_rings_at : (s : ℕ) → ring_at no_rings s ≡ None
unfolding no_rings
no_rings_at s = none_out SLOTS s

pub first_count : (ring : Reading) → length (put_out 0 ring no_rings) ≡ SLOTS
first_count ring = put_count no_rings 0 (Some ring) ∙ no_rings_count

first_at : (ring : Reading) (s : ℕ) (c : Reading) (t : Bool) → (s == 0) ≡ t → ring_at (put_out 0 ring no_rings) s ≡ Some c → received ring ≡ [] → consumer_capacity ring ≡ POSTS → (received c ≡ raises_of s []) × (consumer_capacity c ≡ POSTS)
first_at ring s c true is at fresh room =
    let same : s ≡ 0 = grind (arith, nat_tests) in
    let low : 0 < length no_rings = omega (arith, no_rings_count) in
    let here : ring_at (put_out 0 ring no_rings) s ≡ Some ring = rw same (get_or-set_same no_rings 0 (Some ring) None low) in
    let one : ring ≡ c = cc in
    (ap received (sym one) ∙ fresh, ap consumer_capacity (sym one) ∙ room)
first_at ring s c false is at fresh room =
    let other : s ≡ 0 → ⊥ = grind (arith, nat_tests) in
    absurd (none-some c (sym (get_or-set_other no_rings 0 s (Some ring) None other ∙ no_rings_at s) ∙ at))

pub first_fits : (ring : Reading) → received ring ≡ [] → consumer_capacity ring ≡ POSTS → Fits (put_out 0 ring no_rings) []
first_fits ring fresh room s c at = first_at ring s c (s == 0) refl at fresh room
