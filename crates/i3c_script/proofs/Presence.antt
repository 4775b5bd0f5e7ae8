-- A place that isn't empty.
use Rattle.std.proofs.Common.{◌≡◌, true, Option, Some, None, refl}
use Rattle.std.specs.Option.{is_some}

pub there : {A : Type 0} → (place : Option A) → is_some place ≡ true → (x : A) × (place ≡ Some x)
there (Some x) e = (x, refl)
there None e = absurd cc
