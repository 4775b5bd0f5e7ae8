-- Looking up a changed map of devices.
use Rattle.std.proofs.Common.{◌≡◌, ℕ, Bool, true, false, if◌then◌else◌, Option, Some, None, sym, refl, ◌∙◌}
use Rattle.std.proofs.lemmas.Option.{none-some, same_Some}
use Rattle.i3c_base.specs.State.{Device, State, device_at}

-- two devices found in one slot are one
pub same_device : (st : State) (s : ℕ) (d e : Device) → device_at st s ≡ Some d → device_at st s ≡ Some e → d ≡ e
same_device st s d e p q = same_Some d e (sym p ∙ q)

-- an entry kept by a test
pub cond_kept_from : {A : Type 0} (b : Bool) (o : Option A) (y : A) → (if b then o else None) ≡ Some y → (b ≡ true) × (o ≡ Some y)
cond_kept_from true o y h = (refl, h)
cond_kept_from false o y h = absurd (none-some y h)
