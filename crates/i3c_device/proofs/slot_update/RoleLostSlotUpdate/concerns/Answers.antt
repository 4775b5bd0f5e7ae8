-- A device without a wish for the role loses none.
use Rattle.std.proofs.Common.{◌≡◌, ◌∙◌, Bool, false, Option, Some, None, option_map, ap, refl, sym}
use Rattle.i3c_base.specs.Serve.{without_role}
use Rattle.i3c_base.specs.State.{Device, in_slot}
use Rattle.i3c_device.proofs.slot_update.RoleLostSlotUpdate.concerns.Goals as goal

same : (place : Option Device) → in_slot (λ d. d.role_wish) place ≡ false → option_map without_role place ≡ place
same None none = refl
same (Some d) none = ap (λ (wish : Bool). Some (record d { role_wish = wish })) (sym none)

pub returns : goal.returns
returns c none = same c.args.place.now (sym c.has_role_wish.ensures ∙ none)
