-- The state that a bus's fields are seen as.
use Rattle.std.proofs.Common.{◌≡◌, ◌∙◌, ℕ, ap, refl, sym}
use Rattle.i3c_base.specs.State.{HasDevices, Held, State}
use Rattle.i3c_bus.specs.declared.bus.Bus.TheInside.{Inside}
use Rattle.i3c_bus.specs.Parts.{state_of}

abbrev pub seen : Inside → State
seen b = state_of b.devices b.raised b.active b.table b.legacy b.in_session b.records.items

-- what a call was told of the active controller's slot is so of the bus that it began with
pub has_devices : (h now : Held) (active : ℕ) → h ≡ now → active ≡ now.state.active → HasDevices now.state h.state.devices active
has_devices h now active is own = (ap (λ (x : Held). x.state.devices) (sym is), sym own)

-- and of what its fields are seen as
pub seen_devices : (h now : Held) (active : ℕ) → h ≡ now → active ≡ now.state.active → HasDevices h.state h.state.devices active
seen_devices h now active is own = (refl, ap (λ (x : Held). x.state.active) is ∙ sym own)
