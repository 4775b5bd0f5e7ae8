-- The first state of a bus that was just made is told by its main controller's address.
use Rattle.std.proofs.Common.{◌≡◌, ◌∙◌, ℕ, Some, ap, subst, sym}
use Rattle.i3c_base.specs.declared.device.Setup.{Setup}
use Rattle.i3c_base.specs.State.{Board, State, IsStart, addressed, device_at, no_devices, unaddressed}
use Rattle.i3c_bus.specs.Readings.{address_of}
use Rattle.i3c_recorder.specs.Beginning.{first_state}

-- a start whose active controller has this address
starts_at : (main : Setup) (board : Board) (st : State) (address : ℕ) → IsStart main board st → Some address ≡ address_of (device_at st st.active) → st ≡ first_state main address board
unfolding no_devices
starts_at main board st address (a, pick, e, whole) at =
    let there : Some address ≡ Some a = at ∙ ap (λ (s : State). address_of (device_at s s.active)) e in
    let same : a ≡ address = cc in
    e ∙ ap (λ n. addressed 0 n main.identity (unaddressed main board)) same

-- the same of what was kept of the main device and what has a static address
pub starts_there : (main kept : Setup) (board keeps : Board) (st : State) (address : ℕ) → kept ≡ main → keeps ≡ board → IsStart main board st → Some address ≡ address_of (device_at st st.active)
    → IsStart main board (first_state kept address keeps) × (st ≡ first_state kept address keeps)
starts_there main kept board keeps st address m l start at =
    let first : first_state main address board ≡ first_state kept address keeps = ap (λ m. first_state m address board) (sym m) ∙ ap (λ l. first_state kept address l) (sym l) in
    let same = starts_at main board st address start at ∙ first in
    (subst (IsStart main board) same start, same)
