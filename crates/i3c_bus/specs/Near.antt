-- A state that differs from another one in one slot at most.
use Rattle.std.specs.Prelude.{◌≡◌, ℕ, None, slice_index, slice_index_or, slice_set}
use Rattle.i3c_base.specs.Frames.{active_has}
use Rattle.i3c_base.specs.State.{State}

-- `near` differs from `st` at most in this slot's device and its number of raises, and the active controller's address is
-- the same in both
pub record IsNear (slot : ℕ) (st near : State) : Type 0 where
  pub devices : slice_set near.devices slot (slice_index_or st.devices slot None) ≡ st.devices
  pub raised : slice_set near.raised slot (slice_index st.raised slot) ≡ st.raised
  pub rest : near ≡ record st { devices = near.devices; raised = near.raised }
  pub own : (a : ℕ) → active_has near a ≡ active_has st a
