-- A controller's table and the copies that devices keep of it, against the state.
use Rattle.std.specs.Prelude.{◌≡◌, Bool, List, map, Option, option_map}
use Rattle.i3c_base.specs.declared.device.LegacyTarget.{LegacyTarget}
use Rattle.i3c_base.specs.declared.identity.Identity.{Identity}
use Rattle.i3c_base.specs.declared.identity.Lvr.{Lvr}
use Rattle.i3c_base.specs.State.{Entry, State, unkept}

-- a controller's table: the entries at their addresses, the LVRs of legacy targets and the declared identities at theirs,
-- and whether its list is current
pub record Table : Type 0 where
  pub given : List (Option Entry)
  pub legacy : List (Option Lvr)
  pub declared : List (Option Identity)
  pub listed : Bool

-- the LVRs of the legacy targets
abbrev pub lvrs : State → List (Option Lvr)
lvrs st = map (option_map (λ (t : LegacyTarget). t.lvr)) st.legacy

-- the table of the active controller
abbrev pub IsTable : State → Table → Type 0
IsTable st table = (table.given ≡ st.given) × (table.legacy ≡ lvrs st) × (table.listed ≡ st.listed) × (table.declared ≡ st.declared)

-- a current copy of it, which keeps no address for an identity
abbrev pub IsCopy : State → Table → Type 0
IsCopy st table = (table.given ≡ map (option_map unkept) st.given) × (table.legacy ≡ lvrs st)
