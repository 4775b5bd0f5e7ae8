-- Declared legacy targets and identities, as they are kept by static address.
use Rattle.std.specs.Prelude.{ℕ, ◌≤◌, List, All, IsTrue, length}
use Rattle.i3c_base.specs.State.{Board, IsBoard, is_static}
use Rattle.i3c_legacy.specs.declared.legacies.Declared.{Declared}
use Rattle.i3c_legacy.specs.declared.legacies.DeclaredIdentity.{DeclaredIdentity}
use Rattle.i3c_legacy.specs.declared.legacies.TheConstants.{DECLARED, LEGACIES}
use Rattle.i3c_legacy.specs.Rows.{places, HasOwnAddresses, IsSetOf}

-- the board of declared targets and identities
abbrev pub board_of : List Declared → List DeclaredIdentity → Board
board_of targets identities = record {
  legacy = places (λ (d : Declared). d.address) (λ (d : Declared). d.lvr) targets;
  declared = places (λ (d : DeclaredIdentity). d.address) (λ (d : DeclaredIdentity). d.identity) identities;
}

-- there are few; each has an address of its own from 08 to 77, each identity has one, and the set has all these addresses
pub record AreDeclared (targets : List Declared) (identities : List DeclaredIdentity) (addresses : ℕ) : Type 0 where
  pub few_targets : length targets ≤ LEGACIES
  pub few_identities : length identities ≤ DECLARED
  pub targets_apart : HasOwnAddresses (λ (d : Declared). d.address) targets
  pub identities_apart : HasOwnAddresses (λ (d : DeclaredIdentity). d.address) identities
  pub static : All (λ (d : Declared). IsTrue (is_static d.address)) targets
  pub board : IsBoard (board_of targets identities)
  pub set : IsSetOf (board_of targets identities) addresses
