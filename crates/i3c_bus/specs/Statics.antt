-- Static addresses of declared identities.
use Rattle.std.specs.Prelude.{◌≡◌, ℕ, true, List, Option, Some}
use Rattle.i3c_base.specs.declared.identity.Identity.{Identity}
use Rattle.i3c_base.specs.State.{fixed_of, is_static}

-- this is the static address that is declared for the identity
abbrev pub IsFixedAt : List (Option Identity) → Identity → ℕ → Type 0
IsFixedAt declared i f = (is_static f ≡ true) × (fixed_of declared i ≡ Some f)
