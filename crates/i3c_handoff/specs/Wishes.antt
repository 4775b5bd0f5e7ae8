-- Wishes for the role.
use Rattle.std.specs.Prelude.{ℕ, Option}
use Rattle.i3c_base.specs.declared.refusals.RoleRefusal.{RoleRefusal}
use Rattle.i3c_base.specs.Refusing.{first_of, role_tests}
use Rattle.i3c_base.specs.State.{Device}

-- why whatever is in a slot may not
abbrev pub refusal_of : ℕ → ℕ → Option Device → Option RoleRefusal
refusal_of active slot place = first_of (role_tests active slot place)
