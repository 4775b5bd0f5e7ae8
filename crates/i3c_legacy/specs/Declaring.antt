-- Declaring a legacy target or an identity at a static address, and what is wrong with it.
use Rattle.std.specs.Prelude.{ℕ, Bool, ◌||◌, not, nat_le, Option, Some, None, is_some, count_by, slice_index_or, if◌then◌else◌}
use Rattle.i3c_base.specs.declared.identity.Identity.{Identity}
use Rattle.i3c_base.specs.State.{Board, declared_in, fixed_of, is_static}
use Rattle.i3c_legacy.specs.declared.faults.DeclareFault.{DeclareFault}
use Rattle.i3c_legacy.specs.declared.faults.LegacyFault.{LegacyFault}
use Rattle.i3c_legacy.specs.declared.legacies.TheConstants.{DECLARED, LEGACIES}

-- a legacy target or a declared identity has the static address a
abbrev pub is_taken : Board → ℕ → Bool
is_taken board a = is_some (slice_index_or board.legacy a None) || is_some (declared_in board.declared a)

-- the first fault of one more target at the address a: of the address, of its holder, or no room
abbrev pub first_fault : Board → ℕ → Option LegacyFault
first_fault board a =
    if not (is_static a) then Some LegacyFault.LegacyAddress else
    (if is_taken board a then Some LegacyFault.LegacyTwice else
    (if nat_le LEGACIES (count_by is_some board.legacy) then Some LegacyFault.TooManyLegacy else None))

-- the first fault of declaring the identity i at the address a: of the address, of its holder, of another address of the
-- identity, or no room
abbrev pub first_declare_fault : Board → ℕ → Identity → Option DeclareFault
first_declare_fault board a i =
    if not (is_static a) then Some DeclareFault.LegacyAddress else
    (if is_taken board a then Some DeclareFault.LegacyTwice else
    (if is_some (fixed_of board.declared i) then Some DeclareFault.IdentityTwice else
    (if nat_le DECLARED (count_by is_some board.declared) then Some DeclareFault.TooManyDeclared else None)))
