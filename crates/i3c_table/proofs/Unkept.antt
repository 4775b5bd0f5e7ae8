-- A table that keeps no address for an identity.
use Rattle.std.proofs.Common.{◌≡◌, ℕ, false}
use Rattle.std.proofs.lemmas.Bool.{both_ways}
use Rattle.i3c_base.specs.State.{Board}
use Rattle.i3c_base.specs.Sets.{is_in}
use Rattle.i3c_table.specs.Stored.{IsWhole}

-- none of them is kept
pub whole_unkept : (held kept none : ℕ) (board : Board) → IsWhole held kept board → ((a : ℕ) → is_in none a ≡ false) → IsWhole held none board
whole_unkept held kept none board h nothing = record { usable = h.usable; apart = h.apart; undeclared = h.undeclared; among = λ b in_it. absurd (both_ways (is_in none b) (nothing b) in_it) }
