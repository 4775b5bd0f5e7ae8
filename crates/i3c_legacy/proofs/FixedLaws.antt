-- The static address that is declared for an identity.
use Rattle.std.proofs.Common.{◌≤◌, nat_le, ◌≡◌, ◌≢◌, ℕ, ◌<◌, ◌==◌, Bool, true, false, List, Option, Some, None, sym, refl, ap, ◌∙◌, arith}
use Rattle.std.proofs.lemmas.Bool.{and_from, and_parts, eq-eqb, false≢true, leb-true}
use Rattle.std.proofs.lemmas.Option.{none-some}
use Rattle.i3c_base.specs.declared.identity.Identity.{Identity}
use Rattle.i3c_base.specs.declared.range.TheConstants.{ADDRESSES}
use Rattle.i3c_base.specs.Numbers.{same_identity}
use Rattle.i3c_base.specs.State.{Board, IsBoard, declared_in, fixed_of, is_identity, is_static}
use Rattle.i3c_base.proofs.StaticLaws.{same_identity-true}
use Rattle.i3c_legacy.proofs.LeastLaws.{least_found, least_nowhere}

-- an identity passes its own test
pub same_identity-refl : (i : Identity) → same_identity i i ≡ true
same_identity-refl i =
    and_from (i.pid == i.pid) _ (eq-eqb i.pid i.pid refl) (and_from (i.bcr.0 == i.bcr.0) (i.dcr.0 == i.dcr.0) (eq-eqb i.bcr.0 i.bcr.0 refl) (eq-eqb i.dcr.0 i.dcr.0 refl))

pub is_identity-here : (i : Identity) (o : Option Identity) → o ≡ Some i → is_identity i o ≡ true
is_identity-here i o e = ap (is_identity i) e ∙ same_identity-refl i

pub identity_there : (i : Identity) (o : Option Identity) → is_identity i o ≡ true → o ≡ Some i
identity_there i None h = absurd (false≢true h)
identity_there i (Some j) h = ap Some (same_identity-true j i h)

-- and no other one passes it
pub is_identity-other : (i : Identity) (o : Option Identity) → o ≢ Some i → is_identity i o ≡ false
is_identity-other i o n = go (is_identity i o) refl
  where
    go : (b : Bool) → is_identity i o ≡ b → is_identity i o ≡ false
    go false e = e
    go true e = absurd (n (identity_there i o e))

-- a static address is one of 7 bits
pub static_below : (a : ℕ) → is_static a ≡ true → a < ADDRESSES
static_below a s = let at_most : a ≤ 0x77 = leb-true a 0x77 (and_parts (nat_le 0x08 a) (nat_le a 0x77) s).1 in omega arith

-- an identity that is declared has this address
pub fixed_found : (board : Board) (i : Identity) (a : ℕ) → IsBoard board → declared_in board.declared a ≡ Some i → fixed_of board.declared i ≡ Some a
fixed_found board i a h here =
    least_found (λ b. is_identity i (declared_in board.declared b)) a (static_below a (h.static a i here)) (is_identity-here i (declared_in board.declared a) here)
    (λ b l. is_identity-other i (declared_in board.declared b) (λ there. let same = h.once a b i here there in omega (arith, same, l)))

-- one that isn't has none
pub fixed_missing : (declared : List (Option Identity)) (i : Identity) → ((a : ℕ) → declared_in declared a ≢ Some i) → fixed_of declared i ≡ None
fixed_missing declared i none = least_nowhere (λ b. is_identity i (declared_in declared b)) (λ b. is_identity-other i (declared_in declared b) (none b))

-- an identity without a static address isn't declared
pub undeclared : (board : Board) (i : Identity) (a : ℕ) → IsBoard board → fixed_of board.declared i ≡ None → declared_in board.declared a ≢ Some i
undeclared board i a h none here = absurd (none-some a (sym none ∙ fixed_found board i a h here))
