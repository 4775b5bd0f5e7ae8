-- Static addresses that are declared for identities.
use Rattle.std.proofs.Common.{◌≡◌, ℕ, ◌&&◌, ◌==◌, Bool, true, false, List, [], ◌∷◌, Option, Some, None, if◌then◌else◌, option_and_then, sym, refl, ap, ◌∙◌}
use Rattle.std.proofs.lemmas.Bool.{and_parts, eqb-true, false≢true}
use Rattle.std.proofs.lemmas.Option.{none-some, same_Some}
use Rattle.std.specs.List.{find, range_with_len}
use Rattle.i3c_base.specs.declared.identity.Identity.{Identity}
use Rattle.i3c_base.specs.declared.range.TheConstants.{ADDRESSES}
use Rattle.i3c_base.specs.Numbers.{same_identity}
use Rattle.i3c_base.specs.State.{Entry, declared_in, entry_in, fixed_of, home_in, is_identity, is_the, kept_again, kept_of, known_in}

found_here : {A : Type 0} (test : A → Bool) (y : A) (rest : Option A) (x : A) (b : Bool) → test y ≡ b → (rest ≡ Some x → test x ≡ true)
    → (if b then Some y else rest) ≡ Some x → test x ≡ true
found_here test y rest x true e later k = ap test (sym (same_Some y x k)) ∙ e
found_here test y rest x false e later k = later k

-- what is found passes the test
pub found_passes : {A : Type 0} (test : A → Bool) (xs : List A) (x : A) → find test xs ≡ Some x → test x ≡ true
found_passes test [] x h = absurd (none-some x h)
found_passes test (y ∷ ys) x h = found_here test y (find test ys) x (test y) refl (found_passes test ys x) h

-- identities that the test finds equal are
pub same_identity-true : (i j : Identity) → same_identity i j ≡ true → i ≡ j
same_identity-true i j h =
    let parts = and_parts (i.pid == j.pid) ((i.bcr.0 == j.bcr.0) && (i.dcr.0 == j.dcr.0)) h in
    let rest = and_parts (i.bcr.0 == j.bcr.0) (i.dcr.0 == j.dcr.0) parts.1 in
    let p : i.pid ≡ j.pid = eqb-true i.pid j.pid parts.0 in
    let q : i.bcr.0 ≡ j.bcr.0 = eqb-true i.bcr.0 j.bcr.0 rest.0 in
    let r : i.dcr.0 ≡ j.dcr.0 = eqb-true i.dcr.0 j.dcr.0 rest.1 in
    λ k. record { pid = p k; bcr = record { 0 = q k }; dcr = record { 0 = r k } }

-- an identity that the test finds is there
pub identity_there : (i : Identity) (o : Option Identity) → is_identity i o ≡ true → o ≡ Some i
identity_there i None h = absurd (false≢true h)
identity_there i (Some j) h = ap Some (same_identity-true j i h)

-- at an identity's static address the identity is declared
pub declared_at_fixed : (declared : List (Option Identity)) (i : Identity) (a : ℕ) → fixed_of declared i ≡ Some a → declared_in declared a ≡ Some i
declared_at_fixed declared i a h =
    identity_there i (declared_in declared a) (found_passes (λ b. is_identity i (declared_in declared b)) (range_with_len 0 ADDRESSES) a h)

-- an address is kept again for the identity that is declared at the static address of its entry
pub kept_again_declared : (declared : List (Option Identity)) (given : List (Option Entry)) (own a : ℕ) (entry : Entry) (j : Identity)
    → kept_again declared given own a entry ≡ Some j → (f : ℕ) × (entry.fixed ≡ Some f) × (declared_in declared f ≡ Some j)
kept_again_declared declared given own a entry j h = go entry.fixed refl h
  where
    there : (b : Bool) (o : Option Identity) → (if b then o else None) ≡ Some j → o ≡ Some j
    there true o k = k
    there false o k = absurd (none-some j k)

    go : (o : Option ℕ) → entry.fixed ≡ o → option_and_then (λ f. if is_the a (home_in given own f) then declared_in declared f else None) o ≡ Some j
        → (f : ℕ) × (entry.fixed ≡ Some f) × (declared_in declared f ≡ Some j)
    go None e k = absurd (none-some j k)
    go (Some f) e k = (f, e, there (is_the a (home_in given own f)) (declared_in declared f) k)

-- the address that is kept for an identity is kept for it
pub kept_at_known : (given : List (Option Entry)) (i : Identity) (a : ℕ) → known_in given i ≡ Some a → kept_of (entry_in given a) ≡ Some i
kept_at_known given i a h =
    identity_there i (kept_of (entry_in given a)) (found_passes (λ b. is_identity i (kept_of (entry_in given b))) (range_with_len 0 ADDRESSES) a h)

-- an address that the test finds is there
pub is_the-true : (a : ℕ) (o : Option ℕ) → is_the a o ≡ true → o ≡ Some a
is_the-true a None h = absurd (false≢true h)
is_the-true a (Some b) h = ap Some (eqb-true b a h)
