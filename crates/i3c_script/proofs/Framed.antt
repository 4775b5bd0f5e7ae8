-- The number of whole frames that symbols have, and the symbols behind some of them.
use Rattle.std.proofs.Common.{◌≡◌, ◌∙◌, ℕ, zero, suc, ◌+◌, ◌≤◌, List, [], ◌∷◌, ◌++◌, drop, length, ap, arith, refl}
use Rattle.i3c_frame.specs.declared.symbols.Symbol.{Symbol}
use Rattle.i3c_script.specs.Framing.{frames_in}

-- no more frames than symbols
pub few : (begun symbols : List Symbol) → length (frames_in begun symbols) ≤ length symbols
few begun [] = omega arith
few begun (Symbol.Start ∷ more) = let before = few (Symbol.Start ∷ []) more in omega (arith, before)
few [] (Symbol.Repeated ∷ more) = let before = few [] more in omega (arith, before)
few [] (Symbol.Stop ∷ more) = let before = few [] more in omega (arith, before)
few [] ((Symbol.Header address read ack) ∷ more) = let before = few [] more in omega (arith, before)
few [] ((Symbol.Word word) ∷ more) = let before = few [] more in omega (arith, before)
few [] ((Symbol.Identity bits) ∷ more) = let before = few [] more in omega (arith, before)
few [] ((Symbol.AddressByte byte ack) ∷ more) = let before = few [] more in omega (arith, before)
few [] ((Symbol.LegacyWord byte ack) ∷ more) = let before = few [] more in omega (arith, before)
few (first ∷ begun) (Symbol.Repeated ∷ more) = let before = few ((first ∷ begun) ++ Symbol.Repeated ∷ []) more in omega (arith, before)
few (first ∷ begun) (Symbol.Stop ∷ more) = let before = few [] more in omega (arith, before)
few (first ∷ begun) ((Symbol.Header address read ack) ∷ more) = let before = few ((first ∷ begun) ++ (Symbol.Header address read ack) ∷ []) more in omega (arith, before)
few (first ∷ begun) ((Symbol.Word word) ∷ more) = let before = few ((first ∷ begun) ++ (Symbol.Word word) ∷ []) more in omega (arith, before)
few (first ∷ begun) ((Symbol.Identity bits) ∷ more) = let before = few ((first ∷ begun) ++ (Symbol.Identity bits) ∷ []) more in omega (arith, before)
few (first ∷ begun) ((Symbol.AddressByte byte ack) ∷ more) = let before = few ((first ∷ begun) ++ (Symbol.AddressByte byte ack) ∷ []) more in omega (arith, before)
few (first ∷ begun) ((Symbol.LegacyWord byte ack) ∷ more) = let before = few ((first ∷ begun) ++ (Symbol.LegacyWord byte ack) ∷ []) more in omega (arith, before)

after : (n : ℕ) → n + 1 ≡ suc n
after n = omega arith

-- the rest of a list behind n + 1 elements, if its rest behind n begins with x
behind : {X : Type 0} (n : ℕ) (xs : List X) (x : X) (ys : List X) → drop n xs ≡ x ∷ ys → drop (suc n) xs ≡ ys
behind zero [] x ys e = absurd cc
behind (suc n) [] x ys e = absurd cc
behind zero (y ∷ xs) x ys e = cc
behind (suc n) (y ∷ xs) x ys e = behind n xs x ys e

pub behind_one : {X : Type 0} (n : ℕ) (xs : List X) (x : X) (ys : List X) → drop n xs ≡ x ∷ ys → drop (n + 1) xs ≡ ys
behind_one n xs x ys e = ap (λ k. drop k xs) (after n) ∙ behind n xs x ys e

-- the same when nothing is left
behind_all : {X : Type 0} (n : ℕ) (xs : List X) → drop n xs ≡ [] → drop (suc n) xs ≡ []
behind_all zero [] e = refl
behind_all (suc n) [] e = refl
behind_all zero (y ∷ xs) e = absurd cc
behind_all (suc n) (y ∷ xs) e = behind_all n xs e

pub behind_none : {X : Type 0} (n : ℕ) (xs : List X) → drop n xs ≡ [] → drop (n + 1) xs ≡ []
behind_none n xs e = ap (λ k. drop k xs) (after n) ∙ behind_all n xs e
