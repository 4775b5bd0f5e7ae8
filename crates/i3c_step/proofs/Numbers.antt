-- Lists of numbers that rise between two bounds.
use Rattle.std.proofs.lemmas.Bool.{eqb-false}
use Rattle.std.proofs.lemmas.List.{map-append, map_push}
use Rattle.std.proofs.lemmas.List.Elements.{filter-append}
use Rattle.std.proofs.lemmas.Simd.{map-map}
use Rattle.std.proofs.lemmas.Option.{none-some, same_Some}
use Rattle.std.proofs.Common.{◌≡◌, ℕ, Bool, Some, slice_get, ◌∙◌, sym, subst, zero, suc, ◌<◌, ◌≤◌, true, false, List, [], ◌∷◌, ◌++◌, map, filter, ◌==◌, if◌then◌else◌, refl, ap, append_assoc, arith, add-one}
use Rattle.std.specs.List.Sorted.{IsStrictlyIncreasing}
use Rattle.i3c_base.specs.declared.device.Waiting.{Waiting}
use Rattle.i3c_base.specs.declared.requests.Record.{Record}
use Rattle.i3c_step.specs.Records.{numbers_of, raise_of}

-- the numbers rise, the first is above low, and the last is at most high
abbrev pub Between : ℕ → List ℕ → ℕ → Type 0
Between low [] high = low ≤ high
Between low (x ∷ xs) high = (low < x) × Between x xs high

pub Between-higher : (low : ℕ) (xs : List ℕ) (high more : ℕ) → high ≤ more → Between low xs high → Between low xs more
Between-higher low [] high more le h = omega arith
Between-higher low (x ∷ xs) high more le h = (h.0, Between-higher x xs high more le h.1)

pub Between-lower : (low less : ℕ) (xs : List ℕ) (high : ℕ) → less ≤ low → Between low xs high → Between less xs high
Between-lower low less [] high le h = omega arith
Between-lower low less (x ∷ xs) high le h = (omega (arith, h.0), h.1)

pub Between-bounds : (low : ℕ) (xs : List ℕ) (high : ℕ) → Between low xs high → low ≤ high
Between-bounds low [] high h = h
Between-bounds low (x ∷ xs) high h = omega (arith, h.0, Between-bounds x xs high h.1)

pub Between-front : (low : ℕ) (xs ys : List ℕ) (high : ℕ) → Between low (xs ++ ys) high → Between low xs high
Between-front low [] ys high h = Between-bounds low ys high h
Between-front low (x ∷ xs) ys high h = (h.0, Between-front x xs ys high h.1)

pub Between-clear : (low : ℕ) (xs ys : List ℕ) (high : ℕ) → Between low (xs ++ ys) high → Between low (xs ++ []) high
Between-clear low [] ys high h = Between-bounds low ys high h
Between-clear low (x ∷ xs) ys high h = (h.0, Between-clear x xs ys high h.1)

pub Between-push : (low : ℕ) (xs : List ℕ) (high : ℕ) → Between low xs high → Between low (xs ++ suc high ∷ []) (suc high)
Between-push low [] high h = (omega arith, omega arith)
Between-push low (x ∷ xs) high h = (h.0, Between-push x xs high h.1)

pub Increasing-between : (low : ℕ) (xs : List ℕ) (high : ℕ) → Between low xs high → IsStrictlyIncreasing xs
Increasing-between low [] high h k l = absurd (omega arith)
Increasing-between low (x ∷ []) high h k l = absurd (omega arith)
Increasing-between low (x ∷ y ∷ ys) high h zero l = h.1.0
Increasing-between low (x ∷ y ∷ ys) high h (suc k) l = rw add-one (rw add-one at (Increasing-between x (y ∷ ys) high h.1 k (omega arith)))

-- the numbers of waiting interrupts
abbrev pub numbers : List Waiting → List ℕ
numbers ws = map (λ (w : Waiting). w.number) ws

-- the next number rises above those before
pub Between-raise : (low : ℕ) (xs : List ℕ) (ws : List Waiting) (w : Waiting) (n : ℕ) → w.number ≡ suc n
    → Between low (xs ++ numbers ws) n → Between low (xs ++ numbers (ws ++ w ∷ [])) (suc n)
Between-raise low xs ws w n e h =
    let one : numbers (ws ++ w ∷ []) ≡ numbers ws ++ suc n ∷ [] = map_push (λ (v : Waiting). v.number) ws w ∙ ap (λ k. numbers ws ++ k ∷ []) e in
    subst (λ ys. Between low ys (suc n)) (append_assoc xs (numbers ws) (suc n ∷ []) ∙ ap (λ ys. xs ++ ys) (sym one)) (Between-push low (xs ++ numbers ws) n h)

-- the numbers of a slot's records, in two parts
pub numbers_of-append : (s : ℕ) (rs qs : List Record) → numbers_of s (rs ++ qs) ≡ numbers_of s rs ++ numbers (map raise_of (filter (λ (r : Record). r.slot == s) qs))
numbers_of-append s rs qs =
    ap (map (λ (r : Record). r.number)) (filter-append (λ (r : Record). r.slot == s) rs qs)
    ∙ (map-append (λ (r : Record). r.number) (filter (λ (r : Record). r.slot == s) rs) (filter (λ (r : Record). r.slot == s) qs)
    ∙ ap (λ ns. numbers_of s rs ++ ns) (sym (map-map (λ (w : Waiting). w.number) raise_of (filter (λ (r : Record). r.slot == s) qs))))

-- what is left of a slot's numbers behind a record, which is above the lower bound if it is the slot's
Between-behind : (s low : ℕ) (q : Record) (rs : List Record) (high : ℕ) → Between low (numbers_of s (q ∷ rs)) high
    → Between low (numbers_of s rs) high × (q.slot ≡ s → (low < q.number) × Between q.number (numbers_of s rs) high)
Between-behind s low q rs high h = go (q.slot == s) refl h
  where
    go : (t : Bool) → (q.slot == s) ≡ t
        → Between low (map (λ (x : Record). x.number) (if t then q ∷ filter (λ (x : Record). x.slot == s) rs else filter (λ (x : Record). x.slot == s) rs)) high
        → Between low (numbers_of s rs) high × (q.slot ≡ s → (low < q.number) × Between q.number (numbers_of s rs) high)
    go true e k = (Between-lower q.number low (numbers_of s rs) high (omega (arith, k.0)) k.1, λ f. (k.0, k.1))
    go false e k = (k, λ f. absurd (eqb-false q.slot s e f))

-- a record of the slot is above the lower bound
Above-record : (s low : ℕ) (rs : List Record) (high : ℕ) → Between low (numbers_of s rs) high → (i : ℕ) (r : Record) → slice_get rs i ≡ Some r → r.slot ≡ s → low < r.number
Above-record s low [] high h i r p e = absurd (none-some r p)
Above-record s low (q ∷ rs) high h zero r p e = let f : q ≡ r = same_Some q r p in
    let k = (Between-behind s low q rs high h).1 (ap (λ (x : Record). x.slot) f ∙ e) in subst (λ (x : Record). low < x.number) f k.0
Above-record s low (q ∷ rs) high h (suc i) r p e = Above-record s low rs high (Between-behind s low q rs high h).0 i r p e

-- the first record of a slot has no later namesake
Above-first : (q r : Record) (rs : List Record) (low high : ℕ) (j : ℕ) → Between low (numbers_of q.slot (q ∷ rs)) high → slice_get rs j ≡ Some r → q.slot ≡ r.slot → q.number ≡ r.number → ⊥
Above-first q r rs low high j h p slot number =
    let above : q.number < r.number = Above-record q.slot q.number rs high ((Between-behind q.slot low q rs high h).1 refl).1 j r p (sym slot) in omega (arith, above, number)

-- no two records have one slot and one number
pub once-between : (rs : List Record) → ((s : ℕ) → (low : ℕ) × (high : ℕ) × Between low (numbers_of s rs) high)
    → (i j : ℕ) (r q : Record) → slice_get rs i ≡ Some r → slice_get rs j ≡ Some q → r.slot ≡ q.slot → r.number ≡ q.number → i ≡ j
once-between [] h i j r q x y slot number = absurd (none-some r x)
once-between (f ∷ rs) h zero zero r q x y slot number = refl
once-between (f ∷ rs) h zero (suc j) r q x y slot number =
    let e : f ≡ r = same_Some f r x in
    absurd (Above-first f q rs (h f.slot).0 (h f.slot).1 j (h f.slot).2 y (ap (λ (x : Record). x.slot) e ∙ slot) (ap (λ (x : Record). x.number) e ∙ number))
once-between (f ∷ rs) h (suc i) zero r q x y slot number =
    let e : f ≡ q = same_Some f q y in
    absurd (Above-first f r rs (h f.slot).0 (h f.slot).1 i (h f.slot).2 x (ap (λ (x : Record). x.slot) e ∙ sym slot) (ap (λ (x : Record). x.number) e ∙ sym number))
once-between (f ∷ rs) h (suc i) (suc j) r q x y slot number =
    ap suc (once-between rs (λ s. ((h s).0, (h s).1, (Between-behind s (h s).0 f rs (h s).1 (h s).2).0)) i j r q x y slot number)
