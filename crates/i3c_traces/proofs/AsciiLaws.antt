-- A text in which each byte that isn't ASCII becomes a question mark, one byte after another.
use Rattle.std.proofs.Common.{◌≡◌, ℕ, zero, suc, ◌+◌, ◌<◌, List, [], ◌∷◌, ◌++◌, drop, length, get_or, map, take, arith, refl, ap, ◌∙◌, Option, Some, None, IfSome}
use Rattle.std.proofs.Math.ListN.{set}
use Rattle.std.proofs.lemmas.List.{take-append-le, take_all}
use Rattle.i3c_traces.specs.Traces.{ascii}

-- the first bytes are done, up to an index
pub marked : ℕ → List ℕ → List ℕ
marked zero xs = xs
marked (suc i) [] = []
marked (suc i) (x ∷ xs) = ascii x ∷ marked i xs

pub marked_none : (xs : List ℕ) → xs ≡ marked 0 xs
unfolding marked
marked_none xs = refl

pub marked_all : (xs : List ℕ) → marked (length xs) xs ≡ map ascii xs
unfolding marked
marked_all [] = refl
marked_all (x ∷ xs) = ap (λ rest. ascii x ∷ rest) (marked_all xs)

marked_at : (i : ℕ) (xs : List ℕ) → get_or (marked i xs) i 0 ≡ get_or xs i 0
unfolding marked
marked_at zero xs = refl
marked_at (suc i) [] = refl
marked_at (suc i) (x ∷ xs) = marked_at i xs

marked_next : (i : ℕ) (xs : List ℕ) → i < length xs → set (marked i xs) i (ascii (get_or xs i 0)) ≡ marked (suc i) xs
unfolding marked
marked_next i [] h = absurd (omega arith)
marked_next zero (x ∷ xs) h = refl
marked_next (suc i) (x ∷ xs) h = ap (λ rest. ascii x ∷ rest) (marked_next i xs (omega arith))

pub marked_more : (xs ys : List ℕ) (i value : ℕ) → i < length xs → ys ≡ marked i xs → value ≡ ascii (get_or ys i 0) → set ys i value ≡ marked (i + 1) xs
marked_more xs ys i value within so_far is =
    let here : value ≡ ascii (get_or xs i 0) = is ∙ ap (λ list. ascii (get_or list i 0)) so_far ∙ ap ascii (marked_at i xs) in
    let next : suc i ≡ i + 1 = omega arith in
    ap (λ list. set list i value) so_far ∙ ap (λ v. set (marked i xs) i v) here ∙ marked_next i xs within ∙ ap (λ k. marked k xs) next

-- as many bytes as a list has, put back at its front, are all of it
pub put_back : (items new : List ℕ) (len : ℕ) → length new ≡ len → take len (new ++ drop (length new) items) ≡ new
put_back items new len long = take-append-le len new (drop (length new) items) (omega arith) ∙ take_all len new (omega arith)

-- there are as many bytes as before
pub length-ascii : (xs : List ℕ) → length (map ascii xs) ≡ length xs
length-ascii [] = refl
length-ascii (x ∷ xs) = ap suc (length-ascii xs)

-- the same text, borrowed
pub read_as : (known : Option (List ℕ)) (items text : List ℕ) → text ≡ items → IfSome known (λ bytes. items ≡ map ascii bytes) → IfSome known (λ bytes. text ≡ map ascii bytes)
read_as None items text same read = tt
read_as (Some bytes) items text same read = same ∙ read
