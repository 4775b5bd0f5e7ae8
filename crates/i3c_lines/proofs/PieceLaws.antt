-- A line that comes in pieces.
use Rattle.std.proofs.Common.{◌≡◌, ℕ, ◌+◌, ◌-◌, ◌≤◌, List, ◌++◌, length, take, arith, subst, length-append}
use Rattle.std.proofs.Math.Seq.{take-append-add}
use Rattle.std.proofs.lemmas.List.{take_all}

-- a piece that has room
pub whole_piece : (most : ℕ) (xs more : List ℕ) → length more ≤ most - length xs → length xs ≤ most → take most (xs ++ more) ≡ xs ++ more
whole_piece most xs more room short = take_all most (xs ++ more) (omega (arith, room, short, length-append xs more))

-- the beginning of a piece, for which there is room
pub first_of_piece : (most : ℕ) (xs more : List ℕ) → length xs ≤ most → take most (xs ++ more) ≡ xs ++ take (most - length xs) more
first_of_piece most xs more short =
    let all : length xs + (most - length xs) ≡ most = omega (arith, short) in
    subst (λ n. take n (xs ++ more) ≡ xs ++ take (most - length xs) more) all (take-append-add xs more (most - length xs))
