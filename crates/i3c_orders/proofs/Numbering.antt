-- Numbers that are written are read as these.
use Rattle.std.proofs.Common.{◌<◌, ◌^◌, ◌++◌, ◌∷◌, [], ℕ, List, refl, subst, sym}
use Rattle.std.proofs.lemmas.Fmt.{decimal_is_IsNumeral}
use Rattle.std.proofs.lemmas.List.{append-nil}
use Rattle.std.proofs.lemmas.List.Elements.{All-head, All-tail}
use Rattle.std.specs.Fmt.{decimal}
use Rattle.std.specs.List.{All}
use Rattle.i3c_orders.specs.Numbers.{NamesNumber, NamesNumbers, NamesSome, numbers_text, pointed}

named : (number : ℕ) → number < 2 ^ 64 → NamesNumber (decimal number) number
named number fits = ((decimal_is_IsNumeral number fits).0, sym ((decimal_is_IsNumeral number fits).1))

some_named : (number : ℕ) (numbers : List ℕ) → number < 2 ^ 64 → All (λ n. n < 2 ^ 64) numbers → NamesSome (decimal number ++ pointed numbers) number numbers
some_named number [] fits all = subst (λ text. NamesNumber text number) (sym (append-nil (decimal number))) (named number fits)
some_named number (next ∷ numbers) fits all =
    (decimal number, decimal next ++ pointed numbers, refl, named number fits, some_named next numbers (All-head (λ n. n < 2 ^ 64) next numbers all) (All-tail (λ n. n < 2 ^ 64) next numbers all))

pub written_read : (numbers : List ℕ) → All (λ n. n < 2 ^ 64) numbers → NamesNumbers (numbers_text numbers) numbers
written_read [] all = refl
written_read (number ∷ numbers) all = some_named number numbers (All-head (λ n. n < 2 ^ 64) number numbers all) (All-tail (λ n. n < 2 ^ 64) number numbers all)
