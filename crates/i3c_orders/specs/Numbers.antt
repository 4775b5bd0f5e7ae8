-- A run by the numbers of the answers that its lines took, as it is written.
use Rattle.std.specs.Prelude.{◌≡◌, ◌++◌, ◌∷◌, ℕ, List, [], codes, length, map}
use Rattle.std.specs.Fmt.{decimal}
use Rattle.std.specs.Str.Parse.{IsNumeral, digits_value}
use Rattle.i3c_orders.specs.declared.choice.Choice.{Choice}

-- the numbers of the answers that a run's lines took: each is how many of the line's answers are left
abbrev pub numbers_of : {L S A : Type 0} → List (Choice L S A) → List ℕ
numbers_of run = map (λ choice. length choice.left.items) run

-- numbers, each behind a point
abbrev pub pointed : List ℕ → List ℕ
pointed [] = []
pointed (number ∷ numbers) = 46 ∷ (decimal number ++ pointed numbers)

-- numbers with points between them, or a dash for none
abbrev pub numbers_text : List ℕ → List ℕ
numbers_text [] = codes "-"
numbers_text (number ∷ numbers) = decimal number ++ pointed numbers

-- a text is a number in decimal digits
abbrev pub NamesNumber : List ℕ → ℕ → Type 0
NamesNumber text number = IsNumeral 10 text × (number ≡ digits_value 10 text)

-- a text is a number, and those behind it with a point before each
abbrev pub NamesSome : List ℕ → ℕ → List ℕ → Type 0
NamesSome text number [] = NamesNumber text number
NamesSome text number (next ∷ numbers) = (first : List ℕ) × (others : List ℕ) × (text ≡ first ++ 46 ∷ others) × NamesNumber first number × NamesSome others next numbers

-- a text is these numbers, with points between them, or a dash for none
abbrev pub NamesNumbers : List ℕ → List ℕ → Type 0
NamesNumbers text [] = text ≡ codes "-"
NamesNumbers text (number ∷ numbers) = NamesSome text number numbers
