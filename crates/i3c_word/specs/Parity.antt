-- Odd parity, as words and address bytes carry it.
use Rattle.std.specs.Prelude.{◌≡◌, ℕ, ◌+◌, ◌/◌, ◌%◌, Bool, true, false, count_ones}
use Rattle.i3c_word.specs.declared.Word.{Word}

-- a bit as a number
abbrev pub bit_of : Bool → ℕ
bit_of true = 1
bit_of false = 0

-- T makes the count of ones in a word odd
abbrev pub HasOddParity : Word → Type 0
HasOddParity word = (count_ones word.byte + bit_of word.t) % 2 ≡ 1

-- an address byte: the upper seven bits are the address, and the lowest is 1 where these have an even number of ones
abbrev pub IsAddressByte : ℕ → ℕ → Type 0
IsAddressByte address byte = (byte / 2 ≡ address) × ((count_ones address + byte % 2) % 2 ≡ 1)
