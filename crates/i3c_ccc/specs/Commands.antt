-- The words after one header, read as a command.
use Rattle.std.specs.Prelude.{◌≡◌, ℕ, zero, suc, ◌+◌, ◌%◌, Bool, ◌==◌, ◌||◌, List, [], ◌∷◌, Option, Some, None, if◌then◌else◌, count_ones}
use Rattle.i3c_word.specs.declared.Word.{Word}
use Rattle.i3c_word.specs.Parity.{bit_of}
use Rattle.i3c_ccc.specs.declared.commands.CccFault.{CccFault}
use Rattle.i3c_ccc.specs.declared.commands.CccFault.TheVariants.{Truncated, Parity}
use Rattle.i3c_ccc.specs.declared.commands.Command.{Command}
use Rattle.i3c_ccc.specs.declared.codes.Code.{Code}
use Rattle.i3c_ccc.specs.Codes.{code_among}

-- a byte of kinds follows this code word: broadcast ENEC and DISEC
abbrev pub takes_kinds : ℕ → Bool
takes_kinds byte = (byte == 0x00) || (byte == 0x01)

-- how many words a command has: its code, and the byte of kinds where one follows
abbrev pub wanted : List Word → ℕ
wanted [] = 1
wanted (word ∷ rest) = if takes_kinds word.byte then 2 else 1

-- a test of a word's T bit
abbrev pub has_good_t : Word → Bool
has_good_t word = (count_ones word.byte + bit_of word.t) % 2 == 1

-- the first of a command's words that is missing or has a wrong T; the words begin with number n
abbrev pub first_fault : ℕ → ℕ → List Word → Option CccFault
first_fault n zero words = None
first_fault n (suc more) [] = Some (Truncated n)
first_fault n (suc more) (word ∷ rest) = if has_good_t word then first_fault (suc n) more rest else Some (Parity n)

-- the byte of kinds that the words give
abbrev pub kinds_of : List Word → Option ℕ
kinds_of [] = None
kinds_of (code ∷ []) = None
kinds_of (code ∷ kinds ∷ rest) = if takes_kinds code.byte then Some kinds.byte else None

-- the command that the words are, where these codes are known by name: the first one's code, and the byte of kinds where it takes one
abbrev pub IsCommandOf : List Code → List Word → Command → Type 0
IsCommandOf codes [] command = ⊥
IsCommandOf codes (word ∷ rest) command = (command.code ≡ code_among codes word.byte) × (command.kinds ≡ kinds_of (word ∷ rest))
