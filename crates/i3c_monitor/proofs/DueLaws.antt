-- The number of words before any other symbol.
use Rattle.std.proofs.Common.{◌≡◌, ◌≤◌, ◌∙◌, ℕ, ◌==◌, true, List, [], ◌∷◌, length, Some, Ok, Err, ap, refl, arith}
use Rattle.std.proofs.lemmas.Bool.{eq-eqb}
use Rattle.std.proofs.lemmas.List.{length-map}
use Rattle.i3c_deftgts.specs.declared.entries.Entry.{Entry}
use Rattle.i3c_deftgts.specs.declared.faults.ListFault.{ListFault}
use Rattle.i3c_deftgts.specs.Reading.{first_fault, ReadAs}
use Rattle.i3c_monitor.specs.declared.decoded.Fault.{Fault}
use Rattle.i3c_frame.specs.declared.symbols.Symbol.{Symbol}
use Rattle.i3c_monitor.specs.Due.{entries_told, words_in}

pub words_fit : (symbols : List Symbol) → length (words_in symbols) ≤ length symbols
words_fit [] = omega arith
words_fit (Symbol.Word word ∷ rest) = let h : length (words_in rest) ≤ length rest = words_fit rest in omega (arith, h)
words_fit (Symbol.Start ∷ rest) = omega arith
words_fit (Symbol.Repeated ∷ rest) = omega arith
words_fit (Symbol.Stop ∷ rest) = omega arith
words_fit (Symbol.Header address read ack ∷ rest) = omega arith
words_fit (Symbol.Identity identity ∷ rest) = omega arith
words_fit (Symbol.AddressByte byte ack ∷ rest) = omega arith
words_fit (Symbol.LegacyWord byte ack ∷ rest) = omega arith

all_words : (symbols : List Symbol) → length symbols ≤ length (words_in symbols) → (length (words_in symbols) == length symbols) ≡ true
all_words symbols h = eq-eqb (length (words_in symbols)) (length symbols) (omega (arith, h, words_fit symbols))

-- the symbols are all words, and a list
pub list_read : (symbols : List Symbol) (before : ℕ) (list : List Entry) → length symbols ≤ length (words_in symbols)
    → ReadAs (words_in symbols) list → entries_told symbols before ≡ Ok (length list)
list_read symbols before list whole read =
    rw (all_words symbols whole) (rw read.flawless (ap (λ n. Ok n) (ap length read.same ∙ length-map list Some)))

-- the symbols are all words, and no list
pub list_refused : (symbols : List Symbol) (before : ℕ) (fault : ListFault) → length symbols ≤ length (words_in symbols)
    → first_fault (words_in symbols) ≡ Some fault → entries_told symbols before ≡ Err (Fault.List fault)
list_refused symbols before fault whole faulty = rw (all_words symbols whole) (rw faulty refl)
