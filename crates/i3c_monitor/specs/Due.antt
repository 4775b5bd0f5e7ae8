-- The words expected at one place of a trace. `before` counts the symbols of the trace before those in hand.
use Rattle.std.specs.Prelude.{◌≡◌, ℕ, ◌+◌, ◌==◌, List, [], ◌∷◌, length, Option, Some, None, Result, Ok, Err, if◌then◌else◌}
use Rattle.i3c_word.specs.declared.Word.{Word}
use Rattle.i3c_ccc.specs.Commands.{has_good_t}
use Rattle.i3c_frame.specs.declared.symbols.Symbol.{Symbol}
use Rattle.i3c_deftgts.specs.declared.faults.ListFault.{ListFault}
use Rattle.i3c_deftgts.specs.Layout.{bytes}
use Rattle.i3c_deftgts.specs.Reading.{entries_in, first_fault}
use Rattle.i3c_monitor.specs.declared.decoded.Fault.{Fault}
use Rattle.i3c_text.specs.declared.line_error.LineError.{LineError}

-- the result of a part, and then of the step that needs it
abbrev pub go_on : {A B : Type 0} → Result A Fault → (A → Result B Fault) → Result B Fault
go_on (Ok part) more = more part
go_on (Err fault) more = Err fault

-- a call has this result, unless it lacks memory
abbrev pub Comes : {A : Type 0} → Result A Fault → Result A (LineError Fault) → Type 0
Comes wanted (Ok part) = wanted ≡ Ok part
Comes wanted (Err (LineError.Refused fault)) = wanted ≡ Err fault
Comes wanted (Err LineError.Memory) = Unit {0}

-- the expected word, or the fault that another symbol or none is in its place
abbrev pub due_word : List Symbol → ℕ → Result Word Fault
due_word [] before = Err (Fault.Truncated (before + 1))
due_word (Symbol.Word word ∷ rest) before = Ok word
due_word (_ ∷ rest) before = Err (Fault.Parity (before + 1))

-- the byte of a word that the controller wrote, whose T bit counts
abbrev pub byte_in : ℕ → Word → Result ℕ Fault
byte_in before word = if has_good_t word then Ok word.byte else Err (Fault.Parity (before + 1))

-- the byte of the expected written word
abbrev pub written_byte : List Symbol → ℕ → Result ℕ Fault
written_byte symbols before = go_on (due_word symbols before) (byte_in before)

-- the bytes of the two expected written words, as a length has them
abbrev pub written_length : List Symbol → ℕ → Result (ℕ × ℕ) Fault
written_length [] before = Err (Fault.Truncated (before + 1))
written_length (symbol ∷ rest) before =
    go_on (written_byte (symbol ∷ rest) before) (λ high. go_on (written_byte rest (before + 1)) (λ low. Ok (high, low)))

-- the words before any other symbol
abbrev pub words_in : List Symbol → List Word
words_in (Symbol.Word word ∷ rest) = word ∷ words_in rest
words_in _ = []

-- the fault of a list that another symbol interrupts, the one of this number: a wrong T bit before it comes first
abbrev pub broken : Option ListFault → ℕ → Fault
broken (Some (ListFault.Parity word)) number = Fault.List (ListFault.Parity word)
broken _ number = Fault.Parity number

-- how many entries a list has, if it has no fault
abbrev pub entries_or : Option ListFault → ℕ → Result ℕ Fault
entries_or None count = Ok count
entries_or (Some fault) count = Err (Fault.List fault)

-- how many entries the list has that the symbols are
abbrev pub entries_told : List Symbol → ℕ → Result ℕ Fault
entries_told symbols before =
    let words = words_in symbols in
    if length words == length symbols then entries_or (first_fault words) (length (entries_in (bytes words)))
    else Err (broken (first_fault words) (before + (length words + 1)))
