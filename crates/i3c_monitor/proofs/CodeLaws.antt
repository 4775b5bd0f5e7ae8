-- The code of a byte.
use Rattle.std.proofs.Common.{◌≡◌, ◌≤◌, ◌∙◌, ℕ, ◌+◌, List, [], ◌∷◌, ◌-◌, length, take, drop, Result, Ok, sym, ap, subst, arith}
use Rattle.std.proofs.lemmas.List.{take_all}
use Rattle.i3c_frame.specs.declared.symbols.Symbol.{Symbol}
use Rattle.i3c_monitor.specs.declared.header.Told.{Told}
use Rattle.i3c_monitor.specs.declared.decoded.Fault.{Fault}
use Rattle.i3c_text.specs.declared.line_error.LineError.{LineError}
use Rattle.i3c_monitor.specs.Due.{Comes, go_on, written_byte}
use Rattle.i3c_ccc.specs.declared.codes.Code.{Code}
use Rattle.i3c_ccc.specs.declared.codes.CodeSet.{CodeSet}
use Rattle.i3c_ccc.specs.Codes.{code_among, codes_of}
use Rattle.i3c_monitor.specs.Told.{code_of, command_of}

-- a command whose code was read
pub code_comes : (codes : CodeSet) (symbols : List Symbol) (before byte : ℕ) (code : Code) (result : Result Told (LineError Fault)) → 1 ≤ length symbols
    → written_byte symbols before ≡ Ok byte → code ≡ code_among (codes_of codes) byte
    → Comes (command_of code (take (length symbols - 1) (drop 1 symbols)) (before + 1)) result
    → Comes (code_of codes symbols before) result
code_comes codes [] before byte code result some read is comes = absurd (omega (arith, some))
code_comes codes (symbol ∷ rest) before byte code result some read is comes =
    let all : take (length (symbol ∷ rest) - 1) rest ≡ rest = take_all (length (symbol ∷ rest) - 1) rest (omega arith) in
    let step : code_of codes (symbol ∷ rest) before ≡ command_of code (take (length (symbol ∷ rest) - 1) rest) (before + 1) =
    ap (λ read. go_on read (λ byte. command_of (code_among (codes_of codes) byte) rest (before + 1))) read
    ∙ ap (λ code. command_of code rest (before + 1)) (sym is)
    ∙ ap (λ rest. command_of code rest (before + 1)) (sym all) in
    subst (λ wanted. Comes wanted result) (sym step) comes
