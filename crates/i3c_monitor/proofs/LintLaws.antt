-- What is told as a linter goes on.
use Rattle.std.proofs.Common.{◌≡◌, ◌≤◌, ◌∙◌, ℕ, zero, suc, ◌+◌, List, [], ◌∷◌, ◌++◌, length, drop, map, Option, Some, None, Result, Ok, Err, IfOk, ap, refl, sym, arith}
use Rattle.std.specs.Option.{option_to_list}
use Rattle.i3c_ccc.specs.declared.codes.CodeSet.{CodeSet}
use Rattle.i3c_frame.specs.declared.symbols.Symbol.{Symbol}
use Rattle.i3c_monitor.specs.declared.header.Header.{Header}
use Rattle.i3c_monitor.specs.declared.header.Mode.{Mode}
use Rattle.i3c_monitor.specs.declared.header.Told.{Told}
use Rattle.i3c_monitor.specs.declared.address_statuses.AddressStatuses.{AddressStatuses}
use Rattle.i3c_monitor.specs.declared.lint_fault.LintFault.{LintFault}
use Rattle.i3c_monitor.specs.declared.report.Report.{Report}
use Rattle.i3c_wave.specs.declared.captured.FrameMark.{FrameMark}
use Rattle.i3c_monitor.specs.AddressStatuses.{learned_of}
use Rattle.i3c_monitor.specs.Lint.{LintLine, header_faults, linted, mode_at, settled, told_at}
use Rattle.i3c_monitor.specs.Lint.LintLine.{Faulty, Shown}
use Rattle.i3c_monitor.specs.LintLines.{fault_line, faults_text, lint_text}
use Rattle.i3c_monitor.specs.Linting.{reported}
use Rattle.i3c_monitor.specs.Told.{told}
use Rattle.i3c_monitor.specs.Trace.{behind, count_behind, header_in}
use Rattle.i3c_monitor.proofs.TraceLaws.{behind_fits, unheaded}

-- the symbols behind a header that was told are passed over
skipped : (legacies : ℕ) (mode : Mode) (frames before : ℕ) (known : AddressStatuses) (faults : List LintFault) (skip : ℕ) (symbols : List Symbol) → skip ≤ length symbols
    → linted legacies mode frames before known faults skip symbols ≡ linted legacies mode frames (before + skip) known faults 0 (drop skip symbols)
skipped legacies mode frames before known faults zero symbols fits =
    let e : before ≡ before + 0 = omega arith in ap (λ n. linted legacies mode frames n known faults 0 symbols) e
skipped legacies mode frames before known faults (suc skip) [] fits = absurd (omega (arith, fits))
skipped legacies mode frames before known faults (suc skip) (symbol ∷ rest) fits =
    let e : before + 1 + skip ≡ before + suc skip = omega arith in
    let less : skip ≤ length rest = omega (arith, fits) in
    skipped legacies mode frames (before + 1) known faults skip rest less
    ∙ ap (λ n. linted legacies mode frames n known faults 0 (drop skip rest)) e

pub after_behind : (legacies : ℕ) (mode : Mode) (frames before : ℕ) (known : AddressStatuses) (faults : List LintFault) (count : ℕ) (rest front back : List Symbol)
    → count ≡ count_behind rest → length front ≡ count → back ≡ drop count rest
    → linted legacies mode frames before known faults (count_behind rest) rest ≡ linted legacies mode frames (before + length front) known faults 0 back
after_behind legacies mode frames before known faults count rest front back is front_is back_is =
    skipped legacies mode frames before known faults (count_behind rest) rest (behind_fits rest)
    ∙ ap (λ n. linted legacies mode frames (before + n) known faults 0 (drop n rest)) (sym is)
    ∙ ap (λ rest. linted legacies mode frames (before + count) known faults 0 rest) (sym back_is)
    ∙ ap (λ n. linted legacies mode frames (before + n) known faults 0 back) (sym front_is)

-- the same told of the rest
pub told_too : {E : Type 0} → (r : Result (Option Report) E) (a b rest : List LintLine) → IfOk r (λ report. b ≡ reported report ++ rest) → a ≡ b
    → IfOk r (λ report. a ≡ reported report ++ rest)
told_too (Ok report) a b rest tells same = same ∙ tells
told_too (Err e) a b rest tells same = tt

or_this : Option Header → Header → Header
or_this None other = other
or_this (Some header) other = header

-- what is told of a header, and then
abbrev headed : ℕ → Mode → ℕ → ℕ → AddressStatuses → List LintFault → Header → List Symbol → List LintLine
headed legacies mode frames before known faults header rest =
    let told : Told = told_at legacies mode header (behind rest) (before + 1) in
    map Shown (option_to_list told.decoded)
    ++ linted legacies told.mode frames (before + 1) (learned_of (before + 1) (behind rest) told.decoded known)
    (faults ++ header_faults legacies known (mode_at legacies mode header (behind rest)) frames (before + 1) header (behind rest) told.decoded)
    (count_behind rest) rest

-- what is to come where a header does
pub header_first : (legacies : ℕ) (mode : Mode) (frames before : ℕ) (known : AddressStatuses) (faults : List LintFault) (symbol : Symbol) (rest : List Symbol) (header : Header)
    → header_in symbol ≡ Some header
    → linted legacies mode frames before known faults 0 (symbol ∷ rest) ≡ headed legacies mode frames before known faults header rest
unfolding or_this
header_first legacies mode frames before known faults (Symbol.Header address read ack) rest header is =
    ap (λ found. headed legacies mode frames before known faults (or_this found header) rest) is
header_first legacies mode frames before known faults Symbol.Start rest header is = unheaded header is
header_first legacies mode frames before known faults Symbol.Repeated rest header is = unheaded header is
header_first legacies mode frames before known faults Symbol.Stop rest header is = unheaded header is
header_first legacies mode frames before known faults (Symbol.Word word) rest header is = unheaded header is
header_first legacies mode frames before known faults (Symbol.Identity identity) rest header is = unheaded header is
header_first legacies mode frames before known faults (Symbol.AddressByte byte ack) rest header is = unheaded header is
header_first legacies mode frames before known faults (Symbol.LegacyWord byte ack) rest header is = unheaded header is

-- the result of a header that was read: the frame's mode, what it tells, what is known then, and the faults
abbrev told_on : ℕ → ℕ → ℕ → AddressStatuses → List LintFault → Header → List Symbol → Mode → List Symbol → Told → List LintLine
told_on legacies frames before known faults header rest at front found =
    map Shown (option_to_list found.decoded)
    ++ linted legacies found.mode frames before (learned_of before front found.decoded known)
    (faults ++ header_faults legacies known at frames before header front found.decoded) (count_behind rest) rest

pub headed_on : (legacies : ℕ) (mode : Mode) (frames before : ℕ) (known : AddressStatuses) (faults : List LintFault) (header : Header) (rest front back : List Symbol) (count : ℕ)
    (at : Mode) (found : Told) (known_then : AddressStatuses) (faults_then : List LintFault) (shown : List LintLine)
    → front ≡ behind rest → at ≡ mode_at legacies mode header front → found ≡ settled (told CodeSet.Extended at header front before)
    → known_then ≡ learned_of before front found.decoded known → faults_then ≡ faults ++ header_faults legacies known at frames before header front found.decoded
    → shown ≡ map Shown (option_to_list found.decoded) → count ≡ count_behind rest → length front ≡ count → back ≡ drop count rest
    → told_on legacies frames before known faults header rest (mode_at legacies mode header (behind rest)) (behind rest) (told_at legacies mode header (behind rest) before)
    ≡ shown ++ linted legacies found.mode frames (before + length front) known_then faults_then 0 back
headed_on legacies mode frames before known faults header rest front back count at found known_then faults_then shown front_is at_is found_is known_is faults_is shown_is count_is long back_is =
    let more = learned_of before front found.decoded known in
    let all = faults ++ header_faults legacies known at frames before header front found.decoded in
    ap (λ front. told_on legacies frames before known faults header rest (mode_at legacies mode header front) front (told_at legacies mode header front before)) (sym front_is)
    ∙ ap (λ at. told_on legacies frames before known faults header rest at front (settled (told CodeSet.Extended at header front before))) (sym at_is)
    ∙ ap (λ found. told_on legacies frames before known faults header rest at front found) (sym found_is)
    ∙ ap (λ lines. map Shown (option_to_list found.decoded) ++ lines) (after_behind legacies found.mode frames before more all count rest front back count_is long back_is)
    ∙ ap (λ known. map Shown (option_to_list found.decoded) ++ linted legacies found.mode frames (before + length front) known all 0 back) (sym known_is)
    ∙ ap (λ faults. map Shown (option_to_list found.decoded) ++ linted legacies found.mode frames (before + length front) known_then faults 0 back) (sym faults_is)
    ∙ ap (λ shown. shown ++ linted legacies found.mode frames (before + length front) known_then faults_then 0 back) (sym shown_is)

-- faults that are told together have the lines of a report
pub faults_told : (trace : List Symbol) (marks : List FrameMark) (faults : List LintFault) → lint_text trace marks (map Faulty faults) ≡ faults_text trace faults
faults_told trace marks [] = refl
faults_told trace marks (fault ∷ rest) = ap (λ lines. fault_line trace fault ++ lines) (faults_told trace marks rest)
