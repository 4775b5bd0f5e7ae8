-- What is told as a monitor goes on.
use Rattle.std.proofs.Common.{◌≡◌, ◌≤◌, ◌∙◌, ℕ, zero, suc, ◌+◌, List, [], ◌∷◌, ◌++◌, length, drop, Option, Some, None, Result, Ok, Err, IfOk, unwrap_or, position, ap, sym, subst, arith}
use Rattle.std.proofs.lemmas.Grind.{common_steps}
use Rattle.std.proofs.lemmas.List.Sums.{prefix_len-le-length}
use Rattle.std.specs.Option.{option_to_list}
use Rattle.i3c_ccc.specs.declared.codes.CodeSet.{CodeSet}
use Rattle.i3c_frame.specs.declared.symbols.Symbol.{Symbol}
use Rattle.i3c_monitor.specs.declared.header.Header.{Header}
use Rattle.i3c_monitor.specs.declared.header.Mode.{Mode}
use Rattle.i3c_monitor.specs.declared.header.Told.{Told}
use Rattle.i3c_monitor.specs.declared.decoded.Fault.{Fault}
use Rattle.i3c_monitor.specs.declared.decoded.Decoded.{Decoded}
use Rattle.i3c_monitor.specs.Told.{told}
use Rattle.i3c_monitor.specs.Trace.{and_on, behind, count_behind, ends, header_in, rest_told}

pub behind_fits : (symbols : List Symbol) → count_behind symbols ≤ length symbols
behind_fits symbols = prefix_len-le-length _ symbols

pub or_len : (symbols : List Symbol) → unwrap_or (position ends symbols) (length symbols) ≡ count_behind symbols
or_len symbols = let h : count_behind symbols ≤ length symbols = behind_fits symbols in grind (arith, common_steps, h)

-- the symbols behind a header that was told are passed over
skipped : (codes : CodeSet) (mode : Mode) (frames before skip : ℕ) (symbols : List Symbol) → skip ≤ length symbols
    → rest_told codes mode frames before skip symbols ≡ rest_told codes mode frames (before + skip) 0 (drop skip symbols)
skipped codes mode frames before zero symbols fits = let e : before ≡ before + 0 = omega arith in ap (λ n. rest_told codes mode frames n 0 symbols) e
skipped codes mode frames before (suc skip) [] fits = absurd (omega (arith, fits))
skipped codes mode frames before (suc skip) (symbol ∷ rest) fits =
    let e : before + 1 + skip ≡ before + suc skip = omega arith in
    let less : skip ≤ length rest = omega (arith, fits) in
    skipped codes mode frames (before + 1) skip rest less ∙ ap (λ n. rest_told codes mode frames n 0 (drop skip rest)) e

pub after_behind : (codes : CodeSet) (mode : Mode) (frames before count : ℕ) (rest front back : List Symbol) → count ≡ count_behind rest
    → length front ≡ count → back ≡ drop count rest
    → rest_told codes mode frames before (count_behind rest) rest ≡ rest_told codes mode frames (before + length front) 0 back
after_behind codes mode frames before count rest front back is front_is back_is =
    skipped codes mode frames before (count_behind rest) rest (behind_fits rest)
    ∙ ap (λ n. rest_told codes mode frames (before + n) 0 (drop n rest)) (sym is)
    ∙ ap (λ rest. rest_told codes mode frames (before + count) 0 rest) (sym back_is)
    ∙ ap (λ n. rest_told codes mode frames (before + n) 0 back) (sym front_is)

-- a header that tells something, or nothing
pub goes_on : (outcome : Result Told Fault) (found : Told) (more : Mode → List Decoded) (rest : List Decoded) → outcome ≡ Ok found
    → more found.mode ≡ rest → and_on outcome more ≡ option_to_list found.decoded ++ rest
goes_on outcome found more rest is same = ap (λ outcome. and_on outcome more) is ∙ ap (λ rest. option_to_list found.decoded ++ rest) same

-- the same told of the rest
pub told_too : {E : Type 0} → (r : Result (Option Decoded) E) (a b rest : List Decoded) → IfOk r (λ decoded. b ≡ option_to_list decoded ++ rest) → a ≡ b
    → IfOk r (λ decoded. a ≡ option_to_list decoded ++ rest)
told_too (Ok decoded) a b rest tells same = same ∙ tells
told_too (Err e) a b rest tells same = tt

IsNothing : Option Header → Type 0
IsNothing None = Unit {0}
IsNothing (Some header) = ⊥

pub unheaded : {A : Type 0} (header : Header) → None ≡ Some header → A
unfolding IsNothing
unheaded header e = absurd (subst IsNothing e tt)

or_this : Option Header → Header → Header
or_this None other = other
or_this (Some header) other = header

-- what is told of a header, and then
abbrev headed : CodeSet → Mode → ℕ → ℕ → Header → List Symbol → List Decoded
headed codes mode frames before header rest =
    and_on (told codes mode header (behind rest) (before + 1)) (λ next. rest_told codes next frames (before + 1) (count_behind rest) rest)

-- what is to come where a header does
pub header_first : (codes : CodeSet) (mode : Mode) (frames before : ℕ) (symbol : Symbol) (rest : List Symbol) (header : Header) → header_in symbol ≡ Some header
    → rest_told codes mode frames before 0 (symbol ∷ rest) ≡ headed codes mode frames before header rest
unfolding or_this
header_first codes mode frames before (Symbol.Header address read ack) rest header is = ap (λ found. headed codes mode frames before (or_this found header) rest) is
header_first codes mode frames before Symbol.Start rest header is = unheaded header is
header_first codes mode frames before Symbol.Repeated rest header is = unheaded header is
header_first codes mode frames before Symbol.Stop rest header is = unheaded header is
header_first codes mode frames before (Symbol.Word word) rest header is = unheaded header is
header_first codes mode frames before (Symbol.Identity identity) rest header is = unheaded header is
header_first codes mode frames before (Symbol.AddressByte byte ack) rest header is = unheaded header is
header_first codes mode frames before (Symbol.LegacyWord byte ack) rest header is = unheaded header is
