-- Symbols are read back from their marks.
use Rattle.std.proofs.Common.{◌≡◌, ◌∙◌, ℕ, zero, suc, ◌+◌, ◌*◌, ◌/◌, ◌%◌, ◌<◌, ◌^◌, ◌==◌, Bool, true, false, not, List, [], ◌∷◌, ◌++◌, Option, Some, None, append_assoc, flat_map, map, arith, ap, refl, sym, subst}
use Rattle.i3c_base.specs.declared.addresses.Addresses.{Addresses}
use Rattle.i3c_frame.specs.declared.symbols.Symbol.{Symbol}
use Rattle.i3c_frame.specs.Texts.{IsInRange}
use Rattle.i3c_word.specs.Parity.{bit_of}
use Rattle.i3c_wave.specs.declared.awaited.Awaited.{Awaited}
use Rattle.i3c_wave.specs.declared.edges.Mark.{Mark}
use Rattle.i3c_wave.specs.declared.reader.Reader.{Reader}
use Rattle.i3c_wave.specs.declared.reader.Reading.{Reading}
use Rattle.i3c_wave.specs.Awaited.{IsWireFrom, bits_in, goes_on, next_awaited, next_place, open_place, symbol_in}
use Rattle.i3c_wave.specs.Edges.{AreFrames, free_lines, marks_heard, marks_of}
use Rattle.i3c_wave.specs.Levels.{bits, bits_of, wire_levels}
use Rattle.i3c_wave.specs.Reading.{Turn, awaiting, entered, entered_at, framed, read_from, told}
use Rattle.i3c_wave.proofs.BitLaws.{bit_small, bits_snoc, half_is, last_is, no_bits, not_last_is, one_bit}
use Rattle.i3c_wave.proofs.EdgeLaws.{frames_heard}

-- a reader within a symbol
abbrev within : Addresses → Option Awaited → ℕ → ℕ → Reader
within legacies place number left = record { legacies = legacies; place = place; number = number; left = left }

-- what a turn tells, and what is read behind it
abbrev behind : List Mark → Turn → List Reading
behind rest t = told t.reading ++ read_from t.reader rest

-- a whole symbol that is allowed there is told
entered_is : (reader : Reader) (symbol : Symbol) (next : Option Awaited) (rest : List Mark) → next_place reader.legacies.0 reader.place symbol ≡ Some next
    → behind rest (entered reader symbol) ≡ Reading.Symbol symbol ∷ read_from (awaiting reader.legacies next) rest
entered_is reader symbol next rest e = ap (λ place. behind rest (entered_at reader symbol place)) e

-- the bits of a number, from one on
bits_read : (legacies : Addresses) (place : Option Awaited) (n k : ℕ) (next : Option Awaited) (rest : List Mark) → n < 18446744073709551616
    → next_place legacies.0 place (symbol_in place n) ≡ Some next
    → read_from (within legacies place (n / 2 ^ suc k) (suc k)) (map Mark.Bit (bits (suc k) n) ++ rest) ≡ Reading.Symbol (symbol_in place n) ∷ read_from (awaiting legacies next) rest
unfolding bits
bits_read legacies place n zero next rest small e =
    let all : n / 2 ^ 0 ≡ n = omega arith in
    ap (λ m. behind rest (entered (within legacies place (n / 2 ^ suc zero) (suc zero)) (symbol_in place m))) (one_bit n zero small ∙ all)
    ∙ entered_is (within legacies place (n / 2 ^ suc zero) (suc zero)) (symbol_in place n) next rest e
bits_read legacies place n (suc k) next rest small e =
    ap (λ m. read_from (within legacies place m (suc k)) (map Mark.Bit (bits (suc k) n) ++ rest)) (one_bit n (suc k) small)
    ∙ bits_read legacies place n k next rest small e

-- a symbol of bits
symbol_read : (legacies : Addresses) (place : Option Awaited) (k n : ℕ) (bs : List Bool) (symbol : Symbol) (next : Option Awaited) (rest : List Mark)
    → bits_in place ≡ suc k → n < 2 ^ suc k → n < 18446744073709551616 → bits (suc k) n ≡ bs → symbol_in place n ≡ symbol → next_place legacies.0 place symbol ≡ Some next
    → read_from (awaiting legacies place) (map Mark.Bit bs ++ rest) ≡ Reading.Symbol symbol ∷ read_from (awaiting legacies next) rest
symbol_read legacies place k n bs symbol next rest many fits small same is e =
    ap (λ bs. read_from (awaiting legacies place) (map Mark.Bit bs ++ rest)) (sym same)
    ∙ ap (λ left. read_from (within legacies place 0 left) (map Mark.Bit (bits (suc k) n) ++ rest)) many
    ∙ ap (λ number. read_from (within legacies place number (suc k)) (map Mark.Bit (bits (suc k) n) ++ rest)) (no_bits n (suc k) fits)
    ∙ bits_read legacies place n k next rest small (ap (next_place legacies.0 place) is ∙ e)
    ∙ ap (λ symbol. Reading.Symbol symbol ∷ read_from (awaiting legacies next) rest) is

-- a STOP or a repeated START, inside a frame
framed_is : (legacies : Addresses) (awaited : Awaited) (symbol : Symbol) → framed (awaiting legacies (Some awaited)) symbol ≡ entered (awaiting legacies (Some awaited)) symbol
framed_is legacies Awaited.Identity symbol = refl
framed_is legacies awaited symbol = refl

frame_read : (legacies : Addresses) (awaited : Awaited) (symbol : Symbol) (next : Option Awaited) (rest : List Mark) → next_place legacies.0 (Some awaited) symbol ≡ Some next
    → behind rest (framed (awaiting legacies (Some awaited)) symbol) ≡ Reading.Symbol symbol ∷ read_from (awaiting legacies next) rest
frame_read legacies awaited symbol next rest e =
    ap (behind rest) (framed_is legacies awaited symbol) ∙ entered_is (awaiting legacies (Some awaited)) symbol next rest e

-- the bits of a header
header_bits : (address : ℕ) (read ack : Bool) → bits 9 (2 * (2 * address + bit_of read) + bit_of (not ack)) ≡ bits 7 address ++ (read ∷ not ack ∷ [])
header_bits address read ack =
    bits_snoc 8 (2 * address + bit_of read) (not ack) ∙ ap (λ bs. bs ++ not ack ∷ []) (bits_snoc 7 address read) ∙ append_assoc (bits 7 address) (read ∷ []) (not ack ∷ [])

header_is : (address : ℕ) (read ack assigning : Bool) → address < 128
    → symbol_in (Some (Awaited.Header assigning)) (2 * (2 * address + bit_of read) + bit_of (not ack)) ≡ Symbol.Header address read ack
header_is address read ack assigning small =
    let n = 2 * (2 * address + bit_of read) + bit_of (not ack) in
    let half : n / 2 ≡ 2 * address + bit_of read = half_is (2 * address + bit_of read) (not ack) in
    let quarter : n / 4 % 128 ≡ address = omega (arith, half, half_is address read) in
    let second : (n / 2 % 2 == 1) ≡ read = ap (λ m. m % 2 == 1) half ∙ last_is address read in
    let last : (n % 2 == 0) ≡ ack = not_last_is (2 * address + bit_of read) ack in
    ap (λ a. Symbol.Header a (n / 2 % 2 == 1) (n % 2 == 0)) quarter ∙ ap (λ r. Symbol.Header address r (n % 2 == 0)) second ∙ ap (λ k. Symbol.Header address read k) last

byte_is : (byte : ℕ) (b : Bool) → byte < 256 → (2 * byte + bit_of b) / 2 % 256 ≡ byte
byte_is byte b small = omega (arith, half_is byte b)

nine : (byte : ℕ) (b : Bool) → byte < 256 → 2 * byte + bit_of b < 512
nine byte b small = omega (arith, bit_small b)

-- one symbol
one_read : (legacies : Addresses) (place : Option Awaited) (symbol : Symbol) (next : Option Awaited) (rest : List Mark) → next_place legacies.0 place symbol ≡ Some next → IsInRange symbol
    → read_from (awaiting legacies place) (marks_of symbol ++ rest) ≡ Reading.Symbol symbol ∷ read_from (awaiting legacies next) rest
one_read legacies None Symbol.Start next rest e range = entered_is (awaiting legacies None) Symbol.Start next rest e
one_read legacies None symbol next rest e range = cc
one_read legacies (Some awaited) Symbol.Start next rest e range = cc
one_read legacies (Some awaited) Symbol.Repeated next rest e range = frame_read legacies awaited Symbol.Repeated next rest e
one_read legacies (Some awaited) Symbol.Stop next rest e range = frame_read legacies awaited Symbol.Stop next rest e
one_read legacies (Some (Awaited.Header assigning)) (Symbol.Header address read ack) next rest e range =
    let n = 2 * (2 * address + bit_of read) + bit_of (not ack) in
    let fits : n < 512 = omega (arith, range, bit_small read, bit_small (not ack)) in
    symbol_read legacies (Some (Awaited.Header assigning)) 8 n (bits_of (Symbol.Header address read ack)) (Symbol.Header address read ack) next rest refl fits (omega (arith, fits)) (header_bits address read ack) (header_is address read ack assigning range) e
one_read legacies (Some Awaited.Code) (Symbol.Word word) next rest e range =
    let fits = nine word.byte word.t range in
    symbol_read legacies (Some Awaited.Code) 8 (2 * word.byte + bit_of word.t) (bits_of (Symbol.Word word)) (Symbol.Word word) next rest refl fits (omega (arith, fits)) (bits_snoc 8 word.byte word.t)
    (ap (λ b. Symbol.Word (record { byte = b; t = (2 * word.byte + bit_of word.t) % 2 == 1 })) (byte_is word.byte word.t range) ∙ ap (λ t. Symbol.Word (record { byte = word.byte; t = t })) (last_is word.byte word.t)) e
one_read legacies (Some (Awaited.Word assigning)) (Symbol.Word word) next rest e range =
    let fits = nine word.byte word.t range in
    symbol_read legacies (Some (Awaited.Word assigning)) 8 (2 * word.byte + bit_of word.t) (bits_of (Symbol.Word word)) (Symbol.Word word) next rest refl fits (omega (arith, fits)) (bits_snoc 8 word.byte word.t)
    (ap (λ b. Symbol.Word (record { byte = b; t = (2 * word.byte + bit_of word.t) % 2 == 1 })) (byte_is word.byte word.t range) ∙ ap (λ t. Symbol.Word (record { byte = word.byte; t = t })) (last_is word.byte word.t)) e
one_read legacies (Some (Awaited.LegacyWord assigning)) (Symbol.LegacyWord byte ack) next rest e range =
    let fits = nine byte (not ack) range in
    symbol_read legacies (Some (Awaited.LegacyWord assigning)) 8 (2 * byte + bit_of (not ack)) (bits_of (Symbol.LegacyWord byte ack)) (Symbol.LegacyWord byte ack) next rest refl fits (omega (arith, fits)) (bits_snoc 8 byte (not ack))
    (ap (λ b. Symbol.LegacyWord b ((2 * byte + bit_of (not ack)) % 2 == 0)) (byte_is byte (not ack) range) ∙ ap (Symbol.LegacyWord byte) (not_last_is byte ack)) e
one_read legacies (Some Awaited.AddressByte) (Symbol.AddressByte byte ack) next rest e range =
    let fits = nine byte (not ack) range in
    symbol_read legacies (Some Awaited.AddressByte) 8 (2 * byte + bit_of (not ack)) (bits_of (Symbol.AddressByte byte ack)) (Symbol.AddressByte byte ack) next rest refl fits (omega (arith, fits)) (bits_snoc 8 byte (not ack))
    (ap (λ b. Symbol.AddressByte b ((2 * byte + bit_of (not ack)) % 2 == 0)) (byte_is byte (not ack) range) ∙ ap (Symbol.AddressByte byte) (not_last_is byte ack)) e
one_read legacies (Some Awaited.Identity) (Symbol.Identity number) next rest e range =
    symbol_read legacies (Some Awaited.Identity) 63 number (bits_of (Symbol.Identity number)) (Symbol.Identity number) next rest refl range range refl refl e
one_read legacies (Some awaited) symbol next rest e range = cc

-- symbols are read one after another
wire_read : (legacies : Addresses) (place : Option Awaited) (symbols : List Symbol) → IsWireFrom legacies.0 place symbols → read_from (awaiting legacies place) (flat_map marks_of symbols) ≡ map Reading.Symbol symbols
wire_read legacies place [] wire = refl
wire_read legacies place (symbol ∷ rest) wire =
    one_read legacies place symbol wire.0 (flat_map marks_of rest) wire.1 wire.2 ∙ ap (λ more. Reading.Symbol symbol ∷ more) (wire_read legacies wire.0 rest wire.3)

-- a frame is open
abbrev is_open : Option Awaited → Bool
is_open None = false
is_open (Some awaited) = true

open_on : (next : Option Awaited) (symbols : List Symbol) (awaited : Option Awaited) → goes_on awaited ≡ Some next → AreFrames (is_open next) symbols → AreFrames true symbols
open_on next symbols None e framed = cc
open_on next symbols (Some awaited) e framed = let same : next ≡ Some awaited = cc in subst (λ next. AreFrames (is_open next) symbols) same framed

open_at : (next to : Option Awaited) (symbols : List Symbol) (awaited : Awaited) → open_place awaited to ≡ Some next → AreFrames (is_open next) symbols → AreFrames (is_open to) symbols
open_at next to symbols (Awaited.Header assigning) e framed = cc
open_at next to symbols awaited e framed = let same : next ≡ to = cc in subst (λ next. AreFrames (is_open next) symbols) same framed

-- a wire is frames
wire_frames : (legacies : ℕ) (place : Option Awaited) (symbols : List Symbol) → IsWireFrom legacies place symbols → AreFrames (is_open place) symbols
wire_frames legacies None [] wire = tt
wire_frames legacies (Some awaited) [] wire = cc
wire_frames legacies None (Symbol.Start ∷ rest) wire =
    let same : wire.0 ≡ Some (Awaited.Header false) = cc in subst (λ next. AreFrames (is_open next) rest) same (wire_frames legacies wire.0 rest wire.3)
wire_frames legacies None (symbol ∷ rest) wire = let e = wire.1 in cc
wire_frames legacies (Some awaited) (Symbol.Start ∷ rest) wire = let e = wire.1 in cc
wire_frames legacies (Some awaited) (Symbol.Stop ∷ rest) wire = open_at wire.0 None rest awaited wire.1 (wire_frames legacies wire.0 rest wire.3)
wire_frames legacies (Some awaited) (Symbol.Repeated ∷ rest) wire = open_at wire.0 (Some _) rest awaited wire.1 (wire_frames legacies wire.0 rest wire.3)
wire_frames legacies (Some awaited) (symbol ∷ rest) wire = open_on wire.0 rest (next_awaited legacies awaited symbol) wire.1 (wire_frames legacies wire.0 rest wire.3)

pub read_back : (legacies : Addresses) (symbols : List Symbol) → IsWireFrom legacies.0 None symbols → read_from (awaiting legacies None) (marks_heard free_lines (wire_levels symbols)) ≡ map Reading.Symbol symbols
read_back legacies symbols wire =
    ap (read_from (awaiting legacies None)) (frames_heard symbols (wire_frames legacies.0 None symbols wire)) ∙ wire_read legacies None symbols wire
