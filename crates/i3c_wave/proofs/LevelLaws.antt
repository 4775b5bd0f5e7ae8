-- Levels and bits by their numbers.
use Rattle.std.proofs.Common.{◌≡◌, ◌∙◌, ℕ, zero, suc, ◌+◌, ◌-◌, ◌/◌, ◌%◌, ◌<◌, ◌≤◌, ◌==◌, Bool, List, [], ◌∷◌, ◌++◌, drop, Option, Some, None, arith, refl, ap, sym, length, eq-zero-or-pos, inl, inr}
use Rattle.std.specs.Int.{bit_at}
use Rattle.std.specs.List.{slice_get}
use Rattle.i3c_frame.specs.declared.symbols.Symbol.{Symbol}
use Rattle.i3c_frame.specs.declared.symbols.Symbol.TheVariants.{Start, Repeated, Stop, Header, Word, Identity, AddressByte, LegacyWord}
use Rattle.i3c_wave.specs.declared.levels.Level.{Level}
use Rattle.i3c_wave.specs.Laws.{HasBits, at_rising_edges}
use Rattle.i3c_wave.specs.Levels.{bits, bits_of, clocked, high, levels_of}

-- a level of SDA at a bit, if there is one
abbrev pub level_with : Bool → Option Bool → Option Level
level_with scl None = None
level_with scl (Some bit) = Some (record { scl = scl; sda = bit })

-- the levels of bits by their number
pub clocked_at : (bs : List Bool) (i : ℕ) → slice_get (clocked bs) i ≡ level_with (i % 2 == 1) (slice_get bs (i / 2))
clocked_at [] i = refl
clocked_at (b ∷ bs) zero = refl
clocked_at (b ∷ bs) (suc zero) = refl
clocked_at (b ∷ bs) (suc (suc k)) =
    let odd : suc (suc k) % 2 ≡ k % 2 = omega arith in
    let half : suc (suc k) / 2 ≡ suc (k / 2) = omega arith in
    rw (odd, half) (clocked_at bs k)

-- the bits of a number by theirs
pub bits_at : (count number i : ℕ) → i < count → slice_get (bits count number) i ≡ Some (bit_at number (count - 1 - i) == 1)
unfolding bits
bits_at zero number i within = absurd (omega arith)
bits_at (suc count) number zero within = let last : suc count - 1 - 0 ≡ count = omega arith in rw last
bits_at (suc count) number (suc i) within =
    let fewer : suc count - 1 - suc i ≡ count - 1 - i = omega arith in
    rw fewer (bits_at count number i (omega arith))

pub bits_past : (count number i : ℕ) → count ≤ i → slice_get (bits count number) i ≡ None
unfolding bits
bits_past zero number i past = refl
bits_past (suc count) number zero past = absurd (omega arith)
bits_past (suc count) number (suc i) past = bits_past count number i (omega arith)

-- a bit of a number with other bits behind the number
pub bits_before : (count number : ℕ) (rest : List Bool) (i : ℕ) → i < count → slice_get (bits count number ++ rest) i ≡ slice_get (bits count number) i
unfolding bits
bits_before zero number rest i within = absurd (omega arith)
bits_before (suc count) number rest zero within = refl
bits_before (suc count) number rest (suc i) within = bits_before count number rest i (omega arith)

pub bits_behind : (count number : ℕ) (rest : List Bool) (i : ℕ) → count ≤ i → slice_get (bits count number ++ rest) i ≡ slice_get rest (i - count)
unfolding bits
bits_behind zero number rest i past = let same : i - 0 ≡ i = omega arith in rw same
bits_behind (suc count) number rest zero past = absurd (omega arith)
bits_behind (suc count) number rest (suc i) past =
    let same : suc i - suc count ≡ i - count = omega arith in
    rw same (bits_behind count number rest i (omega arith))

pub behind_at : (count number : ℕ) (rest : List Bool) (i k : ℕ) → i ≡ count + k → slice_get (bits count number ++ rest) i ≡ slice_get rest k
behind_at count number rest i k e = let same : i - count ≡ k = omega arith in bits_behind count number rest i (omega arith) ∙ ap (slice_get rest) same

get_past : (rest : List Bool) (i : ℕ) → length rest ≤ i → slice_get rest i ≡ None
get_past [] i past = refl
get_past (b ∷ rest) zero past = absurd (omega arith)
get_past (b ∷ rest) (suc i) past = get_past rest i (omega arith)

-- a place that nothing behind the bits has
pub bits_alone : (count number : ℕ) (rest : List Bool) (i : ℕ) → (count ≤ i → count + length rest ≤ i) → slice_get (bits count number ++ rest) i ≡ slice_get (bits count number) i
bits_alone count number rest i apart =
    elim (eq-zero-or-pos (count - i)) [
      | inl z ↦
          let past : count ≤ i = omega arith in
          let far : count + length rest ≤ i = apart past in
          bits_behind count number rest i past ∙ get_past rest (i - count) (omega arith) ∙ sym (bits_past count number i past)
      | inr g ↦ bits_before count number rest i (omega arith)
    ]

-- a level by its number, from its bit
pub level_some : (bs : List Bool) (i : ℕ) (bit : Bool) → slice_get bs (i / 2) ≡ Some bit → slice_get (clocked bs) i ≡ Some (record { scl = i % 2 == 1; sda = bit })
level_some bs i bit e = clocked_at bs i ∙ ap (level_with (i % 2 == 1)) e

pub level_none : (bs : List Bool) (i : ℕ) → slice_get bs (i / 2) ≡ None → slice_get (clocked bs) i ≡ None
level_none bs i e = clocked_at bs i ∙ ap (level_with (i % 2 == 1)) e

-- an element by its number begins what is left from there
pub left_some : (ls : List Level) (i : ℕ) (level : Level) → slice_get ls i ≡ Some level → drop i ls ≡ level ∷ drop (i + 1) ls
left_some [] i level e = cc
left_some (x ∷ xs) zero level e = let same : x ≡ level = cc in ap (λ y. y ∷ xs) same
left_some (x ∷ xs) (suc i) level e = let more : suc i + 1 ≡ suc (i + 1) = omega arith in rw more (left_some xs i level e)

pub left_none : (ls : List Level) (i : ℕ) → slice_get ls i ≡ None → drop i ls ≡ []
left_none [] zero e = refl
left_none [] (suc i) e = refl
left_none (x ∷ xs) zero e = cc
left_none (x ∷ xs) (suc i) e = left_none xs i e

-- SDA where SCL rises
pub clocked_edges : (before : Level) (bs : List Bool) → at_rising_edges before (clocked bs) ≡ bs
clocked_edges before [] = refl
clocked_edges before (b ∷ bs) = ap (λ rest. b ∷ rest) (clocked_edges (high b) bs)

pub symbol_edges : (before : Level) (symbol : Symbol) → HasBits symbol → at_rising_edges before (levels_of symbol) ≡ bits_of symbol
symbol_edges before Start has = absurd has
symbol_edges before Repeated has = absurd has
symbol_edges before Stop has = absurd has
symbol_edges before (Header address read ack) has = clocked_edges before _
symbol_edges before (Word word) has = clocked_edges before _
symbol_edges before (Identity number) has = clocked_edges before _
symbol_edges before (AddressByte byte ack) has = clocked_edges before _
symbol_edges before (LegacyWord byte ack) has = clocked_edges before _
