-- SDA where SCL rises in the levels of many symbols.
use Rattle.std.proofs.Common.{◌≡◌, ◌∙◌, ℕ, suc, ◌+◌, Bool, true, false, not, List, [], ◌∷◌, ◌++◌, Some, append_assoc, flat_map, arith, ap, refl}
use Rattle.std.specs.List.{slice_get}
use Rattle.i3c_frame.specs.declared.symbols.Symbol.{Symbol}
use Rattle.i3c_frame.specs.declared.symbols.Symbol.TheVariants.{Start, Repeated, Stop, Header}
use Rattle.i3c_wave.specs.declared.levels.Level.{Level}
use Rattle.i3c_wave.specs.Clocks.{AreOfFrames, at_bit, clocked_in, edges_of, stays_high}
use Rattle.i3c_wave.specs.Laws.{at_rising_edges}
use Rattle.i3c_wave.specs.Levels.{bits, bits_of, clocked, high, wire_levels}
use Rattle.i3c_wave.proofs.LevelLaws.{behind_at}

-- each bit has a rising edge
clocked_risen : (bs : List Bool) (sda : Bool) (rest : List Level) (more : List Bool) → ((sda : Bool) → at_rising_edges (high sda) rest ≡ more)
    → at_rising_edges (high sda) (clocked bs ++ rest) ≡ bs ++ more
clocked_risen [] sda rest more then = then sda
clocked_risen (b ∷ bs) sda rest more then = ap (λ edges. b ∷ edges) (clocked_risen bs b rest more then)

pub wire_risen : (sda : Bool) (symbols : List Symbol) → at_rising_edges (high sda) (wire_levels symbols) ≡ flat_map edges_of symbols
wire_risen sda [] = refl
wire_risen sda (Start ∷ rest) = wire_risen false rest
wire_risen sda (Repeated ∷ rest) = ap (λ edges. true ∷ edges) (wire_risen false rest)
wire_risen sda (Stop ∷ rest) = ap (λ edges. false ∷ edges) (wire_risen true rest)
wire_risen sda (symbol ∷ rest) = clocked_risen (bits_of symbol) sda (wire_levels rest) (flat_map edges_of rest) (λ s. wire_risen s rest)

-- SCL falls behind a bit
clocked_low : (bs : List Bool) (rest : List Level) → stays_high rest ≡ false → stays_high (clocked bs ++ rest) ≡ false
clocked_low [] rest low = low
clocked_low (b ∷ bs) rest low = refl

goes_low : (symbols : List Symbol) → AreOfFrames true symbols → stays_high (wire_levels symbols) ≡ false
goes_low [] framed = refl
goes_low (Start ∷ rest) framed = absurd framed
goes_low (Repeated ∷ rest) framed = refl
goes_low (Stop ∷ rest) framed = refl
goes_low (symbol ∷ rest) framed = clocked_low (bits_of symbol) (wire_levels rest) (goes_low rest framed)

-- bits before levels with SCL low
clocked_bits : (bs : List Bool) (sda : Bool) (rest : List Level) (more : List Bool) → stays_high rest ≡ false → ((sda : Bool) → clocked_in (high sda) rest ≡ more)
    → clocked_in (high sda) (clocked bs ++ rest) ≡ bs ++ more
clocked_bits [] sda rest more low then = then sda
clocked_bits (b ∷ bs) sda rest more low then =
    let falls : stays_high (clocked bs ++ rest) ≡ false = clocked_low bs rest low in
    rw falls (ap (λ edges. b ∷ edges) (clocked_bits bs b rest more low then))

pub frames_clocked : (inside sda : Bool) (symbols : List Symbol) → AreOfFrames inside symbols → clocked_in (high sda) (wire_levels symbols) ≡ flat_map bits_of symbols
frames_clocked inside sda [] framed = refl
frames_clocked false sda (Start ∷ rest) framed = frames_clocked true false rest framed
frames_clocked false sda (symbol ∷ rest) framed = absurd framed
frames_clocked true sda (Start ∷ rest) framed = absurd framed
frames_clocked true sda (Repeated ∷ rest) framed = frames_clocked true false rest framed
frames_clocked true sda (Stop ∷ rest) framed = frames_clocked false true rest framed
frames_clocked true sda (symbol ∷ rest) framed =
    clocked_bits (bits_of symbol) sda (wire_levels rest) (flat_map bits_of rest) (goes_low rest framed) (λ s. frames_clocked true s rest framed)

-- the bit with this number, behind the seven address bits of a header
behind_address : (inside sda : Bool) (first : Symbol) (address : ℕ) (read ack : Bool) (rest : List Symbol) (number k : ℕ)
    → bits_of first ≡ [] → AreOfFrames inside (first ∷ Header address read ack ∷ rest) → 8 + number ≡ 7 + k
    → at_bit (high sda) (wire_levels (first ∷ Header address read ack ∷ rest)) number ≡ slice_get (read ∷ not ack ∷ flat_map bits_of rest) k
behind_address inside sda first address read ack rest number k none framed e =
    ap (λ bs. slice_get bs (8 + number)) (frames_clocked inside sda (first ∷ Header address read ack ∷ rest) framed)
    ∙ ap (λ bs. slice_get (bs ++ flat_map bits_of (Header address read ack ∷ rest)) (8 + number)) none
    ∙ ap (λ bs. slice_get bs (8 + number)) (append_assoc (bits 7 address) (read ∷ not ack ∷ []) (flat_map bits_of rest))
    ∙ behind_at 7 address (read ∷ not ack ∷ flat_map bits_of rest) (8 + number) k e

pub answer_first : (inside sda : Bool) (first : Symbol) (address : ℕ) (read ack : Bool) (rest : List Symbol)
    → bits_of first ≡ [] → AreOfFrames inside (first ∷ Header address read ack ∷ rest) → at_bit (high sda) (wire_levels (first ∷ Header address read ack ∷ rest)) 0 ≡ Some (not ack)
answer_first inside sda first address read ack rest none framed = behind_address inside sda first address read ack rest 0 1 none framed (omega arith)

pub numbered_on : (inside sda : Bool) (first : Symbol) (address : ℕ) (read ack : Bool) (rest : List Symbol)
    → bits_of first ≡ [] → AreOfFrames inside (first ∷ Header address read ack ∷ rest)
    → (number : ℕ) → at_bit (high sda) (wire_levels (first ∷ Header address read ack ∷ rest)) (1 + number) ≡ slice_get (flat_map bits_of rest) number
numbered_on inside sda first address read ack rest none framed number =
    behind_address inside sda first address read ack rest (1 + number) (suc (suc number)) none framed (omega arith)
