-- What is heard of the levels of symbols.
use Rattle.std.proofs.Common.{◌≡◌, Bool, true, false, List, [], ◌∷◌, ◌++◌, Option, Some, None, flat_map, map, option_to_list, ap, refl}
use Rattle.i3c_frame.specs.declared.symbols.Symbol.{Symbol}
use Rattle.i3c_frame.specs.declared.symbols.Symbol.TheVariants.{Start, Repeated, Stop}
use Rattle.i3c_wave.specs.declared.edges.Edges.{Edges}
use Rattle.i3c_wave.specs.declared.edges.Mark.{Mark}
use Rattle.i3c_wave.specs.declared.levels.Level.{Level}
use Rattle.i3c_wave.specs.Edges.{AreFrames, bit_heard, free_lines, marks_heard, marks_of}
use Rattle.i3c_wave.specs.Levels.{bits_of, clocked, high, wire_levels}

-- a watcher of the lines, with SCL high
abbrev at_high : Bool → Option Bool → Edges
at_high sda bit = record { level = high sda; bit = bit }

-- the mark of a bit that is kept, if there is one
abbrev kept : Option Bool → List Mark
kept bit = option_to_list (bit_heard bit)

-- bits are heard behind the one that was kept, and the last is kept
clocked_heard : (bs : List Bool) (sda : Bool) (bit : Option Bool) (rest : List Level) (more : List Mark)
    → ((sda : Bool) (bit : Option Bool) → marks_heard (at_high sda bit) rest ≡ kept bit ++ more)
    → marks_heard (at_high sda bit) (clocked bs ++ rest) ≡ kept bit ++ (map Mark.Bit bs ++ more)
clocked_heard [] sda bit rest more then = then sda bit
clocked_heard (b ∷ bs) sda bit rest more then = ap (λ marks. kept bit ++ marks) (clocked_heard bs b (Some b) rest more then)

-- outside a frame the bus is free
abbrev Fits : Bool → Bool → Option Bool → Type 0
Fits false sda bit = (sda ≡ true) × (bit ≡ None)
Fits true sda bit = Unit {0}

-- the symbols of frames, from within one or from outside
pub symbols_heard : (inside : Bool) (symbols : List Symbol) (sda : Bool) (bit : Option Bool) → Fits inside sda bit → AreFrames inside symbols
    → marks_heard (at_high sda bit) (wire_levels symbols) ≡ kept bit ++ flat_map marks_of symbols
symbols_heard false [] sda bit fits framed = let none = fits.1 in rw none
symbols_heard true [] sda bit fits framed = absurd framed
symbols_heard false (Start ∷ rest) sda bit fits framed =
    let one = fits.0 in
    let none = fits.1 in
    rw (one, none) (ap (λ marks. Mark.Start ∷ marks) (symbols_heard true rest false None tt framed))
symbols_heard false (symbol ∷ rest) sda bit fits framed = absurd framed
symbols_heard true (Start ∷ rest) sda bit fits framed = absurd framed
symbols_heard true (Repeated ∷ rest) sda bit fits framed = ap (λ marks. kept bit ++ Mark.Start ∷ marks) (symbols_heard true rest false None tt framed)
symbols_heard true (Stop ∷ rest) sda bit fits framed = ap (λ marks. kept bit ++ Mark.Stop ∷ marks) (symbols_heard false rest true None (refl, refl) framed)
symbols_heard true (symbol ∷ rest) sda bit fits framed =
    clocked_heard (bits_of symbol) sda bit (wire_levels rest) (flat_map marks_of rest) (λ s b. symbols_heard true rest s b tt framed)

pub frames_heard : (symbols : List Symbol) → AreFrames false symbols → marks_heard free_lines (wire_levels symbols) ≡ flat_map marks_of symbols
frames_heard symbols framed = symbols_heard false symbols true None (refl, refl) framed
