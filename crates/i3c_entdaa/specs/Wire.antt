-- What a round puts on the wire.
use Rattle.std.specs.Prelude.{◌≡◌, ℕ, true, false, List, [], ◌∷◌}
use Rattle.i3c_word.specs.Parity.{IsAddressByte}
use Rattle.i3c_frame.specs.declared.symbols.Symbol.{Symbol}
use Rattle.i3c_frame.specs.declared.symbols.Symbol.TheVariants.{Repeated, Header, AddressByte}
use Rattle.i3c_entdaa.specs.declared.outcome.Round.{Round}

-- a round: a repeated START and the header that reads; where somebody acknowledged it the identity as it was read, and the address byte
abbrev pub IsRoundWire : Round → List Symbol → Type 0
IsRoundWire Round.NoAddress wire = wire ≡ []
IsRoundWire Round.Done wire = wire ≡ Repeated ∷ Header 0x7E true false ∷ []
IsRoundWire (Round.Nobody bits a) wire =
    (byte : ℕ) × IsAddressByte a byte × (wire ≡ Repeated ∷ Header 0x7E true true ∷ Symbol.Identity bits ∷ AddressByte byte false ∷ [])
IsRoundWire (Round.Assigned bits a i) wire =
    (byte : ℕ) × IsAddressByte a byte × (wire ≡ Repeated ∷ Header 0x7E true true ∷ Symbol.Identity bits ∷ AddressByte byte true ∷ [])
