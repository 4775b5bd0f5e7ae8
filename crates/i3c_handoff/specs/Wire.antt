-- What GETACCCR puts on the wire.
use Rattle.std.specs.Prelude.{◌≡◌, ℕ, Bool, true, false, List, [], ◌∷◌}
use Rattle.i3c_word.specs.declared.Word.{Word}
use Rattle.i3c_word.specs.Parity.{HasOddParity, IsAddressByte}
use Rattle.i3c_frame.specs.declared.symbols.Symbol.{Symbol}
use Rattle.i3c_frame.specs.declared.symbols.Symbol.TheVariants.{Repeated, Stop, Header}
use Rattle.i3c_handoff.specs.declared.outcome.Offer.{Offer}
use Rattle.i3c_handoff.specs.declared.outcome.Offer.TheVariants.{Nobody, Torn, Taken}

-- the word of the code, 91 with odd parity
abbrev pub IsCodeWord : Word → Type 0
IsCodeWord code = (code.byte ≡ 0x91) × HasOddParity code

-- an offer whose header is acknowledged: the code, the header, and the target's byte with the T that was read
abbrev pub IsAnsweredWire : ℕ → ℕ → Bool → List Symbol → Type 0
IsAnsweredWire to byte t wire =
    (code : Word) × IsCodeWord code × (wire ≡ Symbol.Word code ∷ Repeated ∷ Header to true true ∷ Symbol.Word (record { byte = byte; t = t }) ∷ Stop ∷ [])

-- an offer: after a NACK nothing follows, a byte that broke off has T 1, and the taker's is its address byte, with T 0
abbrev pub IsOfferWire : ℕ → Offer → List Symbol → Type 0
IsOfferWire to Nobody wire = (code : Word) × IsCodeWord code × (wire ≡ Symbol.Word code ∷ Repeated ∷ Header to true false ∷ Stop ∷ [])
IsOfferWire to (Torn byte) wire = IsAnsweredWire to byte true wire
IsOfferWire to (Taken s) wire = (byte : ℕ) × IsAddressByte to byte × IsAnsweredWire to byte false wire
