-- The first bytes of a text.
use Rattle.std.specs.Prelude.{◌≡◌, List, ℕ, ◌∷◌}
use Rattle.i3c_frame.specs.declared.firsts.First.{First}
use Rattle.i3c_frame.specs.declared.symbols.Symbol.{Symbol}
use Rattle.i3c_frame.specs.Parts.{parts}
use Rattle.i3c_frame.specs.Texts.{IsInRange, text_of}
use Rattle.i3c_frame.specs.Traces.{IsNoSymbol}

-- the first part of a text is that of a symbol, and the other parts are those of the rest
abbrev pub BeginsWith : List ℕ → Symbol → List ℕ → Type 0
BeginsWith text symbol rest = IsInRange symbol × (parts text ≡ text_of symbol ∷ parts rest)

-- a text with a part: it is a symbol's, or that of none
abbrev pub IsFirst : List ℕ → First → Type 0
IsFirst text (First.Symbol symbol rest) = BeginsWith text symbol rest.now
IsFirst text First.Other = (part : List ℕ) × (others : List (List ℕ)) × (parts text ≡ part ∷ others) × IsNoSymbol part
