-- Traces: symbols as they may follow one another, and the first fault of a text that is none.
use Rattle.std.specs.Prelude.{◌≡◌, ◌⊎◌, ℕ, ◌+◌, List, [], ◌∷◌, ◌++◌, length, map, All, Option, Some, None}
use Rattle.std.specs.Option.{option_and_then}
use Rattle.i3c_frame.specs.declared.symbols.Symbol.{Symbol}
use Rattle.i3c_frame.specs.declared.symbols.Symbol.TheVariants.{Start, Repeated, Stop, Header}
use Rattle.i3c_frame.specs.declared.traces.FramePosition.{FramePosition}
use Rattle.i3c_frame.specs.declared.traces.FramePosition.TheVariants.{Outside, Opened, Inside}
use Rattle.i3c_frame.specs.declared.traces.TraceFault.{TraceFault}
use Rattle.i3c_frame.specs.declared.traces.TraceFault.TheVariants.{BadSymbol, NoStart, NoStop}
use Rattle.i3c_frame.specs.Texts.{IsInRange, text_of}

-- the place after a symbol, if the symbol is allowed there
abbrev pub after : FramePosition → Symbol → Option FramePosition
after Outside Start = Some Opened
after Outside _ = None
after Opened (Header address read ack) = Some Inside
after Opened _ = None
after Inside Start = None
after Inside Repeated = Some Opened
after Inside Stop = Some Outside
after Inside _ = Some Inside

-- the place after symbols, if each is allowed at its place
abbrev pub place_after : FramePosition → List Symbol → Option FramePosition
place_after place [] = Some place
place_after place (symbol ∷ rest) = option_and_then (λ next. place_after next rest) (after place symbol)

-- the symbols begin and end outside a frame
abbrev pub IsTrace : List Symbol → Type 0
IsTrace symbols = place_after Outside symbols ≡ Some Outside

-- the fault of a symbol that isn't allowed at a place, as the n-th
abbrev pub misplaced : FramePosition → ℕ → TraceFault
misplaced Outside n = NoStart
misplaced Opened n = BadSymbol n
misplaced Inside n = NoStop

-- the part is the text of no symbol
abbrev pub IsNoSymbol : List ℕ → Type 0
IsNoSymbol part = (symbol : Symbol) → IsInRange symbol → ¬ (text_of symbol ≡ part)

-- the part is the text of a symbol that isn't allowed at the place
abbrev pub IsMisplaced : FramePosition → List ℕ → Type 0
IsMisplaced place part = (symbol : Symbol) × IsInRange symbol × (text_of symbol ≡ part) × (after place symbol ≡ None)

-- the fault at a place where these parts follow, the first of them as the n-th
abbrev pub IsFaultAt : FramePosition → ℕ → List (List ℕ) → TraceFault → Type 0
IsFaultAt Outside n [] fault = ⊥
IsFaultAt _ n [] fault = fault ≡ NoStop
IsFaultAt place n (part ∷ rest) fault =
    (IsNoSymbol part × (fault ≡ BadSymbol n)) ⊎ (IsMisplaced place part × (fault ≡ misplaced place n))

-- the first fault of parts: allowed symbols lead to a place, and there it is
pub record IsFirstFault (parts : List (List ℕ)) (fault : TraceFault) : Type 0 where
  pub before : List Symbol
  pub rest : List (List ℕ)
  pub place : FramePosition
  pub whole : parts ≡ map text_of before ++ rest
  pub in_range : All IsInRange before
  pub leads : place_after Outside before ≡ Some place
  pub faulty : IsFaultAt place (length before + 1) rest fault
