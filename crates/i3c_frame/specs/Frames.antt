-- The whole frames of a text, and where it stops being a trace.
use Rattle.std.specs.Prelude.{◌≡◌, ◌⊎◌, ℕ, zero, suc, ◌+◌, Bool, true, false, List, [], ◌∷◌, ◌++◌, length, map, take, count_by, All, Option, Some, None, MatchOption, option_copied}
use Rattle.i3c_frame.specs.declared.frames.Break.{Break}
use Rattle.i3c_frame.specs.declared.frames.Due.{Due}
use Rattle.i3c_frame.specs.declared.frames.Frames.{Frames}
use Rattle.i3c_frame.specs.declared.frames.Prefix.{Prefix}
use Rattle.i3c_frame.specs.declared.symbols.Symbol.{Symbol}
use Rattle.i3c_frame.specs.declared.traces.FramePosition.{FramePosition}
use Rattle.i3c_frame.specs.Parts.{parts}
use Rattle.i3c_frame.specs.Texts.{IsInRange, text_of}
use Rattle.i3c_frame.specs.Traces.{IsMisplaced, IsNoSymbol, place_after}

-- the symbol expected at a place
abbrev pub due_by : FramePosition → Due
due_by FramePosition.Outside = Due.Start
due_by FramePosition.Opened = Due.Header
due_by FramePosition.Inside = Due.Stop

-- the symbol expected at a place before these parts: none at the end outside a frame
abbrev pub IsDue : FramePosition → List (List ℕ) → Due → Type 0
IsDue place [] due = due ≡ due_by place
IsDue place (part ∷ rest) due = (IsNoSymbol part × (due ≡ Due.Symbol)) ⊎ (IsMisplaced place part × (due ≡ due_by place))

-- the number of symbols up to the last STOP of the rest, where `count` came before it, the first `whole` of them up to a STOP
abbrev pub whole_from : ℕ → ℕ → List Symbol → ℕ
whole_from whole count [] = whole
whole_from whole count (Symbol.Stop ∷ rest) = whole_from (count + 1) (count + 1) rest
whole_from whole count (symbol ∷ rest) = whole_from whole (count + 1) rest

-- the whole frames of symbols
abbrev pub whole_frames : List Symbol → List Symbol
whole_frames symbols = take (whole_from 0 0 symbols) symbols

-- a symbol begins a frame
abbrev pub begins_frame : Symbol → Bool
begins_frame Symbol.Start = true
begins_frame _ = false

-- the frame at a place behind symbols, counted from 1: outside one it is the next
abbrev pub frame_at : FramePosition → List Symbol → ℕ
frame_at FramePosition.Outside symbols = count_by begins_frame symbols + 1
frame_at _ symbols = count_by begins_frame symbols

-- the symbols with which a text begins, up to a part that may not follow them
pub record IsPrefix (texts : List (List ℕ)) (prefix : Prefix) : Type 0 where
  pub whole : texts ≡ map text_of prefix.symbols.items ++ parts prefix.rest.now
  pub in_range : All IsInRange prefix.symbols.items
  pub leads : place_after FramePosition.Outside prefix.symbols.items ≡ Some prefix.place
  pub is_due : IsDue prefix.place (parts prefix.rest.now) prefix.due

-- the first of some parts
abbrev pub first_part : List (List ℕ) → Option (List ℕ)
first_part [] = None
first_part (part ∷ rest) = Some part

-- where these parts follow symbols that lead to a place, and may not
pub record IsBreak (before : List Symbol) (place : FramePosition) (rest : List (List ℕ)) (broken : Break) : Type 0 where
  pub in_frame : broken.frame ≡ frame_at place before
  pub at_symbol : broken.symbol ≡ length before + 1
  pub part : option_copied broken.part ≡ first_part rest
  pub due : IsDue place rest broken.due

-- the whole frames before the break of a text, or of one without a break all its symbols
pub record IsRead (texts : List (List ℕ)) (frames : Frames) : Type 0 where
  pub before : List Symbol
  pub rest : List (List ℕ)
  pub place : FramePosition
  pub whole : texts ≡ map text_of before ++ rest
  pub in_range : All IsInRange before
  pub leads : place_after FramePosition.Outside before ≡ Some place
  pub symbols : frames.symbols.items ≡ whole_frames before
  pub broken : MatchOption frames.broken ((place ≡ FramePosition.Outside) × (rest ≡ [])) (IsBreak before place rest)
