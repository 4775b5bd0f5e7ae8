-- The whole frames of symbols.
use Rattle.std.specs.Prelude.{List, [], ◌∷◌, ◌++◌}
use Rattle.i3c_frame.specs.declared.symbols.Symbol.{Symbol}

-- the whole frames of symbols: each is from a START to the next STOP. Of a frame that is open these symbols came before; outside a frame there are none
abbrev pub frames_in : List Symbol → List Symbol → List (List Symbol)
frames_in begun [] = []
frames_in begun (Symbol.Start ∷ rest) = frames_in (Symbol.Start ∷ []) rest
frames_in [] (symbol ∷ rest) = frames_in [] rest
frames_in (first ∷ begun) (Symbol.Stop ∷ rest) = ((first ∷ begun) ++ Symbol.Stop ∷ []) ∷ frames_in [] rest
frames_in (first ∷ begun) (symbol ∷ rest) = frames_in ((first ∷ begun) ++ symbol ∷ []) rest

-- the whole frames of symbols, the oldest first. Symbols before the first START belong to none of them, and neither does a frame without its STOP
abbrev pub whole_frames : List Symbol → List (List Symbol)
whole_frames symbols = frames_in [] symbols
