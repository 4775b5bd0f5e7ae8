-- What holds of every symbol, and of every list of them.
use Rattle.std.specs.Prelude.{◌≡◌, List, map}
use Rattle.std.specs.List.{join_with_byte}
use Rattle.i3c_frame.specs.declared.symbols.Symbol.{Symbol}
use Rattle.i3c_frame.specs.Parts.{parts}
use Rattle.i3c_frame.specs.Texts.{IsInRange, text_of}

-- texts with a space between each two are the parts of the text that they make
abbrev pub PrintedIsParted : Type 0
PrintedIsParted = (symbols : List Symbol) → parts (join_with_byte 32 (map text_of symbols)) ≡ map text_of symbols

-- symbols of one text are one symbol
abbrev pub TextsDiffer : Type 0
TextsDiffer = (a b : Symbol) → IsInRange a → IsInRange b → text_of a ≡ text_of b → a ≡ b
