-- What taps are told.
use Rattle.std.specs.Prelude.{List}
use Rattle.std.specs.List.{FoldsTo}
use Rattle.i3c_frame.specs.declared.symbols.Symbol.{Symbol}

-- the symbols, noted one after another, lead from one tap to the other
abbrev pub NotesAll : {T : Type 0} → (T → Symbol → T → Type 0) → T → List Symbol → T → Type 0
NotesAll gives old symbols new = FoldsTo gives old symbols new

-- between the two states the tap was told, in order, the symbols of a wire with this property
abbrev pub Tells : {T : Type 0} → (T → Symbol → T → Type 0) → T → T → (List Symbol → Type 0) → Type 0
Tells gives old new Is = (wire : List Symbol) × NotesAll gives old wire new × Is wire
