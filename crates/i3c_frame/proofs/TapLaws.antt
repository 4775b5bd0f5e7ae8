-- Symbols noted one after another.
use Rattle.std.proofs.Common.{refl, sym, subst, List, [], ◌∷◌, ◌++◌}
use Rattle.std.proofs.lemmas.Fn.{FoldsTo-push}
use Rattle.i3c_frame.specs.declared.symbols.Symbol.{Symbol}
use Rattle.i3c_frame.specs.Taps.{NotesAll}

-- a tap that is told nothing stays as it is
pub NotesAll-nil : {T : Type 0} (gives : T → Symbol → T → Type 0) (tap : T) → NotesAll gives tap [] tap
NotesAll-nil gives tap = refl

-- one symbol
pub NotesAll-one : {T : Type 0} (gives : T → Symbol → T → Type 0) (old : T) (symbol : Symbol) (new : T) → gives old symbol new → NotesAll gives old (symbol ∷ []) new
NotesAll-one gives old symbol new note = (new, note, refl)

-- one more at the end
pub NotesAll-push : {T : Type 0} (gives : T → Symbol → T → Type 0) (old : T) (symbols : List Symbol) (mid : T) (symbol : Symbol) (new : T)
    → NotesAll gives old symbols mid → gives mid symbol new → NotesAll gives old (symbols ++ symbol ∷ []) new
NotesAll-push = FoldsTo-push

-- some, and then others
pub NotesAll-append : {T : Type 0} (gives : T → Symbol → T → Type 0) (old : T) (first : List Symbol) (mid : T) (second : List Symbol) (new : T)
    → NotesAll gives old first mid → NotesAll gives mid second new → NotesAll gives old (first ++ second) new
NotesAll-append gives old [] mid second new p q = subst (λ tap. NotesAll gives tap second new) (sym p) q
NotesAll-append gives old (symbol ∷ first) mid second new p q = (p.0, p.1, NotesAll-append gives p.0 first mid second new p.2 q)
