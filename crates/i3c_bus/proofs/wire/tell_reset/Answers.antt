-- The code, as a word, and STOP.
use Rattle.std.proofs.Common.{[], ◌∷◌, refl, ◌∙◌}
use Rattle.i3c_frame.specs.declared.symbols.Symbol.TheVariants.{Stop, Word}
use Rattle.i3c_bus.proofs.wire.tell_reset.Goals as goal

pub returns : goal.returns
returns g c = (
  Word c.write_word.result ∷ Stop ∷ [],
  (c.note.new.self, c.note.ensures, (c.note-2.new.self, c.note-2.ensures, refl)),
  (c.write_word.result, (c.write_word.ensures.byte ∙ c.byte_of.ensures, c.write_word.ensures.odd), refl),
)
