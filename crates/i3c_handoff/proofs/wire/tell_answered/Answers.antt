-- The code, the header, the byte and STOP, one after another.
use Rattle.std.proofs.Common.{refl, ◌∙◌}
use Rattle.i3c_handoff.proofs.wire.tell_answered.Goals as goal

pub returns : goal.returns
returns g c = (
  _,
  (
    c.note.new.self,
    c.note.ensures,
    (c.note-2.new.self, c.note-2.ensures, (c.note-3.new.self, c.note-3.ensures, (c.note-4.new.self, c.note-4.ensures, (c.note-5.new.self, c.note-5.ensures, refl)))),
  ),
  (c.write_word.result, (c.write_word.ensures.byte ∙ c.byte_of.ensures, c.write_word.ensures.odd), refl),
)
