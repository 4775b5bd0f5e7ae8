-- The code, as a word.
use Rattle.std.proofs.Common.{refl, ◌∙◌}
use Rattle.i3c_bus.proofs.wire.tell_open.Goals as goal

pub returns : goal.returns
returns g c = (_, (c.note.new.self, c.note.ensures, refl), (c.write_word.result, (c.write_word.ensures.byte ∙ c.byte_of.ensures, c.write_word.ensures.odd), refl))
