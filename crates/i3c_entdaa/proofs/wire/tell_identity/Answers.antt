-- The four symbols, one after another.
use Rattle.std.proofs.Common.{refl, subst}
use Rattle.i3c_frame.specs.declared.symbols.Symbol.{Symbol}
use Rattle.i3c_entdaa.proofs.wire.tell_identity.Goals as goal

pub returns : goal.returns
returns g c =
    let header = subst (λ (s : Symbol). g.T.Tap.note_gives c.note.new.self s c.note-2.new.self) c.broadcast.ensures c.note-2.ensures in (
      _,
      (c.note.new.self, c.note.ensures, (c.note-2.new.self, header, (c.note-3.new.self, c.note-3.ensures, (c.note-4.new.self, c.note-4.ensures, refl)))),
      (c.address_byte-byte.result, c.address_byte-byte.ensures, refl),
    )
