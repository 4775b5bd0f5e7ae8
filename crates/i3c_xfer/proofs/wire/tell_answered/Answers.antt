-- The header, the words, and STOP.
use Rattle.std.proofs.Common.{ap, true}
use Rattle.i3c_frame.proofs.TapLaws.{NotesAll-push}
use Rattle.i3c_frame.specs.declared.symbols.Symbol.TheVariants.{Stop}
use Rattle.i3c_xfer.specs.Wire.{answered_wire}
use Rattle.i3c_xfer.proofs.wire.tell_answered.Goals as goal

pub returns : goal.returns
returns g c =
    let told = c.tell_words.ensures in (
      answered_wire c.args.to true told.0,
      (
        c.note.new.self,
        c.note.ensures,
        (c.note-2.new.self, c.note-2.ensures, NotesAll-push g.T.Tap.note_gives c.note-2.new.self told.0 c.tell_words.new.tap Stop c.note-3.new.self told.1 c.note-3.ensures),
      ),
      ap (answered_wire c.args.to true) told.2,
    )
