-- The header, each word, and STOP.
use Rattle.std.proofs.Common.{[], ◌∷◌, ◌++◌, refl, take, subst, sym, false}
use Rattle.std.proofs.lemmas.List.{take_all, take_more}
use Rattle.i3c_frame.proofs.TapLaws.{NotesAll-push}
use Rattle.i3c_frame.specs.declared.symbols.Symbol.TheVariants.{Stop}
use Rattle.i3c_xfer.specs.Wire.{AreWritten, answered_wire}
use Rattle.i3c_xfer.proofs.WireLaws.{written_more}
use Rattle.i3c_xfer.proofs.wire.tell_written.Goals as goal

pub loop-byte-preserved : goal.loop-byte-preserved
loop-byte-preserved g c =
    let inv = c.loop-byte.invariant in (
      inv.0 ++ c.written_word.result ∷ [],
      subst (λ bytes. AreWritten c.args.side.now bytes (inv.0 ++ c.written_word.result ∷ [])) (sym (take_more c.args.bytes.now c.loop-byte.byte-index _ c.loop-byte-test.true))
          (written_more c.args.side.now (take c.loop-byte.byte-index c.args.bytes.now) inv.0 _ c.written_word.result inv.1 c.written_word.ensures),
      NotesAll-push g.T.Tap.note_gives c.note-2.new.self inv.0 c.loop-byte.tap c.written_word.result c.note-in-loop-byte.new.self inv.2 c.note-in-loop-byte.ensures,
    )

pub returns : goal.returns
returns g c =
    let inv = c.loop-byte.invariant in
    let all = take_all c.loop-byte.byte-index c.args.bytes.now c.loop-byte-test.false in (
      answered_wire c.args.to false inv.0,
      (
        c.note.new.self,
        c.note.ensures,
        (c.note-2.new.self, c.note-2.ensures, NotesAll-push g.T.Tap.note_gives c.note-2.new.self inv.0 c.loop-byte.tap Stop c.note-3.new.self inv.2 c.note-3.ensures),
      ),
      (inv.0, subst (λ bytes. AreWritten c.args.side.now bytes inv.0) all inv.1, refl),
    )
