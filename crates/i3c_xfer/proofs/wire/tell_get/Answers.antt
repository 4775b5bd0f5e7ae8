-- The code, and the answer to it.
use Rattle.std.proofs.Common.{◌∷◌, ◌∙◌, ap, false, refl, subst, sym, true}
use Rattle.i3c_frame.specs.declared.symbols.Symbol.{Symbol}
use Rattle.i3c_xfer.specs.declared.wire.Side.{Side}
use Rattle.i3c_xfer.specs.Wire.{IsToldWire, answered_wire, read_words}
use Rattle.i3c_xfer.proofs.wire.tell_get.Goals as goal

pub returns-in-Nobody : goal.returns-in-Nobody
returns-in-Nobody g c =
    let told = c.tell_unanswered.ensures in (
      Symbol.Word c.write_word.result ∷ told.0,
      (c.note.new.self, c.note.ensures, told.1),
      (
        c.write_word.result,
        told.0,
        (c.write_word.ensures.byte ∙ c.byte_of.ensures, c.write_word.ensures.odd),
        subst (λ get. IsToldWire c.args.to get told.0) (sym c.in-Nobody.is) told.2,
        refl,
      ),
    )

pub returns-in-Ended : goal.returns-in-Ended
returns-in-Ended g c =
    let told = c.tell_answered.ensures in (
      Symbol.Word c.write_word.result ∷ told.0,
      (c.note.new.self, c.note.ensures, told.1),
      (
        c.write_word.result,
        told.0,
        (c.write_word.ensures.byte ∙ c.byte_of.ensures, c.write_word.ensures.odd),
        subst (λ get. IsToldWire c.args.to get told.0) (sym c.in-Ended.is) (told.2 ∙ ap (λ bytes. answered_wire c.args.to true (read_words Side.Devices false bytes)) c.as_slice.ensures.same),
        refl,
      ),
    )

pub returns-in-Torn : goal.returns-in-Torn
returns-in-Torn g c =
    let told = c.tell_answered-in-Torn.ensures in (
      Symbol.Word c.write_word.result ∷ told.0,
      (c.note.new.self, c.note.ensures, told.1),
      (
        c.write_word.result,
        told.0,
        (c.write_word.ensures.byte ∙ c.byte_of.ensures, c.write_word.ensures.odd),
        subst (λ get. IsToldWire c.args.to get told.0) (sym c.in-Torn.is) (told.2 ∙ ap (λ bytes. answered_wire c.args.to true (read_words Side.Devices true bytes)) c.as_slice-in-Torn.ensures.same),
        refl,
      ),
    )
