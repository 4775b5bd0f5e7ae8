-- The code, the count, the words of each entry, and STOP.
use Rattle.std.proofs.Common.{[], ◌∷◌, ◌++◌, ◌-◌, length, ap, subst, ◌∙◌}
use Rattle.std.specs.List.{flat_map}
use Rattle.i3c_deftgts.specs.Layout.{bytes_of, Carry}
use Rattle.i3c_deftgts.proofs.LayoutLaws.{carry_append, carry_one}
use Rattle.i3c_frame.proofs.TapLaws.{NotesAll-push}
use Rattle.i3c_frame.specs.declared.symbols.Symbol.TheVariants.{Stop, Word}
use Rattle.i3c_bus.proofs.wire.tell_list.Goals as goal

pub returns : goal.returns
returns g c =
    let told = c.tell_entries.ensures in
    let count = length c.args.list.now - 1 in (
      Word c.write_word.result ∷ Word c.count_word.result ∷ told.0 ++ Stop ∷ [],
      (
        c.note.new.self,
        c.note.ensures,
        (c.note-2.new.self, c.note-2.ensures, NotesAll-push g.T.Tap.note_gives c.note-2.new.self told.0 c.tell_entries.new.tap Stop c.note-3.new.self told.1 c.note-3.ensures),
      ),
      (
        c.count_word.result ∷ told.2.0,
        carry_append (count ∷ []) (flat_map bytes_of c.args.list.now) (c.count_word.result ∷ []) told.2.0 (carry_one count c.count_word.result c.count_word.ensures.count c.count_word.ensures.odd)
            (subst (λ entries. Carry (flat_map bytes_of entries) told.2.0) c.entries.ensures.same told.2.1),
        (c.write_word.result, (c.write_word.ensures.byte ∙ c.byte_of.ensures, c.write_word.ensures.odd), ap (λ symbols. Word c.write_word.result ∷ Word c.count_word.result ∷ symbols ++ Stop ∷ []) told.2.2),
      ),
    )
