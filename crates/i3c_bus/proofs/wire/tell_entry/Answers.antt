-- The four words, one by one.
use Rattle.std.proofs.Common.{ℕ, false, List, [], ◌∷◌, get_or, refl, subst, ◌∙◌}
use Rattle.i3c_deftgts.specs.Layout.{bytes_of, Carry}
use Rattle.i3c_deftgts.proofs.LayoutLaws.{length-bytes_of, length-carried}
use Rattle.i3c_frame.specs.declared.symbols.Symbol.TheVariants.{Word}
use Rattle.i3c_word.specs.declared.Word.{Word as WordValue}
use Rattle.i3c_bus.proofs.Listing.{four_words}
use Rattle.i3c_bus.proofs.wire.tell_entry.Goals as goal

abbrev blank : WordValue
blank = record { byte = 0; t = false }

pub returns : goal.returns
returns g c =
    let at : ℕ → WordValue = λ place. get_or c.words.result place blank in (
      Word (at 0) ∷ Word (at 1) ∷ Word (at 2) ∷ Word (at 3) ∷ [],
      (c.note.new.self, c.note.ensures, (c.note-2.new.self, c.note-2.ensures, (c.note-3.new.self, c.note-3.ensures, (c.note-4.new.self, c.note-4.ensures, refl)))),
      (
        at 0 ∷ at 1 ∷ at 2 ∷ at 3 ∷ [],
        subst (λ (words : List WordValue). Carry (bytes_of c.args.entry.now) words) (four_words c.words.result blank (length-carried (bytes_of c.args.entry.now) c.words.result c.words.ensures ∙ length-bytes_of c.args.entry.now)) c.words.ensures,
        refl,
      ),
    )
