-- Each word but the last, and that.
use Rattle.std.proofs.Common.{[], ◌∷◌, ◌++◌, ◌∙◌, List, ap, map, refl, take, true, subst, sym}
use Rattle.std.proofs.lemmas.List.{map_more, take_all}
use Rattle.i3c_frame.proofs.TapLaws.{NotesAll-push}
use Rattle.i3c_frame.specs.Taps.{NotesAll}
use Rattle.i3c_frame.specs.declared.symbols.Symbol.{Symbol}
use Rattle.i3c_xfer.specs.Wire.{read_words, word_of}
use Rattle.i3c_xfer.proofs.WireLaws.{read_all, read_none}
use Rattle.i3c_xfer.proofs.wire.tell_words.Goals as goal

pub loop-byte-preserved : goal.loop-byte-preserved
loop-byte-preserved g c =
    subst (λ (told : List Symbol). NotesAll g.T.Tap.note_gives c.args.tap.now told c.note.new.self)
    (sym (map_more (word_of c.args.side.now true) c.in-Some.others.now c.loop-byte.byte-index _ c.loop-byte-test.true))
    (NotesAll-push g.T.Tap.note_gives c.args.tap.now (map (word_of c.args.side.now true) (take c.loop-byte.byte-index c.in-Some.others.now)) c.loop-byte.tap _ c.note.new.self c.loop-byte.invariant
    (subst (λ (symbol : Symbol). g.T.Tap.note_gives c.loop-byte.tap symbol c.note.new.self) c.word_of.ensures c.note.ensures))

pub returns-in_default : goal.returns-in_default
returns-in_default g c = ([], refl, sym (read_none c.args.side.now c.args.last c.args.bytes.now c.in_default.ensures.cases))

pub returns : goal.returns
returns g c =
    let all = take_all c.loop-byte.byte-index c.in-Some.others.now c.loop-byte-test.false in (
      map (word_of c.args.side.now true) c.in-Some.others.now ++ word_of c.args.side.now c.args.last c.in-Some.end.now ∷ [],
      NotesAll-push g.T.Tap.note_gives c.args.tap.now (map (word_of c.args.side.now true) c.in-Some.others.now) c.loop-byte.tap (word_of c.args.side.now c.args.last c.in-Some.end.now) c.note-2.new.self
          (subst (λ bytes. NotesAll g.T.Tap.note_gives c.args.tap.now (map (word_of c.args.side.now true) bytes) c.loop-byte.tap) all c.loop-byte.invariant)
          (subst (λ (symbol : Symbol). g.T.Tap.note_gives c.loop-byte.tap symbol c.note-2.new.self) c.word_of-2.ensures c.note-2.ensures),
      sym (read_all c.args.side.now c.args.last c.in-Some.others.now c.in-Some.end.now) ∙ ap (read_words c.args.side.now c.args.last) (sym c.in-Some.ensures.cases.0),
    )
