-- The words of each entry.
use Rattle.std.proofs.Common.{List, ℕ, take, ap, subst}
use Rattle.std.specs.List.{flat_map}
use Rattle.std.proofs.lemmas.List.{take_all}
use Rattle.i3c_deftgts.specs.Layout.{bytes_of}
use Rattle.i3c_frame.specs.Taps.{Tells}
use Rattle.i3c_bus.specs.Wire.{AreWordsOf}
use Rattle.i3c_bus.proofs.Listing.{bytes_more, told_more, told_none}
use Rattle.i3c_bus.proofs.wire.tell_entries.Goals as goal

pub loop-entry-init : goal.loop-entry-init
loop-entry-init g c = told_none g.T.Tap.note_gives c.args.tap.now

pub loop-entry-preserved : goal.loop-entry-preserved
loop-entry-preserved g c =
    subst (λ (bytes : List ℕ). Tells g.T.Tap.note_gives c.args.tap.now c.tell_entry.new.tap (AreWordsOf bytes))
    (bytes_more c.args.entries.now c.loop-entry.entry-index c.entry-item.result c.loop-entry-test.true c.entry-item.is)
    (told_more g.T.Tap.note_gives c.args.tap.now c.loop-entry.tap c.tell_entry.new.tap (flat_map bytes_of (take c.loop-entry.entry-index c.args.entries.now)) (bytes_of c.entry-item.result) c.loop-entry.invariant c.tell_entry.ensures)

pub returns : goal.returns
returns g c =
    subst (λ bytes. Tells g.T.Tap.note_gives c.args.tap.now c.loop-entry.tap (AreWordsOf bytes))
    (ap (flat_map bytes_of) (take_all c.loop-entry.entry-index c.args.entries.now c.loop-entry-test.false)) c.loop-entry.invariant
