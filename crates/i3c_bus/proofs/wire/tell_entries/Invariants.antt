use Rattle.std.proofs.Common.{take}
use Rattle.std.specs.List.{flat_map}
use Rattle.i3c_deftgts.specs.Layout.{bytes_of}
use Rattle.i3c_frame.specs.Taps.{Tells}
use Rattle.i3c_bus.specs.Wire.{AreWordsOf}
use Rattle.i3c_bus.proofs.wire.tell_entries.Given as goal

-- the words of the entries so far were told
abbrev pub invariant-loop-entry : goal.invariant-loop-entry
invariant-loop-entry g l = Tells g.T.Tap.note_gives l.initial.tap l.tap (AreWordsOf (flat_map bytes_of (take l.entry-index l.entries)))
