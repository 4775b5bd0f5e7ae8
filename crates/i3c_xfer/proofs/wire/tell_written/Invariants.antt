use Rattle.std.proofs.Common.{List, take}
use Rattle.i3c_frame.specs.declared.symbols.Symbol.{Symbol}
use Rattle.i3c_frame.specs.Taps.{NotesAll}
use Rattle.i3c_xfer.specs.Wire.{AreWritten}
use Rattle.i3c_xfer.proofs.wire.tell_written.Given as goal

-- the words so far were told
abbrev pub invariant-loop-byte : goal.invariant-loop-byte
invariant-loop-byte g l = (words : List Symbol) × AreWritten l.side (take l.byte-index l.bytes) words × NotesAll g.T.Tap.note_gives l.initial.tap words l.tap
