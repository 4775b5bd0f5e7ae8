use Rattle.std.proofs.Common.{map, take, true}
use Rattle.i3c_frame.specs.Taps.{NotesAll}
use Rattle.i3c_xfer.specs.Wire.{word_of}
use Rattle.i3c_xfer.proofs.wire.tell_words.Given as goal

-- the words so far were told
abbrev pub invariant-loop-byte : goal.invariant-loop-byte
invariant-loop-byte g l = NotesAll g.T.Tap.note_gives l.initial.tap (map (word_of l.side true) (take l.byte-index l.others)) l.tap
