use Rattle.std.proofs.Common.{◌<◌, length}
use Rattle.i3c_streams.specs.Lines.{IsReadFrom}
use Rattle.i3c_tracks.proofs.FileRead.{LinesSoFar}
use Rattle.i3c_tracks.proofs.exploring.read_lines.Given as goal

-- what was read is the file's, and the lines are those of it that were given
abbrev pub invariant-loop : goal.invariant-loop
invariant-loop g l = record {
  room : 0 < length l.chunk.items;
  read : IsReadFrom (g.R.Read.remaining l.initial.reader) (g.R.Read.remaining l.reader) l.script;
  lines : LinesSoFar l.script l.lines.items;
}
