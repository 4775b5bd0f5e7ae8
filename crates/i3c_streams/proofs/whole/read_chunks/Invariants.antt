use Rattle.std.proofs.Common.{◌≡◌, ◌<◌, ◌≤◌, length}
use Rattle.std.specs.Io.KnownBytes.{Consumes}
use Rattle.i3c_streams.proofs.whole.read_chunks.Given as goal

-- the bytes are what was read so far, and no read failed
abbrev pub invariant-loop : goal.invariant-loop
invariant-loop g l = record {
  room : 0 < length l.chunk;
  small : length l.whole.items ≤ l.fn.most;
  none_failed : l.has_failed ≡ l.initial.has_failed;
  read : Consumes (g.R.Read.remaining l.initial.reader) (g.R.Read.remaining l.reader) l.whole.items;
}
