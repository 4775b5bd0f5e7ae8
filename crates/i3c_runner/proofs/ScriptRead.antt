-- The bytes that were read of a script, chunk by chunk, and the result.
use Rattle.std.proofs.Common.{◌≡◌, ◌<◌, ◌≤◌, ◌∙◌, ℕ, ◌-◌, List, [], ◌∷◌, ◌++◌, length, take, drop, arith, Option, Some, None, Result, Ok, Err, IfSome, ap, append_assoc, append-nil, length-append, refl, subst, sym}
use Rattle.std.proofs.lemmas.List.{length-take, take-append-drop, take-take}
use Rattle.std.proofs.Math.Seq.{take-append_seam}
use Rattle.std.specs.Io.KnownBytes.{Consumes, IsAtEnd, Keeps}
use Rattle.i3c_streams.specs.declared.faults.ScriptFault.{ScriptFault}
use Rattle.i3c_streams.specs.Reading.{Leaves}
use Rattle.i3c_runner.specs.Scripts.{IsPart, LineRun, LinesGoOut, OutBefore, lines_bytes, lines_out}
use Rattle.i3c_runner.specs.Expecting.{HasBegun, Standing}
use Rattle.i3c_runner.specs.ScriptSteps.{OutOf, Progress, ReadPart, ReadSoFar, ReadsAll, ReadWhole, Runs, RunsTo, RunStops}
use Rattle.i3c_streams.specs.Outcomes.{written}
use Rattle.i3c_streams.proofs.BytesRead.{ended_is, more_read, none_read, script_is, unread}
use Rattle.i3c_runner.proofs.Gathered.{nothing_out, puts_whole}
use Rattle.i3c_runner.proofs.ScriptRuns.{no_feed_in_none, no_line, runs_both, runs_stop, stops_before}

-- a fault at a line
out_of : (fault : ScriptFault) (known left old new : Option (List ℕ)) (lines : List LineRun) → OutOf fault lines (written old) (written new) → OutBefore fault known left old new lines
out_of ScriptFault.Memory known left old new lines out = puts_whole old new (lines_out lines) out
out_of ScriptFault.Write known left old new lines out = out
out_of ScriptFault.Read known left old new lines out = absurd out
out_of ScriptFault.TooLarge known left old new lines out = absurd out

pub stopped_part : (known left old new : Option (List ℕ)) (from : Progress) (fault : ScriptFault) (read : List ℕ) → Consumes known left read → RunStops read (written old) (written new) from fault → ReadPart known left old new from fault
stopped_part known left old new from fault read consumed stops = record {
  lines = stops.lines;
  rest = stops.rest ++ (unread left ++ 10 ∷ []);
  to = stops.to;
  run = stops.run;
  first = script_is known left read (lines_bytes stops.lines) stops.rest consumed stops.same;
  out = out_of fault known left old new stops.lines stops.out;
}

-- a fault at the last line
last_part : (known left old new : Option (List ℕ)) (from : Progress) (fault : ScriptFault) (read : List ℕ) → Consumes known left read → IsAtEnd left → RunStops (read ++ 10 ∷ []) (written old) (written new) from fault → ReadPart known left old new from fault
last_part known left old new from fault read consumed end stops = record {
  lines = stops.lines;
  rest = stops.rest;
  to = stops.to;
  run = stops.run;
  first = ended_is known left read (lines_bytes stops.lines ++ stops.rest) consumed end stops.same;
  out = out_of fault known left old new stops.lines stops.out;
}

still_read : (known now left : Option (List ℕ)) (read : List ℕ) → Consumes known now read → Keeps now left → Consumes known left read
still_read None now left read consumed kept = tt
still_read (Some xs) None left read consumed kept = absurd consumed
still_read (Some xs) (Some ys) None read consumed kept = absurd kept
still_read (Some xs) (Some ys) (Some zs) read consumed kept = consumed ∙ ap (λ bytes. read ++ bytes) (sym kept)

-- a reader that fails
pub unread_part : (known now left old new : Option (List ℕ)) (held : List ℕ) (from to : Progress) (room : ℕ) → ReadSoFar known now old new held from to room → Keeps now left → ReadPart known left old new from ScriptFault.Read
unread_part known now left old new held from to room so_far kept =
    let consumed = still_read known now left so_far.read so_far.consumed kept in
    record {
      lines = so_far.runs.lines;
      rest = so_far.rest ++ (unread left ++ 10 ∷ []);
      to = to.state;
      run = so_far.runs.run;
      first = script_is known left so_far.read (lines_bytes so_far.runs.lines) so_far.rest consumed so_far.runs.same;
      out = (puts_whole old new (lines_out so_far.runs.lines) so_far.runs.out, (so_far.rest, so_far.runs.one, subst (Consumes known left) so_far.runs.same consumed));
    }

-- nothing was read yet
pub none_so_far : (known old : Option (List ℕ)) (held : List ℕ) (at : Progress) → held ≡ [] → ReadSoFar known known old old held at at 1048576
none_so_far known old held at none =
    record { read = []; rest = []; consumed = none_read known [] refl; few = omega arith; runs = no_line [] (written old) at no_feed_in_none; begun = none }

no_part : (known old : Option (List ℕ)) (start : Standing) → HasBegun start → IsPart known known old old ScriptFault.Memory
no_part known old start begun = record {
  lines = [];
  rest = unread known ++ 10 ∷ [];
  run = record { start = start; end = start; begun = begun; lead = refl };
  first = script_is known known [] [] [] (none_read known [] refl) refl;
  out = nothing_out old;
}

pub leaves_all : (known : Option (List ℕ)) (most : ℕ) → Leaves most known known most
leaves_all None most = tt
leaves_all (Some xs) most = omega arith

-- as many bytes are left as before, without those that were read
pub leaves_more : (known now next : Option (List ℕ)) (chunk : List ℕ) (most left count : ℕ) → Leaves most known now left → Consumes now next (take count chunk) → count ≤ left → count ≤ length chunk
    → Leaves most known next (left - count)
leaves_more None now next chunk most left count leaves consumed within room = tt
leaves_more (Some xs) None next chunk most left count leaves consumed within room = absurd leaves
leaves_more (Some xs) (Some ys) None chunk most left count leaves consumed within room = absurd consumed
leaves_more (Some xs) (Some ys) (Some zs) chunk most left count leaves consumed within room =
    let all : length ys ≡ length (take count chunk ++ zs) = ap length consumed in
    omega (arith, leaves, all, length-append (take count chunk) zs, length-take count chunk, within, room)

-- no memory for the chunk: no line was run
pub none_run : (known old : Option (List ℕ)) (start : Standing) → HasBegun start → LinesGoOut known known old old (Err ScriptFault.Memory)
none_run known old start begun = no_part known old start begun

-- a script that was run in part, from its start
pub part_run : (known left old new : Option (List ℕ)) (from : Progress) (fault : ScriptFault) → HasBegun from.state → ReadPart known left old new from fault → LinesGoOut known left old new (Err fault)
part_run known left old new from fault begun part = record {
  lines = part.lines;
  rest = part.rest;
  run = record { start = from.state; end = part.to; begun = begun; lead = part.run };
  first = part.first;
  out = part.out;
}

-- one piece more was read
pub more_so_far : (known now next old mid new : Option (List ℕ)) (held held2 chunk : List ℕ) (from c1 c2 : Progress) (left count : ℕ)
    → (so_far : ReadSoFar known now old mid held from c1 left) → count ≤ left → count ≤ length chunk → Consumes now next (take count chunk)
    → (rest : List ℕ) → RunsTo (so_far.rest ++ take count chunk) rest (written mid) (written new) c1 c2 → held2 ≡ take 257 rest → ReadSoFar known next old new held2 from c2 (left - count)
more_so_far known now next old mid new held held2 chunk from c1 c2 left count so_far within room consumed rest runs begun = record {
  read = so_far.read ++ take count chunk;
  rest = rest;
  consumed = more_read known now next so_far.read (take count chunk) (so_far.read ++ take count chunk) so_far.consumed consumed refl;
  few = omega (arith, so_far.few, length-append so_far.read (take count chunk), length-take count chunk, within, room);
  runs = runs_both so_far.read so_far.rest (take count chunk) rest (written old) (written mid) (written new) from c1 c2 so_far.runs runs;
  begun = begun;
}

-- a piece with a line at which the run stops
pub stopped_in : (known now next old mid new : Option (List ℕ)) (held chunk : List ℕ) (from c1 : Progress) (left count n : ℕ) (fault : ScriptFault)
    → (so_far : ReadSoFar known now old mid held from c1 left) → count ≤ n → Consumes now next (take n chunk) → RunStops (so_far.rest ++ take count chunk) (written mid) (written new) c1 fault → ReadPart known next old new from fault
stopped_in known now next old mid new held chunk from c1 left count n fault so_far within consumed stops =
    let piece = take count chunk in
    let more = drop count (take n chunk) in
    let all : take n chunk ≡ piece ++ more = sym (take-append-drop count (take n chunk)) ∙ ap (λ bytes. bytes ++ more) (take-take count n chunk within) in
    let read : so_far.read ++ take n chunk ≡ (so_far.read ++ piece) ++ more = ap (λ bytes. so_far.read ++ bytes) all ∙ sym (append_assoc so_far.read piece more) in
    stopped_part known next old new from fault ((so_far.read ++ piece) ++ more)
    (more_read known now next so_far.read (take n chunk) ((so_far.read ++ piece) ++ more) so_far.consumed consumed (sym read))
    (stops_before (so_far.read ++ piece) more (written old) (written new) from fault (runs_stop so_far.read so_far.rest piece (written old) (written mid) (written new) from c1 fault so_far.runs stops))

-- the most bytes that a script may have, and more
front_is : (known left : Option (List ℕ)) (first more front : List ℕ) → Consumes known left (first ++ more) → length first ≡ 1048576 → first ≡ front → IfSome known (λ script. take 1048576 script ≡ front)
front_is None left first more front consumed most same = tt
front_is (Some xs) None first more front consumed most same = absurd consumed
front_is (Some xs) (Some ys) first more front consumed most same =
    ap (λ script. take 1048576 script) (consumed ∙ append_assoc first more ys)
    ∙ ap (λ n. take n (first ++ (more ++ ys))) (sym most) ∙ take-append_seam first (more ++ ys) ∙ same

pub large_part : (known now next old mid new : Option (List ℕ)) (held chunk : List ℕ) (from c1 c2 : Progress) (left n : ℕ)
    → (so_far : ReadSoFar known now old mid held from c1 left) → left < n → n ≤ length chunk → Consumes now next (take n chunk)
    → (rest : List ℕ) → RunsTo (so_far.rest ++ take left chunk) rest (written mid) (written new) c1 c2 → ReadPart known next old new from ScriptFault.TooLarge
large_part known now next old mid new held chunk from c1 c2 left n so_far within room consumed rest runs =
    let piece = take left chunk in
    let more = drop left (take n chunk) in
    let all : take n chunk ≡ piece ++ more = sym (take-append-drop left (take n chunk)) ∙ ap (λ bytes. bytes ++ more) (take-take left n chunk (omega (arith, within))) in
    let first = so_far.read ++ piece in
    let read : so_far.read ++ take n chunk ≡ first ++ more = ap (λ bytes. so_far.read ++ bytes) all ∙ sym (append_assoc so_far.read piece more) in
    let consumed2 : Consumes known next (first ++ more) = more_read known now next so_far.read (take n chunk) (first ++ more) so_far.consumed consumed (sym read) in
    let both : RunsTo first rest (written old) (written new) from c2 = runs_both so_far.read so_far.rest piece rest (written old) (written mid) (written new) from c1 c2 so_far.runs runs in
    let most : length first ≡ 1048576 = omega (arith, so_far.few, length-append so_far.read piece, length-take left chunk, within, room) in
    let split : first ++ more ≡ lines_bytes both.lines ++ (rest ++ more) = ap (λ bytes. bytes ++ more) both.same ∙ append_assoc (lines_bytes both.lines) rest more in
    record {
      lines = both.lines;
      rest = (rest ++ more) ++ (unread next ++ 10 ∷ []);
      to = c2.state;
      run = both.run;
      first = script_is known next (first ++ more) (lines_bytes both.lines) (rest ++ more) consumed2 split;
      out = (puts_whole old new (lines_out both.lines) both.out, (rest, both.one, front_is known next first more (lines_bytes both.lines ++ rest) consumed2 most both.same));
    }

-- the end of a script, which ends its last line
pub all_so_far : (known now left old mid new : Option (List ℕ)) (held : List ℕ) (from c1 c2 : Progress) (room : ℕ) (result : Result (Unit {0}) ScriptFault)
    → (so_far : ReadSoFar known now old mid held from c1 room) → Consumes now left [] → IsAtEnd left → Runs (so_far.rest ++ 10 ∷ []) [] (written mid) (written new) c1 c2 result
    → ReadsAll known left old new from c2 result
all_so_far known now left old mid new held from c1 c2 room (Ok done) so_far consumed end runs = record {
  read = so_far.read;
  consumed = more_read known now left so_far.read [] so_far.read so_far.consumed consumed (sym (append-nil so_far.read));
  runs = runs_both so_far.read so_far.rest (10 ∷ []) [] (written old) (written mid) (written new) from c1 c2 so_far.runs runs;
}
all_so_far known now left old mid new held from c1 c2 room (Err fault) so_far consumed end stops =
    last_part known left old new from fault so_far.read (more_read known now left so_far.read [] so_far.read so_far.consumed consumed (sym (append-nil so_far.read))) end
    (runs_stop so_far.read so_far.rest (10 ∷ []) (written old) (written mid) (written new) from c1 fault so_far.runs stops)

-- a script that was run to its end
pub whole_run : (known left old new : Option (List ℕ)) (from to : Progress) → HasBegun from.state → from.refused ≡ 0 → ReadWhole known left old new from to → IsAtEnd left → to.refused ≤ 18446744073709551615
    → LinesGoOut known left old new (Ok (record { refused = to.refused; unmet = to.state.unmet }))
whole_run known left old new from to begun none whole end small = record {
  lines = whole.runs.lines;
  run = record { start = from.state; end = to.state; begun = begun; lead = whole.runs.run };
  all = ended_is known left whole.read (lines_bytes whole.runs.lines) whole.consumed end (whole.runs.same ∙ append-nil (lines_bytes whole.runs.lines));
  out = puts_whole old new (lines_out whole.runs.lines) whole.runs.out;
  counted = omega (arith, whole.runs.count, small, none);
  unmet = refl;
}
