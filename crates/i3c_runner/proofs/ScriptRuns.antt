-- What the lines of a script put out, piece by piece of its bytes.
use Rattle.std.proofs.Common.{◌≡◌, ◌≢◌, ◌⊎◌, ◌<◌, ◌≤◌, ◌∙◌, ℕ, zero, suc, ◌+◌, ◌-◌, List, [], ◌∷◌, ◌++◌, length, take, drop, min, arith, slice_get, Option, Some, None, Result, Ok, Err, MatchResult, ap, inl, inr, append_assoc, append-nil, refl, subst, sym}
use Rattle.std.proofs.lemmas.Bool.{cases_lt}
use Rattle.std.proofs.lemmas.List.{length-drop, take_all}
use Rattle.std.proofs.lemmas.List.Elements.{All-append}
use Rattle.i3c_lines.specs.declared.refusals.Refusal.{Refusal}
use Rattle.i3c_streams.specs.declared.faults.ScriptFault.{ScriptFault}
use Rattle.i3c_text.specs.declared.line_error.LineError.{LineError}
use Rattle.std.specs.Io.KnownBytes.{Appends}
use Rattle.i3c_lines.specs.Forms.{HasNoForm, IsCommand, IsSkipped}
use Rattle.i3c_facts.specs.Forms.{IsMark}
use Rattle.i3c_runner.specs.Expecting.{IsBad, IsMarked, Standing}
use Rattle.i3c_streams.specs.Outcomes.{AppendsSome, GoesLast, HasNoFeed, Output, Puts, PutsOrFails, PutsSome, written}
use Rattle.i3c_script.specs.Printed.{end_text}
use Rattle.i3c_runner.specs.Scripts.{LineRun, LineRuns, LinesLead, lines_bytes, lines_out, lines_refused, refusals_of, refused_text, run_text}
use Rattle.i3c_runner.specs.ScriptSteps.{LineDone, LineEnds, LineLost, LineStops, OutOf, Progress, Reads, Runs, RunsTo, RunStops, Takes}
use Rattle.i3c_script.specs.Stops.{refusals}
use Rattle.i3c_runner.proofs.Gathered.{flush_all, flush_some, puts_both, puts_none, some_puts}

-- the refusal that a line comes to
unfoldable pub refusal_in : Result (Unit {0}) (LineError Refusal) → Option Refusal
refusal_in (Ok done) = None
refusal_in (Err LineError.Memory) = None
refusal_in (Err (LineError.Refused why)) = Some why

pub its_text : (outcome : Result (Unit {0}) (LineError Refusal)) → end_text outcome ≡ refused_text (refusal_in outcome)
unfolding refusal_in
its_text (Ok done) = refl
its_text (Err LineError.Memory) = refl
its_text (Err (LineError.Refused why)) = refl

pub its_refusals : (outcome : Result (Unit {0}) (LineError Refusal)) → refusals outcome ≡ refusals_of (refusal_in outcome)
unfolding refusal_in
its_refusals (Ok done) = refl
its_refusals (Err LineError.Memory) = refl
its_refusals (Err (LineError.Refused why)) = refl

-- a result that passes isn't short of memory
pub passes : (result : Result (Unit {0}) ScriptFault) (done : Unit {0}) → result ≡ Ok done → result ≡ Err ScriptFault.Memory → ⊥
passes result done one two = subst (λ r. MatchResult r (λ _. ⊥) (λ _. Unit {0})) (sym two ∙ one) tt

-- what a line did that isn't short of memory
pub does_in : (old : Standing) (line : List ℕ) (before after : List ℕ) (outcome : Result (Unit {0}) (LineError Refusal)) (new : Standing) → Reads old line before after outcome new → before ≡ [] → outcome ≢ Err LineError.Memory
    → LineRuns old line after (refusal_in outcome) new
unfolding refusal_in
does_in old line before after (Ok done) new (said, told, does) none alive = subst (λ t. LineRuns old line t None new) (sym (told ∙ ap (λ t. t ++ said) none)) does
does_in old line before after (Err (LineError.Refused why)) new (said, told, does) none alive = subst (λ t. LineRuns old line t (Some why) new) (sym (told ∙ ap (λ t. t ++ said) none)) does
does_in old line before after (Err LineError.Memory) new reads none alive = absurd (alive refl)

-- a line is read by the bytes that tell what it is
length_taken : (n : ℕ) (line : List ℕ) → length (take n line) ≡ min n (length line)
length_taken zero line = omega arith
length_taken (suc n) [] = omega arith
length_taken (suc n) (byte ∷ line) = omega (arith, length_taken n line)

-- a line that is no longer than a line may be is told whole by its first bytes
taken_whole : (line : List ℕ) → length (take 257 line) ≤ 256 → take 257 line ≡ line
taken_whole line short = take_all 257 line (omega (arith, short, length_taken 257 line))

-- a line that is longer has no form
long_line : (line : List ℕ) → 256 < length (take 257 line) → HasNoForm line
long_line line long = inl (omega (arith, long, length_taken 257 line))

-- whatever has no form by its first bytes has none
no_form_whole : (line : List ℕ) → HasNoForm (take 257 line) → HasNoForm line
no_form_whole line none = if_short (cases_lt 256 (length (take 257 line))) where
  if_short : (256 < length (take 257 line)) ⊎ (length (take 257 line) ≤ 256) → HasNoForm line
  if_short (inl long) = long_line line long
  if_short (inr short) = subst HasNoForm (taken_whole line short) none

-- a line is short that is a mark
mark_short : (n : ℕ) (line : List ℕ) → length line ≤ n → take (suc n) line ≡ line
mark_short n line short = take_all (suc n) line (omega (arith, short))

-- a line is bad if its first bytes are
bad_whole : (line : List ℕ) → IsBad (take 257 line) → IsBad line
bad_whole line (form, none) = (no_form_whole line form, λ marked. none (subst IsMarked (sym (mark_short 256 line marked.1.0)) marked))

-- a line of a script does what it does by its first bytes
pub runs_whole : (old : Standing) (line said : List ℕ) (refused : Option Refusal) (new : Standing) → LineRuns old (take 257 line) said refused new → LineRuns old line said refused new
runs_whole old line said refused new (inl (bad, none, why, same)) = inl (bad_whole line bad, none, why, same)
runs_whole old line said refused new (inr (inl (skipped, none, why, same))) = inr (inl (subst IsSkipped (taken_whole line skipped.0) skipped, none, why, same))
runs_whole old line said refused new (inr (inr (inl (mark, is, does)))) = inr (inr (inl (mark, subst (λ l. IsMark l mark) (taken_whole line is.0) is, does)))
runs_whole old line said refused new (inr (inr (inr (command, state, own, told, is, obeys, text, lasts)))) = inr (inr (inr (command, state, own, told, subst (λ l. IsCommand l command) (taken_whole line is.0) is, obeys, text, lasts)))

-- what begins a line, in pieces
pub take_both : (n : ℕ) (xs ys : List ℕ) → take n (take n xs ++ ys) ≡ take n (xs ++ ys)
take_both zero xs ys = refl
take_both (suc n) [] ys = refl
take_both (suc n) (x ∷ xs) ys = ap (λ l. x ∷ l) (take_both n xs ys)

-- lines, one behind the other
pub bytes_both : (a b : List LineRun) → lines_bytes (a ++ b) ≡ lines_bytes a ++ lines_bytes b
bytes_both [] b = refl
bytes_both (run ∷ a) b = ap (λ bytes. run.line ++ 10 ∷ bytes) (bytes_both a b) ∙ sym (append_assoc run.line (10 ∷ lines_bytes a) (lines_bytes b))

pub out_both : (a b : List LineRun) → lines_out (a ++ b) ≡ lines_out a ++ lines_out b
out_both [] b = refl
out_both (run ∷ a) b = ap (λ text. run_text run ++ text) (out_both a b) ∙ sym (append_assoc (run_text run) (lines_out a) (lines_out b))

pub refused_both : (a b : List LineRun) → lines_refused (a ++ b) ≡ lines_refused a + lines_refused b
refused_both [] b = omega arith
refused_both (run ∷ a) b = omega (arith, refused_both a b)

pub run_both : (a b : List LineRun) (from mid to : Standing) → LinesLead from a mid → LinesLead mid b to → LinesLead from (a ++ b) to
run_both [] b from mid to one two = subst (λ st. LinesLead st b to) one two
run_both (run ∷ a) b from mid to (next, is, one) two = (next, is, run_both a b next mid to one two)

pub no_feed_in_none : HasNoFeed []
no_feed_in_none = λ k d within. absurd (omega (arith, within))

pub no_feed_in_both : (a b : List ℕ) → HasNoFeed a → HasNoFeed b → HasNoFeed (a ++ b)
no_feed_in_both a b one two = All-append (λ (byte : ℕ). byte ≢ 10) a b one two

-- the first feed of some bytes ends their first line
feed_at : (rest : List ℕ) (end : ℕ) → end < length rest → slice_get rest end ≡ Some 10 → rest ≡ (take end rest ++ 10 ∷ []) ++ drop (suc end) rest
feed_at [] end h e = absurd (omega arith)
feed_at (byte ∷ rest) zero h e = let feed : byte ≡ 10 = cc in ap (λ b. b ∷ rest) feed
feed_at (byte ∷ rest) (suc end) h e = ap (λ bytes. byte ∷ bytes) (feed_at rest end (omega arith) e)

drop_next : (rest : List ℕ) (end : ℕ) → drop 1 (drop end rest) ≡ drop (suc end) rest
drop_next [] zero = refl
drop_next [] (suc end) = refl
drop_next (byte ∷ rest) zero = refl
drop_next (byte ∷ rest) (suc end) = drop_next rest end

-- the same, with the bytes behind the feed as a slice of those behind the line
pub next_line : (rest line after : List ℕ) (end : ℕ) → end < length rest → slice_get rest end ≡ Some 10 → line ≡ take end rest → after ≡ drop end rest
    → rest ≡ (line ++ 10 ∷ []) ++ take (length after - 1) (drop 1 after)
next_line rest line after end h e first behind =
    feed_at rest end h e
    ∙ ap (λ l. (l ++ 10 ∷ []) ++ drop (suc end) rest) (sym first)
    ∙ ap (λ b. (line ++ 10 ∷ []) ++ b) (sym (drop_next rest end) ∙ ap (λ b. drop 1 b) (sym behind) ∙ sym (take_all (length after - 1) (drop 1 after) (omega (arith, length-drop 1 after))))

-- the same, with the line and what follows its feed as slices
pub first_line : (bytes : List ℕ) (end : ℕ) → end < length bytes → slice_get bytes end ≡ Some 10
    → bytes ≡ (take end bytes ++ 10 ∷ []) ++ take (length bytes - (end + 1)) (drop (end + 1) bytes)
first_line bytes end h e =
    let next : suc end ≡ end + 1 = omega arith in
    feed_at bytes end h e
    ∙ ap (λ b. (take end bytes ++ 10 ∷ []) ++ b) (ap (λ n. drop n bytes) next ∙ sym (take_all (length bytes - (end + 1)) (drop (end + 1) bytes) (omega (arith, length-drop (end + 1) bytes))))

-- bytes in which no line ends
pub no_line : (bytes : List ℕ) (out : Output) (at : Progress) → HasNoFeed bytes → RunsTo bytes bytes out out at at
no_line bytes out at none = record { lines = []; run = refl; same = refl; one = none; out = puts_none out; count = omega arith }

-- one line and its feed
pub line_done : (line : List ℕ) (old new : Output) (from to : Progress) → HasNoFeed line → LineDone line old new from to → RunsTo (line ++ 10 ∷ []) [] old new from to
line_done line old new from to one done =
    let run : LineRun = record { line = line; said = done.said; refused = done.refused } in
    record {
      lines = run ∷ [];
      run = (to.state, record { one = one; does = done.does }, refl);
      same = sym (append-nil (line ++ 10 ∷ []));
      one = no_feed_in_none;
      out = subst (Puts old new) (sym (append-nil (done.said ++ refused_text done.refused))) done.out;
      count = omega (arith, done.count);
    }

some_line : (line : List ℕ) (old new : Output) (from : Progress) → HasNoFeed line → LineLost line old new from → RunStops (line ++ 10 ∷ []) old new from ScriptFault.Write
some_line line old new from one lost =
    let run : LineRun = record { line = line; said = lost.said; refused = lost.refused } in
    record {
      lines = run ∷ [];
      rest = [];
      to = lost.to;
      run = (lost.to, record { one = one; does = lost.does }, refl);
      same = sym (append-nil (line ++ 10 ∷ []));
      out = subst (PutsSome old new) (sym (append-nil (lost.said ++ refused_text lost.refused))) lost.out;
    }

-- a line at which the run stops
pub line_stops : (fault : ScriptFault) (line : List ℕ) (old new : Output) (from : Progress) → HasNoFeed line → LineStops fault line old new from → RunStops (line ++ 10 ∷ []) old new from fault
line_stops ScriptFault.Memory line old new from one stops = record { lines = []; rest = line ++ 10 ∷ []; to = from.state; run = refl; same = refl; out = stops }
line_stops ScriptFault.Write line old new from one stops = some_line line old new from one stops
line_stops ScriptFault.Read line old new from one stops = absurd stops
line_stops ScriptFault.TooLarge line old new from one stops = absurd stops

-- lines and then others
pub runs_both : (a mid b rest : List ℕ) (o1 o2 o3 : Output) (c1 c2 c3 : Progress) → RunsTo a mid o1 o2 c1 c2 → RunsTo (mid ++ b) rest o2 o3 c2 c3 → RunsTo (a ++ b) rest o1 o3 c1 c3
runs_both a mid b rest o1 o2 o3 c1 c2 c3 one two = record {
  lines = one.lines ++ two.lines;
  run = run_both one.lines two.lines c1.state c2.state c3.state one.run two.run;
  same = ap (λ bytes. bytes ++ b) one.same ∙ append_assoc (lines_bytes one.lines) mid b ∙ ap (λ bytes. lines_bytes one.lines ++ bytes) two.same
      ∙ sym (append_assoc (lines_bytes one.lines) (lines_bytes two.lines) rest) ∙ ap (λ bytes. bytes ++ rest) (sym (bytes_both one.lines two.lines));
  one = two.one;
  out = subst (Puts o1 o3) (sym (out_both one.lines two.lines)) (puts_both o1 o2 o3 (lines_out one.lines) (lines_out two.lines) one.out two.out);
  count = omega (arith, one.count, two.count, refused_both one.lines two.lines);
}

out_after : (fault : ScriptFault) (l1 l2 : List LineRun) (o1 o2 o3 : Output) → Puts o1 o2 (lines_out l1) → OutOf fault l2 o2 o3 → OutOf fault (l1 ++ l2) o1 o3
out_after ScriptFault.Memory l1 l2 o1 o2 o3 all out = subst (Puts o1 o3) (sym (out_both l1 l2)) (puts_both o1 o2 o3 (lines_out l1) (lines_out l2) all out)
out_after ScriptFault.Write l1 l2 o1 o2 o3 all out = subst (PutsSome o1 o3) (sym (out_both l1 l2)) (some_puts o1 o2 o3 (lines_out l1) (lines_out l2) all out)
out_after ScriptFault.Read l1 l2 o1 o2 o3 all out = absurd out
out_after ScriptFault.TooLarge l1 l2 o1 o2 o3 all out = absurd out

-- lines, and then a fault at another
pub runs_stop : (a mid b : List ℕ) (o1 o2 o3 : Output) (c1 c2 : Progress) (fault : ScriptFault) → RunsTo a mid o1 o2 c1 c2 → RunStops (mid ++ b) o2 o3 c2 fault → RunStops (a ++ b) o1 o3 c1 fault
runs_stop a mid b o1 o2 o3 c1 c2 fault one two = record {
  lines = one.lines ++ two.lines;
  rest = two.rest;
  to = two.to;
  run = run_both one.lines two.lines c1.state c2.state two.to one.run two.run;
  same = ap (λ bytes. bytes ++ b) one.same ∙ append_assoc (lines_bytes one.lines) mid b ∙ ap (λ bytes. lines_bytes one.lines ++ bytes) two.same
      ∙ sym (append_assoc (lines_bytes one.lines) (lines_bytes two.lines) two.rest) ∙ ap (λ bytes. bytes ++ two.rest) (sym (bytes_both one.lines two.lines));
  out = out_after fault one.lines two.lines o1 o2 o3 one.out two.out;
}

-- a fault before the last of these bytes is one before more of them
pub stops_before : (a b : List ℕ) (old new : Output) (from : Progress) (fault : ScriptFault) → RunStops a old new from fault → RunStops (a ++ b) old new from fault
stops_before a b old new from fault stops = record {
  lines = stops.lines;
  rest = stops.rest ++ b;
  to = stops.to;
  run = stops.run;
  same = ap (λ bytes. bytes ++ b) stops.same ∙ append_assoc (lines_bytes stops.lines) stops.rest b;
  out = stops.out;
}

done_whole : (line : List ℕ) (old new : Output) (from to : Progress) → LineDone (take 257 line) old new from to → LineDone line old new from to
done_whole line old new from to done =
    record { said = done.said; refused = done.refused; does = runs_whole from.state line done.said done.refused to.state done.does; out = done.out; count = done.count }

stops_whole : (fault : ScriptFault) (line : List ℕ) (old new : Output) (from : Progress) → LineStops fault (take 257 line) old new from → LineStops fault line old new from
stops_whole ScriptFault.Memory line old new from stops = stops
stops_whole ScriptFault.Write line old new from stops =
    record { said = stops.said; refused = stops.refused; to = stops.to; does = runs_whole from.state line stops.said stops.refused stops.to stops.does; out = stops.out }
stops_whole ScriptFault.Read line old new from stops = stops
stops_whole ScriptFault.TooLarge line old new from stops = stops

-- a line that had begun, and its last bytes
pub held_runs : (begun bytes : List ℕ) (old new : Output) (from to : Progress) (result : Result (Unit {0}) ScriptFault) → HasNoFeed begun → HasNoFeed bytes
    → LineEnds (take 257 (begun ++ bytes)) old new from to result → Runs (begun ++ (bytes ++ 10 ∷ [])) [] old new from to result
held_runs begun bytes old new from to (Ok done) one two ends =
    subst (λ b. RunsTo b [] old new from to) (append_assoc begun bytes (10 ∷ [])) (line_done (begun ++ bytes) old new from to (no_feed_in_both begun bytes one two) (done_whole (begun ++ bytes) old new from to ends))
held_runs begun bytes old new from to (Err fault) one two ends =
    subst (λ b. RunStops b old new from fault) (append_assoc begun bytes (10 ∷ [])) (line_stops fault (begun ++ bytes) old new from (no_feed_in_both begun bytes one two) (stops_whole fault (begun ++ bytes) old new from ends))

-- the effect of a line that was run
pub line_ran : (line text : List ℕ) (outcome : Result (Unit {0}) (LineError Refusal)) (old new : Output) (from to : Progress)
    → LineRuns from.state line text (refusal_in outcome) to.state → Puts old new (text ++ end_text outcome) → to.refused ≡ min (from.refused + refusals outcome) 18446744073709551615 → LineDone line old new from to
line_ran line text outcome old new from to does out count = record {
  said = text;
  refused = refusal_in outcome;
  does = does;
  out = subst (λ t. Puts old new (text ++ t)) (its_text outcome) out;
  count = count ∙ ap (λ n. min (from.refused + n) 18446744073709551615) (its_refusals outcome);
}

pub line_lost : (line text : List ℕ) (outcome : Result (Unit {0}) (LineError Refusal)) (old new : Output) (from : Progress) (to : Standing)
    → LineRuns from.state line text (refusal_in outcome) to → PutsSome old new (text ++ end_text outcome) → LineLost line old new from
line_lost line text outcome old new from to does out = record {
  said = text;
  refused = refusal_in outcome;
  to = to;
  does = does;
  out = subst (λ t. PutsSome old new (text ++ t)) (its_text outcome) out;
}

-- a line that had begun is ended, and others are run
pub takes_both : (begun bytes line after held : List ℕ) (o1 o2 o3 : Output) (c1 c2 c3 : Progress) (result : Result (Unit {0}) ScriptFault) → bytes ≡ (line ++ 10 ∷ []) ++ after
    → RunsTo (begun ++ (line ++ 10 ∷ [])) [] o1 o2 c1 c2 → Takes after held o2 o3 c2 c3 result → Takes (begun ++ bytes) held o1 o3 c1 c3 result
takes_both begun bytes line after held o1 o2 o3 c1 c2 c3 (Ok done) all one (rest, two, begins) =
    let split : (begun ++ (line ++ 10 ∷ [])) ++ after ≡ begun ++ bytes = append_assoc begun (line ++ 10 ∷ []) after ∙ ap (λ b. begun ++ b) (sym all) in
    (rest, subst (λ b. RunsTo b rest o1 o3 c1 c3) split (runs_both (begun ++ (line ++ 10 ∷ [])) [] after rest o1 o2 o3 c1 c2 c3 one two), begins)
takes_both begun bytes line after held o1 o2 o3 c1 c2 c3 (Err fault) all one two =
    let split : (begun ++ (line ++ 10 ∷ [])) ++ after ≡ begun ++ bytes = append_assoc begun (line ++ 10 ∷ []) after ∙ ap (λ b. begun ++ b) (sym all) in
    subst (λ b. RunStops b o1 o3 c1 fault) split (runs_stop (begun ++ (line ++ 10 ∷ [])) [] after o1 o2 o3 c1 c2 fault one two)

-- a line that had begun is ended, and the run stops at it
pub takes_none : (begun bytes line after : List ℕ) (old new : Output) (from : Progress) (fault : ScriptFault) → bytes ≡ (line ++ 10 ∷ []) ++ after
    → RunStops (begun ++ (line ++ 10 ∷ [])) old new from fault → RunStops (begun ++ bytes) old new from fault
takes_none begun bytes line after old new from fault all stops =
    let split : (begun ++ (line ++ 10 ∷ [])) ++ after ≡ begun ++ bytes = append_assoc begun (line ++ 10 ∷ []) after ∙ ap (λ b. begun ++ b) (sym all) in
    subst (λ b. RunStops b old new from fault) split (stops_before (begun ++ (line ++ 10 ∷ [])) after old new from fault stops)

-- what lines put behind goes out in the end, or some of it
runs_flushed : (bytes rest : List ℕ) (old mid : Output) (new : Option (List ℕ)) (from to : Progress) → RunsTo bytes rest old mid from to → Appends mid.out new mid.gathered → RunsTo bytes rest old (written new) from to
runs_flushed bytes rest old mid new from to runs all =
    record { lines = runs.lines; run = runs.run; same = runs.same; one = runs.one; out = flush_all old mid new (lines_out runs.lines) runs.out all; count = runs.count }

runs_lost : (bytes rest : List ℕ) (old mid : Output) (new : Option (List ℕ)) (from to : Progress) → RunsTo bytes rest old mid from to → AppendsSome mid.out new mid.gathered → RunStops bytes old (written new) from ScriptFault.Write
runs_lost bytes rest old mid new from to runs some =
    record { lines = runs.lines; rest = rest; to = to.state; run = runs.run; same = runs.same; out = flush_some old mid new (lines_out runs.lines) runs.out some }

stops_flushed : (bytes : List ℕ) (old mid : Output) (new : Option (List ℕ)) (from : Progress) (fault : ScriptFault) (result : Result (Unit {0}) ScriptFault) → RunStops bytes old mid from fault
    → GoesLast mid.out new mid.gathered (Err fault) result → MatchResult result (λ _. ⊥) (RunStops bytes old (written new) from)
stops_flushed bytes old mid new from ScriptFault.Memory result stops (inl (is, all)) =
    subst (λ r. MatchResult r (λ _. ⊥) (RunStops bytes old (written new) from)) (sym is)
    (record { lines = stops.lines; rest = stops.rest; to = stops.to; run = stops.run; same = stops.same; out = flush_all old mid new (lines_out stops.lines) stops.out all })
stops_flushed bytes old mid new from ScriptFault.Memory result stops (inr (is, some)) =
    subst (λ r. MatchResult r (λ _. ⊥) (RunStops bytes old (written new) from)) (sym is)
    (record { lines = stops.lines; rest = stops.rest; to = stops.to; run = stops.run; same = stops.same; out = flush_some old mid new (lines_out stops.lines) stops.out some })
stops_flushed bytes old mid new from ScriptFault.Write result stops (is, same) =
    subst (λ r. MatchResult r (λ _. ⊥) (RunStops bytes old (written new) from)) (sym is)
    (record { lines = stops.lines; rest = stops.rest; to = stops.to; run = stops.run; same = stops.same; out = subst (λ out. AppendsSome old.out out (old.gathered ++ lines_out stops.lines)) (sym same) stops.out })
stops_flushed bytes old mid new from ScriptFault.Read result stops last = absurd stops.out
stops_flushed bytes old mid new from ScriptFault.TooLarge result stops last = absurd stops.out

stopped : (Q : Type 0) (P : ScriptFault → Type 0) (result : Result (Unit {0}) ScriptFault) → MatchResult result (λ _. ⊥) P → MatchResult result (λ _. Q) P
stopped Q P (Ok done) h = absurd h
stopped Q P (Err fault) h = h

-- what was gathered of bytes goes out in the end
pub takes_flushed : (bytes held : List ℕ) (old mid : Output) (new : Option (List ℕ)) (from to : Progress) (outcome result : Result (Unit {0}) ScriptFault) → Takes bytes held old mid from to outcome
    → GoesLast mid.out new mid.gathered outcome result → Takes bytes held old (written new) from to result
takes_flushed bytes held old mid new from to (Ok done) result (rest, runs, begins) (inl (is, all)) =
    subst (Takes bytes held old (written new) from to) (sym is) (rest, runs_flushed bytes rest old mid new from to runs all, begins)
takes_flushed bytes held old mid new from to (Ok done) result (rest, runs, begins) (inr (is, some)) =
    subst (Takes bytes held old (written new) from to) (sym is) (runs_lost bytes rest old mid new from to runs some)
takes_flushed bytes held old mid new from to (Err fault) result stops last =
    stopped ((rest : List ℕ) × RunsTo bytes rest old (written new) from to × (held ≡ take 257 rest)) (RunStops bytes old (written new) from) result (stops_flushed bytes old mid new from fault result stops last)

pub runs_flushed_last : (bytes rest : List ℕ) (old mid : Output) (new : Option (List ℕ)) (from to : Progress) (outcome result : Result (Unit {0}) ScriptFault) → Runs bytes rest old mid from to outcome
    → GoesLast mid.out new mid.gathered outcome result → Runs bytes rest old (written new) from to result
runs_flushed_last bytes rest old mid new from to (Ok done) result runs (inl (is, all)) =
    subst (Runs bytes rest old (written new) from to) (sym is) (runs_flushed bytes rest old mid new from to runs all)
runs_flushed_last bytes rest old mid new from to (Ok done) result runs (inr (is, some)) =
    subst (Runs bytes rest old (written new) from to) (sym is) (runs_lost bytes rest old mid new from to runs some)
runs_flushed_last bytes rest old mid new from to (Err fault) result stops last =
    stopped (RunsTo bytes rest old (written new) from to) (RunStops bytes old (written new) from) result (stops_flushed bytes old mid new from fault result stops last)

-- a line whose text is put behind
pub line_put : (line text : List ℕ) (outcome : Result (Unit {0}) (LineError Refusal)) (old new : Output) (from to : Progress) (result : Result (Unit {0}) ScriptFault)
    → LineRuns from.state line text (refusal_in outcome) to.state → to.refused ≡ min (from.refused + refusals outcome) 18446744073709551615
    → PutsOrFails old new (text ++ end_text outcome) result → LineEnds line old new from to result
line_put line text outcome old new from to (Ok done) does count put = line_ran line text outcome old new from to does put count
line_put line text outcome old new from to (Err ScriptFault.Memory) does count put = put
line_put line text outcome old new from to (Err ScriptFault.Write) does count put = line_lost line text outcome old new from to.state does put
line_put line text outcome old new from to (Err ScriptFault.Read) does count put = absurd put
line_put line text outcome old new from to (Err ScriptFault.TooLarge) does count put = absurd put
