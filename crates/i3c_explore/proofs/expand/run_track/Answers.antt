use borrow.Author.Count.{below_more}
use Rattle.std.proofs.Common.{◌≡◌, ◌<◌, ◌+◌, ℕ, [], Option, ap, arith, length, subst, sym, None, Some}
use Rattle.std.specs.Global.{Vec}
use Rattle.std.specs.List.{slice_get, slice_index}
use Rattle.std.proofs.lemmas.Option.{slice_get_within}
use Rattle.i3c_explore.specs.Explorations.{Grows}
use Rattle.i3c_explore.specs.Orders.{lines_in}
use Rattle.i3c_explore.specs.Parts.{opening}
use Rattle.i3c_explore.specs.Runs.{ways_of}
use Rattle.i3c_explore.specs.Shares.{IsLed, by_track, by_turn, by_ways}
use Rattle.i3c_explore.proofs.Counting.{gains_line, gains_no_line, gains_way}
use Rattle.i3c_explore.proofs.Growing.{grows_both, grows_none}
use Rattle.i3c_explore.proofs.Marking.{ways_all, ways_next, ways_no_line, ways_none}
use Rattle.i3c_explore.proofs.NextLines.{next_at, next_once}
use Rattle.i3c_explore.proofs.Opening.{opened}
use Rattle.i3c_explore.proofs.Sharing.{added_none}
use Rattle.i3c_explore.proofs.Stopping.{stops_more}
use Rattle.i3c_explore.proofs.expand.run_track.Given.{Over}
use Rattle.i3c_explore.proofs.expand.run_track.Goals.{In_default}
use Rattle.i3c_explore.proofs.expand.run_track.Goals as goal

-- a line that is there runs in each way up to its last one
ways : {S L : Type 0} (last : S → L → ℕ) (state : S) (there : Option L) (line : L) (count : ℕ) → there ≡ Some line → count ≡ last state line → ways_of last state there ≡ count + 1
ways {S} {L} last state there line count is ran = let all = ap (λ (o : Option L). ways_of last state o) is in omega arith

-- no line is there
none : (g : Over) (c : In_default g) → slice_get (opening c.args.part c.args.tracks.now c.args.track) (slice_index c.args.node.now.places.items c.args.track) ≡ None
none g c =
    let here : c.args.track < length c.args.node.now.places.items = omega arith in
    next_at (opening c.args.part c.args.tracks.now) c.args.node.now.places.items c.args.track c.index.result.now None here c.index.ensures c.in_default.ensures

pub run-requires-clause-next : goal.run-requires-clause-next
run-requires-clause-next g c =
    let is : slice_get (opening c.args.part c.args.tracks.now c.args.track) (slice_index c.args.node.now.places.items c.args.track) ≡ Some c.in-Some.line.now =
    next_at (opening c.args.part c.args.tracks.now) c.args.node.now.places.items c.args.track c.index.result.now (Some c.in-Some.line.now) (omega arith) c.index.ensures c.in-Some.ensures in
    (opened c.args.part c.args.tracks.now c.args.node.now.places.items c.args.track c.in-Some.line.now is).1

pub loop-way-preserved : goal.loop-way-preserved
loop-way-preserved g c =
    let is : slice_get (opening c.args.part c.args.tracks.now c.args.track) (slice_index c.args.node.now.places.items c.args.track) ≡ Some c.in-Some.line.now =
    next_at (opening c.args.part c.args.tracks.now) c.args.node.now.places.items c.args.track c.index.result.now (Some c.in-Some.line.now) (omega arith) c.index.ensures c.in-Some.ensures in
    let steps = g.M.Machine.steps in let lines = opening c.args.part c.args.tracks.now in let node = c.args.node.now in let way = c.loop-way.way in let was = c.loop-way.invariant in
    let old = c.args.next.now in let mid = c.loop-way.next in let new = c.run.new.next in
    let done = c.in-Ok.ensures.grown lines is in record {
      grown = grows_both steps lines c.args.tracks.now node old mid new (by_ways way c.args.track) (by_turn (record { track = c.args.track; way = way })) (by_ways (way + 1) c.args.track) way 1 was.grown done
          (gains_way steps c.args.tracks.now node old.nodes.items mid.nodes.items new.nodes.items c.args.track way was.grown.counted done.counted);
      ran = below_more _ _ (λ way lt. let (state, step, has) = was.ran way lt in (state, step, done.keeps _ state has)) c.in-Ok.ensures.ran;
      noted = ways_next c.args.track (slice_index node.places.items c.args.track) (λ (w : ℕ). g.M.Machine.notes node.state c.in-Some.line.now w) (λ (w : ℕ). g.M.Machine.quiet node.state c.in-Some.line.now w) way old.noted.items mid.noted.items new.noted.items was.noted c.in-Ok.ensures.noted;
      near = λ _. c.in-Ok.ensures.near;
    }

pub loop-way-init : goal.loop-way-init
loop-way-init g c =
    let next = c.args.next.now in record {
      grown = grows_none g.M.Machine.steps (opening c.args.part c.args.tracks.now) c.args.tracks.now c.args.node.now next (by_ways 0 c.args.track)
          (λ starts past own mine. added_none (IsLed g.M.Machine.steps c.args.tracks.now starts past) next.nodes.items);
      ran = λ way lt. absurd (omega arith);
      noted = ways_none c.args.track (slice_index c.args.node.now.places.items c.args.track) (λ (w : ℕ). g.M.Machine.notes c.args.node.now.state c.in-Some.line.now w) (λ (w : ℕ). g.M.Machine.quiet c.args.node.now.state c.in-Some.line.now w) next.noted.items;
      near = c.requires.again;
    }

pub returns-clause-grown : goal.returns-clause-grown
returns-clause-grown g c =
    let is : slice_get (opening c.args.part c.args.tracks.now c.args.track) (slice_index c.args.node.now.places.items c.args.track) ≡ Some c.in-Some.line.now =
    next_at (opening c.args.part c.args.tracks.now) c.args.node.now.places.items c.args.track c.index.result.now (Some c.in-Some.line.now) (omega arith) c.index.ensures c.in-Some.ensures in
    let steps = g.M.Machine.steps in let tracks = c.args.tracks.now in let lines = opening c.args.part tracks in let node = c.args.node.now in let old = c.args.next.now in let new = c.loop-way.next in let was = c.loop-way.invariant.grown in
    let ran : c.loop-way.way ≡ ways_of g.M.Machine.last node.state (slice_get (lines c.args.track) (slice_index node.places.items c.args.track)) = (let e = ways g.M.Machine.last c.args.node.now.state (slice_get (opening c.args.part c.args.tracks.now c.args.track) (slice_index c.args.node.now.places.items c.args.track)) c.in-Some.line.now c.last_way-last.result is c.last_way-last.ensures.way in omega arith) in
    let all : Grows steps lines tracks node old new (by_track lines node.places.items c.args.track) c.loop-way.way = record {
      keeps = was.keeps;
      from = was.from;
      counted = gains_line steps tracks lines node old.nodes.items new.nodes.items c.args.track c.loop-way.way c.in-Some.line.now is (omega arith) was.counted;
      charged = was.charged;
      few = was.few;
    } in
    subst (λ (k : ℕ). Grows steps lines tracks node old new (by_track lines node.places.items c.args.track) k) ran all

pub returns-clause-tracked : goal.returns-clause-tracked
returns-clause-tracked g c line next way =
    let is : slice_get (opening c.args.part c.args.tracks.now c.args.track) (slice_index c.args.node.now.places.items c.args.track) ≡ Some c.in-Some.line.now =
    next_at (opening c.args.part c.args.tracks.now) c.args.node.now.places.items c.args.track c.index.result.now (Some c.in-Some.line.now) (omega arith) c.index.ensures c.in-Some.ensures in
    let steps = g.M.Machine.steps in let node = c.args.node.now in let was = c.loop-way.invariant in
    let same : c.in-Some.line.now ≡ line = next_once (opening c.args.part c.args.tracks.now) node.places.items c.args.track c.in-Some.line.now line is next in
    let (tried, le, leads, _) = c.last_way-last.ensures.last way in
    let before : tried < c.loop-way.way = omega (arith, le) in
    let (new, step, has) = was.ran tried before in (new, subst (λ l. steps node.state l way new) same (leads new step), has)

pub returns-clause-noted : goal.returns-clause-noted
returns-clause-noted g c =
    let is : slice_get (opening c.args.part c.args.tracks.now c.args.track) (slice_index c.args.node.now.places.items c.args.track) ≡ Some c.in-Some.line.now =
    next_at (opening c.args.part c.args.tracks.now) c.args.node.now.places.items c.args.track c.index.result.now (Some c.in-Some.line.now) (omega arith) c.index.ensures c.in-Some.ensures in
    ways_all g.M.Machine.notes g.M.Machine.quiet (opening c.args.part c.args.tracks.now) c.args.node.now c.args.track c.loop-way.way c.in-Some.line.now c.args.next.now.noted.items c.loop-way.next.noted.items is
    (λ w. let (tried, le, _, so) = c.last_way-last.ensures.last w in (tried, omega (arith, le), so)) c.loop-way.invariant.noted

pub returns-clause-near : goal.returns-clause-near
returns-clause-near g c = c.loop-way.invariant.near

pub returns-in-Err-clause-stopped : goal.returns-in-Err-clause-stopped
returns-in-Err-clause-stopped g c =
    let is : slice_get (opening c.args.part c.args.tracks.now c.args.track) (slice_index c.args.node.now.places.items c.args.track) ≡ Some c.in-Some.line.now =
    next_at (opening c.args.part c.args.tracks.now) c.args.node.now.places.items c.args.track c.index.result.now (Some c.in-Some.line.now) (omega arith) c.index.ensures c.in-Some.ensures in
    let lines = opening c.args.part c.args.tracks.now in let node = c.args.node.now in let was = c.loop-way.invariant.grown in
    stops_more g.M.Machine.breaks lines node c.args.next.now c.loop-way.next c.loop-way.way 1 (ways_of g.M.Machine.last node.state (slice_get (lines c.args.track) (slice_index node.places.items c.args.track))) c.in-Err.stop
    was.charged was.few (let e = ways g.M.Machine.last c.args.node.now.state (slice_get (opening c.args.part c.args.tracks.now c.args.track) (slice_index c.args.node.now.places.items c.args.track)) c.in-Some.line.now c.last_way-last.result is c.last_way-last.ensures.way in omega arith) (c.in-Err.ensures.stopped lines is)

pub returns-in_default-clause-grown : goal.returns-in_default-clause-grown
returns-in_default-clause-grown g c =
    let steps = g.M.Machine.steps in let tracks = c.args.tracks.now in let lines = opening c.args.part tracks in let node = c.args.node.now in let next = c.args.next.now in
    let made = by_track lines node.places.items c.args.track in
    let idle : 0 ≡ ways_of g.M.Machine.last node.state (slice_get (lines c.args.track) (slice_index node.places.items c.args.track)) =
    sym (ap (λ (o : Option g.row.M-Line.Denot). ways_of g.M.Machine.last node.state o) (none g c)) in
    subst (λ (k : ℕ). Grows steps lines tracks node next next made k) idle
    (grows_none steps lines tracks node next made (gains_no_line steps tracks lines node next.nodes.items c.args.track (none g c)))

pub returns-in_default-clause-tracked : goal.returns-in_default-clause-tracked
returns-in_default-clause-tracked g c line next = let never = none g c in absurd (cc)

pub returns-in_default-clause-noted : goal.returns-in_default-clause-noted
returns-in_default-clause-noted g c =
    ways_no_line g.M.Machine.notes g.M.Machine.quiet (opening c.args.part c.args.tracks.now) c.args.node.now c.args.track c.args.next.now.noted.items (none g c)

pub returns-in_default-clause-near : goal.returns-in_default-clause-near
returns-in_default-clause-near g c = c.requires.again

pub run-requires-clause-within : goal.run-requires-clause-within
run-requires-clause-within g c = omega arith

pub run-requires-clause-again : goal.run-requires-clause-again
run-requires-clause-again g c = c.loop-way.invariant.near

pub next_line-requires : goal.next_line-requires
next_line-requires g c = c.requires.within

-- behind the place of a line there is room for one more
fits_behind : {L : Type 0} (track : Option (Vec L)) (place : ℕ) (line : L) → slice_get (lines_in track) place ≡ Some line → place + 1 < 18446744073709551616
fits_behind None place line found = let within = slice_get_within [] place line found in absurd (omega arith)
fits_behind (Some lines) place line found = let within = slice_get_within lines.items place line found in omega arith

pub run-requires-clause-fits : goal.run-requires-clause-fits
run-requires-clause-fits g c =
    let is : slice_get (opening c.args.part c.args.tracks.now c.args.track) (slice_index c.args.node.now.places.items c.args.track) ≡ Some c.in-Some.line.now =
    next_at (opening c.args.part c.args.tracks.now) c.args.node.now.places.items c.args.track c.index.result.now (Some c.in-Some.line.now) (omega arith) c.index.ensures c.in-Some.ensures in
    fits_behind (slice_get c.args.tracks.now c.args.track) (slice_index c.args.node.now.places.items c.args.track) c.in-Some.line.now
    (opened c.args.part c.args.tracks.now c.args.node.now.places.items c.args.track c.in-Some.line.now is).1
