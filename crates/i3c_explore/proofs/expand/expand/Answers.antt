use Rattle.std.proofs.Common.{◌≡◌, ◌+◌, ℕ, arith, length, subst, sym}
use Rattle.std.specs.List.{slice_get, slice_index}
use Rattle.std.proofs.lemmas.Bool.{false≢true}
use borrow.Author.Count.{below_more}
use Rattle.i3c_explore.specs.Explorations.{Grows}
use Rattle.i3c_explore.specs.Notes.{IsNoted, IsQuiet}
use Rattle.i3c_explore.specs.Owners.{own}
use Rattle.i3c_explore.specs.Parts.{opening}
use Rattle.i3c_explore.specs.Runs.{runs_of, ways_of}
use Rattle.i3c_explore.specs.Shares.{IsLed, by_track, by_tracks}
use Rattle.i3c_explore.proofs.Counting.{gains_track}
use Rattle.i3c_explore.proofs.Expanding.{expanded_kept}
use Rattle.i3c_explore.proofs.Growing.{grows_both, grows_none}
use Rattle.i3c_explore.proofs.Marking.{own_quiet, tracks_all, tracks_next, tracks_none}
use Rattle.i3c_explore.proofs.Running.{track_more, tracks_up}
use Rattle.i3c_explore.proofs.Sharing.{added_none}
use Rattle.i3c_explore.proofs.Stopping.{stops_more}
use Rattle.i3c_explore.proofs.expand.expand.Goals as goal

pub loop-track-preserved : goal.loop-track-preserved
loop-track-preserved g c =
    let done = c.in-Ok.ensures in let was = c.loop-track.invariant in let track = c.loop-track.track in
    let steps = g.M.Machine.steps in let last = g.M.Machine.last in let tracks = c.args.tracks.now in let all = opening c.args.part tracks in let lines = own c.args.owners.now (length tracks) c.args.job all c.args.index in let node = c.args.node.now in
    let old = c.args.next.now in let mid = c.loop-track.next in let new = c.take_turn.new.next in record {
      grown = subst (λ (k : ℕ). Grows steps all tracks node old new (by_tracks lines node.places.items (track + 1)) k) (sym (track_more last lines node track))
          (grows_both steps all tracks node old mid new (by_tracks lines node.places.items track) (by_track lines node.places.items track) (by_tracks lines node.places.items (track + 1)) (runs_of last lines node track)
          (ways_of last node.state (slice_get (lines track) (slice_index node.places.items track))) was.grown done.grown
          (gains_track steps tracks lines node old.nodes.items mid.nodes.items new.nodes.items track was.grown.counted done.grown.counted));
      expanded = below_more _ _ (expanded_kept steps lines track node mid.nodes.items new.nodes.items done.grown.keeps was.expanded) done.tracked;
      noted = tracks_next (IsNoted g.M.Machine.notes lines node) (IsQuiet g.M.Machine.quiet lines node) track old.noted.items mid.noted.items new.noted.items was.noted done.noted;
      near = done.near;
    }

pub loop-track-init : goal.loop-track-init
loop-track-init g c =
    let tracks = c.args.tracks.now in let all = opening c.args.part tracks in let lines = own c.args.owners.now (length tracks) c.args.job all c.args.index in let node = c.args.node.now in let next = c.args.next.now in record {
      grown = grows_none g.M.Machine.steps all tracks node next (by_tracks lines node.places.items 0) (λ starts past own mine. added_none (IsLed g.M.Machine.steps tracks starts past) next.nodes.items);
      expanded = λ t lt. absurd (omega arith);
      noted = tracks_none (IsNoted g.M.Machine.notes lines node) (IsQuiet g.M.Machine.quiet lines node) next.noted.items;
      near = λ t. absurd (false≢true t);
    }

pub returns-clause-noted : goal.returns-clause-noted
returns-clause-noted g c =
    let tracks = c.args.tracks.now in let lines = own c.args.owners.now (length tracks) c.args.job (opening c.args.part tracks) c.args.index in let node = c.args.node.now in
    tracks_all (IsNoted g.M.Machine.notes lines node) (IsQuiet g.M.Machine.quiet lines node) c.loop-track.track c.args.next.now.noted.items c.loop-track.next.noted.items
    (λ t k went. own_quiet g.M.Machine.quiet c.args.owners.now (length tracks) c.args.job c.args.index c.args.part tracks node c.loop-track.track t k (omega arith) went) c.loop-track.invariant.noted

pub returns-clause-grown : goal.returns-clause-grown
returns-clause-grown g c =
    let tracks = c.args.tracks.now in let all = opening c.args.part tracks in let lines = own c.args.owners.now (length tracks) c.args.job all c.args.index in let node = c.args.node.now in
    let end : c.loop-track.track ≡ length tracks = omega arith in
    subst (λ (count : ℕ). Grows g.M.Machine.steps all tracks node c.args.next.now c.loop-track.next (by_tracks lines node.places.items count) (runs_of g.M.Machine.last lines node count)) end c.loop-track.invariant.grown

pub returns-in-Err-clause-stopped : goal.returns-in-Err-clause-stopped
returns-in-Err-clause-stopped g c =
    let was = c.loop-track.invariant.grown in let track = c.loop-track.track in let last = g.M.Machine.last in
    let tracks = c.args.tracks.now in let all = opening c.args.part tracks in let lines = own c.args.owners.now (length tracks) c.args.job all c.args.index in let node = c.args.node.now in
    let runs = track_more last lines node track in let up = tracks_up last lines node (track + 1) (length tracks) (omega arith) in
    stops_more g.M.Machine.breaks all node c.args.next.now c.loop-track.next (runs_of last lines node track) (ways_of last node.state (slice_get (lines track) (slice_index node.places.items track))) (runs_of last lines node (length tracks)) c.in-Err.stop
    was.charged was.few (omega arith) c.in-Err.ensures.stopped
