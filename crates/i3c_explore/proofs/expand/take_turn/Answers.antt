use Rattle.std.proofs.Common.{◌≡◌, List, false, true, length, rules, subst, sym}
use Rattle.std.specs.List.{slice_get, slice_index}
use Rattle.i3c_explore.specs.Owners.{own, takes}
use Rattle.i3c_explore.specs.Parts.{opening}
use Rattle.i3c_explore.specs.Runs.{ways_of}
use Rattle.i3c_explore.specs.Stops.{StopsAt}
use Rattle.i3c_explore.proofs.Growing.{grows_as, grows_from, grows_idle}
use Rattle.i3c_explore.proofs.Marking.{turn_from, turn_idle}
use Rattle.i3c_explore.proofs.Owning.{chosen, not_chosen}
use Rattle.i3c_explore.proofs.Stopping.{stops_from}
use Rattle.i3c_explore.proofs.expand.take_turn.Goals as goal

pub returns-in-Ok-clause-grown : goal.returns-in-Ok-clause-grown
returns-in-Ok-clause-grown g c =
    let steps = g.M.Machine.steps in let tracks = c.args.tracks.now in let lines = opening c.args.part tracks in let owners = c.args.owners.now in let node = c.args.node.now in let track = c.args.track in
    let is : takes owners (length tracks) c.args.job c.args.index track ≡ true = (let e = c.takes.ensures in let f = c.if-not-takes.false in search rules) in
    grows_as steps lines g.M.Machine.last tracks lines (own owners (length tracks) c.args.job lines c.args.index) node c.args.next.now c.run_track.new.next track
    (sym (chosen (takes owners (length tracks) c.args.job c.args.index track) (lines track) is))
    (grows_from steps lines tracks node c.args.next.now c.turn_to.new.self c.run_track.new.next _ _ c.turn_to.ensures.nodes c.turn_to.ensures.limits c.in-Ok.ensures.grown)

pub returns-in-Ok-clause-noted : goal.returns-in-Ok-clause-noted
returns-in-Ok-clause-noted g c =
    let tracks = c.args.tracks.now in let lines = opening c.args.part tracks in let owners = c.args.owners.now in let track = c.args.track in
    let is : takes owners (length tracks) c.args.job c.args.index track ≡ true = (let e = c.takes.ensures in let f = c.if-not-takes.false in search rules) in
    turn_from g.M.Machine.notes g.M.Machine.quiet lines (own owners (length tracks) c.args.job lines c.args.index) c.args.node.now track c.args.next.now.noted c.turn_to.new.self.noted c.run_track.new.next.noted.items c.turn_to.ensures.noted
    (sym (chosen (takes owners (length tracks) c.args.job c.args.index track) (lines track) is)) c.in-Ok.ensures.noted

pub returns-in-Err-clause-stopped : goal.returns-in-Err-clause-stopped
returns-in-Err-clause-stopped g c =
    let tracks = c.args.tracks.now in let lines = opening c.args.part tracks in let owners = c.args.owners.now in let node = c.args.node.now in let track = c.args.track in
    let is : takes owners (length tracks) c.args.job c.args.index track ≡ true = (let e = c.takes.ensures in let f = c.if-not-takes.false in search rules) in
    subst (λ (l : List g.row.M-Line.Denot). StopsAt g.M.Machine.breaks lines node c.args.next.now (ways_of g.M.Machine.last node.state (slice_get l (slice_index node.places.items track))) c.in-Err.stop)
    (sym (chosen (takes owners (length tracks) c.args.job c.args.index track) (lines track) is))
    (stops_from g.M.Machine.breaks lines node c.args.next.now c.turn_to.new.self _ c.in-Err.stop c.turn_to.ensures.nodes c.turn_to.ensures.limits c.in-Err.ensures.stopped)

pub run_track-requires : goal.run_track-requires
run_track-requires g c = record { within = c.requires.within; sized = c.requires.sized; again = c.requires.again }

pub returns-in-Ok-clause-near : goal.returns-in-Ok-clause-near
returns-in-Ok-clause-near g c = c.in-Ok.ensures.near

pub returns-then-not-takes-clause-near : goal.returns-then-not-takes-clause-near
returns-then-not-takes-clause-near g c = c.requires.again

pub returns-then-not-takes-clause-noted : goal.returns-then-not-takes-clause-noted
returns-then-not-takes-clause-noted g c =
    let tracks = c.args.tracks.now in let lines = opening c.args.part tracks in let owners = c.args.owners.now in let track = c.args.track in
    let is : takes owners (length tracks) c.args.job c.args.index track ≡ false = (let e = c.takes.ensures in let f = c.if-not-takes.true in search rules) in
    turn_idle g.M.Machine.notes g.M.Machine.quiet (own owners (length tracks) c.args.job lines c.args.index) c.args.node.now track c.args.next.now.noted.items (not_chosen (takes owners (length tracks) c.args.job c.args.index track) (lines track) is)

pub returns-then-not-takes-clause-grown : goal.returns-then-not-takes-clause-grown
returns-then-not-takes-clause-grown g c =
    let steps = g.M.Machine.steps in let tracks = c.args.tracks.now in let lines = opening c.args.part tracks in let owners = c.args.owners.now in let node = c.args.node.now in let next = c.args.next.now in let track = c.args.track in
    let mine = own owners (length tracks) c.args.job lines c.args.index in
    let is : takes owners (length tracks) c.args.job c.args.index track ≡ false = (let e = c.takes.ensures in let f = c.if-not-takes.true in search rules) in
    let idle = not_chosen (takes owners (length tracks) c.args.job c.args.index track) (lines track) is in
    grows_idle steps lines g.M.Machine.last tracks mine node next track idle
