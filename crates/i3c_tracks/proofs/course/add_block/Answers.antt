use Rattle.std.proofs.Common.{◌≡◌, ◌++◌, List, reverse, subst, sym, take}
use Rattle.i3c_explore.specs.declared.turn.Turn.{Turn}
use Rattle.i3c_tracks.specs.declared.course.Run.{Run}
use Rattle.i3c_tracks.specs.Courses.{ArePlaces, AreRuns}
use Rattle.i3c_tracks.proofs.CourseLaws.{more_turns, runs_more}
use Rattle.i3c_tracks.proofs.course.add_block.Goals as goal

pub loop-turn-preserved : goal.loop-turn-preserved
loop-turn-preserved c =
    let before : List Turn = reverse (take c.loop-turn.turn-index c.args.turns.now) in
    let (own, are, is) = c.loop-turn.invariant.1 in
    let more = sym (more_turns c.args.turns.now c.loop-turn.turn-index _ c.loop-turn-test.true) in (
      subst (λ (o : List Turn). ArePlaces c.args.block.now o c.add_turn.new.places.items) more (c.in_ok-add_turn.ensures.places before c.loop-turn.invariant.0),
      subst (λ (o : List Turn). (x : List Run) × AreRuns c.args.block.now c.args.opened o x × (c.add_turn.new.runs.items ≡ c.args.runs.now.items ++ x)) more
          (runs_more c.args.block.now c.args.opened before _ c.args.runs.now.items c.loop-turn.runs.items c.add_turn.new.runs.items own are is (c.in_ok-add_turn.ensures.runs before c.loop-turn.invariant.0)),
    )
