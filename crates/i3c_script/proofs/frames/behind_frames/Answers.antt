use Rattle.std.proofs.Common.{◌≡◌, ◌∙◌, List, [], ap, sym}
use Rattle.i3c_frame.specs.declared.symbols.Symbol.{Symbol}
use Rattle.i3c_script.specs.Framing.{whole_frames}
use Rattle.i3c_script.proofs.Framed.{behind_none, behind_one}
use Rattle.i3c_script.proofs.frames.behind_frames.Goals as goal
use Rattle.i3c_script.proofs.frames.behind_frames.Goals.{in-Some, in_default}

pub loop-preserved : goal.loop-preserved
loop-preserved c =
    let all : List (List Symbol) = whole_frames c.args.symbols.now in
    elim c.match-first_frame.branch [
      | in-Some w ↦ ap (λ r. whole_frames r.now) w.rest-is ∙ sym (behind_one c.loop.counter all _ _ (sym c.loop.invariant ∙ w.in-Some.ensures))
      | in_default w ↦
          let none : whole_frames c.loop.rest.now ≡ [] = w.in_default.ensures in
          ap (λ r. whole_frames r.now) w.rest-is ∙ none ∙ sym (behind_none c.loop.counter all (sym c.loop.invariant ∙ none))
    ]
