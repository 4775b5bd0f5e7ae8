use Rattle.std.proofs.Common.{refl, subst, sym}
use Rattle.i3c_script.specs.Hearing.{Hears}
use Rattle.i3c_script.specs.Obeying.{IsDone}
use Rattle.i3c_script.specs.Pieces.{frames_pieces}
use Rattle.i3c_script.proofs.script_bus.ScriptBus.show_frames.Goals as goal
use Rattle.i3c_script.proofs.script_bus.ScriptBus.show_frames.Goals.{in-Ok, in-Err}

pub returns-clause-told : goal.returns-clause-told
returns-clause-told g c =
    let heard = g.L.Listener.heard in
    let at = c.self.inside in
    let symbols = g.P.Past.kept.symbols at.past in
    rw (← c.self.view_is) (elim c.match-hear_frames.branch [
      | in-Ok w ↦ subst (λ r. Hears heard (IsDone (frames_pieces c.args.count symbols)) c.args.listener.now c.hear_frames.new.listener r) (sym w.result-is) (frames_pieces c.args.count symbols, w.in-Ok.ensures.heard, (refl, refl))
      | in-Err w ↦ subst (λ r. Hears heard (IsDone (frames_pieces c.args.count symbols)) c.args.listener.now c.hear_frames.new.listener r) (sym w.result-is) tt
    ])
