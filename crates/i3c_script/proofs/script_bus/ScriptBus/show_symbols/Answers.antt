use Rattle.std.proofs.Common.{refl, subst, sym}
use Rattle.i3c_script.specs.Hearing.{Hears}
use Rattle.i3c_script.specs.Obeying.{IsDone}
use Rattle.i3c_script.specs.Pieces.{symbols_pieces}
use Rattle.i3c_script.proofs.script_bus.ScriptBus.show_symbols.Goals as goal
use Rattle.i3c_script.proofs.script_bus.ScriptBus.show_symbols.Goals.{in-Ok, in-Err}

pub returns-clause-told : goal.returns-clause-told
returns-clause-told g c =
    let heard = g.L.Listener.heard in
    let at = c.self.inside in
    let symbols = g.P.Past.kept.symbols at.past in
    rw (← c.self.view_is) (elim c.match-hear_symbols.branch [
      | in-Ok w ↦ subst (λ r. Hears heard (IsDone (symbols_pieces symbols)) c.args.listener.now c.hear_symbols.new.listener r) (sym w.result-is) (symbols_pieces symbols, w.in-Ok.ensures.heard, (refl, refl))
      | in-Err w ↦ subst (λ r. Hears heard (IsDone (symbols_pieces symbols)) c.args.listener.now c.hear_symbols.new.listener r) (sym w.result-is) tt
    ])
