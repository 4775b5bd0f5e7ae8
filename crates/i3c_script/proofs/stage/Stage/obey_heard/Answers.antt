use Rattle.std.proofs.Common.{subst, sym}
use Rattle.i3c_script.specs.declared.stage.Stage.{Stage}
use Rattle.i3c_script.specs.Obeying.{IsHeard, script}
use Rattle.i3c_script.proofs.stage.Stage.obey_heard.Goals as goal

pub returns-in-Declare : goal.returns-in-Declare
returns-in-Declare g c =
    let heard = g.L.Listener.heard in
    let names = c.args.names.now in
    let before = c.args.listener.now in
    let after = c.declare.new.listener in
    let result = c.declare.result in
    let new = script (Stage.Before c.declare.new.legacies) names in record {
      obeys = subst (λ stage. IsHeard heard (script stage names) c.args.command.now before after result new) (sym c.in-Before.is)
          (subst (λ command. IsHeard heard (script (Stage.Before c.in-Before.legacies) names) command before after result new) (sym c.in-Declare.is) (c.declare.ensures names));
    }
