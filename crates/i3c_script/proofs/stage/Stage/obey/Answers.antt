-- What a text hears is what is printed.
use Rattle.std.proofs.Common.{refl}
use Rattle.i3c_script.specs.Obeying.{ComesTo, ObeysAt, script}
use Rattle.i3c_script.proofs.Hearing.{printed_by}
use Rattle.i3c_script.proofs.stage.Stage.obey.Goals as goal

pub returns : goal.returns
returns g c =
    let new = script c.obey_heard.new.self c.obey_heard.new.names in record {
      obeys = printed_by (λ pieces refused. ComesTo c.args.self.now c.args.names.now c.args.command.now pieces refused new) (λ said refused. ObeysAt c.args.self.now c.args.names.now c.args.command.now said refused new)
          (λ pieces refused comes. (pieces, comes, refl)) c.args.text.now c.obey_heard.new.listener c.obey_heard.result c.obey_heard.ensures.obeys;
    }
