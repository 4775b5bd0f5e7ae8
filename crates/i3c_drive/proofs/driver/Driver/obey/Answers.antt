use Rattle.std.proofs.Common.{subst, sym}
use Rattle.i3c_drive.specs.Steps.{Obeyed, state}
use Rattle.i3c_drive.proofs.Driving.{lines_obeyed, pieces_obeyed}
use Rattle.i3c_drive.proofs.driver.Driver.obey.Goals as goal

pub returns-in-Lines-clause-heard : goal.returns-in-Lines-clause-heard
returns-in-Lines-clause-heard c =
    let old = state c.args.self.now in
    let new = record c.args.self.now { interpreter = c.obey.new.self } in
    subst (λ form. Obeyed form old c.args.line.now new c.obey.new.listener c.obey.result) (sym c.in-Lines.is) (lines_obeyed old c.args.line.now c.args.text.now c.obey.new.listener c.obey.result new c.requires.empty c.obey.ensures)

pub returns-in-Json-clause-heard : goal.returns-in-Json-clause-heard
returns-in-Json-clause-heard c =
    let old = state c.args.self.now in
    let new = record c.args.self.now { interpreter = c.obey-in-Json.new.self; pieces = c.obey-in-Json.new.listener } in
    subst (λ form. Obeyed form old c.args.line.now new c.args.text.now c.obey-in-Json.result) (sym c.in-Json.is) (pieces_obeyed old c.args.line.now c.args.text.now c.clear.new.self c.obey-in-Json.result new c.requires.empty c.clear.ensures c.obey-in-Json.ensures)
