use Rattle.std.proofs.Common.{◌≤◌, [], arith, Ok, refl, subst, sym}
use Rattle.std.proofs.lemmas.Grind.{common_steps}
use Rattle.i3c_base.specs.State.{no_board}
use Rattle.i3c_facts.specs.Hearing.{no_line}
use Rattle.i3c_script.specs.declared.stage.Stage.{Stage}
use Rattle.i3c_script.specs.Obeying.{script}
use Rattle.i3c_runner.specs.Expecting.{HasBegun, Standing}
use Rattle.i3c_runner.specs.Scripts.{LinesGoOut}
use Rattle.i3c_runner.specs.ScriptSteps.{progress}
use Rattle.i3c_runner.proofs.ScriptRead.{none_run, part_run, whole_run}
use Rattle.i3c_runner.proofs.script.run_script.Goals as goal

pub returns-in_default-clause-lines : goal.returns-in_default-clause-lines
returns-in_default-clause-lines g c =
    let start : Standing = record { script = script (Stage.Before no_board) c.new-none.result; lines = 0; before = no_line; unmet = 0; lasting = []; formless = 0 } in
    let begun : HasBegun start = record { script = record { stage = refl; unnamed = c.new-none.ensures.places; slots = c.new-none.ensures.slots; legacies = c.new-none.ensures.legacies }; lines = refl; before = refl; unmet = refl; lasting = refl; formless = refl } in
    none_run (g.R.Read.remaining c.args.reader.now) (g.W.Write.contents c.args.writer.now) start begun

pub returns-in-Ok-outcome-clause-lines : goal.returns-in-Ok-outcome-clause-lines
returns-in-Ok-outcome-clause-lines g c =
    let known = g.R.Read.remaining c.args.reader.now in
    let left = g.R.Read.remaining c.read_all-outcome.new.reader in
    let old = g.W.Write.contents c.args.writer.now in
    let new = g.W.Write.contents c.read_all-outcome.new.out in
    let from = progress c.new-script.result in
    let to = progress c.read_all-outcome.new.self in
    let small : c.read_all-outcome.new.self.refused ≤ 18446744073709551615 = grind (arith, common_steps) in
    let read = c.in-Ok-outcome.ensures.runs c.new-script.ensures.held in
    subst (λ t. LinesGoOut known left old new (Ok t)) (λ i. record { refused = sym c.retire-tally.ensures.refused i; unmet = sym c.retire-tally.ensures.unmet i })
    (whole_run known left old new from to c.new-script.ensures.begun c.new-script.ensures.refused read c.in-Ok-outcome.ensures.whole small)

pub returns-clause-lines : goal.returns-clause-lines
returns-clause-lines g c =
    part_run (g.R.Read.remaining c.args.reader.now) (g.R.Read.remaining c.read_all-outcome.new.reader) (g.W.Write.contents c.args.writer.now) (g.W.Write.contents c.read_all-outcome.new.out)
    (progress c.new-script.result) c.in-Err.fault c.new-script.ensures.begun (c.in-Err.ensures.runs c.new-script.ensures.held)
