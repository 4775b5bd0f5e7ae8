use Rattle.std.proofs.Common.{◌≡◌, ℕ, List, [], Result, Ok, Err, arith, inl, refl, rules, subst, sym}
use Rattle.i3c_lines.specs.Forms.{HasNoForm}
use Rattle.i3c_lines.specs.declared.command.Command.{Command}
use Rattle.i3c_lines.specs.declared.refusals.Refusal.{Refusal}
use Rattle.i3c_text.specs.declared.line_error.LineError.{LineError}
use Rattle.i3c_runner.specs.Reasons.{IsReadOf}
use Rattle.std.proofs.lemmas.Grind.{common_steps}
use Rattle.std.proofs.lemmas.List.{nil_from_length}
use Rattle.i3c_runner.specs.declared.said.Said.{Said}
use Rattle.i3c_runner.specs.Expecting.{counted}
use Rattle.i3c_runner.specs.ScriptSteps.{ReadsCounted, noted, state}
use Rattle.i3c_script.specs.Obeying.{script}
use Rattle.i3c_facts.specs.Hearing.{nothing_heard}
use Rattle.i3c_runner.proofs.Expected.{command_runs, done_so}
use Rattle.i3c_runner.proofs.script.Script.obey.Goals as goal

-- a line without a form has no command, whatever it comes to
no_command : (line : List ℕ) (result : Result (Unit {0}) (LineError Refusal)) (command : Command) → HasNoForm line → IsReadOf line result command
no_command line (Ok done) command none = inl none
no_command line (Err why) command none = inl none

pub returns-else-not-is_empty-clause-reads : goal.returns-else-not-is_empty-clause-reads
returns-else-not-is_empty-clause-reads g c =
    let now = counted (state c.args.self.now) in
    let line = c.args.line.now in
    let old : Said = record { text = c.args.self.now.said.text; heard = nothing_heard } in
    let new = c.obey_heard.new.listener in
    let result = c.obey_heard.result in
    let led = script c.obey_heard.new.self c.obey_heard.new.names in
    let none : now.lasting ≡ [] = nil_from_length c.args.self.now.lasting.items (grind (arith, common_steps)) in
    let ran = command_runs now line c.read.new.self old new result led refl (c.in-Ok-false.ensures.short, c.in-Some.ensures) c.obey_heard.ensures.obeys none in
    subst (λ n. ReadsCounted now line old.text new.text result (noted (record (done_so now led new.heard) { lines = n }) result)) (sym c.saturating_add-self.ensures) ran

pub returns-then-not-is_empty-clause-reads : goal.returns-then-not-is_empty-clause-reads
returns-then-not-is_empty-clause-reads g c =
    let now = state c.args.self.now in
    let line = c.args.line.now in
    subst (λ n. ReadsCounted (record now { lines = n }) line c.args.self.now.said.text c.obey_and_test.new.self.said.text c.obey_and_test.result (noted (state c.obey_and_test.new.self) c.obey_and_test.result)) c.saturating_add-self.ensures
    (c.obey_and_test.ensures.reads line (c.in-Ok-false.ensures.short, c.in-Some.ensures))

pub returns-in-None-clause-meant : goal.returns-in-None-clause-meant
returns-in-None-clause-meant g c =
    let formless : HasNoForm c.args.line.now = search rules in
    no_command c.args.line.now c.obey_mark-in-None.result c.obey_mark-in-None.new.self.command formless
