use Rattle.std.proofs.Common.{◌≡◌, [], append-nil, Err, inl, inr, MatchOption, refl, subst, sym}
use Rattle.i3c_facts.specs.declared.marks.Mark.{Mark}
use Rattle.i3c_facts.specs.Forms.{IsMark}
use Rattle.i3c_lines.specs.declared.refusals.Refusal.{Refusal}
use Rattle.i3c_text.specs.declared.line_error.LineError.{LineError}
use Rattle.i3c_runner.specs.Expecting.{MarkDoes, misread}
use Rattle.i3c_runner.specs.Scripts.{CountedRuns}
use Rattle.i3c_runner.specs.ScriptSteps.{noted, refused_so, state}
use Rattle.i3c_runner.proofs.Expected.{prints_so}
use Rattle.i3c_runner.proofs.script.Script.obey_mark.Goals as goal

pub returns-in-Ok-Some-clause-reads : goal.returns-in-Ok-Some-clause-reads
returns-in-Ok-Some-clause-reads c =
    let now = state c.args.self.now in
    let line = c.args.line.now in
    let mark = c.in-Ok-Some.mark in
    let new = noted (state c.obey_read.new.self) c.obey_read.result in
    let is : IsMark line mark = subst (λ read. MatchOption read ((mark : Mark) → IsMark line mark → ⊥) (λ mark. IsMark line mark)) c.in-Ok-Some.field-0-is c.in-Ok-Some.ensures in
    prints_so (λ said refused. MarkDoes now mark said refused new) (λ said refused. CountedRuns now line said refused new) c.args.self.now.said.text c.obey_read.new.self.said.text c.obey_read.result
    (λ said refused does. inr (inr (inl (mark, is, does)))) c.obey_read.ensures.does

pub returns-in-Ok-None-clause-reads : goal.returns-in-Ok-None-clause-reads
returns-in-Ok-None-clause-reads c =
    let line = c.args.line.now in
    let none : (mark : Mark) → IsMark line mark → ⊥ = subst (λ read. MatchOption read ((mark : Mark) → IsMark line mark → ⊥) (λ mark. IsMark line mark)) c.in-Ok-None.field-0-is c.in-Ok-None.ensures in
    let now = c.args.self.now in
    let new : noted (state (record now { said = record now.said { heard = c.nothing-self.result }; formless = c.saturating_add-self.result })) (Err (LineError.Refused Refusal.BadLine)) ≡ misread (state now) =
    λ i. refused_so (state (record now { said = record now.said { heard = c.nothing-self.ensures i }; formless = c.saturating_add-self.ensures i })) Refusal.BadLine in
    ([], sym (append-nil now.said.text), inl ((c.requires, λ marked. none marked.0 marked.1), refl, refl, new))
