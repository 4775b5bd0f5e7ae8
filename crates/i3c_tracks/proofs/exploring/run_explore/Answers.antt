-- A fault of a file's lines is one of the file.
use Rattle.std.proofs.Common.{ℕ, List, Option, subst}
use Rattle.std.specs.Global.{Vec}
use Rattle.i3c_tracks.specs.declared.explore_fault.ExploreFault.{ExploreFault}
use Rattle.i3c_tracks.specs.declared.question.Question.{Question}
use Rattle.i3c_tracks.specs.Planning.{AreLines}
use Rattle.i3c_tracks.specs.Questions.{IsFault, IsFaultOf}
use Rattle.i3c_tracks.proofs.exploring.run_explore.Goals as goal

of_lines : (file : Option (List ℕ)) (lines : List (Vec ℕ)) (questions : List Question) (fault : ExploreFault) → AreLines file lines → IsFaultOf lines questions fault → IsFault file questions fault
of_lines file lines questions (ExploreFault.Script fault) are is = tt
of_lines file lines questions (ExploreFault.NoName place) are is = (lines, are, is)

pub returns-clause-fault : goal.returns-clause-fault
returns-clause-fault g c =
    of_lines (g.R.Read.remaining c.args.reader.now) c.in-Ok.lines.items c.args.questions.now c.in-Err-answer_file.fault c.in-Ok.ensures.lines
    (subst (λ (lines : List (Vec ℕ)). IsFaultOf lines c.args.questions.now c.in-Err-answer_file.fault) c.deref.ensures.value c.in-Err-answer_file.ensures.fault)
