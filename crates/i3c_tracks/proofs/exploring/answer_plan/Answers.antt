-- What the plan of a file is answered is said of the file.
use Rattle.std.proofs.Common.{ℕ, List}
use Rattle.std.specs.Global.{Vec}
use Rattle.i3c_explore.specs.Parts.{Part}
use Rattle.i3c_tracks.specs.declared.answer.Answer.{Answer}
use Rattle.i3c_tracks.specs.declared.plan.Plan.{Plan}
use Rattle.i3c_tracks.specs.Answering.{IsAnswer, IsExplored}
use Rattle.i3c_tracks.specs.Planning.{IsPlan}
use Rattle.i3c_tracks.proofs.exploring.answer_plan.Goals as goal

of_file : (lines : List (Vec ℕ)) (plan : Plan) (part : Part) (answer : Answer) → IsPlan lines plan → IsAnswer plan.start plan.blocks.items part answer → IsExplored lines part answer
of_file lines plan part Answer.Holds is answer = (plan, is, answer)
of_file lines plan part Answer.Refused is answer = tt
of_file lines plan part Answer.Breaks is answer = (plan, is, answer)

pub returns-in-Ok-clause-answer : goal.returns-in-Ok-clause-answer
returns-in-Ok-clause-answer g c = of_file c.args.lines.now c.args.plan.now c.args.part c.in-Ok.answer c.requires c.in-Ok.ensures.answer
