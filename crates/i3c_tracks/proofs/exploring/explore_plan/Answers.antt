-- What the exploration of a copy of the plan's start says is said of that start.
use Rattle.std.proofs.Common.{◌≡◌, ℕ, ◌+◌, ◌≤◌, ◌++◌, List, Result, Ok, Err, arith, inr, length, refl, subst}
use Rattle.std.specs.Global.{Vec}
use Rattle.std.specs.Prelude.{IfOk, OnOk}
use Rattle.i3c_explore.specs.declared.limits.Limits.{Limits}
use Rattle.i3c_explore.specs.declared.ran.Ran.{Ran}
use Rattle.i3c_explore.specs.declared.stop.Stop.{Stop}
use Rattle.i3c_explore.specs.declared.turn.Turn.{Turn}
use Rattle.i3c_explore.specs.Blocks.{IsBegun, IsShortestInPart, LeadsOn}
use Rattle.i3c_explore.specs.Explorations.{Explores}
use Rattle.i3c_explore.specs.Notes.{AreNoted}
use Rattle.i3c_explore.specs.Parts.{IsOfPart, Part}
use Rattle.i3c_explore.specs.Runs.{IsByLayers}
use Rattle.i3c_scene.specs.declared.line.Line.{Line}
use Rattle.i3c_scene.specs.Latest.{latest_of}
use Rattle.i3c_scene.specs.Scenes.{Seen}
use Rattle.i3c_scene.specs.Trying.{LineBreaks, LineComesTo, LineSteps}
use Rattle.i3c_tracks.specs.declared.answer.Answer.{Answer}
use Rattle.i3c_tracks.specs.declared.plan.Plan.{Plan}
use Rattle.i3c_tracks.specs.declared.question.Question.{Question}
use Rattle.i3c_tracks.specs.declared.showing.Showing.{Showing}
use Rattle.i3c_tracks.specs.declared.refusal.Reason.{Reason}
use Rattle.i3c_tracks.specs.Answering.{IsPrinted}
use Rattle.i3c_tracks.specs.Courses.{AreRunsOf, LeadsTo}
use Rattle.i3c_tracks.specs.Planning.{IsPlan}
use Rattle.i3c_tracks.specs.Refusing.{at_end}
use Rattle.i3c_tracks.specs.Telling.{refusal_line, script_text}
use Rattle.i3c_tracks.proofs.exploring.explore_plan.Goals as goal

-- an order that is answered breaks an expectation, and no shorter one does
shortest_of : (part : Part) (blocks : List (Vec (Vec Line))) (start : Seen) (limits : Limits) (stop : Stop) (order : Vec Turn) → stop ≡ Stop.Breaks order → Explores LineSteps latest_of LineBreaks (LineComesTo Ran.Noted) (LineComesTo Ran.Held) part blocks start limits (Err stop)
    → IsShortestInPart LineSteps LineBreaks part blocks start order.items
shortest_of part blocks start limits stop order is = subst (λ (s : Stop). Explores LineSteps latest_of LineBreaks (LineComesTo Ran.Noted) (LineComesTo Ran.Held) part blocks start limits (Err s)) is

pub returns-in_ok-push_report-in-Ok-clause-answer : goal.returns-in_ok-push_report-in-Ok-clause-answer
returns-in_ok-push_report-in-Ok-clause-answer g c =
    subst (λ (s : Seen). (course : List (List Turn)) → IsBegun c.args.plan.now.blocks.items course → IsOfPart c.args.part c.args.plan.now.blocks.items course → (end : Seen) × LeadsOn LineSteps c.args.plan.now.blocks.items s course end) c.in_ok-start.ensures
    (subst (λ (bs : List (Vec (Vec Line))). (course : List (List Turn)) → IsBegun bs course → IsOfPart c.args.part bs course → (end : Seen) × LeadsOn LineSteps bs c.in_ok-start.start course end) c.deref.ensures.value c.in-Ok.ensures.all)

pub returns-in_ok-push_broken-in-Err-Breaks-clause-answer : goal.returns-in_ok-push_broken-in-Err-Breaks-clause-answer
returns-in_ok-push_broken-in-Err-Breaks-clause-answer g c =
    let order = c.in-Err-Breaks.order in (
      order.items,
      subst (λ (s : Seen). IsShortestInPart LineSteps LineBreaks c.args.part c.args.plan.now.blocks.items s order.items) c.in_ok-start.ensures
          (subst (λ (bs : List (Vec (Vec Line))). IsShortestInPart LineSteps LineBreaks c.args.part bs c.in_ok-start.start order.items) c.deref.ensures.value (shortest_of c.args.part c.deref.result.now c.in_ok-start.start c.in-Some.left c.in-Err-Breaks.field-0 order c.in-Err-Breaks.field-0-is c.in-Err-Breaks.ensures)),
    )

pub push_report-requires : goal.push_report-requires
push_report-requires g c = omega (arith, c.in-Some.ensures.steps, c.in-Ok.ensures.within, c.len.ensures)

pub returns-in_ok-push_report-in-Ok-clause-printed : goal.returns-in_ok-push_report-in-Ok-clause-printed
returns-in_ok-push_report-in-Ok-clause-printed g c is known =
    let (said, report, put) = c.in_ok-push_report-in-Ok.ensures in
    let plan = c.args.plan.now in
    let part = c.args.part in
    let ends = c.in-Ok.found.ends.items in
    let orders = c.in-Ok.found.orders in
    let ran = c.in-Ok.found.steps in
    let found : LeadsTo c.in_ok-start.start c.deref.result.now part ends orders = record {
      led = c.in-Ok.ensures.ends;
      reached = c.in-Ok.ensures.reached;
      counted = c.in-Ok.ensures.counted;
    } in
    let leads = subst (λ (s : Seen). LeadsTo s plan.blocks.items part ends orders) c.in_ok-start.ensures
    (subst (λ (bs : List (Vec (Vec Line))). LeadsTo c.in_ok-start.start bs part ends orders) c.deref.ensures.value found) in
    let layers = subst (λ (n : ℕ). IsByLayers LineSteps latest_of part plan.blocks.items plan.start n ends ran) c.in-Some.ensures.states
    (subst (λ (s : Seen). IsByLayers LineSteps latest_of part plan.blocks.items s c.in-Some.left.states ends ran) c.in_ok-start.ensures
    (subst (λ (bs : List (Vec (Vec Line))). IsByLayers LineSteps latest_of part bs c.in_ok-start.start c.in-Some.left.states ends ran) c.deref.ensures.value c.in-Ok.ensures.layers)) in
    let noted = c.in-Ok.found.noted.items in
    let are = subst (λ (s : Seen). AreNoted LineSteps (LineComesTo Ran.Noted) (LineComesTo Ran.Held) part plan.blocks.items s noted) c.in_ok-start.ensures
    (subst (λ (bs : List (Vec (Vec Line))). AreNoted LineSteps (LineComesTo Ran.Noted) (LineComesTo Ran.Held) part bs c.in_ok-start.start noted) c.deref.ensures.value c.in-Ok.ensures.noted) in
    let within : ran + length plan.before.items ≤ c.args.limits.steps = omega (arith, c.in-Some.ensures.steps, c.in-Ok.ensures.within, c.len.ensures) in
    (said, record { plan = plan; is = is; known = known; ends = ends; orders = orders; ran = ran; leads = leads; layers = layers; within = within; noted = noted; are = are; report = report }, put)

pub returns-in_ok-push_broken-in-Err-Breaks-clause-printed : goal.returns-in_ok-push_broken-in-Err-Breaks-clause-printed
returns-in_ok-push_broken-in-Err-Breaks-clause-printed g c is known =
    let order = c.in-Err-Breaks.order in
    let plan = c.args.plan.now in
    let shortest = subst (λ (s : Seen). IsShortestInPart LineSteps LineBreaks c.args.part plan.blocks.items s order.items) c.in_ok-start.ensures
    (subst (λ (bs : List (Vec (Vec Line))). IsShortestInPart LineSteps LineBreaks c.args.part bs c.in_ok-start.start order.items) c.deref.ensures.value (shortest_of c.args.part c.deref.result.now c.in_ok-start.start c.in-Some.left c.in-Err-Breaks.field-0 order c.in-Err-Breaks.field-0-is c.in-Err-Breaks.ensures)) in
    let (runs, number, there, found, broken, put) = c.in_ok-push_broken-in-Err-Breaks.ensures in
    let turns = rw c.in-Err-Breaks.field-0-is at c.deref-in-Err-Breaks.ensures.value in
    let are = subst (λ (turns : List Turn). AreRunsOf plan.blocks.items plan.opened.items turns runs) turns found in
    (script_text c.args.lines.now plan.before.items runs number there, record { plan = plan; is = is; order = order.items; shortest = shortest; runs = runs; are = are; number = number; there = there; broken = broken; script = refl }, put)

-- a file with a plan, where a limit was reached
limited : {E : Type 0} (lines : List (Vec ℕ)) (limits : Limits) (part : Part) (showing : Showing) (questions : List Question) (plan : Plan) (result : Result Answer E) (old new : List ℕ) → IsPlan lines plan → IfOk result (λ (answer : Answer). answer ≡ Answer.Refused)
    → OnOk result (new ≡ old ++ refusal_line (at_end Reason.Most)) → IfOk result (λ (answer : Answer). IsPrinted lines limits part showing questions answer old new)
limited lines limits part showing questions plan (Ok Answer.Refused) old new is refused put = (at_end Reason.Most, inr (plan, is, refl), put)
limited lines limits part showing questions plan (Ok Answer.Holds) old new is refused put = absurd cc
limited lines limits part showing questions plan (Ok Answer.Breaks) old new is refused put = absurd cc
limited lines limits part showing questions plan (Err e) old new is refused put = tt

pub returns-in-Err-Most-clause-printed : goal.returns-in-Err-Most-clause-printed
returns-in-Err-Most-clause-printed g c is known = limited c.args.lines.now c.args.limits c.args.part c.args.showing c.args.questions.now c.args.plan.now c.refuse_most-in-Err-Most.result c.args.text.now c.refuse_most-in-Err-Most.new.text is c.refuse_most-in-Err-Most.ensures.answer c.refuse_most-in-Err-Most.ensures.printed

pub returns-in_default-clause-printed : goal.returns-in_default-clause-printed
returns-in_default-clause-printed g c is known = limited c.args.lines.now c.args.limits c.args.part c.args.showing c.args.questions.now c.args.plan.now c.refuse_most.result c.args.text.now c.refuse_most.new.text is c.refuse_most.ensures.answer c.refuse_most.ensures.printed
