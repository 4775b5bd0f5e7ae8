-- What the lines of a program come to, one after another, while it meets every order.
use Rattle.std.specs.Prelude.{◌≡◌, ◌≢◌, ◌⊎◌, ◌++◌, ◌||◌, ◌≤◌, ◌<◌, ◌-◌, ◌∷◌, ℕ, suc, Bool, true, false, List, [], Option, None, Some, Result, Ok, Err, codes, drop, length, replicate, slice_get, take}
use Rattle.std.specs.Fmt.{decimal}
use Rattle.std.specs.Global.{Vec}
use Rattle.serde_json.specs.Data.{Data, boolean, number as numeral, unsigned}
use Rattle.i3c_every.specs.declared.met.Met.{Met}
use Rattle.i3c_every.specs.declared.sent.Sent.{Sent}
use Rattle.i3c_every.specs.declared.marks.Taking.{Taking}
use Rattle.i3c_every.specs.declared.told.Told.{Told}
use Rattle.i3c_every.specs.Taking.{Takes}
use Rattle.i3c_every.specs.Closing.{ClosesAll, StopsClosing}
use Rattle.i3c_every.specs.Meeting.{AreMet, Fails}
use Rattle.i3c_explore.specs.declared.stop.Stop.{Stop}
use Rattle.i3c_explore.specs.declared.turn.Turn.{Turn}
use Rattle.i3c_drive.specs.Answers.{last_line}
use Rattle.i3c_drive.specs.Steps.{news_of}
use Rattle.i3c_json.specs.Objects.{put_outcome, put_unmet}
use Rattle.i3c_json.specs.Values.{text_data}
use Rattle.i3c_lines.specs.declared.names.Name.{Name}
use Rattle.i3c_orders.specs.declared.choice.Choice.{Choice}
use Rattle.i3c_orders.specs.declared.choice.Step.{Step}
use Rattle.i3c_orders.specs.declared.orders.SendFault.{SendFault}
use Rattle.i3c_orders.specs.declared.orders.Unfinished.{Unfinished}
use Rattle.i3c_orders.specs.declared.which.Which.{Which}
use Rattle.i3c_orders.specs.Numbers.{numbers_of, numbers_text}
use Rattle.i3c_orders.specs.Paths.{Answers as SendsSo, due_of, last_step, state_behind, tree}
use Rattle.i3c_scene.specs.Latest.{latest_of}
use Rattle.i3c_scene.specs.Replying.{IsSight, LineReplies, Replied}
use Rattle.i3c_scene.specs.Scenes.{Seen}
use Rattle.i3c_scene.specs.Trying.{LineBreaks, LineSteps}
use Rattle.i3c_streams.specs.declared.form.Form.{Form}
use Rattle.i3c_tracks.specs.declared.course.Run.{Run}
use Rattle.i3c_tracks.specs.Courses.{LastBreaks}
use Rattle.i3c_program.specs.declared.came.Came.{Came}
use Rattle.i3c_program.specs.declared.reason.Reason.{Reason}
use Rattle.i3c_program.specs.declared.scenario.Scenario.{Scenario}
use Rattle.i3c_program.specs.declared.selection.Selection.{Selection}
use Rattle.i3c_program.specs.declared.session.Ending.{Ending}
use Rattle.i3c_program.specs.declared.session.Session.{Session}
use Rattle.i3c_program.specs.declared.standing.Broken.{Broken}
use Rattle.i3c_program.specs.declared.standing.Standing.{Standing}
use Rattle.i3c_program.specs.declared.trial.Trial.{Trial}
use Rattle.i3c_program.specs.declared.word.Word.{Word}
use Rattle.i3c_program.specs.Answers.{WritesLine, all_text, bare_object, choices_text, due_text, put_reason, refused_line, reply_in, told_object, told_text, tried_text, unmet_text}
use Rattle.i3c_program.specs.Choosing.{GoesTo, Selects, StartsAs, TriesWhole}
use Rattle.i3c_program.specs.Scripts.{AreRunsIn, IsScript, turns_in}
use Rattle.i3c_program.specs.Words.{IsWord}

-- the lines of a run so far, each with its answer
abbrev pub run_of : Trial → List (Choice (Sent (List ℕ)) (Met Seen) (Told Replied))
run_of trial = take trial.orders.at trial.orders.path

-- where that run is
abbrev pub place_of : Trial → Met Seen
place_of trial = state_behind trial.orders.start (run_of trial)

-- what a line may be told where a run is: the scene's answers, behind every order of the tracks' lines
abbrev pub gives : Trial → Met Seen → Sent (List ℕ) → List (Step (Met Seen) (Told Replied)) → Type 0
gives trial = AreMet LineSteps (LineReplies trial.scenario.tracks.rules) IsSight trial.scenario.tracks.lines.items

-- why a line is told nothing there
abbrev pub fails : Trial → Met Seen → Sent (List ℕ) → Stop → Type 0
fails trial = Fails LineSteps latest_of LineBreaks trial.scenario.tracks.lines.items trial.scenario.tracks.limits

-- where the runs of a program begin: where the block does, and no line of its tracks has run
pub record IsStart (scenario : Scenario) (met : Met Seen) : Type 0 where
  pub state : met.state ≡ scenario.start
  pub places : met.places.items ≡ replicate (length scenario.tracks.lines.items) 0
  pub turns : met.turns.items ≡ []

-- a program before its first line, with these orders to try
pub record HasBegun (scenario : Scenario) (most states : ℕ) (which : Which) (trial : Trial) : Type 0 where
  pub start : Met Seen
  pub is_start : IsStart scenario start
  pub orders : trial.orders ≡ tree start [] 0
  pub scenario_is : trial.scenario ≡ scenario
  pub first : trial.order ≡ 1
  pub most_is : trial.most ≡ most
  pub states_is : trial.states ≡ states
  pub unmarked : trial.marks ≡ []
  pub selects : StartsAs which trial.selection
  pub asked : trial.asked.items ≡ []
  pub stands : trial.standing ≡ Standing.Going

-- what stays where no mark is taken
abbrev pub HasMarksOf : Trial → Trial → Type 0
HasMarksOf old new = (new.marks ≡ old.marks) × (new.states ≡ old.states)

-- what stays where no answer is chosen, and no order
abbrev pub IsOfOne : Trial → Trial → Type 0
IsOfOne old new = (new.scenario ≡ old.scenario) × (new.most ≡ old.most) × (new.selection ≡ old.selection) × HasMarksOf old new

-- what stays within an order, where the program hears nothing
abbrev pub IsOfOrder : Trial → Trial → Type 0
IsOfOrder old new = IsOfOne old new × (new.order ≡ old.order) × (new.asked ≡ old.asked)

-- what stays where one is chosen: all but the program's runs, and what is left to be chosen
abbrev pub IsAlike : Trial → Trial → Type 0
IsAlike old new = (new.scenario ≡ old.scenario) × (new.most ≡ old.most) × (new.order ≡ old.order) × (new.asked ≡ old.asked) × (new.standing ≡ old.standing) × HasMarksOf old new

-- nothing changes
abbrev pub Stays : Trial → Trial → Type 0
Stays old new = (new.orders ≡ old.orders) × (new.standing ≡ old.standing) × IsOfOrder old new

-- no other order is tried
abbrev pub IsStopped : Trial → Trial → Type 0
IsStopped old new = (new.standing ≡ Standing.Stopped) × (new.orders ≡ old.orders) × IsOfOrder old new

-- whether those who ask have changed
abbrev pub HasChanged : List Name → List Name → Bool → Type 0
HasChanged before after true = before ≢ after
HasChanged before after false = before ≡ after

-- where a program is behind a reply: the expectation that this breaks, if any, ends all
abbrev pub StandsAt : Option ℕ → List ℕ → Standing → Type 0
StandsAt None there standing = standing ≡ Standing.Going
StandsAt (Some line) there standing = (broken : Broken) × (standing ≡ Standing.Broken broken) × (broken.behind.items ≡ []) × (broken.number ≡ line) × (broken.there ≡ there)

-- the program hears what it was told, and who asks now
pub record Hears (old : Trial) (changed : Bool) (new : Trial) : Type 0 where
  pub step : Step (Met Seen) (Told Replied)
  pub newest : last_step (run_of new) ≡ Some step
  pub asked : new.asked.items ≡ (reply_in step.answer).asking
  pub change : HasChanged old.asked.items (reply_in step.answer).asking changed
  pub stands : StandsAt (reply_in step.answer).unmet (reply_in step.answer).there new.standing
  pub order : new.order ≡ old.order
  pub kept : IsOfOne old new

abbrev pub IsHeard : Trial → Came → Trial → Type 0
IsHeard old (Came.Told changed) new = Hears old changed new × (new.orders ≡ old.orders)
IsHeard old _ new = ⊥

-- the answer that is chosen is heard, unless there is none of the number that is named
abbrev pub IsTaken : Bool → Trial → Came → Trial → Type 0
IsTaken true old came new = IsHeard old came new
IsTaken false old came new = (came ≡ Came.Refused Reason.NoOrder) × IsStopped old new

-- an answer is chosen to a line that no run before has sent; another one is answered as there
abbrev pub HearsChosen : Bool → Trial → Came → Trial → Type 0
HearsChosen true old came new =
    (found : Bool) × (chosen : Trial) × Selects old.selection old.orders found chosen.selection chosen.orders × IsAlike old chosen × IsTaken found chosen came new
HearsChosen false old came new = IsHeard old came new

-- whether no run before has sent a line here
abbrev pub is_new : Option (Sent (List ℕ)) → Bool
is_new None = true
is_new (Some sent) = false

-- these turns behind the program's last line break the expectation of the line with this number, where this is instead
abbrev pub Finds : Trial → List Turn → ℕ → List ℕ → Type 0
Finds trial behind number there =
    (tracks : List Run) × (rest : List Run) × AreRunsIn trial.scenario (turns_in (run_of trial) ++ behind) tracks rest
    × LastBreaks (place_of trial).state (drop (length (turns_in (run_of trial))) tracks ++ rest) number there

-- these turns behind the program's last line break an expectation, which ends all
pub record IsBroken (old : Trial) (behind : Vec Turn) (new : Trial) : Type 0 where
  pub broken : Broken
  pub stands : new.standing ≡ Standing.Broken broken
  pub turns : broken.behind ≡ behind
  pub found : Finds old behind.items broken.number broken.there
  pub run : new.orders ≡ old.orders
  pub kept : IsOfOrder old new

-- what it comes to that lines of the tracks, or behind them, don't lead on
abbrev pub EndsBy : Trial → Stop → Came → Trial → Type 0
EndsBy old Stop.Memory _ new = ⊥
EndsBy old Stop.Most came new = (came ≡ Came.Refused Reason.Most) × IsStopped old new
EndsBy old (Stop.Breaks order) came new = (came ≡ Came.Breaks) × IsBroken old order new

-- what a line that the program sends comes to: it is answered; or it isn't the line that was sent here before; or lines of the tracks don't lead on to it
abbrev pub Sends : Trial → Sent (List ℕ) → Came → Trial → Type 0
Sends old sent came new =
    ((answered : Trial) × SendsSo (gives old) (fails old) old.orders sent (Ok tt) answered.orders × (answered.selection ≡ old.selection) × IsAlike old answered
    × HearsChosen (is_new (due_of (slice_get old.orders.path old.orders.at))) answered came new)
    ⊎ (SendsSo (gives old) (fails old) old.orders sent (Err SendFault.Differs) old.orders × (came ≡ Came.Differs) × IsStopped old new)
    ⊎ ((stop : Stop) × SendsSo (gives old) (fails old) old.orders sent (Err (SendFault.Failed stop)) old.orders × EndsBy old stop came new)

-- the next order begins, of which the program has heard nothing
pub record IsNext (old new : Trial) : Type 0 where
  pub few : old.order < old.most
  pub order : new.order ≡ suc old.order
  pub asked : new.asked.items ≡ []
  pub stands : new.standing ≡ old.standing
  pub run : new.orders ≡ old.orders
  pub kept : IsOfOne old new

-- the next order begins, unless as many were tried as may be
abbrev pub Begins : Trial → Came → Trial → Type 0
Begins old came new = ((came ≡ Came.Begins) × IsNext old new) ⊎ ((came ≡ Came.Refused Reason.Most) × (old.most ≤ old.order) × IsStopped old new)

-- what is said where no order is left of those that are tried
abbrev pub end_of : Selection → Came
end_of Selection.All = Came.All
end_of selection = Came.Tried

-- no order is left of those that are tried
abbrev pub IsDone : Trial → Came → Trial → Type 0
IsDone old came new = (came ≡ end_of old.selection) × (new.standing ≡ Standing.Tried) × (new.orders ≡ old.orders) × IsOfOrder old new

-- whether there is another order
abbrev pub IsTurned : Result Bool Unfinished → Trial → Came → Trial → Type 0
IsTurned (Ok true) old came new = Begins old came new
IsTurned (Ok false) old came new = IsDone old came new
IsTurned (Err unfinished) old came new = (came ≡ Came.Differs) × IsStopped old new

-- what follows where all that was left of a run has led on: another order, or none
abbrev pub GoesOn : Trial → Came → Trial → Type 0
GoesOn old came new =
    (result : Result Bool Unfinished) × (turned : Trial) × GoesTo old.selection old.orders result turned.selection turned.orders × IsAlike old turned × IsTurned result turned came new

-- what is left behind the program's last line leads on, in every order
abbrev pub IsClosed : Trial → Type 0
IsClosed old = ClosesAll LineSteps old.scenario.tracks.lines.items old.scenario.rest.items (place_of old)

-- why it doesn't
abbrev pub StopsClosed : Trial → Stop → Type 0
StopsClosed old stop = StopsClosing LineSteps latest_of LineBreaks old.scenario.tracks.lines.items old.scenario.rest.items old.scenario.tracks.limits (place_of old) stop

-- what the end of a run comes to: an earlier run that began as this one went on here; or all that is left leads on; or it doesn't
abbrev pub EndsRun : Trial → Came → Trial → Type 0
EndsRun old came new =
    ((old.orders.at < length old.orders.path) × (came ≡ Came.Differs) × IsStopped old new)
    ⊎ (IsClosed old × GoesOn old came new)
    ⊎ ((stop : Stop) × StopsClosed old stop × EndsBy old stop came new)

-- a mark is looked up where all orders are tried, or those of a part, and where no run before has sent a line here
abbrev pub LooksUp : Trial → Type 0
LooksUp trial = TriesWhole trial.selection × (due_of (slice_get trial.orders.path trial.orders.at) ≡ None)

-- what comes of a line's mark, if it is one that is looked up; nothing else changes
abbrev pub TakesMark : Trial → Sent (List ℕ) → Taking → Trial → Type 0
TakesMark old (Sent.Marks mark) taking new = (LooksUp old × Takes old.states mark (place_of old) old.marks taking new.marks) ⊎ ((LooksUp old → ⊥) × (taking ≡ Taking.New) × (new.marks ≡ old.marks))
TakesMark old sent taking new = (taking ≡ Taking.New) × (new.marks ≡ old.marks)

-- all but the marks and the bus on which lines run
abbrev pub IsSameBut : Trial → Trial → Type 0
IsSameBut old new = (new.scenario ≡ old.scenario) × (new.orders ≡ old.orders) × (new.order ≡ old.order) × (new.most ≡ old.most) × (new.states ≡ old.states) × (new.selection ≡ old.selection) × (new.asked ≡ old.asked) × (new.standing ≡ old.standing)

-- the run is left
abbrev pub IsLeft : Trial → Trial → Type 0
IsLeft old new = (new.standing ≡ Standing.Left) × (new.orders ≡ old.orders) × IsOfOrder old new

-- what a line comes to whose mark is taken, or is known, or can't be taken
abbrev pub GoesBy : Taking → Trial → Sent (List ℕ) → Came → Trial → Type 0
GoesBy Taking.New old sent came new = Sends old sent came new
GoesBy Taking.Known old sent came new = (came ≡ Came.Known) × IsLeft old new
GoesBy Taking.Full old sent came new = (came ≡ Came.Refused Reason.Most) × IsStopped old new

-- where a run was left, the next order begins from there on
abbrev pub Leaves : Trial → Came → Trial → Type 0
Leaves old came new = (mid : Trial) × (mid.standing ≡ Standing.Going) × (mid.orders ≡ old.orders) × IsOfOrder old mid × GoesOn mid came new

-- a line is refused where no orders are tried any more
abbrev pub IsOver : Trial → Came → Trial → Type 0
IsOver old came new = (old.standing ≢ Standing.Going) × (came ≡ Came.Refused Reason.Over) × Stays old new

-- what a line that says this comes to
abbrev pub Comes : Trial → Word → Came → Trial → Type 0
Comes old Word.Nothing came new = (came ≡ Came.Nothing) × Stays old new
Comes old (Word.Refused reason) came new = (came ≡ Came.Refused reason) × Stays old new
Comes old Word.Script came new = (came ≡ Came.Script) × Stays old new
Comes old Word.Choices came new = (came ≡ Came.Choices) × Stays old new
Comes old Word.Same came new = (came ≡ Came.Same) × Stays old new
Comes old (Word.Sends sent) came new = IsOver old came new ⊎ ((old.standing ≡ Standing.Going) × ((taking : Taking) × (mid : Trial) × TakesMark old sent taking mid × IsSameBut old mid × GoesBy taking mid sent came new))
Comes old Word.Again came new = (IsOver old came new × (old.standing ≢ Standing.Left)) ⊎ ((old.standing ≡ Standing.Going) × EndsRun old came new) ⊎ ((old.standing ≡ Standing.Left) × Leaves old came new)

-- what a program sends, as it is written
abbrev pub written : Sent (List ℕ) → List ℕ
written (Sent.Meets line) = line
written (Sent.Alone line) = line
written Sent.Waits = codes "wait"
written (Sent.Marks line) = line

-- the line that was due, or nothing
abbrev pub due_written : Option (Sent (List ℕ)) → List ℕ
due_written None = []
due_written (Some sent) = written sent

abbrev pub due_line : Trial → List ℕ
due_line trial = due_written (due_of (slice_get trial.orders.path trial.orders.at))

-- how many of the next lines are answered as in the run before: those that it sent here, but for the last one, which gets another answer
abbrev pub same_in : Trial → ℕ
same_in trial = length trial.orders.path - length (run_of trial) - 1

-- the answer in lines to a line that came to this, where the program is so now
abbrev pub HasLines : ℕ → Came → Trial → List ℕ → Type 0
HasLines number Came.Nothing trial said = said ≡ last_line number None
HasLines number (Came.Refused reason) trial said = said ≡ refused_line number reason
HasLines number Came.Differs trial said = said ≡ due_text (due_line trial) ++ refused_line number Reason.Differs
HasLines number (Came.Told changed) trial said = (step : Step (Met Seen) (Told Replied)) × (last_step (run_of trial) ≡ Some step) × (said ≡ told_text number step.answer (news_of changed (reply_in step.answer).asking))
HasLines number Came.Breaks trial said = (broken : Broken) × (trial.standing ≡ Standing.Broken broken) × (said ≡ unmet_text broken.number broken.there ++ refused_line number Reason.Unmet)
HasLines number Came.Begins trial said = said ≡ (codes "order " ++ (decimal trial.order ++ 10 ∷ [])) ++ last_line number None
HasLines number Came.All trial said = said ≡ all_text trial.order ++ last_line number None
HasLines number Came.Tried trial said = said ≡ tried_text trial.order ++ last_line number None
HasLines number Came.Choices trial said = said ≡ choices_text (run_of trial) ++ last_line number None
HasLines number Came.Same trial said = said ≡ (codes "same " ++ (decimal (same_in trial) ++ 10 ∷ [])) ++ last_line number None
HasLines number Came.Known trial said = said ≡ codes "known" ++ (10 ∷ last_line number None)
HasLines number Came.Script trial said = (script : List ℕ) × IsScript trial.scenario (run_of trial) trial.standing script × (said ≡ script ++ last_line number None)

-- the same answer as an object
abbrev pub HasObject : ℕ → Came → Trial → Data → Type 0
HasObject count Came.Nothing trial value = value ≡ bare_object count (put_outcome None) None
HasObject count (Came.Refused reason) trial value = value ≡ bare_object count (put_reason reason) None
HasObject count Came.Differs trial value = value ≡ bare_object count (put_reason Reason.Differs) (Some (codes "due", text_data (due_line trial)))
HasObject count (Came.Told changed) trial value = (step : Step (Met Seen) (Told Replied)) × (last_step (run_of trial) ≡ Some step) × (value ≡ told_object count step.answer (news_of changed (reply_in step.answer).asking))
HasObject count Came.Breaks trial value = (broken : Broken) × (trial.standing ≡ Standing.Broken broken) × (value ≡ bare_object count (put_unmet broken.number broken.there) None)
HasObject count Came.Begins trial value = value ≡ bare_object count (put_outcome None) (Some (codes "order", numeral (unsigned trial.order)))
HasObject count Came.All trial value = value ≡ bare_object count (put_outcome None) (Some (codes "all", numeral (unsigned trial.order)))
HasObject count Came.Tried trial value = value ≡ bare_object count (put_outcome None) (Some (codes "tried", numeral (unsigned trial.order)))
HasObject count Came.Choices trial value = value ≡ bare_object count (put_outcome None) (Some (codes "choices", text_data (numbers_text (numbers_of (run_of trial)))))
HasObject count Came.Same trial value = value ≡ bare_object count (put_outcome None) (Some (codes "same", numeral (unsigned (same_in trial))))
HasObject count Came.Known trial value = value ≡ bare_object count (put_outcome None) (Some (codes "known", boolean true))
HasObject count Came.Script trial value = (script : List ℕ) × IsScript trial.scenario (run_of trial) trial.standing script × (value ≡ bare_object count (put_outcome None) (Some (codes "script", text_data script)))

-- the answer to a line that came to this is appended to a text, in its form
abbrev pub Answers : Form → ℕ → Came → Trial → List ℕ → List ℕ → Type 0
Answers Form.Lines number came trial old new = (said : List ℕ) × HasLines number came trial said × (new ≡ old ++ said)
Answers Form.Json number came trial old new = (value : Data) × HasObject number came trial value × WritesLine value old new

-- whether a line wasn't done, for a reason of the program's own
abbrev pub is_wrong : Came → Bool
is_wrong (Came.Refused reason) = true
is_wrong Came.Differs = true
is_wrong _ = false

-- a line of a program is answered, which leaves the session so
pub record IsAnswered (old : Session) (number : ℕ) (line text : List ℕ) (new : Session) : Type 0 where
  pub word : Word
  pub is : IsWord line word
  pub came : Came
  pub comes : Comes old.trial word came new.trial
  pub answers : Answers old.form number came new.trial [] text
  pub form : new.form ≡ old.form
  pub wrong : new.wrong ≡ (old.wrong || is_wrong came)

-- how a session ends, where no other line comes
abbrev pub ending_of : Standing → Bool → Ending
ending_of (Standing.Broken broken) wrong = Ending.Unmet
ending_of Standing.Tried false = Ending.Tried
ending_of standing wrong = Ending.Wanting
