-- A program's lines, one after another, as calls of its runs.
use Rattle.std.proofs.Common.{◌≡◌, ◌⊎◌, ◌∙◌, inl, inr, ◌<◌, ◌≤◌, ◌+◌, ℕ, suc, zero, Bool, true, false, List, [], ◌∷◌, ◌++◌, All, Contains, MatchOption, Option, None, Some, Result, Ok, Err, ap, arith, get_or, length, refl, subst, sym, take}
use Rattle.std.proofs.lemmas.List.{take_all, take_more}
use Rattle.std.proofs.lemmas.List.Elements.{All-cons, Contains-append_cases}
use Rattle.std.proofs.lemmas.Option.{same_Some, slice_get_cases}
use Rattle.std.specs.List.{slice_get}
use Rattle.i3c_every.specs.declared.met.Met.{Met}
use Rattle.i3c_every.specs.declared.sent.Sent.{Sent}
use Rattle.i3c_every.specs.declared.marks.Taking.{Taking}
use Rattle.i3c_every.specs.declared.told.Told.{Told}
use Rattle.i3c_every.specs.Closing.{ClosesAll}
use Rattle.i3c_every.specs.Meeting.{AreMet}
use Rattle.i3c_every.specs.Every.{MeetsEvery}
use Rattle.i3c_explore.specs.declared.stop.Stop.{Stop}
use Rattle.i3c_orders.specs.declared.choice.Choice.{Choice}
use Rattle.i3c_orders.specs.declared.choice.Step.{Step}
use Rattle.i3c_orders.specs.declared.orders.Unfinished.{Unfinished}
use Rattle.i3c_orders.specs.declared.which.Which.{Which}
use Rattle.i3c_orders.specs.Paths.{Ends, IsAnswered as IsCalled, IsSent, Tree, due_of, last_step, state_behind, steps_of, tree}
use Rattle.i3c_orders.specs.Runs.{state_after}
use Rattle.i3c_orders.specs.Sessions.{Call, IsSession, told_now}
use Rattle.i3c_scene.specs.Replying.{IsSight, LineReplies, Replied}
use Rattle.i3c_scene.specs.Scenes.{Seen}
use Rattle.i3c_scene.specs.Trying.{LineSteps}
use Rattle.i3c_program.specs.declared.came.Came.{Came}
use Rattle.i3c_program.specs.declared.scenario.Scenario.{Scenario}
use Rattle.i3c_program.specs.declared.selection.Selection.{Selection}
use Rattle.i3c_program.specs.declared.session.Session.{Session}
use Rattle.i3c_program.specs.declared.standing.Standing.{Standing}
use Rattle.i3c_program.specs.declared.trial.Trial.{Trial}
use Rattle.i3c_program.specs.declared.word.Word.{Word}
use Rattle.i3c_program.specs.Answers.{reply_in}
use Rattle.i3c_program.specs.Choosing.{GoesTo, Selects}
use Rattle.i3c_program.specs.Laws.{Follows, HasMetAll, HasNoMarks, Holds, IsPlayed}
use Rattle.i3c_program.specs.Sessions.{Begins, Comes, EndsBy, EndsRun, GoesBy, GoesOn, HasBegun, Hears, HearsChosen, IsClosed, IsHeard, IsSameBut, IsStart, IsStopped, IsTaken, IsTurned, Sends, StandsAt, Stays, TakesMark, is_new, place_of}

-- a line of a run whose reply breaks no expectation
abbrev pub IsMet : Choice (Sent (List ℕ)) (Met Seen) (Told Replied) → Type 0
IsMet choice = (reply_in choice.taken.answer).unmet ≡ None

-- no line of a path breaks one
abbrev pub AreAllMet : List (Choice (Sent (List ℕ)) (Met Seen) (Told Replied)) → Type 0
AreAllMet [] = Unit {0}
AreAllMet (choice ∷ path) = IsMet choice × AreAllMet path

pub all_more : (path : List (Choice (Sent (List ℕ)) (Met Seen) (Told Replied))) (choice : Choice (Sent (List ℕ)) (Met Seen) (Told Replied)) → AreAllMet path → IsMet choice → AreAllMet (path ++ choice ∷ [])
all_more [] choice all one = (one, tt)
all_more (first ∷ path) choice (is, all) one = (is, all_more path choice all one)

pub steps_met : (path : List (Choice (Sent (List ℕ)) (Met Seen) (Told Replied))) → AreAllMet path → All (λ (step : Step (Met Seen) (Told Replied)). (reply_in step.answer).unmet ≡ None) (steps_of path)
steps_met [] all = λ k d few. absurd (omega (arith, few))
steps_met (first ∷ path) (is, all) = All-cons (λ (step : Step (Met Seen) (Told Replied)). (reply_in step.answer).unmet ≡ None) first.taken (steps_of path) is (steps_met path all)

pub behind_steps : (start : Met Seen) (path : List (Choice (Sent (List ℕ)) (Met Seen) (Told Replied))) → state_behind start path ≡ state_after start (steps_of path)
behind_steps start [] = refl
behind_steps start (choice ∷ path) = behind_steps choice.taken.state path

pub last_more : (path : List (Choice (Sent (List ℕ)) (Met Seen) (Told Replied))) (choice : Choice (Sent (List ℕ)) (Met Seen) (Told Replied)) → last_step (path ++ choice ∷ []) ≡ Some choice.taken
last_more [] choice = refl
last_more (first ∷ []) choice = refl
last_more (first ∷ second ∷ path) choice = last_more (second ∷ path) choice

-- an answered line leaves where runs begin
same_start : (gives : Met Seen → Sent (List ℕ) → List (Step (Met Seen) (Told Replied)) → Type 0) (old : Tree (Sent (List ℕ)) (Met Seen) (Told Replied)) (sent : Sent (List ℕ)) (new : Tree (Sent (List ℕ)) (Met Seen) (Told Replied)) → IsCalled gives old sent new → new.start ≡ old.start
same_start gives old sent new called = go (slice_get old.path old.at) called
  where
    go : (o : Option (Choice (Sent (List ℕ)) (Met Seen) (Told Replied))) → MatchOption o (IsSent gives old sent new) (λ choice. (choice.line ≡ sent) × (new ≡ tree old.start old.path (suc old.at))) → new.start ≡ old.start
    go None is = is.start
    go (Some choice) again = ap (λ (t : Tree (Sent (List ℕ)) (Met Seen) (Told Replied)). t.start) again.1

-- all runs begin where the first one does
session_start : (gives : Met Seen → Sent (List ℕ) → List (Step (Met Seen) (Told Replied)) → Type 0) (program : List (Told Replied) → Option (Sent (List ℕ))) (start : Met Seen) (calls : List Call) (tried : List (List (Step (Met Seen) (Told Replied)))) (new : Tree (Sent (List ℕ)) (Met Seen) (Told Replied))
    → IsSession gives program start calls tried new → new.start ≡ start
session_start gives program start [] tried new (none, is) = ap (λ (t : Tree (Sent (List ℕ)) (Met Seen) (Told Replied)). t.start) is
session_start gives program start (Call.Send ∷ before) tried new (old, sent, is, asks, called) = same_start gives old sent new called ∙ session_start gives program start before tried old is
session_start gives program start (Call.Again ∷ before) tried new (old, done, is, ends, (last, back, at, begins), more) = begins ∙ session_start gives program start before done old is

-- a line that is answered is the run's next
pub next_called : (gives : Met Seen → Sent (List ℕ) → List (Step (Met Seen) (Told Replied)) → Type 0) (old : Tree (Sent (List ℕ)) (Met Seen) (Told Replied)) (sent : Sent (List ℕ)) (new : Tree (Sent (List ℕ)) (Met Seen) (Told Replied)) → IsCalled gives old sent new
    → (choice : Choice (Sent (List ℕ)) (Met Seen) (Told Replied)) × (take new.at new.path ≡ take old.at old.path ++ choice ∷ [])
next_called gives old sent new called = go ((slice_get_cases old.path old.at).1)
  where
    P : Option (Choice (Sent (List ℕ)) (Met Seen) (Told Replied)) → Type 0
    P o = MatchOption o (IsSent gives old sent new) (λ choice. (choice.line ≡ sent) × (new ≡ tree old.start old.path (suc old.at)))

    go : ((choice : Choice (Sent (List ℕ)) (Met Seen) (Told Replied)) × (old.at < length old.path) × (slice_get old.path old.at ≡ Some choice) × (get_or old.path old.at choice ≡ choice)) ⊎ ((length old.path ≤ old.at) × (slice_get old.path old.at ≡ None))
        → (choice : Choice (Sent (List ℕ)) (Met Seen) (Told Replied)) × (take new.at new.path ≡ take old.at old.path ++ choice ∷ [])
    go (inl (choice, inside, there, is)) =
        let again : (choice.line ≡ sent) × (new ≡ tree old.start old.path (suc old.at)) = subst P there called in
        let next : suc old.at ≡ old.at + 1 = omega (arith) in
        (choice, ap (λ (t : Tree (Sent (List ℕ)) (Met Seen) (Told Replied)). take t.at t.path) again.1 ∙ ap (λ n. take n old.path) next ∙ take_more old.path old.at choice inside ∙ ap (λ c. take old.at old.path ++ c ∷ []) is)
    go (inr (past, none)) =
        let is : IsSent gives old sent new = subst P none called in
        let (choice, line, given, put) = is.path in
        (choice, ap (λ n. take n new.path) is.at ∙ take_all (length new.path) new.path (omega (arith)) ∙ put ∙ ap (λ p. p ++ choice ∷ []) (sym (take_all old.at old.path past)))

-- a line that is heard is told
pub is_heard : (old : Trial) (came : Came) (new : Trial) → IsHeard old came new → (changed : Bool) × Hears old changed new × (new.orders ≡ old.orders)
is_heard old Came.Nothing new none = absurd none
is_heard old (Came.Refused reason) new none = absurd none
is_heard old Came.Differs new none = absurd none
is_heard old (Came.Told changed) new (hears, run) = (changed, hears, run)
is_heard old Came.Known new none = absurd none
is_heard old Came.Breaks new none = absurd none
is_heard old Came.Begins new none = absurd none
is_heard old Came.All new none = absurd none
is_heard old Came.Tried new none = absurd none
is_heard old Came.Script new none = absurd none
is_heard old Came.Choices new none = absurd none
is_heard old Came.Same new none = absurd none

-- that all was tried where no run is left, by a law of the orders
abbrev pub IsEvery : Scenario → (List (Told Replied) → Option (Sent (List ℕ))) → Met Seen → Type 0
IsEvery scenario program start =
    (calls : List Call) (tried : List (List (Step (Met Seen) (Told Replied)))) (old new : Tree (Sent (List ℕ)) (Met Seen) (Told Replied)) → IsSession (AreMet LineSteps (LineReplies scenario.tracks.rules) IsSight scenario.tracks.lines.items) program start calls tried old
    → program (told_now old) ≡ None → Ends old (Ok false) new → MeetsEvery LineSteps (LineReplies scenario.tracks.rules) IsSight scenario.tracks.lines.items program start (steps_of old.path ∷ tried) []

module _ (scenario : Scenario) (program : List (Told Replied) → Option (Sent (List ℕ))) (start : Met Seen) (is_start : IsStart scenario start) (unmarked : HasNoMarks program) (law : IsEvery scenario program start) where
  abbrev Gives : Met Seen → Sent (List ℕ) → List (Step (Met Seen) (Told Replied)) → Type 0
  Gives = AreMet LineSteps (LineReplies scenario.tracks.rules) IsSight scenario.tracks.lines.items

  -- while orders are tried, what is kept is what is kept after calls, and all held
  record IsGoing (orders : Tree (Sent (List ℕ)) (Met Seen) (Told Replied)) : Type 0 where
    calls : List Call
    tried : List (List (Step (Met Seen) (Told Replied)))
    session : IsSession Gives program start calls tried orders
    met : AreAllMet (take orders.at orders.path)
    hold : (run : List (Step (Met Seen) (Told Replied))) → Contains tried run → Holds scenario start run

  -- what holds after each line
  abbrev Stands : Standing → Tree (Sent (List ℕ)) (Met Seen) (Told Replied) → Type 0
  Stands Standing.Going orders = IsGoing orders
  Stands Standing.Left orders = ⊥
  Stands Standing.Tried orders = HasMetAll scenario program
  Stands Standing.Stopped orders = Unit {0}
  Stands (Standing.Broken broken) orders = Unit {0}

  record Is (trial : Trial) : Type 0 where
    same : trial.scenario ≡ scenario
    all : trial.selection ≡ Selection.All
    stands : Stands trial.standing trial.orders

  stays : (old new : Trial) → Is old → Stays old new → Is new
  stays old new was (orders, standing, (one, order, asked)) = record {
    same = one.0 ∙ was.same;
    all = one.2 ∙ was.all;
    stands = subst (λ o. Stands new.standing o) (sym orders) (subst (λ s. Stands s old.orders) (sym standing) was.stands);
  }

  halted : (old new : Trial) → old.scenario ≡ scenario → old.selection ≡ Selection.All → IsStopped old new → Is new
  halted old new same all (standing, orders, (one, order, asked)) = record { same = one.0 ∙ same; all = one.2 ∙ all; stands = subst (λ s. Stands s new.orders) (sym standing) tt }

  stopped : (old new : Trial) → Is old → IsStopped old new → Is new
  stopped old new was stop = halted old new was.same was.all stop

  ended : (old : Trial) (stop : Stop) (came : Came) (new : Trial) → Is old → EndsBy old stop came new → Is new
  ended old Stop.Memory came new was none = absurd none
  ended old Stop.Most came new was (is, stop) = stopped old new was stop
  ended old (Stop.Breaks order) came new was (is, broken) = record { same = broken.kept.0.0 ∙ was.same; all = broken.kept.0.2 ∙ was.all; stands = subst (λ s. Stands s new.orders) (sym broken.stands) tt }

  going_of : (old : Trial) → Is old → old.standing ≡ Standing.Going → IsGoing old.orders
  going_of old was going = subst (λ s. Stands s old.orders) going was.stands

  -- the program heard the answer that was chosen
  heard : (old : Trial) (sent : Sent (List ℕ)) (chosen : Trial) (changed : Bool) (new : Trial) → Is old → old.standing ≡ Standing.Going → program (told_now old.orders) ≡ Some sent
      → IsCalled (AreMet LineSteps (LineReplies old.scenario.tracks.rules) IsSight old.scenario.tracks.lines.items) old.orders sent chosen.orders → chosen.scenario ≡ old.scenario → chosen.selection ≡ Selection.All → Hears chosen changed new
      → new.orders ≡ chosen.orders → Is new
  heard old sent chosen changed new was going asks called same all hears run =
      record { same = hears.kept.0 ∙ same ∙ was.same; all = hears.kept.2 ∙ all; stands = go ((reply_in hears.step.answer).unmet) refl hears.stands }
    where
      here : IsGoing old.orders
      here = going_of old was going

      ours : IsCalled Gives old.orders sent new.orders
      ours = subst (λ t. IsCalled Gives old.orders sent t) (sym run)
          (subst (λ (s : Scenario). IsCalled (AreMet LineSteps (LineReplies s.tracks.rules) IsSight s.tracks.lines.items) old.orders sent chosen.orders) was.same called)

      go : (unmet : Option ℕ) → (reply_in hears.step.answer).unmet ≡ unmet → StandsAt unmet (reply_in hears.step.answer).there new.standing → Stands new.standing new.orders
      go None none standing =
          let (choice, next) = next_called Gives old.orders sent new.orders ours in
          let same : hears.step ≡ choice.taken = same_Some hears.step choice.taken (sym hears.newest ∙ ap last_step next ∙ last_more (take old.orders.at old.orders.path) choice) in
          let one : IsMet choice = ap (λ (s : Step (Met Seen) (Told Replied)). (reply_in s.answer).unmet) (sym same) ∙ none in
          subst (λ s. Stands s new.orders) (sym standing) (record {
            calls = Call.Send ∷ here.calls;
            tried = here.tried;
            session = (old.orders, sent, here.session, asks, ours);
            met = subst (λ p. AreAllMet p) (sym next) (all_more (take old.orders.at old.orders.path) choice here.met one);
            hold = here.hold;
          })
      go (Some line) some (broken, standing, none, number, there) = subst (λ s. Stands s new.orders) (sym standing) tt

  sends : (old : Trial) (sent : Sent (List ℕ)) (came : Came) (new : Trial) → Is old → old.standing ≡ Standing.Going → program (told_now old.orders) ≡ Some sent → Sends old sent came new → Is new
  sends old sent came new was going asks (inl (answered, called, selection, alike, chosen)) = taken (is_new (due_of (slice_get old.orders.path old.orders.at))) chosen
    where
      told : (mid : Trial) → mid.orders ≡ answered.orders → mid.scenario ≡ old.scenario → mid.selection ≡ Selection.All → IsHeard mid came new → Is new
      told mid run same all is =
          let (changed, hears, kept) = is_heard mid came new is in
          heard old sent mid changed new was going asks
          (subst (λ t. IsCalled (AreMet LineSteps (LineReplies old.scenario.tracks.rules) IsSight old.scenario.tracks.lines.items) old.orders sent t) (sym run) called) same all hears kept

      taken : (first : Bool) → HearsChosen first answered came new → Is new
      taken true (found, mid, selects, like, is) =
          let (there, all, run) = subst (λ s. Selects s answered.orders found mid.selection mid.orders) (selection ∙ was.all) selects in
          told mid run (like.0 ∙ alike.0) all (subst (λ b. IsTaken b mid came new) there is)
      taken false is = told answered refl alike.0 (selection ∙ was.all) is
  sends old sent came new was going asks (inr (inl (differs, is, stop))) = stopped old new was stop
  sends old sent came new was going asks (inr (inr (stop, failed, ends))) = ended old stop came new was ends

  going_not_left : (standing : Standing) → standing ≡ Standing.Going → standing ≡ Standing.Left → ⊥
  going_not_left standing going left = cc

  -- what a mark changes leaves it so
  kept : (old mid : Trial) → Is old → IsSameBut old mid → Is mid
  kept old mid was (scenario_is, orders, order, most, states, selection, asked, standing) = record {
    same = scenario_is ∙ was.same;
    all = selection ∙ was.all;
    stands = subst (λ o. Stands mid.standing o) (sym orders) (subst (λ s. Stands s old.orders) (sym standing) was.stands);
  }

  -- of a program that sends no mark none is known
  taken_new : (old : Trial) (sent : Sent (List ℕ)) (taking : Taking) (mid : Trial) → program (told_now old.orders) ≡ Some sent → TakesMark old sent taking mid → taking ≡ Taking.New
  taken_new old (Sent.Meets line) taking mid asks takes = takes.0
  taken_new old (Sent.Alone line) taking mid asks takes = takes.0
  taken_new old Sent.Waits taking mid asks takes = takes.0
  taken_new old (Sent.Marks mark) taking mid asks takes = absurd (unmarked (told_now old.orders) mark asks)

  goes_by : (old : Trial) (sent : Sent (List ℕ)) (taking : Taking) (mid : Trial) (came : Came) (new : Trial) → Is old → old.standing ≡ Standing.Going → program (told_now old.orders) ≡ Some sent → TakesMark old sent taking mid → IsSameBut old mid → GoesBy taking mid sent came new → Is new
  goes_by old sent taking mid came new was going asks takes same goes =
      sends mid sent came new (kept old mid was same) (same.7 ∙ going) (subst (λ (t : Tree (Sent (List ℕ)) (Met Seen) (Told Replied)). program (told_now t) ≡ Some sent) (sym same.1) asks) (subst (λ t. GoesBy t mid sent came new) (taken_new old sent taking mid asks takes) goes)

  -- the newest run held, and those before it
  held : (old : Trial) → Is old → (here : IsGoing old.orders) → old.orders.at ≡ length old.orders.path → IsClosed old → (run : List (Step (Met Seen) (Told Replied))) → Contains (steps_of old.orders.path ∷ here.tried) run → Holds scenario start run
  held old was here last closed run among = go (Contains-append_cases (steps_of old.orders.path ∷ []) here.tried run among)
    where
      path : List (Choice (Sent (List ℕ)) (Met Seen) (Told Replied))
      path = old.orders.path

      all : take old.orders.at path ≡ path
      all = take_all old.orders.at path (omega (arith, last))

      begins : old.orders.start ≡ start
      begins = session_start Gives program start here.calls here.tried old.orders here.session

      newest : Holds scenario start (steps_of path)
      newest = record {
        met = steps_met path (subst (λ p. AreAllMet p) all here.met);
        closed = subst (λ (m : Met Seen). ClosesAll LineSteps scenario.tracks.lines.items scenario.rest.items m) (ap (λ p. state_behind old.orders.start p) all ∙ ap (λ s. state_behind s path) begins ∙ behind_steps start path)
            (subst (λ (s : Scenario). ClosesAll LineSteps s.tracks.lines.items s.rest.items (place_of old)) was.same closed);
      }

      go : Contains (steps_of path ∷ []) run ⊎ Contains here.tried run → Holds scenario start run
      go (inl (zero, few, is)) = subst (Holds scenario start) is newest
      go (inl (suc k, few, is)) = absurd (omega (arith, few))
      go (inr earlier) = here.hold run earlier

  begun : (old mid : Trial) (came : Came) (new : Trial) → Is old → (here : IsGoing old.orders) → old.standing ≡ Standing.Going → program (told_now old.orders) ≡ None → IsClosed old → Ends old.orders (Ok true) mid.orders → mid.scenario ≡ old.scenario
      → mid.selection ≡ Selection.All → mid.standing ≡ old.standing → Begins mid came new → Is new
  begun old mid came new was here going ends closed next same all standing (inl (is, begins)) = record {
    same = begins.kept.0 ∙ same ∙ was.same;
    all = begins.kept.2 ∙ all;
    stands = subst (λ s. Stands s new.orders) (sym (begins.stands ∙ standing ∙ going)) (subst (λ o. IsGoing o) (sym begins.run) (record {
      calls = Call.Again ∷ here.calls;
      tried = steps_of old.orders.path ∷ here.tried;
      session = (old.orders, here.tried, here.session, ends, next, refl);
      met = subst (λ n. AreAllMet (take n mid.orders.path)) (sym next.2) tt;
      hold = held old was here next.0 closed;
    }));
  }
  begun old mid came new was here going ends closed next same all standing (inr (is, few, stop)) = halted mid new (same ∙ was.same) all stop

  goes_on : (old : Trial) (came : Came) (new : Trial) → Is old → old.standing ≡ Standing.Going → program (told_now old.orders) ≡ None → IsClosed old → GoesOn old came new → Is new
  goes_on old came new was going ends closed (result, turned, goes, alike, follows) =
      go result (subst (λ s. GoesTo s old.orders result turned.selection turned.orders) was.all goes) follows
    where
      here : IsGoing old.orders
      here = going_of old was going

      go : (end : Result Bool Unfinished) → GoesTo Selection.All old.orders end turned.selection turned.orders → IsTurned end turned came new → Is new
      go (Ok true) (all, next) begins = begun old turned came new was here going ends closed next alike.0 all alike.4 begins
      go (Ok false) (all, over) (is, standing, run, kept) = record {
        same = kept.0.0 ∙ alike.0 ∙ was.same;
        all = kept.0.2 ∙ all;
        stands = subst (λ s. Stands s new.orders) (sym standing) (record {
          start = start;
          is_start = is_start;
          tried = steps_of old.orders.path ∷ here.tried;
          every = law here.calls here.tried old.orders turned.orders here.session ends over;
          hold = held old was here over.0 closed;
        });
      }
      go (Err unfinished) (all, early) (is, stop) = halted turned new (alike.0 ∙ was.same) all stop

  ends_run : (old : Trial) (came : Came) (new : Trial) → Is old → old.standing ≡ Standing.Going → program (told_now old.orders) ≡ None → EndsRun old came new → Is new
  ends_run old came new was going ends (inl (early, is, stop)) = stopped old new was stop
  ends_run old came new was going ends (inr (inl (closed, on))) = goes_on old came new was going ends closed on
  ends_run old came new was going ends (inr (inr (stop, why, by))) = ended old stop came new was by

  -- a line leaves it so
  comes : (old : Trial) (word : Word) (came : Came) (new : Trial) → Is old → Comes old word came new → Follows program old word → Is new
  comes old Word.Nothing came new was (is, stay) follows = stays old new was stay
  comes old (Word.Refused reason) came new was (is, stay) follows = stays old new was stay
  comes old Word.Script came new was (is, stay) follows = stays old new was stay
  comes old Word.Choices came new was (is, stay) follows = stays old new was stay
  comes old Word.Same came new was (is, stay) follows = stays old new was stay
  comes old (Word.Sends sent) came new was (inl (over, is, stay)) follows = stays old new was stay
  comes old (Word.Sends sent) came new was (inr (going, (taking, mid, takes, same, goes))) follows = goes_by old sent taking mid came new was going follows takes same goes
  comes old Word.Again came new was (inl ((over, is, stay), other)) follows = stays old new was stay
  comes old Word.Again came new was (inr (inl (going, does))) follows = ends_run old came new was going (asked follows) does
    where
      asked : (old.standing ≡ Standing.Left) ⊎ (program (told_now old.orders) ≡ None) → program (told_now old.orders) ≡ None
      asked (inl left) = absurd (going_not_left old.standing going left)
      asked (inr over) = over
  comes old Word.Again came new was (inr (inr (left, leaves))) follows = absurd (subst (λ s. Stands s old.orders) left was.stands)

  played : (number : ℕ) (old : Session) (lines : List (List ℕ)) (new : Session) → Is old.trial → IsPlayed program number old lines new → Is new.trial
  played number old [] new was same = subst (λ (s : Session). Is s.trial) (sym same) was
  played number old (line ∷ lines) new was (mid, text, answered, follows, rest) = played (suc number) mid lines new (comes old.trial answered.word answered.came mid.trial was answered.comes (follows answered.word answered.is)) rest

pub met_all : ((scenario : Scenario) (program : List (Told Replied) → Option (Sent (List ℕ))) (start : Met Seen) → IsEvery scenario program start) → (scenario : Scenario) (most states : ℕ) (program : List (Told Replied) → Option (Sent (List ℕ))) (old new : Session) (lines : List (List ℕ)) → HasNoMarks program
    → HasBegun scenario most states Which.All old.trial → IsPlayed program 1 old lines new → new.trial.standing ≡ Standing.Tried → HasMetAll scenario program
met_all law scenario most states program old new lines unmarked first_line play over = subst (λ s. Stands scenario program first_line.start first_line.is_start unmarked every s new.trial.orders) over (played scenario program first_line.start first_line.is_start unmarked every 1 old lines new first play).stands
  where
    every : IsEvery scenario program first_line.start
    every = law scenario program first_line.start

    first : Is scenario program first_line.start first_line.is_start unmarked every old.trial
    first = record {
      same = first_line.scenario_is;
      all = first_line.selects;
      stands = subst (λ s. Stands scenario program first_line.start first_line.is_start unmarked every s old.trial.orders) (sym first_line.stands) (record {
        calls = [];
        tried = [];
        session = (refl, first_line.orders);
        met = subst (λ (t : Tree (Sent (List ℕ)) (Met Seen) (Told Replied)). AreAllMet (take t.at t.path)) (sym first_line.orders) tt;
        hold = λ run (k, few, is). absurd (omega (arith, few));
      });
    }
