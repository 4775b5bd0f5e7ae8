-- A program's lines, one after another, as turns of its runs, of which some are left behind a mark.
use Rattle.std.proofs.Common.{◌≡◌, ◌⊎◌, ◌∙◌, inl, inr, ◌<◌, ◌≤◌, ◌+◌, ℕ, suc, zero, Bool, true, false, List, [], ◌∷◌, ◌++◌, Contains, MatchOption, Option, None, Some, Result, Ok, Err, ap, append_assoc, arith, get_or, length, refl, subst, sym, take}
use Rattle.std.proofs.lemmas.List.{map_push, take_all}
use Rattle.std.proofs.lemmas.List.Elements.{Contains-append_cases}
use Rattle.std.proofs.lemmas.Option.{same_Some, slice_get_cases}
use Rattle.std.specs.List.{slice_get}
use Rattle.i3c_every.specs.declared.marks.Taken.{Taken}
use Rattle.i3c_every.specs.declared.marks.Taking.{Taking}
use Rattle.i3c_every.specs.declared.met.Met.{Met}
use Rattle.i3c_every.specs.declared.sent.Sent.{Sent}
use Rattle.i3c_every.specs.declared.told.Told.{Told}
use Rattle.i3c_every.specs.Closing.{ClosesAll}
use Rattle.i3c_every.specs.Marked.{AllMeet}
use Rattle.i3c_every.specs.Meeting.{AreMet, HasSameState}
use Rattle.i3c_every.specs.Taking.{IsTakenAt, Takes}
use Rattle.i3c_explore.specs.declared.stop.Stop.{Stop}
use Rattle.i3c_orders.specs.declared.choice.Choice.{Choice}
use Rattle.i3c_orders.specs.declared.choice.Step.{Step}
use Rattle.i3c_orders.specs.declared.orders.Unfinished.{Unfinished}
use Rattle.i3c_orders.specs.declared.which.Which.{Which}
use Rattle.i3c_orders.specs.Marks.{AreMarked, Begins, IsKnown, Turn}
use Rattle.i3c_orders.specs.Paths.{Ends, IsAnswered as IsCalled, IsOver, IsSent, Retreats, Tree, due_of, last_step, state_behind, steps_of, told_on, tree}
use Rattle.i3c_orders.specs.Runs.{state_after, told_by}
use Rattle.i3c_orders.specs.Sessions.{told_now}
use Rattle.i3c_scene.specs.Replying.{IsSight, LineReplies, Replied}
use Rattle.i3c_scene.specs.Scenes.{Seen}
use Rattle.i3c_scene.specs.Trying.{LineSteps}
use Rattle.i3c_program.specs.declared.came.Came.{Came}
use Rattle.i3c_program.specs.declared.scenario.Scenario.{Scenario}
use Rattle.i3c_program.specs.declared.selection.Selection.{Selection}
use Rattle.i3c_program.specs.declared.session.Session.{Session}
use Rattle.i3c_program.specs.declared.standing.Standing.{Standing}
use Rattle.i3c_program.specs.declared.trial.Trial.{Trial}
use Rattle.i3c_program.specs.declared.word.Word.{Word}
use Rattle.i3c_program.specs.Answers.{reply_in}
use Rattle.i3c_program.specs.Choosing.{GoesTo, Selects}
use Rattle.i3c_program.specs.Laws.{Follows, HasMetAllByMarks, HoldsSoFar, IsPlayed, MarksDecide}
use Rattle.i3c_program.specs.Sessions.{Begins as BeginsNext, Comes, EndsBy, EndsRun, GoesBy, GoesOn, HasBegun, Hears, HearsChosen, IsClosed, IsHeard, IsLeft, IsOfOrder, IsSameBut, IsStart, IsStopped, IsTaken, IsTurned, Leaves, LooksUp, Sends, StandsAt, Stays, TakesMark, is_new, place_of}
use Rattle.i3c_program.proofs.Playing.{AreAllMet, IsMet, all_more, behind_steps, is_heard, last_more, next_called, steps_met}

-- the answers of a run are those on its path
told_same : {L S A : Type 0} (path : List (Choice L S A)) → told_on path ≡ told_by (steps_of path)
told_same [] = refl
told_same (choice ∷ path) = ap (λ answers. choice.taken.answer ∷ answers) (told_same path)

steps_more : {L S A : Type 0} (path : List (Choice L S A)) (choice : Choice L S A) → steps_of (path ++ choice ∷ []) ≡ steps_of path ++ choice.taken ∷ []
steps_more path choice = map_push (λ choice. choice.taken) path choice

first_of : {X : Type 0} (x : X) (xs : List X) → Contains (x ∷ xs) x
first_of x xs = (0, omega (arith), refl)

behind : {X : Type 0} (x : X) (xs : List X) (y : X) → Contains xs y → Contains (x ∷ xs) y
behind x xs y (k, few, is) = (suc k, omega (arith, few), is)

first_or : {X : Type 0} (x : X) (xs : List X) (y : X) → Contains (x ∷ xs) y → (y ≡ x) ⊎ Contains xs y
first_or x xs y (zero, few, is) = inl (sym is)
first_or x xs y (suc k, few, is) = inr (k, omega (arith, few), is)

last_or : {X : Type 0} (xs : List X) (x y : X) → Contains (xs ++ x ∷ []) y → Contains xs y ⊎ (y ≡ x)
last_or xs x y at = go (Contains-append_cases xs (x ∷ []) y at)
  where
    go : Contains xs y ⊎ Contains (x ∷ []) y → Contains xs y ⊎ (y ≡ x)
    go (inl earlier) = inl earlier
    go (inr (zero, few, is)) = inr (sym is)
    go (inr (suc k, few, is)) = absurd (omega (arith, few))

none_is_some : {X : Type 0} (o : Option X) (x : X) → o ≡ None → o ≡ Some x → ⊥
none_is_some o x none some = cc

-- that all was met where no run is left, by a law of machines
abbrev pub IsAllMet : Scenario → (List (Told Replied) → Option (Sent (List ℕ))) → Met Seen → Type 0
IsAllMet scenario program start =
    (turns : List Turn) (tried : List (List (Step (Met Seen) (Told Replied)))) (path : List (Choice (Sent (List ℕ)) (Met Seen) (Told Replied))) → AreMarked (AreMet LineSteps (LineReplies scenario.tracks.rules) IsSight scenario.tracks.lines.items) HasSameState program start turns tried path
    → IsOver path → (program (told_by (steps_of path)) ≡ None) ⊎ IsKnown HasSameState program start (steps_of path ∷ tried) (steps_of path) → AllMeet LineSteps (LineReplies scenario.tracks.rules) IsSight scenario.tracks.lines.items program start (steps_of path ∷ tried)

module _ (scenario : Scenario) (program : List (Told Replied) → Option (Sent (List ℕ))) (start : Met Seen) (is_start : IsStart scenario start) (decide : MarksDecide program) (law : IsAllMet scenario program start) where
  abbrev Gives : Met Seen → Sent (List ℕ) → List (Step (Met Seen) (Told Replied)) → Type 0
  Gives = AreMet LineSteps (LineReplies scenario.tracks.rules) IsSight scenario.tracks.lines.items

  abbrev Run : Type 0
  Run = List (Step (Met Seen) (Told Replied))

  abbrev Path : Type 0
  Path = List (Choice (Sent (List ℕ)) (Met Seen) (Told Replied))

  abbrev Kept : Type 0
  Kept = Tree (Sent (List ℕ)) (Met Seen) (Told Replied)

  -- a run is the beginning of one that was tried, or of the path's
  abbrev IsMade : List Run → Path → Run → Type 0
  IsMade tried path run = Begins tried run ⊎ ((rest : Run) × (run ++ rest ≡ steps_of path))

  -- a mark was sent where it was taken, and was answered
  record WasSent (tried : List Run) (path : Path) (taken : Taken Seen) : Type 0 where
    other : Run
    step : Step (Met Seen) (Told Replied)
    asked : program (told_by other) ≡ Some (Sent.Marks taken.mark)
    state : (state_after start other).state ≡ taken.state
    places : (state_after start other).places.items ≡ taken.places.items
    made : IsMade tried path (other ++ step ∷ [])

  -- while orders are tried, what is kept is what is kept after turns, each mark was sent, and all held
  record IsGoing (orders : Kept) (marks : List (Taken Seen)) : Type 0 where
    turns : List Turn
    tried : List Run
    marked : AreMarked Gives HasSameState program start turns tried orders.path
    begins : orders.start ≡ start
    met : AreAllMet (take orders.at orders.path)
    hold : (run : Run) → Contains tried run → HoldsSoFar scenario program start run
    sent : (taken : Taken Seen) → Contains marks taken → WasSent tried orders.path taken

  -- the same where the newest run is left
  record HasLeft (orders : Kept) (marks : List (Taken Seen)) : Type 0 where
    here : IsGoing orders marks
    known : IsKnown HasSameState program start (steps_of orders.path ∷ here.tried) (steps_of orders.path)

  -- what holds after each line
  abbrev Stands : Standing → Kept → List (Taken Seen) → Type 0
  Stands Standing.Going orders marks = IsGoing orders marks
  Stands Standing.Left orders marks = HasLeft orders marks
  Stands Standing.Tried orders marks = HasMetAllByMarks scenario program
  Stands Standing.Stopped orders marks = Unit {0}
  Stands (Standing.Broken broken) orders marks = Unit {0}

  record Is (trial : Trial) : Type 0 where
    same : trial.scenario ≡ scenario
    all : trial.selection ≡ Selection.All
    stands : Stands trial.standing trial.orders trial.marks

  moved : (old new : Trial) → new.standing ≡ old.standing → new.orders ≡ old.orders → new.marks ≡ old.marks → Stands old.standing old.orders old.marks → Stands new.standing new.orders new.marks
  moved old new standing orders marks is = subst (λ m. Stands new.standing new.orders m) (sym marks) (subst (λ o. Stands new.standing o old.marks) (sym orders) (subst (λ s. Stands s old.orders old.marks) (sym standing) is))

  stays : (old new : Trial) → Is old → Stays old new → Is new
  stays old new was (orders, standing, (one, order, asked)) = record { same = one.0 ∙ was.same; all = one.2 ∙ was.all; stands = moved old new standing orders one.3.0 was.stands }

  halted : (old new : Trial) → old.scenario ≡ scenario → old.selection ≡ Selection.All → IsStopped old new → Is new
  halted old new same all (standing, orders, (one, order, asked)) = record { same = one.0 ∙ same; all = one.2 ∙ all; stands = subst (λ s. Stands s new.orders new.marks) (sym standing) tt }

  ended : (old : Trial) (stop : Stop) (came : Came) (new : Trial) → old.scenario ≡ scenario → old.selection ≡ Selection.All → EndsBy old stop came new → Is new
  ended old Stop.Memory came new same all none = absurd none
  ended old Stop.Most came new same all (is, stop) = halted old new same all stop
  ended old (Stop.Breaks order) came new same all (is, broken) = record { same = broken.kept.0.0 ∙ same; all = broken.kept.0.2 ∙ all; stands = subst (λ s. Stands s new.orders new.marks) (sym broken.stands) tt }

  going_of : (old : Trial) → Is old → old.standing ≡ Standing.Going → IsGoing old.orders old.marks
  going_of old was going = subst (λ s. Stands s old.orders old.marks) going was.stands

  -- a mark that is taken with the line that is answered now, at the end of a path
  abbrev IsNewest : Kept → Sent (List ℕ) → Taken Seen → Type 0
  IsNewest orders sent taken =
      (length orders.path ≤ orders.at) × (sent ≡ Sent.Marks taken.mark) × ((state_behind orders.start orders.path).state ≡ taken.state) × ((state_behind orders.start orders.path).places.items ≡ taken.places.items)

  -- of each mark it is known where it was sent, or it is the newest one
  abbrev AreKnown : Kept → Sent (List ℕ) → List (Taken Seen) → List (Taken Seen) → Type 0
  AreKnown orders sent marks more = (taken : Taken Seen) → Contains more taken → Contains marks taken ⊎ IsNewest orders sent taken

  -- what was sent stays so on a longer path
  on_longer : (tried : List Run) (path : Path) (choice : Choice (Sent (List ℕ)) (Met Seen) (Told Replied)) (taken : Taken Seen) → WasSent tried path taken → WasSent tried (path ++ choice ∷ []) taken
  on_longer tried path choice taken was = record { other = was.other; step = was.step; asked = was.asked; state = was.state; places = was.places; made = go was.made }
    where
      run : Run
      run = was.other ++ was.step ∷ []

      go : IsMade tried path run → IsMade tried (path ++ choice ∷ []) run
      go (inl begun) = inl begun
      go (inr (rest, is)) = inr (rest ++ choice.taken ∷ [], sym (append_assoc run rest (choice.taken ∷ [])) ∙ ap (λ r. r ++ choice.taken ∷ []) is ∙ sym (steps_more path choice))

  -- and where the path's run was tried
  once_tried : (tried : List Run) (path next : Path) (taken : Taken Seen) → WasSent tried path taken → WasSent (steps_of path ∷ tried) next taken
  once_tried tried path next taken was = record { other = was.other; step = was.step; asked = was.asked; state = was.state; places = was.places; made = go was.made }
    where
      run : Run
      run = was.other ++ was.step ∷ []

      go : IsMade tried path run → IsMade (steps_of path ∷ tried) next run
      go (inl (rest, at)) = inl (rest, behind (steps_of path) tried (run ++ rest) at)
      go (inr (rest, is)) = inl (rest, subst (λ r. Contains (steps_of path ∷ tried) r) (sym is) (first_of (steps_of path) tried))

  -- a line that is answered takes its run on
  went_on : (old : Kept) (marks more : List (Taken Seen)) (sent : Sent (List ℕ)) (new : Kept) → IsGoing old marks → AreKnown old sent marks more → program (told_now old) ≡ Some sent → IsCalled Gives old sent new → AreAllMet (take new.at new.path) → IsGoing new more
  went_on old marks more sent new here known asks called met = go ((slice_get_cases old.path old.at).1)
    where
      P : Option (Choice (Sent (List ℕ)) (Met Seen) (Told Replied)) → Type 0
      P o = MatchOption o (IsSent Gives old sent new) (λ choice. (choice.line ≡ sent) × (new ≡ tree old.start old.path (suc old.at)))

      again : (choice : Choice (Sent (List ℕ)) (Met Seen) (Told Replied)) → old.at < length old.path → (choice.line ≡ sent) × (new ≡ tree old.start old.path (suc old.at)) → IsGoing new more
      again choice inside (line, is) =
          let path : new.path ≡ old.path = ap (λ (t : Kept). t.path) is in
          record {
            turns = here.turns;
            tried = here.tried;
            marked = subst (λ p. AreMarked Gives HasSameState program start here.turns here.tried p) (sym path) here.marked;
            begins = ap (λ (t : Kept). t.start) is ∙ here.begins;
            met = met;
            hold = here.hold;
            sent = λ taken at. subst (λ p. WasSent here.tried p taken) (sym path) (earlier taken (known taken at));
          }
        where
          earlier : (taken : Taken Seen) → Contains marks taken ⊎ IsNewest old sent taken → WasSent here.tried old.path taken
          earlier taken (inl at) = here.sent taken at
          earlier taken (inr (past, mark, state, places)) = absurd (omega (arith, inside, past))

      longer : length old.path ≤ old.at → IsSent Gives old sent new → IsGoing new more
      longer past is =
          let (choice, line, given, put) = is.path in
          let asked : program (told_on old.path) ≡ Some sent = subst (λ p. program (told_on p) ≡ Some sent) (take_all old.at old.path past) asks in
          record {
            turns = Turn.Line ∷ here.turns;
            tried = here.tried;
            marked = (old.path, sent, here.marked, asked, (choice, line, subst (λ s. Gives (state_behind s old.path) sent (choice.left.items ++ choice.taken ∷ [])) here.begins given, put));
            begins = is.start ∙ here.begins;
            met = met;
            hold = here.hold;
            sent = λ taken at. subst (λ p. WasSent here.tried p taken) (sym put) (which choice asked taken (known taken at));
          }
        where
          which : (choice : Choice (Sent (List ℕ)) (Met Seen) (Told Replied)) → program (told_on old.path) ≡ Some sent → (taken : Taken Seen) → Contains marks taken ⊎ IsNewest old sent taken → WasSent here.tried (old.path ++ choice ∷ []) taken
          which choice asked taken (inl at) = on_longer here.tried old.path choice taken (here.sent taken at)
          which choice asked taken (inr (end, mark, state, places)) = record {
            other = steps_of old.path;
            step = choice.taken;
            asked = subst (λ t. program t ≡ Some (Sent.Marks taken.mark)) (told_same old.path) (asked ∙ ap Some mark);
            state = ap (λ (m : Met Seen). m.state) (sym (place here.begins)) ∙ state;
            places = ap (λ (m : Met Seen). m.places.items) (sym (place here.begins)) ∙ places;
            made = inr ([], append_nil_of (steps_of old.path ++ choice.taken ∷ []) ∙ sym (steps_more old.path choice));
          }
            where
              place : old.start ≡ start → state_behind old.start old.path ≡ state_after start (steps_of old.path)
              place begins = ap (λ s. state_behind s old.path) begins ∙ behind_steps start old.path

              append_nil_of : (run : Run) → run ++ [] ≡ run
              append_nil_of [] = refl
              append_nil_of (step ∷ run) = ap (λ r. step ∷ r) (append_nil_of run)

      go : ((choice : Choice (Sent (List ℕ)) (Met Seen) (Told Replied)) × (old.at < length old.path) × (slice_get old.path old.at ≡ Some choice) × (get_or old.path old.at choice ≡ choice)) ⊎ ((length old.path ≤ old.at) × (slice_get old.path old.at ≡ None)) → IsGoing new more
      go (inl (choice, inside, at, is)) = again choice inside (subst P at called)
      go (inr (past, none)) = longer past (subst P none called)

  -- the program heard the answer that was chosen
  heard : (old : Trial) (marks : List (Taken Seen)) (sent : Sent (List ℕ)) (chosen : Trial) (changed : Bool) (new : Trial) → old.scenario ≡ scenario → IsGoing old.orders marks → AreKnown old.orders sent marks old.marks → program (told_now old.orders) ≡ Some sent
      → IsCalled (AreMet LineSteps (LineReplies old.scenario.tracks.rules) IsSight old.scenario.tracks.lines.items) old.orders sent chosen.orders → chosen.scenario ≡ old.scenario → chosen.selection ≡ Selection.All → chosen.marks ≡ old.marks → Hears chosen changed new
      → new.orders ≡ chosen.orders → Is new
  heard old marks sent chosen changed new here_is here known asks called same all stay hears run =
      record { same = hears.kept.0 ∙ same ∙ here_is; all = hears.kept.2 ∙ all; stands = go ((reply_in hears.step.answer).unmet) refl hears.stands }
    where
      ours : IsCalled Gives old.orders sent new.orders
      ours = subst (λ t. IsCalled Gives old.orders sent t) (sym run)
          (subst (λ (s : Scenario). IsCalled (AreMet LineSteps (LineReplies s.tracks.rules) IsSight s.tracks.lines.items) old.orders sent chosen.orders) here_is called)

      marks_are : new.marks ≡ old.marks
      marks_are = hears.kept.3.0 ∙ stay

      go : (unmet : Option ℕ) → (reply_in hears.step.answer).unmet ≡ unmet → StandsAt unmet (reply_in hears.step.answer).there new.standing → Stands new.standing new.orders new.marks
      go None none standing =
          let (choice, next) = next_called Gives old.orders sent new.orders ours in
          let same : hears.step ≡ choice.taken = same_Some hears.step choice.taken (sym hears.newest ∙ ap last_step next ∙ last_more (take old.orders.at old.orders.path) choice) in
          let one : IsMet choice = ap (λ (s : Step (Met Seen) (Told Replied)). (reply_in s.answer).unmet) (sym same) ∙ none in
          subst (λ s. Stands s new.orders new.marks) (sym standing) (subst (λ m. IsGoing new.orders m) (sym marks_are)
          (went_on old.orders marks old.marks sent new.orders here known asks ours (subst (λ p. AreAllMet p) (sym next) (all_more (take old.orders.at old.orders.path) choice here.met one))))
      go (Some line) some (broken, standing, none, number, there) = subst (λ s. Stands s new.orders new.marks) (sym standing) tt

  sends : (old : Trial) (marks : List (Taken Seen)) (sent : Sent (List ℕ)) (came : Came) (new : Trial) → old.scenario ≡ scenario → old.selection ≡ Selection.All → IsGoing old.orders marks → AreKnown old.orders sent marks old.marks → program (told_now old.orders) ≡ Some sent → Sends old sent came new → Is new
  sends old marks sent came new same all here known asks (inl (answered, called, selection, alike, chosen)) = taken (is_new (due_of (slice_get old.orders.path old.orders.at))) chosen
    where
      told : (mid : Trial) → mid.orders ≡ answered.orders → mid.scenario ≡ old.scenario → mid.selection ≡ Selection.All → mid.marks ≡ old.marks → IsHeard mid came new → Is new
      told mid run scene whole stay is =
          let (changed, hears, kept) = is_heard mid came new is in
          heard old marks sent mid changed new same here known asks
          (subst (λ t. IsCalled (AreMet LineSteps (LineReplies old.scenario.tracks.rules) IsSight old.scenario.tracks.lines.items) old.orders sent t) (sym run) called) scene whole stay hears kept

      taken : (first : Bool) → HearsChosen first answered came new → Is new
      taken true (found, mid, selects, like, is) =
          let (there, whole, run) = subst (λ s. Selects s answered.orders found mid.selection mid.orders) (selection ∙ all) selects in
          told mid run (like.0 ∙ alike.0) whole (like.5.0 ∙ alike.5.0) (subst (λ b. IsTaken b mid came new) there is)
      taken false is = told answered refl alike.0 (selection ∙ all) alike.5.0 is
  sends old marks sent came new same all here known asks (inr (inl (differs, is, stop))) = halted old new same all stop
  sends old marks sent came new same all here known asks (inr (inr (stop, failed, ends))) = ended old stop came new same all ends

  -- a run is past its path where no line is due
  past_due : (orders : Kept) → due_of (slice_get orders.path orders.at) ≡ None → length orders.path ≤ orders.at
  past_due orders none = go ((slice_get_cases orders.path orders.at).1)
    where
      go : ((choice : Choice (Sent (List ℕ)) (Met Seen) (Told Replied)) × (orders.at < length orders.path) × (slice_get orders.path orders.at ≡ Some choice) × (get_or orders.path orders.at choice ≡ choice)) ⊎ ((length orders.path ≤ orders.at) × (slice_get orders.path orders.at ≡ None)) → length orders.path ≤ orders.at
      go (inl (choice, inside, at, is)) = absurd (none_is_some (due_of (slice_get orders.path orders.at)) choice.line none (ap due_of at))
      go (inr (past, empty)) = past

  -- a mark that is taken now is sent now
  newest : (old : Trial) (mid : Trial) (mark : List ℕ) (taken : Taken Seen) → length old.orders.path ≤ old.orders.at → IsTakenAt mark (place_of old).places.items (place_of old).state taken → IsNewest old.orders (Sent.Marks mark) taken
  newest old mid mark taken past (is, places, state) =
      let place : place_of old ≡ state_behind old.orders.start old.orders.path = ap (λ p. state_behind old.orders.start p) (take_all old.orders.at old.orders.path past) in
      (past, ap (λ m. Sent.Marks m) (sym is), ap (λ (m : Met Seen). m.state) (sym place) ∙ sym state, ap (λ (m : Met Seen). m.places.items) (sym place) ∙ sym places)

  -- a mark that is known was sent in the same state at the same places
  was_known : (old : Trial) (here : IsGoing old.orders old.marks) (mark : List ℕ) (taken : Taken Seen) → length old.orders.path ≤ old.orders.at → program (told_now old.orders) ≡ Some (Sent.Marks mark) → Contains old.marks taken
      → IsTakenAt mark (place_of old).places.items (place_of old).state taken → IsKnown HasSameState program start (steps_of old.orders.path ∷ here.tried) (steps_of old.orders.path)
  was_known old here mark taken past asks at (is, places, state) = record {
    line = Sent.Marks mark;
    asks = asked;
    other = was.other;
    asked = other_asked;
    futures = decide (told_by was.other) (told_by (steps_of path)) mark other_asked asked;
    same = (was.state ∙ state ∙ ap (λ (m : Met Seen). m.state) place, was.places ∙ places ∙ ap (λ (m : Met Seen). m.places.items) place);
    step = was.step;
    answered = go was.made;
  }
    where
      path : Path
      path = old.orders.path

      was : WasSent here.tried path taken
      was = here.sent taken at

      whole : take old.orders.at path ≡ path
      whole = take_all old.orders.at path past

      asked : program (told_by (steps_of path)) ≡ Some (Sent.Marks mark)
      asked = subst (λ t. program t ≡ Some (Sent.Marks mark)) (ap (λ p. told_on p) whole ∙ told_same path) asks

      other_asked : program (told_by was.other) ≡ Some (Sent.Marks mark)
      other_asked = was.asked ∙ ap (λ m. Some (Sent.Marks m)) is

      place : place_of old ≡ state_after start (steps_of path)
      place = ap (λ p. state_behind old.orders.start p) whole ∙ ap (λ s. state_behind s path) here.begins ∙ behind_steps start path

      go : IsMade here.tried path (was.other ++ was.step ∷ []) → Begins (steps_of path ∷ here.tried) (was.other ++ was.step ∷ [])
      go (inl (rest, among)) = (rest, behind (steps_of path) here.tried ((was.other ++ was.step ∷ []) ++ rest) among)
      go (inr (rest, is)) = (rest, subst (λ r. Contains (steps_of path ∷ here.tried) r) (sym is) (first_of (steps_of path) here.tried))

  -- what a line comes to, whether or not its mark is taken
  goes_by : (old : Trial) (sent : Sent (List ℕ)) (taking : Taking) (mid : Trial) (came : Came) (new : Trial) → Is old → old.standing ≡ Standing.Going → program (told_now old.orders) ≡ Some sent → TakesMark old sent taking mid → IsSameBut old mid → GoesBy taking mid sent came new → Is new
  goes_by old sent taking mid came new was going asks takes same goes = which sent asks takes goes
    where
      here : IsGoing old.orders old.marks
      here = going_of old was going

      scene : mid.scenario ≡ scenario
      scene = same.0 ∙ was.same

      whole : mid.selection ≡ Selection.All
      whole = same.5 ∙ was.all

      there : IsGoing mid.orders old.marks
      there = subst (λ o. IsGoing o old.marks) (sym same.1) here

      asks_there : (sent : Sent (List ℕ)) → program (told_now old.orders) ≡ Some sent → program (told_now mid.orders) ≡ Some sent
      asks_there sent asks = subst (λ (t : Kept). program (told_now t) ≡ Some sent) (sym same.1) asks

      -- no mark is taken
      plain : (sent : Sent (List ℕ)) → program (told_now old.orders) ≡ Some sent → taking ≡ Taking.New → mid.marks ≡ old.marks → GoesBy taking mid sent came new → Is new
      plain sent asks is stay goes = sends mid old.marks sent came new scene whole there (λ taken at. inl (subst (λ m. Contains m taken) stay at)) (asks_there sent asks) (subst (λ t. GoesBy t mid sent came new) is goes)

      marked : (mark : List ℕ) (which : Taking) → program (told_now old.orders) ≡ Some (Sent.Marks mark) → length old.orders.path ≤ old.orders.at → Takes old.states mark (place_of old) old.marks which mid.marks → GoesBy which mid (Sent.Marks mark) came new → Is new
      marked mark Taking.New asks past (few, (taken, at, more)) goes = sends mid old.marks (Sent.Marks mark) came new scene whole there known (asks_there (Sent.Marks mark) asks) goes
        where
          known : AreKnown mid.orders (Sent.Marks mark) old.marks mid.marks
          known other among = go (last_or old.marks taken other (subst (λ m. Contains m other) more among))
            where
              go : Contains old.marks other ⊎ (other ≡ taken) → Contains old.marks other ⊎ IsNewest mid.orders (Sent.Marks mark) other
              go (inl earlier) = inl earlier
              go (inr is) = inr (subst (λ o. IsNewest o (Sent.Marks mark) other) (sym same.1) (subst (λ t. IsNewest old.orders (Sent.Marks mark) t) (sym is) (newest old mid mark taken past at)))
      marked mark Taking.Known asks past (stay, (taken, among, at)) (is, (standing, orders, (one, order, asked))) = record {
        same = one.0 ∙ scene;
        all = one.2 ∙ whole;
        stands = subst (λ s. Stands s new.orders new.marks) (sym standing) (subst (λ m. HasLeft new.orders m) (sym (one.3.0 ∙ stay)) (subst (λ o. HasLeft o old.marks) (sym (orders ∙ same.1)) (record {
          here = here;
          known = was_known old here mark taken past asks among at;
        })));
      }
      marked mark Taking.Full asks past (stay, full) (is, stop) = halted mid new scene whole stop

      which : (sent : Sent (List ℕ)) → program (told_now old.orders) ≡ Some sent → TakesMark old sent taking mid → GoesBy taking mid sent came new → Is new
      which (Sent.Meets line) asks (is, stay) goes = plain (Sent.Meets line) asks is stay goes
      which (Sent.Alone line) asks (is, stay) goes = plain (Sent.Alone line) asks is stay goes
      which Sent.Waits asks (is, stay) goes = plain Sent.Waits asks is stay goes
      which (Sent.Marks mark) asks (inl ((tries, due), takes)) goes = marked mark taking asks (past_due old.orders due) takes goes
      which (Sent.Marks mark) asks (inr (other, is, stay)) goes = plain (Sent.Marks mark) asks is stay goes

  -- why no line is sent any more in a run: it is over, or left
  abbrev HasEnded : (orders : Kept) → List Run → Type 0
  HasEnded orders tried = (program (told_by (steps_of orders.path)) ≡ None) ⊎ IsKnown HasSameState program start (steps_of orders.path ∷ tried) (steps_of orders.path)

  -- the newest run held, and those before it
  held : (old : Trial) (here : IsGoing old.orders old.marks) → length old.orders.path ≤ old.orders.at → (program (told_by (steps_of old.orders.path)) ≡ None → ClosesAll LineSteps scenario.tracks.lines.items scenario.rest.items (state_after start (steps_of old.orders.path)))
      → (run : Run) → Contains (steps_of old.orders.path ∷ here.tried) run → HoldsSoFar scenario program start run
  held old here past closed run among = go (first_or (steps_of old.orders.path) here.tried run among)
    where
      path : Path
      path = old.orders.path

      go : (run ≡ steps_of path) ⊎ Contains here.tried run → HoldsSoFar scenario program start run
      go (inl is) = subst (HoldsSoFar scenario program start) (sym is) (record { met = steps_met path (subst (λ p. AreAllMet p) (take_all old.orders.at path past) here.met); closed = closed })
      go (inr earlier) = here.hold run earlier

  -- the next order begins, or none is left
  goes_on : (old : Trial) (came : Came) (new : Trial) → old.scenario ≡ scenario → old.selection ≡ Selection.All → old.standing ≡ Standing.Going → (here : IsGoing old.orders old.marks) → HasEnded old.orders here.tried
      → (program (told_by (steps_of old.orders.path)) ≡ None → ClosesAll LineSteps scenario.tracks.lines.items scenario.rest.items (state_after start (steps_of old.orders.path))) → GoesOn old came new → Is new
  goes_on old came new same all going here why closed (result, turned, goes, alike, follows) = go result (subst (λ s. GoesTo s old.orders result turned.selection turned.orders) all goes) follows
    where
      path : Path
      path = old.orders.path

      next_marked : (next : Path) → Retreats old.orders.path next → HasEnded old.orders here.tried → (turns : List Turn) × AreMarked Gives HasSameState program start turns (steps_of path ∷ here.tried) next
      next_marked next back (inl over) = (Turn.Over ∷ here.turns, (path, here.tried, here.marked, subst (λ t. program t ≡ None) (sym (told_same path)) over, back, refl))
      next_marked next back (inr known) = (Turn.Left ∷ here.turns, (path, here.tried, here.marked, known, back, refl))

      begun : (next : Ends old.orders (Ok true) turned.orders) → IsGoing turned.orders turned.marks
      begun (last, back, at, begins) =
          let (turns, marked) = next_marked turned.orders.path back why in
          record {
            turns = turns;
            tried = steps_of path ∷ here.tried;
            marked = marked;
            begins = begins ∙ here.begins;
            met = subst (λ n. AreAllMet (take n turned.orders.path)) (sym at) tt;
            hold = held old here (omega (arith, last)) closed;
            sent = λ taken among. once_tried here.tried path turned.orders.path taken (here.sent taken (subst (λ m. Contains m taken) alike.5.0 among));
          }

      begins_next : IsGoing turned.orders turned.marks → turned.selection ≡ Selection.All → BeginsNext turned came new → Is new
      begins_next on whole (inl (is, next)) = record {
        same = next.kept.0 ∙ alike.0 ∙ same;
        all = next.kept.2 ∙ whole;
        stands = subst (λ s. Stands s new.orders new.marks) (sym (next.stands ∙ alike.4 ∙ going)) (subst (λ o. IsGoing o new.marks) (sym next.run) (subst (λ m. IsGoing turned.orders m) (sym next.kept.3.0) on));
      }
      begins_next on whole (inr (is, few, stop)) = halted turned new (alike.0 ∙ same) whole stop

      go : (end : Result Bool Unfinished) → GoesTo Selection.All old.orders end turned.selection turned.orders → IsTurned end turned came new → Is new
      go (Ok true) (whole, next) begins = begins_next (begun next) whole begins
      go (Ok false) (whole, (last, over, none)) (is, standing, run, kept) = record {
        same = kept.0.0 ∙ alike.0 ∙ same;
        all = kept.0.2 ∙ whole;
        stands = subst (λ s. Stands s new.orders new.marks) (sym standing) (record {
          start = start;
          is_start = is_start;
          first = steps_of path;
          more = here.tried;
          all = law here.turns here.tried path here.marked over why;
          hold = held old here (omega (arith, last)) closed;
        });
      }
      go (Err unfinished) (whole, early) (is, stop) = halted turned new (alike.0 ∙ same) whole stop

  -- a run that is over ends, and all that is left leads on
  ends_run : (old : Trial) (came : Came) (new : Trial) → Is old → old.standing ≡ Standing.Going → program (told_now old.orders) ≡ None → EndsRun old came new → Is new
  ends_run old came new was going ends (inl (early, is, stop)) = halted old new was.same was.all stop
  ends_run old came new was going ends (inr (inl (closed, on))) = closes on
    where
      here : IsGoing old.orders old.marks
      here = going_of old was going

      path : Path
      path = old.orders.path

      closes : GoesOn old came new → Is new
      closes (result, turned, goes, alike, follows) = at_end (where_at result (subst (λ s. GoesTo s old.orders result turned.selection turned.orders) was.all goes))
        where
          at_end : (length path ≤ old.orders.at) ⊎ ((unfinished : Unfinished) × (result ≡ Err unfinished)) → Is new
          at_end (inl past) =
              let whole : take old.orders.at path ≡ path = take_all old.orders.at path past in
              let over : program (told_by (steps_of path)) ≡ None = subst (λ t. program t ≡ None) (ap (λ p. told_on p) whole ∙ told_same path) ends in
              let place : place_of old ≡ state_after start (steps_of path) = ap (λ p. state_behind old.orders.start p) whole ∙ ap (λ s. state_behind s path) here.begins ∙ behind_steps start path in
              goes_on old came new was.same was.all going here (inl over)
              (λ none. subst (λ (m : Met Seen). ClosesAll LineSteps scenario.tracks.lines.items scenario.rest.items m) place (subst (λ (s : Scenario). ClosesAll LineSteps s.tracks.lines.items s.rest.items (place_of old)) was.same closed))
              (result, turned, goes, alike, follows)
          at_end (inr (unfinished, is)) =
              let (said, stop) = subst (λ r. IsTurned r turned came new) is follows in
              halted turned new (alike.0 ∙ was.same) (subst (λ s. GoesTo s old.orders result turned.selection turned.orders) was.all goes).0 stop

          where_at : (end : Result Bool Unfinished) → GoesTo Selection.All old.orders end turned.selection turned.orders → (length path ≤ old.orders.at) ⊎ ((unfinished : Unfinished) × (end ≡ Err unfinished))
          where_at (Ok true) (whole, (last, back, at, begins)) = inl (omega (arith, last))
          where_at (Ok false) (whole, (last, over, none)) = inl (omega (arith, last))
          where_at (Err unfinished) goes = inr (unfinished, refl)
  ends_run old came new was going ends (inr (inr (stop, why, by))) = ended old stop came new was.same was.all by

  -- behind a run that was left the next order begins
  leaves : (old : Trial) (came : Came) (new : Trial) → Is old → old.standing ≡ Standing.Left → Leaves old came new → Is new
  leaves old came new was left (mid, going, orders, (one, order, asked), on) =
      goes_on mid came new (one.0 ∙ was.same) (one.2 ∙ was.all) going there (inr known_there) (λ over. absurd (none_is_some (program (told_by (steps_of mid.orders.path))) known_there.line over known_there.asks)) on
    where
      has_left : HasLeft old.orders old.marks
      has_left = subst (λ s. Stands s old.orders old.marks) left was.stands

      moves : HasLeft mid.orders mid.marks
      moves = subst (λ m. HasLeft mid.orders m) (sym one.3.0) (subst (λ o. HasLeft o old.marks) (sym orders) has_left)

      there : IsGoing mid.orders mid.marks
      there = moves.here

      known_there : IsKnown HasSameState program start (steps_of mid.orders.path ∷ there.tried) (steps_of mid.orders.path)
      known_there = moves.known

  going_not_left : (standing : Standing) → standing ≡ Standing.Going → standing ≡ Standing.Left → ⊥
  going_not_left standing going left = cc

  -- a line leaves it so
  comes : (old : Trial) (word : Word) (came : Came) (new : Trial) → Is old → Comes old word came new → Follows program old word → Is new
  comes old Word.Nothing came new was (is, stay) follows = stays old new was stay
  comes old (Word.Refused reason) came new was (is, stay) follows = stays old new was stay
  comes old Word.Script came new was (is, stay) follows = stays old new was stay
  comes old Word.Choices came new was (is, stay) follows = stays old new was stay
  comes old Word.Same came new was (is, stay) follows = stays old new was stay
  comes old (Word.Sends sent) came new was (inl (over, is, stay)) follows = stays old new was stay
  comes old (Word.Sends sent) came new was (inr (going, (taking, mid, takes, same, goes))) follows = goes_by old sent taking mid came new was going follows takes same goes
  comes old Word.Again came new was (inl ((over, is, stay), other)) follows = stays old new was stay
  comes old Word.Again came new was (inr (inl (going, does))) follows = ends_run old came new was going (asked follows) does
    where
      asked : (old.standing ≡ Standing.Left) ⊎ (program (told_now old.orders) ≡ None) → program (told_now old.orders) ≡ None
      asked (inl left) = absurd (going_not_left old.standing going left)
      asked (inr over) = over
  comes old Word.Again came new was (inr (inr (left, does))) follows = leaves old came new was left does

  played : (number : ℕ) (old : Session) (lines : List (List ℕ)) (new : Session) → Is old.trial → IsPlayed program number old lines new → Is new.trial
  played number old [] new was same = subst (λ (s : Session). Is s.trial) (sym same) was
  played number old (line ∷ lines) new was (mid, text, answered, follows, rest) = played (suc number) mid lines new (comes old.trial answered.word answered.came mid.trial was answered.comes (follows answered.word answered.is)) rest

pub met_all_by_marks : ((scenario : Scenario) (program : List (Told Replied) → Option (Sent (List ℕ))) (start : Met Seen) → IsAllMet scenario program start) → (scenario : Scenario) (most states : ℕ) (program : List (Told Replied) → Option (Sent (List ℕ))) (old new : Session) (lines : List (List ℕ)) → MarksDecide program
    → HasBegun scenario most states Which.All old.trial → IsPlayed program 1 old lines new → new.trial.standing ≡ Standing.Tried → HasMetAllByMarks scenario program
met_all_by_marks law scenario most states program old new lines decide first_line play over =
    subst (λ s. Stands scenario program first_line.start first_line.is_start decide all_met s new.trial.orders new.trial.marks) over (played scenario program first_line.start first_line.is_start decide all_met 1 old lines new first play).stands
  where
    all_met : IsAllMet scenario program first_line.start
    all_met = law scenario program first_line.start

    first : Is scenario program first_line.start first_line.is_start decide all_met old.trial
    first = record {
      same = first_line.scenario_is;
      all = first_line.selects;
      stands = subst (λ s. Stands scenario program first_line.start first_line.is_start decide all_met s old.trial.orders old.trial.marks) (sym first_line.stands) (record {
        turns = [];
        tried = [];
        marked = (refl, ap (λ (t : Tree (Sent (List ℕ)) (Met Seen) (Told Replied)). t.path) first_line.orders);
        begins = ap (λ (t : Tree (Sent (List ℕ)) (Met Seen) (Told Replied)). t.start) first_line.orders;
        met = subst (λ (t : Tree (Sent (List ℕ)) (Met Seen) (Told Replied)). AreAllMet (take t.at t.path)) (sym first_line.orders) tt;
        hold = λ run (k, few, is). absurd (omega (arith, few));
        sent = λ taken among. absurd (none_among taken (subst (λ m. Contains m taken) first_line.unmarked among));
      });
    }
      where
        none_among : (taken : Taken Seen) → Contains [] taken → ⊥
        none_among taken (k, few, is) = omega (arith, few)
