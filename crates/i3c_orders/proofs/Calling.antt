-- The calls of a program are moves of its runs, and those that are sent again change nothing.
use Rattle.std.proofs.Common.{◌≡◌, ◌⊎◌, inl, inr, ◌<◌, ◌≤◌, ℕ, zero, suc, false, List, [], ◌∷◌, ◌++◌, Contains, MatchOption, Option, None, Some, Ok, Err, ap, refl, sym, subst, ◌∙◌, arith, get_or, length, take}
use Rattle.std.proofs.lemmas.List.{append_assoc, append-nil, take_all}
use Rattle.std.proofs.lemmas.Option.{same_Some, slice_get_cases}
use Rattle.std.specs.List.{slice_get}
use Rattle.i3c_orders.specs.declared.choice.Choice.{Choice}
use Rattle.i3c_orders.specs.declared.choice.Step.{Step}
use Rattle.i3c_orders.specs.declared.orders.SendFault.{SendFault}
use Rattle.i3c_orders.specs.declared.orders.Unfinished.{Unfinished}
use Rattle.i3c_orders.specs.Paths.{Answers, Ends, IsAnswered, IsSent, Sends, Tree, steps_of, told_on, tree}
use Rattle.i3c_orders.specs.Runs.{AreTried, CanLead, IsRun, told_by}
use Rattle.i3c_orders.specs.Sessions.{Call, IsSession, IsTried, Move, told_now}
use Rattle.i3c_orders.proofs.Trying.{IsUnderway, all_tried, covered, none_is_some, only_tried, told_more}

module _ {L S A : Type 0} (gives : S → L → List (Step S A) → Type 0) (program : List A → Option L) where
  -- what is kept after calls is what is kept after some moves
  pub record IsMoved (start : S) (tried : List (List (Step S A))) (new : Tree L S A) : Type 0 where
    pub moves : List Move
    pub is : IsTried gives program start moves tried new.path
    pub begins : new.start ≡ start
    pub within : new.at ≤ length new.path

  -- each line on a path is the program's behind the answers before it
  line_at : (start : S) (tried : List (List (Step S A))) (run : List (Step S A)) (path : List (Choice L S A)) (n : ℕ) (choice : Choice L S A) → IsUnderway gives program start tried run path → slice_get path n ≡ Some choice
      → program (told_by run ++ told_on (take n path)) ≡ Some choice.line
  line_at start tried run [] n choice was is = absurd (none_is_some None choice refl is)
  line_at start tried run (first ∷ path) zero choice (asks, seen, rest) is =
      subst (λ (c : Choice L S A). program (told_by run ++ []) ≡ Some c.line) (same_Some first choice is) (subst (λ answers. program answers ≡ Some first.line) (sym (append-nil (told_by run))) asks)
  line_at start tried run (first ∷ path) (suc n) choice (asks, seen, rest) is =
      subst (λ answers. program answers ≡ Some choice.line) (ap (λ told. told ++ told_on (take n path)) (told_more run first.taken) ∙ append_assoc (told_by run) (first.taken.answer ∷ []) (told_on (take n path)))
      (line_at start tried (run ++ first.taken ∷ []) path n choice rest is)

  pub line_now : (start : S) (tried : List (List (Step S A))) (old : Tree L S A) (choice : Choice L S A) → IsMoved start tried old → slice_get old.path old.at ≡ Some choice → program (told_now old) ≡ Some choice.line
  line_now start tried old choice moved there = line_at start tried [] old.path old.at choice (covered gives program start moved.moves tried old.path moved.is).underway there

  -- at the end of a path all its answers were told
  told_all : (old : Tree L S A) (o : Option L) → length old.path ≤ old.at → program (told_now old) ≡ o → program (told_on old.path) ≡ o
  told_all old o past is = subst (λ path. program (told_on path) ≡ o) (take_all old.at old.path past) is

  sends : (start : S) (tried : List (List (Step S A))) (old : Tree L S A) (line : L) (new : Tree L S A) → IsMoved start tried old → program (told_now old) ≡ Some line → IsAnswered gives old line new → IsMoved start tried new
  sends start tried old line new was asks answered = go ((slice_get_cases old.path old.at).1)
    where
      go : ((choice : Choice L S A) × (old.at < length old.path) × (slice_get old.path old.at ≡ Some choice) × (get_or old.path old.at choice ≡ choice)) ⊎ ((length old.path ≤ old.at) × (slice_get old.path old.at ≡ None)) → IsMoved start tried new
      go (inl (choice, inside, there, rest)) =
          let again : (choice.line ≡ line) × (new ≡ tree old.start old.path (suc old.at)) =
          subst (λ o. MatchOption o (IsSent gives old line new) (λ (c : Choice L S A). (c.line ≡ line) × (new ≡ tree old.start old.path (suc old.at)))) there answered in
          subst (λ t. IsMoved start tried t) (sym again.1) (record { moves = was.moves; is = was.is; begins = was.begins; within = inside })
      go (inr (past, none)) =
          let sent : IsSent gives old line new =
          subst (λ o. MatchOption o (IsSent gives old line new) (λ (c : Choice L S A). (c.line ≡ line) × (new ≡ tree old.start old.path (suc old.at)))) none answered in record {
            moves = Move.Line ∷ was.moves;
            is = (old.path, line, was.is, told_all old (Some line) past asks, subst (λ s. Sends gives s old.path line new.path) was.begins sent.path);
            begins = sent.start ∙ was.begins;
            within = omega (arith, sent.at);
          }

  -- so it is after all calls
  pub moved : (start : S) (calls : List Call) (tried : List (List (Step S A))) (new : Tree L S A) → IsSession gives program start calls tried new → IsMoved start tried new
  moved start [] tried new (none, is) = record {
    moves = [];
    is = (none, ap (λ (t : Tree L S A). t.path) is);
    begins = ap (λ (t : Tree L S A). t.start) is;
    within = omega (arith, ap (λ (t : Tree L S A). t.at) is);
  }
  moved start (Call.Send ∷ before) tried new (old, line, is, asks, answered) = sends start tried old line new (moved start before tried old is) asks answered
  moved start (Call.Again ∷ before) tried new (old, done, is, ends, (last, back, at, begins), more) =
      let was : IsMoved start done old = moved start before done old is in record {
        moves = Move.Next ∷ was.moves;
        is = (old.path, done, was.is, told_all old None (omega (arith, last)) ends, back, more);
        begins = begins ∙ was.begins;
        within = omega (arith, at);
      }

  -- where no run is left, all was tried
  pub calls_tried : (start : S) (calls : List Call) (tried : List (List (Step S A))) (old new : Tree L S A) → IsSession gives program start calls tried old → program (told_now old) ≡ None → Ends old (Ok false) new
      → AreTried gives program start (steps_of old.path ∷ tried) []
  calls_tried start calls tried old new is ends (last, over, same) =
      let was : IsMoved start tried old = moved start calls tried old is in
      all_tried gives program start was.moves tried old.path was.is (told_all old None (omega (arith, last)) ends) over

  -- and nothing else
  pub calls_only : (start : S) (calls : List Call) (tried : List (List (Step S A))) (old new : Tree L S A) → IsSession gives program start calls tried old → program (told_now old) ≡ None → Ends old (Ok false) new
      → (run : List (Step S A)) → Contains (steps_of old.path ∷ tried) run → IsRun (CanLead gives) program start run
  calls_only start calls tried old new is ends (last, over, same) =
      let was : IsMoved start tried old = moved start calls tried old is in
      only_tried gives program start was.moves tried old.path was.is (told_all old None (omega (arith, last)) ends)

  -- no line of the program is taken for another
  pub never_differs : {F : Type 0} (fails : S → L → F → Type 0) (start : S) (calls : List Call) (tried : List (List (Step S A))) (old new : Tree L S A) (line : L) → IsSession gives program start calls tried old → program (told_now old) ≡ Some line
      → Answers gives fails old line (Err SendFault.Differs) new → ⊥
  never_differs fails start calls tried old new line is asks (choice, there, other, kept) =
      other (same_Some choice.line line (sym (line_now start tried old choice (moved start calls tried old is) there) ∙ asks))

  -- and none of its runs ends too early
  pub never_unfinished : (start : S) (calls : List Call) (tried : List (List (Step S A))) (old new : Tree L S A) (unfinished : Unfinished) → IsSession gives program start calls tried old → program (told_now old) ≡ None
      → Ends old (Err unfinished) new → ⊥
  never_unfinished start calls tried old new unfinished is ends (early, kept) = go ((slice_get_cases old.path old.at).1)
    where
      go : ((choice : Choice L S A) × (old.at < length old.path) × (slice_get old.path old.at ≡ Some choice) × (get_or old.path old.at choice ≡ choice)) ⊎ ((length old.path ≤ old.at) × (slice_get old.path old.at ≡ None)) → ⊥
      go (inl (choice, inside, there, rest)) = none_is_some (program (told_now old)) choice.line ends (line_now start tried old choice (moved start calls tried old is) there)
      go (inr (past, none)) = omega (arith, early, past)
