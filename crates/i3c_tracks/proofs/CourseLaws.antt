-- Turns of a block, and the lines that they run.
use Rattle.std.proofs.Common.{◌≡◌, ◌∙◌, ◌<◌, ◌≤◌, ◌+◌, ◌++◌, ℕ, Bool, false, List, [], ◌∷◌, Option, None, Some, add-one, ap, arith, drop, drop-cons, get_or, length, min, refl, reverse, subst, suc, sym, take}
use Rattle.std.specs.Global.{Vec}
use Rattle.std.specs.Prelude.{MatchOption, slice_get}
use Rattle.std.proofs.lemmas.Bool.Decides.{nat_tests}
use Rattle.std.proofs.lemmas.List.{append_assoc, drop_all, reverse-append, take_more}
use Rattle.std.proofs.lemmas.Option.{slice_get_read}
use Rattle.i3c_explore.specs.declared.turn.Turn.{Turn}
use Rattle.i3c_explore.specs.Orders.{track, turns_of}
use Rattle.i3c_scene.specs.declared.line.Line.{Line}
use Rattle.i3c_tracks.specs.declared.course.Run.{Run}
use Rattle.i3c_explore.specs.Blocks.{block, tracks_in}
use Rattle.i3c_scene.specs.Scenes.{Seen}
use Rattle.i3c_scene.specs.Trying.{LineSteps}
use Rattle.i3c_tracks.specs.Courses.{AreRuns, IsRun, RunIn, RunsLead, RunsOne, count_lines}

-- all lines of a block are counted
pub counted_all : (tracks : List (Vec Line)) (count i most : ℕ) → length tracks ≤ i → count ≤ most → min (count + count_lines (drop i tracks)) most ≡ min (count_lines tracks) most → count ≡ min (count_lines tracks) most
counted_all tracks count i most past few counted =
    let none : count_lines (drop i tracks) ≡ 0 = ap count_lines (drop_all i tracks past) in
    let kept : min (count + count_lines (drop i tracks)) most ≡ count = grind (arith, nat_tests) in
    sym kept ∙ counted

-- one turn more, the newest first
pub more_turns : (turns : List Turn) (i : ℕ) (d : Turn) → i < length turns → reverse (take (i + 1) turns) ≡ get_or turns i d ∷ reverse (take i turns)
more_turns turns i d l = ap (λ (t : List Turn). reverse t) (take_more turns i d l) ∙ reverse-append (take i turns) (get_or turns i d ∷ [])

-- what one turn more runs behind what the others run
pub runs_more : (tracks : List (Vec Line)) (opened : Bool) (before : List Turn) (turn : Turn) (start old new own : List Run) → AreRuns tracks opened before own → old ≡ start ++ own
    → RunsOne tracks opened before turn old new → (more : List Run) × AreRuns tracks opened (turn ∷ before) more × (new ≡ start ++ more)
runs_more tracks opened before turn start old new own are is one = go (slice_get (track tracks turn.track) (turns_of turn.track before)) refl one
  where
    go : (next : Option Line) → next ≡ slice_get (track tracks turn.track) (turns_of turn.track before)
        → MatchOption next (new ≡ old) (λ line. (run : Run) × IsRun run line turn.way opened × (new ≡ old ++ run ∷ []))
        → (more : List Run) × AreRuns tracks opened (turn ∷ before) more × (new ≡ start ++ more)
    go None there same =
        (own, (own, are, subst (λ (o : Option Line). MatchOption o (own ≡ own) (λ line. (run : Run) × IsRun run line turn.way opened × (own ≡ own ++ run ∷ []))) there refl), same ∙ is)
    go (Some line) there (run, ran, put) = (
      own ++ run ∷ [],
      (own, are, subst (λ (o : Option Line). MatchOption o (own ++ run ∷ [] ≡ own) (λ line. (one : Run) × IsRun one line turn.way opened × (own ++ run ∷ [] ≡ own ++ one ∷ []))) there (run, ran, refl)),
      put ∙ ap (λ (r : List Run). r ++ run ∷ []) is ∙ append_assoc start own (run ∷ []),
    )

pub blocks_more : (blocks : List (Vec (Vec Line))) (opened : List Bool) (order : List Turn) (b : ℕ) (earlier own runs : List Run) (rest taken left : List Turn) (tracks : List (Vec Line)) (is_opened : Bool)
    → RunIn blocks opened order b earlier rest → tracks ≡ block blocks b → is_opened ≡ get_or opened b false → taken ≡ take (count_lines tracks) rest → left ≡ drop (count_lines tracks) rest
    → AreRuns tracks is_opened (reverse taken) own → runs ≡ earlier ++ own → RunIn blocks opened order (b + 1) runs left
blocks_more blocks opened order b earlier own runs rest taken left tracks is_opened ran same is took kept are put =
    let more : RunIn blocks opened order (suc b) runs left = (
      earlier,
      own,
      rest,
      ran,
      subst (λ (t : List (Vec Line)). AreRuns t (get_or opened b false) (reverse (take (count_lines t) rest)) own) same
          (subst (λ (o : Bool). AreRuns tracks o (reverse (take (count_lines tracks) rest)) own) is (subst (λ (t : List Turn). AreRuns tracks is_opened (reverse t) own) took are)),
      put,
      kept ∙ ap (λ (t : List (Vec Line)). drop (count_lines t) rest) same,
    )
    in let next : suc b ≡ b + 1 = omega arith in subst (λ (n : ℕ). RunIn blocks opened order n runs left) next more

-- the tracks of a block that is there
pub block_at : (blocks : List (Vec (Vec Line))) (b : ℕ) (tracks : Vec (Vec Line)) → b < length blocks → tracks ≡ get_or blocks b tracks → tracks.items ≡ block blocks b
block_at blocks b tracks l is = sym (ap (λ (t : Option (Vec (Vec Line))). tracks_in t) (slice_get_read blocks (length blocks) b tracks refl l is))

-- one line more leads on to where the rest leads
pub leads_more : (runs : List Run) (i : ℕ) (run : Run) (scene next end : Seen) → i < length runs → run ≡ get_or runs i run → LineSteps scene run.line.now run.way next → RunsLead next (drop (i + 1) runs) end → RunsLead scene (drop i runs) end
leads_more runs i run scene next end lt is steps led =
    let here : drop i runs ≡ get_or runs i run ∷ drop (i + 1) runs = rw add-one (drop-cons runs i run lt) in
    subst (λ (rs : List Run). RunsLead scene rs end) (sym here) (subst (λ (r : Run). RunsLead scene (r ∷ drop (i + 1) runs) end) is (next, steps, led))

-- behind the last line nothing is left to run
pub none_left : (runs : List Run) (i : ℕ) (scene : Seen) → length runs ≤ i → RunsLead scene (drop i runs) scene
none_left runs i scene behind = subst (λ (rs : List Run). RunsLead scene rs scene) (sym (drop_all i runs behind)) refl
