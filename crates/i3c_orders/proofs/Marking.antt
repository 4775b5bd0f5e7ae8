-- What was tried of the runs of a program that leaves those whose next line it sent before.
use Rattle.std.proofs.Common.{◌≡◌, ◌⊎◌, inl, inr, List, [], ◌∷◌, ◌++◌, Contains, Option, None, Some, ap, arith, sym, subst, length, ◌∙◌}
use Rattle.std.specs.Bool.{⊤}
use Rattle.std.proofs.lemmas.List.{append_assoc, append-nil}
use Rattle.i3c_orders.specs.declared.choice.Choice.{Choice}
use Rattle.i3c_orders.specs.declared.choice.Step.{Step}
use Rattle.i3c_orders.specs.Marks.{AreCovered, AreMarked, Begins, GoesOn, GoesOnAlike, GoesOnElsewhere, IsKnown, Turn}
use Rattle.i3c_orders.specs.Paths.{IsOver, Retreats, state_behind, steps_of, told_on}
use Rattle.i3c_orders.specs.Runs.{state_after, told_by}
use Rattle.i3c_orders.proofs.Trying.{first_or, here, last_or, none_in, state_more, there, told_same}

module _ {L S A : Type 0} (gives : S → L → List (Step S A) → Type 0) (alike : S → S → Type 0) (program : List A → Option L) (start : S) where
  -- what was tried stays tried
  abbrev Grows : List (List (Step S A)) → List (List (Step S A)) → Type 0
  Grows tried more = (r : List (Step S A)) → Contains tried r → Contains more r

  begins_more : (tried more : List (List (Step S A))) → Grows tried more → (run : List (Step S A)) → Begins tried run → Begins more run
  begins_more tried more all run (rest, at) = (rest, all (run ++ rest) at)

  goes_more : (tried more : List (List (Step S A))) → Grows tried more → (run : List (Step S A)) → GoesOn gives program start tried run → GoesOn gives program start more run
  goes_more tried more all run on = record { line = on.line; asks = on.asks; steps = on.steps; given = on.given; each = λ step at. begins_more tried more all (run ++ step ∷ []) (on.each step at) }

  -- an answer is taken, or left, or begins a run that was tried
  abbrev IsSeen : List (List (Step S A)) → List (Step S A) → Choice L S A → Step S A → Type 0
  IsSeen tried run choice step = (step ≡ choice.taken) ⊎ (Contains choice.left.items step ⊎ Begins tried (run ++ step ∷ []))

  -- behind a run each line of a path is the program's, and was given answers
  abbrev IsUnderway : List (List (Step S A)) → List (Step S A) → List (Choice L S A) → Type 0
  IsUnderway tried run [] = ⊤
  IsUnderway tried run (choice ∷ path) =
      (program (told_by run) ≡ Some choice.line) × ((steps : List (Step S A)) × gives (state_after start run) choice.line steps × ((step : Step S A) → Contains steps step → IsSeen tried run choice step)) × IsUnderway tried (run ++ choice.taken ∷ []) path

  -- a run is one behind which a line of a path was sent
  abbrev IsOn : List (Step S A) → List (Choice L S A) → List (Step S A) → Type 0
  IsOn base [] run = ⊥
  IsOn base (choice ∷ path) run = (run ≡ base) ⊎ IsOn (base ++ choice.taken ∷ []) path run

  at_on : (more : List (List (Step S A))) (base : List (Step S A)) (first : Choice L S A) (path : List (Choice L S A)) → Contains more (base ++ steps_of (first ∷ path)) → Contains more ((base ++ first.taken ∷ []) ++ steps_of path)
  at_on more base first path at = subst (λ r. Contains more r) (sym (append_assoc base (first.taken ∷ []) (steps_of path))) at

  -- where nothing is left on a path whose run was tried, each run on it goes on in each way
  closes : (tried more : List (List (Step S A))) → Grows tried more → (base : List (Step S A)) (path : List (Choice L S A)) (run : List (Step S A)) → IsUnderway tried base path → IsOver path → Contains more (base ++ steps_of path) → IsOn base path run
      → GoesOn gives program start more run
  closes tried more all base [] run was over at on = absurd on
  closes tried more all base (first ∷ path) run (is, (steps, given, each), rest) (none, over) at (inl same) =
      subst (λ r. GoesOn gives program start more r) (sym same) (record { line = first.line; asks = is; steps = steps; given = given; each = λ step h. go step (each step h) })
    where
      go : (step : Step S A) → IsSeen tried base first step → Begins more (base ++ step ∷ [])
      go step (inl taken) = subst (λ s. Begins more (base ++ s ∷ [])) (sym taken) (steps_of path, at_on more base first path at)
      go step (inr (inl left)) = absurd (none_in step (subst (λ steps. Contains steps step) none left))
      go step (inr (inr earlier)) = begins_more tried more all (base ++ step ∷ []) earlier
  closes tried more all base (first ∷ path) run (is, seen, rest) (none, over) at (inr on) = closes tried more all (base ++ first.taken ∷ []) path run rest over (at_on more base first path at) on

  -- where the next run goes another way, a run on the path is still on it, or goes on in each way
  parts : (tried more : List (List (Step S A))) → Grows tried more → (base : List (Step S A)) (path new : List (Choice L S A)) (run : List (Step S A)) → IsUnderway tried base path → Retreats path new → Contains more (base ++ steps_of path) → IsOn base path run
      → GoesOn gives program start more run ⊎ IsOn base new run
  parts tried more all base [] new run was back at on = absurd on
  parts tried more all base (first ∷ path) [] run was back at on = absurd back
  parts tried more all base (first ∷ path) (other ∷ new) run was back at (inl same) = inr (inl same)
  parts tried more all base (first ∷ path) (other ∷ new) run (is, seen, rest) (inl (same, back)) at (inr on) = go (parts tried more all (base ++ first.taken ∷ []) path new run rest back (at_on more base first path at) on)
    where
      go : GoesOn gives program start more run ⊎ IsOn (base ++ first.taken ∷ []) new run → GoesOn gives program start more run ⊎ IsOn base (other ∷ new) run
      go (inl goes) = inl goes
      go (inr still) = inr (inr (subst (λ (c : Choice L S A). IsOn (base ++ c.taken ∷ []) new run) (sym same) still))
  parts tried more all base (first ∷ path) (other ∷ new) run (is, seen, rest) (inr (over, none, line, left)) at (inr on) =
      inl (closes tried more all (base ++ first.taken ∷ []) path run rest over (at_on more base first path at) on)

  -- so each line of the next path is the program's, and was given answers
  turned : (tried more : List (List (Step S A))) → Grows tried more → (base : List (Step S A)) (path new : List (Choice L S A)) → IsUnderway tried base path → Retreats path new → Contains more (base ++ steps_of path) → IsUnderway more base new
  turned tried more all base [] new was back at = absurd back
  turned tried more all base (first ∷ path) [] was back at = absurd back
  turned tried more all base (first ∷ path) (other ∷ new) (is, (steps, given, each), rest) (inl (same, back)) at =
      subst (λ (c : Choice L S A). IsUnderway more base (c ∷ new)) (sym same)
      (is, (steps, given, λ step h. kept step (each step h)), turned tried more all (base ++ first.taken ∷ []) path new rest back (at_on more base first path at))
    where
      kept : (step : Step S A) → IsSeen tried base first step → IsSeen more base first step
      kept step (inl taken) = inl taken
      kept step (inr (inl left)) = inr (inl left)
      kept step (inr (inr earlier)) = inr (inr (begins_more tried more all (base ++ step ∷ []) earlier))
  turned tried more all base (first ∷ path) (other ∷ new) (is, (steps, given, each), rest) (inr (over, none, line, left)) at = (
    is ∙ ap Some (sym line),
    (steps, subst (λ (l : L). gives (state_after start base) l steps) (sym line) given, λ step h. go step (each step h)),
    subst (λ rest. IsUnderway more (base ++ other.taken ∷ []) rest) (sym none) tt,
  )
    where
      which : (step : Step S A) → (step ≡ other.taken) ⊎ Contains other.left.items step → IsSeen more base other step
      which step (inl one) = inl one
      which step (inr among) = inr (inl among)

      go : (step : Step S A) → IsSeen tried base first step → IsSeen more base other step
      go step (inl taken) = inr (inr (subst (λ s. Begins more (base ++ s ∷ [])) (sym taken) (steps_of path, at_on more base first path at)))
      go step (inr (inl among)) = which step (last_or other.left.items other.taken step (subst (λ steps. Contains steps step) left among))
      go step (inr (inr earlier)) = inr (inr (begins_more tried more all (base ++ step ∷ []) earlier))

  -- one line more is answered at the end of a path
  sent : (tried : List (List (Step S A))) (base : List (Step S A)) (path : List (Choice L S A)) (choice : Choice L S A) → IsUnderway tried base path → program (told_by (base ++ steps_of path)) ≡ Some choice.line
      → gives (state_behind (state_after start base) path) choice.line (choice.left.items ++ choice.taken ∷ []) → IsUnderway tried base (path ++ choice ∷ [])
  sent tried base [] choice was asks given = (
    subst (λ r. program (told_by r) ≡ Some choice.line) (append-nil base) asks,
    (choice.left.items ++ choice.taken ∷ [], given, λ step at. which step (last_or choice.left.items choice.taken step at)),
    tt,
  )
    where
      which : (step : Step S A) → (step ≡ choice.taken) ⊎ Contains choice.left.items step → IsSeen tried base choice step
      which step (inl is) = inl is
      which step (inr left) = inr (inl left)
  sent tried base (first ∷ path) choice (is, seen, rest) asks given = (
    is,
    seen,
    sent tried (base ++ first.taken ∷ []) path choice rest (subst (λ r. program (told_by r) ≡ Some choice.line) (sym (append_assoc base (first.taken ∷ []) (steps_of path))) asks)
        (subst (λ (s : S). gives (state_behind s path) choice.line (choice.left.items ++ choice.taken ∷ [])) (sym (state_more start base first.taken)) given),
  )

  on_more : (base : List (Step S A)) (path : List (Choice L S A)) (choice : Choice L S A) (run : List (Step S A)) → IsOn base path run → IsOn base (path ++ choice ∷ []) run
  on_more base [] choice run on = absurd on
  on_more base (first ∷ path) choice run (inl same) = inl same
  on_more base (first ∷ path) choice run (inr on) = inr (on_more (base ++ first.taken ∷ []) path choice run on)

  -- the beginning of a path's run that isn't all of it is on the path
  on_path : (base : List (Step S A)) (path : List (Choice L S A)) (run : List (Step S A)) (step : Step S A) (rest : List (Step S A)) → steps_of path ≡ run ++ step ∷ rest → IsOn base path (base ++ run)
  on_path base [] [] step rest is = absurd (omega (arith, ap length is))
  on_path base [] (first ∷ run) step rest is = absurd (omega (arith, ap length is))
  on_path base (choice ∷ path) [] step rest is = inl (append-nil base)
  on_path base (choice ∷ path) (first ∷ run) step rest is =
      let same : choice.taken ≡ first = cc in
      let more : steps_of path ≡ run ++ step ∷ rest = cc in
      inr (subst (λ r. IsOn (base ++ choice.taken ∷ []) path r) (append_assoc base (choice.taken ∷ []) run ∙ ap (λ s. base ++ s ∷ run) same) (on_path (base ++ choice.taken ∷ []) path run step rest more))

  -- behind a run each way was tried, or is underway
  abbrev IsOpen : List (List (Step S A)) → List (Choice L S A) → List (Step S A) → Type 0
  IsOpen tried path run = GoesOn gives program start tried run ⊎ IsOn [] path run

  -- a run's line was sent elsewhere, where each way was tried or is underway
  record IsElsewhere (tried : List (List (Step S A))) (path : List (Choice L S A)) (run : List (Step S A)) : Type 0 where
    line : L
    asks : program (told_by run) ≡ Some line
    other : List (Step S A)
    asked : program (told_by other) ≡ Some line
    futures : GoesOnAlike program other run
    same : alike (state_after start other) (state_after start run)
    opened : IsOpen tried path other

  -- what holds after each turn
  record Is (tried : List (List (Step S A))) (path : List (Choice L S A)) : Type 0 where
    underway : IsUnderway tried [] path
    opened : (run : List (Step S A)) (step : Step S A) → Begins tried (run ++ step ∷ []) → IsOpen tried path run
    ended : (run : List (Step S A)) → Contains tried run → (program (told_by run) ≡ None) ⊎ IsElsewhere tried path run

  answered : (tried : List (List (Step S A))) (old : List (Choice L S A)) (choice : Choice L S A) → Is tried old → program (told_on old) ≡ Some choice.line → gives (state_behind start old) choice.line (choice.left.items ++ choice.taken ∷ []) → Is tried (old ++ choice ∷ [])
  answered tried old choice was asks given = record {
    underway = sent tried [] old choice was.underway (subst (λ answers. program answers ≡ Some choice.line) (sym (told_same old)) asks) given;
    opened = λ run step at. more run (was.opened run step at);
    ended = λ run at. end run (was.ended run at);
  }
    where
      more : (run : List (Step S A)) → IsOpen tried old run → IsOpen tried (old ++ choice ∷ []) run
      more run (inl goes) = inl goes
      more run (inr on) = inr (on_more [] old choice run on)

      end : (run : List (Step S A)) → (program (told_by run) ≡ None) ⊎ IsElsewhere tried old run → (program (told_by run) ≡ None) ⊎ IsElsewhere tried (old ++ choice ∷ []) run
      end run (inl over) = inl over
      end run (inr place) = inr (record { line = place.line; asks = place.asks; other = place.other; asked = place.asked; futures = place.futures; same = place.same; opened = more place.other place.opened })

  -- where a run is over or left, and the next one goes another way
  next : (done tried : List (List (Step S A))) (old path : List (Choice L S A)) → Is done old → Retreats old path → tried ≡ steps_of old ∷ done → (program (told_by (steps_of old)) ≡ None) ⊎ IsKnown alike program start (steps_of old ∷ done) (steps_of old) → Is tried path
  next done tried old path was back more why = record {
    underway = turned done tried grows [] old path was.underway back at_end;
    opened = opens;
    ended = λ run at. end run (first_or (steps_of old) done run (subst (λ runs. Contains runs run) more at));
  }
    where
      all : (r : List (Step S A)) → Contains (steps_of old ∷ done) r → Contains tried r
      all r h = subst (λ runs. Contains runs r) (sym more) h

      grows : Grows done tried
      grows r h = all r (there (steps_of old) done r h)

      at_end : Contains tried (steps_of old)
      at_end = all (steps_of old) (here (steps_of old) done)

      still : (run : List (Step S A)) → IsOpen done old run → IsOpen tried path run
      still run (inl goes) = inl (goes_more done tried grows run goes)
      still run (inr on) = parts done tried grows [] old path run was.underway back at_end on

      opens_so : (run : List (Step S A)) (step : Step S A) (rest : List (Step S A)) → ((run ++ step ∷ []) ++ rest ≡ steps_of old) ⊎ Contains done ((run ++ step ∷ []) ++ rest) → IsOpen tried path run
      opens_so run step rest (inl is) = still run (inr (on_path [] old run step rest (sym is ∙ append_assoc run (step ∷ []) rest)))
      opens_so run step rest (inr at) = still run (was.opened run step (rest, at))

      opens : (run : List (Step S A)) (step : Step S A) → Begins tried (run ++ step ∷ []) → IsOpen tried path run
      opens run step (rest, at) = opens_so run step rest (first_or (steps_of old) done ((run ++ step ∷ []) ++ rest) (subst (λ runs. Contains runs ((run ++ step ∷ []) ++ rest)) more at))

      newest : (program (told_by (steps_of old)) ≡ None) ⊎ IsKnown alike program start (steps_of old ∷ done) (steps_of old) → (program (told_by (steps_of old)) ≡ None) ⊎ IsElsewhere tried path (steps_of old)
      newest (inl over) = inl over
      newest (inr known) =
          inr (record { line = known.line; asks = known.asks; other = known.other; asked = known.asked; futures = known.futures; same = known.same; opened = opens known.other known.step (subst (λ runs. Begins runs (known.other ++ known.step ∷ [])) (sym more) known.answered) })

      end : (run : List (Step S A)) → (run ≡ steps_of old) ⊎ Contains done run → (program (told_by run) ≡ None) ⊎ IsElsewhere tried path run
      end run (inl is) = subst (λ r. (program (told_by r) ≡ None) ⊎ IsElsewhere tried path r) (sym is) (newest why)
      end run (inr at) = earlier (was.ended run at)
        where
          earlier : (program (told_by run) ≡ None) ⊎ IsElsewhere done old run → (program (told_by run) ≡ None) ⊎ IsElsewhere tried path run
          earlier (inl over) = inl over
          earlier (inr place) = inr (record { line = place.line; asks = place.asks; other = place.other; asked = place.asked; futures = place.futures; same = place.same; opened = still place.other place.opened })

  marked : (turns : List Turn) (tried : List (List (Step S A))) (path : List (Choice L S A)) → AreMarked gives alike program start turns tried path → Is tried path
  marked [] tried path (none, empty) = record {
    underway = subst (λ p. IsUnderway tried [] p) (sym empty) tt;
    opened = λ run step (rest, at). absurd (none_in ((run ++ step ∷ []) ++ rest) (subst (λ runs. Contains runs ((run ++ step ∷ []) ++ rest)) none at));
    ended = λ run at. absurd (none_in run (subst (λ runs. Contains runs run) none at));
  }
  marked (Turn.Line ∷ before) tried path (old, line, is, asks, (choice, same, given, new)) =
      subst (λ p. Is tried p) (sym new) (answered tried old choice (marked before tried old is) (asks ∙ ap Some (sym same)) (subst (λ (l : L). gives (state_behind start old) l (choice.left.items ++ choice.taken ∷ [])) (sym same) given))
  marked (Turn.Over ∷ before) tried path (old, done, is, ends, back, more) = next done tried old path (marked before done old is) back more (inl (subst (λ answers. program answers ≡ None) (sym (told_same old)) ends))
  marked (Turn.Left ∷ before) tried path (old, done, is, known, back, more) = next done tried old path (marked before done old is) back more (inr known)

  -- where nothing is left on the newest path, what is open goes on in each way
  goes_now : (tried : List (List (Step S A))) (path : List (Choice L S A)) (run : List (Step S A)) → IsUnderway tried [] path → IsOver path → IsOpen tried path run → GoesOn gives program start (steps_of path ∷ tried) run
  goes_now tried path run was over (inl on) = goes_more tried (steps_of path ∷ tried) (λ r h. there (steps_of path) tried r h) run on
  goes_now tried path run was over (inr on) = closes tried (steps_of path ∷ tried) (λ r h. there (steps_of path) tried r h) [] path run was over (here (steps_of path) tried) on

  -- where nothing is left on the newest path, behind each beginning of a run that was tried and goes further each way was tried
  pub goes_behind : (turns : List Turn) (tried : List (List (Step S A))) (path : List (Choice L S A)) → AreMarked gives alike program start turns tried path → IsOver path
      → (run : List (Step S A)) (step : Step S A) → Begins (steps_of path ∷ tried) (run ++ step ∷ []) → GoesOn gives program start (steps_of path ∷ tried) run
  goes_behind turns tried path is over run step (later, at) = which (first_or (steps_of path) tried ((run ++ step ∷ []) ++ later) at)
    where
      was : Is tried path
      was = marked turns tried path is

      which : ((run ++ step ∷ []) ++ later ≡ steps_of path) ⊎ Contains tried ((run ++ step ∷ []) ++ later) → GoesOn gives program start (steps_of path ∷ tried) run
      which (inl same) = goes_now tried path run was.underway over (inr (on_path [] path run step later (sym same ∙ append_assoc run (step ∷ []) later)))
      which (inr among) = goes_now tried path run was.underway over (was.opened run step (later, among))

  -- where the newest run is over and nothing is left, behind each beginning each way was tried, there or elsewhere
  pub all_covered : (turns : List Turn) (tried : List (List (Step S A))) (path : List (Choice L S A)) → AreMarked gives alike program start turns tried path → IsOver path
      → (program (told_by (steps_of path)) ≡ None) ⊎ IsKnown alike program start (steps_of path ∷ tried) (steps_of path) → AreCovered gives alike program start (steps_of path ∷ tried)
  all_covered turns tried path is over why run (rest, at) = go rest (first_or (steps_of path) tried (run ++ rest) at)
    where
      was : Is tried path
      was = marked turns tried path is

      more : List (List (Step S A))
      more = steps_of path ∷ tried

      goes : (r : List (Step S A)) → IsOpen tried path r → GoesOn gives program start more r
      goes r on = goes_now tried path r was.underway over on

      opens : (r : List (Step S A)) (step : Step S A) → Begins more (r ++ step ∷ []) → GoesOn gives program start more r
      opens = goes_behind turns tried path is over

      Covered : List (Step S A) → Type 0
      Covered r = (program (told_by r) ≡ None) ⊎ (GoesOn gives program start more r ⊎ GoesOnElsewhere gives alike program start more r)

      newest : (program (told_by (steps_of path)) ≡ None) ⊎ IsKnown alike program start more (steps_of path) → Covered (steps_of path)
      newest (inl ends) = inl ends
      newest (inr known) = inr (inr (record { line = known.line; asks = known.asks; other = known.other; asked = known.asked; futures = known.futures; same = known.same; on = opens known.other known.step known.answered }))

      earlier : (r : List (Step S A)) → (program (told_by r) ≡ None) ⊎ IsElsewhere tried path r → Covered r
      earlier r (inl ends) = inl ends
      earlier r (inr place) = inr (inr (record { line = place.line; asks = place.asks; other = place.other; asked = place.asked; futures = place.futures; same = place.same; on = goes place.other place.opened }))

      go : (later : List (Step S A)) → (run ++ later ≡ steps_of path) ⊎ Contains tried (run ++ later) → Covered run
      go [] (inl same) = subst Covered (sym (sym (append-nil run) ∙ same)) (newest why)
      go [] (inr among) = earlier run (was.ended run (subst (λ r. Contains tried r) (append-nil run) among))
      go (step ∷ later) (inl same) = inr (inl (goes run (inr (on_path [] path run step later (sym same)))))
      go (step ∷ later) (inr among) = inr (inl (goes run (was.opened run step (later, subst (λ r. Contains tried r) (sym (append_assoc run (step ∷ []) later)) among))))
