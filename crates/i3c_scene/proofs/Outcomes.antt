-- What comes of a line that was tried.
use Rattle.std.proofs.Common.{Result, Err, Ok, ◌≡◌, ◌∙◌, ℕ, Bool, true, false, not, ◌&&◌, refl, sym, if◌then◌else◌}
use Rattle.std.specs.declared.alloc.AllocError.{AllocError}
use Rattle.std.specs.Prelude.{IfOk}
use Rattle.i3c_explore.specs.declared.ran.Ran.{Ran}
use Rattle.i3c_facts.specs.declared.before.Before.{Before}
use Rattle.i3c_scene.specs.declared.line.Line.{Line}
use Rattle.i3c_scene.specs.declared.ways.Ways.{Ways}
use Rattle.i3c_scene.specs.Latest.{tried_as}
use Rattle.i3c_scene.specs.Scenes.{Seen}
use Rattle.i3c_scene.specs.Trying.{LineBreaks, LineComesTo, LineSteps, RunsIn, all_hold, is_expected, outcome, was_refused}
use Rattle.i3c_scene.proofs.Late.{runs_as}

-- what comes of a line of which this holds
abbrev comes : Bool → Bool → Ran
comes held noted = if held then (if noted then Ran.Noted else Ran.Held) else Ran.Broken

-- if nothing is broken, all that is expected holds
held_unless : (held noted : Bool) → (comes held noted ≡ Ran.Broken → ⊥) → held ≡ true
held_unless true noted other = refl
held_unless false noted other = absurd (other refl)

broken_if : (held noted : Bool) → comes held noted ≡ Ran.Broken → held ≡ false
broken_if true true e = absurd cc
broken_if true false e = absurd cc
broken_if false noted e = refl

-- what came of a line that was tried in the ways that stand for its own
abbrev IsTried : Seen → Line → Ways → Seen → Result Ran AllocError → Type 0
IsTried live line tried new result = IfOk result (λ (ran : Ran). (before : Before) × RunsIn live line.command line.risk tried before new × (ran ≡ outcome new before line))

-- it leads on if nothing is broken
pub leads_of : (old live : Seen) (line : Line) (way : ℕ) (tried : Ways) (result : Result Ran AllocError) (new : Seen) → live ≡ old → tried ≡ tried_as old.state line.risk line.command way
    → IsTried live line tried new result → IfOk result (λ (ran : Ran). (ran ≡ Ran.Broken → ⊥) → LineSteps old line way new)
leads_of old live line way tried (Ok ran) new same is (before, runs, came) = λ other. (
  before,
  runs_as old live line way tried before new same is runs,
  held_unless (all_hold new before line.expectations.items) (was_refused before.result && not (is_expected line)) (λ broken. other (came ∙ broken)),
)
leads_of old live line way tried (Err short) new same is told = tt

-- and breaks an expectation if one is
pub breaks_of : (old live : Seen) (line : Line) (way : ℕ) (tried : Ways) (result : Result Ran AllocError) (new : Seen) → live ≡ old → tried ≡ tried_as old.state line.risk line.command way
    → IsTried live line tried new result → IfOk result (λ (ran : Ran). ran ≡ Ran.Broken → LineBreaks old line way)
breaks_of old live line way tried (Ok ran) new same is (before, runs, came) = λ broken. (
  before,
  new,
  runs_as old live line way tried before new same is runs,
  broken_if (all_hold new before line.expectations.items) (was_refused before.result && not (is_expected line)) (sym came ∙ broken),
)
breaks_of old live line way tried (Err short) new same is told = tt

-- this comes of it
pub comes_of : (one : Ran) (old live : Seen) (line : Line) (way : ℕ) (tried : Ways) (result : Result Ran AllocError) (new : Seen) → live ≡ old → tried ≡ tried_as old.state line.risk line.command way
    → IsTried live line tried new result → IfOk result (λ (ran : Ran). ran ≡ one → LineComesTo one old line way)
comes_of one old live line way tried (Ok ran) new same is (before, runs, came) = λ it. (before, new, runs_as old live line way tried before new same is runs, sym came ∙ it)
comes_of one old live line way tried (Err short) new same is told = tt
