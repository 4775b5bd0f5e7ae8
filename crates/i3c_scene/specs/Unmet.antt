-- What is told of a line that breaks an expectation.
use Rattle.std.specs.Prelude.{◌≡◌, ℕ, List, [], ◌∷◌, Option, None, Some, if◌then◌else◌}
use Rattle.i3c_facts.specs.declared.before.Before.{Before}
use Rattle.i3c_facts.specs.Holding.{claims_hold}
use Rattle.i3c_facts.specs.Printing.{unmet_text}
use Rattle.i3c_scene.specs.declared.line.Expectation.{Expectation}
use Rattle.i3c_scene.specs.declared.line.Line.{Line}
use Rattle.i3c_scene.specs.Scenes.{Seen, name_in, place_in}
use Rattle.i3c_scene.specs.Trying.{Runs}

-- the first expectation that doesn't hold
abbrev pub first_unmet : Seen → Before → List Expectation → Option Expectation
first_unmet new before [] = None
first_unmet new before (one ∷ rest) = if claims_hold new.state (place_in new.names) before one.facts then first_unmet new before rest else Some one

-- what is there in place of an expectation
abbrev pub there : Seen → Before → Expectation → List ℕ
there new before one = unmet_text new.state (place_in new.names) (name_in new.names) before one.facts

-- of the first expectation that doesn't hold, its number and what is there; nothing where all hold
abbrev pub IsTold : Seen → Before → List Expectation → Option ℕ → List ℕ → Type 0
IsTold new before expected None said = (first_unmet new before expected ≡ None) × (said ≡ [])
IsTold new before expected (Some number) said = (one : Expectation) × (first_unmet new before expected ≡ Some one) × (number ≡ one.number) × (said ≡ there new before one)

-- a line runs in a way, and this is told of what is expected behind it
abbrev pub LineTells : Seen → Line → ℕ → Option ℕ → List ℕ → Type 0
LineTells old line way told said = (before : Before) × (new : Seen) × Runs old line.command line.risk way before new × IsTold new before line.expectations.items told said
