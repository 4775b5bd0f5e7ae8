-- What holds where a program has met every order.
use Rattle.std.specs.Prelude.{◌≡◌, ◌⊎◌, ◌++◌, ℕ, suc, List, [], ◌∷◌, All, Contains, Option, None, Some, take}
use Rattle.i3c_every.specs.declared.met.Met.{Met}
use Rattle.i3c_every.specs.declared.sent.Sent.{Sent}
use Rattle.i3c_every.specs.declared.told.Told.{Told}
use Rattle.i3c_every.specs.Closing.{ClosesAll}
use Rattle.i3c_every.specs.Every.{MeetsEvery}
use Rattle.i3c_every.specs.Marked.{AllMeet}
use Rattle.i3c_orders.specs.declared.choice.Step.{Step}
use Rattle.i3c_orders.specs.declared.which.Which.{Which}
use Rattle.i3c_orders.specs.Runs.{state_after, told_by}
use Rattle.i3c_orders.specs.Sessions.{told_now}
use Rattle.i3c_scene.specs.Replying.{IsSight, LineReplies, Replied}
use Rattle.i3c_scene.specs.Scenes.{Seen}
use Rattle.i3c_scene.specs.Trying.{LineSteps}
use Rattle.i3c_program.specs.declared.scenario.Scenario.{Scenario}
use Rattle.i3c_program.specs.declared.session.Session.{Session}
use Rattle.i3c_program.specs.declared.standing.Standing.{Standing}
use Rattle.i3c_program.specs.declared.trial.Trial.{Trial}
use Rattle.i3c_program.specs.declared.word.Word.{Word}
use Rattle.i3c_program.specs.Answers.{reply_in}
use Rattle.i3c_program.specs.Sessions.{HasBegun, IsAnswered, IsStart}
use Rattle.i3c_program.specs.Words.{IsWord}

-- a line is the program's by what it was told in this run: what it sends is what it sends now, and it ends its run only where that is over, or left. Any other line is its own affair
abbrev pub Follows : (List (Told Replied) → Option (Sent (List ℕ))) → Trial → Word → Type 0
Follows program trial (Word.Sends sent) = program (told_now trial.orders) ≡ Some sent
Follows program trial Word.Again = (trial.standing ≡ Standing.Left) ⊎ (program (told_now trial.orders) ≡ None)
Follows program trial word = Unit {0}

-- lines that are the program's, numbered from here on, were answered, one after another. Of a line the first 257 bytes are read
abbrev pub IsPlayed : (List (Told Replied) → Option (Sent (List ℕ))) → ℕ → Session → List (List ℕ) → Session → Type 0
IsPlayed program number old [] new = new ≡ old
IsPlayed program number old (line ∷ lines) new =
    (mid : Session) × (text : List ℕ) × IsAnswered old number (take 257 line) text mid × ((word : Word) → IsWord (take 257 line) word → Follows program old.trial word) × IsPlayed program (suc number) mid lines new

-- no line of the program breaks an expectation in a run, and where the run is over all that is left leads on, in every order
pub record Holds (scenario : Scenario) (start : Met Seen) (run : List (Step (Met Seen) (Told Replied))) : Type 0 where
  pub met : All (λ step. (reply_in step.answer).unmet ≡ None) run
  pub closed : ClosesAll LineSteps scenario.tracks.lines.items scenario.rest.items (state_after start run)

-- a program has met every order: from the scene's block on, each of its lines met each order of the tracks' lines in each way, all that goes on from there was tried, and in each run that was tried all expectations held
pub record HasMetAll (scenario : Scenario) (program : List (Told Replied) → Option (Sent (List ℕ))) : Type 0 where
  pub start : Met Seen
  pub is_start : IsStart scenario start
  pub tried : List (List (Step (Met Seen) (Told Replied)))
  pub every : MeetsEvery LineSteps (LineReplies scenario.tracks.rules) IsSight scenario.tracks.lines.items program start tried []
  pub hold : (run : List (Step (Met Seen) (Told Replied))) → Contains tried run → Holds scenario start run

-- a program sends no mark
abbrev pub HasNoMarks : (List (Told Replied) → Option (Sent (List ℕ))) → Type 0
HasNoMarks program = (told : List (Told Replied)) (mark : List ℕ) → program told ≡ Some (Sent.Marks mark) → ⊥

-- A program that is determined by what it is told, and sends no mark, has met every order, where all were tried
abbrev pub ProgramsMeetEveryOrder : Type 0
ProgramsMeetEveryOrder = (scenario : Scenario) (most states : ℕ) (program : List (Told Replied) → Option (Sent (List ℕ))) (old new : Session) (lines : List (List ℕ)) → HasNoMarks program → HasBegun scenario most states Which.All old.trial → IsPlayed program 1 old lines new
    → new.trial.standing ≡ Standing.Tried → HasMetAll scenario program

-- a mark decides what a program does next: behind two that are the same it goes on alike, whatever it is told from then on
abbrev pub MarksDecide : (List (Told Replied) → Option (Sent (List ℕ))) → Type 0
MarksDecide program = (one other : List (Told Replied)) (mark : List ℕ) → program one ≡ Some (Sent.Marks mark) → program other ≡ Some (Sent.Marks mark) → (more : List (Told Replied)) → program (one ++ more) ≡ program (other ++ more)

-- no line of the program breaks an expectation in a run; and where its run is over, and wasn't left, all that is left leads on, in every order
pub record HoldsSoFar (scenario : Scenario) (program : List (Told Replied) → Option (Sent (List ℕ))) (start : Met Seen) (run : List (Step (Met Seen) (Told Replied))) : Type 0 where
  pub met : All (λ step. (reply_in step.answer).unmet ≡ None) run
  pub closed : program (told_by run) ≡ None → ClosesAll LineSteps scenario.tracks.lines.items scenario.rest.items (state_after start run)

-- a program has met every order, from the scene's block on, by runs of which some were left; all expectations held in them. Behind the beginning of each its line met each order of the tracks' lines in each way, there or where it sent the same mark in the same state at the same places
pub record HasMetAllByMarks (scenario : Scenario) (program : List (Told Replied) → Option (Sent (List ℕ))) : Type 0 where
  pub start : Met Seen
  pub is_start : IsStart scenario start
  pub first : List (Step (Met Seen) (Told Replied))
  pub more : List (List (Step (Met Seen) (Told Replied)))
  pub all : AllMeet LineSteps (LineReplies scenario.tracks.rules) IsSight scenario.tracks.lines.items program start (first ∷ more)
  pub hold : (run : List (Step (Met Seen) (Told Replied))) → Contains (first ∷ more) run → HoldsSoFar scenario program start run

-- A program that is determined by what it is told, and whose marks decide what it does next, has met every order so, where all were tried
abbrev pub MarkedProgramsMeetEveryOrder : Type 0
MarkedProgramsMeetEveryOrder = (scenario : Scenario) (most states : ℕ) (program : List (Told Replied) → Option (Sent (List ℕ))) (old new : Session) (lines : List (List ℕ)) → MarksDecide program → HasBegun scenario most states Which.All old.trial → IsPlayed program 1 old lines new
    → new.trial.standing ≡ Standing.Tried → HasMetAllByMarks scenario program
