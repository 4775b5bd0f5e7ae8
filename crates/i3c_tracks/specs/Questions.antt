-- What is asked of each end.
use Rattle.std.specs.Prelude.{⊤, ◌≡◌, ℕ, Bool, true, false, List, [], ◌∷◌, ◌++◌, All, Contains, IfSome, Option, Some, None, codes, slice_get}
use Rattle.std.specs.Global.{Vec}
use Rattle.i3c_facts.specs.declared.fact.Fact.{Fact}
use Rattle.i3c_facts.specs.declared.facts.Claim.{Claim}
use Rattle.i3c_facts.specs.declared.marks.Mark.{Mark}
use Rattle.i3c_facts.specs.Forms.{IsMark}
use Rattle.i3c_facts.specs.Holding.{name_of}
use Rattle.i3c_lines.specs.declared.command.Command.{Command}
use Rattle.i3c_lines.specs.declared.names.Name.{Name}
use Rattle.i3c_lines.specs.Forms.{IsCommand}
use Rattle.i3c_lines.specs.Naming.{is_same}
use Rattle.i3c_lines.specs.Namings.{name_given}
use Rattle.i3c_scene.specs.declared.risk.Risk.{Risk}
use Rattle.i3c_streams.specs.declared.faults.ScriptFault.{ScriptFault}
use Rattle.i3c_tracks.specs.declared.explore_fault.ExploreFault.{ExploreFault}
use Rattle.i3c_tracks.specs.declared.question.Question.{Question}
use Rattle.i3c_tracks.specs.Planning.{AreLines, Step, expectation}

-- whether a fact is about the line before, which an end hasn't
abbrev pub is_of_line : Fact → Bool
is_of_line Fact.Done = true
is_of_line (Fact.Refused why) = true
is_of_line Fact.AnyRefused = true
is_of_line (Fact.Served way) = true
is_of_line (Fact.Bytes bytes) = true
is_of_line fact = false

-- no claim is about the line before
abbrev pub AreOfEnds : List Claim → Type 0
AreOfEnds claims = All (λ (claim : Claim). is_of_line claim.fact ≡ false) claims

-- the claims that a text makes behind `expect`
abbrev pub AreBehind : List ℕ → List Claim → Type 0
AreBehind text claims = IsMark (codes "expect " ++ text) (Mark.Expect claims)

-- what a text asks of an end
abbrev pub AreAsked : List ℕ → List Claim → Type 0
AreAsked text claims = AreBehind text claims × AreOfEnds claims

-- a question has its text, and what that asks
abbrev pub IsQuestion : List ℕ → Question → Type 0
IsQuestion text question = (question.text.items ≡ text) × AreAsked text question.facts

-- a line that does nothing, and expects what is asked
abbrev pub asking : Question → Step
asking question = record { number = 0; command = None; risk = Risk.Nobody; expected = expectation 0 question.facts ∷ [] }

-- whether this name is given
abbrev pub is_given : Option Name → Name → Bool
is_given None name = false
is_given (Some given) name = is_same given name

-- a line gives this name
abbrev pub Gives : List ℕ → Name → Type 0
Gives line name = (command : Command) × IsCommand line command × (is_given (name_given command) name ≡ true)

-- a line of a file does
abbrev pub IsGiven : List (Vec ℕ) → Name → Type 0
IsGiven lines name = (line : Vec ℕ) × Contains lines line × Gives line.items name

-- each name of some claims is given by a line of the file
abbrev pub AreGiven : List (Vec ℕ) → List Claim → Type 0
AreGiven lines claims = All (λ (claim : Claim). IfSome (name_of claim.fact) (IsGiven lines)) claims

-- so is each name that is asked about
abbrev pub AreKnown : List (Vec ℕ) → List Question → Type 0
AreKnown lines questions = All (λ (question : Question). AreGiven lines question.facts) questions

-- the question at this place has a name that no line of the file gives
abbrev pub IsUnknown : List (Vec ℕ) → List Question → ℕ → Type 0
IsUnknown lines questions place = (question : Question) × (slice_get questions place ≡ Some question) × (AreGiven lines question.facts → ⊥)

-- a file that was read has a fault: there was no memory, or a question has a name that no line gives
abbrev pub IsFaultOf : List (Vec ℕ) → List Question → ExploreFault → Type 0
IsFaultOf lines questions (ExploreFault.Script fault) = fault ≡ ScriptFault.Memory
IsFaultOf lines questions (ExploreFault.NoName place) = IsUnknown lines questions place

-- the same, of a file
abbrev pub IsFault : Option (List ℕ) → List Question → ExploreFault → Type 0
IsFault file questions (ExploreFault.Script fault) = ⊤
IsFault file questions (ExploreFault.NoName place) = (lines : List (Vec ℕ)) × AreLines file lines × IsUnknown lines questions place
