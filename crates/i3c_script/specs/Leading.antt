-- Where the commands of a script lead.
use Rattle.std.specs.Prelude.{◌≡◌, ℕ, List, [], ◌∷◌, ◌++◌, length, Option}
use Rattle.i3c_base.specs.declared.device.Setup.{Setup}
use Rattle.i3c_base.specs.declared.requests.Record.{Record}
use Rattle.i3c_base.specs.State.{Board, State}
use Rattle.i3c_log_laws.specs.Behind.{behind}
use Rattle.i3c_step.specs.Runs.{IsLegalRun}
use Rattle.i3c_lines.specs.declared.command.Command.{Command}
use Rattle.i3c_lines.specs.declared.refusals.Refusal.{Refusal}
use Rattle.i3c_script.specs.declared.stage.Stage.{Stage}
use Rattle.i3c_script.specs.Obeying.{IsBegun, Obeys, ScriptState}
use Rattle.i3c_script.specs.Making.{Made, command_made, events_of, replies_of}
use Rattle.i3c_script.specs.Situations.{Situation, Told}

-- a command that was obeyed: what it printed, and why it was refused, if it was
pub record Obeyed : Type 0 where
  pub command : Command
  pub said : List ℕ
  pub refused : Option Refusal

-- these commands, one after another, lead from the one state of a script to the other
abbrev pub Lead : ScriptState → List Obeyed → ScriptState → Type 0
Lead old [] new = new ≡ old
Lead old (one ∷ rest) new = (mid : ScriptState) × Obeys old one.command one.said one.refused mid × Lead mid rest new

-- the steps of the bus that these commands are, in order
abbrev pub made : (old : ScriptState) (commands : List Obeyed) (new : ScriptState) → Lead old commands new → List Made
made old [] new same = []
made old (one ∷ rest) new (mid, obeys, lead) = command_made old.stage old.names one.command one.said one.refused mid obeys ++ made mid rest new lead

-- these steps are a legal run from some start to this state of the bus
abbrev pub AreLegal : List Made → State → Type 0
AreLegal steps st = (main : Setup) × (board : Board) × IsLegalRun main board (events_of steps) (replies_of steps) st

-- these steps are a legal run to a bus whose log has the records that left it still, in front of its own
abbrev pub AreLegalBehind : List Made → Situation Told → Type 0
AreLegalBehind steps now = (gone : List Record) × (length gone ≡ now.settings.forgotten) × AreLegal steps (behind gone now.state)

-- Wherever commands lead from a script's start to a bus, their steps are a legal run to that bus with its whole log.
abbrev pub ScriptsAreLegalRuns : Type 0
ScriptsAreLegalRuns = (old : ScriptState) (commands : List Obeyed) (new : ScriptState) (on_bus : Situation Told) → IsBegun old → (lead : Lead old commands new) → new.stage ≡ Stage.Running on_bus → AreLegalBehind (made old commands new lead) on_bus
