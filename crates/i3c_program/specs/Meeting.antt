-- A program that meets the orders of a scene's file, over all its lines.
use Rattle.std.specs.Prelude.{◌≡◌, ◌<◌, ◌⊎◌, ℕ, List, IfSome, Option, false, length}
use Rattle.std.specs.Global.{Vec}
use Rattle.i3c_drive.specs.Serving.{ServesPart, ServesWhole}
use Rattle.i3c_streams.specs.declared.faults.ScriptFault.{ScriptFault}
use Rattle.i3c_tracks.specs.Planning.{AreLines}
use Rattle.i3c_program.specs.declared.meeting.MeetFault.{MeetFault}
use Rattle.i3c_program.specs.declared.scenario.Scenario.{Scenario}
use Rattle.i3c_program.specs.declared.session.Ending.{Ending}
use Rattle.i3c_program.specs.declared.session.Session.{Session}
use Rattle.i3c_program.specs.declared.session.Terms.{Terms}
use Rattle.i3c_program.specs.Scenarios.{HasNoScenario, IsScenario}
use Rattle.i3c_program.specs.Sessions.{HasBegun, IsAnswered, ending_of}

-- a session begins with the scenario of a scene's file
pub record Opens (terms : Terms) (scene : Option (List ℕ)) (session : Session) : Type 0 where
  pub file : List (Vec ℕ)
  pub lines : AreLines scene file
  pub scenario : Scenario
  pub is : IsScenario file terms.limits scenario
  pub begun : HasBegun scenario terms.most terms.states terms.which session.trial
  pub form_is : session.form ≡ terms.form
  pub right : session.wrong ≡ false

-- the program's lines were answered, and this is how the session ended
pub record IsMet (terms : Terms) (scene known before after : Option (List ℕ)) (ending : Ending) : Type 0 where
  pub start : Session
  pub end : Session
  pub opens : Opens terms scene start
  pub served : ServesWhole IsAnswered known before after start end
  pub ends : ending ≡ ending_of end.trial.standing end.wrong

-- why it doesn't end: the file can't be read, and is too large only where it is; or it is no scene; or a fault ended the program's lines
abbrev pub IsMetNot : Terms → Option (List ℕ) → Option (List ℕ) → Option (List ℕ) → Option (List ℕ) → MeetFault → Type 0
IsMetNot terms scene known before after (MeetFault.File fault) = (fault ≡ ScriptFault.TooLarge → IfSome scene (λ bytes. 1048576 < length bytes)) × (after ≡ before)
IsMetNot terms scene known before after (MeetFault.Scene why) = (file : List (Vec ℕ)) × AreLines scene file × HasNoScenario file terms.limits why × (after ≡ before)
IsMetNot terms scene known before after (MeetFault.Lines fault) = ((fault ≡ ScriptFault.Memory) × (after ≡ before)) ⊎ ((start : Session) × Opens terms scene start × ServesPart IsAnswered known before after start fault)
