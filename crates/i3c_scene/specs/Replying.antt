-- What a program is answered while lines run on a scene.
use Rattle.std.specs.Prelude.{◌≡◌, ◌+◌, ℕ, false, List, [], drop, length, Option, None}
use Rattle.i3c_base.specs.declared.requests.Record.{Record}
use Rattle.i3c_facts.specs.Hearing.{came_to}
use Rattle.i3c_lines.specs.declared.command.Command.{Command}
use Rattle.i3c_lines.specs.declared.names.Name.{Name}
use Rattle.i3c_lines.specs.declared.refusals.Refusal.{Refusal}
use Rattle.i3c_lines.specs.Forms.{IsCommand}
use Rattle.i3c_script.specs.declared.piece.Piece.{Piece}
use Rattle.i3c_script.specs.Pieces.{AreAsking}
use Rattle.i3c_scene.specs.declared.rules.Rules.{Rules}
use Rattle.i3c_scene.specs.declared.ways.Ways.{Ways}
use Rattle.i3c_scene.specs.Frames.{sends_many, tells_past}
use Rattle.i3c_scene.specs.Scenes.{Seen, name_in}
use Rattle.i3c_scene.specs.Trying.{DoesIn, ways_of}
use Rattle.i3c_scene.specs.Unmet.{IsTold}

-- what a program is answered. First what its line came to, and why it was refused, if it was. Then how many records there had been,
-- those that it added, and the names of the devices that ask now. Last, which expectation it breaks, if any, and what is there instead
pub record Replied : Type 0 where
  pub pieces : List Piece
  pub refused : Option Refusal
  pub behind : ℕ
  pub added : List Record
  pub asking : List Name
  pub unmet : Option ℕ
  pub there : List ℕ

-- an answer with these parts
abbrev pub replied : List Piece → Option Refusal → ℕ → List Record → List Name → Option ℕ → List ℕ → Replied
replied pieces refused behind added asking unmet there = record { pieces = pieces; refused = refused; behind = behind; added = added; asking = asking; unmet = unmet; there = there }

-- a program may send this line, with this command: it sends one frame at most, and asks for nothing that a scene doesn't keep
abbrev pub MaySend : List ℕ → Command → Type 0
MaySend line command = IsCommand line command × (sends_many command ≡ false) × (tells_past command ≡ false)

-- what a command is answered that runs in these ways of the devices at risk
pub record IsReply (rules : Rules) (old : Seen) (command : Command) (ways : Ways) (reply : Replied) (new : Seen) : Type 0 where
  pub does : DoesIn old command rules.risk ways reply.pieces reply.refused new
  pub behind : reply.behind ≡ old.settings.forgotten + length old.state.records
  pub added : reply.added ≡ drop (length old.state.records) new.state.records
  pub asking : AreAsking new.state (name_in new.names) reply.asking
  pub unmet : IsTold new (came_to reply.pieces reply.refused) rules.lasting.items reply.unmet reply.there

-- what is told behind a line, before which so many records were in the log; what it came to is known
pub record IsToldBehind (rules : Rules) (count : ℕ) (new : Seen) (known reply : Replied) : Type 0 where
  pub pieces : reply.pieces ≡ known.pieces
  pub refused : reply.refused ≡ known.refused
  pub behind : reply.behind ≡ known.behind
  pub added : reply.added ≡ drop count new.state.records
  pub asking : AreAsking new.state (name_in new.names) reply.asking
  pub unmet : IsTold new (came_to known.pieces known.refused) rules.lasting.items reply.unmet reply.there

-- what a program's line is answered that goes a way
abbrev pub LineReplies : Rules → Seen → List ℕ → ℕ → Replied → Seen → Type 0
LineReplies rules old line way reply new = (command : Command) × IsCommand line command × IsReply rules old command (ways_of rules.risk way) reply new

-- what a program that waits is told: which devices ask
pub record IsSight (scene : Seen) (reply : Replied) : Type 0 where
  pub pieces : reply.pieces ≡ []
  pub refused : reply.refused ≡ None
  pub behind : reply.behind ≡ 0
  pub added : reply.added ≡ []
  pub asking : AreAsking scene.state (name_in scene.names) reply.asking
  pub unmet : reply.unmet ≡ None
  pub there : reply.there ≡ []
