-- A scene that differs little from another one.
use Rattle.std.specs.Prelude.{◌≡◌, ℕ, Bool, true, false, List, Option, IfSome, Some, Ok}
use Rattle.i3c_bus.specs.Near.{IsNear}
use Rattle.i3c_facts.specs.declared.before.Before.{Before}
use Rattle.i3c_facts.specs.Hearing.{came_to}
use Rattle.i3c_lines.specs.declared.command.Command.{Command}
use Rattle.i3c_lines.specs.declared.names.Name.{Name}
use Rattle.i3c_lines.specs.declared.refusals.Refusal.{Refusal}
use Rattle.i3c_lines.specs.Naming.{slot_named}
use Rattle.i3c_script.specs.declared.piece.Piece.{Piece}
use Rattle.i3c_script.specs.Obeying.{Answers}
use Rattle.i3c_script.specs.Unkept.{no_past}
use Rattle.i3c_step.specs.declared.events.Event.{Event}
use Rattle.i3c_scene.specs.Going.{on_bus}
use Rattle.i3c_scene.specs.Scenes.{Seen, place_in}

-- the new scene's bus differs from the old one's in this slot at most, and the rest is unchanged
pub record IsBehind (slot : ℕ) (old new : Seen) : Type 0 where
  pub state : IsNear slot old.state new.state
  pub settings : new.settings ≡ old.settings
  pub cuts : new.cuts ≡ old.cuts
  pub names : new.names ≡ old.names

-- a command raises an interrupt of the device in this slot, with this byte
pub record RaisesIn (old : Seen) (command : Option Command) (slot : ℕ) (byte : Option ℕ) : Type 0 where
  pub name : Name
  pub raise : command ≡ Some (Command.Raise name byte)
  pub named : slot_named (place_in old.names name) ≡ Ok slot

-- a command may give a name, or change what frames accept or which records have left the log
abbrev pub sets_some : Option Command → Bool
sets_some (Some (Command.Attach name setup)) = true
sets_some (Some (Command.Policy kinds)) = true
sets_some (Some (Command.PolicyBut kinds but)) = true
sets_some (Some (Command.Forget last)) = true
sets_some _ = false

-- the new scene has the old one's settings and names
pub record HasSameSettings (old new : Seen) : Type 0 where
  pub settings : new.settings ≡ old.settings
  pub names : new.names ≡ old.names

-- the new scene has the old one's settings and names, unless they may have been set, and where it differs in one slot at most, the
-- rest is the old one's too
abbrev pub IsCloseTo : Bool → Option ℕ → Seen → Seen → Type 0
IsCloseTo set touched old new = (set ≡ false → HasSameSettings old new) × IfSome touched (λ slot. IsBehind slot old new)

-- the device in a slot raises an interrupt, and facts know this of it
abbrev pub Raises : Seen → ℕ → Option ℕ → Before → Seen → Type 0
Raises old slot byte before new =
    (pieces : List Piece) × (refused : Option Refusal) × Answers no_past (on_bus old) (Event.Raise slot byte) pieces refused (on_bus new) × (before ≡ came_to pieces refused) × (new.names ≡ old.names)
