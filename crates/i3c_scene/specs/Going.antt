-- What a line's command does to a scene, in each way.
use Rattle.std.specs.Prelude.{ℕ, zero, suc, ◌==◌, ◌&&◌, not, Bool, true, false, List, Option, None, Some, is_some, if◌then◌else◌}
use Rattle.i3c_base.specs.State.{State, device_at}
use Rattle.i3c_lines.specs.declared.command.Command.{Command}
use Rattle.i3c_lines.specs.declared.names.Place.{Place}
use Rattle.i3c_lines.specs.declared.refusals.Refusal.{Refusal}
use Rattle.i3c_lines.specs.Sending.{has_frame}
use Rattle.i3c_script.specs.declared.past.Unkept.{Unkept}
use Rattle.i3c_script.specs.declared.piece.Piece.{Piece}
use Rattle.i3c_script.specs.Obeying.{ObeysOn, cut_at}
use Rattle.i3c_script.specs.Situations.{Situation, situation}
use Rattle.i3c_script.specs.Unkept.{no_past}
use Rattle.i3c_scene.specs.declared.named.Named.{Named}
use Rattle.i3c_scene.specs.Scenes.{Seen, known_kept, place_in, seen}

-- a scene without its names, as a bus of which no past is kept
abbrev pub on_bus : Seen → Situation Unkept
on_bus scene = situation scene.state scene.settings scene.cuts (record {})

-- what a command does, what it comes to, and why it is refused, if it is: as on any bus
abbrev pub Does : Seen → Command → List Piece → Option Refusal → Seen → Type 0
Does old command pieces refused new = ObeysOn no_past known_kept (on_bus old) old.names command pieces refused (on_bus new) new.names

-- whether the active controller's device is at this place
abbrev pub is_acting : State → Option Place → Bool
is_acting st (Some (Place.Slot s)) = is_some (device_at st s) && (s == st.active)
is_acting st _ = false

-- whether a command sends a frame that takes the cuts that wait: behind `as NAME` only that of the active controller does
abbrev pub sends : State → List Named → Command → Bool
sends st names (Command.Frame frame) = true
sends st names (Command.HandOver to) = true
sends st names Command.Open = true
sends st names Command.Round = true
sends st names Command.Daa = true
sends st names (Command.As name sent) = is_acting st (place_in names name) && has_frame sent
sends st names _ = false

-- the slot of the device that a name means, unless it is gone or the active controller
abbrev pub risked : State → Option Place → Option ℕ
risked st (Some (Place.Slot s)) = if is_some (device_at st s) && not (s == st.active) then Some s else None
risked st _ = None

-- a way of a frame: in way 0 nobody more is cut, in way 1 the slot's device is cut at bit 0, in way 2 at bit 1, and so on
abbrev pub cut_in : Seen → Option ℕ → ℕ → Seen
cut_in old None way = old
cut_in old (Some s) zero = old
cut_in old (Some s) (suc bit) = seen old.state old.settings (cut_at old.cuts s bit) old.names
