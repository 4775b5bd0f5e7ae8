-- The line is this raise.
use Rattle.std.proofs.Common.{◌∙◌, rules, sym}
use Rattle.i3c_scene.proofs.scene_bus.SceneBus.raise_in_line.Goals as goal

pub returns-in-Ok : goal.returns-in-Ok
returns-in-Ok c = rw (← c.self.view_is) (record { name = c.in-Some-Raise.name; raise = search rules; named = sym c.slot_meant.ensures ∙ c.in-Ok.is })
