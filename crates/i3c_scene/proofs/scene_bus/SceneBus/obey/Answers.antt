-- What a command does, whoever hears it.
use Rattle.i3c_scene.proofs.scene_bus.SceneBus.obey.Goals as goal

pub returns : goal.returns
returns g c = rw (← c.self.view_is) c.obey.ensures
