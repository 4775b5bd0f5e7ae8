use Rattle.std.proofs.Common.{refl}
use Rattle.i3c_script.proofs.script_bus.ScriptBus.set.Goals as goal

pub returns : goal.returns
returns g c = rw (← c.self.view_is) (record c.self.inside.settings { kinds = c.args.kinds; but = c.args.but }, record { kinds = refl; but = refl; forgotten = refl }, refl)
