-- The name means this slot.
use Rattle.i3c_step.specs.declared.events.Event.{Event}
use Rattle.i3c_script.proofs.Moving.{in_slot}
use Rattle.i3c_script.proofs.script_bus.ScriptBus.raise.Goals as goal

pub returns-in-Ok : goal.returns-in-Ok
returns-in-Ok g c =
    in_slot g.P.Past.kept g.L.Listener.heard g.N.Naming.kept c.args.self.now c.raise_in.new.self c.args.names.now c.args.name.now (λ slot. Event.Raise slot c.args.byte) c.in-Ok.slot c.args.listener.now c.raise_in.new.listener c.raise_in.result
    c.in-Ok.ensures c.raise_in.ensures
