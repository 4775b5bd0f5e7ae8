use Rattle.i3c_script.proofs.Assigned.{used_up}
use Rattle.i3c_script.proofs.script_bus.ScriptBus.assign.Goals as goal

pub returns : goal.returns
returns g c =
    let at = c.self.inside in
    used_up g.P.Past.kept g.L.Listener.heard c.args.self.now at.bus.state c.assign-hand.new.bus.state at.settings at.cuts c.clear.new.self at.past c.assign-hand.new.past c.args.listener.now c.assign-hand.new.listener c.assign-hand.result.1
    c.self.view_is c.clear.ensures.none (c.assign-hand.ensures.assigns at.settings)
