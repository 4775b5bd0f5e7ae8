use Rattle.std.proofs.Common.{sym, ◌∙◌}
use Rattle.i3c_base.specs.declared.requests.Request.TheVariants.{Interrupt}
use Rattle.i3c_model.proofs.Requests.{none_driven}
use Rattle.i3c_model.proofs.Readings.{front_there}
use Rattle.i3c_model.proofs.plain.Plain.front_driven.Goals as goal

pub returns-in-Some : goal.returns-in-Some
returns-in-Some c = front_there c.args.self.now c.args.slot c.args.at _ c.front.result (sym c.drives.ensures ∙ c.if-not-drives.false) (sym c.in-Some.ensures) c.front.ensures

pub returns-in-None : goal.returns-in-None
returns-in-None c = none_driven c.args.self.now c.args.slot (Interrupt c.args.at) (sym c.in-None.ensures)
