use Rattle.std.proofs.Common.{ap, length, sym, ◌∙◌}
use Rattle.i3c_base.specs.declared.range.TheConstants.{SLOTS}
use Rattle.i3c_base.specs.State.{State}
use Rattle.i3c_model.proofs.PlaceLaws.{length-places}
use Rattle.i3c_model.proofs.plain.Plain.slots.Goals as goal

pub returns-clause-all : goal.returns-clause-all
returns-clause-all c = sym (ap (λ (st : State). length st.devices) (sym c.self.view_is) ∙ length-places SLOTS c.self.inside.devices)
