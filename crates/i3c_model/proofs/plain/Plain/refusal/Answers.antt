use Rattle.i3c_model.proofs.plain.Plain.refusal.Goals as goal

pub returns-in-Attach : goal.returns-in-Attach
returns-in-Attach c = rw c.in-Attach.is (c.attach_refusal.ensures c.in-Attach.field-1)
