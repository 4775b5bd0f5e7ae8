use Rattle.std.proofs.Common.{refl}
use Rattle.std.proofs.lemmas.Option.{none-some}
use Rattle.i3c_model.proofs.Readings.{read_none, read_some}
use Rattle.i3c_model.proofs.plain.Plain.byte_read.Goals as goal

pub returns-in-Some : goal.returns-in-Some
returns-in-Some c = λ lost front driven fronted. read_some c.args.self.now c.args.at c.in-Some.field-0 c.bytes_together.result lost c.args.slot front c.in-Some.ensures.byte ((c.in-Some.ensures.driven c.in-Some.field-0).0 refl) c.bytes_together.ensures fronted

pub returns-in-None : goal.returns-in-None
returns-in-None c = λ lost front driven fronted. read_none c.args.self.now c.args.at lost c.args.slot front (λ v d. none-some v ((c.in-None.ensures.driven v).1 d)) driven fronted
