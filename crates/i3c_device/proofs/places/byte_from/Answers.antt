use Rattle.std.proofs.Common.{subst, sym}
use Rattle.i3c_device.specs.Reading.{IsByteFrom}
use Rattle.i3c_device.proofs.ReadLaws.{byte_from_none}
use Rattle.i3c_device.proofs.places.byte_from.Goals as goal

pub returns-in-None : goal.returns-in-None
returns-in-None g c = subst (λ o. IsByteFrom (g.D.Driven.bytes c.args.driven.now) o c.args.index c.args.cut c.args.at 255) (sym c.in-None.is) (byte_from_none (g.D.Driven.bytes c.args.driven.now) c.args.index c.args.at c.args.cut)
