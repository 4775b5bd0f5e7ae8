use Rattle.i3c_base.specs.declared.requests.Request.TheVariants.{Interrupt}
use Rattle.i3c_base.specs.Serve.{DrivesByte, IsAnd}
use Rattle.i3c_model.proofs.Together.{Below}
use Rattle.i3c_model.proofs.plain.Plain.bytes_together.Given as goal

-- the AND of the bytes that the slots so far drive
abbrev pub invariant-loop-index : goal.invariant-loop-index
invariant-loop-index l = IsAnd l.both (Below (DrivesByte l.self (Interrupt l.at)) l.index)
