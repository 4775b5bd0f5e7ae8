use Rattle.std.proofs.Common.{◌≡◌, ◌∙◌, inl, refl, sym}
use Rattle.i3c_base.specs.State.{State}
use Rattle.i3c_xfer.specs.Transfers.{HasLegacy}
use Rattle.i3c_xfer.proofs.TransferLaws.{legacy_there, some_legacy}
use Rattle.i3c_xfer.proofs.writing.taker.Goals as goal

-- a legacy target is there
target : (c : goal.Then-is_some) (st : State) → st.legacy ≡ c.args.legacy.now → HasLegacy st c.args.to
target c st e = some_legacy st c.args.to c.get.result (legacy_there st c.args.to c.args.legacy.now c.get.result e c.get.ensures) (sym c.is_some.ensures ∙ c.if-is_some.true)

pub returns-then-is_some-clause-acknowledged : goal.returns-then-is_some-clause-acknowledged
returns-then-is_some-clause-acknowledged c st has e = (λ _. inl (target c st e), λ _. refl)

pub returns-then-is_some-clause-written : goal.returns-then-is_some-clause-written
returns-then-is_some-clause-written c st e = target c st e
