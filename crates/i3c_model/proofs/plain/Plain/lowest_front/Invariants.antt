use Rattle.std.proofs.Common.{ℕ, ◌<◌, ◌≡◌, false}
use Rattle.i3c_base.specs.declared.requests.Request.{Request}
use Rattle.i3c_base.specs.Serve.{drives}
use Rattle.i3c_model.proofs.plain.Plain.lowest_front.Given as goal

-- none of the slots so far drives it
abbrev pub invariant-loop-index : goal.invariant-loop-index
invariant-loop-index l = (s : ℕ) → s < l.index → drives l.self (Request.Interrupt l.at) s ≡ false
