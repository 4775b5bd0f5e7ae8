use Rattle.std.proofs.Common.{option_and_then}
use Rattle.i3c_base.specs.State.{entry_at, kept_again}
use Rattle.i3c_model.proofs.Clearing.{AreKept}
use Rattle.i3c_model.proofs.plain.Plain.all_kept_again.Given as goal

-- the identities at the addresses so far
abbrev pub invariant-loop-index : goal.invariant-loop-index
invariant-loop-index l = AreKept (λ a. option_and_then (kept_again l.self.declared l.self.given l.own a) (entry_at l.self a)) l.index l.kept
