-- The view tells what the invariant holds.
use Rattle.std.proofs.Common.{subst}
use Rattle.i3c_recorder.specs.KeptRuns.{IsLegalTo}
use Rattle.i3c_recorder.specs.Values.{Recorded}
use Rattle.i3c_recorder.proofs.recorder.Recorder.retire.Goals as goal

pub returns-clause-legal : goal.returns-clause-legal
returns-clause-legal c = subst (λ (r : Recorded). IsLegalTo r.run r.state) c.self.view_is (c.self.invariant.begun.0, c.self.invariant.begun.1, (_, c.self.invariant.begun.2, c.self.invariant.legal))
