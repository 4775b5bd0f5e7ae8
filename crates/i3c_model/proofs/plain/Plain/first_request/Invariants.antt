use Rattle.i3c_model.proofs.Requests.{IsFirstSoFar}
use Rattle.i3c_model.proofs.plain.Plain.first_request.Given as goal

-- the first request of the slots so far
abbrev pub invariant-loop-index : goal.invariant-loop-index
invariant-loop-index l = IsFirstSoFar l.self l.index l.first
