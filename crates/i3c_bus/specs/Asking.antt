-- What a frame asks of the policy that it is lent.
use Rattle.std.specs.Prelude.{◌≡◌, MatchOption}
use Rattle.i3c_base.specs.declared.requests.Request.{Request}
use Rattle.i3c_base.specs.declared.requests.Verdict.{Verdict}
use Rattle.i3c_base.specs.Serve.{given_for}
use Rattle.i3c_base.specs.State.{State}
use Rattle.i3c_ibi.specs.Policies.{Decides}
use Rattle.i3c_step.specs.declared.replies.Reply.{Reply}
use Rattle.i3c_step.specs.Serving.{served_of}

-- a frame that isn't sent asks it nothing; one that is asks for the first request
abbrev pub Asks : {P : Type 0} → (P → Request → Verdict → P → Type 0) → P → P → State → Reply → Type 0
Asks gives old new st reply = MatchOption (served_of reply) (new ≡ old) (λ served. Decides gives old new st (given_for served))
