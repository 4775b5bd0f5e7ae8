-- Verdicts on requests.
use Rattle.std.proofs.Common.{◌≡◌, Bool, true, false, is_some, if◌then◌else◌, refl}
use Rattle.i3c_base.specs.declared.requests.Request.{Request}
use Rattle.i3c_base.specs.declared.requests.Request.TheVariants.{Join, Role, Interrupt}
use Rattle.i3c_base.specs.declared.requests.Verdict.TheVariants.{Refuse}
use Rattle.i3c_base.specs.Serve.{refuse_all, verdict}
use Rattle.i3c_base.specs.State.{State, entry_at}

refuse_either : (b : Bool) → (if b then Refuse else Refuse) ≡ Refuse
refuse_either true = refl
refuse_either false = refl

-- a frame that refuses each request refuses the first
pub refuses : (st : State) (r : Request) → verdict st refuse_all r ≡ Refuse
refuses st Join = refl
refuses st (Role a) = refuse_either (is_some (entry_at st a))
refuses st (Interrupt a) = refuse_either (is_some (entry_at st a))
