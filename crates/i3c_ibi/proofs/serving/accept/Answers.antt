-- Each kind of request that is accepted.
use Rattle.std.proofs.Common.{◌≡◌, ◌∙◌, true, ap, subst}
use Rattle.i3c_base.specs.Serve.{IsFirst, each_driver_in, without}
use Rattle.i3c_base.specs.State.{population}
use Rattle.i3c_ibi.specs.Policies.{is_known}
use Rattle.i3c_ibi.proofs.ServingLaws.{join_served, role_served}
use Rattle.i3c_ibi.proofs.serving.accept.Goals as goal

pub returns-in-Join-clause-served : goal.returns-in-Join-clause-served
returns-in-Join-clause-served c st same are given fits first known =
    join_served st c.args.cuts.now c.accept.new.self (subst (IsFirst st) c.in-Join.is first)
    (c.accept.ensures (population st) same are ∙ ap (λ r. each_driver_in (population st) r (without r)) c.in-Join.is)

pub returns-in-Role-clause-served : goal.returns-in-Role-clause-served
returns-in-Role-clause-served c st same are given fits first known =
    role_served st c.args.cuts.now c.in-Role.at c.accept-in-Role.new.self (subst (IsFirst st) c.in-Role.is first)
    (subst (λ r. is_known st.given r ≡ true) c.in-Role.is known)
    (c.accept-in-Role.ensures (population st) same are ∙ ap (λ r. each_driver_in (population st) r (without r)) c.in-Role.is)
