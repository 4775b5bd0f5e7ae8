use Rattle.i3c_shared.proofs.Booked.{closed_counted}
use Rattle.i3c_shared.proofs.Meeting.{all_prefix}
use Rattle.i3c_shared.proofs.kept.Kept.close_all.Goals as goal

pub returns-in-Ok-clause-closed : goal.returns-in-Ok-clause-closed
returns-in-Ok-clause-closed g c =
    let e = c.in-Ok.ensures.closed in
    record {
      role_in = c.requires.role_in;
      ports_in = c.requires.ports_in;
      takes = rw (← c.self.view_is) (record { seen = e.0; end = e.1; looked = e.2; takes = e.3; ran = e.4; recorded = e.5; waits = e.6; legal = e.7 });
      held = closed_counted _ _ _ e.1 c.args.role _ c.self.invariant e.3 e.4 c.audit_role.ensures.whole;
      all = rw (← c.self.view_is) c.in-Ok.ensures.whole;
    }

pub returns-in-Ok-clause-prefix : goal.returns-in-Ok-clause-prefix
returns-in-Ok-clause-prefix g c = rw (← c.self.view_is) (λ k p at end. all_prefix _ _ (c.in-Ok.ensures.whole k p at end))

pub returns-in-Err-clause-prefix : goal.returns-in-Err-clause-prefix
returns-in-Err-clause-prefix g c = rw (← c.self.view_is) c.in-Err.ensures.prefix
