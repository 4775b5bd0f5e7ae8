use Rattle.std.proofs.Common.{refl, sym}
use Rattle.i3c_shared.proofs.kept.Kept.close.Goals as goal

pub returns-in-Some-clause-refused : goal.returns-in-Some-clause-refused
returns-in-Some-clause-refused g c = rw (c.refused-in-Some.ensures.same.0, c.refused-in-Some.ensures.same.2) (sym c.if-is_role_out.ensures, rw (← c.self.view_is) c.in-Some.ensures, refl)

pub close_all-requires-clause-ports_in : goal.close_all-requires-clause-ports_in
close_all-requires-clause-ports_in g c = rw (← c.self.view_is) c.in_default.ensures

pub returns-then-is_role_out-clause-prefix : goal.returns-then-is_role_out-clause-prefix
returns-then-is_role_out-clause-prefix g c = rw c.refused.ensures.same.0 c.refused.ensures.prefix

pub returns-in-Some-clause-prefix : goal.returns-in-Some-clause-prefix
returns-in-Some-clause-prefix g c = rw c.refused-in-Some.ensures.same.0 c.refused-in-Some.ensures.prefix
