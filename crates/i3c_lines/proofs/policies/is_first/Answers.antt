use Rattle.std.proofs.Common.{inl, inr}
use Rattle.i3c_lines.proofs.policies.is_first.Goals as goal

pub returns-in-None : goal.returns-in-None
returns-in-None c = (
  λ yes. let kind = c.is_kind.ensures.0 yes in (kind.0, inr kind.1),
  λ named. elim named.1 [ inl alone ↦ absurd (c.in-None.ensures named.0 alone) | inr kind ↦ c.is_kind.ensures.1 (named.0, kind) ],
)
