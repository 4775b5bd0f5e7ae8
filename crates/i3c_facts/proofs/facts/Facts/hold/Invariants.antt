use Rattle.std.proofs.Common.{◌≡◌, drop}
use Rattle.i3c_facts.specs.Holding.{claims_hold}
use Rattle.i3c_facts.proofs.facts.Facts.hold.Given as goal

abbrev pub invariant-loop-index : goal.invariant-loop-index
invariant-loop-index g l = claims_hold l.bus.state (g.N.Naming.kept.place l.naming) l.before (drop l.index l.self) ≡ claims_hold l.bus.state (g.N.Naming.kept.place l.naming) l.before l.self
