use Rattle.std.proofs.Common.{ap, length, sym, ◌∙◌}
use Rattle.i3c_table.proofs.Open.{given_bits}
use Rattle.i3c_table.proofs.Placed.{each_apart, each_undeclared, each_usable, few}
use Rattle.i3c_table.proofs.StoredLaws.{length-stored, small_whole}
use Rattle.i3c_table.proofs.table.Table.given_addresses.Goals as goal

pub returns-clause-given : goal.returns-clause-given
returns-clause-given c a = rw (ap (λ t. t.given) (sym c.self.view_is)) (given_bits c.self.inside.held.0 c.self.inside.kept.0 c.self.inside.registers c.self.inside.numbers (small_whole _ _ _ c.self.invariant.0) a)

pub returns-clause-few : goal.returns-clause-few
returns-clause-few c = rw (ap (λ t. t.given) (sym c.self.view_is)) (few _ _ _ _ _ c.self.invariant.0)

pub returns-clause-usable : goal.returns-clause-usable
returns-clause-usable c a = rw (ap (λ t. t.given) (sym c.self.view_is)) (each_usable _ _ _ _ _ c.self.invariant.0 a)

pub returns-clause-apart : goal.returns-clause-apart
returns-clause-apart c a = rw (ap (λ t. t.given) (sym c.self.view_is), ap (λ t. t.legacy) (sym c.self.view_is)) (each_apart _ _ _ _ _ c.self.invariant.0 a)

pub returns-clause-all_places : goal.returns-clause-all_places
returns-clause-all_places c = ap (λ t. length t.given) (sym c.self.view_is) ∙ length-stored _ _ _ _

pub returns-clause-undeclared : goal.returns-clause-undeclared
returns-clause-undeclared c a = rw (ap (λ t. t.given) (sym c.self.view_is), ap (λ t. t.declared) (sym c.self.view_is)) (each_undeclared _ _ _ _ _ c.self.invariant.0 a)
