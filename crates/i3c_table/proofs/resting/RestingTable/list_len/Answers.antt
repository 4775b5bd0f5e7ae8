-- There is a row at each address that was given.
use Rattle.std.proofs.Common.{◌≡◌, ◌≤◌, ◌∙◌, ap, arith, count_by, is_some, sym}
use Rattle.i3c_table.proofs.AtRest.{count_stored}
use Rattle.i3c_table.proofs.Placed.{few}
use Rattle.i3c_table.proofs.resting.RestingTable.list_len.Goals as goal
use Rattle.i3c_table.proofs.resting.RestingTable.list_len.Goals.{After-target_count}

rows : (c : After-target_count) → c.count.result ≡ count_by is_some c.args.self.now.given
rows c = c.count.ensures ∙ (sym (count_stored c.self.inside.held.0 c.self.inside.kept.0 c.self.inside.registers.items c.self.inside.numbers.items) ∙ ap (λ t. count_by is_some t.given) c.self.view_is)

few_rows : (c : After-target_count) → c.count.result ≤ 108
few_rows c =
    let most = few c.self.inside.held.0 c.self.inside.kept.0 c.self.inside.registers.items c.self.inside.numbers.items c.self.inside.legacies c.self.invariant.0 in
    omega (arith, most, rows c, ap (λ t. count_by is_some t.given) c.self.view_is)

legacies : (c : After-target_count) → c.target_count.result ≡ count_by is_some c.args.self.now.legacy
legacies c = c.target_count.ensures.count ∙ ap (λ t. count_by is_some t.legacy) c.self.view_is

pub overflow_add-result : goal.overflow_add-result
overflow_add-result c = let most = few_rows (goal.at.overflow_add-result c).After-target_count in omega (arith, most, c.target_count.ensures.few)

pub returns-clause-long : goal.returns-clause-long
returns-clause-long c = let k = (goal.at.returns-clause-long c).After-target_count in let one = rows k in let two = legacies k in omega (arith, one, two)

pub returns-clause-few : goal.returns-clause-few
returns-clause-few c = let most = few_rows (goal.at.returns-clause-few c).After-target_count in omega (arith, most, c.target_count.ensures.few)
