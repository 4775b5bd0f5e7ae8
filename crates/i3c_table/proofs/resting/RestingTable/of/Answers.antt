-- The lists reach as far as the last address that was given.
use Rattle.std.proofs.Common.{◌≡◌, ◌<◌, ◌∙◌, ℕ, true, ap, arith, length, subst, sym, take}
use Rattle.i3c_base.specs.Sets.{is_in}
use Rattle.i3c_table.specs.Stored.{stored, IsInOrder, IsReaching, IsStoredAlike, IsWhole}
use Rattle.i3c_table.proofs.AtRest.{alike_taken, order_again, stored_again, taken_reaching}
use Rattle.i3c_table.proofs.resting.RestingTable.of.Goals as goal
use Rattle.i3c_table.proofs.resting.RestingTable.of.Goals.{After-copied}

reached : (c : After-copied) (a : ℕ) → is_in c.table.inside.held.0 a ≡ true → (a < c.span_of-span.result) × (a < c.span_of-span.result)
reached c a has = (c.span_of-span.ensures.all a has, c.span_of-span.ensures.all a has)

alike : (c : After-copied) (a : ℕ) → is_in c.table.inside.held.0 a ≡ true → IsStoredAlike (take c.span_of-span.result c.table.inside.registers) (take c.span_of-span.result c.table.inside.numbers) c.table.inside.registers c.table.inside.numbers a
alike c = alike_taken c.table.inside.held.0 c.span_of-span.result c.span_of-span.result c.table.inside.registers c.table.inside.numbers (reached c)

pub invariant_of-result : goal.invariant_of-result
invariant_of-result c =
    let k = (goal.at.invariant_of-result c).After-copied in
    let t = c.table.inside in
    let n = c.span_of-span.result in (
      subst (IsWhole t.held.0 t.kept.0) (sym c.in_ok-of.ensures) c.table.invariant.0,
      subst (λ xs. IsInOrder t.kept.0 xs c.copied.result) (sym c.in_ok-numbers_at_rest.ensures)
          (subst (λ order. IsInOrder t.kept.0 (take n t.numbers) order) (sym c.copied.ensures)
          (order_again t.held.0 t.kept.0 t.registers (take n t.registers) t.numbers (take n t.numbers) (alike k) t.order c.table.invariant.0.among c.table.invariant.1)),
      subst (λ xs. IsReaching t.held.0 (length xs) (length c.in_ok-numbers_at_rest.field-0.items)) (sym c.in_ok-registers_at_rest.ensures)
          (subst (λ xs. IsReaching t.held.0 (length (take n t.registers)) (length xs)) (sym c.in_ok-numbers_at_rest.ensures)
          (taken_reaching t.held.0 n n t.registers t.numbers c.span_of-span.ensures.few c.span_of-span.ensures.few (omega arith) (omega arith) (reached k))),
    )

pub returns : goal.returns
returns c =
    let k = (goal.at.returns c).After-copied in
    let t = c.table.inside in
    let n = c.span_of-span.result in
    (λ i. record { given = stored t.held.0 t.kept.0 (c.in_ok-registers_at_rest.ensures i) (c.in_ok-numbers_at_rest.ensures i); legacy = (c.in_ok-of.ensures i).legacy; declared = (c.in_ok-of.ensures i).declared; listed = t.listed })
    ∙ (ap (λ g. record { given = g; legacy = t.legacies.legacy; declared = t.legacies.declared; listed = t.listed }) (stored_again t.held.0 t.kept.0 t.registers (take n t.registers) t.numbers (take n t.numbers) (alike k)) ∙ c.table.view_is)
