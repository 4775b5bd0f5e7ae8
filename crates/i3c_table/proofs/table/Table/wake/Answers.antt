-- What was at rest stands at the first addresses, up to the last that was given.
use Rattle.std.proofs.Common.{◌≡◌, ◌∙◌, ◌++◌, ℕ, true, List, ap, drop, length, subst, sym}
use Rattle.i3c_base.specs.Sets.{is_in}
use Rattle.i3c_table.specs.declared.registers.Registers.{Registers}
use Rattle.i3c_table.specs.Stored.{stored, IsInOrder, IsStoredAlike, IsWhole}
use Rattle.i3c_table.proofs.AtRest.{alike_begun, order_again, stored_again}
use Rattle.i3c_table.proofs.table.Table.wake.Goals as goal
use Rattle.i3c_table.proofs.table.Table.wake.Goals.{After-copy_from}

new_registers : (c : After-copy_from) → c.begin_registers.new.registers ≡ c.resting.inside.registers.items ++ drop (length c.resting.inside.registers.items) c.self.inside.registers
new_registers c = c.begin_registers.ensures ∙ ap (λ (xs : List Registers). xs ++ drop (length xs) c.self.inside.registers) c.deref.ensures.value

new_numbers : (c : After-copy_from) → c.begin_numbers.new.numbers ≡ c.resting.inside.numbers.items ++ drop (length c.resting.inside.numbers.items) c.self.inside.numbers
new_numbers c = c.begin_numbers.ensures ∙ ap (λ (xs : List ℕ). xs ++ drop (length xs) c.self.inside.numbers) c.deref-2.ensures.value

alike : (c : After-copy_from) (a : ℕ) → is_in c.resting.inside.held.0 a ≡ true
    → IsStoredAlike (c.resting.inside.registers.items ++ drop (length c.resting.inside.registers.items) c.self.inside.registers) (c.resting.inside.numbers.items ++ drop (length c.resting.inside.numbers.items) c.self.inside.numbers) c.resting.inside.registers.items
    c.resting.inside.numbers.items a
alike c = alike_begun c.resting.inside.held.0 c.resting.inside.registers.items c.self.inside.registers c.resting.inside.numbers.items c.self.inside.numbers c.resting.invariant.2.reached

pub invariant_of-self : goal.invariant_of-self
invariant_of-self c =
    let k = (goal.at.invariant_of-self c).After-copy_from in
    let r = c.resting.inside in (
      subst (IsWhole r.held.0 r.kept.0) (sym c.wake.ensures) c.resting.invariant.0,
      subst (λ xs. IsInOrder r.kept.0 xs c.copy_from.new.self) (sym (new_numbers k))
          (subst (λ order. IsInOrder r.kept.0 (r.numbers.items ++ drop (length r.numbers.items) c.self.inside.numbers) order) (sym c.copy_from.ensures)
          (order_again r.held.0 r.kept.0 r.registers.items (r.registers.items ++ drop (length r.registers.items) c.self.inside.registers) r.numbers.items (r.numbers.items ++ drop (length r.numbers.items) c.self.inside.numbers) (alike k) r.order
          c.resting.invariant.0.among c.resting.invariant.1)),
    )

pub returns : goal.returns
returns c =
    let k = (goal.at.returns c).After-copy_from in
    let r = c.resting.inside in
    (λ i. record { given = stored r.held.0 r.kept.0 (new_registers k i) (new_numbers k i); legacy = (c.wake.ensures i).legacy; declared = (c.wake.ensures i).declared; listed = r.listed })
    ∙ (ap (λ g. record { given = g; legacy = r.legacies.legacy; declared = r.legacies.declared; listed = r.listed })
    (stored_again r.held.0 r.kept.0 r.registers.items (r.registers.items ++ drop (length r.registers.items) c.self.inside.registers) r.numbers.items (r.numbers.items ++ drop (length r.numbers.items) c.self.inside.numbers) (alike k))
    ∙ c.resting.view_is)
