-- The lists reach as far as before, and hold what the table has at each address that was given.
use Rattle.std.proofs.Common.{◌≡◌, ◌<◌, ◌∙◌, ℕ, true, List, ap, arith, is_some, length, length-take-le, subst, sym, take}
use Rattle.std.proofs.lemmas.List.{with_items_is}
use Rattle.std.specs.Vec.{with_items}
use Rattle.i3c_base.specs.Covered.{Table}
use Rattle.i3c_base.specs.Sets.{is_in}
use Rattle.i3c_base.specs.State.{Board, entry_in}
use Rattle.i3c_table.specs.declared.registers.Registers.{Registers}
use Rattle.i3c_table.specs.Stored.{stored, IsInOrder, IsReaching, IsStoredAlike}
use Rattle.i3c_table.proofs.AtRest.{alike_taken, order_again, some_stored, stored_again, taken_reaching, whole_board}
use Rattle.i3c_table.proofs.StoredLaws.{small_whole}
use Rattle.i3c_table.proofs.resting.RestingTable.copy_from.Goals as goal
use Rattle.i3c_table.proofs.resting.RestingTable.copy_from.Goals.{After-copy_from}

same : (c : After-copy_from) (a : ℕ) → is_in c.self.inside.held.0 a ≡ is_in c.table.inside.held.0 a
same c a =
    sym (some_stored c.self.inside.held.0 c.self.inside.kept.0 c.self.inside.registers.items c.self.inside.numbers.items a (small_whole _ _ _ c.self.invariant.0))
    ∙ (ap (λ (t : Table). is_some (entry_in t.given a)) c.self.view_is
    ∙ (c.requires.0 a
    ∙ (sym (ap (λ (t : Table). is_some (entry_in t.given a)) c.table.view_is) ∙ some_stored c.table.inside.held.0 c.table.inside.kept.0 c.table.inside.registers c.table.inside.numbers a (small_whole _ _ _ c.table.invariant.0))))

reached : (c : After-copy_from) (a : ℕ) → is_in c.table.inside.held.0 a ≡ true → (a < length c.self.inside.registers.items) × (a < length c.self.inside.numbers.items)
reached c a has = c.self.invariant.2.reached a (same c a ∙ has)

board : (c : After-copy_from) → ◌≡◌ {A = Board} c.table.inside.legacies c.self.inside.legacies
board c = λ t. record {
  legacy = (ap (λ (t : Table). t.legacy) c.table.view_is ∙ (sym c.requires.1 ∙ sym (ap (λ (t : Table). t.legacy) c.self.view_is))) t;
  declared = (ap (λ (t : Table). t.declared) c.table.view_is ∙ (sym c.requires.2 ∙ sym (ap (λ (t : Table). t.declared) c.self.view_is))) t;
}

new_registers : (c : After-copy_from) → (with_items c.self.inside.registers c.copy_registers.new.registers).items ≡ take (length c.self.inside.registers.items) c.table.inside.registers
new_registers c =
    with_items_is c.self.inside.registers c.copy_registers.new.registers
    (ap length c.copy_registers.ensures
    ∙ (length-take-le (length c.deref_mut.result.now) c.table.inside.registers (let few = c.self.invariant.2.few in omega (arith, few, ap length c.deref_mut.ensures.value)) ∙ c.deref_mut.ensures.len))
    ∙ (c.copy_registers.ensures ∙ ap (λ (xs : List Registers). take (length xs) c.table.inside.registers) c.deref_mut.ensures.value)

new_numbers : (c : After-copy_from) → (with_items c.self.inside.numbers c.copy_numbers.new.numbers).items ≡ take (length c.self.inside.numbers.items) c.table.inside.numbers
new_numbers c =
    with_items_is c.self.inside.numbers c.copy_numbers.new.numbers
    (ap length c.copy_numbers.ensures
    ∙ (length-take-le (length c.deref_mut-2.result.now) c.table.inside.numbers (let few = c.self.invariant.2.few_numbers in omega (arith, few, ap length c.deref_mut-2.ensures.value)) ∙ c.deref_mut-2.ensures.len))
    ∙ (c.copy_numbers.ensures ∙ ap (λ (xs : List ℕ). take (length xs) c.table.inside.numbers) c.deref_mut-2.ensures.value)

alike : (c : After-copy_from) (a : ℕ) → is_in c.table.inside.held.0 a ≡ true
    → IsStoredAlike (take (length c.self.inside.registers.items) c.table.inside.registers) (take (length c.self.inside.numbers.items) c.table.inside.numbers) c.table.inside.registers c.table.inside.numbers a
alike c = alike_taken c.table.inside.held.0 (length c.self.inside.registers.items) (length c.self.inside.numbers.items) c.table.inside.registers c.table.inside.numbers (reached c)

pub invariant_of-self : goal.invariant_of-self
invariant_of-self c =
    let k = (goal.at.invariant_of-self c).After-copy_from in
    let t = c.table.inside in
    let n = length c.self.inside.registers.items in
    let m = length c.self.inside.numbers.items in
    let few = c.self.invariant.2.few in
    let few_numbers = c.self.invariant.2.few_numbers in (
      whole_board t.held.0 t.kept.0 t.legacies c.self.inside.legacies (board k) c.table.invariant.0,
      subst (λ xs. IsInOrder t.kept.0 xs c.copy_from.new.self) (sym (new_numbers k))
          (subst (λ order. IsInOrder t.kept.0 (take m t.numbers) order) (sym c.copy_from.ensures)
          (order_again t.held.0 t.kept.0 t.registers (take n t.registers) t.numbers (take m t.numbers) (alike k) t.order c.table.invariant.0.among c.table.invariant.1)),
      subst (λ xs. IsReaching t.held.0 (length xs) (length (with_items c.self.inside.numbers c.copy_numbers.new.numbers).items)) (sym (new_registers k))
          (subst (λ xs. IsReaching t.held.0 (length (take n t.registers)) (length xs)) (sym (new_numbers k)) (taken_reaching t.held.0 n m t.registers t.numbers few few_numbers (omega arith) (omega arith) (reached k))),
    )

pub returns : goal.returns
returns c =
    let k = (goal.at.returns c).After-copy_from in
    let t = c.table.inside in
    let n = length c.self.inside.registers.items in
    let m = length c.self.inside.numbers.items in
    (λ i. record { given = stored t.held.0 t.kept.0 (new_registers k i) (new_numbers k i); legacy = (sym (board k) i).legacy; declared = (sym (board k) i).declared; listed = t.listed })
    ∙ (ap (λ g. record { given = g; legacy = t.legacies.legacy; declared = t.legacies.declared; listed = t.listed }) (stored_again t.held.0 t.kept.0 t.registers (take n t.registers) t.numbers (take m t.numbers) (alike k)) ∙ c.table.view_is)
