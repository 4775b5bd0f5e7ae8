-- Sets with the same addresses, and boards that are the same.
use Rattle.std.proofs.Common.{◌∙◌, ap, is_some, sym}
use Rattle.i3c_base.specs.State.{Board, entry_in}
use Rattle.i3c_table.proofs.AtRest.{some_stored}
use Rattle.i3c_table.proofs.StoredLaws.{small_whole}
use Rattle.i3c_table.proofs.resting.RestingTable.has_room_for.Goals as goal

pub returns-then-are_same : goal.returns-then-are_same
returns-then-are_same c t =
    let board = c.is_of.ensures.0 t in (
      λ a. ap (λ t. is_some (entry_in t.given a)) (sym c.self.view_is)
          ∙ (some_stored c.self.inside.held.0 c.self.inside.kept.0 c.self.inside.registers.items c.self.inside.numbers.items a (small_whole _ _ _ c.self.invariant.0)
          ∙ (c.are_same.ensures.0 c.if-are_same.true a
          ∙ (sym (some_stored c.table.inside.held.0 c.table.inside.kept.0 c.table.inside.registers c.table.inside.numbers a (small_whole _ _ _ c.table.invariant.0)) ∙ ap (λ t. is_some (entry_in t.given a)) c.table.view_is))),
      ap (λ t. t.legacy) (sym c.self.view_is) ∙ (ap (λ (b : Board). b.legacy) board ∙ ap (λ t. t.legacy) c.table.view_is),
      ap (λ t. t.declared) (sym c.self.view_is) ∙ (ap (λ (b : Board). b.declared) board ∙ ap (λ t. t.declared) c.table.view_is),
    )
