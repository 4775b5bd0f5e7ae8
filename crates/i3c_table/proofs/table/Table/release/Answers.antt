use Rattle.std.proofs.Common.{◌≡◌, ◌∙◌, Some, ap, arith, false, get_or, set, subst, sym}
use Rattle.std.proofs.lemmas.List.{get_or_default}
use Rattle.i3c_base.specs.Covered.{Table}
use Rattle.i3c_base.specs.Frames.{released_at}
use Rattle.i3c_table.specs.declared.registers.Registers.{Registers}
use Rattle.i3c_table.specs.Stored.{no_registers, stored}
use Rattle.i3c_table.proofs.Moving.{released_stored, whole_released}
use Rattle.i3c_table.proofs.StoredLaws.{small_whole}
use Rattle.i3c_table.proofs.table.Table.release.Goals as goal

pub invariant_of-self : goal.invariant_of-self
invariant_of-self c =
    let inside = c.self.inside in
    let a = c.args.address in
    let kept = c.without-self-inside in
    let r : Registers = record (get_or inside.registers c.get.result c.index-self-get.result) { fixed = c.of.result } in
    let read : get_or inside.registers a no_registers ≡ get_or inside.registers c.get.result c.index-self-get.result =
    get_or_default inside.registers a no_registers c.index-self-get.result (omega arith) ∙ ap (λ i. get_or inside.registers i c.index-self-get.result) (sym c.get.ensures.same) in (
      whole_released inside.held.0 inside.kept.0 kept.result.0 a inside.registers inside.numbers r (small_whole _ _ _ c.self.invariant.0) (omega arith) (omega arith) kept.ensures.not_in_it kept.ensures.others
          (sym (ap (λ (x : Registers). x.bcr) read)) (sym (ap (λ (x : Registers). x.dcr) read)) c.of.ensures inside.legacies c.self.invariant.0,
      c.of-self-inside.ensures,
    )

pub returns : goal.returns
returns c =
    let inside = c.self.inside in
    let a = c.args.address in
    let kept = c.without-self-inside in
    let r : Registers = record (get_or inside.registers c.get.result c.index-self-get.result) { fixed = c.of.result } in
    let read : get_or inside.registers a no_registers ≡ get_or inside.registers c.get.result c.index-self-get.result =
    get_or_default inside.registers a no_registers c.index-self-get.result (omega arith) ∙ ap (λ i. get_or inside.registers i c.index-self-get.result) (sym c.get.ensures.same) in
    ap (λ place. record { given = stored inside.held.0 kept.result.0 (set inside.registers place r) inside.numbers; legacy = inside.legacies.legacy; declared = inside.legacies.declared; listed = false }) c.get.ensures.same
    ∙ (ap (λ g. record { given = g; legacy = inside.legacies.legacy; declared = inside.legacies.declared; listed = false })
    (released_stored inside.held.0 inside.kept.0 kept.result.0 a inside.registers inside.numbers r (small_whole _ _ _ c.self.invariant.0) (omega arith) (omega arith) kept.ensures.not_in_it kept.ensures.others
    (sym (ap (λ (x : Registers). x.bcr) read)) (sym (ap (λ (x : Registers). x.dcr) read)) c.of.ensures)
    ∙ ap (λ (t : Table). record t { given = released_at (Some a) t.given; listed = false }) c.self.view_is)
