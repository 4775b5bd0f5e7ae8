use Rattle.std.proofs.Common.{◌≡◌, ◌∙◌, ap, arith, false, get_or, refl, set, subst, sym}
use Rattle.std.proofs.lemmas.List.{get_or-set_other, get_or-set_same}
use Rattle.i3c_base.specs.State.{IsFree, IsUsable}
use Rattle.i3c_table.specs.declared.registers.Registers.{Registers}
use Rattle.i3c_table.specs.Rows.{entry_of_row}
use Rattle.i3c_base.specs.Sets.{is_in}
use Rattle.i3c_table.specs.Stored.{no_registers, stored}
use Rattle.i3c_table.specs.Putting.{with_row}
use Rattle.i3c_table.proofs.StoredLaws.{fitting_row, new_row, put_stored, small_put, small_whole, whole_put}
use Rattle.i3c_base.specs.Covered.{Table}
use Rattle.i3c_table.proofs.table.Table.put.Goals as goal

pub keep_for-self-inside-requires-clause-ordered : goal.keep_for-self-inside-requires-clause-ordered
keep_for-self-inside-requires-clause-ordered c = c.self.invariant.1

pub keep_for-self-inside-requires-clause-same : goal.keep_for-self-inside-requires-clause-same
keep_for-self-inside-requires-clause-same c =
    let inside = c.self.inside in
    fitting_row inside.held.0 inside.kept.0 inside.registers inside.numbers c.args.self.now c.args.row c.args.row.identity (ap (λ t. t.given) c.self.view_is) (small_whole _ _ _ c.self.invariant.0) c.self.invariant.0.among c.requires refl

pub invariant_of-self : goal.invariant_of-self
invariant_of-self c =
    let inside = c.self.inside in
    let a = c.args.row.address in
    let new : is_in inside.held.0 a ≡ false → IsUsable a × IsFree inside.legacies.legacy a × IsFree inside.legacies.declared a = λ out.
    subst (λ (t : Table). IsUsable a × IsFree t.legacy a × IsFree t.declared a) (sym c.self.view_is)
    (new_row inside.held.0 inside.kept.0 inside.registers inside.numbers c.args.self.now c.args.row (ap (λ t. t.given) c.self.view_is) (small_whole _ _ _ c.self.invariant.0) c.requires out) in (
      whole_put inside.held.0 inside.kept.0 c.with-self-inside.result.0 c.keep_for-self-inside.result.0 a inside.legacies c.self.invariant.0 new c.with-self-inside.ensures.in_it c.with-self-inside.ensures.others
          c.keep_for-self-inside.ensures.others,
      c.keep_for-self-inside.ensures.ordered,
    )

pub returns : goal.returns
returns c =
    let inside = c.self.inside in
    let a = c.args.row.address in
    let r : Registers = record { bcr = c.args.row.bcr; dcr = c.args.row.dcr; fixed = c.of.result } in
    let kept = c.keep_for-self-inside in
    let held = c.with-self-inside.result.0 in
    let set_same : get_or (set inside.registers a r) a no_registers ≡ r = get_or-set_same inside.registers a r no_registers (omega arith) in
    let small = small_whole inside.held.0 inside.kept.0 inside.legacies c.self.invariant.0 in
    ap (λ place. record { given = stored held kept.result.0 (set inside.registers place r) kept.new.numbers; legacy = inside.legacies.legacy; declared = inside.legacies.declared; listed = false }) c.get.ensures.same
    ∙ (ap (λ g. record { given = g; legacy = inside.legacies.legacy; declared = inside.legacies.declared; listed = false })
    (put_stored inside.held.0 inside.kept.0 held kept.result.0 inside.registers (set inside.registers a r) inside.numbers kept.new.numbers a (entry_of_row c.args.row) small
    (small_put inside.held.0 held a small c.get.ensures.in_range c.with-self-inside.ensures.others) c.get.ensures.in_range c.with-self-inside.ensures.in_it c.with-self-inside.ensures.others kept.ensures.others
    (λ k other. get_or-set_other inside.registers a k r no_registers other) kept.ensures.other_numbers (ap (λ x. x.bcr) set_same) (ap (λ x. x.dcr) set_same) (ap (λ x. x.fixed) set_same ∙ c.of.ensures) kept.ensures.its)
    ∙ ap (with_row c.args.row) c.self.view_is)
