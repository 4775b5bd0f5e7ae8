use Rattle.std.proofs.Common.{◌≡◌, ◌∙◌, ap, arith, get_or, sym}
use Rattle.std.proofs.lemmas.List.{get_or_default}
use Rattle.i3c_base.specs.State.{is_the}
use Rattle.i3c_table.specs.declared.registers.Registers.{Registers}
use Rattle.i3c_table.specs.Stored.{no_registers}
use Rattle.i3c_table.proofs.Homes.{again_elsewhere, again_home, again_nowhere}
use Rattle.i3c_table.proofs.keeping.kept_again.Goals as goal

pub returns-then-not-is_at : goal.returns-then-not-is_at
returns-then-not-is_at c =
    let read : get_or c.args.registers.now c.args.address no_registers ≡ get_or c.args.registers.now c.get.result c.index-registers-get.result =
    get_or_default c.args.registers.now c.args.address no_registers c.index-registers-get.result (omega arith) ∙ ap (λ i. get_or c.args.registers.now i c.index-registers-get.result) (sym c.get.ensures.same) in
    again_elsewhere c.args.legacies.now.declared c.args.among.0 c.args.registers.now c.args.address c.in-Some.fixed (ap (λ (r : Registers). r.fixed) read ∙ (sym c.address.ensures ∙ c.in-Some.is))
    (ap (is_the c.args.address) (sym c.home.ensures) ∙ sym c.if-not-is_at.ensures)

pub returns-else-not-is_at : goal.returns-else-not-is_at
returns-else-not-is_at c =
    let read : get_or c.args.registers.now c.args.address no_registers ≡ get_or c.args.registers.now c.get.result c.index-registers-get.result =
    get_or_default c.args.registers.now c.args.address no_registers c.index-registers-get.result (omega arith) ∙ ap (λ i. get_or c.args.registers.now i c.index-registers-get.result) (sym c.get.ensures.same) in
    c.declared_at.ensures.same ∙ again_home c.args.legacies.now.declared c.args.among.0 c.args.registers.now c.args.address c.in-Some.fixed (ap (λ (r : Registers). r.fixed) read ∙ (sym c.address.ensures ∙ c.in-Some.is))
    (ap (is_the c.args.address) (sym c.home.ensures) ∙ sym c.if-not-is_at.ensures)

pub returns-in-None : goal.returns-in-None
returns-in-None c =
    let read : get_or c.args.registers.now c.args.address no_registers ≡ get_or c.args.registers.now c.get.result c.index-registers-get.result =
    get_or_default c.args.registers.now c.args.address no_registers c.index-registers-get.result (omega arith) ∙ ap (λ i. get_or c.args.registers.now i c.index-registers-get.result) (sym c.get.ensures.same) in
    again_nowhere c.args.legacies.now.declared c.args.among.0 c.args.registers.now c.args.address (ap (λ (r : Registers). r.fixed) read ∙ (sym c.address.ensures ∙ c.in-None.is))
