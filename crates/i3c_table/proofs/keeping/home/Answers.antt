use Rattle.std.proofs.Common.{◌≡◌, ◌∙◌, ap, arith, false, get_or, sym, true}
use Rattle.std.proofs.lemmas.List.{get_or_default}
use Rattle.i3c_base.specs.State.{is_the}
use Rattle.i3c_table.specs.declared.registers.Registers.{Registers}
use Rattle.i3c_table.specs.Stored.{no_registers}
use Rattle.i3c_table.proofs.Homes.{sought_here, sought_more, sought_none, sought_nowhere}
use Rattle.i3c_table.proofs.keeping.home.Goals as goal

pub loop-address-init : goal.loop-address-init
loop-address-init c = sought_none c.args.among.0 c.args.registers.now c.args.fixed

pub loop-address-preserved : goal.loop-address-preserved
loop-address-preserved c =
    let read : get_or c.args.registers.now c.in-Some.address no_registers ≡ get_or c.args.registers.now c.get.result c.index-registers-get.result =
    get_or_default c.args.registers.now c.in-Some.address no_registers c.index-registers-get.result (omega arith) ∙ ap (λ i. get_or c.args.registers.now i c.index-registers-get.result) (sym c.get.ensures.same) in
    let isnt : is_the c.args.fixed (get_or c.args.registers.now c.in-Some.address no_registers).fixed ≡ false = ap (λ (r : Registers). is_the c.args.fixed r.fixed) read ∙ (ap (is_the c.args.fixed) (sym c.address.ensures) ∙ sym c.if-is_at.ensures) in
    sought_more c.args.among.0 c.args.registers.now c.args.fixed c.loop-address.left.0 c.without-left.result.0 c.in-Some.address c.loop-address.invariant isnt c.without-left.ensures.not_in_it c.without-left.ensures.others

pub returns-then-is_at : goal.returns-then-is_at
returns-then-is_at c =
    let read : get_or c.args.registers.now c.in-Some.address no_registers ≡ get_or c.args.registers.now c.get.result c.index-registers-get.result =
    get_or_default c.args.registers.now c.in-Some.address no_registers c.index-registers-get.result (omega arith) ∙ ap (λ i. get_or c.args.registers.now i c.index-registers-get.result) (sym c.get.ensures.same) in
    let its : is_the c.args.fixed (get_or c.args.registers.now c.in-Some.address no_registers).fixed ≡ true = ap (λ (r : Registers). is_the c.args.fixed r.fixed) read ∙ (ap (is_the c.args.fixed) (sym c.address.ensures) ∙ sym c.if-is_at.ensures) in
    sought_here c.args.among.0 c.args.registers.now c.args.fixed c.loop-address.left.0 c.in-Some.address c.loop-address.invariant (omega arith) c.in-Some.ensures.0 c.in-Some.ensures.1 its

pub returns : goal.returns
returns c = sought_nowhere c.args.among.0 c.args.registers.now c.args.fixed c.loop-address.left.0 c.loop-address.invariant c.in_default.ensures

pub loop-address-smaller : goal.loop-address-smaller
loop-address-smaller c = c.without-left.ensures.less c.in-Some.ensures.0
