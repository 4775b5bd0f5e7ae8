use Rattle.std.proofs.Common.{Some, sym, subst}
use Rattle.std.specs.BTreeMap.{Updates}
use Rattle.std.specs.Ordering.{nat_cmp}
use Rattle.i3c_base.specs.Frames.{released_at}
use Rattle.i3c_base.specs.State.{Entry}
use Rattle.i3c_model.specs.Views.{IsTableOf}
use Rattle.i3c_model.proofs.TableLaws.{table_copied, table_released, table_released_none}
use Rattle.i3c_model.proofs.plain.Plain.released.Goals as goal

pub returns-in_default : goal.returns-in_default
returns-in_default c =
    subst (λ o. IsTableOf (released_at o c.args.self.now.given) c.in_ok-table.table) (sym c.in_default.is)
    (table_copied c.self.inside c.args.self.now c.self.view_is c.self.invariant c.in_ok-table.table c.in_ok-table.ensures.cases)

pub returns-in_default-entry : goal.returns-in_default-entry
returns-in_default-entry c =
    subst (λ o. IsTableOf (released_at o c.args.self.now.given) c.in_ok-table.table) (sym c.in-Some.is)
    (table_released_none c.self.inside c.args.self.now c.self.view_is c.self.invariant c.in_ok-table.table c.in_ok-table.ensures.cases c.in-Some.address (sym c.in_default-entry.ensures))

pub returns : goal.returns
returns c =
    let put = subst (λ (e : Entry). Updates nat_cmp c.in_ok-table.table c.insert.new.self c.in-Some.address (Some e)) c.released.ensures c.in_ok-insert.ensures.updates in
    subst (λ o. IsTableOf (released_at o c.args.self.now.given) c.insert.new.self) (sym c.in-Some.is)
    (table_released c.self.inside c.args.self.now c.self.view_is c.self.invariant c.in_ok-table.table c.in_ok-table.ensures.cases c.insert.new.self c.in-Some.address c.in-Some-entry.entry.now (sym c.in-Some-entry.ensures) put)
