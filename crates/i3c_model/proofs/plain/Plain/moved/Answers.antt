use Rattle.std.proofs.Common.{sym, subst, ◌∙◌}
use Rattle.std.specs.Option.{IsSome}
use Rattle.std.proofs.lemmas.Bool.{false≢true}
use Rattle.i3c_model.proofs.TableLaws.{copied_get, table_moved}
use Rattle.i3c_model.proofs.plain.Plain.moved.Goals as goal

pub unreachable-requires : goal.unreachable-requires
unreachable-requires c =
    let none = sym (copied_get c.self.inside c.args.self.now c.self.view_is c.self.invariant c.in_ok-table.table c.in_ok-table.ensures.cases c.args.old) ∙ sym c.in_default.ensures.value in
    false≢true (subst IsSome none c.requires.given)

pub returns : goal.returns
returns c =
    table_moved c.self.inside c.args.self.now c.self.view_is c.self.invariant c.in_ok-table.table c.in_ok-table.ensures.cases c.remove.new.self c.insert.new.self c.args.old c.args.new c.in-Some.entry c.in-Some.ensures.value
    c.get.ensures.in_range c.in-Some.ensures.updates c.in_ok-insert.ensures.updates
