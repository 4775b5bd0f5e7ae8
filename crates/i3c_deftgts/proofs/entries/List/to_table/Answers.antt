use Rattle.std.proofs.Common.{◌≡◌, false, ap, sym, ◌∙◌}
use Rattle.i3c_deftgts.specs.Copies.{table_of}
use Rattle.i3c_deftgts.specs.Entries.{has_twice}
use Rattle.i3c_deftgts.proofs.CopyLaws.{may_put, part_all, part_more, part_none, part_same}
use Rattle.i3c_deftgts.proofs.entries.List.to_table.Goals as goal
use Rattle.i3c_deftgts.proofs.entries.List.to_table.Goals.{in-Some, in_default}

pub put-requires : goal.put-requires
put-requires c =
    let own : has_twice c.entries-entries.result.now ≡ false = ap has_twice c.entries-entries.ensures.same ∙ c.entries-entries.ensures.own_addresses in
    may_put c.entries-entries.result.now c.loop-entry.entry-index c.entry-item.result c.loop-entry.table own c.loop-entry-test.true c.entry-item.is c.in-Some.row (sym c.row_in.ensures ∙ c.in-Some.is) c.loop-entry.invariant

pub loop-entry-init : goal.loop-entry-init
loop-entry-init c = part_none c.entries-entries.result.now c.legacies_in.result c.new-table.result c.new-table.ensures c.legacies_in.ensures

pub loop-entry-preserved : goal.loop-entry-preserved
loop-entry-preserved c =
    let own : has_twice c.entries-entries.result.now ≡ false = ap has_twice c.entries-entries.ensures.same ∙ c.entries-entries.ensures.own_addresses in
    elim c.match-row_in.branch [
      | in-Some w ↦ part_more c.entries-entries.result.now c.loop-entry.entry-index c.entry-item.result c.loop-entry.table own c.loop-entry-test.true c.entry-item.is w.in-Some.row c.match-row_in.table
          (sym c.row_in.ensures ∙ w.in-Some.is) c.loop-entry.invariant (w.table-is ∙ w.put.ensures)
      | in_default w ↦ w.table-is ∙ part_same c.entries-entries.result.now c.loop-entry.entry-index c.entry-item.result c.loop-entry.table c.loop-entry-test.true c.entry-item.is (sym c.row_in.ensures ∙ w.in_default.is) c.loop-entry.invariant
    ]

pub returns : goal.returns
returns c = part_all c.entries-entries.result.now c.loop-entry.entry-index c.loop-entry.table c.loop-entry-test.false c.loop-entry.invariant ∙ ap table_of c.entries-entries.ensures.same
