use Rattle.std.proofs.Common.{List, Option, ap, sym, ◌∙◌}
use Rattle.i3c_base.specs.declared.identity.Lvr.{Lvr}
use Rattle.i3c_base.specs.State.{no_identities, no_lvrs}
use Rattle.i3c_legacy.proofs.RowLaws.{places-nil}
use Rattle.i3c_deftgts.specs.Copies.{target_in}
use Rattle.i3c_deftgts.proofs.CopyLaws.{legacy_more, legacy_same, lvr_of, static_of}
use Rattle.i3c_deftgts.proofs.copies.legacies_in.Goals as goal
use Rattle.i3c_deftgts.proofs.copies.legacies_in.Goals.{in-Legacy, in_default}

pub loop-entry-init : goal.loop-entry-init
unfolding no_lvrs
loop-entry-init c = c.new-legacies.ensures ∙ ap (λ (l : List (Option Lvr)). record { legacy = l; declared = no_identities }) (sym (places-nil static_of lvr_of))

pub loop-entry-preserved : goal.loop-entry-preserved
loop-entry-preserved c = elim c.match-entry.branch [
  | in-Legacy w ↦ legacy_more w.add.result c.args.entries.now c.loop-entry.entry-index w.in-Legacy.address c.entry-item.result w.in-Legacy.lvr c.loop-entry.legacies c.match-entry.legacies
      c.requires c.loop-entry-test.true c.entry-item.is w.in-Legacy.is c.loop-entry.invariant w.add.ensures.fault (rw w.legacies-is w.add.ensures.added) (rw w.legacies-is w.add.ensures.unchanged)
  | in_default w ↦ legacy_same c.args.entries.now c.loop-entry.entry-index c.entry-item.result c.loop-entry.legacies c.match-entry.legacies
      c.loop-entry-test.true c.entry-item.is (ap target_in w.in_default.is) c.loop-entry.invariant w.legacies-is
]
