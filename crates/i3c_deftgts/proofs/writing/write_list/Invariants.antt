use Rattle.std.proofs.Common.{◌-◌, ◌∷◌, length, take}
use Rattle.std.specs.List.{flat_map}
use Rattle.i3c_deftgts.specs.Layout.{bytes_of, Carry}
use Rattle.i3c_deftgts.proofs.writing.write_list.Given as goal

abbrev pub invariant-loop-entry : goal.invariant-loop-entry
invariant-loop-entry l = Carry ((length l.entry-items - 1) ∷ flat_map bytes_of (take l.entry-index l.entry-items)) l.words.items
