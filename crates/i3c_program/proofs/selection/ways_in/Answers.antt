use Rattle.std.proofs.Common.{◌≡◌, ◌∙◌, ◌+◌, ◌-◌, Some, arith, length, suc, sym}
use Rattle.std.specs.List.{slice_get}
use Rattle.i3c_program.proofs.Newest.{ways_of_last}
use Rattle.i3c_program.proofs.selection.ways_in.Goals as goal

pub returns-in-Some : goal.returns-in-Some
returns-in-Some g c =
    let path = c.args.path.now in
    let choice = c.in-Some.choice.now in
    let last : slice_get path (length path - 1) ≡ Some choice = sym c.in-Some.ensures.value in
    let counted : c.len.result + 1 ≡ suc (length choice.left.items) = omega (arith, c.len.ensures) in
    counted ∙ sym (ways_of_last path choice last)
