use Rattle.std.proofs.Common.{[], arith, length, ap}
use Rattle.i3c_script.proofs.Framed.{few}
use Rattle.i3c_script.proofs.frames.frame_count.Goals as goal

pub overflow_add-count : goal.overflow_add-count
overflow_add-count c =
    let left = ap length c.in-Some.ensures in
    let all = few [] c.args.symbols.now in
    grind (arith, left, all, c.loop-more.invariant)
