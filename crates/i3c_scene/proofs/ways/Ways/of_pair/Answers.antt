use Rattle.std.proofs.Common.{◌-◌, ◌*◌, arith, sym}
use Rattle.i3c_scene.proofs.Pairs.{pair_first, pair_second}
use Rattle.i3c_scene.proofs.ways.Ways.of_pair.Goals as goal

pub returns-then-behind-most : goal.returns-then-behind-most
returns-then-behind-most c =
    let number = c.args.number in let most = c.isqrt-most.result in
    let below = c.isqrt-most.ensures.square_le in
    sym (pair_first number most (number - most * most) (omega (arith, below)) (omega arith))

pub returns-else-behind-most : goal.returns-else-behind-most
returns-else-behind-most c =
    let number = c.args.number in let most = c.isqrt-most.result in
    let below = c.isqrt-most.ensures.square_le in let above = c.isqrt-most.ensures.next_square_gt in
    sym (pair_second number most (number - most * most) (omega (arith, below)) (omega arith) (omega (arith, below, above)))
