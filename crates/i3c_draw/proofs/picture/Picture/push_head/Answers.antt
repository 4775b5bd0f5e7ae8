use Rattle.std.proofs.Common.{◌++◌, refl}
use Rattle.std.specs.Prelude.{codes, decimal}
use Rattle.i3c_draw.specs.Pictures.{legend}
use Rattle.i3c_draw.proofs.Appended.{last_part, one_part}
use Rattle.i3c_draw.proofs.picture.Picture.push_head.Goals as goal

pub returns : goal.returns
returns c =
    let old = c.args.text.now in
    let rest-2 = legend in
    let rest-1 = decimal c.args.self.now.pen.y ++ rest-2 in
    let rest-0 = codes "<svg xmlns='http://www.w3.org/2000/svg' width='1200' height='" ++ rest-1 in
    let whole = old ++ rest-0 in
    let part-1 = one_part whole old c.push.new.self (codes "<svg xmlns='http://www.w3.org/2000/svg' width='1200' height='") rest-1 refl c.in_ok-push.ensures.appended in
    let part-2 = one_part whole c.push.new.self c.push_decimal.new.self (decimal c.args.self.now.pen.y) rest-2 part-1 c.in_ok-push_decimal.ensures in
    last_part c.push-2.result whole c.push_decimal.new.self c.push-2.new.self rest-2 part-2 c.push-2.ensures.appended
