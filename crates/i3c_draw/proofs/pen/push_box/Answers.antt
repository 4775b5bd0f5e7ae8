use Rattle.std.proofs.Common.{◌∙◌, ◌++◌, ap, refl}
use Rattle.std.specs.Prelude.{codes, decimal}
use Rattle.i3c_draw.specs.Rows.{class_of}
use Rattle.i3c_draw.proofs.Appended.{last_part, one_part}
use Rattle.i3c_draw.proofs.pen.push_box.Goals as goal

pub returns : goal.returns
returns c =
    let old = c.args.text.now in
    let rest-6 = codes "' height='16'/>" in
    let rest-5 = decimal c.args.width ++ rest-6 in
    let rest-4 = codes "' width='" ++ rest-5 in
    let rest-3 = decimal c.args.x ++ rest-4 in
    let rest-2 = codes "' x='" ++ rest-3 in
    let rest-1 = class_of c.args.driver ++ rest-2 in
    let rest-0 = codes "<rect class='" ++ rest-1 in
    let whole = old ++ rest-0 in
    let part-1 = one_part whole old c.push.new.self (codes "<rect class='") rest-1 refl c.in_ok-push.ensures.appended in
    let part-2 = one_part whole c.push.new.self c.push-2.new.self (class_of c.args.driver) rest-2 part-1 (c.in_ok-push-2.ensures.appended ∙ ap (λ words. c.push.new.self ++ words) c.class_of.ensures) in
    let part-3 = one_part whole c.push-2.new.self c.push-3.new.self (codes "' x='") rest-3 part-2 c.in_ok-push-3.ensures.appended in
    let part-4 = one_part whole c.push-3.new.self c.push_decimal.new.self (decimal c.args.x) rest-4 part-3 c.in_ok-push_decimal.ensures in
    let part-5 = one_part whole c.push_decimal.new.self c.push-4.new.self (codes "' width='") rest-5 part-4 c.in_ok-push-4.ensures.appended in
    let part-6 = one_part whole c.push-4.new.self c.push_decimal-2.new.self (decimal c.args.width) rest-6 part-5 c.in_ok-push_decimal-2.ensures in
    last_part c.push-5.result whole c.push_decimal-2.new.self c.push-5.new.self rest-6 part-6 c.push-5.ensures.appended
