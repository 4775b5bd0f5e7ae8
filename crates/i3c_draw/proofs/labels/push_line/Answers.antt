use Rattle.std.proofs.Common.{◌++◌, ◌∷◌, [], refl}
use Rattle.std.specs.Prelude.{codes, decimal}
use Rattle.i3c_draw.specs.Escaped.{escaped}
use Rattle.i3c_draw.specs.Rows.{title_text}
use Rattle.i3c_draw.proofs.Appended.{last_part, one_part}
use Rattle.i3c_draw.proofs.labels.push_line.Goals as goal

pub returns : goal.returns
returns c =
    let old = c.args.text.now in
    let rest-8 = codes "</text></svg>" ++ 10 ∷ [] in
    let rest-7 = escaped c.args.line.now ++ rest-8 in
    let rest-6 = codes "<text y='12'>" ++ rest-7 in
    let rest-5 = title_text c.args.line.now ++ rest-6 in
    let rest-4 = codes "' height='16'>" ++ rest-5 in
    let rest-3 = decimal c.args.width ++ rest-4 in
    let rest-2 = codes "' width='" ++ rest-3 in
    let rest-1 = decimal c.args.y ++ rest-2 in
    let rest-0 = codes "<svg x='8' y='" ++ rest-1 in
    let whole = old ++ rest-0 in
    let part-1 = one_part whole old c.push.new.self (codes "<svg x='8' y='") rest-1 refl c.in_ok-push.ensures.appended in
    let part-2 = one_part whole c.push.new.self c.push_decimal.new.self (decimal c.args.y) rest-2 part-1 c.in_ok-push_decimal.ensures in
    let part-3 = one_part whole c.push_decimal.new.self c.push-2.new.self (codes "' width='") rest-3 part-2 c.in_ok-push-2.ensures.appended in
    let part-4 = one_part whole c.push-2.new.self c.push_decimal-2.new.self (decimal c.args.width) rest-4 part-3 c.in_ok-push_decimal-2.ensures in
    let part-5 = one_part whole c.push_decimal-2.new.self c.push-3.new.self (codes "' height='16'>") rest-5 part-4 c.in_ok-push-3.ensures.appended in
    let part-6 = one_part whole c.push-3.new.self c.push_title.new.text (title_text c.args.line.now) rest-6 part-5 c.in_ok-push_title.ensures in
    let part-7 = one_part whole c.push_title.new.text c.push-4.new.self (codes "<text y='12'>") rest-7 part-6 c.in_ok-push-4.ensures.appended in
    let part-8 = one_part whole c.push-4.new.self c.push_escaped.new.text (escaped c.args.line.now) rest-8 part-7 c.in_ok-push_escaped.ensures in
    last_part c.push-5.result whole c.push_escaped.new.text c.push-5.new.self rest-8 part-8 c.push-5.ensures.appended
