use Rattle.std.proofs.Common.{◌++◌, ◌∷◌, [], true, refl}
use Rattle.std.specs.Prelude.{codes, decimal}
use Rattle.i3c_draw.specs.Rows.{printed_lines, title_text}
use Rattle.i3c_draw.proofs.Appended.{last_part, one_part}
use Rattle.i3c_draw.proofs.labels.push_printed.Goals as goal

pub returns : goal.returns
returns c =
    let old = c.args.text.now in
    let rest-5 = codes "</text>" ++ 10 ∷ [] in
    let rest-4 = printed_lines true c.args.printed.now ++ rest-5 in
    let rest-3 = title_text c.args.printed.now ++ rest-4 in
    let rest-2 = codes ")' y='-2'>" ++ rest-3 in
    let rest-1 = decimal c.args.y ++ rest-2 in
    let rest-0 = codes "<text transform='translate(940," ++ rest-1 in
    let whole = old ++ rest-0 in
    let part-1 = one_part whole old c.push.new.self (codes "<text transform='translate(940,") rest-1 refl c.in_ok-push.ensures.appended in
    let part-2 = one_part whole c.push.new.self c.push_decimal.new.self (decimal c.args.y) rest-2 part-1 c.in_ok-push_decimal.ensures in
    let part-3 = one_part whole c.push_decimal.new.self c.push-2.new.self (codes ")' y='-2'>") rest-3 part-2 c.in_ok-push-2.ensures.appended in
    let part-4 = one_part whole c.push-2.new.self c.push_title.new.text (title_text c.args.printed.now) rest-4 part-3 c.in_ok-push_title.ensures in
    let part-5 = one_part whole c.push_title.new.text c.push_printed_lines.new.text (printed_lines true c.args.printed.now) rest-5 part-4 c.in_ok-push_printed_lines.ensures in
    last_part c.push-3.result whole c.push_printed_lines.new.text c.push-3.new.self rest-5 part-5 c.push-3.ensures.appended
