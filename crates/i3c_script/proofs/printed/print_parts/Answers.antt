use Rattle.std.proofs.Common.{[], ◌∷◌, ◌++◌, ◌∙◌, ap, codes}
use Rattle.i3c_lines.specs.Naming.{letters}
use Rattle.i3c_script.specs.Printed.{registers_text}
use Rattle.i3c_script.proofs.Showing.{told_behind, told_both, told_on}
use Rattle.i3c_script.proofs.printed.print_parts.Goals as goal

pub returns : goal.returns
returns c =
    let r = c.end.result in
    let new = c.end.new.self in
    let kinds = c.args.kinds.now in
    let wish = c.args.wish.now in
    let told_wish = told_both r c.print_tokens.new.text c.print_tokens-2.new.text new (codes " wishes ") wish (10 ∷ []) c.in_ok-print_tokens-2.ensures c.end.ensures in
    let told_kinds = told_both r c.print_registers.new.text c.print_tokens.new.text new (codes " enabled ") kinds (codes " wishes " ++ (wish ++ 10 ∷ [])) c.in_ok-print_tokens.ensures told_wish in
    let rest = codes " enabled " ++ (kinds ++ (codes " wishes " ++ (wish ++ 10 ∷ []))) in
    let told_registers = told_on r c.push-2.new.self c.print_registers.new.text new (registers_text c.args.identity.now) rest c.in_ok-print_registers.ensures told_kinds in
    told_behind r c.args.text.now c.push.new.self c.push-2.new.self new (codes "device ") (letters c.args.name.now) (registers_text c.args.identity.now ++ rest) c.in_ok-push.ensures.appended (c.in_ok-push-2.ensures.appended ∙ ap (λ n. c.push.new.self ++ n) c.as_bytes.ensures) told_registers
