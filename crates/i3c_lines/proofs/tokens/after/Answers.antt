use Rattle.std.proofs.Common.{◌∙◌, ◌-◌, ◌++◌, ap, arith, drop, length, length-drop, sym}
use Rattle.std.proofs.lemmas.List.{take_all}
use Rattle.i3c_lines.proofs.tokens.after.Goals as goal

pub returns-then-begins : goal.returns-then-begins
returns-then-begins c =
    let text = c.args.text.now in
    let start = c.args.start.now in
    c.begins.ensures.begins c.if-begins.true ∙ ap (λ rest. start ++ rest) (sym (take_all (length text - length start) (drop (length start) text) (omega (arith, length-drop (length start) text))))

pub returns-else-begins : goal.returns-else-begins
returns-else-begins c = c.begins.ensures.differs c.if-begins.false
