use Rattle.std.proofs.Common.{◌≤◌, None, ◌<◌, arith, length, subst, sym}
use Rattle.std.proofs.lemmas.Grind.{common_steps}
use Rattle.std.specs.Option.{option_copied}
use Rattle.i3c_lines.specs.Parsing.{AreKept, Reads, tokens_in}
use Rattle.i3c_lines.proofs.Arguments.{no_written_line, written_line}
use Rattle.i3c_lines.proofs.command.parse_written.Goals as goal

pub returns-then-is_empty : goal.returns-then-is_empty
returns-then-is_empty c =
    let digits = c.in-Some.digits.now in
    let none : length digits ≤ 0 = grind (arith, common_steps) in
    subst (λ r. Reads AreKept (tokens_in (option_copied r)) None) (sym c.in-Some.is) (λ bytes. no_written_line digits (λ some. absurd (omega (arith, none, some))) bytes.items)

pub returns : goal.returns
returns c =
    let digits = c.in-Some.digits.now in
    let some : 0 < length digits = grind (arith, common_steps) in
    subst (λ r. Reads AreKept (tokens_in (option_copied r)) c.bytes.result) (sym c.in-Some.is) (written_line digits c.bytes.result some c.bytes.ensures.form.0 c.bytes.ensures.form.1 c.bytes.ensures.value)
