use Rattle.std.proofs.Common.{◌∙◌, sym}
use Rattle.i3c_lines.specs.Parsing.{left_tokens}
use Rattle.i3c_lines.proofs.LineLaws.{token_left}
use Rattle.i3c_facts.proofs.MarkFaultLaws.{of_line}
use Rattle.i3c_facts.proofs.mark_faults.mark_fault.Goals as goal

pub returns-in_default : goal.returns-in_default
returns-in_default c begins = token_left c.args.line.now (sym c.of-tokens.ensures ∙ c.in_default.ensures)

pub returns : goal.returns
returns c = of_line c.args.line.now c.in-Some.first.now (left_tokens c.next.new.self) c.word_fault.result (sym c.of-tokens.ensures ∙ c.in-Some.ensures) c.word_fault.ensures
