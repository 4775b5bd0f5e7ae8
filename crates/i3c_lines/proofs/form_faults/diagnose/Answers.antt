use Rattle.std.proofs.Common.{◌∙◌, sym}
use Rattle.i3c_lines.specs.Parsing.{left_tokens}
use Rattle.i3c_lines.proofs.FaultLaws.{line_so}
use Rattle.i3c_lines.proofs.LineLaws.{token_left}
use Rattle.i3c_lines.proofs.form_faults.diagnose.Goals as goal

pub unreachable-requires : goal.unreachable-requires
unreachable-requires c = token_left c.args.line.now (sym c.of-tokens.ensures ∙ c.in_default-next.ensures)

pub returns-then-is_token : goal.returns-then-is_token
returns-then-is_token c =
    line_so c.args.line.now c.in-Some-next.first.now (left_tokens c.next.new.self) c.as_misfit.result (sym c.of-tokens.ensures ∙ c.in-Some-next.ensures) c.as_misfit.ensures

pub returns-in-Some-shape_of : goal.returns-in-Some-shape_of
returns-in-Some-shape_of c =
    line_so c.args.line.now c.in-Some-next.first.now (left_tokens c.next.new.self) c.misfit.result (sym c.of-tokens.ensures ∙ c.in-Some-next.ensures) c.misfit.ensures
