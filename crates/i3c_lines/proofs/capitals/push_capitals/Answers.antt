use Rattle.std.proofs.Common.{◌∙◌, sym}
use Rattle.i3c_lines.proofs.LineLaws.{token_left}
use Rattle.i3c_lines.proofs.capitals.push_capitals.Goals as goal

pub unreachable-requires : goal.unreachable-requires
unreachable-requires c = token_left c.args.line.now (sym c.of-tokens.ensures ∙ c.in_default.ensures)
