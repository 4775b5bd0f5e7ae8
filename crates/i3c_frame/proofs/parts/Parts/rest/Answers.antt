use Rattle.std.proofs.Common.{sym, ◌∙◌}
use Rattle.i3c_frame.proofs.PartLaws.{parts_past_first}
use Rattle.i3c_frame.proofs.parts.Parts.rest.Goals as goal

pub returns-in-len1-up : goal.returns-in-len1-up
returns-in-len1-up c = parts_past_first c.args.self.now.text.now c.in-len1-up.len_at_least (sym c.parts_symbols.ensures ∙ c.if-parts_symbols.true)
