use Rattle.std.proofs.Common.{◌∙◌, inl, refl, sym}
use Rattle.i3c_program.proofs.Newest.{no_line}
use Rattle.i3c_program.proofs.selection.Drawing.choose.Goals as goal

pub returns-then-ways-eq0 : goal.returns-then-ways-eq0
returns-then-ways-eq0 g c = (refl, inl (sym c.choices.ensures ∙ no_line c.choices.result.now (sym c.ways_in-ways.ensures ∙ c.if-ways-eq0.true), refl, refl))
