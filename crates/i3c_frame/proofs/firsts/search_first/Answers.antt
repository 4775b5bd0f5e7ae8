use Rattle.std.proofs.Common.{ap, sym, ◌∙◌}
use Rattle.i3c_frame.specs.Parts.{parts}
use Rattle.i3c_frame.proofs.firsts.search_first.Goals as goal

pub returns-in-None : goal.returns-in-None
returns-in-None c = (
  c.in_ok-part.part.now,
  parts c.next.new.self.text.now,
  ap parts (sym c.new-parts.ensures) ∙ c.in_ok-part.ensures.steps,
  λ symbol range e. let some = c.in-None.ensures.every symbol range e in cc,
)
