-- Sets with the same addresses are one number.
use Rattle.std.proofs.Common.{◌∙◌, ap, arith, sym}
use Rattle.std.proofs.lemmas.Bool.{eq-eqb, eqb-true}
use Rattle.i3c_base.specs.Sets.{is_in}
use Rattle.i3c_table.proofs.Same.{one_set}
use Rattle.i3c_table.proofs.rows.are_same.Goals as goal

pub returns : goal.returns
returns c = (
  λ t a. ap (λ set. is_in set a) (eqb-true c.args.set.0 c.args.other.0 (sym c.eq.ensures ∙ t)),
  λ same. c.eq.ensures ∙ eq-eqb c.args.set.0 c.args.other.0 (one_set c.args.set.0 c.args.other.0 (omega arith) (omega arith) same),
)
