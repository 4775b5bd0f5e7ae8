-- One number is of one list of bytes.
use Rattle.std.proofs.Common.{◌∙◌, ap, sym}
use Rattle.std.specs.Int.{from_le_bytes, w32}
use Rattle.std.proofs.lemmas.Bool.{eq-eqb, eqb-true}
use Rattle.i3c_table.specs.RegisterBytes.{register_bytes}
use Rattle.i3c_table.proofs.RegisterByteLaws.{one_number}
use Rattle.i3c_table.proofs.registers.Registers.is_same.Goals as goal

pub returns : goal.returns
returns c = (
  λ t. one_number c.args.self.now c.args.other.now c.number.result c.number-2.result c.number.ensures.ranged c.number-2.ensures.ranged c.number.ensures.same c.number-2.ensures.same (eqb-true _ _ t),
  λ same. eq-eqb _ _ (c.number.ensures.same ∙ (ap (λ r. from_le_bytes w32 (register_bytes r)) same ∙ sym c.number-2.ensures.same)),
)
