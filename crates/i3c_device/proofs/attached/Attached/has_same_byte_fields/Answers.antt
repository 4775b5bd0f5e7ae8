-- One number is of one list of bytes.
use Rattle.std.proofs.Common.{ap, sym, ◌∙◌}
use Rattle.std.specs.Int.{from_le_bytes, w64}
use Rattle.std.proofs.lemmas.Bool.{eq-eqb, eqb-true}
use Rattle.i3c_device.proofs.ByteFieldLaws.{fields_alike, same_byte_fields}
use Rattle.i3c_device.proofs.attached.Attached.has_same_byte_fields.Goals as goal

pub returns : goal.returns
returns c = (
  λ t. same_byte_fields c.args.self.now c.args.other.now c.byte_fields.result c.byte_fields-2.result c.byte_fields.ensures.ranged c.byte_fields-2.ensures.ranged c.byte_fields.ensures.number c.byte_fields-2.ensures.number (eqb-true _ _ t),
  λ same. eq-eqb _ _ (c.byte_fields.ensures.number ∙ (ap (from_le_bytes w64) (fields_alike c.args.self.now c.args.other.now same) ∙ sym c.byte_fields-2.ensures.number)),
)
