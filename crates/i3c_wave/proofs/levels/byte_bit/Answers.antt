use Rattle.std.proofs.Common.{◌∙◌, [], ◌∷◌, ap, arith, sym}
use Rattle.std.specs.List.{slice_get}
use Rattle.i3c_wave.specs.Levels.{bits}
use Rattle.i3c_wave.proofs.LevelLaws.{behind_at, bits_alone}
use Rattle.i3c_wave.proofs.levels.byte_bit.Goals as goal

pub returns-then-index-eq-BYTE_BITS-clause-bit : goal.returns-then-index-eq-BYTE_BITS-clause-bit
returns-then-index-eq-BYTE_BITS-clause-bit c = sym (behind_at 8 c.args.byte (c.args.ninth ∷ []) c.args.index 0 (omega arith))

pub returns-else-index-eq-BYTE_BITS-clause-bit : goal.returns-else-index-eq-BYTE_BITS-clause-bit
returns-else-index-eq-BYTE_BITS-clause-bit c =
    c.number_bit.ensures.bit ∙ ap (λ n. slice_get (bits 8 n) c.args.index) c.from.ensures ∙ sym (bits_alone 8 c.args.byte (c.args.ninth ∷ []) c.args.index (λ past. omega (arith, past)))
