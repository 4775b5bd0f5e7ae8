use Rattle.std.proofs.Common.{◌∙◌, [], ◌∷◌, ap, arith, not, sym}
use Rattle.std.specs.List.{slice_get}
use Rattle.i3c_wave.specs.Levels.{bits}
use Rattle.i3c_wave.proofs.LevelLaws.{behind_at, bits_alone}
use Rattle.i3c_wave.proofs.levels.header_bit.Goals as goal

pub returns-then-index-eq-ADDRESS_BITS-clause-bit : goal.returns-then-index-eq-ADDRESS_BITS-clause-bit
returns-then-index-eq-ADDRESS_BITS-clause-bit c = sym (behind_at 7 c.args.address (c.args.read ∷ not c.args.ack ∷ []) c.args.index 0 (omega arith))

pub returns-then-index-clause-bit : goal.returns-then-index-clause-bit
returns-then-index-clause-bit c = sym (behind_at 7 c.args.address (c.args.read ∷ not c.args.ack ∷ []) c.args.index 1 (omega arith))

pub returns-else-index-clause-bit : goal.returns-else-index-clause-bit
returns-else-index-clause-bit c =
    c.number_bit.ensures.bit ∙ ap (λ n. slice_get (bits 7 n) c.args.index) c.from.ensures
    ∙ sym (bits_alone 7 c.args.address (c.args.read ∷ not c.args.ack ∷ []) c.args.index (λ past. omega (arith, past)))
