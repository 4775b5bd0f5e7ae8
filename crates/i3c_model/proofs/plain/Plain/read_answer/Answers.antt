use Rattle.std.proofs.Common.{◌≡◌, ◌+◌, length, take, option_map, ap, sym, ◌∙◌, arith}
use Rattle.std.proofs.lemmas.List.{length-take-le}
use Rattle.i3c_base.specs.Cutting.{lost_by}
use Rattle.i3c_model.proofs.Transfers.{first_together, read_left}
use Rattle.i3c_model.proofs.plain.Plain.read_answer.Goals as goal

pub returns-then-is_any_left_at-clause-lawful : goal.returns-then-is_any_left_at-clause-lawful
returns-then-is_any_left_at-clause-lawful c =
    let st = c.args.self.now in
    let at = c.args.at in
    let lost = lost_by c.args.cuts.now (c.args.begin + c.read_bits.result) in
    let count = c.transfer_length-count.result in
    let registers = c.registers_together-registers.result in
    let long : length (take count registers) ≡ count = length-take-le count registers (omega (arith, c.transfer_length-count.ensures.few, c.registers_together-registers.ensures.all)) in
    let left = read_left st at lost (take count registers) (sym c.target.ensures ∙ ap (option_map (λ t. t.now)) c.in_default.is) (c.is_any_left_at.ensures.0 c.if-is_any_left_at.true) (long ∙ c.transfer_length-count.ensures.same)
    (λ k l. first_together st at lost count registers c.registers_together-registers.ensures.together c.transfer_length-count.ensures.few k (omega (arith, l, long))) in
    rw c.new-then-is_any_left_at.ensures (rw (sym c.read_bits.ensures.same) left)
