use Rattle.std.proofs.Common.{rules, refl, inl}
use Rattle.i3c_model.proofs.Offering.{heir_absent, none_willing}
use Rattle.i3c_model.proofs.plain.Plain.declined_bits.Goals as goal

pub returns-then-is_none-2 : goal.returns-then-is_none-2
returns-then-is_none-2 c =
    let absent = heir_absent c.args.self.now c.args.to _ c.heir-2.result (search rules) c.heir-2.ensures in
    let none = none_willing c.args.self.now c.args.to c.new-uncut.result c.args.header_end c.new-uncut.ensures.uncut absent in
    inl (refl, (λ s w. absurd (none s w)), λ ne. none)
