use Rattle.std.proofs.Common.{ap, ◌∙◌, ◌+◌}
use Rattle.i3c_base.specs.Cutting.{lost_by}
use Rattle.i3c_base.specs.Serve.{emptied}
use Rattle.i3c_model.proofs.Offering.{declined_acts, declined_as, declined_follows, granted_acts, granted_as, granted_follows}
use Rattle.i3c_model.proofs.plain.Plain.hand_over.Goals as goal

pub returns-in-Some : goal.returns-in-Some
returns-in-Some c =
    let left = c.empty.ensures ∙ ap (emptied (lost_by c.args.cuts.now (c.header_bits-begin.result + 27))) c.give_role.ensures in
    record {
      acts = granted_acts c.args.self.now c.args.to c.args.cuts.now c.args.choice c.header_bits-begin.result c.header_bits-begin.ensures.sent c.refuse_first-served.result c.refuse_first-served.ensures.serves c.refuse_first-served.ensures.sent c.in-Some.slot c.in-Some.ensures c.empty.new.self left;
      chosen = granted_follows c.args.self.now c.args.to c.args.cuts.now c.args.choice c.header_bits-begin.result c.header_bits-begin.ensures.sent c.refuse_first-served.result c.refuse_first-served.ensures.serves c.refuse_first-served.ensures.sent c.in-Some.slot c.in-Some.ensures c.empty.new.self left;
      handed = granted_as c.args.self.now c.args.to c.args.cuts.now c.args.choice c.header_bits-begin.result c.header_bits-begin.ensures.sent c.refuse_first-served.result c.refuse_first-served.ensures.serves c.refuse_first-served.ensures.sent c.in-Some.slot c.in-Some.ensures c.empty.new.self left;
    }

pub returns : goal.returns
returns c = record {
  acts = declined_acts c.args.self.now c.args.to c.args.cuts.now c.args.choice c.header_bits-begin.result c.header_bits-begin.ensures.sent c.refuse_first-served.result c.refuse_first-served.ensures.serves c.refuse_first-served.ensures.sent c.declined_bits-bits.result c.in_default.ensures c.declined_bits-bits.ensures c.empty-2.new.self c.empty-2.ensures;
  chosen = declined_follows c.args.self.now c.args.to c.args.cuts.now c.args.choice c.header_bits-begin.result c.header_bits-begin.ensures.sent c.refuse_first-served.result c.refuse_first-served.ensures.serves c.refuse_first-served.ensures.sent c.declined_bits-bits.result c.in_default.ensures c.declined_bits-bits.ensures c.empty-2.new.self c.empty-2.ensures;
  handed = declined_as c.args.self.now c.args.to c.args.cuts.now c.args.choice c.header_bits-begin.result c.header_bits-begin.ensures.sent c.refuse_first-served.result c.refuse_first-served.ensures.serves c.refuse_first-served.ensures.sent c.declined_bits-bits.result c.in_default.ensures c.declined_bits-bits.ensures c.empty-2.new.self c.empty-2.ensures;
}
