use Rattle.i3c_base.specs.Cutting.{lost_by}
use Rattle.i3c_base.specs.Frames.{reset}
use Rattle.i3c_base.specs.Serve.{emptied}
use Rattle.std.proofs.Common.{◌+◌, ap, ◌∙◌}
use Rattle.i3c_model.proofs.Announcements.{announced}
use Rattle.i3c_model.proofs.plain.Plain.reset.Goals as goal

pub returns : goal.returns
returns c =
    let last = c.word_bits.result + c.header_bits.result + 9 in
    let both = announced c.args.self.now 9 reset c.args.policy.now c.args.cuts.now c.args.choice c.in_ok-served.served c.word_bits.result c.header_bits.result c.serve_first.new.self c.empty.new.self
    c.word_bits.ensures.sent (c.header_bits.ensures.sent c.args.policy.now) c.in_ok-served.ensures.serves c.in_ok-served.ensures.chosen (c.empty.ensures ∙ ap (emptied (lost_by c.args.cuts.now last)) c.clear.ensures) in
    record { announces = both.0; unchanged = tt; memory = tt; chosen = both.1 }
