use Rattle.std.proofs.Common.{◌+◌, subst, true, ◌∙◌}
use Rattle.i3c_base.specs.declared.answers.Answer.{Answer}
use Rattle.i3c_base.specs.Cutting.{lost_by}
use Rattle.i3c_base.specs.Frames.{list}
use Rattle.i3c_base.specs.Serve.{emptied}
use Rattle.i3c_step.specs.declared.replies.Reply.{Reply}
use Rattle.i3c_step.specs.Step.{Announces}
use Rattle.i3c_model.specs.Choosing.{Follows}
use Rattle.i3c_model.proofs.Announcements.{announced}
use Rattle.i3c_model.proofs.plain.Plain.send_list.Goals as goal

pub returns : goal.returns
returns c =
    let last = c.word_bits.result + c.header_bits.result + c.list_bits.result in
    let both = announced c.args.self.now c.list_bits.result list c.args.policy.now c.args.cuts.now c.args.choice c.in_ok-served.served c.word_bits.result c.header_bits.result c.serve_first.new.self c.empty.new.self
    c.word_bits.ensures.sent (c.header_bits.ensures.sent c.args.policy.now) c.in_ok-served.ensures.serves c.in_ok-served.ensures.chosen (c.empty.ensures ∙ (λ t. emptied (lost_by c.args.cuts.now last) (record (c.self.view_is t) { listed = true }))) in
    let reply : Reply = Reply.Framed (record { served = c.in_ok-served.served; answer = Answer.Done }) in
    let all = subst (λ n. Announces c.args.self.now n list c.args.policy.now c.args.cuts.now reply c.empty.new.self × Follows (Announces c.args.self.now n list c.args.policy.now c.args.cuts.now) c.args.choice reply) c.list_bits.ensures.same both in
    record { announces = all.0; unchanged = tt; memory = tt; chosen = all.1 }
