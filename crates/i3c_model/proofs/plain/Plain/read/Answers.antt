use Rattle.std.proofs.Common.{◌≡◌, ℕ, ◌+◌, refl, sym, subst, arith}
use Rattle.i3c_base.specs.declared.answers.Answer.{Answer}
use Rattle.i3c_base.specs.Cutting.{lost_by}
use Rattle.i3c_base.specs.Frames.{Reads, read_bits}
use Rattle.i3c_base.specs.Serve.{Frame, header_bits}
use Rattle.i3c_model.specs.Choosing.{ServesAsChosen}
use Rattle.i3c_model.proofs.Framing.{frame_of}
use Rattle.i3c_model.proofs.Transfers.{Stay-serves, read_count, read_follows, reads_of}
use Rattle.i3c_model.proofs.plain.Plain.read.Goals as goal

pub returns : goal.returns
returns c =
    let old = c.args.self.now in
    let mid = c.serve_first.new.self in
    let served = c.in_ok-served.served in
    let answer : Answer = c.read_answer-answer.result in
    let count : ℕ = read_count old c.args.at in
    let begin = c.word_bits.result + c.header_bits.result in
    let last = begin + c.read_bits.result in
    let serves = c.in_ok-served.ensures.serves in
    let header : c.header_bits.result ≡ header_bits served = c.header_bits.ensures.sent c.args.policy.now (lost_by c.args.cuts.now last) served mid serves in
    let bits : c.read_bits.result ≡ read_bits count answer = c.read_bits.ensures.same in
    let own = reads_of old mid mid c.args.at c.args.cuts.now begin answer (Stay-serves old c.args.policy.now (lost_by c.args.cuts.now last) served mid serves) c.read_answer-answer.ensures.lawful refl in
    let frame : Frame old c.args.policy.now c.args.cuts.now served (header_bits served + read_bits count answer) (Reads c.args.at answer) c.empty.new.self =
    frame_of old c.args.policy.now c.args.cuts.now served (header_bits served + read_bits count answer) c.word_bits.result last (Reads c.args.at answer) mid mid c.empty.new.self
    (omega (arith, header, bits)) (c.word_bits.ensures.sent (lost_by c.args.cuts.now last) served mid serves) serves
    (subst (λ n. Reads c.args.at answer (lost_by c.args.cuts.now (begin + n)) mid mid) (sym bits) own) c.empty.ensures in
    record {
      reads = (record { served = served; answer = answer }, refl, frame);
      unchanged = tt;
      memory = tt;
      chosen = read_follows old c.args.at c.args.policy.now c.args.cuts.now c.args.choice served c.word_bits.result c.header_bits.result c.empty.new.self c.word_bits.ensures.sent
          (c.header_bits.ensures.sent c.args.policy.now) answer
          (subst (λ n. ServesAsChosen old c.args.policy.now (lost_by c.args.cuts.now (begin + n)) c.args.choice served) bits c.in_ok-served.ensures.chosen) frame c.read_answer-answer.ensures.lawful
          c.read_answer-answer.ensures.chosen;
    }
