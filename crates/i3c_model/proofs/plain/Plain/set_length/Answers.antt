use Rattle.std.proofs.Common.{◌≡◌, ◌+◌, sym, refl, ◌∙◌, subst, arith}
use Rattle.i3c_base.specs.declared.answers.Answer.{Answer}
use Rattle.i3c_base.specs.Cutting.{lost_by}
use Rattle.i3c_base.specs.Frames.{SetsLength, length_bits, with_length}
use Rattle.i3c_base.specs.Serve.{Frame, header_bits}
use Rattle.i3c_model.specs.Choosing.{ServesAsChosen}
use Rattle.i3c_model.proofs.Framing.{frame_of}
use Rattle.i3c_model.proofs.LengthLaws.{lengths_follow, lengths_of}
use Rattle.i3c_model.proofs.Transfers.{Stay-serves}
use Rattle.i3c_model.proofs.plain.Plain.set_length.Goals.{in-Done, in_default}
use Rattle.i3c_model.proofs.plain.Plain.set_length.Goals as goal

pub returns : goal.returns
returns c =
    let old = c.args.self.now in
    let mid = c.serve_first.new.self in
    let done = c.match-answer.self in
    let to = c.args.to.now in
    let way = c.args.way in
    let most = c.args.most in
    let cuts = c.args.cuts.now in
    let served = c.in_ok-served.served in
    let answer = c.answer_of-answer.result in
    let begin = c.word_bits.result + c.header_bits.result in
    let last = begin + c.length_bits.result in
    let serves = c.in_ok-served.ensures.serves in
    let stay = Stay-serves old c.args.policy.now (lost_by cuts last) served mid serves in
    let header : c.header_bits.result ≡ header_bits served = c.header_bits.ensures.sent c.args.policy.now (lost_by cuts last) served mid serves in
    let bits : c.length_bits.result ≡ length_bits to answer = c.length_bits.ensures in
    let did : answer ≡ Answer.Done → done ≡ with_length to way most mid = λ e. elim c.match-answer.branch [
      | in-Done w ↦ w.self-is ∙ w.limit.ensures
      | in_default w ↦ absurd (w.in_default.not-Done e)
    ] in
    let did_not : ¬ (answer ≡ Answer.Done) → done ≡ mid = λ no_done. elim c.match-answer.branch [
      | in-Done w ↦ absurd (no_done w.in-Done.is)
      | in_default w ↦ w.self-is
    ] in
    let own = lengths_of to way most old mid done cuts begin answer stay c.answer_of-answer.ensures.lawful did did_not in
    let frame : Frame old c.args.policy.now cuts served (header_bits served + length_bits to answer) (SetsLength to way most answer) c.empty.new.self =
    frame_of old c.args.policy.now cuts served (header_bits served + length_bits to answer) c.word_bits.result last (SetsLength to way most answer) mid done c.empty.new.self
    (omega (arith, header, bits)) (c.word_bits.ensures.sent (lost_by cuts last) served mid serves) serves
    (subst (λ n. SetsLength to way most answer (lost_by cuts (begin + n)) mid done) (sym bits) own) c.empty.ensures in
    record {
      sets = (record { served = served; answer = answer }, refl, frame);
      unchanged = tt;
      memory = tt;
      chosen = lengths_follow way most old c.args.policy.now cuts c.args.choice served c.word_bits.result c.header_bits.result c.empty.new.self c.word_bits.ensures.sent
          (c.header_bits.ensures.sent c.args.policy.now) to answer
          (subst (λ n. ServesAsChosen old c.args.policy.now (lost_by cuts (begin + n)) c.args.choice served) bits c.in_ok-served.ensures.chosen) frame c.answer_of-answer.ensures.chosen;
    }
