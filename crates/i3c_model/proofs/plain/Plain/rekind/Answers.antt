use Rattle.std.proofs.Common.{◌≡◌, ◌+◌, sym, refl, ◌∙◌, subst, arith}
use Rattle.i3c_base.specs.declared.answers.Answer.{Answer}
use Rattle.i3c_base.specs.Cutting.{lost_by}
use Rattle.i3c_base.specs.Frames.{Rekinds, changed_kinds, kinds_bits, rekinded}
use Rattle.i3c_base.specs.Numbers.{KindSet}
use Rattle.i3c_base.specs.Serve.{Frame, header_bits}
use Rattle.i3c_model.specs.Choosing.{ServesAsChosen}
use Rattle.i3c_model.proofs.Framing.{frame_of, rekinds_of, serves_keeps}
use Rattle.i3c_model.proofs.Taking.{rekind_follows}
use Rattle.i3c_model.proofs.plain.Plain.rekind.Goals.{in-Done, in_default}
use Rattle.i3c_model.proofs.plain.Plain.rekind.Goals as goal

pub returns : goal.returns
returns c =
    let old = c.args.self.now in
    let mid = c.serve_first.new.self in
    let done = c.match-answer.self in
    let to = c.args.to.now in
    let f : KindSet → KindSet = changed_kinds c.args.change c.args.kinds in
    let served = c.in_ok-served.served in
    let answer = c.answer_of-answer.result in
    let begin = c.word_bits.result + c.header_bits.result in
    let last = begin + c.kinds_bits.result in
    let serves = c.in_ok-served.ensures.serves in
    let header : c.header_bits.result ≡ header_bits served = c.header_bits.ensures.sent c.args.policy.now (lost_by c.args.cuts.now last) served mid serves in
    let bits : c.kinds_bits.result ≡ kinds_bits to answer = c.kinds_bits.ensures in
    let did : answer ≡ Answer.Done → done ≡ rekinded to f mid = λ e. elim c.match-answer.branch [
      | in-Done w ↦ w.self-is ∙ w.change_kinds.ensures
      | in_default w ↦ absurd (w.in_default.not-Done e)
    ] in
    let did_not : ¬ (answer ≡ Answer.Done) → done ≡ mid = λ no_done. elim c.match-answer.branch [
      | in-Done w ↦ absurd (no_done w.in-Done.is)
      | in_default w ↦ w.self-is
    ] in
    let own = rekinds_of to f answer c.args.cuts.now begin old mid done (serves_keeps old c.args.policy.now (lost_by c.args.cuts.now last) served mid serves) c.answer_of-answer.ensures.lawful did did_not in
    let frame : Frame old c.args.policy.now c.args.cuts.now served (header_bits served + kinds_bits to answer) (Rekinds to f answer) c.empty.new.self =
    frame_of old c.args.policy.now c.args.cuts.now served (header_bits served + kinds_bits to answer) c.word_bits.result last (Rekinds to f answer) mid done c.empty.new.self
    (omega (arith, header, bits)) (c.word_bits.ensures.sent (lost_by c.args.cuts.now last) served mid serves) serves
    (subst (λ n. Rekinds to f answer (lost_by c.args.cuts.now (begin + n)) mid done) (sym bits) own) c.empty.ensures in
    record {
      rekinds = (record { served = served; answer = answer }, refl, frame);
      unchanged = tt;
      memory = tt;
      chosen = rekind_follows old to f c.args.policy.now c.args.cuts.now c.args.choice served answer c.word_bits.result c.header_bits.result c.empty.new.self
          (subst (λ n. ServesAsChosen old c.args.policy.now (lost_by c.args.cuts.now (begin + n)) c.args.choice served) bits c.in_ok-served.ensures.chosen) c.answer_of-answer.ensures.chosen c.word_bits.ensures.sent
          (c.header_bits.ensures.sent c.args.policy.now) frame;
    }
