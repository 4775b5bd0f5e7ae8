use Rattle.std.proofs.Common.{◌≡◌, ◌≢◌, ◌+◌, slice_set, refl, sym, ap, ◌∙◌, subst, arith}
use Rattle.i3c_base.specs.declared.answers.Answer.{Answer}
use Rattle.i3c_base.specs.Cutting.{lost_by}
use Rattle.i3c_base.specs.Frames.{Writes, legacy_written, write_bits, written}
use Rattle.i3c_base.specs.State.{State, legacy_target_at}
use Rattle.i3c_base.specs.Serve.{Frame, header_bits}
use Rattle.i3c_model.specs.Choosing.{ServesAsChosen}
use Rattle.i3c_model.proofs.Framing.{frame_of}
use Rattle.i3c_model.proofs.Transfers.{Stay-serves, write_follows, writes_of}
use Rattle.i3c_model.proofs.plain.Plain.write.Goals.{in-Done, in_default}
use Rattle.i3c_model.proofs.plain.Plain.write.Goals as goal

pub returns : goal.returns
returns c =
    let old = c.args.self.now in
    let mid = c.serve_first.new.self in
    let done = c.match-answer.self in
    let bytes = c.args.bytes.now in
    let served = c.in_ok-served.served in
    let answer = c.write_answer-answer.result in
    let begin = c.word_bits.result + c.header_bits.result in
    let last = begin + c.write_bits.result in
    let serves = c.in_ok-served.ensures.serves in
    let header : c.header_bits.result ≡ header_bits served = c.header_bits.ensures.sent c.args.policy.now (lost_by c.args.cuts.now last) served mid serves in
    let bits : c.write_bits.result ≡ write_bits bytes answer = c.write_bits.ensures in
    let did : answer ≡ Answer.Done → done ≡ written c.args.at bytes mid = λ e. elim c.match-answer.branch [
      | in-Done w ↦ w.self-is ∙ (w.overwrite_target.ensures ∙ ap (λ (st : State). record st { legacy = slice_set st.legacy c.args.at (legacy_written bytes (legacy_target_at st c.args.at)) }) w.overwrite_devices.ensures)
      | in_default w ↦ absurd (w.in_default.not-Done e)
    ] in
    let did_not : answer ≢ Answer.Done → done ≡ mid = λ no_done. elim c.match-answer.branch [
      | in-Done w ↦ absurd (no_done w.in-Done.is)
      | in_default w ↦ w.self-is
    ] in
    let own = writes_of old mid done c.args.at bytes c.args.cuts.now begin answer (Stay-serves old c.args.policy.now (lost_by c.args.cuts.now last) served mid serves) c.write_answer-answer.ensures.lawful did did_not in
    let frame : Frame old c.args.policy.now c.args.cuts.now served (header_bits served + write_bits bytes answer) (Writes c.args.at bytes answer) c.empty.new.self =
    frame_of old c.args.policy.now c.args.cuts.now served (header_bits served + write_bits bytes answer) c.word_bits.result last (Writes c.args.at bytes answer) mid done c.empty.new.self
    (omega (arith, header, bits)) (c.word_bits.ensures.sent (lost_by c.args.cuts.now last) served mid serves) serves
    (subst (λ n. Writes c.args.at bytes answer (lost_by c.args.cuts.now (begin + n)) mid done) (sym bits) own) c.empty.ensures in
    record {
      writes = (record { served = served; answer = answer }, refl, frame);
      unchanged = tt;
      memory = tt;
      chosen = write_follows old c.args.at bytes c.args.policy.now c.args.cuts.now c.args.choice served c.word_bits.result c.header_bits.result c.empty.new.self c.word_bits.ensures.sent
          (c.header_bits.ensures.sent c.args.policy.now) answer
          (subst (λ n. ServesAsChosen old c.args.policy.now (lost_by c.args.cuts.now (begin + n)) c.args.choice served) bits c.in_ok-served.ensures.chosen) frame c.write_answer-answer.ensures.lawful
          c.write_answer-answer.ensures.chosen;
    }
