use Rattle.std.proofs.Common.{◌≡◌, ◌+◌, refl, sym, subst, arith, ◌∙◌}
use Rattle.i3c_base.specs.Cutting.{lost_by}
use Rattle.i3c_base.specs.Frames.{Gets, get_bits}
use Rattle.i3c_base.specs.Serve.{Frame, header_bits}
use Rattle.i3c_base.specs.State.{entry_at}
use Rattle.i3c_model.specs.Choosing.{ServesAsChosen}
use Rattle.i3c_model.specs.Meaning.{Tells}
use Rattle.i3c_model.proofs.Framing.{frame_of}
use Rattle.i3c_model.proofs.Told.{gets_follow, gets_of, tells_chosen, told_bits}
use Rattle.i3c_model.proofs.Transfers.{Stay-serves}
use Rattle.i3c_model.proofs.plain.Plain.get_datum.Goals as goal

pub returns : goal.returns
returns c =
    let old = c.args.self.now in
    let what = c.args.what in
    let at = c.args.at in
    let cuts = c.args.cuts.now in
    let entry = entry_at old at in
    let mid = c.serve_first.new.self in
    let served = c.in_ok-served.served in
    let acked = c.answer_of-header.result in
    let answer = c.told_answer-answer.result in
    let begin = c.word_bits.result + c.header_bits.result in
    let last = begin + c.get_bits.result in
    let serves = c.in_ok-served.ensures.serves in
    let stay = Stay-serves old c.args.policy.now (lost_by cuts last) served mid serves in
    let header : c.header_bits.result ≡ header_bits served = c.header_bits.ensures.sent c.args.policy.now (lost_by cuts last) served mid serves in
    let bits : c.get_bits.result ≡ get_bits what entry answer = c.get_bits.ensures.same ∙ told_bits mid what at (lost_by cuts last) entry acked answer c.told_answer-answer.ensures in
    let tells = subst (λ n. Tells mid what at (lost_by cuts (begin + n)) acked answer) bits c.told_answer-answer.ensures in
    let own = gets_of old mid what at entry cuts begin acked answer stay c.answer_of-header.ensures.lawful tells in
    let frame : Frame old c.args.policy.now cuts served (header_bits served + get_bits what entry answer) (Gets what at answer) c.empty.new.self =
    frame_of old c.args.policy.now cuts served (header_bits served + get_bits what entry answer) c.word_bits.result last (Gets what at answer) mid mid c.empty.new.self
    (omega (arith, header, bits)) (c.word_bits.ensures.sent (lost_by cuts last) served mid serves) serves
    (subst (λ n. Gets what at answer (lost_by cuts (begin + n)) mid mid) (sym bits) own) c.empty.ensures in
    record {
      gets = (record { served = served; answer = answer }, refl, frame);
      unchanged = tt;
      memory = tt;
      chosen = gets_follow old what at c.args.policy.now cuts c.args.choice served c.word_bits.result c.header_bits.result c.empty.new.self c.word_bits.ensures.sent
          (c.header_bits.ensures.sent c.args.policy.now) answer
          (subst (λ n. ServesAsChosen old c.args.policy.now (lost_by cuts (begin + n)) c.args.choice served) bits c.in_ok-served.ensures.chosen) frame mid stay own
          (tells_chosen old mid what at (lost_by cuts (begin + 18)) (lost_by cuts last) c.args.choice acked answer c.answer_of-header.ensures.lawful c.answer_of-header.ensures.chosen c.told_answer-answer.ensures);
    }
