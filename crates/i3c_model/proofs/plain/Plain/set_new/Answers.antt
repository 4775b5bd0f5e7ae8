use Rattle.std.proofs.Common.{◌≡◌, ◌+◌, Some, false, sym, refl, ◌∙◌, subst, arith}
use Rattle.i3c_base.specs.declared.answers.Answer.{Answer}
use Rattle.i3c_base.specs.declared.range.TheConstants.{ADDRESSES}
use Rattle.i3c_base.specs.Cutting.{lost_by}
use Rattle.i3c_base.specs.Frames.{SetsNew, kinds_bits, moved}
use Rattle.i3c_base.specs.Serve.{Frame, header_bits}
use Rattle.i3c_step.proofs.Addresses.{settled_served}
use Rattle.i3c_model.specs.Choosing.{ServesAsChosen}
use Rattle.i3c_model.specs.Views.{IsTableIf, places_of}
use Rattle.i3c_model.proofs.Framing.{frame_of}
use Rattle.i3c_model.proofs.SettingLaws.{AllThereLost, AnyThere, DidNew, answers_left, answers_none, kinds_header, new_did, sets_follow, sets_of, there_lost_stays, there_stays}
use Rattle.i3c_model.proofs.Transfers.{Stay-serves}
use Rattle.i3c_model.proofs.plain.Plain.set_new.Goals.{in-Some, in_default}
use Rattle.i3c_model.proofs.plain.Plain.set_new.Goals as goal

pub returns : goal.returns
returns c =
    let was = c.args.self.now in
    let mid = c.serve_first.new.self in
    let done = c.match-table-2.self in
    let old = c.args.old in
    let new = c.args.new in
    let cuts = c.args.cuts.now in
    let served = c.in_ok-served.served in
    let answer = c.answer_of-answer.result in
    let begin = c.word_bits.result + c.header_bits.result in
    let last = begin + c.kinds_bits.result in
    let serves = c.in_ok-served.ensures.serves in
    let header : c.header_bits.result ≡ header_bits served = c.header_bits.ensures.sent c.args.policy.now (lost_by cuts last) served mid serves in
    let bits : c.kinds_bits.result ≡ kinds_bits (Some old) answer = c.kinds_bits.ensures in
    let known = c.in_ok-table.ensures.table in
    let after = moved old new was.given in
    let did : answer ≡ Answer.Done → DidNew old new mid done = λ e. elim c.match-table-2.branch [
      | in-Some w ↦ new_did was mid done old new w.in-Some.table (settled_served was c.args.policy.now (lost_by cuts last) served mid serves) (subst (IsTableIf answer after) w.in-Some.is known).1
          (w.self-is ∙ (w.replace_table.ensures ∙ (λ t. record (w.give_new.ensures t) { given = places_of ADDRESSES w.in-Some.table; listed = false })))
      | in_default w ↦ absurd (subst (IsTableIf answer after) w.in_default.is known e)
    ] in
    let did_not : ¬ (answer ≡ Answer.Done) → done ≡ mid = λ no_done. elim c.match-table-2.branch [
      | in-Some w ↦ absurd (no_done (subst (IsTableIf answer after) w.in-Some.is known).0)
      | in_default w ↦ w.self-is
    ] in
    let own = sets_of old (kinds_bits (Some old)) (kinds_header old) (AnyThere old) (AllThereLost old) (DidNew old new) (there_stays old) (there_lost_stays old) was mid done cuts begin answer (Stay-serves was c.args.policy.now (lost_by cuts last) served mid serves)
    c.answer_of-answer.ensures.lawful did did_not in
    let frame : Frame was c.args.policy.now cuts served (header_bits served + kinds_bits (Some old) answer) (SetsNew old new answer) c.empty.new.self =
    frame_of was c.args.policy.now cuts served (header_bits served + kinds_bits (Some old) answer) c.word_bits.result last (SetsNew old new answer) mid done c.empty.new.self
    (omega (arith, header, bits)) (c.word_bits.ensures.sent (lost_by cuts last) served mid serves) serves
    (subst (λ n. SetsNew old new answer (lost_by cuts (begin + n)) mid done) (sym bits) own) c.empty.ensures in
    record {
      sets = (record { served = served; answer = answer }, refl, frame);
      unchanged = tt;
      memory = tt;
      chosen = sets_follow old (kinds_bits (Some old)) (kinds_header old) (AnyThere old) (AllThereLost old) (DidNew old new) (there_stays old) (there_lost_stays old) was c.args.policy.now cuts c.args.choice served c.word_bits.result c.header_bits.result c.empty.new.self
          c.word_bits.ensures.sent (c.header_bits.ensures.sent c.args.policy.now) answer
          (subst (λ n. ServesAsChosen was c.args.policy.now (lost_by cuts (begin + n)) c.args.choice served) bits c.in_ok-served.ensures.chosen) frame
          (answers_left was old (lost_by cuts (begin + 18)) c.args.choice answer c.answer_of-answer.ensures.chosen)
          (answers_none was old (lost_by cuts (begin + 18)) c.args.choice answer c.answer_of-answer.ensures.chosen);
    }
