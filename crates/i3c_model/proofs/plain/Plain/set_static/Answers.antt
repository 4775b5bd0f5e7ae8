use Rattle.std.proofs.Common.{◌≡◌, ◌+◌, Some, false, sym, refl, ◌∙◌, subst, arith}
use Rattle.i3c_base.specs.declared.answers.Answer.{Answer}
use Rattle.i3c_base.specs.declared.range.TheConstants.{ADDRESSES}
use Rattle.i3c_base.specs.Cutting.{lost_by}
use Rattle.i3c_base.specs.Frames.{SetsStatic, kinds_bits, settled}
use Rattle.i3c_base.specs.Serve.{Frame, header_bits}
use Rattle.i3c_step.proofs.Addresses.{settled_served}
use Rattle.i3c_model.specs.Choosing.{ServesAsChosen}
use Rattle.i3c_model.specs.Views.{IsTableIf, places_of}
use Rattle.i3c_model.proofs.Framing.{frame_of}
use Rattle.i3c_model.proofs.SettingLaws.{AllBareLost, AnyBare, DidStatic, bare_lost_stays, bare_stays, kinds_header, sets_follow, sets_of, static_did, takes_left, takes_none}
use Rattle.i3c_model.proofs.Transfers.{Stay-serves}
use Rattle.i3c_model.proofs.plain.Plain.set_static.Goals.{in-Some, in_default}
use Rattle.i3c_model.proofs.plain.Plain.set_static.Goals as goal

pub returns : goal.returns
returns c =
    let old = c.args.self.now in
    let mid = c.serve_first.new.self in
    let done = c.match-table-2.self in
    let f = c.args.fixed in
    let new = c.args.new in
    let cuts = c.args.cuts.now in
    let served = c.in_ok-served.served in
    let answer = c.static_answer-answer.result in
    let begin = c.word_bits.result + c.header_bits.result in
    let last = begin + c.kinds_bits.result in
    let serves = c.in_ok-served.ensures.serves in
    let header : c.header_bits.result ≡ header_bits served = c.header_bits.ensures.sent c.args.policy.now (lost_by cuts last) served mid serves in
    let bits : c.kinds_bits.result ≡ kinds_bits (Some f) answer = c.kinds_bits.ensures in
    let known = c.in_ok-table.ensures.table in
    let after = settled old.declared known.0 new old.given in
    let did : answer ≡ Answer.Done → DidStatic f new mid done = λ e. elim c.match-table-2.branch [
      | in-Some w ↦ static_did old mid done f new known.0 w.in-Some.table (settled_served old c.args.policy.now (lost_by cuts last) served mid serves) known.1 (subst (IsTableIf answer after) w.in-Some.is known.2).1
          (w.self-is ∙ (w.replace_table.ensures ∙ (λ t. record (w.give_static.ensures t) { given = places_of ADDRESSES w.in-Some.table; listed = false })))
      | in_default w ↦ absurd (subst (IsTableIf answer after) w.in_default.is known.2 e)
    ] in
    let did_not : ¬ (answer ≡ Answer.Done) → done ≡ mid = λ no_done. elim c.match-table-2.branch [
      | in-Some w ↦ absurd (no_done (subst (IsTableIf answer after) w.in-Some.is known.2).0)
      | in_default w ↦ w.self-is
    ] in
    let own = sets_of f (kinds_bits (Some f)) (kinds_header f) (AnyBare f) (AllBareLost f) (DidStatic f new) (bare_stays f) (bare_lost_stays f) old mid done cuts begin answer (Stay-serves old c.args.policy.now (lost_by cuts last) served mid serves)
    c.static_answer-answer.ensures.lawful did did_not in
    let frame : Frame old c.args.policy.now cuts served (header_bits served + kinds_bits (Some f) answer) (SetsStatic f new answer) c.empty.new.self =
    frame_of old c.args.policy.now cuts served (header_bits served + kinds_bits (Some f) answer) c.word_bits.result last (SetsStatic f new answer) mid done c.empty.new.self
    (omega (arith, header, bits)) (c.word_bits.ensures.sent (lost_by cuts last) served mid serves) serves
    (subst (λ n. SetsStatic f new answer (lost_by cuts (begin + n)) mid done) (sym bits) own) c.empty.ensures in
    record {
      sets = (record { served = served; answer = answer }, refl, frame);
      unchanged = tt;
      memory = tt;
      chosen = sets_follow f (kinds_bits (Some f)) (kinds_header f) (AnyBare f) (AllBareLost f) (DidStatic f new) (bare_stays f) (bare_lost_stays f) old c.args.policy.now cuts c.args.choice served c.word_bits.result c.header_bits.result c.empty.new.self
          c.word_bits.ensures.sent (c.header_bits.ensures.sent c.args.policy.now) answer
          (subst (λ n. ServesAsChosen old c.args.policy.now (lost_by cuts (begin + n)) c.args.choice served) bits c.in_ok-served.ensures.chosen) frame
          (takes_left old f (lost_by cuts (begin + 18)) c.args.choice answer c.static_answer-answer.ensures.chosen)
          (takes_none old f (lost_by cuts (begin + 18)) c.args.choice answer c.static_answer-answer.ensures.chosen);
    }
