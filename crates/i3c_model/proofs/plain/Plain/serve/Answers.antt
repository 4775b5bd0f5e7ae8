use Rattle.std.proofs.Common.{refl, arith}
use Rattle.i3c_step.specs.Step.{Nothing}
use Rattle.i3c_base.specs.Cutting.{lost_by}
use Rattle.i3c_base.specs.Serve.{Frame}
use Rattle.i3c_model.proofs.Framing.{frame_of}
use Rattle.i3c_model.proofs.Taking.{serve_follows}
use Rattle.i3c_model.proofs.plain.Plain.serve.Goals as goal

pub returns : goal.returns
returns c =
    let old = c.args.self.now in
    let policy = c.args.policy.now in
    let cuts = c.args.cuts.now in
    let served = c.in_ok-served.served in
    let last = c.word_bits-last.result in
    let serves = c.in_ok-served.ensures.serves in
    let sent = c.word_bits-last.ensures.sent (lost_by cuts last) served c.serve_first.new.self serves in
    let frame : Frame old policy cuts served 0 Nothing c.empty.new.self =
    frame_of old policy cuts served 0 last last Nothing c.serve_first.new.self c.serve_first.new.self c.empty.new.self (omega arith) sent serves refl c.empty.ensures in
    record {
      frame = frame;
      unchanged = tt;
      memory = tt;
      chosen = serve_follows old policy cuts c.args.choice served last c.empty.new.self c.in_ok-served.ensures.chosen sent frame;
    }
