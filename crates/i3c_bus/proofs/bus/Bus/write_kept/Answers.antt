-- What is kept of a write is at most what an event has.
use Rattle.std.proofs.Common.{◌≡◌, ◌∙◌, ℕ, List, sym, take, subst}
use Rattle.std.proofs.lemmas.List.{take_all}
use Rattle.i3c_frame.specs.Taps.{Tells}
use Rattle.i3c_step.specs.Giving.{given_by}
use Rattle.i3c_step.specs.Replies.{wrote_reply}
use Rattle.i3c_step.specs.declared.events.Event.{Event}
use Rattle.i3c_step.specs.declared.replies.Reply.{Reply}
use Rattle.i3c_bus.specs.declared.hand.Hand.{Hand}
use Rattle.i3c_bus.specs.Calls.{Carries}
use Rattle.i3c_bus.proofs.bus.Bus.write_kept.Goals as goal

pub returns-clause-carried : goal.returns-clause-carried
returns-clause-carried g c =
    let whole : take 17 c.as_slice.result.now ≡ c.args.bytes.now.items = take_all 17 c.as_slice.result.now c.as_slice.ensures.fits ∙ c.as_slice.ensures.value in
    let carries : List ℕ → Reply → Type 0 = λ bs reply. Carries c.args.self.now c.write.new.self (Event.WriteTo c.args.to (record { items = bs }) (given_by reply) c.args.cuts.now) reply (Hand.Role c.args.role.now) (Tells g.T.Tap.note_gives c.args.tap.now c.write.new.tap) in
    subst (carries c.args.bytes.now.items) (sym c.from.ensures)
    (subst (λ (bs : List ℕ). carries bs (wrote_reply c.write.result)) whole c.write.ensures.carried)
