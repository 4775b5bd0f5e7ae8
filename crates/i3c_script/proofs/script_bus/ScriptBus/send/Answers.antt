-- The policy that an event carries is asked as itself.
use Rattle.std.proofs.Common.{◌≡◌, subst}
use Rattle.i3c_log_laws.specs.Behind.{reply_from}
use Rattle.i3c_script.specs.Hearing.{Hears}
use Rattle.i3c_script.specs.Pieces.{frame_subject}
use Rattle.i3c_script.specs.Telling.{IsTold}
use Rattle.i3c_bus.proofs.Agreeing.{carried_asked}
use Rattle.i3c_script.proofs.Moving.{sent, sent_by}
use Rattle.i3c_script.proofs.script_bus.ScriptBus.send.Goals as goal

pub returns : goal.returns
returns g c =
    let heard = g.L.Listener.heard in
    let kept = g.P.Past.kept in
    let at = c.self.inside in
    let reply = c.command_into.new.reply in
    let fixed = c.accepted-accepted.result in
    let counted : c.count_from.new.reply ≡ reply_from at.settings.forgotten reply = c.in_ok-count_from.ensures in
    let told : Hears heard (IsTold (frame_subject c.args.frame.now) (reply_from at.settings.forgotten reply)) c.args.listener.now c.answer_frame.new.listener c.answer_frame.result =
    subst (λ r. Hears heard (IsTold (frame_subject c.args.frame.now) r) c.args.listener.now c.answer_frame.new.listener c.answer_frame.result) counted c.answer_frame.ensures in
    let carried = carried_asked c.args.frame.now at.bus c.command_into.new.self fixed c.command_into.new.policy at.cuts reply c.in-Some.hand _ c.command_into.ensures.asks c.command_into.ensures.carried in
    rw (← c.self.view_is) (sent kept heard at.bus.state c.command_into.new.self.state at.settings fixed at.cuts c.clear.new.self at.past c.command_into.new.tap c.args.frame.now reply c.args.listener.now c.answer_frame.new.listener c.answer_frame.result
    c.accepted-accepted.ensures c.clear.ensures.none carried.step (sent_by kept g.P.Tap.note_gives g.met.P.Past.noted at.past c.command_into.new.tap _ carried.told) told)
