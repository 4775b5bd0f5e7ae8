-- A program's line is obeyed, and what is told behind it is told.
use Rattle.std.proofs.Common.{◌∙◌, List, Option, ap, length, ◌+◌, ℕ}
use Rattle.i3c_base.specs.State.{State}
use Rattle.i3c_lines.specs.declared.refusals.Refusal.{Refusal}
use Rattle.i3c_script.specs.declared.piece.Piece.{Piece}
use Rattle.i3c_scene.specs.Trying.{DoesIn}
use Rattle.i3c_scene.proofs.Replied.{listed_so, reply_told}
use Rattle.i3c_scene.proofs.scene_bus.SceneBus.reply.Goals as goal

pub returns : goal.returns
returns c =
    let rules = c.args.rules.now in
    let old = c.args.self.now in
    let command = c.args.command.now in
    let live = c.obey_in-outcome.new.self in
    let pieces = c.obey_in-outcome.new.listener in
    let does = listed_so (λ (ps : List Piece) (refused : Option Refusal). DoesIn old command rules.risk c.args.ways ps refused live) c.obey_in-outcome.result c.in_ok-refused.refused c.new-pieces.result pieces c.new-pieces.ensures c.obey_in-outcome.ensures c.in_ok-refused.ensures in
    reply_told rules old command c.args.ways (length c.records-count.result.now) c.in_ok-behind.behind live pieces c.in_ok-refused.refused c.begun-reply.result c.tell.new.reply (ap length (c.records-count.ensures ∙ ap (λ (st : State). st.records) c.bus.ensures)) (c.in_ok-behind.ensures ∙ ap (λ (n : ℕ). n + length c.records-count.result.now) c.forgotten.ensures) c.begun-reply.ensures does c.in_ok-tell.ensures
