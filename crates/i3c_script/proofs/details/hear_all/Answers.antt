-- What is heard of all of the bus, part by part.
use Rattle.std.proofs.Common.{◌≡◌, ◌∙◌, ◌∷◌, ◌++◌, ◌+◌, ap, length, subst}
use Rattle.std.specs.Prelude.{OnOk}
use Rattle.i3c_base.specs.declared.range.TheConstants.{SLOTS}
use Rattle.i3c_script.specs.declared.piece.Piece.{Piece}
use Rattle.i3c_script.specs.Hearing.{all_heard}
use Rattle.i3c_script.specs.Pieces.{descriptions_pieces, show_pieces, tenures_pieces}
use Rattle.i3c_script.proofs.Hearing.{heard_behind}
use Rattle.i3c_script.proofs.details.hear_all.Goals as goal

pub returns : goal.returns
returns g c =
    let heard = g.L.Listener.heard in
    let st = c.args.bus.now.state in
    let names = c.args.names.now in
    let forgotten = c.args.settings.now.forgotten in
    let r = c.hear_times.result in
    let new = c.hear_times.new.listener in
    let bus = show_pieces g.N.Naming.kept forgotten st names in
    let devices = descriptions_pieces g.N.Naming.kept st names SLOTS in
    let times = tenures_pieces (g.P.Past.kept.ended c.args.past.now) st.active (forgotten + length st.records) in
    let list : c.hear.new.self ≡ heard c.hear_descriptions.new.listener (Piece.Listed st.listed) = c.in_ok-hear.ensures ∙ ap (λ l. heard c.hear_descriptions.new.listener (Piece.Listed l)) c.listed.ensures in
    let session : c.hear-2.new.self ≡ heard (heard c.hear_descriptions.new.listener (Piece.Listed st.listed)) (Piece.Session st.in_session) =
    c.in_ok-hear-2.ensures ∙ ap (λ o. heard c.hear.new.self (Piece.Session o)) c.in_session.ensures ∙ ap (λ s. heard s (Piece.Session st.in_session)) list in
    let told : OnOk r (new ≡ all_heard heard c.hear_descriptions.new.listener (Piece.Listed st.listed ∷ Piece.Session st.in_session ∷ times)) = subst (λ s. OnOk r (new ≡ all_heard heard s times)) session c.hear_times.ensures in
    heard_behind heard r c.args.listener.now c.hear_bus.new.listener new bus (devices ++ (Piece.Listed st.listed ∷ Piece.Session st.in_session ∷ times)) c.in_ok-hear_bus.ensures
    (heard_behind heard r c.hear_bus.new.listener c.hear_descriptions.new.listener new devices (Piece.Listed st.listed ∷ Piece.Session st.in_session ∷ times) c.in_ok-hear_descriptions.ensures told)
