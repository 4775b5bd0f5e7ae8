use Rattle.std.proofs.Common.{◌≡◌, ◌≤◌, ◌+◌, ◌∙◌, suc, ap, arith, drop, length, sym}
use Rattle.std.proofs.lemmas.List.{at_drop_all}
use Rattle.i3c_script.specs.Hearing.{all_heard}
use Rattle.i3c_script.specs.Pieces.{numbered_pieces}
use Rattle.i3c_script.specs.declared.piece.Piece.{Piece}
use Rattle.i3c_script.proofs.Showing.{numbered_more}
use Rattle.i3c_script.proofs.show.hear_records_behind.Goals as goal

pub loop-index-preserved : goal.loop-index-preserved
loop-index-preserved g c =
    let heard = g.L.Listener.heard in
    let records = c.args.records.now in
    let index = c.loop-index.index in
    let number = c.args.forgotten + (index + 1) in
    let r = c.index-records-index.result in
    let next : number + 1 ≡ c.args.forgotten + (index + 1 + 1) = omega arith in
    let rest = numbered_pieces (c.args.forgotten + (index + 1 + 1)) (drop (index + 1) records) in
    ap (λ l. all_heard heard l rest) (c.in_ok-hear.ensures ∙ ap (λ n. heard c.loop-index.listener (Piece.Entry n r)) c.in_ok-number.ensures)
    ∙ ap (λ n. all_heard heard (heard c.loop-index.listener (Piece.Entry number r)) (numbered_pieces n (drop (index + 1) records))) (sym next)
    ∙ ap (all_heard heard c.loop-index.listener) (sym (numbered_more records number index r c.loop-index-test.true (sym c.index-records-index.is)))
    ∙ c.loop-index.invariant

pub loop-index-init : goal.loop-index-init
loop-index-init g c =
    let first : c.args.forgotten + (c.args.count + 1) ≡ suc (c.args.forgotten + c.args.count) = omega arith in
    ap (λ n. all_heard g.L.Listener.heard c.args.listener.now (numbered_pieces n (drop c.args.count c.args.records.now))) first

pub returns : goal.returns
returns g c =
    let records = c.args.records.now in
    let index = c.loop-index.index in
    let past : length records ≤ index = omega (arith, c.loop-index-test.false) in
    ap (all_heard g.L.Listener.heard c.loop-index.listener) (sym (at_drop_all (numbered_pieces (c.args.forgotten + (index + 1))) records index past)) ∙ c.loop-index.invariant
