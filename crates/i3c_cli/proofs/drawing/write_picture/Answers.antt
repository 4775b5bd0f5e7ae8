use Rattle.std.proofs.Common.{◌≡◌, ◌∙◌, ◌++◌, MatchResult, ap, inr, subst}
use Rattle.std.specs.Prelude.{codes}
use Rattle.std.specs.Io.KnownBytes.{Appends}
use Rattle.i3c_draw.specs.Pictures.{head_text, line}
use Rattle.i3c_streams.specs.declared.faults.ScriptFault.{ScriptFault}
use Rattle.i3c_streams.specs.Outcomes.{AppendsSome}
use Rattle.i3c_streams.proofs.WrittenOn.{some_out}
use Rattle.i3c_cli.proofs.DrawnOut.{first_cut, three_out}
use Rattle.i3c_cli.proofs.drawing.write_picture.Goals as goal

pub returns-in-Err-write_out : goal.returns-in-Err-write_out
returns-in-Err-write_out g c =
    let old = g.W.Write.contents c.args.out.now in
    let new = g.W.Write.contents c.write_out.new.out in
    let picture = c.args.picture.now in
    let head = c.as_bytes.ensures ∙ c.in-Ok.ensures.head ∙ ap (λ text. text ++ head_text picture.pen.y) c.new-head.ensures in
    inr (c.in-Err-write_out.ensures.0, first_cut old new (head_text picture.pen.y) (picture.rows ++ line (codes "</svg>")) (subst (AppendsSome old new) head c.in-Err-write_out.ensures.1))

pub returns-in-Err-write_out-2 : goal.returns-in-Err-write_out-2
returns-in-Err-write_out-2 g c =
    let old = g.W.Write.contents c.args.out.now in
    let first = g.W.Write.contents c.write_out.new.out in
    let new = g.W.Write.contents c.write_out-2.new.out in
    let picture = c.args.picture.now in
    let head = c.as_bytes.ensures ∙ c.in-Ok.ensures.head ∙ ap (λ text. text ++ head_text picture.pen.y) c.new-head.ensures in
    inr (
      c.in-Err-write_out-2.ensures.0,
      some_out old first new (head_text picture.pen.y) picture.rows (line (codes "</svg>"))
          (subst (Appends old first) head c.in-Ok-write_out.ensures) (subst (AppendsSome first new) c.as_bytes-2.ensures c.in-Err-write_out-2.ensures.1),
    )

pub returns : goal.returns
returns g c =
    let old = g.W.Write.contents c.args.out.now in
    let first = g.W.Write.contents c.write_out.new.out in
    let second = g.W.Write.contents c.write_out-2.new.out in
    let new = g.W.Write.contents c.write_out-3.new.out in
    let picture = c.args.picture.now in
    let head = c.as_bytes.ensures ∙ c.in-Ok.ensures.head ∙ ap (λ text. text ++ head_text picture.pen.y) c.new-head.ensures in
    let end = c.as_bytes-3.ensures ∙ c.in-Ok.ensures.end ∙ ap (λ text. text ++ line (codes "</svg>")) c.new-end.ensures in
    three_out old first second new (head_text picture.pen.y) picture.rows (line (codes "</svg>")) c.write_out-3.result
    (subst (Appends old first) head c.in-Ok-write_out.ensures)
    (subst (Appends first second) c.as_bytes-2.ensures c.in-Ok-write_out-2.ensures)
    (subst (λ text. MatchResult c.write_out-3.result (λ _. Appends second new text) (λ fault. (fault ≡ ScriptFault.Write) × AppendsSome second new text)) end c.write_out-3.ensures)
