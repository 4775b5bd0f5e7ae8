-- Each part of the object is that of the reply.
use Rattle.std.proofs.Common.{◌≡◌, ◌∙◌, ◌+◌, ap, arith}
use Rattle.i3c_drive.specs.Answers.{first_added}
use Rattle.i3c_drive.specs.Steps.{news_of}
use Rattle.i3c_json.specs.declared.told.Told.{Told as Object}
use Rattle.i3c_program.specs.Answers.{put_end_of}
use Rattle.i3c_program.proofs.Written.{told_written}
use Rattle.i3c_program.proofs.telling.push_told_object.Goals as goal

pub returns : goal.returns
returns c =
    let here = c.reply_in-reply.ensures in
    let object : Object = record { number = c.args.number; verdict = c.verdict_of.result; pieces = c.as_slice.result; added = c.in_ok-first_added.field-0; asking = c.news.result; aside = c.aside_of.result } in
    let behind = c.behind.ensures ∙ ap (λ r. r.behind) here in
    let added = c.added.ensures ∙ ap (λ r. r.added) here in
    let none : c.behind.result + 0 ≡ c.behind.result = omega arith in
    told_written c.push_told.result object c.args.text.now c.push_told.new.text c.push_told.ensures c.args.told.now _ (c.as_slice.ensures ∙ c.pieces.ensures ∙ ap (λ r. r.pieces) here)
    (c.in_ok-first_added.ensures ∙ ap (λ n. first_added n c.added.result.now) none ∙ (λ i. first_added (behind i) (added i))) (c.news.ensures ∙ ap (λ names. news_of c.args.changed names) (c.asking.ensures ∙ ap (λ r. r.asking) here))
    (λ members. c.verdict_of.ensures members ∙ ap (λ r. put_end_of r r.unmet members) here) c.aside_of.ensures
