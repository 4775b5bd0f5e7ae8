use Rattle.std.proofs.Common.{◌≡◌, ◌∙◌, ◌+◌, ap, drop, option_map}
use Rattle.std.proofs.lemmas.Result.{on_ok_weaker}
use Rattle.i3c_drive.specs.Answers.{first_added, forgotten_of, log_of}
use Rattle.i3c_drive.specs.Steps.{news_of, state}
use Rattle.i3c_drive.proofs.Driving.{object_written}
use Rattle.i3c_drive.proofs.driver.Driver.make_object.Goals as goal

pub returns : goal.returns
returns c pieces (empty, heard) =
    let now = c.args.self.now in
    let st = state now in
    let count = c.args.count in
    let added = c.in_ok-first_added.field-0 in
    let first = first_added (forgotten_of st + count) (drop count (log_of st)) in
    let asking = option_map (λ names. names.now) c.news.result in
    let news = news_of c.args.changed now.asked.items in
    let same_record : added ≡ first = c.in_ok-first_added.ensures ∙ (λ i. first_added (c.forgotten.ensures i + count) (drop count (c.log-log.ensures i))) in
    let same_names : asking ≡ news = c.news.ensures ∙ ap (news_of c.args.changed) c.deref.ensures.value in
    on_ok_weaker c.push_object.result
    (λ told. object_written c.args.number c.args.refused c.as_slice.result.now pieces added first asking news c.args.text.now c.push_object.new.text (c.as_slice.ensures ∙ heard) same_record same_names empty told)
    c.push_object.ensures
