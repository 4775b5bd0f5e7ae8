use Rattle.std.proofs.Common.{◌≡◌, ◌∙◌, ◌+◌, ◌++◌, ap, append_assoc, drop, suc}
use Rattle.std.proofs.lemmas.Result.{on_ok_weaker}
use Rattle.i3c_drive.specs.Answers.{forgotten_of, last_line, log_of, news_text}
use Rattle.i3c_drive.specs.Steps.{news_of, state}
use Rattle.i3c_script.specs.Printed.{numbered_text, pieces_text}
use Rattle.i3c_drive.proofs.driver.Driver.push_lines.Goals as goal

pub returns : goal.returns
returns c pieces heard =
    let st = state c.args.self.now in
    let said = pieces_text pieces in
    let added = numbered_text (suc (forgotten_of st + c.args.count)) (drop c.args.count (log_of st)) in
    let news = news_text (news_of c.args.changed c.args.self.now.asked.items) in
    let last = last_line c.args.number c.args.refused.now in
    let first : c.push_added.new.text ≡ said ++ added = c.in_ok-push_added.ensures ∙ ap (λ t. t ++ added) heard in
    let second : c.push_news.new.answer ≡ said ++ (added ++ news) = c.in_ok-push_news.ensures ∙ ap (λ names. c.push_added.new.text ++ news_text (news_of c.args.changed names)) c.deref.ensures.value ∙ ap (λ t. t ++ news) first ∙ append_assoc said added news in
    on_ok_weaker c.push_last.result (λ told. told ∙ ap (λ t. t ++ last) second ∙ append_assoc said (added ++ news) last ∙ ap (λ t. said ++ t) (append_assoc added news last)) c.push_last.ensures
