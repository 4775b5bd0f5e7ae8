use Rattle.std.proofs.Common.{◌≡◌, ◌∙◌, ◌+◌, Result, Ok, Err, MatchOption, ap, min, subst, sym}
use Rattle.std.specs.Result.{OnOk}
use Rattle.i3c_runner.specs.Checks.{NameTold, name_reason, told_line}
use Rattle.i3c_runner.proofs.CheckRuns.{told_counts}
use Rattle.i3c_runner.proofs.check.Check.+check_meant.Goals as goal

on_ok : {E : Type 0} → {P : Type 0} → {Q : Type 0} → (r : Result (Unit {0}) E) → (P → Q) → OnOk r P → OnOk r Q
on_ok (Ok done) f h = f h
on_ok (Err e) f h = tt

pub returns-in-None-clause-told : goal.returns-in-None-clause-told
returns-in-None-clause-told t c =
    let number = c.args.number in
    let names = c.args.self.now.names in
    let text = c.print_name.new.self.text in
    let old = c.args.self.now.told in
    let new = c.print_name.new.self.told in
    let line = told_line number (name_reason c.in-Some.name.now) in
    let none = sym c.in-None.is ∙ c.place_of.ensures in
    on_ok c.print_name.result
    (λ (is : (text ≡ line) × (min new 18446744073709551615 ≡ min (old + 1) 18446744073709551615)). (
      subst (λ meant. NameTold names number meant text) (sym c.in-Some.ensures.cases.0)
          (subst (λ place. MatchOption place (text ≡ line) (λ _. NameTold names number c.in-Some.rest.now text)) none is.0),
      is.1 ∙ ap (λ n. min (old + n) 18446744073709551615) (sym (told_counts number (name_reason c.in-Some.name.now) text is.0)),
    ))
    c.print_name.ensures.told
