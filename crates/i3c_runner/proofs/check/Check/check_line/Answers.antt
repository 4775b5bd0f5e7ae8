use Rattle.std.proofs.Common.{◌≡◌, ◌∙◌, ◌+◌, Result, Ok, Err, MatchOption, ap, inl, min, subst, sym}
use Rattle.std.specs.Result.{OnOk}
use Rattle.i3c_lines.specs.Faults.{IsSo}
use Rattle.i3c_lines.specs.Forms.{HasNoForm}
use Rattle.i3c_runner.specs.Checks.{IsFaultTold}
use Rattle.i3c_runner.specs.Expecting.{IsBad, IsMarked}
use Rattle.i3c_runner.proofs.CheckRuns.{told_counts}
use Rattle.i3c_runner.proofs.check.Check.check_line.Goals as goal

on_ok : {E : Type 0} → {P : Type 0} → {Q : Type 0} → (r : Result (Unit {0}) E) → (P → Q) → OnOk r P → OnOk r Q
on_ok (Ok done) f h = f h
on_ok (Err e) f h = tt

pub returns-in-Some : goal.returns-in-Some
returns-in-Some c =
    let number = c.args.number in
    let line = c.args.line.now in
    let names = c.args.self.now.names in
    let text = c.print_fault.new.self.text in
    let old = c.args.self.now.told in
    let new = c.print_fault.new.self.told in
    let bad : IsBad line × IsSo line c.in-Some.fault = subst (λ fault. MatchOption fault (HasNoForm line → IsMarked line) (λ fault. IsBad line × IsSo line fault)) c.in-Some.is c.in_ok-fault.ensures in
    on_ok c.print_fault.result
    (λ (is : IsFaultTold number line text × (c.print_fault.new.self.names ≡ names) × (min new 18446744073709551615 ≡ min (old + 1) 18446744073709551615)). (
      inl (bad.0, is.0, is.1),
      is.2 ∙ ap (λ n. min (old + n) 18446744073709551615) (sym (told_counts number is.0.0 text is.0.2)),
    ))
    c.print_fault.ensures
