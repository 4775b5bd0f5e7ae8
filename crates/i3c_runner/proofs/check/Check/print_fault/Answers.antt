use Rattle.std.proofs.Common.{◌≡◌, ◌∙◌, ℕ, ◌+◌, List, [], ◌++◌, Result, Ok, Err, ap, min}
use Rattle.std.specs.Result.{OnOk}
use Rattle.i3c_lines.specs.declared.form_faults.FormFault.{FormFault}
use Rattle.i3c_lines.specs.Faults.{IsFaultText, IsSo}
use Rattle.i3c_runner.specs.Checks.{IsFaultTold, told_line}
use Rattle.i3c_runner.proofs.check.Check.print_fault.Goals as goal

on_ok : {E : Type 0} → {P : Type 0} → {Q : Type 0} → (r : Result (Unit {0}) E) → (P → Q) → OnOk r P → OnOk r Q
on_ok (Ok done) f h = f h
on_ok (Err e) f h = tt

-- the line that tells a fault
fault_told : (line : List ℕ) (fault : FormFault) (number : ℕ) (old mid text : List ℕ) → IsSo line fault → old ≡ [] → ((told : List ℕ) × IsFaultText fault told × (mid ≡ old ++ told)) → text ≡ told_line number mid → IsFaultTold number line text
fault_told line fault number old mid text so none (told, is, e) tells = (told, (fault, so, is), tells ∙ ap (told_line number) (e ∙ ap (λ t. t ++ told) none))

pub returns : goal.returns
returns c =
    let number = c.args.number in
    let text = c.tell.new.self.text in
    let old = c.args.self.now.told in
    let new = c.tell.new.self.told in
    let mid = c.push.new.text in
    on_ok c.tell.result
    (λ (is : (text ≡ told_line number mid) × (min new 18446744073709551615 ≡ min (old + 1) 18446744073709551615)). (
      fault_told c.args.line.now c.args.fault.now number c.args.self.now.reason mid text c.requires.so c.requires.silent c.in_ok-push.ensures is.0,
      c.tell.ensures.names,
      is.1,
    ))
    c.tell.ensures.told
