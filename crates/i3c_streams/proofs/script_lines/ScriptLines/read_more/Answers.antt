use Rattle.std.proofs.Common.{◌≡◌, ◌++◌, ◌-◌, ℕ, List, Option, Result, Ok, Err, arith, length, subst, sym, take}
use Rattle.std.specs.Result.{OnOk}
use Rattle.i3c_streams.specs.declared.script_lines.Reading.{Reading}
use Rattle.i3c_streams.specs.Lines.{IsReadAs}
use Rattle.i3c_streams.specs.Reading.{IsPiece}
use Rattle.i3c_streams.proofs.LinesRead.{read_beyond}
use Rattle.i3c_streams.proofs.script_lines.ScriptLines.read_more.Goals as goal

on_ok : {E : Type 0} → {P : Type 0} → {Q : Type 0} → (r : Result (Unit {0}) E) → (P → Q) → OnOk r P → OnOk r Q
on_ok (Ok done) f h = f h
on_ok (Err e) f h = tt

pub returns-in-Ok-Beyond-clause-read : goal.returns-in-Ok-Beyond-clause-read
returns-in-Ok-Beyond-clause-read g c =
    let now = g.R.Read.remaining c.args.reader.now in
    let next = g.R.Read.remaining c.read_piece.new.reader in
    let left = c.saturating_sub-left.result in
    let count = c.in-Ok-Beyond.count in
    let chunk = c.read_piece.new.chunk in
    let bytes = c.args.self.now.bytes.items in
    let more = c.append-in-Ok-Beyond.new.self in
    let piece = subst (IsPiece now next left chunk) c.in-Ok-Beyond.field-0-is c.in-Ok-Beyond.ensures in
    let room : left ≡ 1048576 - length bytes = omega arith in
    on_ok c.append-in-Ok-Beyond.result
    (λ (is : (more.bytes.items ≡ bytes ++ take count chunk) × (more.reading ≡ Reading.TooLarge)). λ (known : Option (List ℕ)) from.
    subst (λ r. IsReadAs r known next more.bytes.items) (sym is.1)
    (subst (IsReadAs Reading.TooLarge known next) (sym is.0) (read_beyond known now next left count chunk bytes (subst (λ r. IsReadAs r known now bytes) c.requires.open from) piece room)))
    c.append-in-Ok-Beyond.ensures.read
