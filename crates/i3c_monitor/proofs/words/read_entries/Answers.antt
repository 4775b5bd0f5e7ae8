use Rattle.std.proofs.Common.{◌≡◌, ◌≤◌, ◌∙◌, Ok, Some, ap, arith, length, subst, sym}
use Rattle.i3c_deftgts.specs.Reading.{first_fault, ReadAs}
use Rattle.i3c_monitor.specs.Due.{words_in}
use Rattle.i3c_monitor.proofs.DueLaws.{list_read, list_refused}
use Rattle.i3c_monitor.proofs.words.read_entries.Goals as goal

pub returns-in-Ok : goal.returns-in-Ok
returns-in-Ok c =
    let same : c.deref-2.result.now ≡ words_in c.args.symbols.now = c.deref-2.ensures.value ∙ c.in_ok-words.ensures in
    let whole : length c.args.symbols.now ≤ length c.deref-2.result.now = omega (arith, c.if-len-symbols.false, c.len.ensures, c.deref-2.ensures.len) in
    list_read c.args.symbols.now c.args.before c.in-Ok.list (subst (λ words. length c.args.symbols.now ≤ length words) same whole)
    (subst (λ words. ReadAs words c.in-Ok.list) same c.in-Ok.ensures) ∙ ap (λ n. Ok n) (sym c.len-in-Ok.ensures)

pub returns : goal.returns
returns c =
    let same : c.deref-2.result.now ≡ words_in c.args.symbols.now = c.deref-2.ensures.value ∙ c.in_ok-words.ensures in
    let whole : length c.args.symbols.now ≤ length c.deref-2.result.now = omega (arith, c.if-len-symbols.false, c.len.ensures, c.deref-2.ensures.len) in
    list_refused c.args.symbols.now c.args.before c.in-Err.fault (subst (λ words. length c.args.symbols.now ≤ length words) same whole)
    (subst (λ words. first_fault words ≡ Some c.in-Err.fault) same c.in-Err.ensures)
