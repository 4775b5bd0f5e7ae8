use Rattle.std.proofs.Common.{◌≡◌, ◌∙◌, ◌++◌, [], append-nil, ap, arith, count_by, is_some, sym}
use Rattle.i3c_deftgts.specs.Entries.{legacy_at, upwards}
use Rattle.i3c_deftgts.proofs.UpwardLaws.{length-upwards, upwards_nothing}
use Rattle.i3c_deftgts.proofs.listing.push_legacies.Goals as goal

pub push_targets-requires-clause-room : goal.push_targets-requires-clause-room
push_targets-requires-clause-room c =
    let few = rw (sym c.by_address-lvrs.ensures.same) at c.by_address-lvrs.ensures.few in
    omega (arith, c.requires, few, length-upwards legacy_at c.by_address-lvrs.result 0)

pub returns-then-is_empty-clause-items : goal.returns-then-is_empty-clause-items
returns-then-is_empty-clause-items c =
    let none : count_by is_some c.args.legacies.now.legacy ≡ 0 = c.is_empty.ensures.0 c.if-is_empty.true in
    let nothing : upwards legacy_at 0 c.args.legacies.now.legacy ≡ [] = upwards_nothing legacy_at c.args.legacies.now.legacy 0 none in
    sym (append-nil c.args.entries.now.items) ∙ ap (λ es. c.args.entries.now.items ++ es) (sym nothing)
