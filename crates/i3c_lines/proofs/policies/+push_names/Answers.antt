use Rattle.std.proofs.Common.{◌∙◌, ap, arith, refl, sym}
use Rattle.std.proofs.lemmas.Grind.{common_steps}
use Rattle.std.specs.List.{list_any}
use Rattle.i3c_lines.specs.Naming.{is_same}
use Rattle.i3c_lines.proofs.Exceptions.{name_more, named_twice, no_place}
use Rattle.i3c_lines.proofs.policies.+push_names.Goals as goal
use Rattle.i3c_lines.proofs.policies.+push_names.Goals.{then-is_full-via-then-is_full, then-is_full-via-else-is_full+then-contains}

pub returns-then-is_full : goal.returns-then-is_full
returns-then-is_full t c = λ all are few. elim c.then-is_full.branch [
  | then-is_full-via-then-is_full w ↦ no_place _ _ c.in-Some.token.now c.args.names.now.items c.in-Some.ensures (grind (arith, common_steps)) all are few
  | then-is_full-via-else-is_full+then-contains w ↦
      named_twice _ _ c.in-Some.token.now c.in_ok-name.name c.args.names.now.items c.in-Some.ensures c.in_ok-name.ensures.same
      (ap (λ ns. list_any (λ other. is_same other c.in_ok-name.name) ns) (sym w.deref.ensures.0) ∙ sym w.contains.ensures.value ∙ w.if-contains.true) all are
]

pub returns : goal.returns
returns t c =
    name_more _ _ c.in-Some.token.now c.in_ok-name.name c.args.names.now.items _ _ c.push_names.result c.in-Some.ensures (c.in_ok-name.ensures.form.0 refl, c.in_ok-name.ensures.same)
    (ap (λ ns. list_any (λ other. is_same other c.in_ok-name.name) ns) (sym c.deref.ensures.0) ∙ sym c.if-contains.ensures.value)
    c.push.ensures.items
    c.push_names.ensures
