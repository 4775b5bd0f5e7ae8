-- The plan has the outline to which the lines come.
use Rattle.std.proofs.Common.{◌∙◌, [], ap, refl, subst}
use Rattle.i3c_tracks.specs.Drafting.{IsBegunBy, all_rules, comes_on, comes_to, opens, risks}
use Rattle.i3c_tracks.proofs.Reading.{none_left, same_start}
use Rattle.i3c_tracks.proofs.draft.Draft.finish.Goals as goal

pub returns-in-Some-2 : goal.returns-in-Some-2
returns-in-Some-2 c first begun =
    let body = c.in-Some.body in
    let front = c.args.self.front in
    let before = c.args.self.before.items in
    let found = rw c.in-Some-2.is at c.in_ok-found.ensures in
    let by = subst (λ b. IsBegunBy b first) c.in-Some.is begun in (
      record by.0 { before = before; refused = front.refused.items; blocks = comes_to body []; opened = opens body []; rules = all_rules body []; risky = risks body [] },
      ap (λ b. comes_on b front before first []) c.in-Some.is ∙ none_left body first by.0 front before found.1 by.1,
      record {
        start = same_start by.0 before front.refused.items (comes_to body []) (opens body []) (all_rules body []) (risks body []) body.start c.in-Some-2.found.start found.0 by.2;
        before = refl;
        refused = refl;
        blocks = found.2;
        opened = found.3;
        rules = found.4;
        risky = found.5;
      },
    )
