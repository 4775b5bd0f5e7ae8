-- A group begins at the place, or none does.
use Rattle.std.proofs.Common.{◌≡◌, ◌∙◌, Bool, List, ap, arith, false, rules, suc, sym, true}
use Rattle.i3c_tracks.specs.Groups.{begins_at, keys_of}
use Rattle.i3c_tracks.proofs.GroupLaws.{group_adds, nothing_told}
use Rattle.i3c_tracks.proofs.groups.push_place.Goals as goal

pub returns-then-not-begins-clause-text : goal.returns-then-not-begins-clause-text
returns-then-not-begins-clause-text c =
    let no : c.begins_at-begins.result ≡ false = first_of (cc, search rules, grind arith) in
    nothing_told c.args.showing c.args.lines.now c.args.plan.now c.args.questions.now c.args.ends.now c.args.place (suc c.args.before) (begins_at (keys_of c.args.questions.now c.args.ends.now) c.args.place) c.args.text.now c.requires.within
    (sym (ap (λ (keys : List (List Bool)). begins_at keys c.args.place) c.requires.keys) ∙ sym c.begins_at-begins.ensures ∙ no)

pub returns-clause-text : goal.returns-clause-text
returns-clause-text c =
    let yes : c.begins_at-begins.result ≡ true = first_of (cc, search rules, grind arith) in
    group_adds c.args.showing c.args.lines.now c.args.plan.now c.args.questions.now c.args.ends.now c.args.place c.args.before (begins_at (keys_of c.args.questions.now c.args.ends.now) c.args.place) c.args.text.now c.push_group.new.text
    (sym (ap (λ (keys : List (List Bool)). begins_at keys c.args.place) c.requires.keys) ∙ sym c.begins_at-begins.ensures ∙ yes) c.in_ok-push_group.ensures
