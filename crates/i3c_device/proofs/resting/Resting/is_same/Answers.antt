-- The slots that aren't left hold the same in both.
use Rattle.std.proofs.Common.{◌≡◌, ◌∙◌, Decides, ap, get_or, None, refl, sym}
use Rattle.std.proofs.lemmas.Bool.{false≢true}
use Rattle.std.specs.Option.{option_copied}
use Rattle.i3c_device.specs.Enabling.{kinds_in}
use Rattle.i3c_device.proofs.KeepLaws.{decided, length-seen_kept, some_seen}
use Rattle.i3c_device.proofs.SameLaws.{same_all, same_empty, same_more}
use Rattle.i3c_device.proofs.resting.Resting.is_same.Goals as goal
use Rattle.i3c_device.proofs.resting.Resting.is_same.Goals.{After-are_same}

is_decided : (c : After-are_same) → Decides c.are_same.result (get_or c.args.self.now c.from_index-slot.result None ≡ get_or c.args.others.now c.from_index-slot.result None)
is_decided c =
    let i = c.in-Some.index in
    let own = kinds_in c.self.inside.enabled i in
    let its = kinds_in c.others.inside.enabled i in
    let alike = c.differing-differing.ensures i c.in-Some.ensures.taken.0 in
    decided c.self.inside.enabled c.others.inside.enabled c.self.inside.kept c.others.inside.kept c.args.self.now c.args.others.now c.from_index-slot.result i own its (option_copied c.at.result) (option_copied c.at-in-Some.result)
    c.are_same.result c.self.view_is c.others.view_is c.from_index-slot.ensures refl refl c.at.ensures.place c.at-in-Some.ensures.place
    (c.are_same.ensures own its (λ f. alike.0 (sym c.has-differ.ensures ∙ f), λ same. c.has-differ.ensures ∙ alike.1 same))

pub loop-index-init : goal.loop-index-init
loop-index-init c =
    same_empty c.present.result c.present-2.result c.or-left.result c.args.self.now c.args.others.now
    (λ s l. c.present.ensures.present s l ∙ some_seen c.self.inside.enabled c.self.inside.kept c.args.self.now s c.self.view_is)
    (λ s l. c.present-2.ensures.present s l ∙ some_seen c.others.inside.enabled c.others.inside.kept c.args.others.now s c.others.view_is) c.or-left.ensures

pub loop-index-preserved : goal.loop-index-preserved
loop-index-preserved c =
    same_more c.loop-index.left c.take_lowest.new.self c.in-Some.index c.from_index-slot.result c.args.self.now c.args.others.now c.loop-index.invariant c.in-Some.ensures.taken.3 c.from_index-slot.ensures
    ((is_decided (goal.at.loop-index-preserved c).After-are_same).0 c.if-not-are_same.false)

pub returns-then-not-are_same : goal.returns-then-not-are_same
returns-then-not-are_same c = (
  λ t. absurd (false≢true t),
  λ same. sym c.if-not-are_same.true ∙ (is_decided (goal.at.returns-then-not-are_same c).After-are_same).1 (ap (λ places. get_or places c.from_index-slot.result None) same),
)

pub returns : goal.returns
returns c = (
  λ t. same_all c.loop-index.left c.args.self.now c.args.others.now c.loop-index.invariant c.in_default.ensures.taken
      (length-seen_kept c.self.inside.enabled c.self.inside.kept c.args.self.now c.self.view_is c.present.ensures.slots) (length-seen_kept c.others.inside.enabled c.others.inside.kept c.args.others.now c.others.view_is c.present-2.ensures.slots),
  λ same. refl,
)
