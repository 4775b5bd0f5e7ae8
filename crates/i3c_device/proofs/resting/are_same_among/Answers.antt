-- The slots that aren't left hold the same in both.
use Rattle.std.proofs.Common.{◌≡◌, ◌∙◌, ap, option_map, refl, Some, sym}
use Rattle.std.proofs.lemmas.Bool.{false≢true}
use Rattle.i3c_device.specs.Enabling.{under}
use Rattle.i3c_device.proofs.KeepLaws.{same_under, some_own, walked_more, walked_none}
use Rattle.i3c_device.proofs.resting.are_same_among.Goals as goal

pub loop-index-init : goal.loop-index-init
loop-index-init c = walked_none c.args.among c.args.kept.now c.args.occupants.now

pub device-requires : goal.device-requires
device-requires c =
    let taken = c.in-Some.ensures.taken in (taken.0, (c.requires c.in-Some.index taken.0 (c.loop-index.invariant.within c.in-Some.index taken.0 taken.1)).0)

pub device-requires-in-Some : goal.device-requires-in-Some
device-requires-in-Some c =
    let taken = c.in-Some.ensures.taken in (taken.0, (c.requires c.in-Some.index taken.0 (c.loop-index.invariant.within c.in-Some.index taken.0 taken.1)).1)

pub loop-index-preserved : goal.loop-index-preserved
loop-index-preserved c =
    walked_more c.args.among c.loop-index.left c.take_lowest.new.self c.in-Some.index c.args.kept.now c.args.occupants.now c.loop-index.invariant c.in-Some.ensures.taken.3
    (c.device.ensures ∙ (ap Some (c.is_same.ensures.same.0 c.if-not-is_same.false) ∙ sym c.device-in-Some.ensures))

pub returns-then-not-is_same : goal.returns-then-not-is_same
returns-then-not-is_same c kinds = (
  λ t. absurd (false≢true t),
  λ same.
      let taken = c.in-Some.ensures.taken in
      let alike = same c.in-Some.index taken.0 (c.loop-index.invariant.within c.in-Some.index taken.0 taken.1) in
      let one = c.device.result.now in
      let other = c.device-in-Some.result.now in
      let seen : under kinds one ≡ under kinds other = some_own (under kinds one) (under kinds other) (sym (ap (option_map (under kinds)) c.device.ensures) ∙ (alike ∙ ap (option_map (under kinds)) c.device-in-Some.ensures)) in
      sym c.if-not-is_same.true ∙ c.is_same.ensures.same.1 (same_under one other kinds c.is_same.ensures.kinds seen),
)

pub returns : goal.returns
returns c kinds = (λ t s l held. ap (option_map (under kinds)) (c.loop-index.invariant.same s l held (c.in_default.ensures.taken s l)), λ same. refl)
