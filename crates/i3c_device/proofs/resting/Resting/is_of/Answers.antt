-- The same slots are held, with the same kinds, by the same devices.
use Rattle.std.proofs.Common.{◌≡◌, ◌∙◌, ◌<◌, ◌||◌, ℕ, ap, get_or, None, is_some, sym, true}
use Rattle.std.proofs.lemmas.Bool.{both_ways}
use Rattle.i3c_base.specs.declared.range.TheConstants.{SLOTS}
use Rattle.i3c_device.specs.Enabling.{kinds_in}
use Rattle.i3c_device.specs.Sets.{has}
use Rattle.i3c_device.proofs.KeepLaws.{all_seen, but_one, length-seen_kept, neither, not_both, seen_kinds, seen_same, some_seen}
use Rattle.i3c_device.proofs.resting.Resting.is_of.Goals as goal
use Rattle.i3c_device.proofs.resting.Resting.is_of.Goals.{Then-is_none}

alike : (c : Then-is_none) (s : ℕ) → s < SLOTS
    → (is_some (get_or c.self.inside.kept s None) ≡ is_some (get_or c.devices.inside.occupants s None)) × (is_some (get_or c.self.inside.kept s None) ≡ true → kinds_in c.self.inside.enabled s ≡ kinds_in c.devices.inside.enabled s)
alike c s l =
    let none = neither (has c.apart-alone.result s) (has c.and-differing.result s) (sym (c.or.ensures s l) ∙ c.is_none.ensures.0 c.if-is_none.true s l) in
    let held = c.present-present.ensures.present s l in (
      sym held ∙ ((c.apart-alone.ensures s l).0 none.0 ∙ (c.present.ensures.present s l ∙ sym (some_seen c.devices.inside.enabled c.devices.inside.occupants c.args.devices.now s c.devices.view_is))),
      λ t. (c.differing.ensures s l).0 (not_both (has c.differing.result s) (has c.present-present.result s) (sym (c.and-differing.ensures s l) ∙ none.1) (held ∙ t)),
    )

pub are_same_among-requires : goal.are_same_among-requires
are_same_among-requires c s l t =
    let held = sym (c.present-present.ensures.present s l) ∙ t in (held, sym (alike (goal.at.are_same_among-requires c).Then-is_none s l).0 ∙ held)

pub returns-then-is_none : goal.returns-then-is_none
returns-then-is_none c =
    let at = (goal.at.returns-then-is_none c).Then-is_none in
    let e = c.self.inside.enabled in
    let more = c.devices.inside.enabled in
    let kept = c.self.inside.kept in
    let places = c.devices.inside.occupants in
    let now = c.args.self.now in
    let others = c.args.devices.now in (
      λ t. all_seen e more kept places now others c.self.view_is c.devices.view_is (length-seen_kept e kept now c.self.view_is c.present-present.ensures.slots) c.present.ensures.slots (λ s l. (alike at s l).0) (λ s l. (alike at s l).1)
          (λ kinds s l held. (c.are_same_among.ensures kinds).0 t s l (c.present-present.ensures.present s l ∙ held)),
      λ same. (c.are_same_among.ensures (kinds_in e 0)).1 (λ s l held. seen_same e more kept places now others (kinds_in e 0) s c.self.view_is c.devices.view_is same),
    )

pub returns-else-is_none : goal.returns-else-is_none
returns-else-is_none c =
    let e = c.self.inside.enabled in
    let more = c.devices.inside.enabled in
    let kept = c.self.inside.kept in
    let places = c.devices.inside.occupants in
    let now = c.args.self.now in
    let others = c.args.devices.now in (
      λ t. absurd (both_ways c.is_none.result c.if-is_none.false t),
      λ same. c.is_none.ensures.1
          (λ s l. let held = c.present-present.ensures.present s l in
          let alone = (c.apart-alone.ensures s l).1 (held ∙ (some_seen e kept now s c.self.view_is ∙ (ap (λ all. is_some (get_or all s None)) same ∙ sym (c.present.ensures.present s l)))) in
          let differ = c.and-differing.ensures s l
          ∙ but_one (has c.differing.result s) (has c.present-present.result s) (λ t. (c.differing.ensures s l).1 (seen_kinds e more kept places now others s c.self.view_is c.devices.view_is same (sym held ∙ t))) in
          c.or.ensures s l ∙ (λ k. alone k || differ k)),
    )
