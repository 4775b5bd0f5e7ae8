use Rattle.std.proofs.Common.{◌≡◌, ℕ, ◌<◌, ◌∙◌, ◌∷◌, ◌++◌, [], List, Option, None, get_or, length, ap, arith}
use Rattle.i3c_base.specs.declared.identity.Lvr.{Lvr}
use Rattle.std.proofs.lemmas.List.{get_or_default}
use Rattle.i3c_deftgts.specs.Entries.{legacy_at}
use Rattle.i3c_deftgts.proofs.UpwardLaws.{all_pushed, passed, pushed, room_here}
use Rattle.i3c_deftgts.proofs.listing.push_targets.Goals as goal
use Rattle.i3c_deftgts.proofs.listing.push_targets.Goals.{in-Some, in_default}

any_default : (lvrs : List (Option Lvr)) (i : ℕ) → i < length lvrs → get_or lvrs i None ≡ get_or lvrs i (get_or lvrs i None)
any_default lvrs i l = get_or_default lvrs i None (get_or lvrs i None) l

pub push-requires : goal.push-requires
push-requires c =
    let room : length c.loop-place.entries.items < 128 = room_here legacy_at c.args.lvrs.now c.loop-place.place (get_or c.args.lvrs.now c.loop-place.place None) c.in-Some.lvr c.loop-place.entries.items c.args.entries.now.items 128
    c.loop-place-test.true (any_default c.args.lvrs.now c.loop-place.place c.loop-place-test.true) c.in-Some.is c.loop-place.invariant c.requires.room in
    (omega arith, room)

pub loop-place-preserved : goal.loop-place-preserved
loop-place-preserved c = elim c.match-lvr.branch [
  | in-Some w ↦
      let same = rw w.unwrap.ensures at w.new.ensures.same in
      pushed legacy_at c.args.lvrs.now c.loop-place.place (get_or c.args.lvrs.now c.loop-place.place None) w.in-Some.lvr c.loop-place.entries.items c.match-lvr.entries.items _
      c.loop-place-test.true (any_default c.args.lvrs.now c.loop-place.place c.loop-place-test.true) w.in-Some.is (ap (λ e. e.items) w.entries-is ∙ (w.push.ensures.items ∙ ap (λ a. c.loop-place.entries.items ++ legacy_at a w.in-Some.lvr ∷ []) same)) c.loop-place.invariant
  | in_default w ↦ passed legacy_at c.args.lvrs.now c.loop-place.place (get_or c.args.lvrs.now c.loop-place.place None) c.loop-place.entries.items c.match-lvr.entries.items _
      c.loop-place-test.true (any_default c.args.lvrs.now c.loop-place.place c.loop-place-test.true) w.in_default.is (ap (λ e. e.items) w.entries-is) c.loop-place.invariant
]

pub returns : goal.returns
returns c = all_pushed legacy_at c.args.lvrs.now c.loop-place.place c.loop-place.entries.items _ c.loop-place-test.false c.loop-place.invariant
