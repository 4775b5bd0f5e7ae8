use Rattle.std.proofs.Common.{◌≡◌, ◌≤◌, ◌++◌, ℕ, List}
use Rattle.i3c_tracks.specs.Groups.{AreGroupTexts, groups_in, keys_of}
use Rattle.i3c_tracks.proofs.groups.push_all.Given as goal

abbrev pub invariant-loop-index : goal.invariant-loop-index
invariant-loop-index l = record {
  counted : l.groups ≡ groups_in (keys_of l.questions l.ends) l.index;
  few : l.groups ≤ l.index;
  told : (said : List ℕ) × AreGroupTexts l.showing l.lines l.plan l.questions l.ends l.index said × (l.text ≡ l.initial.text ++ said);
}
