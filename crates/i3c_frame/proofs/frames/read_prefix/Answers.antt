use Rattle.std.proofs.Common.{◌≡◌, ◌++◌, [], ◌∷◌, refl, rules, subst, sym}
use Rattle.std.proofs.lemmas.List.Elements.{All-push}
use Rattle.i3c_frame.specs.declared.traces.FramePosition.TheVariants.{Outside}
use Rattle.i3c_frame.specs.Firsts.{BeginsWith, IsFirst}
use Rattle.i3c_frame.specs.Texts.{IsInRange}
use Rattle.i3c_frame.proofs.TraceLaws.{place_after-push, whole_push}
use Rattle.i3c_frame.proofs.frames.read_prefix.Goals as goal

pub loop-first-preserved : goal.loop-first-preserved
loop-first-preserved c =
    let symbol = c.in-Symbol.symbol in
    let items : c.push.new.self.items ≡ c.loop-first.symbols.items ++ symbol ∷ [] = search rules in
    let begins : BeginsWith c.loop-first.rest.now symbol c.in-Symbol.left.now = subst (IsFirst c.loop-first.rest.now) c.in-Symbol.is c.in-Some.ensures in
    record {
      whole = rw items (whole_push _ _ _ _ _ symbol c.loop-first.invariant.whole begins.1 refl);
      in_range = rw items (All-push IsInRange _ _ c.loop-first.invariant.in_range begins.0);
      leads = rw items (place_after-push Outside _ _ c.loop-first.symbols.items _ c.loop-first.invariant.leads (sym c.in-Some-after.ensures));
    }
