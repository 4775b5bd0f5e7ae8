-- A call that looks, takes up, and makes its event.
use Rattle.std.proofs.Common.{◌≡◌, ℕ, ◌++◌, List, true, false, ap, refl, ◌∙◌, subst}
use Rattle.rtrb.specs.Ring.{sent}
use Rattle.i3c_base.specs.State.{State}
use Rattle.i3c_step.specs.declared.events.Event.{Event}
use Rattle.i3c_step.specs.declared.replies.Reply.{Reply}
use Rattle.i3c_recorder.specs.declared.entry.Entry.{Entry}
use Rattle.i3c_recorder.specs.KeptRuns.{Leads}
use Rattle.i3c_shared.specs.Ports.{AllPosted, AllWhole}
use Rattle.i3c_shared.specs.Raises.{raises_of}
use Rattle.i3c_shared.specs.Rings.{AllDrained, Fits, IsWhole, put_out, ring_at}
use Rattle.i3c_step.specs.Stays.{is_attached}
use Rattle.i3c_shared.specs.Taking.{Grows, IsOther, Makes, PutsOut, Stays, TakesUp}
use Rattle.i3c_shared.specs.Values.{Log, PortValue, Reading, Rings}
use Rattle.i3c_shared.proofs.Fitting.{raises_kept}
use Rattle.i3c_shared.proofs.Meeting.{whole_raises}

pub takes_from : (old ready mid : Log) → Stays old ready → TakesUp ready ready.rings mid → TakesUp old ready.rings mid
takes_from old ready mid s t = record {
  few = t.few;
  left = t.left;
  raises = t.raises;
  taken = t.taken;
  leads = subst (λ (st : State). Leads st t.raises mid.state) s.state t.leads;
  run = t.run ∙ ap (λ (r : List Entry). r ++ t.raises) s.run;
  start = t.start ∙ s.start;
}

pub grown : (old ready mid new : Log) (event : Event) (reply : Reply) → Stays old ready → TakesUp ready ready.rings mid → Makes mid event reply new → Grows old event reply new
grown old ready mid new event reply s t m = record { seen = ready.rings; looked = s.rings; mid = mid; takes = takes_from old ready mid s t; makes = m }

-- where what is known of its ring is all that a port posted, its raises are all posts after the event too
pub all_raised : (p : PortValue) (s : ℕ) (ready mid new : Log) (event : Event) (reply : Reply) → IsWhole p (ring_at ready.rings s) → AllDrained ready.rings mid.rings → Fits mid.rings mid.run → Makes mid event reply new → IsOther event
    → raises_of s new.run ≡ sent p.producer
all_raised p s ready mid new event reply whole drained fits m other =
    ap (raises_of s) m.run ∙ raises_kept s mid.run event reply other ∙ whole_raises p s ready.rings mid.rings mid.run drained fits whole

pub all_posted : (old seen after : Rings) (ports : List PortValue) (run : List Entry) → AllWhole old seen ports → AllDrained seen after → Fits after run → AllPosted old ports run
all_posted old seen after ports run whole drained fits k p at end = whole_raises p p.slot seen after run drained fits (whole k p at end)

pub puts_yes : (log : Log) (s : ℕ) (ring : Reading) (reply : Reply) (rings : Rings) → is_attached reply ≡ true → rings ≡ put_out s ring log.rings → PutsOut s ring reply log (record log { rings = rings })
puts_yes log s ring reply rings is same = rw (is, same) refl

pub puts_no : (log : Log) (s : ℕ) (ring : Reading) (reply : Reply) → is_attached reply ≡ false → PutsOut s ring reply log log
puts_no log s ring reply is = rw is refl

pub puts_out_is : (s : ℕ) (ring : Reading) (reply : Reply) (old new : Log) → PutsOut s ring reply old new → reply ≡ Reply.Attached → new ≡ record old { rings = put_out s ring old.rings }
puts_out_is s ring reply old new h is = subst (λ (r : Reply). PutsOut s ring r old new) is h

pub with_reply : (old new : Log) (event : Event) (reply other : Reply) → reply ≡ other → Grows old event reply new → Grows old event other new
with_reply old new event reply other is g = subst (λ (r : Reply). Grows old event r new) is g
