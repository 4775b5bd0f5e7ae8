-- What a look with a port in hand tells of its raises.
use Rattle.std.proofs.Common.{◌≡◌, ℕ, List, [], ◌++◌, sym, refl, ap, ◌∙◌, subst, append_assoc, append-nil}
use Rattle.std.specs.Prelude.{Option, Some, None}
use mathlib.Core.List.{IsPrefix}
use Rattle.rtrb.specs.Ring.{received, known_items, consumer_capacity, sent}
use Rattle.i3c_recorder.specs.declared.entry.Entry.{Entry}
use Rattle.i3c_shared.specs.declared.port.TheConstants.{POSTS}
use Rattle.i3c_shared.specs.Ports.{AllBegun, AllPostedFirst, SamePort}
use Rattle.i3c_shared.specs.Raises.{raises_of}
use Rattle.i3c_shared.specs.Rings.{AllDrained, AllLooked, Fits, HasDrained, HasLooked, IsBegun, IsEndOf, IsWhole, ring_at}
use Rattle.i3c_shared.specs.Values.{PortValue, Reading, Rings}

abbrev FitsAt : ℕ → Option Reading → List Entry → Type 0
FitsAt s d run = (c : Reading) → d ≡ Some c → (received c ≡ raises_of s run) × (consumer_capacity c ≡ POSTS)

whole_at : (p : PortValue) (s : ℕ) (c d : Option Reading) (run : List Entry) → HasDrained c d → FitsAt s d run → IsWhole p c → raises_of s run ≡ sent p.producer
whole_at p s None d run drained fits whole = absurd whole
whole_at p s (Some c) None run drained fits whole = absurd drained
whole_at p s (Some c) (Some d) run drained fits whole = sym (fits d refl).0 ∙ drained.1 ∙ whole

-- where all that was posted is known and then taken, the raises are all posts
pub whole_raises : (p : PortValue) (s : ℕ) (cs ds : Rings) (run : List Entry) → AllDrained cs ds → Fits ds run → IsWhole p (ring_at cs s) → raises_of s run ≡ sent p.producer
whole_raises p s cs ds run drained fits whole = whole_at p s (ring_at cs s) (ring_at ds s) run (drained.1 s) (fits s) whole

begun_at : (p : PortValue) (s : ℕ) (c d : Option Reading) (run : List Entry) → HasLooked c d → FitsAt s c run → IsBegun p d → IsPrefix (raises_of s run) (sent p.producer)
begun_at p s None d run looked fits begun = absurd (subst (λ (x : Option Reading). IsBegun p x) looked begun)
begun_at p s (Some c) None run looked fits begun = absurd looked
begun_at p s (Some c) (Some d) run looked fits begun = (
  known_items d ++ begun.0,
  ap (λ (l : List (Option ℕ)). l ++ (known_items d ++ begun.0)) (sym (looked.1 ∙ (fits c refl).0)) ∙ sym (append_assoc (received d) (known_items d) begun.0) ∙ begun.1,
)

pub begun_raises : (p : PortValue) (s : ℕ) (cs ds : Rings) (run : List Entry) → AllLooked cs ds → Fits cs run → IsBegun p (ring_at ds s) → IsPrefix (raises_of s run) (sent p.producer)
begun_raises p s cs ds run looked fits begun = begun_at p s (ring_at cs s) (ring_at ds s) run (looked.1 s) (fits s) begun

pub all_prefix : (xs ys : List (Option ℕ)) → xs ≡ ys → IsPrefix xs ys
all_prefix xs ys e = ([], append-nil xs ∙ e)

-- a port's ring is its own after a look too
end_at : (p : PortValue) (c d : Option Reading) → HasLooked c d → IsEndOf p c → IsEndOf p d
end_at p None d looked end = absurd end
end_at p (Some c) None looked end = absurd looked
end_at p (Some c) (Some d) looked end = (looked.0.0.0 ∙ end.0, looked.0.0.1 ∙ end.1, looked.0.0.2 ∙ end.2, looked.0.0.3 ∙ end.3)

pub end_looked : (p : PortValue) (s : ℕ) (cs ds : Rings) → AllLooked cs ds → IsEndOf p (ring_at cs s) → IsEndOf p (ring_at ds s)
end_looked p s cs ds looked end = end_at p (ring_at cs s) (ring_at ds s) (looked.1 s) end

whole_of : (p q : PortValue) (c : Option Reading) → sent q.producer ≡ sent p.producer → IsWhole q c → IsWhole p c
whole_of p q None same whole = whole
whole_of p q (Some c) same whole = whole ∙ same

-- what is all that a port posted is so of the port that comes back, and the other way round
pub whole_same : (p q : PortValue) (c : Option Reading) → SamePort p q → IsWhole q c → IsWhole p c
whole_same p q c same whole = whole_of p q c same.looked.1 whole

begun_of : (p q : PortValue) (c : Option Reading) → sent q.producer ≡ sent p.producer → IsBegun q c → IsBegun p c
begun_of p q None same begun = begun
begun_of p q (Some c) same begun = (begun.0, begun.1 ∙ same)

-- the same of what a port posted first
pub begun_same : (p q : PortValue) (c : Option Reading) → SamePort p q → IsBegun q c → IsBegun p c
begun_same p q c same begun = begun_of p q c same.looked.1 begun

first_at : (p : PortValue) (s : ℕ) (c : Option Reading) (run : List Entry) → FitsAt s c run → IsBegun p c → IsPrefix (raises_of s run) (sent p.producer)
first_at p s None run fits begun = absurd begun
first_at p s (Some c) run fits begun = (
  known_items c ++ begun.0,
  ap (λ (l : List (Option ℕ)). l ++ (known_items c ++ begun.0)) (sym (fits c refl).0) ∙ sym (append_assoc (received c) (known_items c) begun.0) ∙ begun.1,
)

-- where what is known of each port's ring was posted first, the raises were too
pub all_first : (rings : Rings) (run : List Entry) (ports : List PortValue) → Fits rings run → AllBegun rings ports → AllPostedFirst rings ports run
all_first rings run ports fits begun k p at end = first_at p p.slot (ring_at rings p.slot) run (fits p.slot) (begun k p at end)

-- and so they were before a look into the rings
pub first_looked : (rings seen : Rings) (run : List Entry) (ports : List PortValue) → AllLooked rings seen → Fits rings run → AllBegun seen ports → AllPostedFirst rings ports run
first_looked rings seen run ports looked fits begun k p at end = begun_raises p p.slot rings seen run looked fits (begun k p at (end_looked p p.slot rings seen looked end))
