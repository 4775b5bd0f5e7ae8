-- What is left where a program's run is over leads on.
use Rattle.std.proofs.Common.{◌≡◌, ◌∙◌, ◌<◌, ◌≤◌, ◌+◌, ◌++◌, ◌∷◌, [], ℕ, Bool, true, false, IfOk, List, Contains, Option, None, Some, Err, Ok, Result, ap, arith, get_or, inl, inr, length, refl, reverse, subst, sym}
use Rattle.std.specs.List.{slice_get}
use Rattle.std.specs.Prelude.{IfErr, MatchOption, slice_index}
use Rattle.std.specs.Global.{Vec}
use Rattle.std.proofs.lemmas.Bool.Decides.{eqb_tells}
use Rattle.std.proofs.lemmas.List.{get_or_read_under}
use Rattle.std.proofs.lemmas.Option.{slice_get_past, slice_get_read}
use Rattle.i3c_explore.specs.declared.limits.Limits.{Limits}
use Rattle.i3c_explore.specs.declared.node.Node.{Node}
use Rattle.i3c_explore.specs.declared.stop.Stop.{Stop}
use Rattle.i3c_explore.specs.declared.turn.Turn.{Turn}
use Rattle.i3c_explore.specs.Blocks.{IsShortestInPart, LeadsOn}
use Rattle.i3c_explore.specs.declared.walk.Explored.{Explored}
use Rattle.i3c_explore.specs.Explorations.{Explores}
use Rattle.i3c_explore.specs.Stops.{ExceedsLimits}
use Rattle.i3c_explore.proofs.Parting.{of_whole}
use Rattle.i3c_explore.specs.Layers.{IsNextAt}
use Rattle.i3c_explore.specs.Orders.{lines_in, track}
use Rattle.i3c_explore.specs.Parts.{whole}
use Rattle.i3c_explore.specs.Reached.{AreReached, AreTaken, LeadsFrom, places_after}
use Rattle.i3c_every.specs.Closing.{AllLeadOn, AreDone, ClosesAll, IsBehind, LeavesAt, StopsClosing, StopsThere}
use Rattle.i3c_every.specs.Meeting.{FailsAt, IsBegunAt}
use Rattle.i3c_every.specs.declared.met.Met.{Met}
use Rattle.i3c_every.proofs.Between.{taken_of}

-- no block leads on by itself
pub none_lead : {S L : Type 0} (steps : S → L → ℕ → S → Type 0) (blocks : List (Vec (Vec L))) (start : S) → blocks ≡ [] → AllLeadOn steps blocks start
none_lead steps blocks start none [] whole = (start, refl)
none_lead steps blocks start none (order ∷ before) whole = absurd (omega (arith, whole.1, ap length none))

-- no line of a track is next behind the last track
pub none_behind : {L : Type 0} (tracks : List (Vec L)) (places : List ℕ) (t : ℕ) (line : L) → length tracks ≤ t → IsNextAt (track tracks) places t line → ⊥
none_behind {L} tracks places t line past is =
    let none : None ≡ Some line = subst (λ (o : Option (Vec L)). slice_get (lines_in o) (slice_index places t) ≡ Some line) (slice_get_past tracks t past) is in cc

-- a track has a next line where one is read at its place
next_read : {L : Type 0} (tracks : List (Vec L)) (t : ℕ) (own : Vec L) (lines : List L) → t < length tracks → own ≡ get_or tracks t own → lines ≡ own.items → track tracks t ≡ lines
next_read tracks t own lines within is same = ap lines_in (slice_get_read tracks (length tracks) t own refl within is) ∙ sym same

pub has_one : {L : Type 0} (tracks : List (Vec L)) (places : List ℕ) (t : ℕ) (own : Vec L) (lines : List L) (has : Bool) → t < length tracks → own ≡ get_or tracks t own → lines ≡ own.items
    → MatchOption (slice_get lines (slice_index places t)) (has ≡ false) (λ line. has ≡ true) → has ≡ true → AreDone tracks places → ⊥
has_one {L} tracks places t own lines has within is same told is_true done = go (slice_get lines (slice_index places t)) refl told
  where
    go : (o : Option L) → slice_get lines (slice_index places t) ≡ o → MatchOption o (has ≡ false) (λ line. has ≡ true) → ⊥
    go None e is_false = absurd cc
    go (Some line) e here = done t line (subst (λ (l : List L). slice_get l (slice_index places t) ≡ Some line) (sym (next_read tracks t own lines within is same)) e)

pub has_none : {L : Type 0} (tracks : List (Vec L)) (places : List ℕ) (t : ℕ) (own : Vec L) (lines : List L) (has : Bool) (line : L) → t < length tracks → own ≡ get_or tracks t own → lines ≡ own.items
    → MatchOption (slice_get lines (slice_index places t)) (has ≡ false) (λ line. has ≡ true) → has ≡ false → IsNextAt (track tracks) places t line → ⊥
has_none {L} tracks places t own lines has line within is same told is_false next =
    let here : slice_get lines (slice_index places t) ≡ Some line = subst (λ (l : List L). slice_get l (slice_index places t) ≡ Some line) (next_read tracks t own lines within is same) next in
    let is_true : has ≡ true = subst (λ (o : Option L). MatchOption o (has ≡ false) (λ line. has ≡ true)) here told in cc

-- what holds of a call's result
pub if_ok : {X E : Type 0} {P Q : X → Type 0} → (result : Result X E) → ((x : X) → P x → Q x) → IfOk result P → IfOk result Q
if_ok (Ok x) follows p = follows x p
if_ok (Err why) follows p = tt

pub if_err : {X E : Type 0} {P Q : E → Type 0} → (result : Result X E) → ((why : E) → P why → Q why) → IfErr result P → IfErr result Q
if_err (Ok x) follows p = tt
if_err (Err why) follows p = follows why p

module _ {S L : Type 0} (steps : S → L → ℕ → S → Type 0) (tracks : List (Vec L)) (rest : List (Vec (Vec L))) where
  -- from the first nodes at which nothing is left all leads on
  pub record AreClosed (nodes : List (Node S)) (count : ℕ) : Type 0 where
    pub closed : (k : ℕ) (node : Node S) → k < count → get_or nodes k node ≡ node → AreDone tracks node.places.items → AllLeadOn steps rest node.state

  pub closed_first : (nodes : List (Node S)) → AreClosed nodes 0
  closed_first nodes = record { closed = λ k node few at done. absurd (omega (arith, few)) }

  pub closed_next : (nodes : List (Node S)) (count : ℕ) (own : Node S) → count < length nodes → own ≡ get_or nodes count own → AreClosed nodes count → (AreDone tracks own.places.items → AllLeadOn steps rest own.state) → AreClosed nodes (count + 1)
  closed_next nodes count own within is was leads = record {
    closed = λ k node few at done. elim (eqb_tells k count) [
      | inl (_, same) ↦ (let one = one_node k node same few at in subst (λ (n : Node S). AllLeadOn steps rest n.state) one (leads (subst (λ (n : Node S). AreDone tracks n.places.items) (sym one) done)))
      | inr (_, other) ↦ was.closed k node (omega (arith, few, other)) at done
    ];
  }
    where
      one_node : (k : ℕ) (node : Node S) → k ≡ count → k < count + 1 → get_or nodes k node ≡ node → own ≡ node
      one_node k node same few at = get_or_read_under nodes count (length nodes) own node is within refl ∙ subst (λ (j : ℕ). get_or nodes j node ≡ node) same at

  pub closed_each : (nodes : List (Node S)) (count : ℕ) → length nodes ≤ count → AreClosed nodes count → (node : Node S) → Contains nodes node → AreDone tracks node.places.items → AllLeadOn steps rest node.state
  closed_each nodes count past was node (k, within, at) done = was.closed k node (omega (arith, within, past)) at done

  pub closed_all : (old : Met S) (start : Node S) (nodes : List (Node S)) → IsBegunAt old start → AreReached steps tracks start nodes → ((node : Node S) → Contains nodes node → AreDone tracks node.places.items → AllLeadOn steps rest node.state)
      → ClosesAll steps tracks rest old
  closed_all old start nodes begun reached leads order (taken, done) =
      let (node, there, (places, led)) = reached.all order (subst (λ (p : List ℕ). AreTaken tracks p order) (sym begun.places) taken) in
      let here : node.places.items ≡ places_after old.places.items order = places ∙ ap (λ (p : List ℕ). places_after p order) begun.places in (
        node.state,
        subst (λ (s : S). LeadsFrom steps tracks old.places.items s order node.state) begun.state (subst (λ (p : List ℕ). LeadsFrom steps tracks p start.state order node.state) begun.places led),
        leads node there (subst (AreDone tracks) (sym here) done),
      )

  -- a node at which nothing is left
  leaves : (old : Met S) (start node : Node S) (taken : List Turn) → IsBegunAt old start → AreDone tracks node.places.items → (node.places.items ≡ places_after start.places.items taken) × LeadsFrom steps tracks start.places.items start.state taken node.state → LeavesAt steps tracks old taken node.state
  leaves old start node taken begun done (places, led) =
      let here : node.places.items ≡ places_after old.places.items taken = places ∙ ap (λ (p : List ℕ). places_after p taken) begun.places in
      let leads = subst (λ (s : S). LeadsFrom steps tracks old.places.items s taken node.state) begun.state (subst (λ (p : List ℕ). LeadsFrom steps tracks p start.state taken node.state) begun.places led) in
      ((taken_of steps tracks old.places.items old.state taken node.state leads, subst (AreDone tracks) here done), leads)

  -- where an exploration from a node stopped
  pub stops_so : (last : S → L → ℕ) (breaks : S → L → ℕ → Type 0) (limits : Limits) (old : Met S) (start node : Node S) (nodes : List (Node S)) (stop : Stop) → IsBegunAt old start → AreReached steps tracks start nodes → Contains nodes node
      → StopsThere steps last breaks tracks rest limits node stop → StopsClosing steps last breaks tracks rest limits old stop
  stops_so last breaks limits old start node nodes (Stop.Breaks order) begun reached there (done, (later, is, shortest)) =
      let (taken, by, leads) = reached.from node there in
      inr (taken, node.state, later, leaves old start node taken begun done leads, shortest, is ∙ ap (λ (l : List Turn). l ++ later) (by ∙ ap (λ (l : List Turn). l ++ reverse taken) begun.order))
  stops_so last breaks limits old start node nodes Stop.Most begun reached there (done, over) =
      let (taken, by, leads) = reached.from node there in
      inr (taken, node.state, leaves old start node taken begun done leads, over)
  stops_so last breaks limits old start node nodes Stop.Memory begun reached there short = tt

  -- where lines that are left in the tracks stopped
  pub stopped_so : (last : S → L → ℕ) (breaks : S → L → ℕ → Type 0) (limits : Limits) (old : Met S) (stop : Stop) → FailsAt steps last breaks tracks limits old stop → StopsClosing steps last breaks tracks rest limits old stop
  stopped_so last breaks limits old (Stop.Breaks order) (inl short) = absurd cc
  stopped_so last breaks limits old Stop.Most (inl short) = absurd cc
  stopped_so last breaks limits old Stop.Memory fails = tt
  stopped_so last breaks limits old (Stop.Breaks order) (inr (start, begun, broken)) = inl (start, begun, broken)
  stopped_so last breaks limits old Stop.Most (inr (start, begun, over)) = inl (start, begun, over)

  -- an exploration from a node, told behind the node's order
  pub told_so : (last : S → L → ℕ) (breaks notes quiet : S → L → ℕ → Type 0) (limits : Limits) (node : Node S) (start : S) (stop told : Stop) → start ≡ node.state → AreDone tracks node.places.items → Explores steps last breaks notes quiet whole rest start limits (Err stop)
      → IsBehind node.order.items stop told → StopsThere steps last breaks tracks rest limits node told
  told_so last breaks notes quiet limits node start (Stop.Breaks order) (Stop.Breaks all) same done shortest is = (done, (order.items, is, subst (λ (s : S). IsShortestInPart steps breaks whole rest s order.items) same shortest))
  told_so last breaks notes quiet limits node start (Stop.Breaks order) Stop.Most same done shortest is = absurd cc
  told_so last breaks notes quiet limits node start (Stop.Breaks order) Stop.Memory same done shortest is = tt
  told_so last breaks notes quiet limits node start Stop.Most (Stop.Breaks all) same done over is = absurd cc
  told_so last breaks notes quiet limits node start Stop.Most Stop.Most same done over is = (done, subst (λ (s : S). ExceedsLimits steps last whole rest s limits) same over)
  told_so last breaks notes quiet limits node start Stop.Most Stop.Memory same done over is = tt
  told_so last breaks notes quiet limits node start Stop.Memory (Stop.Breaks all) same done over is = absurd cc
  told_so last breaks notes quiet limits node start Stop.Memory Stop.Most same done over is = absurd cc
  told_so last breaks notes quiet limits node start Stop.Memory Stop.Memory same done over is = tt

  -- an exploration that found all ends: each order leads on
  pub leads_so : (last : S → L → ℕ) (breaks notes quiet : S → L → ℕ → Type 0) (limits : Limits) (start state : S) (found : Explored S) → start ≡ state → Explores steps last breaks notes quiet whole rest start limits (Ok found) → AllLeadOn steps rest state
  leads_so last breaks notes quiet limits start state found same all course is =
      let (n, there, leads) = all.ends course is (of_whole rest course) in (n.state, subst (λ (s : S). LeadsOn steps rest s course n.state) same leads)
