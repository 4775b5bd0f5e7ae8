-- Lines that are run by several jobs, each by one.
use Rattle.std.proofs.Common.{◌≡◌, ◌⊎◌, ◌∙◌, ◌<◌, ◌==◌, ◌+◌, ◌*◌, ℕ, Bool, true, false, suc, List, [], ◌∷◌, ◌++◌, Option, None, Some, ap, arith, if◌then◌else◌, inl, inr, nat_le, refl, subst, sym, get_or}
use Rattle.std.specs.Global.{Vec}
use Rattle.std.specs.List.{Contains, slice_get}
use Rattle.std.proofs.lemmas.Bool.Decides.{eqb_tells, leb_tells}
use Rattle.std.proofs.lemmas.Option.{slice_get_within}
use Rattle.i3c_explore.specs.declared.node.Node.{Node}
use Rattle.i3c_explore.specs.declared.owners.Owners.{Owners}
use Rattle.i3c_explore.specs.Layers.{IsNextAt}
use Rattle.i3c_explore.specs.Owners.{AreOwned, number, own, own_below, owner}
use Rattle.i3c_explore.specs.Shares.{Gains, IsAdded, IsLed, by_line, by_track, by_tracks, longer}
use Rattle.i3c_explore.proofs.Counting.{by_tracks_from, in_by_tracks, longer_once, longer_track}
use Rattle.i3c_explore.proofs.Lists.{push_cases}

-- each line is of one or of the other
abbrev pub AreSplit : {L : Type 0} → (ℕ → ℕ → List L) → (ℕ → ℕ → List L) → (ℕ → ℕ → List L) → Type 0
AreSplit one other both = (k t : ℕ) → ((one k t ≡ both k t) × (other k t ≡ [])) ⊎ ((one k t ≡ []) × (other k t ≡ both k t))

-- there is no line where there are none
pub no_line : {L : Type 0} (lines : ℕ → List L) (places : List ℕ) (t : ℕ) (line : L) → lines t ≡ [] → IsNextAt lines places t line → ⊥
no_line {L} lines places t line none next =
    let found : slice_get [] (get_or places t 0) ≡ Some line = subst (λ (l : List L). slice_get l (get_or places t 0) ≡ Some line) none next in
    let lt = slice_get_within [] (get_or places t 0) line found in omega arith

pub line_as : {L : Type 0} (lines others : ℕ → List L) (places : List ℕ) (t : ℕ) (line : L) → lines t ≡ others t → IsNextAt lines places t line → IsNextAt others places t line
line_as {L} lines others places t line same next = subst (λ (l : List L). slice_get l (get_or places t 0) ≡ Some line) same next

pub tracks_as : {L : Type 0} (lines others : ℕ → List L) (places : List ℕ) (count : ℕ) (own : List (List ℕ × List (List ℕ))) (o : List ℕ × List (List ℕ))
    → ((t : ℕ) → (lines t ≡ others t) ⊎ (lines t ≡ [])) → Contains (by_tracks lines places count own) o → Contains (by_tracks others places count own) o
tracks_as lines others places count own o each c =
    let (t, lt, (line, next), (before, at, is)) = by_tracks_from lines places count own o c in elim (each t) [
      | inl same ↦ subst (λ (x : List ℕ × List (List ℕ)). Contains (by_tracks others places count own) x) (sym is)
          (in_by_tracks others places count own t line before lt (line_as lines others places t line same next) at)
      | inr none ↦ absurd (no_line lines places t line none next)
    ]

-- the orders that the lines of both lead on are those of the one, or of the other
pub tracks_split : {L : Type 0} (one other both : ℕ → ℕ → List L) (places : List ℕ) (k count : ℕ) (own : List (List ℕ × List (List ℕ))) (o : List ℕ × List (List ℕ))
    → AreSplit one other both → Contains (by_tracks (both k) places count own) o → Contains (by_tracks (one k) places count own) o ⊎ Contains (by_tracks (other k) places count own) o
tracks_split one other both places k count own o split c =
    let (t, lt, (line, next), (before, at, is)) = by_tracks_from (both k) places count own o c in elim (split k t) [
      | inl (same, _) ↦ inl (subst (λ (x : List ℕ × List (List ℕ)). Contains (by_tracks (one k) places count own) x) (sym is)
          (in_by_tracks (one k) places count own t line before lt (line_as (both k) (one k) places t line (sym same) next) at))
      | inr (_, same) ↦ inr (subst (λ (x : List ℕ × List (List ℕ)). Contains (by_tracks (other k) places count own) x) (sym is)
          (in_by_tracks (other k) places count own t line before lt (line_as (both k) (other k) places t line (sym same) next) at))
    ]

-- the orders of two nodes lead on to different ones
pub apart_next : {L : Type 0} (lines others : ℕ → List L) (one other : List ℕ) (share : ℕ → List (List ℕ × List (List ℕ))) (i j count : ℕ) (o : List ℕ × List (List ℕ))
    → ((o : List ℕ × List (List ℕ)) → Contains (share i) o → Contains (share j) o → i ≡ j)
    → Contains (by_tracks lines one count (share i)) o → Contains (by_tracks others other count (share j)) o → i ≡ j
apart_next lines others one other share i j count o apart c d =
    let (t, _, _, (a, at, is)) = by_tracks_from lines one count (share i) o c in
    let (u, _, _, (b, there, is')) = by_tracks_from others other count (share j) o d in
    let both : longer t a ≡ longer u b = sym is ∙ is' in
    let track : u ≡ t = sym (longer_track t u a b both) in
    let same : b ≡ a = sym (longer_once t a b (both ∙ ap (λ (v : ℕ). longer v b) track)) in
    apart a at (subst (λ (x : List ℕ × List (List ℕ)). Contains (share j) x) same there)

-- and so do the orders of one node, by lines of the one and of the other
pub apart_split : {L : Type 0} (one other both : ℕ → ℕ → List L) (p q : List ℕ) (share : ℕ → List (List ℕ × List (List ℕ))) (i j count : ℕ) (o : List ℕ × List (List ℕ)) → AreSplit one other both
    → ((o : List ℕ × List (List ℕ)) → Contains (share i) o → Contains (share j) o → i ≡ j)
    → Contains (by_tracks (one i) p count (share i)) o → Contains (by_tracks (other j) q count (share j)) o → ⊥
apart_split {L} one other both p q share i j count o split apart c d =
    let node : i ≡ j = apart_next (one i) (other j) p q share i j count o apart c d in
    let (t, _, (line, next), (a, _, is)) = by_tracks_from (one i) p count (share i) o c in
    let (u, _, (line', next'), (b, _, is')) = by_tracks_from (other j) q count (share j) o d in
    let track : t ≡ u = longer_track t u a b (sym is ∙ is') in elim (split i t) [
      | inl (_, none) ↦ no_line (other j) q u line' (subst (λ (k : ℕ). other k u ≡ []) node (subst (λ (v : ℕ). other i v ≡ []) track none)) next'
      | inr (none, _) ↦ no_line (one i) p t line none next
    ]

pub chosen : {L : Type 0} (b : Bool) (lines : List L) → b ≡ true → (if b then lines else []) ≡ lines
chosen {L} b lines is = ap (λ (c : Bool). let none : List L = [] in if c then lines else none) is

pub not_chosen : {L : Type 0} (b : Bool) (lines : List L) → b ≡ false → (if b then lines else []) ≡ []
not_chosen {L} b lines is = ap (λ (c : Bool). let none : List L = [] in if c then lines else none) is

below_is : (a b : ℕ) → a < b → nat_le (suc a) b ≡ true
below_is a b lt = elim (leb_tells (suc a) b) [ inl (is, _) ↦ is | inr (_, over) ↦ absurd (omega arith) ]

below_not : (a b : ℕ) → b < suc a → nat_le (suc a) b ≡ false
below_not a b le = elim (leb_tells (suc a) b) [ inl (_, lt) ↦ absurd (omega arith) | inr (is, _) ↦ is ]

-- a job runs lines that the jobs before it don't
pub own_split : {L : Type 0} (owners : Owners) (tracks job : ℕ) (lines : ℕ → List L) → AreSplit (own_below owners tracks job lines) (own owners tracks job lines) (own_below owners tracks (suc job) lines)
own_split owners tracks job lines k t = let at = owner owners tracks k t in elim (eqb_tells at job) [
  | inl (is, same) ↦ inr (
    not_chosen (nat_le (suc at) job) (lines t) (below_not at job (omega arith)),
    chosen (at == job) (lines t) is ∙ sym (chosen (nat_le (suc at) (suc job)) (lines t) (below_is at (suc job) (omega arith))),
  )
  | inr (apart, other) ↦ elim (leb_tells (suc at) job) [
    | inl (is, lt) ↦ inl (
      chosen (nat_le (suc at) job) (lines t) is ∙ sym (chosen (nat_le (suc at) (suc job)) (lines t) (below_is at (suc job) (omega arith))),
      not_chosen (at == job) (lines t) apart,
    )
    | inr (is, over) ↦ inr (
      not_chosen (nat_le (suc at) job) (lines t) is,
      not_chosen (at == job) (lines t) apart ∙ sym (not_chosen (nat_le (suc at) (suc job)) (lines t) (below_not at (suc job) (omega arith))),
    )
  ]
]

-- no job is below the first one
pub own_none : {L : Type 0} (owners : Owners) (tracks : ℕ) (lines : ℕ → List L) (k t : ℕ) → own_below owners tracks 0 lines k t ≡ []
own_none owners tracks lines k t = let at = owner owners tracks k t in not_chosen (nat_le (suc at) 0) (lines t) (below_not at 0 (omega arith))

-- one more line is noted
pub owned_more : (jobs new : List ℕ) (owner count : ℕ) → AreOwned jobs count → owner < count → new ≡ jobs ++ owner ∷ [] → AreOwned new count
owned_more jobs new owner count owned lt is k job found = elim (push_cases jobs owner job k (sym (ap (λ (l : List ℕ). slice_get l k) is) ∙ found)) [
  | inl before ↦ owned k job before
  | inr (_, same) ↦ subst (λ (j : ℕ). j < count) (sym same) lt
]

number_below : (found : Option ℕ) (count : ℕ) → 0 < count → ((job : ℕ) → found ≡ Some job → job < count) → number found < count
number_below None count some each = some
number_below (Some job) count some each = each job refl

-- each line is of one of the jobs
pub owner_within : (owners : Owners) (tracks count k t : ℕ) → AreOwned owners.jobs.items count → 0 < count → owner owners tracks k t < count
owner_within owners tracks count k t owned some =
    let place = number (slice_get owners.rows.items k) * tracks + t in number_below (slice_get owners.jobs.items place) count some (λ job is. owned place job is)

-- all jobs together run all lines
pub own_all : {L : Type 0} (owners : Owners) (tracks count : ℕ) (lines : ℕ → List L) → AreOwned owners.jobs.items count → 0 < count → (k t : ℕ) → own_below owners tracks count lines k t ≡ lines t
own_all owners tracks count lines owned some k t =
    let at = owner owners tracks k t in
    chosen (nat_le (suc at) count) (lines t) (below_is at count (owner_within owners tracks count k t owned some))

-- where nothing is noted, the first job does
pub own_alone : {L : Type 0} (owners : Owners) (tracks : ℕ) (lines : ℕ → List L) → owners.jobs.items ≡ [] → (k t : ℕ) → own owners tracks 0 lines k t ≡ lines t
own_alone owners tracks lines none k t =
    let place = number (slice_get owners.rows.items k) * tracks + t in
    let first : (number (slice_get owners.jobs.items place) == 0) ≡ true = ap (λ (l : List ℕ). number (slice_get l place) == 0) none in
    chosen (number (slice_get owners.jobs.items place) == 0) (lines t) first

-- what a line gains, where these are the lines of its track
pub gains_as : {S L : Type 0} (steps : S → L → ℕ → S → Type 0) (tracks : List (Vec L)) (lines others : ℕ → List L) (node : Node S) (old new : List (Node S)) (t : ℕ) → lines t ≡ others t
    → Gains steps tracks node old new (by_track lines node.places.items t) → Gains steps tracks node old new (by_track others node.places.items t)
gains_as {S} {L} steps tracks lines others node old new t same gains starts past own mine =
    subst (λ (l : List L). IsAdded (IsLed steps tracks starts past) old new (by_line (slice_get l (get_or node.places.items t 0)) t own)) same (gains starts past own mine)
