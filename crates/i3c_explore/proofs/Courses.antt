-- Block by block, every course is covered.
use Rattle.std.proofs.Common.{◌≡◌, ◌∙◌, ◌<◌, ◌≤◌, ◌+◌, ℕ, suc, zero, List, [], ◌∷◌, ◌++◌, ap, arith, inl, inr, length, length-append, refl, reverse, subst, sym}
use Rattle.std.specs.Global.{Vec}
use Rattle.std.specs.List.{Contains}
use Rattle.std.proofs.lemmas.Bool.Decides.{eqb_tells, leb_tells}
use Rattle.std.proofs.lemmas.List.{reverse-append}
use Rattle.i3c_explore.specs.declared.node.Node.{Node}
use Rattle.i3c_explore.specs.declared.turn.Turn.{Turn}
use Rattle.i3c_explore.specs.Blocks.{BreaksOn, IsBegun, IsCourse, IsShortestInPart, LeadsOn, block, turns}
use Rattle.i3c_explore.specs.Layers.{IsFirstBreak}
use Rattle.i3c_explore.specs.Orders.{Breaks, IsDetermined, IsExclusive, IsOrder, IsPrefix, Leads}
use Rattle.i3c_explore.specs.Parts.{BeginsIn, Part, block_part, fork}
use Rattle.i3c_explore.proofs.Opening.{InPart, in_block, of_block}
use Rattle.i3c_explore.proofs.Turns.{breaks_prefix}
use Rattle.i3c_explore.proofs.Blocks.{order_prefix, whole_longest}
use Rattle.i3c_explore.proofs.Covering.{leads_once}

-- each course of a part over `count` blocks leads to a node of the layer
abbrev pub HoldCourses : {S L : Type 0} → (S → L → ℕ → S → Type 0) → Part → ℕ → List (Vec (Vec L)) → S → ℕ → List (Node S) → Type 0
HoldCourses {S} steps part split blocks start count layer = (course : List (List Turn)) → IsCourse blocks course → BeginsIn part split course → length course ≡ count → (n : Node S) × Contains layer n × LeadsOn steps blocks start course n.state

-- each beginning of a course of the part over at most `count` blocks leads on
abbrev pub CoursesLead : {S L : Type 0} → (S → L → ℕ → S → Type 0) → Part → ℕ → List (Vec (Vec L)) → S → ℕ → Type 0
CoursesLead {S} steps part split blocks start count = (course : List (List Turn)) → IsBegun blocks course → BeginsIn part split course → length course ≤ count → (end : S) × LeadsOn steps blocks start course end

-- each node of the layer is reached by a course of the part over `count` blocks
abbrev pub ReachCourses : {S L : Type 0} → (S → L → ℕ → S → Type 0) → Part → ℕ → List (Vec (Vec L)) → S → ℕ → List (Node S) → Type 0
ReachCourses {S} steps part split blocks start count layer = (n : Node S) → Contains layer n → (course : List (List Turn)) × IsCourse blocks course × BeginsIn part split course × (length course ≡ count) × (n.order.items ≡ reverse (turns course)) × LeadsOn steps blocks start course n.state

pub lead_first : {S L : Type 0} (steps : S → L → ℕ → S → Type 0) (part : Part) (split : ℕ) (blocks : List (Vec (Vec L))) (start : S) → CoursesLead steps part split blocks start 0
lead_first steps part split blocks start [] begun fits le = (start, refl)
lead_first steps part split blocks start (order ∷ before) begun fits le = absurd (omega arith)

pub hold_first : {S L : Type 0} (steps : S → L → ℕ → S → Type 0) (part : Part) (split : ℕ) (blocks : List (Vec (Vec L))) (start : S) (n : Node S) (layer : List (Node S)) → layer ≡ n ∷ [] → n.state ≡ start → HoldCourses steps part split blocks start 0 layer
hold_first {S} steps part split blocks start n layer is same [] course fits len = (n, subst (λ (l : List (Node S)). Contains l n) (sym is) (0, omega arith, refl), same)
hold_first steps part split blocks start n layer is same (order ∷ before) course fits len = absurd (omega arith)

only_one : {A : Type 0} (x y : A) → Contains (x ∷ []) y → x ≡ y
only_one x y (zero, lt, is) = is
only_one x y (suc k, lt, is) = absurd (omega arith)

pub reach_first : {S L : Type 0} (steps : S → L → ℕ → S → Type 0) (part : Part) (split : ℕ) (blocks : List (Vec (Vec L))) (start : S) (n : Node S) (layer : List (Node S)) → layer ≡ n ∷ [] → n.state ≡ start → n.order.items ≡ [] → ReachCourses steps part split blocks start 0 layer
reach_first {S} steps part split blocks start n layer is same none m c =
    let alike : n ≡ m = only_one n m (subst (λ (l : List (Node S)). Contains l m) is c) in
    ([], tt, tt, refl, ap (λ (o : Node S). o.order.items) (sym alike) ∙ none, ap (λ (o : Node S). o.state) (sym alike) ∙ same)

-- the block that runs next
tracks_at : {L : Type 0} (blocks : List (Vec (Vec L))) (count j : ℕ) (tracks : List (Vec L)) → tracks ≡ block blocks count → j ≡ count → tracks ≡ block blocks j
tracks_at blocks count j tracks is same = is ∙ ap (λ (k : ℕ). block blocks k) (sym same)

pub lead_next : {S L : Type 0} (steps : S → L → ℕ → S → Type 0) (part : Part) (split : ℕ) (blocks : List (Vec (Vec L))) (start : S) (count : ℕ) (layer : List (Node S)) (tracks : List (Vec L)) → tracks ≡ block blocks count
    → CoursesLead steps part split blocks start count → HoldCourses steps part split blocks start count layer
    → ((s : Node S) → Contains layer s → (order : List Turn) → IsPrefix tracks order → InPart (block_part part split count) order → (end : S) × Leads steps tracks s.state order end) → CoursesLead steps part split blocks start (suc count)
lead_next steps part split blocks start count layer tracks is lead held all [] begun fits le = (start, refl)
lead_next {S} {L} steps part split blocks start count layer tracks is lead held all (order ∷ before) (course, lt, prefix) (earlier, fits) le = elim (eqb_tells (length before) count) [
  | inl (_, same) ↦ (
      let e : tracks ≡ block blocks (length before) = tracks_at blocks count (length before) tracks is same in
      let (n, c, led) = held before course earlier same in
      let (end, leads) = all n c order (subst (λ (t : List (Vec L)). IsPrefix t order) (sym e) prefix) (in_block part split count order (λ at. fits (same ∙ at))) in
      (end, (n.state, led, subst (λ (t : List (Vec L)). Leads steps t n.state order end) e leads))
      )
  | inr (_, other) ↦ lead (order ∷ before) (course, lt, prefix) (earlier, fits) (omega arith)
]

pub hold_next : {S L : Type 0} (steps : S → L → ℕ → S → Type 0) (part : Part) (split : ℕ) (blocks : List (Vec (Vec L))) (start : S) (count : ℕ) (layer ends : List (Node S)) (tracks : List (Vec L)) → tracks ≡ block blocks count
    → HoldCourses steps part split blocks start count layer
    → ((s : Node S) → Contains layer s → (order : List Turn) → IsOrder tracks order → InPart (block_part part split count) order → (n : Node S) × Contains ends n × Leads steps tracks s.state order n.state) → HoldCourses steps part split blocks start (suc count) ends
hold_next steps part split blocks start count layer ends tracks is held all [] course fits len = absurd (omega arith)
hold_next {S} {L} steps part split blocks start count layer ends tracks is held all (order ∷ before) (course, lt, whole) (earlier, fits) len =
    let same : length before ≡ count = omega arith in
    let e : tracks ≡ block blocks (length before) = tracks_at blocks count (length before) tracks is same in
    let (n, c, led) = held before course earlier same in
    let (m, d, leads) = all n c order (subst (λ (t : List (Vec L)). IsOrder t order) (sym e) whole) (in_block part split count order (λ at. fits (same ∙ at))) in
    (m, d, (n.state, led, subst (λ (t : List (Vec L)). Leads steps t n.state order m.state) e leads))

-- the turns of a course with one more order
turns_more : (start old new order before : List Turn) → old ≡ reverse before → new ≡ old ++ reverse order → new ≡ reverse (order ++ before)
turns_more start old new order before is more = more ∙ ap (λ (o : List Turn). o ++ reverse order) is ∙ sym (reverse-append order before)

pub reach_next : {S L : Type 0} (steps : S → L → ℕ → S → Type 0) (part : Part) (split : ℕ) (blocks : List (Vec (Vec L))) (start : S) (count : ℕ) (layer ends : List (Node S)) (tracks : List (Vec L)) → tracks ≡ block blocks count → count < length blocks
    → ReachCourses steps part split blocks start count layer
    → ((n : Node S) → Contains ends n → (s : Node S) × Contains layer s × ((order : List Turn) × IsOrder tracks order × InPart (block_part part split count) order × (n.order.items ≡ s.order.items ++ reverse order) × Leads steps tracks s.state order n.state))
    → ReachCourses steps part split blocks start (suc count) ends
reach_next {S} {L} steps part split blocks start count layer ends tracks is lt reached all n c =
    let (s, d, (order, whole, in_part, by, leads)) = all n c in
    let (course, was, earlier, len, before, led) = reached s d in
    let e : tracks ≡ block blocks (length course) = tracks_at blocks count (length course) tracks is len in (
      order ∷ course,
      (was, omega arith, subst (λ (t : List (Vec L)). IsOrder t order) e whole),
      (earlier, λ at. of_block part split count order in_part (sym len ∙ at)),
      ap suc len,
      turns_more [] s.order.items n.order.items order (turns course) before by,
      (s.state, led, subst (λ (t : List (Vec L)). Leads steps t s.state order n.state) e leads),
    )

-- courses of as many blocks have as many turns
same_turns : {L : Type 0} (blocks : List (Vec (Vec L))) (one other : List (List Turn)) → IsCourse blocks one → IsCourse blocks other → length one ≡ length other → length (turns one) ≡ length (turns other)
same_turns blocks [] [] a b len = refl
same_turns blocks [] (q ∷ other) a b len = absurd (omega arith)
same_turns blocks (p ∷ one) [] a b len = absurd (omega arith)
same_turns {L} blocks (p ∷ one) (q ∷ other) (a, lt, whole) (b, lt', whole') len =
    let same : length one ≡ length other = omega arith in
    let rest = same_turns blocks one other a b same in
    let alike : IsOrder (block blocks (length one)) q = subst (λ (k : ℕ). IsOrder (block blocks k) q) (sym same) whole' in
    let le = whole_longest (block blocks (length one)) p q whole (order_prefix (block blocks (length one)) q alike) in
    let ge = whole_longest (block blocks (length one)) q p alike (order_prefix (block blocks (length one)) p whole) in
    omega (arith, length-append p (turns one), length-append q (turns other))

-- and a course of more blocks has more
more_turns : {L : Type 0} (blocks : List (Vec (Vec L))) (course : List (List Turn)) (order : List Turn) → IsCourse blocks course → IsPrefix (block blocks (length course)) order
    → (other : List (List Turn)) → IsCourse blocks other → length course < length other → length order + length (turns course) ≤ length (turns other)
more_turns blocks course order is prefix [] b lt = absurd (omega arith)
more_turns {L} blocks course order is prefix (q ∷ other) (b, within, whole) lt = elim (eqb_tells (length other) (length course)) [
  | inl (_, same) ↦ (
      let alike : IsOrder (block blocks (length course)) q = subst (λ (k : ℕ). IsOrder (block blocks k) q) same whole in
      let le = whole_longest (block blocks (length course)) q order alike prefix in
      let rest = same_turns blocks course other is b (sym same) in
      omega (arith, length-append q (turns other))
      )
  | inr (_, apart) ↦ (let rest = more_turns blocks course order is prefix other b (omega arith) in omega (arith, length-append q (turns other)))
]

-- a course of fewer turns than one that breaks leads on
shorter_leads : {S L : Type 0} (steps : S → L → ℕ → S → Type 0) (part : Part) (split : ℕ) (blocks : List (Vec (Vec L))) (start : S) (layer : List (Node S)) (course : List (List Turn)) (order : List Turn)
    → IsCourse blocks course → IsPrefix (block blocks (length course)) order → CoursesLead steps part split blocks start (length course) → HoldCourses steps part split blocks start (length course) layer
    → ((from : Node S) → Contains layer from → (other : List Turn) → length other < length order → IsPrefix (block blocks (length course)) other → InPart (block_part part split (length course)) other → (end : S) × Leads steps (block blocks (length course)) from.state other end)
    → (other : List (List Turn)) → IsBegun blocks other → BeginsIn part split other → length (turns other) < length (turns (order ∷ course)) → (end : S) × LeadsOn steps blocks start other end
shorter_leads steps part split blocks start layer course order is prefix lead held shortest [] begun fits fewer = (start, refl)
shorter_leads {S} {L} steps part split blocks start layer course order is prefix lead held shortest (last ∷ other) (before, within, begun) (earlier, fits) fewer = elim (leb_tells (suc (length other)) (length course)) [
  | inl (_, le) ↦ lead (last ∷ other) (before, within, begun) (earlier, fits) le
  | inr (_, more) ↦ elim (eqb_tells (length other) (length course)) [
    | inl (_, same) ↦ (
        let (n, c, led) = held other before earlier same in
        let rest = same_turns blocks other course before is same in
        let less : length last < length order = omega (arith, length-append last (turns other), length-append order (turns course)) in
        let (end, leads) = shortest n c last less (subst (λ (k : ℕ). IsPrefix (block blocks k) last) same begun) (in_block part split (length course) last (λ at. fits (same ∙ at))) in
        (end, (n.state, led, subst (λ (k : ℕ). Leads steps (block blocks k) n.state last end) (sym same) leads))
        )
    | inr (_, apart) ↦ (
        let most = more_turns blocks course order is prefix other before (omega arith) in
        absurd (omega (arith, length-append last (turns other), length-append order (turns course)))
        )
  ]
]

-- an order that breaks a block breaks the blocks
pub shortest_break : {S L : Type 0} (steps : S → L → ℕ → S → Type 0) (breaks : S → L → ℕ → Type 0) (part : Part) (blocks : List (Vec (Vec L))) (start : S) (count : ℕ) (layer : List (Node S)) (tracks : List (Vec L)) (order : List Turn)
    → tracks ≡ block blocks count → count < length blocks → (fork blocks ≡ length blocks → part.index ≡ 0)
    → CoursesLead steps part (fork blocks) blocks start count → HoldCourses steps part (fork blocks) blocks start count layer → ReachCourses steps part (fork blocks) blocks start count layer
    → IsFirstBreak steps breaks (block_part part (fork blocks) count) tracks layer order → IsShortestInPart steps breaks part blocks start order
shortest_break {S} {L} steps breaks part blocks start count layer tracks order is lt only lead held reached first =
    let s = first.start in
    let split = fork blocks in
    let (course, was, earlier, len, before, led) = reached s first.at in
    let e : tracks ≡ block blocks (length course) = tracks_at blocks count (length course) tracks is len in
    let broken : Breaks steps breaks (block blocks (length course)) s.state first.turns = subst (λ (t : List (Vec L)). Breaks steps breaks t s.state first.turns) e first.broken in
    let prefix = breaks_prefix steps breaks (block blocks (length course)) s.state first.turns broken in
    let inside : length course < length blocks = omega arith in record {
      course = first.turns ∷ course;
      is = turns_more [] s.order.items order first.turns (turns course) before first.is;
      begun = (was, inside, prefix);
      in_part = ((earlier, λ at. of_block part split count first.turns first.in_part (sym len ∙ at)), only);
      broken = (s.state, led, broken);
      shortest = λ other begun (fits, _). shorter_leads steps part split blocks start layer course first.turns was prefix (subst (λ (k : ℕ). CoursesLead steps part split blocks start k) (sym len) lead)
          (subst (λ (k : ℕ). HoldCourses steps part split blocks start k layer) (sym len) held)
          (λ from c other less begun fits.
          let (end, leads) = first.shortest from c other less (subst (λ (t : List (Vec L)). IsPrefix t other) (sym e) begun) (subst (λ (k : ℕ). InPart (block_part part split k) other) len fits) in
          (end, subst (λ (t : List (Vec L)). Leads steps t from.state other end) e leads)) other begun fits;
    }

-- where steps are determined, so is what a course leads to
pub leads_on_once : {S L : Type 0} (steps : S → L → ℕ → S → Type 0) (blocks : List (Vec (Vec L))) (start : S) → IsDetermined steps
    → (course : List (List Turn)) (one other : S) → LeadsOn steps blocks start course one → LeadsOn steps blocks start course other → one ≡ other
leads_on_once steps blocks start determined [] one other a b = a ∙ sym b
leads_on_once {S} {L} steps blocks start determined (order ∷ before) one other (mid, led, leads) (mid', led', leads') =
    let same : mid' ≡ mid = leads_on_once steps blocks start determined before mid' mid led' led in
    leads_once steps (block blocks (length before)) mid determined order one other leads (subst (λ (s : S). Leads steps (block blocks (length before)) s order other) same leads')

-- the beginning of a course has no more blocks than there are
pub begun_within : {L : Type 0} (blocks : List (Vec (Vec L))) (course : List (List Turn)) → IsBegun blocks course → length course ≤ length blocks
begun_within blocks [] begun = omega arith
begun_within blocks (order ∷ before) (course, lt, prefix) = omega arith

-- where what leads on is the one run, and what breaks leads nowhere, nothing breaks
pub none_breaks : {S L : Type 0} (steps : S → L → ℕ → S → Type 0) (breaks : S → L → ℕ → Type 0) (blocks : List (Vec (Vec L))) (start : S) → IsDetermined steps → IsExclusive steps breaks
    → (course : List (List Turn)) (end : S) → LeadsOn steps blocks start course end → BreaksOn steps breaks blocks start course → ⊥
none_breaks steps breaks blocks start determined exclusive [] end leads broken = broken
none_breaks steps breaks blocks start determined exclusive ([] ∷ before) end leads (mid, led, broken) = broken
none_breaks {S} {L} steps breaks blocks start determined exclusive ((turn ∷ order) ∷ before) end (from, led, (mid, line, run, next, step)) (from', led', (mid', line', run', next', broken)) =
    let tracks = block blocks (length before) in
    let first : from' ≡ from = leads_on_once steps blocks start determined before from' from led' led in
    let same : mid' ≡ mid = leads_once steps tracks from determined order mid' mid (subst (λ (s : S). Leads steps tracks s order mid') first run') run in
    let alike : line' ≡ line = cc in
    exclusive mid end line turn.way (subst (λ (s : S). breaks s line turn.way) same (subst (λ (l : L). breaks mid' l turn.way) alike broken)) step
