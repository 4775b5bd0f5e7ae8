-- Blocks that are run one after another, up to the answer.
use Rattle.std.proofs.Common.{◌≡◌, ◌∙◌, ◌<◌, ◌+◌, ◌-◌, ◌++◌, ◌∷◌, ℕ, suc, Bool, List, [], Some, Err, ap, arith, inl, inr, length, refl, subst, sym}
use Rattle.std.specs.Global.{Vec}
use Rattle.std.proofs.lemmas.Bool.Decides.{eqb_tells}
use Rattle.i3c_explore.specs.declared.layer.Layer.{Layer}
use Rattle.i3c_explore.specs.declared.limits.Limits.{Limits}
use Rattle.i3c_explore.specs.declared.node.Node.{Node}
use Rattle.i3c_explore.specs.declared.stop.Stop.{Stop}
use Rattle.i3c_explore.specs.declared.stop.Stop.TheVariants.{Breaks, Memory, Most}
use Rattle.i3c_explore.specs.declared.turn.Turn.{Turn}
use Rattle.i3c_explore.specs.declared.walk.Explored.{Explored}
use Rattle.i3c_explore.specs.Blocks.{IsBegun, LeadsOn, block}
use Rattle.i3c_explore.specs.Counts.{IsShared}
use Rattle.i3c_explore.specs.Explorations.{AllLeadTo, BlockLeadsTo, Explores}
use Rattle.i3c_explore.specs.Layers.{IsAlone}
use Rattle.i3c_explore.specs.Notes.{BlockIsNoted, HasShape, IsUnmarked}
use Rattle.i3c_explore.specs.Numbers.{IsNumber}
use Rattle.i3c_explore.specs.Parts.{HasOrder, IsOfPart, Part, block_part, fork}
use Rattle.i3c_explore.specs.Runs.{AreRun}
use Rattle.i3c_explore.specs.Shares.{all_below}
use Rattle.i3c_explore.specs.Stops.{StopsIn}
use Rattle.i3c_explore.proofs.Courses.{CoursesLead, HoldCourses, ReachCourses, begun_within, hold_first, hold_next, lead_first, lead_next, leads_on_once, none_breaks, reach_first, reach_next, shortest_break}
use Rattle.i3c_explore.proofs.Layering.{AreRunSo, run_exceeds, run_first, run_next}
use Rattle.i3c_explore.proofs.Noting.{AreTold, ends_within, shape_all, told_next}
use Rattle.i3c_explore.proofs.Parting.{none_counted}
use Rattle.i3c_explore.proofs.Totals.{SharesCourses, all_counted, share_next, share_start}

-- each course of the part of the first blocks leads to a node of the layer, and each node is reached by one, within the limits
pub record IsWalked {S L : Type 0} (steps : S → L → ℕ → S → Type 0) (last : S → L → ℕ) (part : Part) (blocks : List (Vec (Vec L))) (start : S) (limits : Limits) (count : ℕ) (layer : List (Node S)) (left : Limits) : Type 0 where
  pub lead : CoursesLead steps part (fork blocks) blocks start count
  pub held : HoldCourses steps part (fork blocks) blocks start count layer
  pub reached : ReachCourses steps part (fork blocks) blocks start count layer
  pub run : AreRunSo steps last part blocks start limits count layer left
  pub counted : SharesCourses steps part (fork blocks) blocks start count layer

pub walked_first : {S L : Type 0} (steps : S → L → ℕ → S → Type 0) (last : S → L → ℕ) (part : Part) (blocks : List (Vec (Vec L))) (start : S) (limits : Limits) (first : Layer S)
    → IsAlone start first.nodes.items → first.limits ≡ limits → 0 < limits.states → IsWalked steps last part blocks start limits 0 first.nodes.items first.limits
walked_first steps last part blocks start limits first alone left some =
    let (n, is, same, none, one) = alone in let split = fork blocks in let layer = first.nodes.items in record {
      lead = lead_first steps part split blocks start;
      held = hold_first steps part split blocks start n layer is same;
      reached = reach_first steps part split blocks start n layer is same none;
      run = run_first steps last part blocks start limits first alone left (let e = ap length is in omega arith);
      counted = share_start steps part split blocks start n layer is same one;
    }

-- one more block
pub walked_next : {S L : Type 0} (steps : S → L → ℕ → S → Type 0) (last : S → L → ℕ) (part : Part) (blocks : List (Vec (Vec L))) (start : S) (limits : Limits) (count : ℕ) (starts found : Layer S) → count < length blocks
    → IsWalked steps last part blocks start limits count starts.nodes.items starts.limits → BlockLeadsTo steps last (block_part part (fork blocks) count) (block blocks count) starts found
    → IsWalked steps last part blocks start limits (count + 1) found.nodes.items found.limits
walked_next {S} {L} steps last part blocks start limits count starts found there was done =
    let split = fork blocks in let tracks = block blocks count in let layer = starts.nodes.items in let ends = found.nodes.items in let (runs, is, left) = done.run in
    let next : suc count ≡ count + 1 = omega arith in
    subst (λ (k : ℕ). IsWalked steps last part blocks start limits k ends found.limits) next (record {
      lead = lead_next steps part split blocks start count layer tracks refl was.lead was.held done.all;
      held = hold_next steps part split blocks start count layer ends tracks refl was.held done.ends;
      reached = reach_next steps part split blocks start count layer ends tracks refl there was.reached done.reached;
      run = run_next steps last part blocks start limits count layer ends starts.limits found.limits runs was.run is left done.states;
      counted = share_next steps part split blocks start count layer ends tracks refl there was.counted (done.counted was.counted.share was.counted.shared);
    })

-- what stops a block stops the exploration
pub walked_stops : {S L : Type 0} (steps : S → L → ℕ → S → Type 0) (last : S → L → ℕ) (breaks notes quiet : S → L → ℕ → Type 0) (part : Part) (blocks : List (Vec (Vec L))) (start : S) (limits : Limits) (count : ℕ) (starts : Layer S) (stop : Stop) → HasOrder part blocks → count < length blocks
    → IsWalked steps last part blocks start limits count starts.nodes.items starts.limits → StopsIn steps last breaks (block_part part (fork blocks) count) (block blocks count) starts stop
    → Explores steps last breaks notes quiet part blocks start limits (Err stop)
walked_stops steps last breaks notes quiet part blocks start limits count starts Memory has there was stops = tt
walked_stops steps last breaks notes quiet part blocks start limits count starts Most has there was over = (has, inr (run_exceeds steps last part blocks start limits count starts.nodes.items starts.limits there was.run over))
walked_stops steps last breaks notes quiet part blocks start limits count starts (Breaks order) has there was first =
    shortest_break steps breaks part blocks start count starts.nodes.items (block blocks count) order.items refl there has was.lead was.held was.reached first

-- all blocks have run
pub walked_all : {S L : Type 0} (steps : S → L → ℕ → S → Type 0) (last : S → L → ℕ) (breaks notes quiet : S → L → ℕ → Type 0) (part : Part) (blocks : List (Vec (Vec L))) (start : S) (limits : Limits) (count : ℕ) (left : Limits) (found : Explored S) → HasOrder part blocks → count ≡ length blocks
    → IsWalked steps last part blocks start limits count found.ends.items left
    → ((share : ℕ → List (List (List ℕ))) → IsShared found.ends.items share → IsNumber found.orders (length (all_below share (length found.ends.items))))
    → found.steps ≡ limits.steps - left.steps → AreTold steps notes quiet part blocks start count found.noted.items → AllLeadTo steps last breaks notes quiet part blocks start limits found
walked_all {S} {L} steps last breaks notes quiet part blocks start limits count left found has all was number spent told =
    let run = was.run in let runs = run.counted in
    let ran : run.runs ≡ found.steps = omega arith in
    let lead : (course : List (List Turn)) → IsBegun blocks course → IsOfPart part blocks course → (end : S) × LeadsOn steps blocks start course end = λ course begun fits. was.lead course begun fits.0 (let e = begun_within blocks course begun in omega arith) in record {
      all = lead;
      unbroken = λ determined exclusive course begun fits broken. let (end, leads) = lead course begun fits in none_breaks steps breaks blocks start determined exclusive course end leads broken;
      ends = λ course (is, len) (fits, _). was.held course is fits (len ∙ sym all);
      only = λ determined course (is, len) (fits, _) end leads.
          let (n, at, led) = was.held course is fits (len ∙ sym all) in (n, at, leads_on_once steps blocks start determined course n.state end led leads);
      reached = λ n at. let (course, is, fits, len, order, led) = was.reached n at in (course, (is, len ∙ all), (fits, has), order, led);
      counted = all_counted steps part blocks start count found.ends.items found.orders all has number was.counted;
      layers = record {
        run = λ _. subst (λ (k : ℕ). AreRun steps last part blocks start limits.states k found.ends.items found.steps) all (subst (λ (k : ℕ). AreRun steps last part blocks start limits.states count found.ends.items k) ran run.run);
        idle = λ never. absurd (never has);
      };
      states = run.narrow;
      within = omega arith;
      noted = record {
        noted = λ b t k is. let (course, begun, fits, ends, led) = told.only b t k is in (course, begun, (fits, has), ends, led);
        every = λ course begun (fits, _) b t k ends un. told.each course begun fits b t k ends (let e = ends_within blocks course b t k begun ends in omega arith) un;
        shape = let sized = told.sized in (omega arith, shape_all blocks found.noted.items (omega arith) (λ b lt. told.shape b (omega arith)));
      };
    }

-- a part without an order leads to nothing
pub walked_none : {S L : Type 0} (steps : S → L → ℕ → S → Type 0) (last : S → L → ℕ) (breaks notes quiet : S → L → ℕ → Type 0) (part : Part) (blocks : List (Vec (Vec L))) (start : S) (limits : Limits) (found : Explored S) → (HasOrder part blocks → ⊥)
    → found.ends.items ≡ [] → found.orders ≡ Some 0 → found.steps ≡ 0
    → length found.noted.items ≡ length blocks → ((b : ℕ) → HasShape (block blocks b) (block found.noted.items b)) → ((b : ℕ) → IsUnmarked (block found.noted.items b)) → AllLeadTo steps last breaks notes quiet part blocks start limits found
walked_none {S} {L} steps last breaks notes quiet part blocks start limits found never ends orders ran sized shape unmarked =
    let empty = ap length ends in
    let none : fork blocks ≡ length blocks = elim (eqb_tells (fork blocks) (length blocks)) [ inl (_, same) ↦ same | inr (_, other) ↦ absurd (never (λ e. absurd (other e))) ] in record {
      all = λ course begun (_, has). absurd (never has);
      unbroken = λ determined exclusive course begun (_, has) broken. never has;
      ends = λ course is (_, has). absurd (never has);
      only = λ determined course is (_, has) end leads. absurd (never has);
      reached = λ n (k, lt, _). absurd (omega arith);
      counted = none_counted steps part blocks start found.ends.items found.orders none (λ first. never (λ _. first)) empty orders;
      layers = record { run = λ has. absurd (never has); idle = λ _. (ends, ran) };
      states = omega arith;
      within = omega arith;
      noted = record {
        noted = λ b t k is. absurd (unmarked b t k is);
        every = λ course begun (_, has) b t k ends un. absurd (never has);
        shape = (sized, shape);
      };
    }

-- the marks of one more block
pub walked_told : {S L : Type 0} (steps : S → L → ℕ → S → Type 0) (last : S → L → ℕ) (notes quiet : S → L → ℕ → Type 0) (part : Part) (blocks : List (Vec (Vec L))) (start : S) (limits : Limits) (count : ℕ) (starts : Layer S) (marks : Vec (Vec Bool)) (noted new : List (Vec (Vec Bool))) → count < length blocks
    → IsWalked steps last part blocks start limits count starts.nodes.items starts.limits → BlockIsNoted steps notes quiet (block_part part (fork blocks) count) (block blocks count) starts.nodes.items marks.items
    → new ≡ noted ++ marks ∷ [] → AreTold steps notes quiet part blocks start count noted → AreTold steps notes quiet part blocks start (count + 1) new
walked_told {S} {L} steps last notes quiet part blocks start limits count starts marks noted new there was done is told =
    let next : suc count ≡ count + 1 = omega arith in
    subst (λ (l : List (Vec (Vec Bool))). AreTold steps notes quiet part blocks start (count + 1) l) (sym is)
    (subst (λ (k : ℕ). AreTold steps notes quiet part blocks start k (noted ++ marks ∷ [])) next (told_next steps notes quiet part blocks start count starts.nodes.items noted marks there was.reached was.held done told))
