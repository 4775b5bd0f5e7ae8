-- Which questions hold at an end, and the groups that are told one after another.
use Rattle.std.proofs.Common.{◌≡◌, ◌∙◌, ◌<◌, ◌≤◌, ◌+◌, ◌^◌, ◌++◌, ◌&&◌, ℕ, Bool, cond, false, true, not, List, [], ◌∷◌, Option, None, Some, ap, arith, drop, get_or, inl, inr, length, map, min, refl, subst, suc, sym, take}
use Rattle.std.specs.Global.{Vec}
use Rattle.std.specs.Prelude.{count_by, if◌then◌else◌, slice_get}
use Rattle.std.specs.Cmp.Lexicographic.{pointwise}
use Rattle.std.proofs.lemmas.List.{append-nil, append_assoc, get_or-map, length-drop}
use Rattle.std.proofs.lemmas.Option.{slice_get_cases, slice_get_read}
use mathlib.Core.Bool.{beq}
use Rattle.i3c_explore.specs.declared.node.Node.{Node}
use Rattle.i3c_facts.specs.declared.before.Before.{Before}
use Rattle.i3c_facts.specs.Hearing.{no_line}
use Rattle.i3c_lines.specs.declared.command.Command.{Command}
use Rattle.i3c_scene.specs.declared.line.Line.{Line}
use Rattle.i3c_scene.specs.declared.risk.Risk.{Risk}
use Rattle.i3c_scene.specs.Scenes.{Seen}
use Rattle.i3c_scene.specs.Trying.{LineBreaks, LineSteps, Runs, all_hold}
use Rattle.i3c_tracks.specs.declared.plan.Plan.{Plan}
use Rattle.i3c_tracks.specs.declared.question.Question.{Question}
use Rattle.i3c_tracks.specs.declared.showing.Showing.{Showing}
use Rattle.i3c_tracks.specs.Groups.{Adds, AreGroupTexts, IsExample, IsGroupText, LeadTo, answers_text, are_alike, begins_at, group_head, group_of, groups_in, holds_in, key_of, keys_of}
use Rattle.i3c_tracks.specs.Planning.{Step, step_of}
use Rattle.i3c_tracks.specs.Questions.{asking}
use Rattle.i3c_tracks.proofs.KeyLaws.{Tells, compared, count_images, kept_more, list_more, maps_at, maps_length, over, plus, plus_is, plus_more, unknown}

-- a line that does nothing leaves the state, and is no line before
still : (old : Seen) (command : Option Command) (risk : Risk) (before : Before) (new : Seen) → command ≡ None → Runs old command risk 0 before new → (new ≡ old) × (before ≡ no_line)
still old None risk before new none runs = runs
still old (Some command) risk before new none runs = absurd cc

and_true : (b : Bool) → (b && true) ≡ b
and_true true = refl
and_true false = refl

-- what the line of a question expects holds where the question does
expected_is : (scene : Seen) (line : Line) (question : Question) → step_of line ≡ asking question → all_hold scene no_line line.expectations.items ≡ holds_in scene question
expected_is scene line question is = ap (λ (s : Step). all_hold scene no_line s.expected) is ∙ and_true (holds_in scene question)

-- what is expected of the state behind such a line is expected of the state
expected_there : (scene new : Seen) (line : Line) (question : Question) (before : Before) (held : Bool) → step_of line ≡ asking question → Runs scene line.command line.risk 0 before new → all_hold new before line.expectations.items ≡ held → held ≡ holds_in scene question
expected_there scene new line question before held is runs all =
    let (same, none) = still scene line.command line.risk before new (ap (λ (s : Step). s.command) is) runs in
    sym (subst (λ (s : Seen). all_hold s no_line line.expectations.items ≡ held) same (subst (λ (b : Before). all_hold new b line.expectations.items ≡ held) none all)) ∙ expected_is scene line question is

-- a question is answered by running its line
pub answered : (scene new : Seen) (line : Line) (question : Question) (held : Bool) → step_of line ≡ asking question → (held ≡ true → LineSteps scene line 0 new) → (held ≡ false → LineBreaks scene line 0) → held ≡ holds_in scene question
answered scene new line question true is steps breaks = let (before, runs, all) = steps refl in expected_there scene new line question before true is runs all
answered scene new line question false is steps breaks = let (before, there, runs, all) = breaks refl in expected_there scene there line question before false is runs all

-- one answer more
pub key_more : (scene new : Seen) (asked : List Line) (questions : List Question) (key more : List Bool) (i : ℕ) (line : Line) (held : Bool) → map step_of asked ≡ map asking questions → key ≡ map (holds_in scene) (take i questions) → i < length asked → line ≡ get_or asked i line
    → (held ≡ true → LineSteps scene line 0 new) → (held ≡ false → LineBreaks scene line 0) → more ≡ key ++ held ∷ [] → more ≡ map (holds_in scene) (take (i + 1) questions)
key_more scene new asked questions key more i line held same so_far lt is steps breaks put =
    let few : length asked ≡ length questions = maps_length step_of asking asked questions same in
    elim (slice_get_cases questions i).1 [
      | inl w ↦
          let (question, within, there, at) = w in
          list_more (holds_in scene) key more questions i question held so_far put within (sym at) (answered scene new line question held (maps_at step_of asking asked questions i line question same lt is within (sym at)) steps breaks)
      | inr w ↦ absurd (omega (arith, few, w.0))
    ]

-- how the keys at two places compare
pub alike_at : (keys : List (Vec Bool)) (i place : ℕ) (one own : Vec Bool) (a b : List Bool) (test : Bool) → i < length keys → one ≡ get_or keys i one → place < length keys → own ≡ get_or keys place own → a ≡ one.items → b ≡ own.items → test ≡ pointwise beq a b
    → are_alike (get_or (map (λ (key : Vec Bool). key.items) keys) i []) (get_or (map (λ (key : Vec Bool). key.items) keys) place []) ≡ test
alike_at keys i place one own a b test lt is lt' is' first second compares =
    let here : get_or (map (λ (key : Vec Bool). key.items) keys) i [] ≡ a = get_or-map (λ (key : Vec Bool). key.items) keys i one [] lt ∙ ap (λ (key : Vec Bool). key.items) (sym is) ∙ sym first in
    let there : get_or (map (λ (key : Vec Bool). key.items) keys) place [] ≡ b = get_or-map (λ (key : Vec Bool). key.items) keys place own [] lt' ∙ ap (λ (key : Vec Bool). key.items) (sym is') ∙ sym second in
    ap (λ (k : List Bool). are_alike k (get_or (map (λ (key : Vec Bool). key.items) keys) place [])) here ∙ ap (λ (k : List Bool). are_alike a k) there ∙ sym (compared a b) ∙ sym compares

-- how the key at a place compares with another
pub alike_key : (keys : List (Vec Bool)) (i : ℕ) (one : Vec Bool) (a key : List Bool) (test : Bool) → i < length keys → one ≡ get_or keys i one → a ≡ one.items → test ≡ pointwise beq a key
    → are_alike (get_or (map (λ (key : Vec Bool). key.items) keys) i []) key ≡ test
alike_key keys i one a key test lt is first compares =
    let here : get_or (map (λ (key : Vec Bool). key.items) keys) i [] ≡ a = get_or-map (λ (key : Vec Bool). key.items) keys i one [] lt ∙ ap (λ (key : Vec Bool). key.items) (sym is) ∙ sym first in
    ap (λ (k : List Bool). are_alike k key) here ∙ sym (compared a key) ∙ sym compares

-- one place more, where a group begins or doesn't
pub groups_more : (keys : List (List Bool)) (i groups more : ℕ) → groups ≡ groups_in keys i → more ≡ (if begins_at keys i then suc groups else groups) → more ≡ groups_in keys (i + 1)
groups_more keys i groups more so_far is =
    is ∙ ap (λ (n : ℕ). if begins_at keys i then suc n else n) so_far ∙ ap (λ (n : ℕ). groups_in keys n) next
  where
    next : suc i ≡ i + 1
    next = omega arith

-- how many orders lead to some ends, unless one of them tells no number
pub total : List (Node Seen) → Option ℕ
total [] = Some 0
total (end ∷ ends) = plus end.orders (total ends)

-- they lead to the ends as many as are told
pub lead_by_total : (ends : List (Node Seen)) (told : Option ℕ) → Tells (total ends) told → LeadTo ends told
unfolding total
lead_by_total [] None tells = absurd (omega (arith, tells 0 refl))
lead_by_total [] (Some n) tells = ap Some (tells 0 refl)
lead_by_total (end ∷ ends) told tells = (total ends, lead_by_total ends (total ends) (λ n is. is), plus_is end.orders (total ends) told tells)

pub total_nil : total [] ≡ Some 0
unfolding total
total_nil = refl

-- what is left of a group, one end further
pub left_alike : (questions : List Question) (key : List Bool) (ends : List (Node Seen)) (i : ℕ) (end : Node Seen) → i < length ends → end ≡ get_or ends i end → are_alike (key_of questions end) key ≡ true
    → total (group_of questions key (drop i ends)) ≡ plus end.orders (total (group_of questions key (drop (i + 1) ends)))
unfolding total
left_alike questions key ends i end lt is alike =
    ap total (kept_more (λ (end : Node Seen). are_alike (key_of questions end) key) ends i end lt is)
    ∙ ap (λ (b : Bool). total (cond b (end ∷ group_of questions key (drop (i + 1) ends)) (group_of questions key (drop (i + 1) ends)))) alike

pub left_unlike : (questions : List Question) (key : List Bool) (ends : List (Node Seen)) (i : ℕ) (end : Node Seen) → i < length ends → end ≡ get_or ends i end → are_alike (key_of questions end) key ≡ false
    → total (group_of questions key (drop i ends)) ≡ total (group_of questions key (drop (i + 1) ends))
left_unlike questions key ends i end lt is unlike =
    ap total (kept_more (λ (end : Node Seen). are_alike (key_of questions end) key) ends i end lt is)
    ∙ ap (λ (b : Bool). total (cond b (end ∷ group_of questions key (drop (i + 1) ends)) (group_of questions key (drop (i + 1) ends)))) unlike

-- how the key of an end compares with another
pub alike_end : (keys : List (Vec Bool)) (questions : List Question) (ends : List (Node Seen)) (i : ℕ) (one : Vec Bool) (end : Node Seen) (a key : List Bool) (test : Bool) → map (λ (key : Vec Bool). key.items) keys ≡ keys_of questions ends → i < length keys → one ≡ get_or keys i one
    → i < length ends → end ≡ get_or ends i end → a ≡ one.items → test ≡ pointwise beq a key → are_alike (key_of questions end) key ≡ test
alike_end keys questions ends i one end a key test same lt is lt' is' first compares =
    ap (λ (k : List Bool). are_alike k key) (sym (maps_at (λ (key : Vec Bool). key.items) (key_of questions) keys ends i one end same lt is lt' is') ∙ sym first) ∙ sym (compared a key) ∙ sym compares

-- one end more that isn't of the group
pub unlike_more : (keys : List (Vec Bool)) (questions : List Question) (ends : List (Node Seen)) (i : ℕ) (one : Vec Bool) (a key : List Bool) (sum : ℕ) → map (λ (key : Vec Bool). key.items) keys ≡ keys_of questions ends → i < length keys → one ≡ get_or keys i one → i < length ends → a ≡ one.items → false ≡ pointwise beq a key
    → plus (Some sum) (total (group_of questions key (drop i ends))) ≡ total (group_of questions key ends) → plus (Some sum) (total (group_of questions key (drop (i + 1) ends))) ≡ total (group_of questions key ends)
unlike_more keys questions ends i one a key sum same lt is lt' first compares so_far =
    elim (slice_get_cases ends i).1 [
      | inl w ↦
          let (end, within, there, at) = w in
          ap (λ (rest : Option ℕ). plus (Some sum) rest) (sym (left_unlike questions key ends i end lt' (sym at) (alike_end keys questions ends i one end a key false same lt is lt' (sym at) first compares))) ∙ so_far
      | inr w ↦ absurd (omega (arith, w.0))
    ]

-- what is known of an end of the group: its orders, and how many lead to those before it
pub record IsNext (questions : List Question) (ends : List (Node Seen)) (key : List Bool) (i : ℕ) (end : Node Seen) (sum : ℕ) : Type 0 where
  pub within : i < length ends
  pub is : end ≡ get_or ends i end
  pub alike : are_alike (key_of questions end) key ≡ true
  pub so_far : plus (Some sum) (total (group_of questions key (drop i ends))) ≡ total (group_of questions key ends)

pub next_is : (keys : List (Vec Bool)) (questions : List Question) (ends : List (Node Seen)) (i : ℕ) (one : Vec Bool) (end : Node Seen) (a key : List Bool) (sum : ℕ) → map (λ (key : Vec Bool). key.items) keys ≡ keys_of questions ends → i < length keys → one ≡ get_or keys i one → i < length ends → end ≡ get_or ends i end
    → a ≡ one.items → true ≡ pointwise beq a key → plus (Some sum) (total (group_of questions key (drop i ends))) ≡ total (group_of questions key ends) → IsNext questions ends key i end sum
next_is keys questions ends i one end a key sum same lt is lt' is' first compares so_far = record {
  within = lt';
  is = is';
  alike = alike_end keys questions ends i one end a key true same lt is lt' is' first compares;
  so_far = so_far;
}

-- what leads to the ends before it, to it, and to those behind it
next_total : (questions : List Question) (ends : List (Node Seen)) (key : List Bool) (i : ℕ) (end : Node Seen) (sum : ℕ) (orders : Option ℕ) → IsNext questions ends key i end sum → end.orders ≡ orders
    → plus (Some sum) (plus orders (total (group_of questions key (drop (i + 1) ends)))) ≡ total (group_of questions key ends)
next_total questions ends key i end sum orders next is =
    ap (λ (o : Option ℕ). plus (Some sum) (plus o (total (group_of questions key (drop (i + 1) ends))))) (sym is) ∙ ap (λ (rest : Option ℕ). plus (Some sum) rest) (sym (left_alike questions key ends i end next.within next.is next.alike)) ∙ next.so_far

pub alike_more : (questions : List Question) (ends : List (Node Seen)) (key : List Bool) (i : ℕ) (end : Node Seen) (sum own more : ℕ) → IsNext questions ends key i end sum → end.orders ≡ Some own → more ≡ sum + own
    → plus (Some more) (total (group_of questions key (drop (i + 1) ends))) ≡ total (group_of questions key ends)
alike_more questions ends key i end sum own more next is adds =
    ap (λ (n : ℕ). plus (Some n) (total (group_of questions key (drop (i + 1) ends)))) adds ∙ sym (plus_more sum own (total (group_of questions key (drop (i + 1) ends)))) ∙ next_total questions ends key i end sum (Some own) next is

-- the orders that lead to an end are over what is told
pub none_told : (questions : List Question) (ends : List (Node Seen)) (key : List Bool) (i : ℕ) (end : Node Seen) (sum : ℕ) → IsNext questions ends key i end sum → end.orders ≡ None → LeadTo (group_of questions key ends) None
none_told questions ends key i end sum next is =
    lead_by_total (group_of questions key ends) None (subst (λ (t : Option ℕ). Tells t None) (next_total questions ends key i end sum None next is) (unknown sum (total (group_of questions key (drop (i + 1) ends)))))

-- those that lead to it and to the ends before it are
pub over_told : (questions : List Question) (ends : List (Node Seen)) (key : List Bool) (i : ℕ) (end : Node Seen) (sum own : ℕ) → IsNext questions ends key i end sum → end.orders ≡ Some own → 2 ^ 64 ≤ sum + own → LeadTo (group_of questions key ends) None
over_told questions ends key i end sum own next is large =
    lead_by_total (group_of questions key ends) None (subst (λ (t : Option ℕ). Tells t None) (next_total questions ends key i end sum (Some own) next is) (over sum own (total (group_of questions key (drop (i + 1) ends))) large))

-- the size of a group
pub size_is : (keys : List (List Bool)) (questions : List Question) (ends : List (Node Seen)) (key : List Bool) → keys ≡ keys_of questions ends → count_by (λ (one : List Bool). are_alike one key) keys ≡ length (group_of questions key ends)
size_is keys questions ends key same = ap (λ (ks : List (List Bool)). count_by (λ (one : List Bool). are_alike one key) ks) same ∙ count_images (key_of questions) (λ (one : List Bool). are_alike one key) ends

-- no question is left, or no answer
pub no_answers : (questions : List Question) (key : List Bool) (i : ℕ) → min (length questions) (length key) ≤ i → answers_text (drop i questions) (drop i key) ≡ []
no_answers questions key i few = go (drop i questions) (drop i key) (omega (arith, length-drop {A = Question}, length-drop {A = Bool}))
  where
    go : (qs : List Question) (k : List Bool) → min (length qs) (length k) ≡ 0 → answers_text qs k ≡ []
    go [] k none = refl
    go (q ∷ qs) [] none = refl
    go (q ∷ qs) (held ∷ k) none = absurd (omega (arith, none))

-- one end more
pub texts_more : (showing : Showing) (lines : List (Vec ℕ)) (plan : Plan) (questions : List Question) (ends : List (Node Seen)) (k before : ℕ) (end : Node Seen) (start old new earlier own : List ℕ) → AreGroupTexts showing lines plan questions ends k earlier → old ≡ start ++ earlier → slice_get ends k ≡ Some end
    → before ≡ groups_in (keys_of questions ends) k → Adds (begins_at (keys_of questions ends) k) showing lines plan questions ends (suc before) (suc k) end own → new ≡ old ++ own → (said : List ℕ) × AreGroupTexts showing lines plan questions ends (k + 1) said × (new ≡ start ++ said)
texts_more showing lines plan questions ends k before end start old new earlier own told so_far there groups adds put =
    let back : suc k ≡ k + 1 = omega arith in
    let more : AreGroupTexts showing lines plan questions ends (suc k) (earlier ++ own) =
    (earlier, own, end, told, there, subst (λ (n : ℕ). Adds (begins_at (keys_of questions ends) k) showing lines plan questions ends (suc n) (suc k) end own) groups adds, refl) in
    (earlier ++ own, subst (λ (n : ℕ). AreGroupTexts showing lines plan questions ends n (earlier ++ own)) back more, put ∙ ap (λ (t : List ℕ). t ++ own) so_far ∙ append_assoc start earlier own)

-- the group that begins at a place
pub group_told : (showing : Showing) (lines : List (Vec ℕ)) (plan : Plan) (questions : List Question) (ends : List (Node Seen)) (keys : List (Vec Bool)) (place number size : ℕ) (orders : Option ℕ) (end : Node Seen) (own : Vec Bool) (key : List Bool) (start headed answered new example : List ℕ)
    → map (λ (key : Vec Bool). key.items) keys ≡ keys_of questions ends → place < length ends → end ≡ get_or ends place end → own ≡ get_or keys place own → key ≡ own.items → size ≡ count_by (λ (one : List Bool). are_alike one key) (map (λ (key : Vec Bool). key.items) keys) → LeadTo (group_of questions key ends) orders
    → headed ≡ start ++ group_head number size orders (not plan.risky) → answered ≡ headed ++ answers_text questions key → IsExample showing lines plan (place + 1) end example → new ≡ answered ++ example
    → (end : Node Seen) × (said : List ℕ) × (slice_get ends place ≡ Some end) × IsGroupText showing lines plan questions ends number (suc place) end said × (new ≡ start ++ said)
group_told showing lines plan questions ends keys place number size orders end own key start headed answered new example same lt is own_is key_is size_is' lead head answers shown put =
    let few : length keys ≡ length ends = maps_length (λ (key : Vec Bool). key.items) (key_of questions) keys ends same in
    let lt' : place < length keys = omega arith in
    let here : key ≡ key_of questions end = key_is ∙ maps_at (λ (key : Vec Bool). key.items) (key_of questions) keys ends place own end same lt' own_is lt is in
    let next : place + 1 ≡ suc place = omega arith in
    let counted : size ≡ length (group_of questions key ends) = size_is' ∙ size_is (map (λ (key : Vec Bool). key.items) keys) questions ends key same in
    let first = group_head number size orders (not plan.risky) in
    let rest = answers_text questions key in (
      end,
      first ++ (rest ++ example),
      slice_get_read ends (length ends) place end refl lt is,
      subst (λ (k : List Bool). (orders : Option ℕ) × (example' : List ℕ) × LeadTo (group_of questions k ends) orders × IsExample showing lines plan (suc place) end example'
          × (first ++ (rest ++ example) ≡ group_head number (length (group_of questions k ends)) orders (not plan.risky) ++ (answers_text questions k ++ example'))) here
          (orders, example, lead, subst (λ (n : ℕ). IsExample showing lines plan n end example) next shown, ap (λ (n : ℕ). group_head number n orders (not plan.risky) ++ (rest ++ example)) counted),
      put ∙ ap (λ (t : List ℕ). t ++ example) (answers ∙ ap (λ (t : List ℕ). t ++ rest) head) ∙ append_assoc (start ++ first) rest example ∙ append_assoc start first (rest ++ example),
    )

-- an end at which no group begins
pub nothing_told : (showing : Showing) (lines : List (Vec ℕ)) (plan : Plan) (questions : List Question) (ends : List (Node Seen)) (place number : ℕ) (begins : Bool) (text : List ℕ) → place < length ends → begins ≡ false
    → (end : Node Seen) × (said : List ℕ) × (slice_get ends place ≡ Some end) × Adds begins showing lines plan questions ends number (suc place) end said × (text ≡ text ++ said)
nothing_told showing lines plan questions ends place number begins text lt is =
    elim (slice_get_cases ends place).1 [
      | inl w ↦ let (end, within, there, at) = w in (end, [], there, subst (λ (b : Bool). Adds b showing lines plan questions ends number (suc place) end []) (sym is) refl, sym (append-nil text))
      | inr w ↦ absurd (omega (arith, w.0))
    ]

-- an end at which one does
pub group_adds : (showing : Showing) (lines : List (Vec ℕ)) (plan : Plan) (questions : List Question) (ends : List (Node Seen)) (place before : ℕ) (begins : Bool) (old new : List ℕ) → begins ≡ true
    → (end : Node Seen) × (said : List ℕ) × (slice_get ends place ≡ Some end) × IsGroupText showing lines plan questions ends (before + 1) (suc place) end said × (new ≡ old ++ said)
    → (end : Node Seen) × (said : List ℕ) × (slice_get ends place ≡ Some end) × Adds begins showing lines plan questions ends (suc before) (suc place) end said × (new ≡ old ++ said)
group_adds showing lines plan questions ends place before begins old new is (end, said, there, told, put) =
    let next : before + 1 ≡ suc before = omega arith in
    let here : IsGroupText showing lines plan questions ends (suc before) (suc place) end said = subst (λ (n : ℕ). IsGroupText showing lines plan questions ends n (suc place) end said) next told in
    (end, said, there, subst (λ (b : Bool). Adds b showing lines plan questions ends (suc before) (suc place) end said) (sym is) here, put)

-- no more groups than ends
pub groups_few : (begins : Bool) (groups more i : ℕ) → more ≡ (if begins then suc groups else groups) → groups ≤ i → more ≤ i + 1
groups_few true groups more i is few = omega arith
groups_few false groups more i is few = omega arith
