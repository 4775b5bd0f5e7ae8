-- The invariant of a contest: the bits read so far, and the contenders still in.
use Rattle.std.proofs.Common.{◌≡◌, ◌≢◌, ℕ, zero, suc, ◌+◌, ◌-◌, ◌*◌, ◌/◌, ◌%◌, ◌^◌, ◌<◌, ◌≤◌, ◌==◌, nat_lt, Bool, true, false, cond, List, [], ◌∷◌, get_or, map, refl, ap, sym, ◌∙◌, arith, not, ◌&&◌, inl, inr, ◌⊎◌, Option, Some, None}
use Rattle.std.proofs.lemmas.Bool.{cases_Bool, cases_lt, and_parts, and_cases, and_from, cond-true, cond-false, eqb-true, eqb-false, eq-eqb, both_ways, not_from_false, true_from_ne_false}
use Rattle.std.proofs.lemmas.Bool.Decides.{nat_tests}
use Rattle.std.proofs.lemmas.List.Elements.{All-from_recursion, All-weaker, All-contains, Contains-get_or, filter_agree}
use Rattle.std.proofs.Math.Nat.{div-div-eq-div-mul, pow-suc, pow-succ', div-eq_of_lt, div-one, sub_self}
use Rattle.std.specs.List.{All, AllByRecursion, Contains, filter, list_all}
use Rattle.i3c_base.specs.Cutting.{CutList, cut_of, is_by}
use Rattle.i3c_wires.specs.Contest.{AllLost, EachBit, LostIsBelow, drives_one, holders, is_cut, is_lost, is_one}
use Rattle.i3c_wires.specs.Masks.{is_at}
use mir.Val.{bool_byte}

-- ---- numbers: one bit more

-- the bits above the one with `left` bits after it
upper : (n left : ℕ) → n / 2 ^ suc left ≡ n / 2 ^ left / 2
upper n left = rw pow-suc (sym (div-div-eq-div-mul n (2 ^ left) 2))

next_holds : (q r : ℕ) (b : Bool) → (q == 2 * r + bool_byte b) ≡ (q / 2 == r && cond b (q % 2 == 1) (not (q % 2 == 1)))
next_holds q r true = grind (arith, nat_tests)
next_holds q r false = grind (arith, nat_tests)

next_small : (bits n : ℕ) (b : Bool) → bits < 2 ^ n → 2 * bits + bool_byte b < 2 ^ suc n
next_small bits n true l = rw pow-suc (omega arith)
next_small bits n false l = rw pow-suc (omega arith)

next_half : (n : ℕ) (b : Bool) → (2 * n + bool_byte b) / 2 ≡ n
next_half n true = omega arith
next_half n false = omega arith

next_low : (n : ℕ) (b : Bool) → ((2 * n + bool_byte b) % 2 == 1) ≡ b
next_low n true = grind (arith, nat_tests)
next_low n false = grind (arith, nat_tests)

next_upper : (n m : ℕ) (b : Bool) → (2 * n + bool_byte b) / 2 ^ suc m ≡ n / 2 ^ m
next_upper n m b = rw pow-succ' (sym (div-div-eq-div-mul (2 * n + bool_byte b) 2 (2 ^ m)) ∙ ap (λ h. h / 2 ^ m) (next_half n b))

next_full : (bits n : ℕ) (b : Bool) → b ≡ true → bits + 1 ≡ 2 ^ n → 2 * bits + bool_byte b + 1 ≡ 2 ^ suc n
next_full bits n true read e = rw pow-suc (omega arith)
next_full bits n false read e = cc

-- ---- lists

module _ {X : Type 0} where
  here : (x : X) (xs : List X) → Contains (x ∷ xs) x
  here x xs = (0, omega arith, refl)

  there : (x y : X) (xs : List X) → Contains xs y → Contains (x ∷ xs) y
  there x y xs h = (suc h.0, omega (arith, h.1), h.2)

  pub all_kept : (p q : X → Bool) (xs : List X) → list_all p (filter q xs) ≡ true → AllByRecursion (λ x. q x ≡ true → p x ≡ true) xs
  all_kept p q [] e = tt
  all_kept p q (x ∷ xs) e =
      elim (q x) as (λ t. list_all p (cond t (x ∷ filter q xs) (filter q xs)) ≡ true → (t ≡ true → p x ≡ true) × AllByRecursion (λ y. q y ≡ true → p y ≡ true) xs) [
        | true ↦ λ e. let parts = and_parts (p x) (list_all p (filter q xs)) e in (λ _. parts.0, all_kept p q xs parts.1)
        | false ↦ λ e. (λ no. cc, all_kept p q xs e)
      ] e

  -- an element that is kept and fails
  some_fails : (p q : X → Bool) (xs : List X) → list_all p (filter q xs) ≡ false → (x : X) × Contains xs x × (q x ≡ true) × (p x ≡ false)
  some_fails p q [] e = cc
  some_fails p q (x ∷ xs) e =
      elim (cases_Bool (q x)) [
        | inl kept ↦
            let split : (p x && list_all p (filter q xs)) ≡ false = sym (ap (list_all p) (cond-true (q x) (x ∷ filter q xs) (filter q xs) kept)) ∙ e in
            elim (and_cases (p x) (list_all p (filter q xs)) split) [
              | inl fails ↦ (x, here x xs, kept, fails)
              | inr rest ↦ let f = some_fails p q xs rest in (f.0, there x f.0 xs f.1, f.2, f.3)
            ]
        | inr out ↦ let f = some_fails p q xs (sym (ap (list_all p) (cond-false (q x) (x ∷ filter q xs) (filter q xs) out)) ∙ e) in (f.0, there x f.0 xs f.1, f.2, f.3)
      ]

  none_kept : (p : X → Bool) (xs : List X) → filter p xs ≡ [] → AllByRecursion (λ x. p x ≡ false) xs
  none_kept p [] e = tt
  none_kept p (x ∷ xs) e =
      elim (p x) as (λ t. cond t (x ∷ filter p xs) (filter p xs) ≡ [] → (t ≡ false) × AllByRecursion (λ y. p y ≡ false) xs) [
        | true ↦ λ e. cc
        | false ↦ λ e. (refl, none_kept p xs e)
      ] e

  all_both : (P Q R : X → Type 0) → ((x : X) → P x → Q x → R x) → (xs : List X) → AllByRecursion P xs → AllByRecursion Q xs → AllByRecursion R xs
  all_both P Q R f [] p q = tt
  all_both P Q R f (x ∷ xs) p q = (f x p.0 q.0, all_both P Q R f xs p.1 q.1)

map_none : {X Y : Type 0} (f : X → Y) (xs : List X) → map f xs ≡ [] → xs ≡ []
map_none f [] e = refl
map_none f (x ∷ xs) e = cc

-- ---- cuts

-- cut before this bit
abbrev pub is_before : ℕ → Option ℕ → Bool
is_before bit None = false
is_before bit (Some cut) = nat_lt cut bit

by_before : (bit : ℕ) (cut : Option ℕ) → is_before (suc bit) cut ≡ is_by bit cut
by_before bit None = refl
by_before bit (Some cut) = grind (arith, nat_tests)

before_or_at : (bit : ℕ) (cut : Option ℕ) → (not (is_before bit cut) && not (is_at bit cut)) ≡ not (is_by bit cut)
before_or_at bit None = refl
before_or_at bit (Some cut) = grind (arith, nat_tests)

before_first : (cut : Option ℕ) → is_before 0 cut ≡ false
before_first None = refl
before_first (Some cut) = grind (arith, nat_tests)

-- cut by a bit is cut by each later one
by_later : (bit last : ℕ) (cut : Option ℕ) → bit ≤ last → is_by last cut ≡ false → is_by bit cut ≡ false
by_later bit last None l h = refl
by_later bit last (Some cut) l h = grind (arith, nat_tests)

-- ---- the contenders that are in

-- in when `left` bits are still to come: the key agrees with what was read, and there was no cut before
abbrev pub stays : CutList → ℕ → ℕ → ℕ → ℕ × ℕ → Bool
stays cuts width left bits e = e.1 / 2 ^ left == bits && not (is_before (width - left) (cut_of cuts e.0))

-- drives at the bit after which `left` bits follow: the key agrees with what was read above it, and there was no cut by then
abbrev pub drives : CutList → ℕ → ℕ → ℕ → ℕ × ℕ → Bool
drives cuts width left bits e = e.1 / 2 ^ suc left == bits && not (is_cut cuts width left e)

pub drives_is : (cuts : CutList) (width left bits : ℕ) (e : ℕ × ℕ) → (stays cuts width (suc left) bits e && not (is_at (width - suc left) (cut_of cuts e.0))) ≡ drives cuts width left bits e
drives_is cuts width left bits e = shift (e.1 / 2 ^ suc left == bits) _ _ _ (before_or_at (width - suc left) (cut_of cuts e.0))
  where
    shift : (a b c d : Bool) → (not b && c) ≡ d → ((a && not b) && c) ≡ (a && d)
    shift true b c d h = h
    shift false b c d h = refl

-- a contender that stays after the bit drove what was read
pub stays_is : (cuts : CutList) (width left bits : ℕ) (b : Bool) (e : ℕ × ℕ) → left < width → stays cuts width left (2 * bits + bool_byte b) e ≡ (drives cuts width left bits e && cond b (drives_one left e) (not (drives_one left e)))
stays_is cuts width left bits b e l =
    let more : width - left ≡ suc (width - suc left) = omega arith in
    rw (more, by_before, next_holds, upper) (swap (e.1 / 2 ^ left / 2 == bits) _ _)
  where
    swap : (a b c : Bool) → ((a && b) && c) ≡ ((a && c) && b)
    swap true true true = refl
    swap true true false = refl
    swap true false true = refl
    swap true false false = refl
    swap false b c = refl

pub stays_first : (cuts : CutList) (width : ℕ) (e : ℕ × ℕ) → e.1 < 2 ^ width → stays cuts width width 0 e ≡ true
stays_first cuts width e l =
    let none : width - width ≡ 0 = omega arith in
    let start : e.1 / 2 ^ width ≡ 0 = div-eq_of_lt l in
    rw (none, before_first, start) refl

-- ---- what was read so far

-- each bit that was read so far is the AND of the contenders that drove there
abbrev EachSoFar : CutList → List (ℕ × ℕ) → ℕ → ℕ → ℕ → Type 0
EachSoFar cuts keys width left bits = (k : ℕ) → left + k < width → is_one k bits ≡ list_all (drives_one (left + k)) (filter (λ e. e.1 / 2 ^ suc (left + k) == bits / 2 ^ suc k && not (is_cut cuts width (left + k) e)) keys)

each_more : (cuts : CutList) (keys : List (ℕ × ℕ)) (width left bits : ℕ) (b : Bool) → b ≡ list_all (drives_one left) (filter (drives cuts width left bits) keys) → EachSoFar cuts keys width (suc left) bits → EachSoFar cuts keys width left (2 * bits + bool_byte b)
each_more cuts keys width left bits b e each zero l =
    let none : left + 0 ≡ left = omega arith in
    rw (none, div-one, next_half, next_low) e
each_more cuts keys width left bits b e each (suc m) l =
    let same : left + suc m ≡ suc left + m = omega arith in
    rw (same, next_upper, next_upper) (each m (omega (arith, l)))

-- a contender's leading bits were read, or they are above what was read, and above those of another contender
abbrev Held : List (ℕ × ℕ) → ℕ → ℕ → ℕ × ℕ → Type 0
Held keys left bits e = (e.1 / 2 ^ left ≡ bits) ⊎ ((bits < e.1 / 2 ^ left) × ((f : ℕ × ℕ) × Contains keys f × (f.1 / 2 ^ left < e.1 / 2 ^ left)))

-- what was read before the last `left` bits
pub record Reading (cuts : CutList) (keys : List (ℕ × ℕ)) (width left bits : ℕ) : Type 0 where
  pub within : left ≤ width
  pub small : bits < 2 ^ (width - left)
  pub held : (e : ℕ × ℕ) → Contains keys e → is_lost cuts width e ≡ false → Held keys left bits e
  pub each : EachSoFar cuts keys width left bits
  pub idle : keys ≡ [] → bits + 1 ≡ 2 ^ (width - left)

pub reading_none : (cuts : CutList) (keys : List (ℕ × ℕ)) (width : ℕ) → All (λ e. e.1 < 2 ^ width) keys → Reading cuts keys width width 0
reading_none cuts keys width fit = record {
  within = omega arith;
  small = rw sub_self (omega arith);
  held = λ e in_keys _. inl (div-eq_of_lt (All-contains (λ (e : ℕ × ℕ). e.1 < 2 ^ width) keys e fit in_keys));
  each = λ k l. absurd (omega (arith, l));
  idle = λ _. rw sub_self refl;
}

held_above : (q h bits : ℕ) (b : Bool) → h ≡ q / 2 → bits < h → 2 * bits + bool_byte b < q
held_above q h bits true e l = omega arith
held_above q h bits false e l = omega arith

held_more : (cuts : CutList) (keys : List (ℕ × ℕ)) (width left bits : ℕ) (b : Bool) (e : ℕ × ℕ) → left < width → b ≡ list_all (drives_one left) (filter (drives cuts width left bits) keys)
    → Contains keys e → is_lost cuts width e ≡ false → Held keys (suc left) bits e → Held keys left (2 * bits + bool_byte b) e
held_more cuts keys width left bits b e l read in_keys uncut (inr above) =
    let f = above.1 in
    inr (held_above (e.1 / 2 ^ left) (e.1 / 2 ^ suc left) bits b (upper e.1 left) above.0, (f.0, f.1, omega (arith, upper e.1 left, upper f.0.1 left, f.2)))
held_more cuts keys width left bits b e l read in_keys uncut (inl same) =
    elim b as (λ b. b ≡ list_all (drives_one left) (filter (drives cuts width left bits) keys) → Held keys left (2 * bits + bool_byte b) e) [
      | true ↦ λ read.
          let one : drives_one left e ≡ true = All-contains (λ x. drives cuts width left bits x ≡ true → drives_one left x ≡ true) keys e (All-from_recursion (λ x. drives cuts width left bits x ≡ true → drives_one left x ≡ true) keys (all_kept (drives_one left) (drives cuts width left bits) keys (sym read))) in_keys there_drives in
          inl (read_high (e.1 / 2 ^ left) (e.1 / 2 ^ suc left) bits (upper e.1 left) same one)
      | false ↦ λ read.
          let f = some_fails (drives_one left) (drives cuts width left bits) keys (sym read) in
          let f_agrees : f.0.1 / 2 ^ suc left ≡ bits = eqb-true _ _ (and_parts (f.0.1 / 2 ^ suc left == bits) (not (is_cut cuts width left f.0)) f.2).0 in
          let f_low : f.0.1 / 2 ^ left ≡ 2 * bits + 0 = read_below (f.0.1 / 2 ^ left) (f.0.1 / 2 ^ suc left) bits (upper f.0.1 left) f_agrees f.3 in
          elim (cases_Bool (drives_one left e)) [
            | inl one ↦ let high : e.1 / 2 ^ left ≡ 2 * bits + 1 = read_high (e.1 / 2 ^ left) (e.1 / 2 ^ suc left) bits (upper e.1 left) same one in inr (omega arith, (f.0, f.1, omega arith))
            | inr none ↦ inl (read_below (e.1 / 2 ^ left) (e.1 / 2 ^ suc left) bits (upper e.1 left) same none)
          ]
    ] read
  where
    read_high : (q h bits : ℕ) → h ≡ q / 2 → h ≡ bits → (q % 2 == 1) ≡ true → q ≡ 2 * bits + 1
    read_high q h bits e s o = let one : q % 2 ≡ 1 = eqb-true _ _ o in omega arith

    read_below : (q h bits : ℕ) → h ≡ q / 2 → h ≡ bits → (q % 2 == 1) ≡ false → q ≡ 2 * bits + 0
    read_below q h bits e s o = let none : q % 2 ≢ 1 = eqb-false _ _ o in omega arith

    there_drives : drives cuts width left bits e ≡ true
    there_drives = and_from (e.1 / 2 ^ suc left == bits) (not (is_cut cuts width left e)) (eq-eqb _ _ same) (not_from_false _ (by_later (width - suc left) (width - 1) (cut_of cuts e.0) (omega arith) uncut))

pub reading_more : (cuts : CutList) (keys : List (ℕ × ℕ)) (width left bits : ℕ) (b : Bool) → Reading cuts keys width (suc left) bits → b ≡ list_all (drives_one left) (filter (drives cuts width left bits) keys) → Reading cuts keys width left (2 * bits + bool_byte b)
reading_more cuts keys width left bits b r e =
    let more : width - left ≡ suc (width - suc left) = omega (arith, r.within) in
    record {
      within = omega (arith, r.within);
      small = rw more (next_small bits (width - suc left) b r.small);
      held = λ c in_keys uncut. held_more cuts keys width left bits b c (omega (arith, r.within)) e in_keys uncut (r.held c in_keys uncut);
      each = each_more cuts keys width left bits b e r.each;
      idle = λ none. rw more (next_full bits (width - suc left) b (e ∙ ap (λ ks. list_all (drives_one left) (filter (drives cuts width left bits) ks)) none) (r.idle none));
    }

-- ---- all bits were read

stays_last : (cuts : CutList) (width bits : ℕ) (e : ℕ × ℕ) → 0 < width → stays cuts width 0 bits e ≡ (e.1 == bits && not (is_lost cuts width e))
stays_last cuts width bits e l =
    let last : width - 0 ≡ suc (width - 1) = omega arith in
    rw (last, by_before, div-one) refl

pub read_holders : (cuts : CutList) (keys : List (ℕ × ℕ)) (width bits : ℕ) → 0 < width → map (λ e. e.0) (filter (stays cuts width 0 bits) keys) ≡ holders cuts keys width bits
read_holders cuts keys width bits l = ap (map (λ (e : ℕ × ℕ). e.0)) (filter_agree (stays cuts width 0 bits) (λ e. e.1 == bits && not (is_lost cuts width e)) (λ e. stays_last cuts width bits e l) keys)

held_last : (keys : List (ℕ × ℕ)) (bits : ℕ) (e : ℕ × ℕ) → Held keys 0 bits e → (e.1 ≡ bits) ⊎ ((bits < e.1) × ((f : ℕ × ℕ) × Contains keys f × (f.1 < e.1)))
held_last keys bits e (inl same) = inl (sym (div-one e.1) ∙ same)
held_last keys bits e (inr above) =
    let f = above.1 in
    inr (omega (arith, div-one e.1, above.0), (f.0, f.1, omega (arith, div-one e.1, div-one f.0.1, f.2)))

pub read_least : (cuts : CutList) (keys : List (ℕ × ℕ)) (width bits : ℕ) → Reading cuts keys width 0 bits → All (λ e. is_lost cuts width e ≡ false → bits ≤ e.1) keys
read_least cuts keys width bits r k d l uncut =
    let e : ℕ × ℕ = get_or keys k d in
    elim (held_last keys bits e (r.held e (Contains-get_or keys k d l) uncut)) [ inl same ↦ omega arith | inr above ↦ omega (arith, above.0) ]

-- all pass, or one that doesn't has the least number
some_least : (p : ℕ × ℕ → Bool) (xs : List (ℕ × ℕ)) → AllByRecursion (λ e. p e ≡ true) xs ⊎ ((m : ℕ × ℕ) × Contains xs m × (p m ≡ false) × AllByRecursion (λ f. p f ≡ false → m.1 ≤ f.1) xs)
some_least p [] = inl tt
some_least p (x ∷ xs) =
    elim (cases_Bool (p x)) [
      | inl pass ↦ elim (some_least p xs) [
        | inl all ↦ inl (pass, all)
        | inr m ↦ inr (m.0, there x m.0 xs m.1, m.2, (λ no. absurd (both_ways (p x) no pass), m.3))
      ]
      | inr fail ↦ elim (some_least p xs) [
        | inl all ↦ inr (x, here x xs, fail, (λ _. omega arith, all_both (λ e. p e ≡ true) (λ e. p e ≡ true) (λ f. p f ≡ false → x.1 ≤ f.1) (λ f yes _ no. absurd (both_ways (p f) no yes)) xs all all))
        | inr m ↦ elim (cases_lt m.0.1 x.1) [
          | inl less ↦ inr (m.0, there x m.0 xs m.1, m.2, (λ _. omega arith, m.3))
          | inr more ↦ inr (x, here x xs, fail, (λ _. omega arith, all_both (λ f. p f ≡ false → m.0.1 ≤ f.1) (λ f. p f ≡ false → m.0.1 ≤ f.1) (λ f. p f ≡ false → x.1 ≤ f.1) (λ f l _ no. omega (arith, more, l no)) xs m.3 m.3))
        ]
      ]
    ]

pub read_none : (cuts : CutList) (keys : List (ℕ × ℕ)) (width bits : ℕ) → Reading cuts keys width 0 bits → holders cuts keys width bits ≡ [] → AllLost cuts keys width ⊎ LostIsBelow cuts keys width
read_none cuts keys width bits r none =
    elim (some_least (is_lost cuts width) keys) [
      | inl all ↦ inl (All-from_recursion (λ e. is_lost cuts width e ≡ true) keys all)
      | inr m ↦ elim (held_last keys bits m.0 (r.held m.0 m.1 m.2)) [
        | inl same ↦ absurd (both_ways (m.0.1 == bits && not (is_lost cuts width m.0)) (All-contains (λ e. (e.1 == bits && not (is_lost cuts width e)) ≡ false) keys m.0 nobody m.1) (and_from (m.0.1 == bits) (not (is_lost cuts width m.0)) (eq-eqb m.0.1 bits same) (not_from_false (is_lost cuts width m.0) m.2)))
        | inr above ↦
            let f = above.1 in
            let least : All (λ e. is_lost cuts width e ≡ false → m.0.1 ≤ e.1) keys = All-from_recursion (λ e. is_lost cuts width e ≡ false → m.0.1 ≤ e.1) keys m.3 in
            inr (f.0, f.1, true_from_ne_false (is_lost cuts width f.0) (λ no. absurd (omega (arith, f.2, All-contains (λ e. is_lost cuts width e ≡ false → m.0.1 ≤ e.1) keys f.0 least f.1 no))), All-weaker (λ e. is_lost cuts width e ≡ false → m.0.1 ≤ e.1) (λ e. is_lost cuts width e ≡ false → f.0.1 < e.1) (λ e l no. omega (arith, f.2, l no)) keys least)
      ]
    ]
  where
    nobody : All (λ e. (e.1 == bits && not (is_lost cuts width e)) ≡ false) keys
    nobody = All-from_recursion (λ (e : ℕ × ℕ). (e.1 == bits && not (is_lost cuts width e)) ≡ false) keys (none_kept (λ (e : ℕ × ℕ). e.1 == bits && not (is_lost cuts width e)) keys (map_none (λ (e : ℕ × ℕ). e.0) (filter (λ e. e.1 == bits && not (is_lost cuts width e)) keys) none))

pub read_each : (cuts : CutList) (keys : List (ℕ × ℕ)) (width bits : ℕ) → Reading cuts keys width 0 bits → EachBit cuts keys width bits
read_each cuts keys width bits r k l = let same : 0 + k ≡ k = omega arith in rw same at (r.each k (omega (arith, l)))

pub read_idle : (cuts : CutList) (keys : List (ℕ × ℕ)) (width bits : ℕ) → Reading cuts keys width 0 bits → keys ≡ [] → bits ≡ 2 ^ width - 1
read_idle cuts keys width bits r none = let none_left : width - 0 ≡ width = omega arith in let full = rw none_left at (r.idle none) in omega (arith, full)

pub read_in_width : (cuts : CutList) (keys : List (ℕ × ℕ)) (width bits : ℕ) → Reading cuts keys width 0 bits → bits < 2 ^ width
read_in_width cuts keys width bits r = let none_left : width - 0 ≡ width = omega arith in rw none_left at r.small
