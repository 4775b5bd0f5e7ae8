-- Numbers of slots, transposed: one bit more or less of them, and a contest from turn to turn.
use Rattle.std.proofs.Common.{◌≡◌, ◌≢◌, ℕ, zero, suc, ◌+◌, ◌-◌, ◌*◌, ◌/◌, ◌%◌, ◌^◌, ◌<◌, ◌≤◌, ◌==◌, min, max, List, length, set, replicate, slice_index, refl, ap, sym, subst, ◌∙◌, arith, inl, inr}
use Rattle.std.proofs.lemmas.Bool.{and_from, and_left, and_right, cases_eq, cases_lt, eq-eqb, eqb-true, ne_eqb}
use Rattle.std.proofs.lemmas.Nat.{and_le_l, one_shl, pow-add}
use Rattle.std.proofs.lemmas.Nat.Bits.{bit_at-lt, bit_at-trailing_zeros, bit_at-zero, bit_at_above, bit_at-pow_other, bit_at-pow_same, bit_at_and, bit_at_clear_other, bit_at_clear_same, bit_at_not, bit_at_or, bit_at_set_other, bit_at_set_same, bit_at_xor, same_from_bits}
use Rattle.std.proofs.lemmas.List.{get_or-replicate, get_or-set_other, get_or-set_same, length-replicate, length-set}
use Rattle.std.proofs.Math.Nat.{div-div-eq-div-mul, div-eq_of_lt, div-eq_of_lt-le, div-one, pow-suc}
use Rattle.std.specs.Int.{bit_at, bit_not, trailing_zeros, w64}
use Rattle.std.specs.Int.RustNames.{bit_or, bit_xor}
use lib.Bits.{bit_and}
use Rattle.i3c_wires.specs.declared.bit_columns.BitColumns.{BitColumns}
use Rattle.i3c_wires.specs.BitColumns.{AreTurned, IsNobody, IsWon, is_among}

-- ---- numbers

-- a word in which one bit is set, and one in which it is cleared
abbrev pub with_bit : ℕ → ℕ → ℕ
with_bit n k = bit_or n (1 * 2 ^ k % 2 ^ 64)

abbrev pub without_bit : ℕ → ℕ → ℕ
without_bit n k = bit_and n (bit_not w64 (1 * 2 ^ k % 2 ^ 64))

-- and one in which it is turned over
abbrev pub flipped : ℕ → ℕ → ℕ
flipped n k = bit_xor n (1 * 2 ^ k % 2 ^ 64)

flipped_same : (n k : ℕ) → k < 64 → bit_at (flipped n k) k ≡ (bit_at n k + 1) % 2
flipped_same n k l = ap (λ m. bit_at (bit_xor n m) k) (one_shl k 64 l) ∙ (bit_at_xor n (2 ^ k) k ∙ ap (λ b. (bit_at n k + b) % 2) (bit_at-pow_same k))

flipped_other : (n k i : ℕ) → k < 64 → i ≢ k → bit_at (flipped n k) i ≡ bit_at n i
flipped_other n k i l ne = ap (λ m. bit_at (bit_xor n m) i) (one_shl k 64 l) ∙ (bit_at_xor n (2 ^ k) i ∙ omega (arith, bit_at-pow_other k i ne, bit_at-lt n i))

-- the upper part of a number with one bit more
halved : (n j : ℕ) → n / 2 ^ j ≡ 2 * (n / 2 ^ suc j) + bit_at n j
halved n j = rw (pow-suc, ← div-div-eq-div-mul) (joined (n / 2 ^ j))
  where
    joined : (q : ℕ) → q ≡ 2 * (q / 2) + q % 2
    joined q = omega arith

bit_high : (n k i : ℕ) → bit_at (n / 2 ^ k) i ≡ bit_at n (k + i)
bit_high n k i = ap (λ q. q % 2) (div-div-eq-div-mul n (2 ^ k) (2 ^ i) ∙ ap (λ m. n / m) (sym (pow-add 2 k i)))

alike_above : (m n k : ℕ) → ((i : ℕ) → k ≤ i → bit_at m i ≡ bit_at n i) → m / 2 ^ k ≡ n / 2 ^ k
alike_above m n k h = same_from_bits _ _ (λ i. bit_high m k i ∙ (h (k + i) (omega arith) ∙ sym (bit_high n k i)))

-- some bit of a word that isn't 0
some_bit : (n : ℕ) → n ≢ 0 → n < 2 ^ 64 → (s : ℕ) × (s < 64) × (bit_at n s ≡ 1)
some_bit n some fits = let low = bit_at-trailing_zeros w64 n (omega (arith, some)) fits in (trailing_zeros w64 n, low.0, low.1)

-- ---- the contest

-- k bits before the end: each contender that is still in has the bits read so far, and each other one had a lower bit before
pub record Held (n : ℕ → ℕ) (among still bits k : ℕ) : Type 0 where
  pub within : (s : ℕ) → s < 64 → bit_at still s ≡ 1 → bit_at among s ≡ 1
  pub same : (s : ℕ) → s < 64 → bit_at still s ≡ 1 → n s / 2 ^ k ≡ bits / 2 ^ k
  pub lost : (s : ℕ) → s < 64 → bit_at among s ≡ 1 → bit_at still s ≡ 0 → bits / 2 ^ k < n s / 2 ^ k
  pub rest : (i : ℕ) → i < k → bit_at bits i ≡ 0
  pub some : still ≢ 0

-- before the turns that are left: no number has another bit below
pub record Contesting (n : ℕ → ℕ) (among turns bits still : ℕ) : Type 0 where
  pub left : ℕ
  pub held : Held n among still bits left
  pub below : (i : ℕ) → bit_at turns i ≡ 1 → i < left
  pub quiet : (i : ℕ) → i < left → bit_at turns i ≡ 0 → (s : ℕ) → s < 64 → bit_at (n s) i ≡ 0

-- the highest bit of a word
pub record IsHighest (turns t : ℕ) : Type 0 where
  pub low : 2 ^ t ≤ turns
  pub high : turns < 2 * 2 ^ t
  pub fits : t < 64

highest_one : (turns t : ℕ) → IsHighest turns t → bit_at turns t ≡ 1
highest_one turns t top = let q : turns / 2 ^ t ≡ 1 = div-eq_of_lt-le {k = 1} (2 ^ t) {m = turns} (omega (arith, top.low)) (omega (arith, top.high)) in ap (λ m. m % 2) q

highest_above : (turns t i : ℕ) → IsHighest turns t → t < i → bit_at turns i ≡ 0
highest_above turns t i top l = bit_at_above turns (suc t) i (rw pow-suc (omega (arith, top.high))) l

pub highest_less : (turns t : ℕ) → IsHighest turns t → without_bit turns t < turns
highest_less turns t top =
    let gone = bit_at_clear_same w64 turns t top.fits in
    let was = highest_one turns t top in
    let apart : without_bit turns t ≢ turns = λ e. absurd (omega (arith, sym gone ∙ (ap (λ m. bit_at m t) e ∙ was))) in
    omega (arith, apart, and_le_l turns (bit_not w64 (1 * 2 ^ t % 2 ^ 64)))

module _ (n : ℕ → ℕ) (among : ℕ) where
  -- one bit
  held_step : (still bits next read j : ℕ) → Held n among still bits (suc j) → read / 2 ^ suc j ≡ bits / 2 ^ suc j → ((i : ℕ) → i < j → bit_at read i ≡ 0) → next ≢ 0
      → ((s : ℕ) → s < 64 → bit_at next s ≡ 1 → (bit_at still s ≡ 1) × (bit_at (n s) j ≡ bit_at read j))
      → ((s : ℕ) → s < 64 → bit_at still s ≡ 1 → bit_at next s ≡ 0 → bit_at read j < bit_at (n s) j)
      → Held n among next read j
  held_step still bits next read j h up rest some stays goes = record {
    within = λ s l e. h.within s l (stays s l e).0;
    same = λ s l e. equal (n s) (stays s l e).1 (h.same s l (stays s l e).0);
    lost = λ s l e out. elim (cases_eq (bit_at still s) 1) [
      | inl in_before ↦ here (n s) (h.same s l in_before) (goes s l in_before out)
      | inr not_before ↦ before (n s) (h.lost s l e (omega (arith, not_before, bit_at-lt still s)))
    ];
    rest = rest;
    some = some;
  }
    where
      equal : (m : ℕ) → bit_at m j ≡ bit_at read j → m / 2 ^ suc j ≡ bits / 2 ^ suc j → m / 2 ^ j ≡ read / 2 ^ j
      equal m bit was = halved m j ∙ ((λ t. 2 * (was ∙ sym up) t + bit t) ∙ sym (halved read j))

      lower : (a b c d x y : ℕ) → a ≡ 2 * b + x → c ≡ 2 * d + y → b ≡ d → x < y → a < c
      lower a b c d x y p q e l = omega arith

      lower_before : (a b c d x y : ℕ) → a ≡ 2 * b + x → c ≡ 2 * d + y → b < d → x < 2 → a < c
      lower_before a b c d x y p q e l = omega arith

      here : (m : ℕ) → m / 2 ^ suc j ≡ bits / 2 ^ suc j → bit_at read j < bit_at m j → read / 2 ^ j < m / 2 ^ j
      here m was l = lower (read / 2 ^ j) (read / 2 ^ suc j) (m / 2 ^ j) (m / 2 ^ suc j) (bit_at read j) (bit_at m j) (halved read j) (halved m j) (up ∙ sym was) l

      before : (m : ℕ) → bits / 2 ^ suc j < m / 2 ^ suc j → read / 2 ^ j < m / 2 ^ j
      before m was = lower_before (read / 2 ^ j) (read / 2 ^ suc j) (m / 2 ^ j) (m / 2 ^ suc j) (bit_at read j) (bit_at m j) (halved read j) (halved m j) (subst (λ q. q < m / 2 ^ suc j) (sym up) was) (bit_at-lt read j)

  -- nobody drives 1
  held_quiet : (still bits j : ℕ) → Held n among still bits (suc j) → ((s : ℕ) → s < 64 → bit_at (n s) j ≡ 0) → Held n among still bits j
  held_quiet still bits j h zeros =
      held_step still bits still bits j h refl (λ i l. h.rest i (omega (arith, l))) h.some (λ s l e. (e, zeros s l ∙ sym (h.rest j (omega arith)))) (λ s l e out. absurd (omega (arith, e, out)))

  held_jump : (d left still bits : ℕ) → Held n among still bits (d + left) → ((i : ℕ) → left ≤ i → i < d + left → (s : ℕ) → s < 64 → bit_at (n s) i ≡ 0) → Held n among still bits left
  held_jump zero left still bits h zeros = let none : 0 + left ≡ left = omega arith in subst (Held n among still bits) none h
  held_jump (suc d) left still bits h zeros =
      let more : suc d + left ≡ suc (d + left) = omega arith in
      held_jump d left still bits (held_quiet still bits (d + left) (subst (Held n among still bits) more h) (zeros (d + left) (omega arith) (omega arith))) (λ i low high. zeros i low (omega arith))

  -- all contenders that are in drive 1
  held_one : (still bits t : ℕ) → t < 64 → Held n among still bits (suc t) → ((s : ℕ) → s < 64 → bit_at still s ≡ 1 → bit_at (n s) t ≡ 1) → Held n among still (with_bit bits t) t
  held_one still bits t fits h ones =
      held_step still bits still (with_bit bits t) t h (alike_above (with_bit bits t) bits (suc t) (λ i high. bit_at_set_other w64 bits t fits i (omega (arith, high))))
      (λ i l. bit_at_set_other w64 bits t fits i (omega (arith, l)) ∙ h.rest i (omega (arith, l))) h.some
      (λ s l e. (e, ones s l e ∙ sym (bit_at_set_same w64 bits t fits))) (λ s l e out. absurd (omega (arith, e, out)))

  -- some drive 0
  held_zero : (still bits zeros t : ℕ) → Held n among still bits (suc t) → zeros ≢ 0 → ((s : ℕ) → s < 64 → bit_at zeros s ≡ min (bit_at still s) (1 - bit_at (n s) t)) → Held n among zeros bits t
  held_zero still bits zeros t h some are =
      held_step still bits zeros bits t h refl (λ i l. h.rest i (omega (arith, l))) some stays goes
    where
      read : bit_at bits t ≡ 0
      read = h.rest t (omega arith)

      stay : (z a b : ℕ) → z ≡ min a (1 - b) → z ≡ 1 → a < 2 → (a ≡ 1) × (b ≡ 0)
      stay z a b e one l = (omega arith, omega arith)

      go : (z a b : ℕ) → z ≡ min a (1 - b) → z ≡ 0 → a ≡ 1 → 0 < b
      go z a b e none one = omega arith

      stays : (s : ℕ) → s < 64 → bit_at zeros s ≡ 1 → (bit_at still s ≡ 1) × (bit_at (n s) t ≡ bit_at bits t)
      stays s l e = let both = stay (bit_at zeros s) (bit_at still s) (bit_at (n s) t) (are s l) e (bit_at-lt still s) in (both.0, both.1 ∙ sym read)

      goes : (s : ℕ) → s < 64 → bit_at still s ≡ 1 → bit_at zeros s ≡ 0 → bit_at bits t < bit_at (n s) t
      goes s l e out = subst (λ b. b < bit_at (n s) t) (sym read) (go (bit_at zeros s) (bit_at still s) (bit_at (n s) t) (are s l) out e)

  -- before the first bit
  contesting_first : (any : ℕ) → among ≢ 0 → any < 2 ^ 64 → ((s : ℕ) → s < 64 → n s < 2 ^ 64) → ((i s : ℕ) → i < 64 → s < 64 → bit_at any i ≡ 0 → bit_at (n s) i ≡ 0) → Contesting n among any 0 among
  contesting_first any some fits fit known = record {
    left = 64;
    held = record {
      within = λ s l e. e;
      same = λ s l e. div-eq_of_lt (fit s l);
      lost = λ s l e out. absurd (omega (arith, e, out));
      rest = λ i l. bit_at-zero i;
      some = some;
    };
    below = λ i e. elim (cases_lt i 64) [ inl l ↦ l | inr high ↦ absurd (omega (arith, e, bit_at_above any 64 i fits high)) ];
    quiet = λ i l e s m. known i s l m e;
  }

  -- up to the next turn
  contesting_next : (turns bits still t : ℕ) → Contesting n among turns bits still → IsHighest turns t → Held n among still bits (suc t)
  contesting_next turns bits still t h top =
      let l : t < h.left = h.below t (highest_one turns t top) in
      let up : h.left ≡ (h.left - suc t) + suc t = omega (arith, l) in
      held_jump (h.left - suc t) (suc t) still bits (subst (Held n among still bits) up h.held) (λ i low high. h.quiet i (omega (arith, up, high)) (highest_above turns t i top low))

  -- and past it
  contesting_past : (turns bits still t next read : ℕ) → turns < 2 ^ 64 → Contesting n among turns bits still → IsHighest turns t → Held n among next read t → Contesting n among (without_bit turns t) read next
  contesting_past turns bits still t next read fits h top held = record {
    left = t;
    held = held;
    below = below;
    quiet = λ i l e s m. h.quiet i (omega (arith, l, h.below t (highest_one turns t top))) (sym (bit_at_clear_other w64 turns t top.fits i (omega (arith, l, top.fits)) (omega (arith, l))) ∙ e) s m;
  }
    where
      below : (i : ℕ) → bit_at (without_bit turns t) i ≡ 1 → i < t
      below i e = elim (cases_lt i t) [
        | inl l ↦ l
        | inr past ↦ elim (cases_lt i 64) [
          | inl low ↦ elim (cases_eq i t) [
            | inl same ↦ absurd (omega (arith, ap (bit_at (without_bit turns t)) (sym same) ∙ e, bit_at_clear_same w64 turns t top.fits))
            | inr other ↦ absurd (omega (arith, e, bit_at_clear_other w64 turns t top.fits i low other, highest_above turns t i top (omega (arith, past, other))))
          ]
          | inr high ↦ absurd (omega (arith, e, bit_at_above (without_bit turns t) 64 i (omega (arith, highest_less turns t top, fits)) high))
        ]
      ]

  -- the slots that drive 0 at a bit, of those that are in
  pub zeros_are : (still ones t : ℕ) → ones < 2 ^ 64 → ((s : ℕ) → s < 64 → bit_at ones s ≡ bit_at (n s) t) → (s : ℕ) → s < 64 → bit_at (bit_and still (bit_not w64 ones)) s ≡ min (bit_at still s) (1 - bit_at (n s) t)
  zeros_are still ones t fits turned s l = bit_at_and still (bit_not w64 ones) s ∙ ap (λ b. min (bit_at still s) b) (bit_at_not w64 ones s fits l ∙ ap (λ b. 1 - b) (turned s l))

  pub contesting_one : (turns bits still t ones : ℕ) → turns < 2 ^ 64 → ones < 2 ^ 64 → ((s : ℕ) → s < 64 → bit_at ones s ≡ bit_at (n s) t) → bit_and still (bit_not w64 ones) ≡ 0 → IsHighest turns t
      → Contesting n among turns bits still → Contesting n among (without_bit turns t) (with_bit bits t) still
  contesting_one turns bits still t ones fits ones_fit turned none top h =
      contesting_past turns bits still t still (with_bit bits t) fits h top (held_one still bits t top.fits (contesting_next turns bits still t h top) drive)
    where
      drives : (z a b : ℕ) → z ≡ min a (1 - b) → z ≡ 0 → a ≡ 1 → b < 2 → b ≡ 1
      drives z a b e zero_z one l = omega arith

      drive : (s : ℕ) → s < 64 → bit_at still s ≡ 1 → bit_at (n s) t ≡ 1
      drive s l e = drives (bit_at (bit_and still (bit_not w64 ones)) s) (bit_at still s) (bit_at (n s) t) (zeros_are still ones t ones_fit turned s l) (ap (λ m. bit_at m s) none ∙ bit_at-zero s) e (bit_at-lt (n s) t)

  pub contesting_zero : (turns bits still t ones : ℕ) → turns < 2 ^ 64 → ones < 2 ^ 64 → ((s : ℕ) → s < 64 → bit_at ones s ≡ bit_at (n s) t) → bit_and still (bit_not w64 ones) ≢ 0 → IsHighest turns t
      → Contesting n among turns bits still → Contesting n among (without_bit turns t) bits (bit_and still (bit_not w64 ones))
  contesting_zero turns bits still t ones fits ones_fit turned some top h =
      contesting_past turns bits still t (bit_and still (bit_not w64 ones)) bits fits h top
      (held_zero still bits (bit_and still (bit_not w64 ones)) t (contesting_next turns bits still t h top) some (zeros_are still ones t ones_fit turned))

  -- after the last bit
  contesting_held : (bits still : ℕ) → Contesting n among 0 bits still → Held n among still bits 0
  contesting_held bits still h =
      let whole : h.left ≡ h.left + 0 = omega arith in
      held_jump h.left 0 still bits (subst (Held n among still bits) whole h.held) (λ i low high. h.quiet i (omega (arith, whole, high)) (bit_at-zero i))

pub contest_first : (columns : BitColumns) (among : ℕ) → AreTurned columns → among ≢ 0 → columns.any < 2 ^ 64 → Contesting (slice_index columns.numbers) among columns.any 0 among
contest_first columns among turned some fits = contesting_first (slice_index columns.numbers) among columns.any some fits turned.fit (λ i s l m. turned.known i s l m)

pub contest_last : (numbers : List ℕ) (among bits still : ℕ) → still < 2 ^ 64 → Contesting (slice_index numbers) among 0 bits still → IsWon numbers among (record { bits = bits; winners = still })
contest_last numbers among bits still fits h = record {
  winners = λ s l. elim (cases_eq (bit_at still s) 1) [
    | inl in_it ↦ eq-eqb _ _ in_it ∙ sym (and_from (is_among among s) (slice_index numbers s == bits) (eq-eqb _ _ (held.within s l in_it)) (eq-eqb _ _ (same s l in_it)))
    | inr out ↦ ne_eqb _ _ out ∙ sym (elim (cases_eq (bit_at among s) 1) [
      | inl one ↦ and_right (is_among among s) (slice_index numbers s == bits) (ne_eqb _ _ (λ e. absurd (omega (arith, e, lost s l one out))))
      | inr none ↦ and_left (is_among among s) (slice_index numbers s == bits) (ne_eqb _ _ none)
    ])
  ];
  some = let one = some_bit still held.some fits in (one.0, one.1, eq-eqb _ _ one.2);
  lowest = λ s l e. elim (cases_eq (bit_at still s) 1) [
    | inl in_it ↦ omega (arith, same s l in_it)
    | inr out ↦ omega (arith, lost s l (eqb-true _ _ e) out)
  ];
}
  where
    held : Held (slice_index numbers) among still bits 0
    held = contesting_held (slice_index numbers) among bits still h

    same : (s : ℕ) → s < 64 → bit_at still s ≡ 1 → slice_index numbers s ≡ bits
    same s l e = sym (div-one (slice_index numbers s)) ∙ (held.same s l e ∙ div-one bits)

    lost : (s : ℕ) → s < 64 → bit_at among s ≡ 1 → bit_at still s ≢ 1 → bits < slice_index numbers s
    lost s l one out = omega (arith, held.lost s l one (omega (arith, out, bit_at-lt still s)), div-one (slice_index numbers s), div-one bits)

pub IsNobody-empty : (among : ℕ) → among ≡ 0 → IsNobody among
IsNobody-empty among e s l = ne_eqb _ _ (λ one. absurd (omega (arith, one, ap (λ m. bit_at m s) e ∙ bit_at-zero s)))

-- ---- no numbers yet

pub turned_none : (columns : BitColumns) → columns.numbers ≡ replicate 64 0 → columns.ones ≡ replicate 64 0 → AreTurned columns
turned_none columns numbers ones = record {
  every = ap length numbers ∙ length-replicate {A = ℕ} 64 0;
  bits = ap length ones ∙ length-replicate {A = ℕ} 64 0;
  fit = λ s l. omega (arith, number s l);
  turned = λ b s l m. ap (λ k. bit_at k s) (ap (λ ks. slice_index ks b) ones ∙ get_or-replicate {A = ℕ} 64 b 0 0 l) ∙ (bit_at-zero s ∙ sym (zero_bit b s m));
  known = λ b s l m e. zero_bit b s m;
}
  where
    number : (s : ℕ) → s < 64 → slice_index columns.numbers s ≡ 0
    number s l = ap (λ ks. slice_index ks s) numbers ∙ get_or-replicate {A = ℕ} 64 s 0 0 l

    zero_bit : (b s : ℕ) → s < 64 → bit_at (slice_index columns.numbers s) b ≡ 0
    zero_bit b s l = ap (λ k. bit_at k b) (number s l) ∙ bit_at-zero b

-- ---- one number anew

-- the bits at which the slot's number differs, except those that are left over, are turned over in the words
pub record Flipping (old now : List ℕ) (diff rest index : ℕ) : Type 0 where
  pub long : length now ≡ length old
  pub other : (b s : ℕ) → b < 64 → s ≢ index → bit_at (slice_index now b) s ≡ bit_at (slice_index old b) s
  pub due : (b : ℕ) → b < 64 → bit_at rest b ≡ 1 → (bit_at (slice_index now b) index ≡ bit_at (slice_index old b) index) × (bit_at diff b ≡ 1)
  pub done : (b : ℕ) → b < 64 → bit_at rest b ≡ 0 → bit_at (slice_index now b) index ≡ (bit_at (slice_index old b) index + bit_at diff b) % 2

pub Flipping-none : (old : List ℕ) (diff index : ℕ) → Flipping old old diff diff index
Flipping-none old diff index = record {
  long = refl;
  other = λ b s l ne. refl;
  due = λ b l e. (refl, e);
  done = λ b l e. same (bit_at (slice_index old b) index) (bit_at diff b) e (bit_at-lt (slice_index old b) index);
}
  where
    same : (x d : ℕ) → d ≡ 0 → x < 2 → x ≡ (x + d) % 2
    same x d e l = omega arith

-- the lowest bit that is left
lowest : (rest : ℕ) → rest ≢ 0 → rest < 2 ^ 64 → (trailing_zeros w64 rest < 64) × (bit_at rest (trailing_zeros w64 rest) ≡ 1)
lowest rest some fits = let low = bit_at-trailing_zeros w64 rest (omega (arith, some)) fits in (low.0, low.1)

pub flipping_less : (rest : ℕ) → rest ≢ 0 → rest < 2 ^ 64 → without_bit rest (trailing_zeros w64 rest) < rest
flipping_less rest some fits =
    let low = lowest rest some fits in
    let gone = bit_at_clear_same w64 rest (trailing_zeros w64 rest) low.0 in
    let apart : without_bit rest (trailing_zeros w64 rest) ≢ rest = λ e. absurd (omega (arith, sym gone ∙ (ap (λ m. bit_at m (trailing_zeros w64 rest)) e ∙ low.1))) in
    omega (arith, apart, and_le_l rest (bit_not w64 (1 * 2 ^ trailing_zeros w64 rest % 2 ^ 64)))

flipping_at : (old now : List ℕ) (diff rest index t : ℕ) → length old ≡ 64 → index < 64 → t < 64 → bit_at rest t ≡ 1 → Flipping old now diff rest index
    → Flipping old (set now t (flipped (slice_index now t) index)) diff (without_bit rest t) index
flipping_at old now diff rest index t long inside fits one h = record {
  long = length-set now t (flipped (slice_index now t) index) ∙ h.long;
  other = λ b s l ne. elim (cases_eq b t) [
    | inl e ↦ ap (λ k. bit_at k s) (here b e) ∙ (flipped_other (slice_index now t) index s inside ne ∙ (h.other t s fits ne ∙ ap (λ k. bit_at (slice_index old k) s) (sym e)))
    | inr apart ↦ ap (λ k. bit_at k s) (there b apart) ∙ h.other b s l ne
  ];
  due = λ b l e. elim (cases_eq b t) [
    | inl same ↦ absurd (omega (arith, ap (bit_at (without_bit rest t)) (sym same) ∙ e, bit_at_clear_same w64 rest t fits))
    | inr apart ↦ let was = h.due b l (sym (bit_at_clear_other w64 rest t fits b l apart) ∙ e) in (ap (λ k. bit_at k index) (there b apart) ∙ was.0, was.1)
  ];
  done = λ b l e. elim (cases_eq b t) [
    | inl same ↦ ap (λ k. bit_at k index) (here b same) ∙ (flipped_same (slice_index now t) index inside ∙ (turned ∙ ap (λ k. (bit_at (slice_index old k) index + bit_at diff k) % 2) (sym same)))
    | inr apart ↦ ap (λ k. bit_at k index) (there b apart) ∙ h.done b l (sym (bit_at_clear_other w64 rest t fits b l apart) ∙ e)
  ];
}
  where
    here : (b : ℕ) → b ≡ t → slice_index (set now t (flipped (slice_index now t) index)) b ≡ flipped (slice_index now t) index
    here b e = ap (slice_index (set now t (flipped (slice_index now t) index))) e ∙ get_or-set_same now t (flipped (slice_index now t) index) 0 (omega (arith, h.long, long, fits))

    there : (b : ℕ) → b ≢ t → slice_index (set now t (flipped (slice_index now t) index)) b ≡ slice_index now b
    there b ne = get_or-set_other now t b (flipped (slice_index now t) index) 0 ne

    turned : (bit_at (slice_index now t) index + 1) % 2 ≡ (bit_at (slice_index old t) index + bit_at diff t) % 2
    turned = let was = h.due t fits one in (λ u. (was.0 u + sym was.1 u) % 2)

pub flipping_step : (old now : List ℕ) (diff rest index : ℕ) → length old ≡ 64 → index < 64 → rest ≢ 0 → rest < 2 ^ 64 → Flipping old now diff rest index
    → Flipping old (set now (trailing_zeros w64 rest) (flipped (slice_index now (trailing_zeros w64 rest)) index)) diff (without_bit rest (trailing_zeros w64 rest)) index
flipping_step old now diff rest index long inside some fits h = let low = lowest rest some fits in flipping_at old now diff rest index (trailing_zeros w64 rest) long inside low.0 low.1 h

pub turned_set : (old new : BitColumns) (index number : ℕ) → index < 64 → number < 2 ^ 64
    → Flipping old.ones new.ones (bit_xor (slice_index old.numbers index) number) 0 index → new.numbers ≡ set old.numbers index number → new.any ≡ bit_or old.any number → AreTurned old → AreTurned new
turned_set old new index number inside fits h numbers any was = record {
  every = ap length numbers ∙ (length-set old.numbers index number ∙ was.every);
  bits = h.long ∙ was.bits;
  fit = λ s l. elim (cases_eq s index) [
    | inl e ↦ omega (arith, here s e, fits)
    | inr ne ↦ omega (arith, there s ne, was.fit s l)
  ];
  turned = λ b s l m. elim (cases_eq s index) [
    | inl e ↦ ap (bit_at (slice_index new.ones b)) e ∙ (h.done b l (bit_at-zero b) ∙ (turned b l ∙ ap (λ k. bit_at k b) (sym (here s e))))
    | inr ne ↦ h.other b s l ne ∙ (was.turned b s l m ∙ ap (λ k. bit_at k b) (sym (there s ne)))
  ];
  known = λ b s l m none.
      let neither : max (bit_at old.any b) (bit_at number b) ≡ 0 = sym (bit_at_or old.any number b) ∙ (ap (λ k. bit_at k b) (sym any) ∙ none) in
      elim (cases_eq s index) [
        | inl e ↦ ap (λ k. bit_at k b) (here s e) ∙ omega (arith, neither)
        | inr ne ↦ ap (λ k. bit_at k b) (there s ne) ∙ was.known b s l m (omega (arith, neither))
      ];
}
  where
    here : (s : ℕ) → s ≡ index → slice_index new.numbers s ≡ number
    here s e = ap (λ ks. slice_index ks s) numbers ∙ (ap (slice_index (set old.numbers index number)) e ∙ get_or-set_same old.numbers index number 0 (omega (arith, was.every, inside)))

    there : (s : ℕ) → s ≢ index → slice_index new.numbers s ≡ slice_index old.numbers s
    there s ne = ap (λ ks. slice_index ks s) numbers ∙ get_or-set_other old.numbers index s number 0 ne

    twice : (x y d : ℕ) → d ≡ (x + y) % 2 → y < 2 → (x + d) % 2 ≡ y
    twice x y d e l = omega arith

    turned : (b : ℕ) → b < 64 → (bit_at (slice_index old.ones b) index + bit_at (bit_xor (slice_index old.numbers index) number) b) % 2 ≡ bit_at number b
    turned b l = ap (λ x. (x + bit_at (bit_xor (slice_index old.numbers index) number) b) % 2) (was.turned b index l inside)
        ∙ twice (bit_at (slice_index old.numbers index) b) (bit_at number b) (bit_at (bit_xor (slice_index old.numbers index) number) b) (bit_at_xor (slice_index old.numbers index) number b) (bit_at-lt number b)
