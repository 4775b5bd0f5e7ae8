-- Each two ways are a pair, and those up to one have the numbers up to that of its last pair.
use Rattle.std.proofs.Common.{◌≡◌, ◌∙◌, ℕ, zero, suc, ◌+◌, ◌*◌, ◌-◌, ◌<◌, ◌≤◌, ◌==◌, Bool, ap, arith, eq-eqb, if◌then◌else◌, inl, inr, ne_eqb, refl}
use Rattle.std.proofs.Math.Nat.{mul-le-mul_left}
use Rattle.std.proofs.lemmas.Bool.Decides.{leb_tells}
use Rattle.i3c_scene.specs.declared.ways.Ways.{Ways}
use Rattle.i3c_scene.specs.Pairs.{last_pair, next_pair, pair, two_ways}

-- the pair behind one, by which way is larger
behind_first : (one other : ℕ) → other < one → next_pair one other ≡ (if suc other == one then two_ways 0 one else two_ways one (suc other))
behind_first one other lt = elim (leb_tells one other) [
  | inl (_, le) ↦ absurd (omega (arith, le, lt))
  | inr (e, _) ↦ ap (λ (b : Bool). if b then two_ways (suc one) (if one == other then 0 else other) else if suc other == one then two_ways 0 one else two_ways one (suc other)) e
]

behind_second : (one other : ℕ) → one ≤ other → next_pair one other ≡ two_ways (suc one) (if one == other then 0 else other)
behind_second one other le = elim (leb_tells one other) [
  | inl (e, _) ↦ ap (λ (b : Bool). if b then two_ways (suc one) (if one == other then 0 else other) else if suc other == one then two_ways 0 one else two_ways one (suc other)) e
  | inr (_, gt) ↦ absurd (omega (arith, gt, le))
]

-- the second way grows up to the first, the second device then has the larger way, the first way grows up to that, and the next larger way begins
grows : (most other : ℕ) → suc other < most → next_pair most other ≡ two_ways most (suc other)
grows most other lt = behind_first most other (omega (arith, lt)) ∙ ap (λ (b : Bool). if b then two_ways 0 most else two_ways most (suc other)) (ne_eqb (suc other) most (λ e. omega (arith, e, lt)))

turns : (other : ℕ) → next_pair (suc other) other ≡ two_ways 0 (suc other)
turns other = behind_first (suc other) other (omega arith) ∙ ap (λ (b : Bool). if b then two_ways 0 (suc other) else two_ways (suc other) (suc other)) (eq-eqb (suc other) (suc other) refl)

climbs : (one most : ℕ) → one < most → next_pair one most ≡ two_ways (suc one) most
climbs one most lt = behind_second one most (omega (arith, lt)) ∙ ap (λ (b : Bool). two_ways (suc one) (if b then 0 else most)) (ne_eqb one most (λ e. omega (arith, e, lt)))

ends : (most : ℕ) → next_pair most most ≡ two_ways (suc most) 0
ends most = behind_second most most (omega arith) ∙ ap (λ (b : Bool). two_ways (suc most) (if b then 0 else most)) (eq-eqb most most refl)

next : (ways after : Ways) (number : ℕ) → pair number ≡ ways → next_pair ways.one ways.other ≡ after → pair (suc number) ≡ after
next ways after number is leads = ap (λ (w : Ways). next_pair w.one w.other) is ∙ leads

-- the pair with a number that is written in another way
by : (number other : ℕ) (ways : Ways) → number ≡ other → pair other ≡ ways → pair number ≡ ways
by number other ways same is = ap (λ (n : ℕ). pair n) same ∙ is

-- the pairs whose larger way is `most`, from the square of it on: those in which it is the first device's
first_larger : (most other : ℕ) → pair (most * most) ≡ two_ways most 0 → other < most → pair (most * most + other) ≡ two_ways most other
first_larger most zero at lt = by (most * most + zero) (most * most) (two_ways most 0) (omega arith) at
first_larger most (suc other) at lt =
    by (most * most + suc other) (suc (most * most + other)) (two_ways most (suc other)) (omega arith)
    (next (two_ways most other) (two_ways most (suc other)) (most * most + other) (first_larger most other at (omega (arith, lt))) (grows most other lt))

-- and those in which it is the second device's
second_larger : (most one : ℕ) → pair (most * most) ≡ two_ways most 0 → one ≤ most → pair (most * most + most + one) ≡ two_ways one most
second_larger zero zero at le = at
second_larger (suc most) zero at le =
    by (suc most * suc most + suc most + zero) (suc (suc most * suc most + most)) (two_ways 0 (suc most)) (omega arith)
    (next (two_ways (suc most) most) (two_ways 0 (suc most)) (suc most * suc most + most) (first_larger (suc most) most at (omega arith)) (turns most))
second_larger most (suc one) at le =
    by (most * most + most + suc one) (suc (most * most + most + one)) (two_ways (suc one) most) (omega arith)
    (next (two_ways one most) (two_ways (suc one) most) (most * most + most + one) (second_larger most one at (omega (arith, le))) (climbs one most (omega (arith, le))))

begins : (most : ℕ) → pair (most * most) ≡ two_ways most 0
begins zero = refl
begins (suc most) =
    by (suc most * suc most) (suc (most * most + most + most)) (two_ways (suc most) 0) (omega arith)
    (next (two_ways most most) (two_ways (suc most) 0) (most * most + most + most) (second_larger most most (begins most) (omega arith)) (ends most))

-- the pair with a number, by how far it is behind the square
pub pair_first : (number most behind : ℕ) → number ≡ most * most + behind → behind < most → pair number ≡ two_ways most behind
pair_first number most behind is lt = by number (most * most + behind) (two_ways most behind) is (first_larger most behind (begins most) lt)

pub pair_second : (number most behind : ℕ) → number ≡ most * most + behind → most ≤ behind → behind ≤ most + most → pair number ≡ two_ways (behind - most) most
pair_second number most behind is ge le =
    by number (most * most + most + (behind - most)) (two_ways (behind - most) most) (omega (arith, is, ge)) (second_larger most (behind - most) (begins most) (omega (arith, le, ge)))

-- two ways up to one have a number up to that of its last pair
pub placed : (last one other : ℕ) → one ≤ last → other ≤ last → (number : ℕ) × (number ≤ last_pair last) × (pair number ≡ two_ways one other)
placed last one other le lo = elim (leb_tells one other) [
  | inl (_, up) ↦ (
      let wide : other * other ≤ other * last = mul-le-mul_left other lo in
      let long : last * other ≤ last * last = mul-le-mul_left last lo in
      (other * other + other + one, omega (arith, wide, long, up, lo), second_larger other one (begins other) up)
      )
  | inr (_, down) ↦ (
      let wide : one * one ≤ one * last = mul-le-mul_left one le in
      let long : last * one ≤ last * last = mul-le-mul_left last le in
      (one * one + other, omega (arith, wide, long, down, le), first_larger one other (begins one) (omega (arith, down)))
      )
]

pub each_pair : (one other : ℕ) → (number : ℕ) × (pair number ≡ two_ways one other)
each_pair one other =
    let (number, _, is) = placed (one + other) one other (omega arith) (omega arith) in
    (number, is)
