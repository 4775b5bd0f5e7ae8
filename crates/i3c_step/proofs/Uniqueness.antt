-- Where nobody is lost, serving has one answer; a winner and its address are the only ones.
use Rattle.std.proofs.lemmas.Bool.{both_ways, false≢true}
use Rattle.std.proofs.Common.{◌≡◌, ℕ, ◌<◌, ◌≤◌, ◌∷◌, Option, Some, None, is_some, ◌⊎◌, inl, inr, sym, refl, ap, ◌∙◌, subst, arith}
use Rattle.i3c_base.specs.declared.requests.Fixed.{Fixed}
use Rattle.i3c_base.specs.declared.identity.Identity.{Identity}
use Rattle.i3c_base.specs.declared.requests.Request.{Request}
use Rattle.i3c_base.specs.declared.requests.Request.TheVariants.{Join, Role, Interrupt}
use Rattle.i3c_base.specs.declared.requests.Served.{Served}
use Rattle.i3c_base.specs.declared.requests.Served.TheVariants.{Quiet, Recorded, Refused, Torn, Joining, WantsRole}
use Rattle.i3c_base.specs.declared.device.Waiting.{Waiting}
use Rattle.i3c_base.specs.State.{Device, State}
use Rattle.i3c_base.specs.Cutting.{Lost}
use Rattle.i3c_base.specs.Serve.{IsRecorded, Serves, each_driver, recorded, without_front, without_join, without_role}
use Rattle.i3c_step.proofs.Maps.{same_device}
use Rattle.i3c_base.specs.declared.requests.Verdict.TheVariants.{Accept, Refuse}
use Rattle.std.specs.Int.{bit_at}
use Rattle.std.proofs.lemmas.Bool.{cases_eq, cases_order}
use Rattle.std.proofs.lemmas.Nat.Bits.{bit_at-lt, same_from_bits_below}
use Rattle.i3c_base.specs.Numbers.{IsBelow}
use Rattle.i3c_base.specs.State.{IsKept, IsPick}
use Rattle.i3c_base.specs.Serve.{DrivesByte, IsAnd, IsFirst, IsFront, IsLowestDriver, IsRead, NoneAsks, rank, verdict}
use Rattle.i3c_base.specs.Round.{IsAddressFor, IsWinner}
use Rattle.i3c_base.specs.Cutting.{nobody}

-- the order of identities is total, so a least one is unique
pub below_total : (i j : Identity) → IsBelow i j ⊎ (IsBelow j i ⊎ (i ≡ j))
below_total i j = elim (cases_order i.pid j.pid) [
  | inl p ↦ elim (cases_order i.bcr.0 j.bcr.0) [
    | inl q ↦ elim (cases_order i.dcr.0 j.dcr.0) [
      | inl r ↦ inr (inr (λ k. record { pid = p k; bcr = record { 0 = q k }; dcr = record { 0 = r k } }))
      | inr o ↦ elim o [ inl l ↦ inl (inr (inr (p, q, l))) | inr g ↦ inr (inl (inr (inr (sym p, sym q, g)))) ]
    ]
    | inr o ↦ elim o [ inl l ↦ inl (inr (inl (p, l))) | inr g ↦ inr (inl (inr (inl (sym p, g)))) ]
  ]
  | inr o ↦ elim o [ inl l ↦ inl (inl l) | inr g ↦ inr (inl (inl g)) ]
]

pub winner_unique : (st : State) (lost : Lost) (i j : Identity) → IsWinner st lost i → IsWinner st lost j → i ≡ j
winner_unique st lost i j h k = elim (below_total i j) [
  | inl b ↦ absurd (k.1 i h.0 b)
  | inr o ↦ elim o [ inl b ↦ absurd (h.1 j k.0 b) | inr e ↦ e ]
]

pick_unique : (st : State) (a b : ℕ) → IsPick st a → IsPick st b → a ≡ b
pick_unique st a b h k = elim (cases_order a b) [
  | inl e ↦ e
  | inr o ↦ elim o [ inl l ↦ absurd (k.1 a l h.0) | inr g ↦ absurd (h.1 b g k.0) ]
]

kept_unique : (st : State) (i : Identity) (a b : ℕ) → IsKept st i a → IsKept st i b → a ≡ b
kept_unique st i a b h k = elim (cases_order a b) [
  | inl e ↦ e
  | inr o ↦ elim o [ inl l ↦ absurd (k.1 a l h.0) | inr g ↦ absurd (h.1 b g k.0) ]
]

pub address_unique : (st : State) (i : Identity) (a b : ℕ) → IsAddressFor st i a → IsAddressFor st i b → a ≡ b
address_unique st i a b h k = elim h [
  | inl x ↦ elim k [ inl y ↦ kept_unique st i a b x y | inr y ↦ absurd (y.0 a x.0) ]
  | inr x ↦ elim k [ inl y ↦ absurd (x.0 b y.0) | inr y ↦ pick_unique st a b x.1 y.1 ]
]

-- the first request is unique
rank_unique : (r q : Request) → rank r ≡ rank q → r ≡ q
rank_unique Join Join h = refl
rank_unique Join (Role b) h = absurd (omega arith)
rank_unique Join (Interrupt b) h = absurd (omega arith)
rank_unique (Role a) Join h = absurd (omega arith)
rank_unique (Role a) (Role b) h = let e : a ≡ b = omega arith in ap Role e
rank_unique (Role a) (Interrupt b) h = absurd (omega arith)
rank_unique (Interrupt a) Join h = absurd (omega arith)
rank_unique (Interrupt a) (Role b) h = absurd (omega arith)
rank_unique (Interrupt a) (Interrupt b) h = let e : a ≡ b = omega arith in ap Interrupt e

pub first_unique : (st : State) (r q : Request) → IsFirst st r → IsFirst st q → r ≡ q
first_unique st r q f g =
    let up : rank r ≤ rank q = f.first g.driven.0 q g.driven.1 in
    let down : rank q ≤ rank r = g.first f.driven.0 r f.driven.1 in
    rank_unique r q (omega arith)

-- an AND is unique
pub and_unique : (u v : ℕ) (D : ℕ → ℕ → Type 0) → IsAnd u D → IsAnd v D → u ≡ v
and_unique u v D h k = same_from_bits_below 8 u v h.0 k.0 (λ i l. go i l (cases_eq (bit_at u i) 1) (cases_eq (bit_at v i) 1))
  where
    go : (i : ℕ) → i < 8 → ((bit_at u i ≡ 1) ⊎ (bit_at u i ≡ 1 → ⊥)) → ((bit_at v i ≡ 1) ⊎ (bit_at v i ≡ 1 → ⊥)) → bit_at u i ≡ bit_at v i
    go i l (inl x) (inl y) = x ∙ sym y
    go i l (inl x) (inr y) = absurd (y ((k.1 i l).1 ((h.1 i l).0 x)))
    go i l (inr x) (inl y) = absurd (x ((h.1 i l).1 ((k.1 i l).0 y)))
    go i l (inr x) (inr y) = omega (arith, bit_at-lt u i, bit_at-lt v i, x, y)

-- the byte that is read is unique where nobody is lost
byte_unique : (st : State) (r : Request) (s : ℕ) (w : Waiting) (b c : Option ℕ) → IsRead st nobody r s w b → IsRead st nobody r s w c → b ≡ c
byte_unique st r s w b c h k = go b c (h.together (λ t p. refl)) (k.together (λ t p. refl)) (h.present ∙ sym k.present)
  where
    go : (b c : Option ℕ) → ((v : ℕ) → b ≡ Some v → IsAnd v (DrivesByte st r)) → ((v : ℕ) → c ≡ Some v → IsAnd v (DrivesByte st r)) → is_some b ≡ is_some c → b ≡ c
    go None None x y e = refl
    go None (Some v) x y e = absurd (false≢true e)
    go (Some u) None x y e = absurd (false≢true (sym e))
    go (Some u) (Some v) x y e = ap Some (and_unique u v (DrivesByte st r) (x u refl) (y v refl))

lowest_unique : (st : State) (r : Request) (s t : ℕ) → IsLowestDriver st r s → IsLowestDriver st r t → s ≡ t
lowest_unique st r s t h k = elim (cases_order s t) [
  | inl e ↦ e
  | inr o ↦ elim o [ inl l ↦ absurd (both_ways _ (k.1 s l) h.0) | inr g ↦ absurd (both_ways _ (h.1 t g) k.0) ]
]

front_unique : (st : State) (s : ℕ) (v w : Waiting) → IsFront st s v → IsFront st s w → v ≡ w
front_unique st s v w h k =
    let same : h.0 ≡ k.0 = same_device st s h.0 k.0 h.2 k.2 in
    let e : (v ∷ h.1) ≡ (w ∷ k.1) = sym h.3 ∙ (ap (λ (d : Device). d.waiting) same ∙ k.3) in cc

recorded_unique : (st : State) (policy : Fixed) (p q : ℕ) (new next : State) → (h : IsRecorded st policy nobody p new) → (k : IsRecorded st policy nobody q next) → (p ≡ q) × (new ≡ next)
recorded_unique st policy p q new next h k =
    let r : Interrupt h.at ≡ Interrupt k.at = first_unique st _ _ h.first k.first in
    let at : h.at ≡ k.at = cc in
    let slot : h.slot ≡ k.slot = lowest_unique st (Interrupt h.at) h.slot k.slot h.lowest (subst (λ x. IsLowestDriver st x k.slot) (sym r) k.lowest) in
    let front : h.front ≡ k.front = front_unique st h.slot h.front k.front h.fronted (subst (λ x. IsFront st x k.front) (sym slot) k.fronted) in
    let read : IsRead st nobody (Interrupt h.at) h.slot h.front k.byte =
    subst (λ x. IsRead st nobody (Interrupt h.at) h.slot x k.byte) (sym front)
    (subst (λ x. IsRead st nobody (Interrupt h.at) x k.front k.byte) (sym slot) (subst (λ x. IsRead st nobody x k.slot k.front k.byte) (sym r) k.read)) in
    let byte : h.byte ≡ k.byte = byte_unique st (Interrupt h.at) h.slot h.front h.byte k.byte h.read read in
    let same : recorded (record { slot = h.slot; number = h.front.number; at = h.at; byte = h.byte }) (each_driver (Interrupt h.at) without_front st)
    ≡ recorded (record { slot = k.slot; number = k.front.number; at = k.at; byte = k.byte }) (each_driver (Interrupt k.at) without_front st) =
    λ i. recorded (record { slot = slot i; number = (front i).number; at = at i; byte = byte i }) (each_driver (Interrupt (at i)) without_front st) in
    (h.placed ∙ sym k.placed, h.left ∙ (same ∙ sym k.left))

-- what serving an accepted request answers and leaves, where nobody is lost
abbrev Accepted : State → Fixed → Request → Served → State → Type 0
Accepted st policy Join served mid = (served ≡ Joining) × (mid ≡ each_driver Join without_join st)
Accepted st policy (Role a) served mid = (served ≡ WantsRole a) × (mid ≡ each_driver (Role a) without_role st)
Accepted st policy (Interrupt a) served mid = (place : ℕ) × (served ≡ Recorded place) × IsRecorded st policy nobody place mid

-- serving by the first request: none, one refused, or one accepted
data Kind (st : State) (policy : Fixed) (served : Served) (mid : State) : Type 0 where
  quiet : NoneAsks st → served ≡ Quiet → mid ≡ st → Kind st policy served mid
  turned_down : (r : Request) → IsFirst st r → verdict st policy r ≡ Refuse → served ≡ Refused → mid ≡ st → Kind st policy served mid
  taken_up : (r : Request) → IsFirst st r → verdict st policy r ≡ Accept → Accepted st policy r served mid → Kind st policy served mid

kind_of : (st : State) (policy : Fixed) (served : Served) (mid : State) → Serves st policy nobody served mid → Kind st policy served mid
kind_of st policy Quiet mid h = quiet h.0 refl h.1
kind_of st policy Refused mid h = turned_down h.0.0 h.0.1 h.0.2 refl h.1
kind_of st policy Joining mid h = taken_up Join h.0 h.1 (refl, h.2)
kind_of st policy (WantsRole a) mid h = taken_up (Role a) h.0 h.1 (refl, h.2)
kind_of st policy (Recorded place) mid h = taken_up (Interrupt h.at) h.first h.accepted (place, refl, h)
kind_of st policy Torn mid h = absurd (false≢true (h.gone h.first.driven.0 h.first.driven.1))

nobody_asks : (st : State) (r : Request) → NoneAsks st → IsFirst st r → ⊥
nobody_asks st r none first = both_ways _ (none first.driven.0 r) first.driven.1

pub accept≢refuse : Accept ≡ Refuse → ⊥
accept≢refuse e = cc

accepted_unique : (st : State) (policy : Fixed) (r : Request) (served other : Served) (mid last : State)
    → Accepted st policy r served mid → Accepted st policy r other last → (served ≡ other) × (mid ≡ last)
accepted_unique st policy Join served other mid last h k = (h.0 ∙ sym k.0, h.1 ∙ sym k.1)
accepted_unique st policy (Role a) served other mid last h k = (h.0 ∙ sym k.0, h.1 ∙ sym k.1)
accepted_unique st policy (Interrupt a) served other mid last h k =
    let e = recorded_unique st policy h.0 k.0 mid last h.2 k.2 in (h.1 ∙ (ap Recorded e.0 ∙ sym k.1), e.1)

pub serves_unique : (st : State) (policy : Fixed) (served other : Served) (mid last : State)
    → Serves st policy nobody served mid → Serves st policy nobody other last → (served ≡ other) × (mid ≡ last)
serves_unique st policy served other mid last h k = go (kind_of st policy served mid h) (kind_of st policy other last k)
  where
    go : Kind st policy served mid → Kind st policy other last → (served ≡ other) × (mid ≡ last)
    go (quiet n e f) (quiet m x y) = (e ∙ sym x, f ∙ sym y)
    go (quiet n e f) (turned_down r first down x y) = absurd (nobody_asks st r n first)
    go (quiet n e f) (taken_up r first up x) = absurd (nobody_asks st r n first)
    go (turned_down r first down e f) (quiet m x y) = absurd (nobody_asks st r m first)
    go (turned_down r first down e f) (turned_down q second down' x y) = (e ∙ sym x, f ∙ sym y)
    go (turned_down r first down e f) (taken_up q second up x) =
        absurd (accept≢refuse (sym up ∙ (ap (verdict st policy) (first_unique st q r second first) ∙ down)))
    go (taken_up r first up e) (quiet m x y) = absurd (nobody_asks st r m first)
    go (taken_up r first up e) (turned_down q second down x y) =
        absurd (accept≢refuse (sym up ∙ (ap (verdict st policy) (first_unique st r q first second) ∙ down)))
    go (taken_up r first up e) (taken_up q second up' x) =
        accepted_unique st policy r served other mid last e (subst (λ p. Accepted st policy p other last) (sym (first_unique st r q first second)) x)
