-- The least key is that of the first request.
use Rattle.std.proofs.Common.{◌≡◌, ℕ, suc, ◌+◌, ◌-◌, ◌*◌, ◌^◌, ◌<◌, ◌≤◌, ◌↔◌, true, false, List, [], ◌∷◌, ◌++◌, length, get_or, map, cond, ◌==◌, take, refl, ap, sym, subst, ◌∙◌, arith, ◌⊎◌, inl, inr, add-zero, length-take-le}
use Rattle.std.specs.List.{All, AllByRecursion, filter}
use Rattle.std.proofs.lemmas.Bool.{cases_lt, eqb-false, eqb-true}
use Rattle.std.proofs.lemmas.List.Elements.{All-append, All-nil, All-cons, All-from_recursion, recursion_from_All, All-get_or}
use Rattle.std.proofs.lemmas.List.{get_or_default, take_more}
use Rattle.i3c_base.specs.declared.requests.Request.{Request}
use Rattle.i3c_base.specs.declared.requests.Request.TheVariants.{Join, Role, Interrupt}
use Rattle.i3c_base.specs.Cutting.{CutList, IsUncut}
use Rattle.i3c_base.specs.Serve.{rank}
use Rattle.i3c_wires.specs.Contest.{AllLost, LostIsBelow}
use Rattle.i3c_wires.proofs.Uncut.{uncut_none}
use Rattle.i3c_header.specs.Keys.{IsFirstOf, IsLawful, address_of, rnw_of}
use Rattle.i3c_header.specs.Keyed.{keyed}

-- the key of a request
abbrev pub key_of : Request → ℕ
key_of r = 2 * address_of r + rnw_of r

pub length-keyed : (n : ℕ) (rs : List Request) → length (keyed n rs) ≡ length rs
length-keyed n [] = refl
length-keyed n (r ∷ rs) = ap suc (length-keyed (suc n) rs)

-- one request more
keyed_push : (n : ℕ) (rs : List Request) (r : Request) → keyed n (rs ++ r ∷ []) ≡ keyed n rs ++ (n + length rs, key_of r) ∷ []
keyed_push n [] r = ap (λ k. (k, key_of r) ∷ []) (sym (add-zero n))
keyed_push n (q ∷ rs) r =
    let same : suc n + length rs ≡ n + suc (length rs) = omega arith in
    ap (λ ks. (n, key_of q) ∷ ks) (keyed_push (suc n) rs r ∙ ap (λ k. keyed (suc n) rs ++ (k, key_of r) ∷ []) same)

pub keyed_more : (rs : List Request) (r : Request) (i : ℕ) → i ≡ length rs → keyed 0 rs ++ (i, key_of r) ∷ [] ≡ keyed 0 (rs ++ r ∷ [])
keyed_more rs r i e = sym (keyed_push 0 rs r ∙ ap (λ k. keyed 0 rs ++ (k, key_of r) ∷ []) (omega (arith, e)))

-- the contenders of the requests so far, whose keys have eight bits
pub record KeyedSoFar (requests : List Request) (i : ℕ) (keys : List (ℕ × ℕ)) : Type 0 where
  pub keys_are : keys ≡ keyed 0 (take i requests)
  pub fit : All (λ (e : ℕ × ℕ). e.1 < 2 ^ 8) keys

pub keyed_next : (requests : List Request) (i : ℕ) (keys more : List (ℕ × ℕ)) (r : Request) (s k : ℕ) → KeyedSoFar requests i keys → i < length requests → r ≡ get_or requests i r
    → s ≡ i → k ≡ key_of r → k < 256 → more ≡ keys ++ (s, k) ∷ [] → KeyedSoFar requests (i + 1) more
keyed_next requests i keys more r s k so_far l at place is small e = record {
  keys_are = e ∙ ((λ t. so_far.keys_are t ++ (place t, is t) ∷ []) ∙ (keyed_more (take i requests) r i (sym (length-take-le i requests (omega arith))) ∙ ap (keyed 0) (sym (take_more requests i r l ∙ ap (λ x. take i requests ++ x ∷ []) (sym at)))));
  fit = subst (All (λ (e : ℕ × ℕ). e.1 < 2 ^ 8)) (sym e) (All-append (λ (e : ℕ × ℕ). e.1 < 2 ^ 8) keys ((s, k) ∷ []) so_far.fit (All-cons (λ (e : ℕ × ℕ). e.1 < 2 ^ 8) (s, k) [] small (All-nil (λ (e : ℕ × ℕ). e.1 < 2 ^ 8))));
}

pub keyed_room : (requests : List Request) (i : ℕ) (keys : List (ℕ × ℕ)) → KeyedSoFar requests i keys → i < length requests → length keys ≡ i
keyed_room requests i keys so_far l = ap length so_far.keys_are ∙ (length-keyed 0 (take i requests) ∙ length-take-le i requests (omega arith))

-- what is known of a winner's place
pub record Stands (rs : List Request) (n bits w : ℕ) : Type 0 where
  pub request : Request
  pub from : n ≤ w
  pub low : w - n < length rs
  pub at : get_or rs (w - n) request ≡ request
  pub key : key_of request ≡ bits

Stands-later : (q : Request) (rs : List Request) (n bits w : ℕ) → Stands rs (suc n) bits w → Stands (q ∷ rs) n bits w
Stands-later q rs n bits w h = let step : w - n ≡ suc (w - suc n) = omega (arith, h.from) in record {
  request = h.request;
  from = omega (arith, h.from);
  low = omega (arith, h.from, h.low);
  at = ap (λ k. get_or (q ∷ rs) k h.request) step ∙ h.at;
  key = h.key;
}

-- the places whose key is this number
abbrev pub places_of : List (ℕ × ℕ) → ℕ → List ℕ
places_of keys number = map (λ e. e.0) (filter (λ e. e.1 == number) keys)

stands_each : (rs : List Request) (n bits : ℕ) → AllByRecursion (Stands rs n bits) (places_of (keyed n rs) bits)
stands_each [] n bits = tt
stands_each (r ∷ rs) n bits =
    let none : n - n ≡ 0 = omega arith in
    elim (key_of r == bits) as (λ b. (key_of r == bits) ≡ b → AllByRecursion (Stands (r ∷ rs) n bits) (map (λ k. k.0) (cond b ((n, key_of r) ∷ filter (λ k. k.1 == bits) (keyed (suc n) rs)) (filter (λ k. k.1 == bits) (keyed (suc n) rs))))) [
      | true ↦ λ is. (record { request = r; from = omega arith; low = omega arith; at = ap (λ k. get_or (r ∷ rs) k r) none; key = eqb-true (key_of r) bits is }, later rs (stands_each rs (suc n) bits))
      | false ↦ λ is. later rs (stands_each rs (suc n) bits)
    ] refl
  where
    shift : (ws : List ℕ) → AllByRecursion (Stands rs (suc n) bits) ws → AllByRecursion (Stands (r ∷ rs) n bits) ws
    shift [] h = tt
    shift (w ∷ ws) h = (Stands-later r rs n bits w h.0, shift ws h.1)

    later : (qs : List Request) → AllByRecursion (Stands rs (suc n) bits) (places_of (keyed (suc n) rs) bits) → AllByRecursion (Stands (r ∷ rs) n bits) (places_of (keyed (suc n) rs) bits)
    later qs h = shift (places_of (keyed (suc n) rs) bits) h

-- where someone contends and nobody is cut, someone wins
pub someone_wins : (cuts : CutList) (keys : List (ℕ × ℕ)) (width : ℕ) (winners now : List ℕ) → IsUncut cuts → (length keys == 0) ≡ false → (winners ≡ [] → AllLost cuts keys width ⊎ LostIsBelow cuts keys width) → now ≡ winners → 0 < length now
someone_wins cuts keys width winners [] uncut some none e = absurd (eqb-false (length keys) 0 some (ap length (uncut_none cuts keys width uncut (none (sym e)))))
someone_wins cuts keys width winners (w ∷ ws) uncut some none e = omega arith

-- the winner's place holds a request whose key was read
pub winner_stands : (rs : List Request) (bits : ℕ) (keys : List (ℕ × ℕ)) (winners now : List ℕ) (w i : ℕ) → keys ≡ keyed 0 rs → winners ≡ places_of keys bits → now ≡ winners → 0 < length now → w ≡ get_or now 0 w → i ≡ w
    → Stands rs 0 bits i
winner_stands rs bits keys winners now w i k e n l at same =
    subst (Stands rs 0 bits) (sym (same ∙ at))
    (All-get_or (Stands rs 0 bits) now 0 w l (subst (All (Stands rs 0 bits)) (sym (n ∙ (e ∙ ap (λ ks. places_of ks bits) k))) (All-from_recursion (Stands rs 0 bits) (places_of (keyed 0 rs) bits) (stands_each rs 0 bits))))

-- the lower key is that of the request that comes first
pub key_order : (r q : Request) → IsLawful r → IsLawful q → (key_of r < key_of q) ↔ (rank r < rank q)
key_order Join Join h k = (λ l. omega arith, λ l. omega arith)
key_order Join (Role b) h k = (λ l. omega arith, λ l. omega arith)
key_order Join (Interrupt b) h k = (λ l. omega arith, λ l. omega arith)
key_order (Role a) Join h k = (λ l. omega arith, λ l. omega arith)
key_order (Role a) (Role b) h k = (λ l. omega arith, λ l. omega arith)
key_order (Role a) (Interrupt b) h k = (λ l. omega arith, λ l. omega arith)
key_order (Interrupt a) Join h k = (λ l. omega arith, λ l. omega arith)
key_order (Interrupt a) (Role b) h k = (λ l. omega arith, λ l. omega arith)
key_order (Interrupt a) (Interrupt b) h k = (λ l. omega arith, λ l. omega arith)

-- so where the key isn't above, the request doesn't come after
keys_rise : (r q : Request) → IsLawful r → IsLawful q → key_of r ≤ key_of q → rank r ≤ rank q
keys_rise r q h k l = elim (cases_lt (rank q) (rank r)) [
  | inl before ↦ absurd (omega (arith, l, (key_order q r k h).1 before))
  | inr after ↦ after
]

-- each request's key is among the contenders'
keys_each : (P : ℕ → Type 0) (n : ℕ) (rs : List Request) → AllByRecursion (λ (e : ℕ × ℕ). P e.1) (keyed n rs) → AllByRecursion (λ r. P (key_of r)) rs
keys_each P n [] h = tt
keys_each P n (r ∷ rs) h = (h.0, keys_each P (suc n) rs h.1)

-- a request whose key is the least one is first
pub least_is_first : (rs : List Request) (keys : List (ℕ × ℕ)) (bits i : ℕ) (r : Request) → keys ≡ keyed 0 rs → All IsLawful rs → All (λ (e : ℕ × ℕ). bits ≤ e.1) keys → Stands rs 0 bits i → r ≡ get_or rs i r
    → IsFirstOf rs r
least_is_first rs keys bits i r e lawful least stands at =
    let here : i - 0 ≡ i = omega arith in
    let same : stands.request ≡ r = sym stands.at ∙ (ap (λ k. get_or rs k stands.request) here ∙ (get_or_default rs i stands.request r (omega (arith, stands.low)) ∙ sym at)) in
    let key : key_of r ≡ bits = ap key_of (sym same) ∙ stands.key in
    let own : IsLawful r = subst IsLawful (sym at) (All-get_or IsLawful rs i r (omega (arith, stands.low)) lawful) in
    let keys_least : AllByRecursion (λ q. bits ≤ key_of q) rs = keys_each (λ k. bits ≤ k) 0 rs (recursion_from_All (λ (e : ℕ × ℕ). bits ≤ e.1) (keyed 0 rs) (subst (All (λ (e : ℕ × ℕ). bits ≤ e.1)) e least)) in
    ((i, omega (arith, stands.low), sym at), All-from_recursion (λ q. rank r ≤ rank q) rs (go rs (recursion_from_All IsLawful rs lawful) keys_least own key))
  where
    go : (qs : List Request) → AllByRecursion IsLawful qs → AllByRecursion (λ q. bits ≤ key_of q) qs → IsLawful r → key_of r ≡ bits → AllByRecursion (λ q. rank r ≤ rank q) qs
    go [] l m own key = tt
    go (q ∷ qs) l m own key = (keys_rise r q own l.0 (omega (arith, m.0, key)), go qs l.1 m.1 own key)
