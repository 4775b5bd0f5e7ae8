-- Orders that are shared out among the nodes of a layer.
use Rattle.std.proofs.Common.{◌≡◌, ◌≢◌, ◌⊎◌, ◌∙◌, ◌<◌, ◌+◌, ◌==◌, ℕ, Bool, suc, zero, List, [], ◌∷◌, ◌++◌, Some, ap, arith, eq-eqb, ne_eqb, if◌then◌else◌, inl, inr, length, length-append, map, refl, subst, sym}
use Rattle.std.specs.List.{Contains, slice_get}
use Rattle.std.proofs.lemmas.Bool.Decides.{eqb_tells}
use Rattle.std.proofs.lemmas.List.{get_or-map, length-map}
use Rattle.std.proofs.lemmas.List.Elements.{Contains-append_cases, Contains-append_left, Contains-append_right}
use Rattle.std.proofs.lemmas.Option.{same_Some, slice_get_within}
use Rattle.i3c_explore.specs.declared.node.Node.{Node}
use Rattle.i3c_explore.specs.Counts.{AllDistinct, IsShared}
use Rattle.i3c_explore.specs.Shares.{IsAdded, IsMeant, IsOwn, IsSharedOn}
use Rattle.i3c_explore.specs.Layers.{IsMerged, IsPut}
use Rattle.i3c_explore.specs.Numbers.{IsNumber}
use Rattle.i3c_explore.proofs.Lists.{get_before_push, get_push, get_set_other, get_set_same, push_cases, set_cases}

pub contains_here : {A : Type 0} (x : A) (xs : List A) → Contains (x ∷ xs) x
contains_here x xs = (0, omega arith, refl)

pub contains_there : {A : Type 0} (x y : A) (xs : List A) → Contains xs y → Contains (x ∷ xs) y
contains_there x y xs (k, lt, is) = (suc k, omega arith, is)

pub contains_map : {A B : Type 0} (f : A → B) (xs : List A) (x : A) → Contains xs x → Contains (map f xs) (f x)
contains_map f xs x (k, lt, is) = (k, (let e = length-map xs f in omega arith), get_or-map f xs k x (f x) lt ∙ ap f is)

pub contains_map_from : {A B : Type 0} (f : A → B) (xs : List A) (y : B) → Contains (map f xs) y → (x : A) × Contains xs x × (y ≡ f x)
contains_map_from f [] y (k, lt, is) = absurd (omega arith)
contains_map_from f (x ∷ xs) y (zero, lt, is) = (x, contains_here x xs, sym is)
contains_map_from f (x ∷ xs) y (suc k, lt, is) = let (z, c, e) = contains_map_from f xs y (k, omega arith, is) in (z, contains_there x z xs c, e)

pub distinct_append : {A : Type 0} (xs ys : List A) → AllDistinct xs → AllDistinct ys → ((x : A) → Contains xs x → Contains ys x → ⊥) → AllDistinct (xs ++ ys)
distinct_append [] ys one other apart = other
distinct_append (x ∷ xs) ys (absent, one) other apart = (
  (λ c. elim (Contains-append_cases xs ys x c) [ inl here ↦ absent here | inr there ↦ apart x (contains_here x xs) there ]),
  distinct_append xs ys one other (λ y c. apart y (contains_there x y xs c)),
)

pub distinct_map : {A B : Type 0} (f : A → B) (xs : List A) → ((x y : A) → f x ≡ f y → x ≡ y) → AllDistinct xs → AllDistinct (map f xs)
distinct_map f [] one all = all
distinct_map {A} f (x ∷ xs) one (absent, all) = (
  (λ c. let (y, d, is) = contains_map_from f xs (f x) c in absent (subst (λ (z : A). Contains xs z) (sym (one x y is)) d)),
  distinct_map f xs one all,
)

none_in : {A : Type 0} (xs : List A) → ((x : A) → Contains xs x → ⊥) → length xs ≡ 0
none_in [] none = refl
none_in (x ∷ xs) none = absurd (none x (contains_here x xs))

-- more orders for one node
abbrev pub joined : {O : Type 0} → (ℕ → List O) → ℕ → List O → ℕ → List O
joined share at more k = if k == at then share k ++ more else share k

joined_same : {O : Type 0} (share : ℕ → List O) (at : ℕ) (more : List O) (k : ℕ) → k ≡ at → joined share at more k ≡ share k ++ more
joined_same share at more k same = ap (λ (b : Bool). if b then share k ++ more else share k) (eq-eqb k at same)

joined_other : {O : Type 0} (share : ℕ → List O) (at : ℕ) (more : List O) (k : ℕ) → k ≢ at → joined share at more k ≡ share k
joined_other share at more k other = ap (λ (b : Bool). if b then share k ++ more else share k) (ne_eqb k at other)

joined_from : {O : Type 0} (share : ℕ → List O) (at : ℕ) (more : List O) (k : ℕ) (o : O) → Contains (joined share at more k) o → Contains (share k) o ⊎ ((k ≡ at) × Contains more o)
joined_from share at more k o c = elim (eqb_tells k at) [
  | inl (_, same) ↦ elim (Contains-append_cases (share k) more o (subst (λ xs. Contains xs o) (joined_same share at more k same) c)) [
    | inl old ↦ inl old
    | inr new ↦ inr (same, new)
  ]
  | inr (_, other) ↦ inl (subst (λ xs. Contains xs o) (joined_other share at more k other) c)
]

joined_old : {O : Type 0} (share : ℕ → List O) (at : ℕ) (more : List O) (k : ℕ) (o : O) → Contains (share k) o → Contains (joined share at more k) o
joined_old share at more k o c = elim (eqb_tells k at) [
  | inl (_, same) ↦ subst (λ xs. Contains xs o) (sym (joined_same share at more k same)) (Contains-append_left (share k) more o c)
  | inr (_, other) ↦ subst (λ xs. Contains xs o) (sym (joined_other share at more k other)) c
]

joined_more : {O : Type 0} (share : ℕ → List O) (at : ℕ) (more : List O) (o : O) → Contains more o → Contains (joined share at more at) o
joined_more share at more o c = subst (λ xs. Contains xs o) (sym (joined_same share at more at refl)) (Contains-append_right (share at) more o c)

joined_distinct : {O : Type 0} (share : ℕ → List O) (at : ℕ) (more : List O) (k : ℕ) → AllDistinct (share k) → AllDistinct more → ((o : O) → Contains (share k) o → Contains more o → ⊥) → AllDistinct (joined share at more k)
joined_distinct share at more k one other apart = elim (eqb_tells k at) [
  | inl (_, same) ↦ subst (λ xs. AllDistinct xs) (sym (joined_same share at more k same)) (distinct_append (share k) more one other apart)
  | inr (_, else_) ↦ subst (λ xs. AllDistinct xs) (sym (joined_other share at more k else_)) one
]

-- a layer in which one node, at an index, gains orders
shared_at : {S O : Type 0} (Fits : Node S → O → Type 0) (alike : (n m : Node S) (o : O) → n.state ≡ m.state → n.places.items ≡ m.places.items → Fits m o → Fits n o)
    (old new : List (Node S)) (node : Node S) (at : ℕ) (more : List O) (share : ℕ → List O)
    → IsOwn Fits node more → IsShared old share → IsMeant Fits old share → ((k : ℕ) (o : O) → Contains (share k) o → Contains more o → ⊥)
    → ((k : ℕ) (n : Node S) → slice_get new k ≡ Some n → IsNumber n.orders (length (joined share at more k)))
    → ((k : ℕ) (n : Node S) → slice_get old k ≡ Some n → (m : Node S) × (slice_get new k ≡ Some m) × (m.state ≡ n.state) × (m.places.items ≡ n.places.items))
    → (m : Node S) → slice_get new at ≡ Some m → m.state ≡ node.state → m.places.items ≡ node.places.items
    → IsSharedOn Fits new share more
shared_at {S} {O} Fits alike old new node at more share (told, all, fits) was meant apart number stays m here state places = record {
  now = joined share at more;
  shared = record {
    number = number;
    distinct = λ k. joined_distinct share at more k (was.distinct k) all (λ o. apart k o);
    apart = λ i j o c d. elim (joined_from share at more i o c) [
      | inl a ↦ elim (joined_from share at more j o d) [ inl b ↦ was.apart i j o a b | inr (_, b) ↦ absurd (apart i o a b) ]
      | inr (same, a) ↦ elim (joined_from share at more j o d) [ inl b ↦ absurd (apart j o b a) | inr (alike_, _) ↦ same ∙ sym alike_ ]
    ];
    within = λ k o c. elim (joined_from share at more k o c) [
      | inl a ↦ (let (n, found, _) = meant k o a in let (m', there, _, _) = stays k n found in slice_get_within new k m' there)
      | inr (same, _) ↦ subst (λ (j : ℕ). j < length new) (sym same) (slice_get_within new at m here)
    ];
  };
  meant = λ k o c. elim (joined_from share at more k o c) [
    | inl a ↦ (let (n, found, fit) = meant k o a in let (m', there, state', places') = stays k n found in (m', there, alike m' n o state' places' fit))
    | inr (same, a) ↦ (m, subst (λ (j : ℕ). slice_get new j ≡ Some m) (sym same) here, alike m node o state places (fits o a))
  ];
  kept = λ k o c. (k, joined_old share at more k o c);
  added = λ o c. (at, joined_more share at more o c);
  from = λ j o c. elim (joined_from share at more j o c) [ inl a ↦ inl (j, a) | inr (_, a) ↦ inr a ];
}

push_number : {S O : Type 0} (Fits : Node S → O → Type 0) (old new : List (Node S)) (node : Node S) (more : List O) (share : ℕ → List O) → new ≡ old ++ node ∷ []
    → IsNumber node.orders (length more) → IsShared old share
    → (k : ℕ) (n : Node S) → slice_get new k ≡ Some n → IsNumber n.orders (length (joined share (length old) more k))
push_number {S} Fits old new node more share pushed told was k n found = elim (push_cases old node n k (sym (ap (λ l. slice_get l k) pushed) ∙ found)) [
  | inl before ↦ (
      let lt = slice_get_within old k n before in
      let other : k ≢ length old = omega arith in
      subst (λ xs. IsNumber n.orders (length xs)) (sym (joined_other share (length old) more k other)) (was.number k n before)
      )
  | inr (same, is) ↦ (
      let none : length (share k) ≡ 0 = none_in (share k) (λ o c. let lt = was.within k o c in omega arith) in
      let sum = ap length (joined_same share (length old) more k same) in
      let count : length more ≡ length (joined share (length old) more k) = omega (arith, length-append (share k) more) in
      subst (λ (j : ℕ). IsNumber n.orders j) count (subst (λ (m : Node S). IsNumber m.orders (length more)) (sym is) told)
      )
]

merge_number : {S O : Type 0} (old new : List (Node S)) (node : Node S) (more : List O) (share : ℕ → List O) (merged : IsMerged old node new)
    → IsNumber node.orders (length more) → IsShared old share
    → (k : ℕ) (n : Node S) → slice_get new k ≡ Some n → IsNumber n.orders (length (joined share merged.index more k))
merge_number {S} old new node more share merged told was k n found =
    let at = merged.index in let held = merged.held in
    let total : Node S = record held { orders = merged.total } in
    elim (set_cases old at total n k (slice_get_within old at held merged.found) (subst (λ l. slice_get l k ≡ Some n) merged.is found)) [
      | inl (before, other) ↦ subst (λ xs. IsNumber n.orders (length xs)) (sym (joined_other share at more k other)) (was.number k n before)
      | inr (same, is) ↦ (
          let sum = ap length (joined_same share at more k same) in
          let count : length (share k) + length more ≡ length (joined share at more k) = omega (arith, length-append (share k) more) in
          let here = subst (λ (j : ℕ). slice_get old j ≡ Some held) (sym same) merged.found in
          let both : IsNumber merged.total (length (share k) + length more) = merged.sum (length (share k)) (length more) (was.number k held here) told in
          subst (λ (j : ℕ). IsNumber n.orders j) count (subst (λ (m : Node S). IsNumber m.orders (length (share k) + length more)) (sym is) both)
          )
    ]

-- a node that is put into a layer brings its orders
pub put_added : {S O : Type 0} (Fits : Node S → O → Type 0) (alike : (n m : Node S) (o : O) → n.state ≡ m.state → n.places.items ≡ m.places.items → Fits m o → Fits n o)
    (old new : List (Node S)) (node : Node S) (more : List O) → IsPut old node new → IsOwn Fits node more → IsAdded Fits old new more
put_added {S} {O} Fits alike old new node more put own share was meant apart = elim put [
  | inl pushed ↦ shared_at Fits alike old new node (length old) more share own was meant apart
      (push_number Fits old new node more share pushed own.0 was)
      (λ k n found. (n, ap (λ l. slice_get l k) pushed ∙ get_before_push old node n k found, refl, refl))
      node (ap (λ l. slice_get l (length old)) pushed ∙ get_push old node) refl refl
  | inr merged ↦ (
      let at = merged.index in let held = merged.held in
      let total : Node S = record held { orders = merged.total } in
      let here : slice_get new at ≡ Some total = ap (λ l. slice_get l at) merged.is ∙ get_set_same old at total (slice_get_within old at held merged.found) in
      shared_at Fits alike old new node at more share own was meant apart
      (merge_number old new node more share merged own.0 was)
      (λ k n found. elim (eqb_tells k at) [
        | inl (_, same) ↦ (
            let is : n ≡ held = same_Some n held (sym found ∙ ap (λ (j : ℕ). slice_get old j) same ∙ merged.found) in
            (total, ap (λ (j : ℕ). slice_get new j) same ∙ here, ap (λ (m : Node S). m.state) (sym is), ap (λ (m : Node S). m.places.items) (sym is))
            )
        | inr (_, other) ↦ (n, ap (λ l. slice_get l k) merged.is ∙ get_set_other old at k total other ∙ found, refl, refl)
      ])
      total here merged.state merged.places
      )
]

pub added_none : {S O : Type 0} (Fits : Node S → O → Type 0) (layer : List (Node S)) → IsAdded Fits layer layer []
added_none Fits layer share was meant apart = record {
  now = share;
  shared = was;
  meant = meant;
  kept = λ k o c. (k, c);
  added = λ o (k, lt, is). absurd (omega arith);
  from = λ j o c. inl (j, c);
}

pub added_both : {S O : Type 0} (Fits : Node S → O → Type 0) (old mid new : List (Node S)) (one other : List O)
    → IsAdded Fits old mid one → IsAdded Fits mid new other → ((o : O) → Contains one o → Contains other o → ⊥) → IsAdded Fits old new (one ++ other)
added_both Fits old mid new one other first second disjoint share was meant apart =
    let a = first share was meant (λ k o c d. apart k o c (Contains-append_left one other o d)) in
    let b = second a.now a.shared a.meant (λ k o c d. elim (a.from k o c) [ inl (j, e) ↦ apart j o e (Contains-append_right one other o d) | inr e ↦ disjoint o e d ]) in record {
      now = b.now;
      shared = b.shared;
      meant = b.meant;
      kept = λ k o c. let (j, d) = a.kept k o c in b.kept j o d;
      added = λ o c. elim (Contains-append_cases one other o c) [ inl d ↦ (let (j, e) = a.added o d in b.kept j o e) | inr d ↦ b.added o d ];
      from = λ j o c. elim (b.from j o c) [
        | inl (k, d) ↦ elim (a.from k o d) [ inl old_ ↦ inl old_ | inr e ↦ inr (Contains-append_left one other o e) ]
        | inr d ↦ inr (Contains-append_right one other o d)
      ];
    }
