-- Rows that are stored in lists which reach just as far as the addresses that were given.
use Rattle.std.proofs.Common.{◌≡◌, ◌≢◌, ℕ, ◌+◌, ◌-◌, ◌<◌, ◌≤◌, Bool, true, false, List, [], ◌∷◌, ◌++◌, cond, count_by, drop, length, get_or, take, map, Option, Some, None, is_some, if◌then◌else◌, sym, refl, ap, ◌∙◌, inl, inr, arith, subst}
use Rattle.std.specs.List.{range_with_len}
use Rattle.std.proofs.lemmas.Bool.{cases_lt}
use Rattle.std.proofs.lemmas.List.{get_or_append_left, get_or-append_right, get_or-drop, get_or_past, get_or-take, length-take}
use Rattle.std.proofs.lemmas.List.Elements.{Contains-get_or}
use Rattle.std.proofs.lemmas.List.FromFn.{length-range_with_len}
use Rattle.std.proofs.lemmas.List.Sums.{count_by-le-length, sum_by-cons}
use Rattle.i3c_base.specs.declared.range.TheConstants.{ADDRESSES}
use Rattle.i3c_base.specs.State.{Board, Entry, entry_in}
use Rattle.i3c_base.specs.Sets.{is_in}
use Rattle.i3c_table.specs.declared.registers.Registers.{Registers}
use Rattle.i3c_table.specs.Stored.{identity_of, kept_at, no_registers, stored, stored_at, IsInOrder, IsReaching, IsStoredAlike, IsWhole}
use Rattle.i3c_table.proofs.Alike.{stored_alike}
use Rattle.i3c_table.proofs.Ordering.{count_more}
use Rattle.i3c_table.proofs.StoredLaws.{IsSmall, entry_stored, out_of, some_or_none}

pub small_reaching : (held many numbered : ℕ) → IsReaching held many numbered → IsSmall held
small_reaching held many numbered h b past = elim (some_or_none (is_in held b)) [
  | inr out ↦ out
  | inl has ↦ let there = (h.reached b has).0 in let few = h.few in absurd (omega (arith, there, few, past))
]

-- ---- the same stands at each address that was given

module _ (held kept : ℕ) (registers registers' : List Registers) (numbers numbers' : List ℕ) (alike : (a : ℕ) → is_in held a ≡ true → IsStoredAlike registers' numbers' registers numbers a) where
  keeper : (a : ℕ) → is_in held a ≡ true → kept_at kept numbers' a ≡ kept_at kept numbers a
  keeper a has = ap (λ n. if is_in kept a then Some (identity_of n) else None) (alike a has).1

  pub stored_again : stored held kept registers' numbers' ≡ stored held kept registers numbers
  unfolding stored
  stored_again = λ t. map (λ a. at a t) (range_with_len 0 ADDRESSES)
    where
      at : (a : ℕ) → stored_at held kept registers' numbers' a ≡ stored_at held kept registers numbers a
      at a = elim (some_or_none (is_in held a)) [
        | inl has ↦ stored_alike held kept registers' numbers' held kept registers numbers a has has (alike a has).0 (keeper a has)
        | inr out ↦ out_of held kept registers' numbers' a out ∙ sym (out_of held kept registers numbers a out)
      ]

  -- so the order is the same
  pub order_again : (order : List ℕ) → ((a : ℕ) → is_in kept a ≡ true → is_in held a ≡ true) → IsInOrder kept numbers order → IsInOrder kept numbers' order
  order_again order among h = record {
    ranked = λ i j d le below.
        let first = same (get_or order i d) (h.alone (get_or order i d) (Contains-get_or order i d (omega (arith, le, below)))) in
        let second = same (get_or order j d) (h.alone (get_or order j d) (Contains-get_or order j d below)) in
        let rises = h.ranked i j d le below in
        omega (arith, first, second, rises);
    all = h.all;
    alone = h.alone;
    once = h.once;
  }
    where
      same : (a : ℕ) → is_in kept a ≡ true → get_or numbers' a 0 ≡ get_or numbers a 0
      same a has = (alike a (among a has)).1

-- ---- the first registers and numbers

pub alike_taken : (held n m : ℕ) (registers : List Registers) (numbers : List ℕ) → ((a : ℕ) → is_in held a ≡ true → (a < n) × (a < m)) → (a : ℕ) → is_in held a ≡ true → IsStoredAlike (take n registers) (take m numbers) registers numbers a
alike_taken held n m registers numbers reached a has = (get_or-take n registers a no_registers (reached a has).0, get_or-take m numbers a 0 (reached a has).1)

pub taken_reaching : (held n m : ℕ) (registers : List Registers) (numbers : List ℕ) → n ≤ 128 → m ≤ 128 → length registers ≡ 128 → length numbers ≡ 128 → ((a : ℕ) → is_in held a ≡ true → (a < n) × (a < m))
    → IsReaching held (length (take n registers)) (length (take m numbers))
taken_reaching held n m registers numbers few few_numbers long numbered reached =
    let one : length (take n registers) ≡ n = omega (arith, length-take n registers, few, long) in
    let two : length (take m numbers) ≡ m = omega (arith, length-take m numbers, few_numbers, numbered) in
    record {
      few = omega (arith, one, few);
      few_numbers = omega (arith, two, few_numbers);
      reached = λ a has. let there = reached a has in (let l = there.0 in omega (arith, one, l), let l = there.1 in omega (arith, two, l));
    }

-- ---- others in place of the first

pub alike_begun : (held : ℕ) (firsts registers : List Registers) (begun numbers : List ℕ) → ((a : ℕ) → is_in held a ≡ true → (a < length firsts) × (a < length begun)) → (a : ℕ) → is_in held a ≡ true
    → IsStoredAlike (firsts ++ drop (length firsts) registers) (begun ++ drop (length begun) numbers) firsts begun a
alike_begun held firsts registers begun numbers reached a has = (
  get_or_append_left firsts (drop (length firsts) registers) no_registers a (reached a has).0,
  get_or_append_left begun (drop (length begun) numbers) 0 a (reached a has).1,
)

-- ---- how many addresses were given

some_if : (e : Entry) (b : Bool) → is_some (if b then Some e else None) ≡ b
some_if e true = refl
some_if e false = refl

counted_map : (f : ℕ → Option Entry) (xs : List ℕ) → count_by is_some (map f xs) ≡ count_by (λ a. is_some (f a)) xs
counted_map f [] = refl
counted_map f (x ∷ xs) =
    let rest = counted_map f xs in
    omega (arith, rest, sum_by-cons (λ (o : Option Entry). cond (is_some o) 1 0) (f x) (map f xs), sum_by-cons (λ a. cond (is_some (f a)) 1 0) x xs)

module _ (held kept : ℕ) (registers : List Registers) (numbers : List ℕ) where
  here : ℕ → Entry
  here a = record { bcr = (get_or registers a no_registers).bcr; dcr = (get_or registers a no_registers).dcr; kept = kept_at kept numbers a; fixed = (get_or registers a no_registers).fixed }

  given_at : (a : ℕ) → is_some (stored_at held kept registers numbers a) ≡ is_in held a
  unfolding here
  given_at a = some_if (here a) (is_in held a)

  pub count_stored : count_by is_some (stored held kept registers numbers) ≡ count_by (is_in held) (range_with_len 0 ADDRESSES)
  unfolding stored
  count_stored = counted_map (stored_at held kept registers numbers) (range_with_len 0 ADDRESSES) ∙ (λ t. count_by (λ a. given_at a t) (range_with_len 0 ADDRESSES))

  -- what stands at an address, if it was given
  pub some_stored : (a : ℕ) → IsSmall held → is_some (entry_in (stored held kept registers numbers) a) ≡ is_in held a
  some_stored a fits = ap is_some (entry_stored held kept registers numbers a fits) ∙ given_at a

-- one address less is left to be counted, or none
pub count_less : (left less a count total : ℕ) → count + count_by (is_in left) (range_with_len 0 128) ≡ total → is_in left a ≡ true → a < 128 → is_in less a ≡ false → ((b : ℕ) → b ≢ a → is_in less b ≡ is_in left b)
    → count + 1 + count_by (is_in less) (range_with_len 0 128) ≡ total
count_less left less a count total so_far has l gone others =
    let one = count_more (is_in less) (is_in left) a (λ b other. sym (others b other)) 128 0 gone has (omega arith) (omega (arith, l)) in omega (arith, so_far, one)

pub count_none : (left count total : ℕ) → count + count_by (is_in left) (range_with_len 0 128) ≡ total → ((a : ℕ) → is_in left a ≡ false) → count ≡ total
count_none left count total so_far none =
    let nothing : count_by (is_in left) (range_with_len 0 128) ≡ 0 = λ t. count_by (λ a. none a t) (range_with_len 0 128) in omega (arith, so_far, nothing)

pub count_few : (set : ℕ) → count_by (is_in set) (range_with_len 0 128) ≤ 128
count_few set = omega (arith, count_by-le-length (is_in set) (range_with_len 0 128), length-range_with_len 0 128)

pub count_fits : (left a count total : ℕ) → count + count_by (is_in left) (range_with_len 0 128) ≡ total → total ≤ 128 → count ≤ 128
count_fits left a count total so_far few = omega (arith, so_far, few)

-- what is whole stays so with a board that says the same
pub whole_board : (held kept : ℕ) (board other : Board) → board ≡ other → IsWhole held kept board → IsWhole held kept other
whole_board held kept board other same h = subst (IsWhole held kept) same h
