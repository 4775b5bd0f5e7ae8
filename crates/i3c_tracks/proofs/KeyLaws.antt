-- Lists that are made one element after another, keys that are compared, and sums that may be over what is told.
use Rattle.std.proofs.Common.{◌≡◌, ◌∙◌, ◌<◌, ◌≤◌, ◌+◌, ◌^◌, ◌++◌, ◌||◌, ℕ, Bool, cond, false, true, List, [], ◌∷◌, Option, None, Some, ap, arith, drop, get_or, length, map, refl, suc, sym, take}
use Rattle.std.specs.Prelude.{count_by, filter}
use Rattle.std.specs.Cmp.Lexicographic.{pointwise}
use Rattle.std.specs.List.{list_any}
use Rattle.std.proofs.lemmas.List.{at_drop_more, get_or-map, get_or-take, length-map, length-take, map_more, map_push}
use Rattle.std.proofs.lemmas.List.Folds.{list_any_at, list_any_more}
use Rattle.std.proofs.lemmas.List.Sums.{length-filter}
use mathlib.Core.Bool.{beq}
use Rattle.i3c_explore.specs.Numbers.{IsNumber, IsSum}
use Rattle.i3c_tracks.specs.Groups.{are_alike}

-- what two images of lists have at a place
pub maps_at : {A B C : Type 0} (f : A → C) (g : B → C) (xs : List A) (ys : List B) (i : ℕ) (x : A) (y : B) → map f xs ≡ map g ys → i < length xs → x ≡ get_or xs i x → i < length ys → y ≡ get_or ys i y → f x ≡ g y
maps_at f g xs ys i x y same lt is lt' is' = ap f is ∙ sym (get_or-map f xs i x (f x) lt) ∙ ap (λ l. get_or l i (f x)) same ∙ get_or-map g ys i y (f x) lt' ∙ sym (ap g is')

pub maps_length : {A B C : Type 0} (f : A → C) (g : B → C) (xs : List A) (ys : List B) → map f xs ≡ map g ys → length xs ≡ length ys
maps_length f g xs ys same = sym (length-map xs f) ∙ ap (λ l. length l) same ∙ length-map ys g

-- one element more
pub mapped_more : {A B K : Type 0} (g : K → B) (f : A → B) (keys new : List K) (xs : List A) (i : ℕ) (x : A) (k : K) → map g keys ≡ map f (take i xs) → new ≡ keys ++ k ∷ [] → i < length xs → x ≡ get_or xs i x → g k ≡ f x
    → map g new ≡ map f (take (i + 1) xs)
mapped_more g f keys new xs i x k so_far put lt is own =
    ap (λ l. map g l) put ∙ map_push g keys k ∙ ap (λ l. l ++ g k ∷ []) so_far ∙ ap (λ b. map f (take i xs) ++ b ∷ []) (own ∙ ap f is) ∙ sym (map_more f xs i x lt)

-- the same, of values themselves
pub list_more : {A B : Type 0} (f : A → B) (keys new : List B) (xs : List A) (i : ℕ) (x : A) (k : B) → keys ≡ map f (take i xs) → new ≡ keys ++ k ∷ [] → i < length xs → x ≡ get_or xs i x → k ≡ f x → new ≡ map f (take (i + 1) xs)
list_more f keys new xs i x k so_far put lt is own = put ∙ ap (λ l. l ++ k ∷ []) so_far ∙ ap (λ b. map f (take i xs) ++ b ∷ []) (own ∙ ap f is) ∙ sym (map_more f xs i x lt)

-- keys are compared answer by answer
pub compared : (one other : List Bool) → pointwise beq one other ≡ are_alike one other
compared [] [] = refl
compared [] (true ∷ other) = refl
compared [] (false ∷ other) = refl
compared (true ∷ one) [] = refl
compared (false ∷ one) [] = refl
compared (true ∷ one) (true ∷ other) = compared one other
compared (true ∷ one) (false ∷ other) = refl
compared (false ∷ one) (true ∷ other) = refl
compared (false ∷ one) (false ∷ other) = compared one other

-- whether one of the first keys is like another, one key more
pub any_more : (p : List Bool → Bool) (keys : List (List Bool)) (i : ℕ) → i < length keys → p (get_or keys i []) ≡ false → list_any p (take i keys) ≡ false → list_any p (take (i + 1) keys) ≡ false
any_more p keys i lt unlike none = list_any_more p keys i [] lt ∙ ap (λ b. b || p (get_or keys i [])) none ∙ unlike

pub any_at : (p : List Bool → Bool) (keys : List (List Bool)) (i place : ℕ) → i < place → place < length keys → p (get_or keys i []) ≡ true → list_any p (take place keys) ≡ true
any_at p keys i place before lt alike =
    let within : i < length (take place keys) = omega (arith, length-take {A = List Bool}) in
    list_any_at p (take place keys) i [] within (ap p (get_or-take place keys i [] before) ∙ alike)

-- the sum of two numbers, if both are there
pub plus : Option ℕ → Option ℕ → Option ℕ
plus None other = None
plus (Some one) None = None
plus (Some one) (Some other) = Some (one + other)

pub plus_none : (other : Option ℕ) → plus (Some 0) other ≡ other
unfolding plus
plus_none None = refl
plus_none (Some n) = ap Some (omega arith)

pub plus_more : (sum own : ℕ) (rest : Option ℕ) → plus (Some sum) (plus (Some own) rest) ≡ plus (Some (sum + own)) rest
unfolding plus
plus_more sum own None = refl
plus_more sum own (Some n) = ap Some (omega arith)

-- a number that is told of a sum
abbrev pub Tells : Option ℕ → Option ℕ → Type 0
Tells total told = (n : ℕ) → IsNumber total n → IsNumber told n

pub plus_is : (one other told : Option ℕ) → Tells (plus one other) told → IsSum one other told
unfolding plus
plus_is None other told tells m n large is = tells (m + n) (omega arith)
plus_is (Some a) None told tells m n is large = tells (m + n) (omega arith)
plus_is (Some a) (Some b) told tells m n is is' = tells (m + n) (omega arith)

-- a sum that is over what is told, whatever is left to add
pub over : (sum own : ℕ) (rest : Option ℕ) → 2 ^ 64 ≤ sum + own → Tells (plus (Some sum) (plus (Some own) rest)) None
unfolding plus
over sum own None large n is = is
over sum own (Some r) large n is = omega arith

pub unknown : (sum : ℕ) (rest : Option ℕ) → Tells (plus (Some sum) (plus None rest)) None
unfolding plus
unknown sum rest n is = is

pub none_left : (sum : ℕ) → plus (Some sum) (Some 0) ≡ Some sum
unfolding plus
none_left sum = ap Some (omega arith)

-- how many pass, by their images
kept_images : {A B : Type 0} (f : A → B) (p : B → Bool) (xs : List A) → length (filter p (map f xs)) ≡ length (filter (λ x. p (f x)) xs)
kept_images f p [] = refl
kept_images {A} {B} f p (x ∷ xs) =
    elim (p (f x)) as (λ b. length (cond b (f x ∷ filter p (map f xs)) (filter p (map f xs))) ≡ length (cond b (x ∷ filter (λ x. p (f x)) xs) (filter (λ x. p (f x)) xs)))
    [ true ↦ ap suc (kept_images f p xs) | false ↦ kept_images f p xs ]

pub count_images : {A B : Type 0} (f : A → B) (p : B → Bool) (xs : List A) → count_by p (map f xs) ≡ length (filter (λ x. p (f x)) xs)
count_images f p xs = sym (length-filter p (map f xs)) ∙ kept_images f p xs

-- what is left to keep, one element further
pub kept_more : {A : Type 0} (p : A → Bool) (xs : List A) (i : ℕ) (x : A) → i < length xs → x ≡ get_or xs i x → filter p (drop i xs) ≡ cond (p x) (x ∷ filter p (drop (i + 1) xs)) (filter p (drop (i + 1) xs))
kept_more p xs i x lt is = at_drop_more (filter p) xs i x lt ∙ ap (λ y. cond (p y) (y ∷ filter p (drop (i + 1) xs)) (filter p (drop (i + 1) xs))) (sym is)
