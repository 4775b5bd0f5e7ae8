-- What private transfers leave, and that without losses each has one answer.
use Rattle.std.proofs.lemmas.Bool.{false≢true}
use Rattle.std.proofs.lemmas.Grind.{same_number_lists}
use Rattle.std.proofs.lemmas.Option.{none-some, same_Some}
use Rattle.std.proofs.Common.{◌≡◌, ℕ, ◌<◌, List, Option, None, length, Some, ◌⊎◌, inl, inr, sym, refl, ap, ◌∙◌, subst}
use Rattle.i3c_base.specs.declared.answers.Answer.{Answer}
use Rattle.i3c_base.specs.declared.datum.Datum.{Datum}
use Rattle.i3c_base.specs.declared.datum.Direction.{Direction}
use Rattle.i3c_base.specs.declared.identity.Identity.{Identity}
use Rattle.i3c_base.specs.declared.device.LegacyTarget.{LegacyTarget}
use Rattle.i3c_base.specs.Cutting.{Lost, nobody}
use Rattle.i3c_base.specs.Frames.{AllLostAt, AllUnaddressedLostAt, AnyAt, AnyUnaddressedAt, DrivesRegister, DrivesTold, Gets, IsReadOf, IsToldAt, NobodyLeftAt, Reads, SetsLength, SetsNew, SetsStatic, Writes, limited, with_length, with_new, with_static, written}
use Rattle.i3c_base.specs.State.{Device, State, legacy_target_at}
use Rattle.i3c_step.proofs.Uniqueness.{and_unique}

-- a read leaves what each state has of itself
pub reads_keep : (R : State → State → Type 0) → ((st : State) → R st st) → (a : ℕ) (answer : Answer) (lost : Lost) (mid done : State) → Reads a answer lost mid done → R mid done
reads_keep R same a (Answer.Bytes bytes) lost mid done h = subst (R mid) (sym h.1) (same mid)
reads_keep R same a (Answer.NoAnswer b) lost mid done h = subst (R mid) (sym h.2) (same mid)
reads_keep R same a Answer.NoEnd lost mid done h = subst (R mid) (sym h.2) (same mid)
reads_keep R same a Answer.Done lost mid done h = absurd h

-- and so does a datum that is asked for
pub gets_keep : (R : State → State → Type 0) → ((st : State) → R st st) → (what : Datum) (a : ℕ) (answer : Answer) (lost : Lost) (mid done : State) → Gets what a answer lost mid done → R mid done
gets_keep R same what a (Answer.Bytes bytes) lost mid done h = subst (R mid) (sym h.1) (same mid)
gets_keep R same what a (Answer.NoAnswer b) lost mid done h = subst (R mid) (sym h.2) (same mid)
gets_keep R same what a Answer.NoEnd lost mid done h = subst (R mid) (sym h.2) (same mid)
gets_keep R same what a Answer.Done lost mid done h = absurd h

-- a write leaves this, or what the bytes make of it
pub writes_keep : (R : State → State → Type 0) (a : ℕ) (bytes : List ℕ) → ((st : State) → R st st) → ((st : State) → R st (written a bytes st))
    → (answer : Answer) (lost : Lost) (mid done : State) → Writes a bytes answer lost mid done → R mid done
writes_keep R a bytes same changed Answer.Done lost mid done h = subst (R mid) (sym h.1) (changed mid)
writes_keep R a bytes same changed (Answer.NoAnswer b) lost mid done h = subst (R mid) (sym h.2) (same mid)
writes_keep R a bytes same changed (Answer.Bytes read) lost mid done h = absurd h
writes_keep R a bytes same changed Answer.NoEnd lost mid done h = absurd h

-- SETDASA leaves this, or what it makes of it for some identity
pub statics_keep : (R : State → State → Type 0) (f a : ℕ) → ((st : State) → R st st) → ((i : Identity) (st : State) → R st (with_static f i a st))
    → (answer : Answer) (lost : Lost) (mid done : State) → SetsStatic f a answer lost mid done → R mid done
statics_keep R f a same changed answer lost mid done h = elim h [
  | inl e ↦ subst (R mid) (sym e.2.2) (changed e.2.0 mid)
  | inr e ↦ subst (R mid) (sym e.2) (same mid)
]

-- and so does SETNEWDA
pub news_keep : (R : State → State → Type 0) (old a : ℕ) → ((st : State) → R st st) → ((st : State) → R st (with_new old a st))
    → (answer : Answer) (lost : Lost) (mid done : State) → SetsNew old a answer lost mid done → R mid done
news_keep R old a same changed answer lost mid done h = elim h [
  | inl e ↦ subst (R mid) (sym e.2) (changed mid)
  | inr e ↦ subst (R mid) (sym e.2) (same mid)
]

-- what holds of a device with another maximum length
pub limited_by : (P : Device → Type 0) (way : Direction) (most : ℕ) (d : Device) → P (record d { most_written = most }) → P (record d { most_read = most }) → P (limited way most d)
limited_by P Direction.Write most d w r = w
limited_by P Direction.Read most d w r = r

-- and so do SETMWL and SETMRL
pub lengths_keep : (R : State → State → Type 0) (to : Option ℕ) (way : Direction) (most : ℕ) → ((st : State) → R st st) → ((st : State) → R st (with_length to way most st))
    → (answer : Answer) (lost : Lost) (mid done : State) → SetsLength to way most answer lost mid done → R mid done
lengths_keep R None way most same changed answer lost mid done h = subst (R mid) (sym h.1) (changed mid)
lengths_keep R (Some a) way most same changed answer lost mid done h = elim h [
  | inl e ↦ subst (R mid) (sym e.2) (changed mid)
  | inr e ↦ subst (R mid) (sym e.2) (same mid)
]

-- somebody is there, and nobody is lost
nobody_lost : (st : State) (a : ℕ) → AnyAt st a → AllLostAt st a nobody → ⊥
nobody_lost st a any all = false≢true (all any.0 any.1 any.2)

-- what is read is the only thing that may be
bytes_unique : (st : State) (a : ℕ) (bytes others : List ℕ) → IsReadOf st a nobody bytes → IsReadOf st a nobody others → bytes ≡ others
bytes_unique st a bytes others h k = elim h [
  | inl x ↦ elim k [
    | inl y ↦ let same : x.0 ≡ y.0 = same_Some x.0 y.0 (sym x.1 ∙ y.1) in x.2 ∙ (ap (λ (t : LegacyTarget). t.registers) same ∙ sym y.2)
    | inr y ↦ absurd (none-some x.0 (sym y.0 ∙ x.1))
  ]
  | inr x ↦ elim k [
    | inl y ↦ absurd (none-some y.0 (sym x.0 ∙ y.1))
    | inr y ↦ same_number_lists bytes others (x.2 ∙ sym y.2) (λ i l.
        let low : i < length others = subst (λ n. i < n) (x.2 ∙ sym y.2) l in
        and_unique _ _ (DrivesRegister st a i) (x.4 (λ s d t. refl) i l) (y.4 (λ s d t. refl) i low))
  ]
]

-- where something is read, somebody answers
read_answers : (st : State) (a : ℕ) (bytes : List ℕ) → IsReadOf st a nobody bytes → NobodyLeftAt st a nobody → ⊥
read_answers st a bytes h k = elim h [
  | inl x ↦ none-some x.0 (sym k.0 ∙ x.1)
  | inr x ↦ nobody_lost st a (x.1.0, x.1.1, x.1.2) k.1
]

pub reads_unique : (a : ℕ) (answer other : Answer) (mid done last : State) → Reads a answer nobody mid done → Reads a other nobody mid last → (answer ≡ other) × (done ≡ last)
reads_unique a (Answer.Bytes bytes) (Answer.Bytes others) mid done last h k = (ap Answer.Bytes (bytes_unique mid a bytes others h.0 k.0), h.1 ∙ sym k.1)
reads_unique a (Answer.Bytes bytes) (Answer.NoAnswer b) mid done last h k = absurd (read_answers mid a bytes h.0 k.1)
reads_unique a (Answer.Bytes bytes) Answer.NoEnd mid done last h k = absurd (read_answers mid a bytes h.0 k.0)
reads_unique a (Answer.NoAnswer b) (Answer.Bytes bytes) mid done last h k = absurd (read_answers mid a bytes k.0 h.1)
reads_unique a (Answer.NoAnswer b) (Answer.NoAnswer c) mid done last h k = (ap Answer.NoAnswer (h.0 ∙ sym k.0), h.2 ∙ sym k.2)
reads_unique a (Answer.NoAnswer b) Answer.NoEnd mid done last h k = absurd (nobody_lost mid a k.1 k.0.1)
reads_unique a (Answer.Bytes bytes) Answer.Done mid done last h k = absurd k
reads_unique a (Answer.NoAnswer b) Answer.Done mid done last h k = absurd k
reads_unique a Answer.NoEnd other mid done last h k = absurd (nobody_lost mid a h.1 h.0.1)
reads_unique a Answer.Done other mid done last h k = absurd h

told_unique : (st : State) (what : Datum) (a : ℕ) (bytes others : List ℕ) → IsToldAt st what a nobody bytes → IsToldAt st what a nobody others → bytes ≡ others
told_unique st what a bytes others h k = same_number_lists bytes others (h.1 ∙ sym k.1) (λ i l.
    let low : i < length others = subst (λ n. i < n) (h.1 ∙ sym k.1) l in
    and_unique _ _ (DrivesTold st what a i) (h.3 (λ s d t. refl) i l) (k.3 (λ s d t. refl) i low))

-- where something is told, somebody answers
told_answers : (st : State) (what : Datum) (a : ℕ) (bytes : List ℕ) → IsToldAt st what a nobody bytes → AllLostAt st a nobody → ⊥
told_answers st what a bytes h k = nobody_lost st a (h.0.0, h.0.1, h.0.2) k

pub gets_unique : (what : Datum) (a : ℕ) (answer other : Answer) (mid done last : State) → Gets what a answer nobody mid done → Gets what a other nobody mid last → (answer ≡ other) × (done ≡ last)
gets_unique what a (Answer.Bytes bytes) (Answer.Bytes others) mid done last h k = (ap Answer.Bytes (told_unique mid what a bytes others h.0 k.0), h.1 ∙ sym k.1)
gets_unique what a (Answer.Bytes bytes) (Answer.NoAnswer b) mid done last h k = absurd (told_answers mid what a bytes h.0 k.1)
gets_unique what a (Answer.Bytes bytes) Answer.NoEnd mid done last h k = absurd (told_answers mid what a bytes h.0 k.0)
gets_unique what a (Answer.NoAnswer b) (Answer.Bytes bytes) mid done last h k = absurd (told_answers mid what a bytes k.0 h.1)
gets_unique what a (Answer.NoAnswer b) (Answer.NoAnswer c) mid done last h k = (ap Answer.NoAnswer (h.0 ∙ sym k.0), h.2 ∙ sym k.2)
gets_unique what a (Answer.NoAnswer b) Answer.NoEnd mid done last h k = absurd (nobody_lost mid a k.1 k.0)
gets_unique what a (Answer.Bytes bytes) Answer.Done mid done last h k = absurd k
gets_unique what a (Answer.NoAnswer b) Answer.Done mid done last h k = absurd k
gets_unique what a Answer.NoEnd other mid done last h k = absurd (nobody_lost mid a h.1 h.0)
gets_unique what a Answer.Done other mid done last h k = absurd h

-- where something is written, somebody answers
write_answers : (mid : State) (a : ℕ) → (((target : LegacyTarget) × (legacy_target_at mid a ≡ Some target)) ⊎ AnyAt mid a) → NobodyLeftAt mid a nobody → ⊥
write_answers mid a h k = elim h [
  | inl x ↦ none-some x.0 (sym k.0 ∙ x.1)
  | inr x ↦ nobody_lost mid a x k.1
]

pub writes_unique : (a : ℕ) (bytes : List ℕ) (answer other : Answer) (mid done last : State) → Writes a bytes answer nobody mid done → Writes a bytes other nobody mid last
    → (answer ≡ other) × (done ≡ last)
writes_unique a bytes Answer.Done Answer.Done mid done last h k = (refl, h.1 ∙ sym k.1)
writes_unique a bytes Answer.Done (Answer.NoAnswer b) mid done last h k = absurd (write_answers mid a h.0 k.1)
writes_unique a bytes (Answer.NoAnswer b) Answer.Done mid done last h k = absurd (write_answers mid a k.0 h.1)
writes_unique a bytes (Answer.NoAnswer b) (Answer.NoAnswer c) mid done last h k = (ap Answer.NoAnswer (h.0 ∙ sym k.0), h.2 ∙ sym k.2)
writes_unique a bytes Answer.Done (Answer.Bytes read) mid done last h k = absurd k
writes_unique a bytes Answer.Done Answer.NoEnd mid done last h k = absurd k
writes_unique a bytes (Answer.NoAnswer b) (Answer.Bytes read) mid done last h k = absurd k
writes_unique a bytes (Answer.NoAnswer b) Answer.NoEnd mid done last h k = absurd k
writes_unique a bytes (Answer.Bytes read) other mid done last h k = absurd h
writes_unique a bytes Answer.NoEnd other mid done last h k = absurd h

-- without losses SETDASA has one answer, and leaves one state
pub statics_unique : (f a : ℕ) (answer other : Answer) (mid done last : State) → SetsStatic f a answer nobody mid done → SetsStatic f a other nobody mid last
    → (answer ≡ other) × (done ≡ last)
statics_unique f a answer other mid done last h k = elim h [
  | inl x ↦ elim k [
    | inl y ↦
        let who : x.2.0 ≡ y.2.0 = same_Some x.2.0 y.2.0 (sym x.2.1 ∙ y.2.1) in
        (x.0 ∙ sym y.0, x.2.2 ∙ (ap (λ i. with_static f i a mid) who ∙ sym y.2.2))
    | inr y ↦ absurd (none_lost x.1 y.1)
  ]
  | inr x ↦ elim k [ inl y ↦ absurd (none_lost y.1 x.1) | inr y ↦ (x.0 ∙ sym y.0, x.2 ∙ sym y.2) ]
]
  where
    none_lost : AnyUnaddressedAt mid f → AllUnaddressedLostAt mid f nobody → ⊥
    none_lost any all = false≢true (all any.0 any.1 any.2)

-- without losses SETNEWDA has one answer
pub news_unique : (old a : ℕ) (answer other : Answer) (mid done last : State) → SetsNew old a answer nobody mid done → SetsNew old a other nobody mid last
    → (answer ≡ other) × (done ≡ last)
news_unique old a answer other mid done last h k = elim h [
  | inl x ↦ elim k [ inl y ↦ (x.0 ∙ sym y.0, x.2 ∙ sym y.2) | inr y ↦ absurd (nobody_lost mid old x.1 y.1) ]
  | inr x ↦ elim k [ inl y ↦ absurd (nobody_lost mid old y.1 x.1) | inr y ↦ (x.0 ∙ sym y.0, x.2 ∙ sym y.2) ]
]

-- without losses SETMWL and SETMRL have one answer
pub lengths_unique : (to : Option ℕ) (way : Direction) (most : ℕ) (answer other : Answer) (mid done last : State) → SetsLength to way most answer nobody mid done → SetsLength to way most other nobody mid last
    → (answer ≡ other) × (done ≡ last)
lengths_unique None way most answer other mid done last h k = (h.0 ∙ sym k.0, h.1 ∙ sym k.1)
lengths_unique (Some a) way most answer other mid done last h k = elim h [
  | inl x ↦ elim k [ inl y ↦ (x.0 ∙ sym y.0, x.2 ∙ sym y.2) | inr y ↦ absurd (nobody_lost mid a x.1 y.1) ]
  | inr x ↦ elim k [ inl y ↦ absurd (nobody_lost mid a y.1 x.1) | inr y ↦ (x.0 ∙ sym y.0, x.2 ∙ sym y.2) ]
]
