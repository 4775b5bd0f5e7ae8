-- What a device wishes for is what it drives where each kind of its events is enabled.
use Rattle.std.proofs.Common.{◌≡◌, ◌∙◌, ℕ, Bool, true, false, ◌&&◌, ◌||◌, not, cond, Option, Some, None, MatchOption, nat_eq, ap, refl, sym, arith}
use Rattle.std.proofs.lemmas.Bool.{false≢true}
use Rattle.std.specs.Option.{is_none}
use Rattle.i3c_base.specs.declared.requests.Request.{Request}
use Rattle.i3c_base.specs.declared.requests.Request.TheVariants.{Interrupt, Join, Role}
use Rattle.i3c_base.specs.Numbers.{kind_set}
use Rattle.i3c_base.specs.Serve.{asks, is_empty}
use Rattle.i3c_base.specs.State.{Device, has_address, is_the}
use Rattle.i3c_device.specs.Hearing.{enabled}
use Rattle.i3c_device.specs.Wishing.{choice_of}

-- a device with this address and these wishes drives the request, and its kind is enabled
abbrev is_driven : Option ℕ → Bool → Bool → Bool → Request → Bool
is_driven address join role empty Join = is_none address && join
is_driven address join role empty (Role a) = is_the a address && role
is_driven address join role empty (Interrupt a) = is_the a address && (not role && not empty)

abbrev Drives : Option ℕ → Bool → Bool → Bool → Option Request → Type 0
Drives address join role empty result = MatchOption result ((q : Request) → is_driven address join role empty q ≡ false) (λ r. is_driven address join role empty r ≡ true)

abbrev wished : Option ℕ → Bool → Bool → Bool → Option Request
wished None join role empty = cond join (Some Join) None
wished (Some b) join role empty = cond role (Some (Role b)) (cond empty None (Some (Interrupt b)))

same_one : (b : ℕ) → nat_eq b b ≡ true
same_one b = grind arith

both : (x y : Bool) → (x && y) ≡ true → (x ≡ true) × (y ≡ true)
both true y e = (refl, e)
both false y e = absurd (false≢true e)

the_one : (b a : ℕ) → nat_eq b a ≡ true → a ≡ b
the_one b a e = grind (arith, e)

driven_is_wished : (address : Option ℕ) (join role empty : Bool) (result : Option Request) → Drives address join role empty result → result ≡ wished address join role empty
driven_is_wished None true role empty None h = absurd (false≢true (sym (h Join)))
driven_is_wished None false role empty None h = refl
driven_is_wished None true role empty (Some Join) h = refl
driven_is_wished None false role empty (Some Join) h = absurd (false≢true h)
driven_is_wished None join role empty (Some (Role a)) h = absurd (false≢true h)
driven_is_wished None join role empty (Some (Interrupt a)) h = absurd (false≢true h)
driven_is_wished (Some b) join role empty (Some Join) h = absurd (false≢true h)
driven_is_wished (Some b) join true empty None h = absurd (false≢true (sym (h (Role b)) ∙ ap (λ x. x && true) (same_one b)))
driven_is_wished (Some b) join false true None h = refl
driven_is_wished (Some b) join false false None h = absurd (false≢true (sym (h (Interrupt b)) ∙ ap (λ x. x && true) (same_one b)))
driven_is_wished (Some b) join true empty (Some (Role a)) h = ap (λ n. Some (Role n)) (the_one b a (both _ _ h).0)
driven_is_wished (Some b) join false empty (Some (Role a)) h = absurd (false≢true (both _ _ h).1)
driven_is_wished (Some b) join true empty (Some (Interrupt a)) h = absurd (false≢true (both _ _ h).1)
driven_is_wished (Some b) join false true (Some (Interrupt a)) h = absurd (false≢true (both _ _ h).1)
driven_is_wished (Some b) join false false (Some (Interrupt a)) h = ap (λ n. Some (Interrupt n)) (the_one b a (both _ _ h).0)

and_any : (x k : Bool) → (x && (k || true)) ≡ x
and_any true true = refl
and_any true false = refl
and_any false k = refl

-- each kind is enabled
abbrev pub all_enabled : Device → Device
all_enabled d = enabled (kind_set (record { 0 = 11 })) d

drives : (d : Device) (q : Request) → asks (all_enabled d) q ≡ is_driven d.address d.join_wish d.role_wish (is_empty d.waiting) q
drives d Join = ap (λ b. is_none d.address && b) (and_any d.join_wish d.kinds.join)
drives d (Role a) = ap (λ b. has_address a d && b) (and_any d.role_wish d.kinds.role)
drives d (Interrupt a) = ap (λ b. has_address a d && (not d.role_wish && b)) (and_any (not (is_empty d.waiting)) d.kinds.interrupt)

wished_by : (address : Option ℕ) (d : Device) → wished address d.join_wish d.role_wish (is_empty d.waiting) ≡ choice_of address d
wished_by None d = refl
wished_by (Some a) d = refl

pub wanted_is_wished : (d : Device) (result : Option Request) → MatchOption result ((q : Request) → asks (all_enabled d) q ≡ false) (λ r. asks (all_enabled d) r ≡ true) → result ≡ choice_of d.address d
wanted_is_wished d None h = driven_is_wished d.address d.join_wish d.role_wish (is_empty d.waiting) None (λ q. sym (drives d q) ∙ h q) ∙ wished_by d.address d
wanted_is_wished d (Some r) h = driven_is_wished d.address d.join_wish d.role_wish (is_empty d.waiting) (Some r) (sym (drives d r) ∙ h) ∙ wished_by d.address d
