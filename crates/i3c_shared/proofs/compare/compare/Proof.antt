-- `compare` opens the ring's invariant, and writes nothing.
use Rattle.std.proofs.Common.{◌≡◌, ℕ, List, [], ◌∷◌, refl}
use mir.Syntax.{a_type, named}
use mir.MapTy.{inst_fn}
use mir.Val.{Val, vunit, vptr}
use base.Logic.{SProp, emp}
use base.Fml.{Fml, ftrue, fsep, flft}
use types.Kit.{‵, raw, ◌⊛◌, given, later, ◌$◌, ◌∵◌, !, qed, by, move, keep, split, split3, join, fsplit3, fjoin, fjoin3, learn, use0, use2, await, feq_i}
use types.Run.{unit_lit, of_opd, returns, enter}
use types.ByLocal.{alloc_all, pass_all, free_all, look_at, sets}
use contract.Monad.{fact, fact_i}
use contract.Running.{tables}
use denote.RattleType.{RattleType, owns}
use denote.Signature.{types_at, plain}
use denote.Param.{param, layouts}
use denote.Ref.{mut_vals, mut_Tells}
use denote.Steps.{nothing, opens, closes}
use denote.Triple.Walked.{Stays, stay_ref, walk_of, Goes-ref}
use Rattle.std.proofs.raw_atomic.Walks.{proved, leaves}
use Rattle.rtrb.specs.Ring.{IsPair}
use Rattle.i3c_shared.specs.Ends.{Told}
use Rattle.i3c_shared.specs.contracts.compare.compare.{ended, clauses}
use Rattle.i3c_shared.specs.contracts.compare.compare.Key.{name as #self}
use Rattle.i3c_shared.proofs.compare.compare.Statement.{statement}
use Rattle.i3c_shared.proofs.compare.compare.Code as code
use Rattle.i3c_shared.proofs.Told.{Reads, Writes, tells}

pub compare_spec : {M : Type 1} → statement M
compare_spec 𝓤 𝓛 𝓜 𝓡 wired T L =
    let H = 𝓛.H in let 𝓣 = tables 𝓤 H 𝓜 𝓡 𝓡.env in let R : RattleType = param 0 T in let Row : RattleType = Reads R in let Row' : RattleType = Writes R in
    let En = ended T in let c = clauses T 𝓛 𝓜.mem 𝓡.returns in let inst = layouts (a_type ∷ []) (T, tt) in let fn = inst_fn inst code.function in
    let hs : Stays En.signature.params En.kept = (stay_ref (0 ∷ []) tt (plain (λ _. Row)), (stay_ref (1 ∷ []) tt (plain (λ _. Row')), tt)) in
    proved 𝓛 En hs c 𝓜 𝓡 (Goes-ref 𝓛 3 0 tt (plain (λ _. Row)), (Goes-ref 𝓛 3 1 tt (plain (λ _. Row')), tt)) (#self inst) fn (code.unfolded 𝓤 H 𝓜 𝓡 wired (T, tt))
    (λ κs. (mut_vals, (mut_vals, tt))) (λ κs. (mut_Tells (named 0) κs.0 Row, (mut_Tells (named 1) κs.1.0 Row', tt))) (λ κs qs bounds a gh are.
    let b : ℕ = a.0.ref_ptr.0 in let o : ℕ = a.0.ref_ptr.1 in let h = a.0.now in let b' : ℕ = a.1.0.ref_ptr.0 in let o' : ℕ = a.1.0.ref_ptr.1 in let k = a.1.0.now in
    let y : (walk_of 𝓛 En hs c).Ghost = ((κs, qs, bounds, a, (vptr b o ∷ [], (vptr b' o' ∷ [], tt))), gh) in let Post : Val → SProp 𝓤 = (walk_of 𝓛 En hs c).post y in
    let So : Type 0 = IsPair k h → Told k h in
    let other : Fml = fsep (flft κs.1.1.0 qs.1.1.0) ftrue in
    qed 𝓛 (((‵ (flft κs.0 qs.0) ⊛ ‵ (flft κs.1.0 qs.1.0) ⊛ ‵ other) ⊛ ‵ (owns (types_at En.signature.params κs) a y.0.4)) ∷ raw (fact 𝓤 _) ∷ ‵ ftrue ∷ []) ∵
    split ! $ split3 ! $ move ! (3 ∷ []) $ fsplit3 ! $ fsplit3 ! $ move ! (3 ∷ []) $ fsplit3 ! $ keep ! (1 ∷ 2 ∷ 8 ∷ 4 ∷ 5 ∷ 7 ∷ 9 ∷ []) $
    enter ! 𝓣.C 𝓣.Λ fn (vptr b o ∷ vptr b' o' ∷ []) Post $ alloc_all ! (λ l. pass_all ! refl ((tt, tt), ((tt, tt), tt)) $
    opens ! tt Row' {h = k} b' o' (λ vs'. move ! (5 ∷ 6 ∷ 7 ∷ []) $ opens ! tt Row {h = h} b o (λ vs. move ! (1 ∷ 6 ∷ []) $
    use2 𝓛 (later (given So (‵ (Row.own_val h vs) ⊛ ‵ (Row'.own_val k vs')))) (tells 𝓛 R h k vs vs') $ await ! tt $ learn ! (λ so. split ! $
    -- [what the consumer owns; what the producer owns; the consumer's cell, with three entries; the producer's, with three]
    move ! (6 ∷ 1 ∷ 7 ∷ 8 ∷ 9 ∷ []) $ closes ! tt Row' k vs' b' o' $ feq_i ! (List Val) (vptr b' o' ∷ []) (vptr b' o' ∷ []) refl $ fjoin3 ! $ nothing ! $ move ! (1 ∷ 0 ∷ []) $ fjoin ! $
    -- [the producer; its token; what the consumer owns; its cell, with three entries]
    move ! (3 ∷ 2 ∷ 4 ∷ 5 ∷ 6 ∷ []) $ closes ! tt Row h vs b o $ feq_i ! (List Val) (vptr b o ∷ []) (vptr b o ∷ []) refl $ fjoin3 ! $
    -- [the consumer; its token; the producer; its token]
    move ! (0 ∷ 2 ∷ []) $ fjoin ! $ move ! (2 ∷ 3 ∷ []) $ join ! $ move ! (2 ∷ 0 ∷ []) $ join ! $
    sets ! (of_opd ! (unit_lit !)) refl (tt, tt) $ use0 𝓛 (raw (fact 𝓤 ((h ≡ h) × (k ≡ k) × So))) (fact_i 𝓤 ((h ≡ h) × (k ≡ k) × So) (emp 𝓤) (refl, refl, so)) $
    feq_i ! (List Val) (vunit ∷ []) (vunit ∷ []) refl $ returns ! (look_at ! 0 refl) $ free_all ! refl $ keep ! (2 ∷ 3 ∷ 0 ∷ 1 ∷ []) $ by ! (leaves 𝓛 En hs c y vunit tt (h, (k, tt)) (tt, (tt, tt))))))))
