-- What a consumer and a producer own: the memory of their end, and the right to free it. Assumes `Logic`.
use Rattle.std.proofs.Common.{◌≡◌, ℕ, List, [], ◌∷◌, ◌++◌, length, sym, refl, ap, subst, length-append, arith}
use native.Mathlib.Decide.{ℕ_discrete}
use mathlib.Core.Logic.{dite}
use seplogic.Ra.Ura.{Ura}
use mir.Val.{Val}
use base.Logic.{SProp, ent, sep, wand, guard, apply∗}
use base.Fml.{Fml}
use types.Logic.{Logic, sem}
use types.Kit.{‵, raw, ◌⊛◌, given, later, ◌$◌, ◌∵◌, !, qed, move, split, fsplit, fjoin, fpick, fpack, learn, check, frame, assume, use1, use2, updating, await, now, done}
use denote.RattleType.{RattleType, Valss}
use denote.RawPtr.{Ptr, block_ptr, null_ptr, block_of, count_of}
use denote.Struct.Struct.{within}
use denote.Struct.Declared.{shape}
use Rattle.rtrb.specs.Shared.{Names}
use Rattle.rtrb.specs.Ring.{IsPair}
use Rattle.rtrb.specs.contracts.consumer.Consumer as Consumer
use Rattle.rtrb.specs.contracts.producer.Producer as Producer
use Rattle.rtrb.specs.contracts.AnyItems as AnyItems
use Rattle.rtrb.specs.contracts.AnyItemsProtocol.TheImpl as items
use Rattle.std.specs.contracts.alloc.Global as Global
use Rattle.std.specs.contracts.impls.GlobalAllocator.TheImpl as global
use Rattle.rtrb.proofs.Parts.{sat}
use Rattle.i3c_shared.specs.Ends.{Told}
use Rattle.i3c_shared.proofs.Compared.{Seen, meets}

abbrev pub Reads : RattleType → RattleType
Reads R = Consumer.the_row R Global.the_row AnyItems.the_row global.ghosts (items.ghosts R)

abbrev pub Writes : RattleType → RattleType
Writes R = Producer.the_row R Global.the_row AnyItems.the_row global.ghosts (items.ghosts R)

ptr_equal : (p q : Ptr) → Dec (p ≡ q)
ptr_equal (block_ptr b o) (block_ptr c e) = dite (ℕ_discrete b c) (λ x. dite (ℕ_discrete o e) (λ y. yes (λ i. block_ptr (x i) (y i))) (λ n. no (λ r. n (ap count_of r)))) (λ n. no (λ r. n (ap block_of r)))
ptr_equal (block_ptr b o) null_ptr = no (λ r. cc)
ptr_equal null_ptr (block_ptr c e) = no (λ r. cc)
ptr_equal null_ptr null_ptr = yes refl

abbrev Key : Type 0
Key = Ptr × Ptr × Names

keys_equal : (x y : Key) → Dec (x ≡ y)
keys_equal x y = dite (ptr_equal x.0 y.0) (λ a. dite (ptr_equal x.1 y.1) (λ b. dite (ℕ_discrete x.2.0 y.2.0) (λ c. dite (ℕ_discrete x.2.1.0 y.2.1.0) (λ d. dite (ℕ_discrete x.2.1.1 y.2.1.1)
    (λ e. yes (λ i. (a i, b i, (c i, (d i, e i))))) (λ n. no (λ r. n (λ i. (r i).2.1.1)))) (λ n. no (λ r. n (λ i. (r i).2.1.0)))) (λ n. no (λ r. n (λ i. (r i).2.0)))) (λ n. no (λ r. n (λ i. (r i).1)))) (λ n. no (λ r. n (λ i. (r i).0)))

module _ {M : Type 1} {𝓤 : Ura M} (𝓛 : Logic 𝓤) (R : RattleType) where
  open 𝓛 use {H, A}

  abbrev Reading : Type 0
  Reading = (Reads R).Denot

  abbrev Writing : Type 0
  Writing = (Writes R).Denot

  abbrev key_of : Reading → Key
  key_of c = (c.end.words, c.end.slots, c.end.names)

  abbrev key_to : Writing → Key
  key_to p = (p.end.words, p.end.slots, p.end.names)

  abbrev Pr : Type 2
  Pr = SProp 𝓤

  abbrev ◌⊢◌ : Pr → Pr → Type 1
  P ⊢ Q = ent 𝓤 P Q

  abbrev ◌∗◌ : Pr → Pr → Pr
  P ∗ Q = sep 𝓤 P Q

  abbrev ◌-∗◌ : Pr → Pr → Pr
  P -∗ Q = wand 𝓤 P Q

  abbrev ⟦◌⟧ : Fml → Pr
  ⟦ P ⟧ = sem 𝓛 P

  infix 26 ◌⊢◌
  infixr 35 ◌∗◌
  infixr 30 ◌-∗◌
  abbrev Reader : Reading → Fml
  Reader c = sat (global.ghosts.dealloc_token c.end.heap) R (items.ghosts R).allows c.end.words c.end.slots c.end.names (c.end.role, c.end.past, c.end.ahead, c.end.limit)

  abbrev Writer : Writing → Fml
  Writer p = sat (global.ghosts.dealloc_token p.end.heap) R (items.ghosts R).allows p.end.words p.end.slots p.end.names (p.end.role, p.end.past, p.end.ahead, p.end.limit)

  reader_out : (c : Reading) (vs : List Val) → ⟦ (Reads R).own_val c vs ⟧ ⊢ ⟦ Reader c ⟧ ∗ (⟦ Reader c ⟧ -∗ ⟦ (Reads R).own_val c vs ⟧)
  reader_out c vs = let T = Consumer.the_type R Global.the_row AnyItems.the_row global.ghosts (items.ghosts R) in
      qed 𝓛 (‵ ((Reads R).own_val c vs) ∷ []) ∵ fpick ! (λ vss. fsplit ! $ move ! (1 ∷ []) $ fsplit ! $ fsplit ! $ move ! (1 ∷ []) $ frame ! $ assume ! (‵ (Reader c)) $
      move ! (1 ∷ 0 ∷ []) $ fjoin ! $ fjoin ! $ move ! (1 ∷ 0 ∷ []) $ fjoin ! $ fpack ! (Valss (shape T).fields) (within (shape T) (T.to c) vs) vss $ done !)

  writer_out : (p : Writing) (vs : List Val) → ⟦ (Writes R).own_val p vs ⟧ ⊢ ⟦ Writer p ⟧ ∗ (⟦ Writer p ⟧ -∗ ⟦ (Writes R).own_val p vs ⟧)
  writer_out p vs = let T = Producer.the_type R Global.the_row AnyItems.the_row global.ghosts (items.ghosts R) in
      qed 𝓛 (‵ ((Writes R).own_val p vs) ∷ []) ∵ fpick ! (λ vss. fsplit ! $ move ! (1 ∷ []) $ fsplit ! $ fsplit ! $ move ! (1 ∷ []) $ frame ! $ assume ! (‵ (Writer p)) $
      move ! (1 ∷ 0 ∷ []) $ fjoin ! $ fjoin ! $ move ! (1 ∷ 0 ∷ []) $ fjoin ! $ fpack ! (Valss (shape T).fields) (within (shape T) (T.to p) vs) vss $ done !)

  abbrev Told-by : Reading → Writing → Type 0
  Told-by c p = Seen 𝓛 (global.ghosts.dealloc_token c.end.heap) R (items.ghosts R).allows c.end.words c.end.slots c.end.names c.end.past c.end.ahead c.end.limit p.end.past p.end.ahead p.end.limit

  told : (c : Reading) (p : Writing) → Told-by c p → Told p c
  told c p seen = let sum = ap length seen.1 in let l₁ = length-append (c.end.past ++ c.end.ahead) seen.0 in let l₂ = length-append c.end.past c.end.ahead in let most = seen.2 in let room = seen.3 in let cap = c.reads.2 in
      (seen.0, seen.1, omega arith)

  -- two ends of one name
  meet : (c : Reading) (p : Writing) → key_to p ≡ key_of c
      → ⟦ Reader c ⟧ ∗ ⟦ Writer p ⟧ ⊢ H.⇛ (guard 𝓤 (Told-by c p) (⟦ Reader c ⟧ ∗ ⟦ Writer p ⟧))
  meet c p same = subst (λ (u : Key × ℕ × ℕ).
      ⟦ sat (global.ghosts.dealloc_token c.end.heap) R (items.ghosts R).allows c.end.words c.end.slots c.end.names (u.1, c.end.past, c.end.ahead, c.end.limit) ⟧
      ∗ ⟦ sat (global.ghosts.dealloc_token p.end.heap) R (items.ghosts R).allows u.0.0 u.0.1 u.0.2 (u.2, p.end.past, p.end.ahead, p.end.limit) ⟧
      ⊢ H.⇛ (guard 𝓤 (Told-by c p) (⟦ sat (global.ghosts.dealloc_token c.end.heap) R (items.ghosts R).allows c.end.words c.end.slots c.end.names (u.1, c.end.past, c.end.ahead, c.end.limit) ⟧
      ∗ ⟦ sat (global.ghosts.dealloc_token p.end.heap) R (items.ghosts R).allows u.0.0 u.0.1 u.0.2 (u.2, p.end.past, p.end.ahead, p.end.limit) ⟧)))
      (λ i. (sym same i, sym c.reads.0 i, sym p.writes.0 i))
      (meets 𝓛 (global.ghosts.dealloc_token c.end.heap) R (items.ghosts R).allows c.end.words c.end.slots c.end.names c.end.past c.end.ahead c.end.limit p.end.past p.end.ahead p.end.limit)

  abbrev Both : (c : Reading) (p : Writing) (vs vs' : List Val) → Pr
  Both c p vs vs' = ⟦ (Reads R).own_val c vs ⟧ ∗ ⟦ (Writes R).own_val p vs' ⟧

  where_same : (c : Reading) (p : Writing) (vs vs' : List Val) → key_to p ≡ key_of c
      → Both c p vs vs' ⊢ H.⇛ (guard 𝓤 (IsPair p c → Told p c) (Both c p vs vs'))
  where_same c p vs vs' same = qed 𝓛 (‵ ((Reads R).own_val c vs) ∷ ‵ ((Writes R).own_val p vs') ∷ []) ∵ updating ! $
      use1 𝓛 (‵ (Reader c) ⊛ raw (⟦ Reader c ⟧ -∗ ⟦ (Reads R).own_val c vs ⟧)) (reader_out c vs) $ split ! $ move ! (2 ∷ []) $
      use1 𝓛 (‵ (Writer p) ⊛ raw (⟦ Writer p ⟧ -∗ ⟦ (Writes R).own_val p vs' ⟧)) (writer_out p vs') $ split ! $ move ! (2 ∷ 0 ∷ []) $
      use2 𝓛 (later (given (Told-by c p) (‵ (Reader c) ⊛ ‵ (Writer p)))) (meet c p same) $ await ! tt $ learn ! (λ seen. split ! $ move ! (0 ∷ 3 ∷ []) $
      use2 𝓛 (‵ ((Reads R).own_val c vs)) (apply∗ 𝓤 ⟦ Reader c ⟧ ⟦ (Reads R).own_val c vs ⟧) $ move ! (1 ∷ 2 ∷ []) $
      use2 𝓛 (‵ ((Writes R).own_val p vs')) (apply∗ 𝓤 ⟦ Writer p ⟧ ⟦ (Writes R).own_val p vs' ⟧) $ now ! $ check ! (λ _. told c p seen) $ move ! (1 ∷ 0 ∷ []) $ done !)

  where_apart : (c : Reading) (p : Writing) (vs vs' : List Val) → ¬ (key_to p ≡ key_of c)
      → Both c p vs vs' ⊢ H.⇛ (guard 𝓤 (IsPair p c → Told p c) (Both c p vs vs'))
  where_apart c p vs vs' apart = qed 𝓛 (‵ ((Reads R).own_val c vs) ∷ ‵ ((Writes R).own_val p vs') ∷ []) ∵ updating ! $ now ! $
      check ! (λ pair. let same : Path Key (key_to p) (key_of c) = sym (λ i. (pair.0 i, pair.1 i, pair.2 i)) in absurd (apart same)) $ done !

  pub tells : (c : Reading) (p : Writing) (vs vs' : List Val) → Both c p vs vs' ⊢ H.⇛ (guard 𝓤 (IsPair p c → Told p c) (Both c p vs vs'))
  tells c p vs vs' = dite (keys_equal (key_to p) (key_of c)) (where_same c p vs vs') (where_apart c p vs vs')
