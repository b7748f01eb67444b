-- What a walk shows place by place of whether a register is kept wherever it is needed.
use Rattle.std.proofs.Common.{ℕ, suc, ◌+◌, ◌<◌, ◌≤◌, ◌≡◌, Bool, true, false, List, [], Some, refl}
use Rattle.std.proofs.Common.{sym, ◌∙◌, ap}
use Rattle.std.proofs.Common.{subst, length, get_or, inl, arith}
use Rattle.std.specs.Prelude.{◌==◌, nat_lt, slice_index, unwrap_or, Contains}
use Rattle.std.proofs.lemmas.Option.{slice_get_read, slice_get_past}
use Rattle.std.proofs.lemmas.Grind.{common_steps}
use Rattle.rv_select.specs.declared.code.Place.{Place}
use Rattle.rv_select.specs.declared.code.Place.TheVariants.{InReg, Slot}
use Rattle.rv_select.specs.declared.code.VirtualItem.{VirtualItem}
use Rattle.rv_select.specs.Holding.{may_hold}
use Rattle.reg_assign.specs.declared.walks.Walk.{Walk}
use Rattle.placed_code.specs.Places.{place_in}
use Rattle.placed_code.specs.Check.{AreAllowed}
use Rattle.reg_assign.specs.Numbers.{register_at}
use Rattle.reg_assign.specs.Flow.{Behind, IsVirtual, IsKept, IsListed, IsRead}
use Rattle.reg_assign.specs.Walks.{IsClosed, Steps}
use Rattle.reg_assign.specs.Fits.{IsFine}
use Rattle.placed_code.proofs.Public.{equal_of}
use Rattle.reg_assign.proofs.Walking.{reach_found, at_index}
use Rattle.reg_assign.proofs.Kept.{kept_by_walk, kept_unread, behind_kept, spared_where_kept, none_where_kept}

-- what holds of the places so far holds of one more
pub steps_more : (P : ℕ → Type 0) (w v : Walk) (p : ℕ) → Steps w v (Some p)
    → ((j : ℕ) → j < w.done → P (slice_index w.found.items j)) → P p
    → (j : ℕ) → j < v.done → P (slice_index v.found.items j)
steps_more P w v p s before here j l = pick (j == w.done) refl
  where
    same : (j : ℕ) → j < length w.found.items → slice_index v.found.items j ≡ slice_index w.found.items j
    same j k = ap (λ xs. get_or xs j 0) s.4.1 ∙ grind (arith, common_steps)

    pick : (b : Bool) → (j == w.done) ≡ b → P (slice_index v.found.items j)
    pick true e =
        let i = equal_of j w.done e in
        subst P (sym (same j (let k : w.done < length w.found.items = s.3 in omega arith)
        ∙ (ap (λ x. slice_index w.found.items x) i ∙ s.2))) here
    pick false e =
        let d : v.done ≡ suc w.done = s.1 in
        let k : w.done < length w.found.items = s.3 in
        let less : j < w.done = grind arith in
        subst P (sym (same j (omega arith))) (before j less)

module _ (items : List VirtualItem) (place : ℕ → Place) (lists : ℕ → List ℕ) (listed : IsListed IsRead items lists)
  where
    -- a register that may be needed behind all places is kept
    pub kept_now : (w : Walk) → IsClosed items w → w.done ≡ length w.found.items
        → ((j : ℕ) → j < w.done → IsFine items place (register_at w.number) (slice_index w.found.items j))
        → (IsVirtual (register_at w.number) → Contains (lists w.number) 0 → ⊥)
        → IsKept items place (register_at w.number)
    kept_now w closed all fine begins =
        kept_by_walk items place (register_at w.number) (lists w.number) w.found.items
        (λ p h. listed.only w.number p h) (λ p item e m. listed.all w.number p item e m)
        (λ q h. let o = listed.only w.number q h in closed.roots q o.0 o.1 o.2)
        (λ q h. reach_found items w closed all q h) begins
        (λ p h. (at p h).0) (λ p h. (at p h).1)
      where
        at : (p : ℕ) → Contains w.found.items p → IsFine items place (register_at w.number) p
        at p h =
            let l : h.0 < length w.found.items = h.1 in
            subst (IsFine items place (register_at w.number)) (at_index w.found.items p h) (fine h.0 (omega (
              arith,
              l,
              all,
            )))

    pub kept_at : (w : Walk) (k : ℕ) → w.number ≡ k → IsClosed items w → w.done ≡ length w.found.items
        → ((j : ℕ) → j < w.done → IsFine items place (register_at k) (slice_index w.found.items j))
        → (IsVirtual (register_at k) → Contains (lists k) 0 → ⊥) → IsKept items place (register_at k)
    kept_at w k e closed all =
        let P : ℕ → Type 0 = λ n. ((j : ℕ) → j < w.done → IsFine items place (register_at n) (slice_index w.found.items
        j))
        → (IsVirtual (register_at n) → Contains (lists n) 0 → ⊥) → IsKept items place (register_at n) in
        subst P e (λ fine begins. kept_now w closed all fine begins)

    -- one that is kept may be needed where it is
    pub fine_where_kept : (k p : ℕ) → Behind items (register_at k) p → IsKept items place (register_at k)
        → IsFine items place (register_at k) p
    fine_where_kept k p b h = (
      (λ v begins. none_where_kept items place (register_at k) v h p (behind_kept items place (register_at k) h p b).0
          begins),
      (λ item e. spared_where_kept items place (register_at k) h p b item e),
    )

    -- and isn't read at the start
    pub unread_where_kept : (k : ℕ) → IsKept items place (register_at k) → IsVirtual (register_at k) → Contains (lists
        k) 0 → ⊥
    unread_where_kept k h v m =
        let o = listed.only k 0 m in
        none_where_kept items place (register_at k) v h 0 (h.finds 0 o.0 o.1 o.2) (inl refl)

    -- a register whose number has no place is read nowhere
    pub kept_unlisted : (k : ℕ) → lists k ≡ [] → IsKept items place (register_at k)
    kept_unlisted k none =
        kept_unread items place (register_at k) (λ p item e m.
        let h : Contains (lists k) p = listed.all k p item e m in
        let g = subst (λ xs. Contains xs p) none h in let l : g.0 < 0 = g.1 in omega (arith, l))

-- ---- registers by their numbers

module _ (items : List VirtualItem) (place : ℕ → Place) where
  pub kept_more : (n : ℕ) → ((k : ℕ) → k < n → IsKept items place (register_at k)) → IsKept items place (register_at n)
      → (k : ℕ) → k < n + 1 → IsKept items place (register_at k)
  kept_more n before here k l = pick (k == n) refl
    where
      pick : (b : Bool) → (k == n) ≡ b → IsKept items place (register_at k)
      pick true e = subst (λ x. IsKept items place (register_at x)) (sym (equal_of k n e)) here
      pick false e = before k (grind (arith, l))

  -- those from a number on are read nowhere
  pub kept_below : (n : ℕ) (lists : ℕ → List ℕ) → IsListed IsRead items lists → ((k : ℕ) → n ≤ k → lists k ≡ [])
      → ((k : ℕ) → k < n → IsKept items place (register_at k)) → (k : ℕ) → IsKept items place (register_at k)
  kept_below n lists listed empty each k = pick (nat_lt k n) refl
    where
      pick : (b : Bool) → nat_lt k n ≡ b → IsKept items place (register_at k)
      pick true e = each k (grind arith)
      pick false e = kept_unlisted items place lists listed k (empty k (grind arith))

-- ---- places that are allowed

pub placed : (places : List Place) (i : ℕ) (p : Place) → i < length places → p ≡ get_or places i p
    → place_in places i ≡ p
placed places i p l e = ap (λ o. unwrap_or o (Slot i)) (slice_get_read places (length places) i p refl l e)

pub allowed_more : (places : List Place) (i : ℕ) (p : Place) → i < length places → p ≡ get_or places i p
    → ((r : ℕ) → p ≡ InReg r → may_hold r ≡ true)
    → ((v r : ℕ) → v < i → place_in places v ≡ InReg r → may_hold r ≡ true)
    → (v r : ℕ) → v < i + 1 → place_in places v ≡ InReg r → may_hold r ≡ true
allowed_more places i p l e here before v r k f = pick (v == i) refl
  where
    pick : (b : Bool) → (v == i) ≡ b → may_hold r ≡ true
    pick true s =
        here r (sym (placed places i p l e) ∙ (ap (place_in places) (sym (equal_of v i s)) ∙ f))
    pick false s = before v r (grind (arith, k)) f

pub allowed_all : (places : List Place) (n : ℕ) → length places ≤ n
    → ((v r : ℕ) → v < n → place_in places v ≡ InReg r → may_hold r ≡ true) → AreAllowed (place_in places)
allowed_all places n le each v r e = pick (nat_lt v n) refl
  where
    pick : (b : Bool) → nat_lt v n ≡ b → may_hold r ≡ true
    pick true s = each v r (grind arith) e
    pick false s =
        let past : length places ≤ v = grind (arith, le) in
        let none = slice_get_past places v past in
        let z : Slot v ≡ InReg r = sym (ap (λ o. unwrap_or o (Slot v)) none) ∙ e in absurd (let y : ⊥ = cc in y)
