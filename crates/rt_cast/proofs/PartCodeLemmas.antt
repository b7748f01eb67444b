-- Codes of parts as loops make them, and where the procedures stand that do them.
use Rattle.std.proofs.Common.{◌≡◌, ℕ, zero, suc, ◌+◌, ◌-◌, ◌<◌, ◌≤◌, List, [], ◌∷◌, ◌++◌, Some, append_assoc, ap, ap₂}
use Rattle.std.proofs.Common.{◌∙◌, subst, arith}
use Rattle.std.specs.Prelude.{length, slice_get}
use Rattle.type_graph.proofs.Public.{get_kept}
use Rattle.low_ir.specs.Procedures.{Code, Proc}
use Rattle.rt_cast.specs.PartCodes.{part_step, parts_code}
use Rattle.rt_cast.specs.Procs.{cast_procs, first_procs, middle_by, middle_proc, middles, middles_from}
use Rattle.rt_cast.specs.ComposeCodes.{coerce_middle_place, coerce_part, middle_place, part, raise}

pub parts_more : (raise part : ℕ) (offset : ℕ → ℕ) (total j : ℕ) (old new : Code) → j < total
    → old ≡ parts_code raise part offset total j (total - j)
    → new ≡ part_step raise part offset total (total - 1 - j) old
    → new ≡ parts_code raise part offset total (j + 1) (total - (j + 1))
parts_more raise part offset total j old new lt o n =
    let m = total - (j + 1) in
    let e : total - 1 - j ≡ m = omega (arith, lt) in
    let f : total - j ≡ suc m = omega (arith, lt) in
    let h : suc j ≡ j + 1 = omega arith in
    n ∙ (ap (λ c. part_step raise part offset total (total - 1 - j) c) o
    ∙ (ap₂ (λ a b. part_step raise part offset total a (parts_code raise part offset total j b)) e f
    ∙ ap (λ i. parts_code raise part offset total i m) h))

-- one more procedure at the end
middles_end : (higher each n r : ℕ) → middles_from higher each n r ++ middle_by higher each (r + n) ∷ []
    ≡ middles_from higher each (suc n) r
middles_end higher each zero r = let e : r + 0 ≡ r = omega arith in ap (λ i. middle_by higher each i ∷ []) e
middles_end higher each (suc n) r =
    let e : suc r + n ≡ r + suc n = omega arith in
    ap (λ ps. middle_by higher each r ∷ ps)
    (subst (λ i. middles_from higher each n (suc r) ++ middle_by higher each i ∷ []
    ≡ middles_from higher each (suc n) (suc r)) e (middles_end higher each n (suc r)))

pub middles_more : (higher each r : ℕ) (before : List Proc)
    → before ++ middles_from higher each r 0 ++ middle_by higher each r ∷ []
    ≡ before ++ middles_from higher each (r + 1) 0
middles_more higher each r before =
    let e : 0 + r ≡ r = omega arith in
    let f : suc r ≡ r + 1 = omega arith in
    append_assoc before (middles_from higher each r 0) (middle_by higher each r ∷ [])
    ∙ ap (λ xs. before ++ xs)
    (subst (λ i. middles_from higher each r 0 ++ middle_by higher each i ∷ [] ≡ middles_from higher each (suc r) 0) e
    (middles_end higher each r 0) ∙ ap (λ i. middles_from higher each i 0) f)

-- ---- where middles stand

get_behind : (xs ys : List Proc) (k : ℕ) → slice_get (xs ++ ys) (length xs + k) ≡ slice_get ys k
get_behind [] ys k = ap (slice_get ys) (omega arith)
get_behind (x ∷ xs) ys k =
    let same : suc (length xs) + k ≡ suc (length xs + k) = omega arith in
    ap (slice_get (x ∷ (xs ++ ys))) same ∙ get_behind xs ys k

-- each stands behind those of fewer parts
middles_found : (higher each n r k m : ℕ) → k < n → r + k ≡ m
    → slice_get (middles_from higher each n r) k ≡ Some (middle_by higher each m)
middles_found higher each zero r k m few e = absurd (omega (arith, few))
middles_found higher each (suc n) r zero m few e =
    let f : r ≡ m = omega (arith, e) in ap (λ i. Some (middle_by higher each i)) f
middles_found higher each (suc n) r (suc k) m few e =
    middles_found higher each n (suc r) k m (omega (arith, few)) (omega (arith, e))

nth_middle : (first each r : ℕ) → r ≤ 8 → slice_get (middles first each) r ≡ Some (middle_proc first each r)
nth_middle first each r few = middles_found (raise first) each 9 0 r r (omega (arith, few)) (omega arith)

pub middle_there : (first r : ℕ) → r ≤ 8
    → slice_get (cast_procs first) (middle_place r) ≡ Some (middle_proc first (part first) r)
middle_there first r few =
    get_behind (first_procs first) (middles first (part first) ++ middles first (coerce_part first)) r
    ∙ get_kept (middles first (part first)) (middles first (coerce_part first)) r _
    (nth_middle first (part first) r few)

pub coerce_middle_there : (first r : ℕ) → r ≤ 8
    → slice_get (cast_procs first) (coerce_middle_place r) ≡ Some (middle_proc first (coerce_part first) r)
coerce_middle_there first r few =
    get_behind (first_procs first ++ middles first (part first)) (middles first (coerce_part first)) r
    ∙ nth_middle first (coerce_part first) r few
