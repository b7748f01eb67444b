-- Each step over words is paid by what is left of its procedure; and what several steps cost.
use Rattle.std.proofs.Common.{◌≡◌, ℕ, zero, suc, ◌+◌, ◌*◌, ◌≤◌, Bool, true, false, List, [], ◌∷◌}
use Rattle.std.proofs.Common.{Option, Some, None, refl, sym, subst, arith}
use Rattle.std.specs.Prelude.{◌&&◌, ◌==◌, nat_lt, nat_le, slice_get, max, pos, if◌then◌else◌, length}
use Rattle.run_laws.specs.Runs.{Ending}
use Rattle.run_laws.specs.Machines.{Next, Go, Stop, Machine, run, steps, seen, and_then}
use Rattle.run_laws.specs.Meters.{Metered, metered, charge}
use Rattle.machine_words.specs.Halts.{Halt}
use Rattle.machine_words.specs.Conditions.{holds}
use Rattle.machine_words.specs.Arithmetic.{plus}
use Rattle.low_ir.specs.Steps.{given, only_if, settle, may_load, may_store, Effect, Goes, Halts, Lost}
use Rattle.low_ir.specs.Procedures.{Code, Done, Set, Compute, Load, Store, CodeOf, Build, Request, Take, Environment}
use Rattle.low_ir.specs.Procedures.{Call, CallAt, If, Return, TailCall, TailCallAt, Proc}
use Rattle.low_ir.specs.Run.{Setting, Waiting, LowState, code_step, falls, answers, word_of, words_of}
use Rattle.low_ir.specs.Run.{proc_from, LowShown, low_machine}
use Rattle.low_ir.specs.Prices.{step_price, code_price, codes_price, Pays, Inside, Calls, Replaces, Returns, PaysNext}
use Rattle.low_ir.specs.Prices.{low_price, CostsAtMost}

-- what has a code address has a number
found_at : (address : ℕ → ℕ) (at k : ℕ) (ps : List Proc) (p : Proc) → proc_from address at k ps ≡ Some p
    → (i : ℕ) × (slice_get ps i ≡ Some p)
found_at address at k [] p e = absurd (let z : ⊥ = cc in z)
found_at address at k (q ∷ ps) p e =
    by_address (address k == at) e (λ f. found_at address at (suc k) ps p f)
  where
    by_address : (b : Bool) → (if b then Some q else proc_from address at (suc k) ps) ≡ Some p
        → (proc_from address at (suc k) ps ≡ Some p → (i : ℕ) × (slice_get ps i ≡ Some p))
        → (i : ℕ) × (slice_get (q ∷ ps) i ≡ Some p)
    by_address true f later = (zero, f)
    by_address false f later = (suc (later f).0, (later f).1)

module _ {V : Type 0} (reading : Halt → Ending V) (setting : Setting) (s : LowState) where
  abbrev step : Code → ℕ
  step = step_price setting.procs s.active.count

  abbrev whole : Code → ℕ
  whole = code_price setting.procs s.active.count

  abbrev behind : List Code → ℕ
  behind = codes_price setting.procs s.active.count

  if_given : {A : Type 0} (s0 : LowState) (o : Option A) (go : A → Next LowState V) → ((x : A)
      → PaysNext setting.procs s (go x))
      → PaysNext setting.procs s (given s0 o go)
  if_given s0 None go h = tt
  if_given s0 (Some x) go h = h x

  if_found : {A : Type 0} (s0 : LowState) (o : Option A) (go : A → Next LowState V) → ((x : A) → o ≡ Some x
      → PaysNext setting.procs s (go x))
      → PaysNext setting.procs s (given s0 o go)
  if_found s0 None go h = tt
  if_found s0 (Some x) go h = h x refl

  if_test : (s0 : LowState) (b : Bool) (go : Next LowState V) → PaysNext setting.procs s go
      → PaysNext setting.procs s (only_if s0 b go)
  if_test s0 true go h = h
  if_test s0 false go h = tt

  by_room : (b : Bool) (x y : Next LowState V) → PaysNext setting.procs s x → PaysNext setting.procs s y
      → PaysNext setting.procs s (if b then x else y)
  by_room true x y h k = h
  by_room false x y h k = k

  branch_pays : (b : Bool) (one other rest : Code) (n : ℕ)
      → n + (whole (if b then one else other) + (whole rest + behind s.active.rests))
      ≤ n + max (whole one) (whole other) + whole rest + behind s.active.rests
  branch_pays true one other rest n = grind arith
  branch_pays false one other rest n = grind arith

  settled : (effect : Effect) (s0 : LowState) (go : ℕ → ℕ → LowState) → ((a b : ℕ) → Pays setting.procs s (go a b))
      → PaysNext setting.procs s (settle reading effect s0 go)
  settled (Goes a b) s0 go h = h a b
  settled (Halts halt) s0 go h = tt
  settled Lost s0 go h = tt

  -- what is left behind the first step of a code in its own procedure
  paid : {code : Code} (rest : Code) → s.active.code ≡ code → whole code ≡ step code + whole rest
      → step s.active.code + (whole rest + behind s.active.rests)
      ≤ whole s.active.code + behind s.active.rests
  paid rest e f =
      subst (λ c. step c + (whole rest + behind s.active.rests)
      ≤ whole c + behind s.active.rests) (sym e) (omega (arith, f))

  fallen : (rests : List Code) → s.active.rests ≡ rests → s.active.code ≡ Done
      → PaysNext setting.procs s (falls reading setting rests s)
  fallen [] e d = tt
  fallen (r ∷ rs) e d =
      Inside refl (subst (λ c. step c + (whole r + behind rs)
      ≤ whole c + behind s.active.rests) (sym d)
      (subst (λ x. 10 + (whole r + behind rs) ≤ 10 + behind x) (sym e) (omega arith)))

  pub step_pays : (code : Code) → s.active.code ≡ code → PaysNext setting.procs s (code_step reading setting code s)
  step_pays Done e = fallen s.active.rests refl e
  step_pays (Set d a rest) e =
      if_given s (word_of s.active.locals a) _ (λ x. if_test _ (nat_lt d s.active.count) _
      (Inside refl (paid rest e refl)))
  step_pays (Compute op d a b rest) e =
      if_given s (word_of s.active.locals a) _ (λ x. if_given s (word_of s.active.locals b) _ (λ y.
      if_test _ (nat_lt d s.active.count) _
      (Inside refl (paid rest e refl))))
  step_pays (If cond a b one other rest) e =
      if_given s (word_of s.active.locals a) _ (λ x. if_given s (word_of s.active.locals b) _ (λ y.
      Inside refl (subst (λ c. step c + (whole (if holds cond x y then one else other)
      + (whole rest + behind s.active.rests)) ≤ whole c + behind s.active.rests) (sym e)
      (branch_pays (holds cond x y) one other rest (step (If cond a b one other rest))))))
  step_pays (Load d a offset rest) e =
      if_given s (word_of s.active.locals a) _ (λ x. if_test _ (may_load setting.top (plus x (pos offset))) _
      (if_test _ (nat_lt d s.active.count) _
      (Inside refl (paid rest e refl))))
  step_pays (Store b a offset rest) e =
      if_given s (word_of s.active.locals a) _ (λ x. if_given s (word_of s.active.locals b) _ (λ y.
      if_test _ (may_store setting.region setting.top (plus x (pos offset))) _
      (Inside refl (paid rest e refl))))
  step_pays (CodeOf d k rest) e =
      if_given s (slice_get setting.procs k) _ (λ p. if_test _ (nat_lt d s.active.count) _
      (Inside refl (paid rest e refl)))
  step_pays (Build d args rest) e =
      if_given s (words_of s.active.locals args) _ (λ ws. if_test _ (nat_lt (length ws) 256) _
      (by_room (nat_le (s.alloc + 8 * length ws) setting.top) _ _ (if_test _ (nat_lt d s.active.count) _
      (Inside refl (paid rest e refl))) tt))
  step_pays (Request d a rest) e =
      if_given s (word_of s.active.locals a) _ (λ n. by_room (nat_le (s.alloc + 8 * n) setting.top) _ _
      (if_test _ (nat_lt d s.active.count) _
      (Inside refl (paid rest e refl))) tt)
  step_pays (Take a rest) e =
      if_given s (word_of s.active.locals a) _ (λ n. if_test _ (nat_le (s.alloc + 8 * n) setting.top) _
      (Inside refl (paid rest e refl)))
  step_pays (Environment number a b d f rest) e =
      if_given s (word_of s.active.locals a) _ (λ x. if_given s (word_of s.active.locals b) _ (λ y.
      if_test _ (nat_lt d s.active.count) _ (if_test _ (nat_lt f s.active.count) _
      (settled _ _ _ (λ u v.
      Inside refl (paid rest e refl))))))
  step_pays (Call d k args rest) e =
      if_given s (words_of s.active.locals args) _ (λ ws. if_found _ (slice_get setting.procs k) _ (λ p is.
      if_test _ ((length ws == p.params) && (nat_le p.params 8 && nat_le p.params p.words)) _
      (Calls (record { rest = record s.active { code = rest }; answer = d }) refl (paid rest e refl)
      (record { proc = p; number = k; found = is; code = refl; rests = refl; count = refl }))))
  step_pays (CallAt d f args rest) e =
      if_given s (word_of s.active.locals f) _ (λ at. if_given s (words_of s.active.locals args) _ (λ ws.
      if_found _ (proc_from setting.address at 0 setting.procs) _ (λ p is.
      let f = found_at setting.address at 0 setting.procs p is in
      if_test _ ((length ws == p.params) && (nat_le p.params 8 && nat_le p.params p.words)) _
      (Calls (record { rest = record s.active { code = rest }; answer = d }) refl (paid rest e refl)
      (record { proc = p; number = f.0; found = f.1; code = refl; rests = refl; count = refl })))))
  step_pays (Return a) e =
      if_given s (word_of s.active.locals a) _ (λ x. returns s.waiting refl x
      (subst (λ c. step c ≤ whole c + behind s.active.rests) (sym e) (omega arith)))
    where
      returns : (ws : List Waiting) → s.waiting ≡ ws → (word : ℕ)
          → step s.active.code ≤ whole s.active.code + behind s.active.rests
          → PaysNext setting.procs s (answers reading setting ws word s)
      returns [] is word le = tt
      returns (w ∷ ws) is word le = if_test _ (nat_lt w.answer w.rest.count) _ (Returns w is refl le)
  step_pays (TailCall k args) e =
      if_given s (words_of s.active.locals args) _ (λ ws. if_found _ (slice_get setting.procs k) _ (λ p is.
      if_test _ ((length ws == p.params) && (nat_le p.params 8 && nat_le p.params p.words)) _
      (Replaces refl (subst (λ c. step c ≤ whole c + behind s.active.rests) (sym e) (omega arith))
      (record { proc = p; number = k; found = is; code = refl; rests = refl; count = refl }))))
  step_pays (TailCallAt f args) e =
      if_given s (word_of s.active.locals f) _ (λ at. if_given s (words_of s.active.locals args) _ (λ ws.
      if_found _ (proc_from setting.address at 0 setting.procs) _ (λ p is.
      let found = found_at setting.address at 0 setting.procs p is in
      if_test _ ((length ws == p.params) && (nat_le p.params 8 && nat_le p.params p.words)) _
      (Replaces refl (subst (λ c. step c ≤ whole c + behind s.active.rests) (sym e) (omega arith))
      (record { proc = p; number = found.0; found = found.1; code = refl; rests = refl; count = refl })))))

-- ---- the prices of several steps

module _ {V : Type 0} (reading : Halt → Ending V) (setting : Setting) where
  abbrev N : Machine LowState LowShown V
  N = low_machine reading setting

  abbrev M : Machine (Metered LowState) (Metered LowShown) V
  M = metered (low_price setting.procs) N

  abbrev spent_from : ℕ → ℕ → LowState → ℕ
  spent_from k n t = (run M (record { spent = n; rest = t }) k).shown.spent

  -- what was spent before is spent still
  spent_before : (k n : ℕ) (t : LowState) → spent_from k n t ≡ n + spent_from k 0 t
  spent_before zero n t = omega arith
  spent_before (suc k) n t = by (λ m u. spent_before k m u) (N.step t)
    where
      by : ((m : ℕ) (u : LowState) → spent_from k m u ≡ m + spent_from k 0 u) → (x : Next LowState V)
          → (seen M (and_then (charge (n + low_price setting.procs t) x) (λ m. steps M m k))).shown.spent
          ≡ n + (seen M (and_then (charge (0 + low_price setting.procs t) x) (λ m. steps M m k))).shown.spent
      by ih (Go u) =
          let a = ih (n + low_price setting.procs t) u in
          let b = ih (0 + low_price setting.procs t) u in
          omega (arith, a, b)
      by ih (Stop e u) = omega arith

  -- a step, and what the steps behind it cost
  pub costs_on : (k price more : ℕ) (t u : LowState) → N.step t ≡ Go u → CostsAtMost reading setting k u price
      → low_price setting.procs t + price ≤ more → CostsAtMost reading setting (suc k) t more
  costs_on k price more t u e c le =
      subst (λ x. (seen M (and_then (charge (0 + low_price setting.procs t) x) (λ m. steps M m k))).shown.spent ≤ more)
      (sym e)
      (let b = spent_before k (0 + low_price setting.procs t) u in omega (arith, b, c, le))

  -- a step that stops
  pub costs_last : (more : ℕ) (t u : LowState) (e : Ending V) → N.step t ≡ Stop e u → low_price setting.procs t ≤ more
      → CostsAtMost reading setting 1 t more
  costs_last more t u e q le =
      subst (λ x. (seen M (and_then (charge (0 + low_price setting.procs t) x) (λ m. steps M m 0))).shown.spent ≤ more)
      (sym q)
      (omega (arith, le))
