-- A code is closed where each window of its procedure's words finds nothing against it.
use Rattle.std.proofs.Common.{Bool, true, false, ℕ, ◌+◌, ◌-◌, ◌*◌, ◌/◌, ◌<◌, ◌≤◌, ◌≡◌, List, [], ◌∷◌}
use Rattle.std.proofs.Common.{Option, Some, None, refl, sym, ◌∙◌, ap, subst, arith}
use Rattle.std.specs.Prelude.{nat_lt, nat_le}
use Rattle.std.proofs.Common.{◌⊎◌, inl, inr}
use Rattle.std.proofs.lemmas.Bool.{and_from, and_parts, cases_lt}
use Rattle.low_ir.specs.declared.closing.Window.{Window}
use Rattle.low_ir.specs.declared.code.LowSource.{LowSource}
use Rattle.low_ir.specs.declared.code.LowSource.TheVariants.{Word, Number}
use Rattle.low_ir.specs.Procedures.{Code, Done, Set, Compute, Load, Store, CodeOf, Build, Request, Take, Environment}
use Rattle.low_ir.specs.Procedures.{Call}
use Rattle.low_ir.specs.Procedures.{CallAt, If, Return, TailCall, TailCallAt, Proc}
use Rattle.low_ir.specs.Closed.{all_words, reads, names_fit, is_read, are_read, fits, if_fits, go_if, then_known, meet}
use Rattle.low_ir.specs.Closed.{behind}
use Rattle.low_ir.specs.Closed.{is_there}
use Rattle.low_ir.specs.Windows.{windows, covers, has, also, both, window_from}
use Rattle.low_ir.proofs.WindowLemmas.{Exact, told, also_from, also_exact, both_exact, window_starts, window_exact}

-- a window is found that tells exactly what is known, and begins there
abbrev pub Found : ℕ → Option Window → (ℕ → Bool) → Type 0
Found from o known = (v : Window) × (o ≡ Some v) × Exact known v × (v.from ≡ from)

there : {A : Type 0} (o : Option A) → is_there o ≡ true → (a : A) × (o ≡ Some a)
there None e = absurd (let z : ⊥ = cc in z)
there (Some a) e = (a, refl)

module _ (procs : List Proc) (n : ℕ) where
  -- ---- what is closed is so in each window

  read_in : (known : ℕ → Bool) (w : Window) → Exact known w → (a : LowSource) → is_read all_words n known a ≡ true
      → is_read windows n w a ≡ true
  read_in known w x (Word i) h =
      let p = and_parts (nat_lt i n) (known i) h in
      and_from (nat_lt i n) (has w i) p.0 (told known w i x p.1)
  read_in known w x (Number m) h = refl

  all_read_in : (known : ℕ → Bool) (w : Window) → Exact known w → (args : List LowSource)
      → are_read all_words n known args ≡ true → are_read windows n w args ≡ true
  all_read_in known w x [] h = refl
  all_read_in known w x (a ∷ args) h =
      let p = and_parts (is_read all_words n known a) (are_read all_words n known args) h in
      and_from (is_read windows n w a) (are_read windows n w args) (read_in known w x a p.0)
      (all_read_in known w x args p.1)

  fits_in : (known : ℕ → Bool) (w : Window) → Exact known w → (c : Code) → fits all_words procs n known c ≡ true
      → fits windows procs n w c ≡ true
  fits_in known w x c h =
      let p = and_parts (are_read all_words n known (reads c)) (names_fit procs n c) h in
      and_from (are_read windows n w (reads c)) (names_fit procs n c) (all_read_in known w x (reads c) p.0) p.1

  -- one code, whatever it goes on with
  one_in : (c : Code) (known k : ℕ → Bool) (w : Window) (o : Option (ℕ → Bool)) (p : Option Window) → Exact known w
      → if_fits all_words procs n known c o ≡ Some k → (o ≡ Some k → Found w.from p k)
      → Found w.from (if_fits windows procs n w c p) k
  one_in c known k w o p x h go = by (fits all_words procs n known c) refl
    where
      by : (b : Bool) → fits all_words procs n known c ≡ b → Found w.from (if_fits windows procs n w c p) k
      by true e =
          let rest = go (sym (ap (λ b. go_if b o) e) ∙ h) in
          (rest.0, ap (λ b. go_if b p) (fits_in known w x c e) ∙ rest.1, rest.2, rest.3)
      by false e = absurd (let z : None ≡ Some k = sym (ap (λ b. go_if b o) e) ∙ h in cc)

  ends_in : (known k : ℕ → Bool) (w : Window) → Exact known w → Some known ≡ Some k → Found w.from (Some w) k
  ends_in known k w x e = let same : known ≡ k = cc in (w, refl, subst (λ z. Exact z w) same x, refl)

  -- a word is set, and the rest goes on
  set_in : (d : ℕ) (rest : Code) (known k : ℕ → Bool) (w : Window) → Exact known w
      → ((v : Window) → Exact (all_words.also d known) v → Found v.from (behind windows procs n v rest) k)
      → Found w.from (behind windows procs n (also d w) rest) k
  set_in d rest known k w x go =
      let r = go (also d w) (also_exact d known w x) in
      (r.0, r.1, r.2, r.3 ∙ also_from d w)

  -- two words are set
  set_both_in : (d e : ℕ) (rest : Code) (known k : ℕ → Bool) (w : Window) → Exact known w
      → ((v : Window) → Exact (all_words.also e (all_words.also d known)) v
      → Found v.from (behind windows procs n v rest) k)
      → Found w.from (behind windows procs n (also e (also d w)) rest) k
  set_both_in d e rest known k w x go =
      let r = go (also e (also d w)) (also_exact e (all_words.also d known) (also d w) (also_exact d known w x)) in
      (r.0, r.1, r.2, r.3 ∙ (also_from e (also d w) ∙ also_from d w))

  -- both branches, and what stands behind them
  joins_in : (o p : Option (ℕ → Bool)) (q r : Option Window) (rest : Code) (k : ℕ → Bool) (from : ℕ)
      → then_known (meet all_words o p) (λ j. behind all_words procs n j rest) ≡ Some k
      → ((j : ℕ → Bool) → o ≡ Some j → Found from q j) → ((j : ℕ → Bool) → p ≡ Some j → Found from r j)
      → ((j : ℕ → Bool) (v : Window) → Exact j v → behind all_words procs n j rest ≡ Some k
      → Found v.from (behind windows procs n v rest) k)
      → Found from (then_known (meet windows q r) (λ v. behind windows procs n v rest)) k
  joins_in None p q r rest k from h one other go = absurd (let z : ⊥ = cc in z)
  joins_in (Some a) None q r rest k from h one other go = absurd (let z : ⊥ = cc in z)
  joins_in (Some a) (Some b) q r rest k from h one other go =
      let f = one a refl in
      let g = other b refl in
      let both_at = go (all_words.both a b) (both f.0 g.0) (both_exact a b f.0 g.0 (g.3 ∙ sym f.3) f.2 g.2) h in
      let is : then_known (meet windows q r) (λ v. behind windows procs n v rest) ≡
      behind windows procs n (both f.0 g.0) rest =
      ap (λ q. then_known (meet windows q r) (λ v. behind windows procs n v rest)) f.1
      ∙ ap (λ r. then_known (meet windows (Some f.0) r) (λ v. behind windows procs n v rest)) g.1 in
      (both_at.0, is ∙ both_at.1, both_at.2, both_at.3 ∙ f.3)

  pub in_window : (c : Code) (known k : ℕ → Bool) (w : Window) → Exact known w
      → behind all_words procs n known c ≡ Some k → Found w.from (behind windows procs n w c) k
  in_window Done known k w x h = ends_in known k w x h
  in_window (Set d a rest) known k w x h =
      one_in (Set d a rest) known k w _ _ x h
      (λ e. set_in d rest known k w x (λ v y. in_window rest (all_words.also d known) k v y e))
  in_window (Compute op d a b rest) known k w x h =
      one_in (Compute op d a b rest) known k w _ _ x h
      (λ e. set_in d rest known k w x (λ v y. in_window rest (all_words.also d known) k v y e))
  in_window (Load d a offset rest) known k w x h =
      one_in (Load d a offset rest) known k w _ _ x h
      (λ e. set_in d rest known k w x (λ v y. in_window rest (all_words.also d known) k v y e))
  in_window (Store b a offset rest) known k w x h =
      one_in (Store b a offset rest) known k w _ _ x h
      (λ e. in_window rest known k w x e)
  in_window (CodeOf d i rest) known k w x h =
      one_in (CodeOf d i rest) known k w _ _ x h
      (λ e. set_in d rest known k w x (λ v y. in_window rest (all_words.also d known) k v y e))
  in_window (Build d args rest) known k w x h =
      one_in (Build d args rest) known k w _ _ x h
      (λ e. set_in d rest known k w x (λ v y. in_window rest (all_words.also d known) k v y e))
  in_window (Request d a rest) known k w x h =
      one_in (Request d a rest) known k w _ _ x h
      (λ e. set_in d rest known k w x (λ v y. in_window rest (all_words.also d known) k v y e))
  in_window (Take a rest) known k w x h =
      one_in (Take a rest) known k w _ _ x h
      (λ e. in_window rest known k w x e)
  in_window (Environment number a b d e rest) known k w x h =
      one_in (Environment number a b d e rest) known k w _ _ x h
      (λ f. set_both_in d e rest known k w x (λ v y. in_window rest (all_words.also e (all_words.also d known)) k v y
      f))
  in_window (Call d i args rest) known k w x h =
      one_in (Call d i args rest) known k w _ _ x h
      (λ e. set_in d rest known k w x (λ v y. in_window rest (all_words.also d known) k v y e))
  in_window (CallAt d f args rest) known k w x h =
      one_in (CallAt d f args rest) known k w _ _ x h
      (λ e. set_in d rest known k w x (λ v y. in_window rest (all_words.also d known) k v y e))
  in_window (If cond a b one other rest) known k w x h =
      one_in (If cond a b one other rest) known k w _ _ x h
      (λ e. joins_in (behind all_words procs n known one) (behind all_words procs n known other)
      (behind windows procs n w one) (behind windows procs n w other) rest k w.from e
      (λ j f. in_window one known j w x f) (λ j f. in_window other known j w x f)
      (λ j v y f. in_window rest j k v y f))
  in_window (Return a) known k w x h =
      one_in (Return a) known k w _ _ x h
      (λ e. ends_in known k w x e)
  in_window (TailCall i args) known k w x h =
      one_in (TailCall i args) known k w _ _ x h
      (λ e. ends_in known k w x e)
  in_window (TailCallAt f args) known k w x h =
      one_in (TailCallAt f args) known k w _ _ x h
      (λ e. ends_in known k w x e)

  -- ---- what is so in each window is closed

  module _ (count : ℕ) (some : 1 ≤ count) (all : n ≤ 64 * count) where
    -- windows that tell of all words of the procedure
    pub record Covering (known : ℕ → Bool) (F : ℕ → Window) : Type 0 where
      pub begins : (j : ℕ) → j < count → (F j).from ≡ 64 * j
      pub exact : (j : ℕ) → j < count → Exact known (F j)

    read_out : (known : ℕ → Bool) (F : ℕ → Window) → Covering known F → (a : LowSource)
        → ((j : ℕ) → j < count → is_read windows n (F j) a ≡ true) → is_read all_words n known a ≡ true
    read_out known F x (Word i) h =
        let first = and_parts (nat_lt i n) (has (F 0) i) (h 0 (omega (arith, some))) in
        let small : i < n = let f = first.0 in grind arith in
        let j : ℕ = i / 64 in
        let mine : j < count = omega (arith, all) in
        let told_of : covers (F j).from i ≡ true = ap (λ f. covers f i) (x.begins j mine) ∙ inside i in
        let set = and_parts (nat_lt i n) (has (F j) i) (h j mine) in
        and_from (nat_lt i n) (known i) first.0 (sym (x.exact j mine i told_of) ∙ set.1)
      where
        inside : (i : ℕ) → covers (64 * (i / 64)) i ≡ true
        inside i = and_from (nat_le (64 * (i / 64)) i) (nat_lt (i - 64 * (i / 64)) 64) (grind arith) (grind arith)
    read_out known F x (Number m) h = refl

    all_read_out : (known : ℕ → Bool) (F : ℕ → Window) → Covering known F → (args : List LowSource)
        → ((j : ℕ) → j < count → are_read windows n (F j) args ≡ true) → are_read all_words n known args ≡ true
    all_read_out known F x [] h = refl
    all_read_out known F x (a ∷ args) h =
        let parts : (j : ℕ) → j < count → (is_read windows n (F j) a ≡ true) × (are_read windows n (F j) args ≡ true) =
        λ j l. and_parts (is_read windows n (F j) a) (are_read windows n (F j) args) (h j l) in
        and_from (is_read all_words n known a) (are_read all_words n known args)
        (read_out known F x a (λ j l. (parts j l).0)) (all_read_out known F x args (λ j l. (parts j l).1))

    fits_out : (known : ℕ → Bool) (F : ℕ → Window) → Covering known F → (c : Code)
        → ((j : ℕ) → j < count → fits windows procs n (F j) c ≡ true) → fits all_words procs n known c ≡ true
    fits_out known F x c h =
        let parts : (j : ℕ) → j < count → (are_read windows n (F j) (reads c) ≡ true) × (names_fit procs n c ≡ true) =
        λ j l. and_parts (are_read windows n (F j) (reads c)) (names_fit procs n c) (h j l) in
        and_from (are_read all_words n known (reads c)) (names_fit procs n c)
        (all_read_out known F x (reads c) (λ j l. (parts j l).0)) (parts 0 (omega (arith, some))).1

    fits_there : (w : Window) (c : Code) (p : Option Window) → is_there (if_fits windows procs n w c p) ≡ true
        → (fits windows procs n w c ≡ true) × (is_there p ≡ true)
    fits_there w c p h = by (fits windows procs n w c) refl
      where
        by : (b : Bool) → fits windows procs n w c ≡ b → (fits windows procs n w c ≡ true) × (is_there p ≡ true)
        by true e = (e, sym (ap (λ b. is_there (go_if b p)) e) ∙ h)
        by false e = absurd (let z : false ≡ true = sym (ap (λ b. is_there (go_if b p)) e) ∙ h in cc)

    -- one code, whatever it goes on with
    one_out : (c : Code) (known : ℕ → Bool) (F : ℕ → Window) (o : Option (ℕ → Bool)) (P : ℕ → Option Window)
        → Covering known F → ((j : ℕ) → j < count → is_there (if_fits windows procs n (F j) c (P j)) ≡ true)
        → (((j : ℕ) → j < count → is_there (P j) ≡ true) → is_there o ≡ true)
        → is_there (if_fits all_words procs n known c o) ≡ true
    one_out c known F o P x h go =
        ap (λ b. is_there (go_if b o)) (fits_out known F x c (λ j l. (fits_there (F j) c (P j) (h j l)).0))
        ∙ go (λ j l. (fits_there (F j) c (P j) (h j l)).1)

    also_covers : (d : ℕ) (known : ℕ → Bool) (F : ℕ → Window) → Covering known F
        → Covering (all_words.also d known) (λ j. also d (F j))
    also_covers d known F x = record {
      begins = λ j l. also_from d (F j) ∙ x.begins j l;
      exact = λ j l. also_exact d known (F j) (x.exact j l);
    }

    -- what is found, or else another window
    abbrev found_or : Option Window → Window → Window
    found_or None w = w
    found_or (Some v) w = v

    branches_there : (q r : Option Window) (go : Window → Option Window)
        → is_there (then_known (meet windows q r) go) ≡ true → (is_there q ≡ true) × (is_there r ≡ true)
    branches_there None r go h = absurd (let z : ⊥ = cc in z)
    branches_there (Some v) None go h = absurd (let z : ⊥ = cc in z)
    branches_there (Some v) (Some u) go h = (refl, refl)

    module _ (one other rest : Code) (known : ℕ → Bool) (F : ℕ → Window) (x : Covering known F) where
      abbrev at_one : ℕ → Option Window
      at_one j = behind windows procs n (F j) one

      abbrev at_other : ℕ → Option Window
      at_other j = behind windows procs n (F j) other

      abbrev goes : Window → Option Window
      goes v = behind windows procs n v rest

      abbrev joined : ℕ → Window
      joined j = found_or (meet windows (at_one j) (at_other j)) (F j)

      -- both branches, and what stands behind them
      joins_out : ((j : ℕ) → j < count → is_there (then_known (meet windows (at_one j) (at_other j)) goes) ≡ true)
          → is_there (behind all_words procs n known one) ≡ true
          → is_there (behind all_words procs n known other) ≡ true
          → ((k : ℕ → Bool) (G : ℕ → Window) → Covering k G → ((j : ℕ) → j < count → is_there (goes (G j)) ≡ true)
          → is_there (behind all_words procs n k rest) ≡ true)
          → is_there (then_known (meet all_words (behind all_words procs n known one)
          (behind all_words procs n known other)) (λ k. behind all_words procs n k rest)) ≡ true
      joins_out h s t go =
          ap (λ o. is_there (then_known (meet all_words o (behind all_words procs n known other)) onward)) k.1
          ∙ (ap (λ p. is_there (then_known (meet all_words (Some k.0) p) onward)) m.1 ∙ go (all_words.both k.0 m.0)
          joined
          (record { begins = begins; exact = exact }) behind_both)
        where
          onward : (ℕ → Bool) → Option (ℕ → Bool)
          onward k = behind all_words procs n k rest

          k : (a : ℕ → Bool) × (behind all_words procs n known one ≡ Some a)
          k = there (behind all_words procs n known one) s

          m : (a : ℕ → Bool) × (behind all_words procs n known other ≡ Some a)
          m = there (behind all_words procs n known other) t

          f : (j : ℕ) → j < count → Found (F j).from (at_one j) k.0
          f j l = in_window one known k.0 (F j) (x.exact j l) k.1

          g : (j : ℕ) → j < count → Found (F j).from (at_other j) m.0
          g j l = in_window other known m.0 (F j) (x.exact j l) m.1

          met : (j : ℕ) (l : j < count) → meet windows (at_one j) (at_other j) ≡ Some (both (f j l).0 (g j l).0)
          met j l =
              ap (λ q. meet windows q (at_other j)) (f j l).1 ∙ ap (λ r. meet windows (Some (f j l).0) r) (g j l).1

          is : (j : ℕ) (l : j < count) → joined j ≡ both (f j l).0 (g j l).0
          is j l = ap (λ o. found_or o (F j)) (met j l)

          begins : (j : ℕ) → j < count → (joined j).from ≡ 64 * j
          begins j l = ap (λ v. v.from) (is j l) ∙ ((f j l).3 ∙ x.begins j l)

          exact : (j : ℕ) → j < count → Exact (all_words.both k.0 m.0) (joined j)
          exact j l =
              subst (λ v. Exact (all_words.both k.0 m.0) v) (sym (is j l)) (both_exact k.0 m.0 (f j l).0 (g j l).0
              ((g j l).3 ∙ sym (f j l).3) (f j l).2 (g j l).2)

          behind_both : (j : ℕ) → j < count → is_there (goes (joined j)) ≡ true
          behind_both j l =
              ap (λ v. is_there (goes v)) (is j l) ∙ (sym (ap (λ o. is_there (then_known o goes)) (met j l)) ∙ h j l)

    pub out_of_windows : (c : Code) (known : ℕ → Bool) (F : ℕ → Window) → Covering known F
        → ((j : ℕ) → j < count → is_there (behind windows procs n (F j) c) ≡ true)
        → is_there (behind all_words procs n known c) ≡ true
    out_of_windows Done known F x h = refl
    out_of_windows (Set d a rest) known F x h =
        one_out (Set d a rest) known F _ (λ j. behind windows procs n (also d (F j)) rest) x h
        (λ g. out_of_windows rest (all_words.also d known) (λ j. also d (F j)) (also_covers d known F x) g)
    out_of_windows (Compute op d a b rest) known F x h =
        one_out (Compute op d a b rest) known F _ (λ j. behind windows procs n (also d (F j)) rest) x h
        (λ g. out_of_windows rest (all_words.also d known) (λ j. also d (F j)) (also_covers d known F x) g)
    out_of_windows (Load d a offset rest) known F x h =
        one_out (Load d a offset rest) known F _ (λ j. behind windows procs n (also d (F j)) rest) x h
        (λ g. out_of_windows rest (all_words.also d known) (λ j. also d (F j)) (also_covers d known F x) g)
    out_of_windows (Store b a offset rest) known F x h =
        one_out (Store b a offset rest) known F _ (λ j. behind windows procs n (F j) rest) x h
        (λ g. out_of_windows rest known F x g)
    out_of_windows (CodeOf d i rest) known F x h =
        one_out (CodeOf d i rest) known F _ (λ j. behind windows procs n (also d (F j)) rest) x h
        (λ g. out_of_windows rest (all_words.also d known) (λ j. also d (F j)) (also_covers d known F x) g)
    out_of_windows (Build d args rest) known F x h =
        one_out (Build d args rest) known F _ (λ j. behind windows procs n (also d (F j)) rest) x h
        (λ g. out_of_windows rest (all_words.also d known) (λ j. also d (F j)) (also_covers d known F x) g)
    out_of_windows (Request d a rest) known F x h =
        one_out (Request d a rest) known F _ (λ j. behind windows procs n (also d (F j)) rest) x h
        (λ g. out_of_windows rest (all_words.also d known) (λ j. also d (F j)) (also_covers d known F x) g)
    out_of_windows (Take a rest) known F x h =
        one_out (Take a rest) known F _ (λ j. behind windows procs n (F j) rest) x h
        (λ g. out_of_windows rest known F x g)
    out_of_windows (Environment number a b d e rest) known F x h =
        one_out (Environment number a b d e rest) known F _ (λ j. behind windows procs n (also e (also d (F j))) rest)
        x h
        (λ g. out_of_windows rest (all_words.also e (all_words.also d known)) (λ j. also e (also d (F j)))
        (also_covers e (all_words.also d known) (λ j. also d (F j)) (also_covers d known F x)) g)
    out_of_windows (Call d i args rest) known F x h =
        one_out (Call d i args rest) known F _ (λ j. behind windows procs n (also d (F j)) rest) x h
        (λ g. out_of_windows rest (all_words.also d known) (λ j. also d (F j)) (also_covers d known F x) g)
    out_of_windows (CallAt d f args rest) known F x h =
        one_out (CallAt d f args rest) known F _ (λ j. behind windows procs n (also d (F j)) rest) x h
        (λ g. out_of_windows rest (all_words.also d known) (λ j. also d (F j)) (also_covers d known F x) g)
    out_of_windows (If cond a b one other rest) known F x h =
        one_out (If cond a b one other rest) known F _ (λ j. then_known (meet windows (behind windows procs n (F j)
        one) (behind windows procs n (F j) other)) (λ v. behind windows procs n v rest)) x h
        (λ g. joins_out one other rest known F x g
        (out_of_windows one known F x (λ j l. (branches_there _ _ _ (g j l)).0))
        (out_of_windows other known F x (λ j l. (branches_there _ _ _ (g j l)).1))
        (λ k G y i. out_of_windows rest k G y i))
    out_of_windows (Return a) known F x h =
        one_out (Return a) known F _ (λ j. Some (F j)) x h
        (λ g. refl)
    out_of_windows (TailCall i args) known F x h =
        one_out (TailCall i args) known F _ (λ j. Some (F j)) x h
        (λ g. refl)
    out_of_windows (TailCallAt f args) known F x h =
        one_out (TailCallAt f args) known F _ (λ j. Some (F j)) x h
        (λ g. refl)

  -- ---- as the windows are looked at

  -- a window that finds something
  pub not_closed : (c : Code) (known : ℕ → Bool) (w : Window) → Exact known w
      → behind windows procs n w c ≡ None → is_there (behind all_words procs n known c) ≡ false
  not_closed c known w x e = by (behind all_words procs n known c) refl
    where
      by : (o : Option (ℕ → Bool)) → behind all_words procs n known c ≡ o → is_there o ≡ false
      by None f = refl
      by (Some k) f =
          let found = in_window c known k w x f in
          absurd (let z : None ≡ Some found.0 = sym e ∙ found.1 in cc)

  -- windows before one, and that one, which is the last
  pub closed_so_far : (params k : ℕ) (c : Code)
      → ((j : ℕ) → j < k → is_there (behind windows procs n (window_from (64 * j) params) c) ≡ true)
      → is_there (behind windows procs n (window_from (64 * k) params) c) ≡ true
      → (j : ℕ) → j < k + 1 → is_there (behind windows procs n (window_from (64 * j) params) c) ≡ true
  closed_so_far params k c before now j l = by (cases_lt j k)
    where
      by : (j < k) ⊎ (k ≤ j) → is_there (behind windows procs n (window_from (64 * j) params) c) ≡ true
      by (inl e) = before j e
      by (inr e) =
          let same : k ≡ j = omega (arith, l) in
          subst (λ i. is_there (behind windows procs n (window_from (64 * i) params) c) ≡ true) same now

  pub closed_at_last : (params k : ℕ) (c : Code) → n ≤ 64 * (k + 1)
      → ((j : ℕ) → j < k + 1 → is_there (behind windows procs n (window_from (64 * j) params) c) ≡ true)
      → is_there (behind all_words procs n (λ i. nat_lt i params) c) ≡ true
  closed_at_last params k c all there =
      out_of_windows (k + 1) (omega arith) all c (λ i. nat_lt i params) (λ j. window_from (64 * j) params) (record {
        begins = λ j l. window_starts (64 * j) params;
        exact = λ j l. window_exact (64 * j) params;
      }) there
