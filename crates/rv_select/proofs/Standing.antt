-- In the code of a closed program each mark that is named stands, and its real registers are those that code may read.
use Rattle.std.proofs.Common.{Bool, true, false, ℕ, zero, suc, ◌+◌, ◌<◌, ◌≤◌, ◌≡◌, ◌⊎◌, inl, inr, List, [], ◌∷◌, ◌++◌}
use Rattle.std.proofs.Common.{length, refl, sym, subst, arith}
use Rattle.std.specs.Prelude.{All, Contains}
use Rattle.std.proofs.lemmas.Bool.{cases_lt}
use Rattle.std.proofs.lemmas.List.Elements.{All-nil, All-cons, Contains-append_left, Contains-append_right}
use Rattle.low_ir.specs.declared.code.WordOp.{WordOp}
use Rattle.low_ir.specs.declared.code.LowSource.{LowSource}
use Rattle.low_ir.specs.declared.code.LowSource.TheVariants.{Word, Number}
use Rattle.low_ir.specs.Procedures.{Code, Done, Set, Compute as LowCompute, Load as LowLoad, Store as LowStore}
use Rattle.low_ir.specs.Procedures.{CodeOf as LowCodeOf, Build, Request, Take, Environment as LowEnvironment}
use Rattle.low_ir.specs.Procedures.{Call as LowCall, CallAt as LowCallAt, If, Return as LowReturn}
use Rattle.low_ir.specs.Procedures.{TailCall as LowTailCall, TailCallAt as LowTailCallAt, Proc}
use Rattle.low_ir.specs.Closed.{is_closed}
use Rattle.rv_select.specs.declared.convention.TheConstants.{FIRST_SCRATCH, SECOND_SCRATCH, THIRD_SCRATCH}
use Rattle.rv_select.specs.declared.convention.TheConstants.{FIRST_ARGUMENT, SECOND_ARGUMENT, ANSWER}
use Rattle.rv_select.specs.declared.code.VReg.{VReg}
use Rattle.rv_select.specs.declared.code.VReg.TheVariants.{Real, Virtual}
use Rattle.rv_select.specs.declared.code.VirtualItem.{VirtualItem}
use Rattle.rv_select.specs.declared.code.VirtualItem.TheVariants.{Move}
use Rattle.rv_select.specs.declared.code.VirtualItem.TheVariants.{Mark, Procedure, Jump}
use Rattle.rv_select.specs.Run.{may_read}
use Rattle.rv_select.specs.Marks.{marks}
use Rattle.rv_select.specs.WellFormed.{marks_named, IsReadable, IsWellFormed}
use Rattle.rv_select.specs.Holding.{reads, writes, handed_on}
use Rattle.rv_select.specs.Sizes.{HasSmallNumbers, AreSmall}
use Rattle.rv_select.specs.Select.{put_item, source_reg, source_items, is_small, second_items, compute_item, args_items}
use Rattle.rv_select.specs.Select.{params_items, stores_items, marks_in, code_items, out_items, body_items, procs_items}
use Rattle.rv_select.specs.Select.{select_items}
use Rattle.rv_select.proofs.Marks.{marks_append, select_distinct}
use Rattle.rv_select.proofs.Closedness.{NamesThere, AllThere, closed_small, closed_there, closed_within}

-- ---- marks that stand

abbrev Has : List VirtualItem → ℕ → Type 0
Has xs w = Contains (marks xs) w

front : (xs ys : List VirtualItem) (w : ℕ) → Has xs w → Has (xs ++ ys) w
front xs ys w h = subst (λ ms. Contains ms w) (sym (marks_append xs ys))
    (Contains-append_left (marks xs) (marks ys) w h)

later : (xs ys : List VirtualItem) (w : ℕ) → Has ys w → Has (xs ++ ys) w
later xs ys w h = subst (λ ms. Contains ms w) (sym (marks_append xs ys))
    (Contains-append_right (marks xs) (marks ys) w h)

first_one : (w : ℕ) (ms : List ℕ) → Contains (w ∷ ms) w
first_one w ms = (0, omega arith, refl)

module _ (first out : ℕ) where
  code_has : (c : Code) (m w : ℕ) → m ≤ w → w < m + marks_in c → Has (code_items first out m c) w
  code_has Done m w h k = absurd (omega (arith, h, k))
  code_has (Set d a rest) m w h k = later (put_item first (Virtual (first + d)) a ∷ []) _ w (code_has rest m w h k)
  code_has (LowCompute op d a b rest) m w h k =
      later (source_items FIRST_SCRATCH a) _ w (later (second_items (is_small op b) b) _ w
      (later (compute_item (is_small op b) first op (Virtual (first + d)) a b ∷ []) _ w (code_has rest m w h k)))
  code_has (LowLoad d a offset rest) m w h k = later (source_items FIRST_SCRATCH a) _ w (code_has rest m w h k)
  code_has (LowStore b a offset rest) m w h k =
      later (source_items FIRST_SCRATCH a) _ w (later (source_items SECOND_SCRATCH b) _ w (code_has rest m w h k))
  code_has (LowCodeOf d i rest) m w h k = code_has rest m w h k
  code_has (Build d args rest) m w h k = later (stores_items first 0 args) _ w (code_has rest m w h k)
  code_has (Request d a rest) m w h k = later (source_items THIRD_SCRATCH a) _ w (code_has rest m w h k)
  code_has (Take a rest) m w h k = later (source_items THIRD_SCRATCH a) _ w (code_has rest m w h k)
  code_has (LowEnvironment number a b d e rest) m w h k =
      later (put_item first (Real FIRST_ARGUMENT) a ∷ put_item first (Real SECOND_ARGUMENT) b ∷ []) _ w
      (code_has rest m w h k)
  code_has (LowCall d i args rest) m w h k = later (args_items first 0 args) _ w (code_has rest m w h k)
  code_has (LowCallAt d f args rest) m w h k =
      later (source_items THIRD_SCRATCH f) _ w (later (args_items first 0 args) _ w (code_has rest m w h k))
  code_has (If cond a b one other rest) m w h k =
      later (source_items FIRST_SCRATCH a) _ w
      (later (source_items SECOND_SCRATCH b) _ w (in_branch h k (code_has other (suc (suc m)) w)
      (code_has one (suc (suc m) + marks_in other) w) (code_has rest (suc (suc m) + marks_in other + marks_in one) w)
      (cases_lt w (suc (suc m)))))
    where
      m2 : ℕ
      m2 = suc (suc m)

      m3 : ℕ
      m3 = m2 + marks_in other

      m4 : ℕ
      m4 = m3 + marks_in one

      other_code : List VirtualItem
      other_code = code_items first out m2 other

      one_code : List VirtualItem
      one_code = code_items first out m3 one

      rest_code : List VirtualItem
      rest_code = code_items first out m4 rest

      end : List VirtualItem
      end = Mark (suc m) ∷ rest_code

      from_one : List VirtualItem
      from_one = Mark m ∷ (one_code ++ end)

      after_one : Has end w → Has from_one w
      after_one e = later (Mark m ∷ []) (one_code ++ end) w (later one_code end w e)

      behind : Has from_one w → Has (other_code ++ (Jump (suc m) ∷ from_one)) w
      behind e = later other_code (Jump (suc m) ∷ from_one) w e

      in_branch : m ≤ w → w < m + (suc (suc (marks_in other)) + marks_in one + marks_in rest)
          → (m2 ≤ w → w < m2 + marks_in other → Has other_code w)
          → (m3 ≤ w → w < m3 + marks_in one → Has one_code w)
          → (m4 ≤ w → w < m4 + marks_in rest → Has rest_code w) → (w < m2) ⊎ (m2 ≤ w)
          → Has (other_code ++ (Jump (suc m) ∷ from_one)) w
      in_branch l r one_has two_has rest_has (inl g) = at_mark (cases_lt w (suc m))
        where
          at_mark : (w < suc m) ⊎ (suc m ≤ w) → Has (other_code ++ (Jump (suc m) ∷ from_one)) w
          at_mark (inl e) =
              let same : w ≡ m = omega (arith, e, l) in
              behind (subst (Has from_one) (sym same) (first_one m (marks (one_code ++ end))))
          at_mark (inr e) =
              let same : w ≡ suc m = omega (arith, e, g) in
              behind (after_one (subst (Has end) (sym same) (first_one (suc m) (marks rest_code))))
      in_branch l r one_has two_has rest_has (inr g) = in_other (cases_lt w m3)
        where
          in_one : m3 ≤ w → (w < m4) ⊎ (m4 ≤ w) → Has (other_code ++ (Jump (suc m) ∷ from_one)) w
          in_one u (inl e) =
              behind (later (Mark m ∷ []) (one_code ++ end) w (front one_code end w (two_has u (omega (arith, e)))))
          in_one u (inr e) =
              behind (after_one (later (Mark (suc m) ∷ []) rest_code w (rest_has e (omega (arith, r)))))

          in_other : (w < m3) ⊎ (m3 ≤ w) → Has (other_code ++ (Jump (suc m) ∷ from_one)) w
          in_other (inl e) = front other_code (Jump (suc m) ∷ from_one) w (one_has g (omega (arith, e)))
          in_other (inr e) = in_one e (cases_lt w m4)
  code_has (LowReturn a) m w h k = absurd (omega (arith, h, k))
  code_has (LowTailCall i args) m w h k = absurd (omega (arith, h, k))
  code_has (LowTailCallAt f args) m w h k = absurd (omega (arith, h, k))

procs_have : (ps : List Proc) (k first mark w : ℕ) → k ≤ w → w < k + length ps → Has (procs_items k first mark ps) w
procs_have [] k first mark w h l = absurd (omega (arith, h, l))
procs_have (p ∷ ps) k first mark w h l =
    by (cases_lt k w) (procs_have ps (suc k) (first + p.words) (suc mark + marks_in p.code) w)
  where
    body : List VirtualItem
    body = body_items first mark p

    tail : List VirtualItem
    tail = procs_items (suc k) (first + p.words) (suc mark + marks_in p.code) ps

    by : (k < w) ⊎ (w ≤ k) → (suc k ≤ w → w < suc k + length ps → Has tail w)
        → Has (Procedure k first p.words ∷ (body ++ tail)) w
    by (inl g) rest =
        later (Procedure k first p.words ∷ []) (body ++ tail) w
        (later body tail w (rest (omega (arith, g)) (omega (arith, l))))
    by (inr g) rest =
        let same : w ≡ k = omega (arith, g, h) in
        subst (Has (Procedure k first p.words ∷ (body ++ tail))) (sym same) (first_one k (marks (body ++ tail)))

-- ---- items that name such marks and registers

abbrev Every : {X : Type 0} → (X → Type 0) → List X → Type 0
Every P [] = Unit {0}
Every P (x ∷ xs) = P x × Every P xs

all_of : {X : Type 0} (P : X → Type 0) (xs : List X) → Every P xs → All P xs
all_of P [] h = All-nil P
all_of P (x ∷ xs) h = All-cons P x xs h.0 (all_of P xs h.1)

abbrev IsWell : List ℕ → VirtualItem → Type 0
IsWell S x = Every (λ m. Contains S m) (marks_named x) × Every IsReadable (writes x ++ reads x)

module _ (S : List ℕ) where
  abbrev AreWell : List VirtualItem → Type 0
  AreWell xs = Every (IsWell S) xs

  well_append : (xs ys : List VirtualItem) → AreWell xs → AreWell ys → AreWell (xs ++ ys)
  well_append [] ys h k = k
  well_append (x ∷ xs) ys h k = (h.0, well_append xs ys h.1 k)

  readable_source : (first r : ℕ) (a : LowSource) → may_read r ≡ true → IsReadable (source_reg first r a)
  readable_source first r (Word i) h = tt
  readable_source first r (Number zero) h = refl
  readable_source first r (Number (suc n)) h = h

  source_well : (r : ℕ) (a : LowSource) → may_read r ≡ true → AreWell (source_items r a)
  source_well r (Word i) h = tt
  source_well r (Number zero) h = tt
  source_well r (Number (suc n)) h = ((tt, (h, tt)), tt)

  put_well : (first : ℕ) (rd : VReg) (a : LowSource) → IsReadable rd → IsWell S (put_item first rd a)
  put_well first rd (Word i) h = (tt, (h, (tt, tt)))
  put_well first rd (Number n) h = (tt, (h, tt))

  arg_readable : (from n : ℕ) → from + suc n ≤ 8 → may_read (FIRST_ARGUMENT + from) ≡ true
  arg_readable from n h = grind arith

  args_well : (first from : ℕ) (args : List LowSource) → from + length args ≤ 8 → AreWell (args_items first from args)
  args_well first from [] h = tt
  args_well first from (a ∷ args) h = (
    put_well first (Real (FIRST_ARGUMENT + from)) a (arg_readable from (length args) (omega (arith, h))),
    args_well first (suc from) args (omega (arith, h)),
  )

  params_well : (first from n : ℕ) → from + n ≤ 8 → AreWell (params_items first from n)
  params_well first from zero h = tt
  params_well first from (suc n) h =
      ((tt, (tt, (arg_readable from n h, tt))), params_well first (suc from) n (omega (arith, h)))

  handed_readable : (from n : ℕ) → from + n ≤ 8 → Every IsReadable (handed_on from n)
  handed_readable from zero h = tt
  handed_readable from (suc n) h = (arg_readable from n h, handed_readable (suc from) n (omega (arith, h)))

  stores_well : (first offset : ℕ) (args : List LowSource) → AreWell (stores_items first offset args)
  stores_well first offset [] = tt
  stores_well first offset (a ∷ args) =
      well_append (source_items FIRST_SCRATCH a) _ (source_well FIRST_SCRATCH a refl)
      ((tt, (refl, (readable_source first FIRST_SCRATCH a refl, tt))), stores_well first (offset + 8) args)

  compute_well : (op : WordOp) (first d : ℕ) (a b : LowSource) (c : Bool)
      → IsWell S (compute_item c first op (Virtual (first + d)) a b)
  compute_well op first d a b true = (tt, (tt, (readable_source first FIRST_SCRATCH a refl, tt)))
  compute_well op first d a b false =
      (tt, (tt, (readable_source first FIRST_SCRATCH a refl, (readable_source first SECOND_SCRATCH b refl, tt))))

  second_well : (c : Bool) (b : LowSource) → AreWell (second_items c b)
  second_well true b = tt
  second_well false b = source_well SECOND_SCRATCH b refl

  module _ (n first out : ℕ) (there : (k : ℕ) → k < n → Contains S k) (out_there : Contains S out) where
    with_source : (r : ℕ) (a : LowSource) (xs : List VirtualItem) → may_read r ≡ true → AreWell xs
        → AreWell (source_items r a ++ xs)
    with_source r a xs r_read h = well_append (source_items r a) xs (source_well r a r_read) h

    with_args : (args : List LowSource) (xs : List VirtualItem) → length args ≤ 8 → AreWell xs
        → AreWell (args_items first 0 args ++ xs)
    with_args args xs l h =
        well_append (args_items first 0 args) xs (args_well first 0 args (omega (arith, l))) h

    -- the answer of a call is moved to its register
    answer_well : (d : ℕ) → IsWell S (Move (Virtual (first + d)) (Real ANSWER))
    answer_well d = (tt, (tt, (refl, tt)))

    handed : (args : List LowSource) → length args ≤ 8 → Every IsReadable (handed_on 0 (length args))
    handed args l = handed_readable 0 (length args) (omega (arith, l))

    code_well : (c : Code) (m : ℕ) → HasSmallNumbers c → NamesThere n c
        → ((w : ℕ) → m ≤ w → w < m + marks_in c → Contains S w) → AreWell (code_items first out m c)
    code_well Done m h t s = tt
    code_well (Set d a rest) m h t s = (put_well first (Virtual (first + d)) a tt, code_well rest m h t s)
    code_well (LowCompute op d a b rest) m h t s =
        with_source FIRST_SCRATCH a _ refl
        (well_append (second_items (is_small op b) b) _ (second_well (is_small op b) b)
        (compute_well op first d a b (is_small op b), code_well rest m h t s))
    code_well (LowLoad d a offset rest) m h t s =
        with_source FIRST_SCRATCH a _ refl
        ((tt, (tt, (readable_source first FIRST_SCRATCH a refl, tt))), code_well rest m h.1 t s)
    code_well (LowStore b a offset rest) m h t s =
        with_source FIRST_SCRATCH a _ refl (with_source SECOND_SCRATCH b _ refl (
          (tt, (readable_source first FIRST_SCRATCH a refl, (readable_source first SECOND_SCRATCH b refl, tt))),
          code_well rest m h.1 t s,
        ))
    code_well (LowCodeOf d k rest) m h t s = (((there k t.0, tt), (tt, tt)), code_well rest m h t.1 s)
    code_well (Build d args rest) m h t s = (
      (tt, (refl, (refl, (refl, tt)))),
      (
        (tt, (refl, tt)),
        (
          ((out_there, tt), (refl, (refl, tt))),
          well_append (stores_items first 0 args) _ (stores_well first 0 args)
              ((tt, (tt, (refl, tt))), ((tt, (refl, (refl, (refl, tt)))), code_well rest m h.1 t s)),
        ),
      ),
    )
    code_well (Request d a rest) m h t s =
        with_source THIRD_SCRATCH a _ refl (
          (tt, (refl, (refl, (refl, tt)))),
          (
            (tt, (refl, (refl, tt))),
            (
              ((out_there, tt), (refl, (readable_source first THIRD_SCRATCH a refl, tt))),
              ((tt, (tt, (refl, tt))), code_well rest m h t s),
            ),
          ),
        )
    code_well (Take a rest) m h t s =
        with_source THIRD_SCRATCH a _ refl (
          (tt, (refl, (readable_source first THIRD_SCRATCH a refl, tt))),
          ((tt, (refl, (refl, (refl, tt)))), code_well rest m h t s),
        )
    code_well (LowEnvironment number a b d e rest) m h t s = (
      put_well first (Real FIRST_ARGUMENT) a refl,
      (
        put_well first (Real SECOND_ARGUMENT) b refl,
        (
          (tt, (refl, tt)),
          (
            (tt, (refl, (refl, (refl, (refl, (refl, tt)))))),
            (
              answer_well d,
              (
                (tt, (tt, (refl, tt))),
                code_well rest m h t s,
              ),
            ),
          ),
        ),
      ),
    )
    code_well (LowCall d k args rest) m h t s =
        with_args args _ h.0 (((there k t.0, tt), (refl, handed args h.0)), (answer_well d, code_well rest m h.1 t.1 s))
    code_well (LowCallAt d f args rest) m h t s =
        with_source THIRD_SCRATCH f _ refl (with_args args _ h.0 (
          (tt, (refl, (readable_source first THIRD_SCRATCH f refl, handed args h.0))),
          (answer_well d, code_well rest m h.1 t s),
        ))
    code_well (If cond a b one other rest) m h t s =
        with_source FIRST_SCRATCH a _ refl (with_source SECOND_SCRATCH b _ refl (
          (
            (s m (omega arith) (omega arith), tt),
            (
              readable_source first FIRST_SCRATCH a refl,
              (readable_source first SECOND_SCRATCH b refl, tt),
            ),
          ),
          well_append (code_items first out (suc (suc m)) other) _
              (code_well other (suc (suc m)) h.1 t.1 (λ w p q. s w (omega (arith, p)) (omega (arith, q)))) (
                ((s (suc m) (omega arith) (omega arith), tt), tt),
                (
                  (tt, tt),
                  well_append (code_items first out (suc (suc m) + marks_in other) one) _
                      (code_well one (suc (suc m) + marks_in other) h.0 t.0
                      (λ w p q. s w (omega (arith, p)) (omega (arith, q)))) (
                        (tt, tt),
                        code_well rest (suc (suc m) + marks_in other + marks_in one) h.2 t.2
                            (λ w p q. s w (omega (arith, p)) (omega (arith, q))),
                      ),
                ),
              ),
        ))
    code_well (LowReturn a) m h t s = (put_well first (Real ANSWER) a refl, ((tt, (refl, tt)), tt))
    code_well (LowTailCall k args) m h t s = with_args args _ h (((there k t, tt), handed args h), tt)
    code_well (LowTailCallAt f args) m h t s =
        with_source THIRD_SCRATCH f _ refl
        (with_args args _ h ((tt, (readable_source first THIRD_SCRATCH f refl, handed args h)), tt))

  procs_well : (n : ℕ) → ((k : ℕ) → k < n → Contains S k) → (ps : List Proc) (k first mark : ℕ) → AreSmall ps
      → AllThere n ps → ((w : ℕ) → Has (procs_items k first mark ps) w → Contains S w)
      → AreWell (procs_items k first mark ps)
  procs_well n there [] k first mark h t s = tt
  procs_well n there (p ∷ ps) k first mark h t s = (
    (tt, tt),
    well_append body tail (well_append params (code ++ out_items mark)
        (params_well first 0 p.params (let e = h.0.0 in omega (arith, e)))
        (well_append code (out_items mark) (code_well n first mark there out_there p.code (suc mark) h.0.1 t.0 in_code)
        outs)) (procs_well n there ps (suc k) (first + p.words) (suc mark + marks_in p.code) h.1 t.1
        (λ w e. s w (later (Procedure k first p.words ∷ []) (body ++ tail) w (later body tail w e)))),
  )
    where
      params : List VirtualItem
      params = params_items first 0 p.params

      code : List VirtualItem
      code = code_items first mark (suc mark) p.code

      body : List VirtualItem
      body = body_items first mark p

      tail : List VirtualItem
      tail = procs_items (suc k) (first + p.words) (suc mark + marks_in p.code) ps

      in_body : (w : ℕ) → Has body w → Contains S w
      in_body w e = s w (later (Procedure k first p.words ∷ []) (body ++ tail) w (front body tail w e))

      out_there : Contains S mark
      out_there = in_body mark (later params (code ++ out_items mark) mark (later code (out_items mark) mark
          (first_one mark [])))

      in_code : (w : ℕ) → suc mark ≤ w → w < suc mark + marks_in p.code → Contains S w
      in_code w l r = in_body w (later params (code ++ out_items mark) w (front code (out_items mark) w
          (code_has first mark p.code (suc mark) w l r)))

      outs : AreWell (out_items mark)
      outs = (
        (tt, tt),
        (
          (tt, (refl, tt)),
          (
            (tt, (refl, tt)),
            (
              (tt, (refl, tt)),
              ((tt, (refl, (refl, (refl, (refl, (refl, tt)))))), (((out_there, tt), tt), tt)),
            ),
          ),
        ),
      )

-- the code of a closed program is well-formed
pub select_well : (entry : ℕ) (procs : List Proc) → is_closed procs entry ≡ true
    → IsWellFormed (select_items entry procs)
select_well entry procs closed = record {
  distinct = select_distinct entry procs;
  named = named_in items well;
  registers = registers_in items well;
}
  where
    items : List VirtualItem
    items = select_items entry procs

    S : List ℕ
    S = marks items

    all : List VirtualItem
    all = procs_items 0 0 (length procs) procs

    there : (k : ℕ) → k < length procs → Contains S k
    there k l = procs_have procs 0 0 (length procs) k (omega arith) (omega (arith, l))

    well : Every (IsWell S) items
    well = (
      ((there entry (closed_within procs entry closed), tt), (refl, tt)),
      (
        (tt, (refl, (refl, tt))),
        (
          (tt, (refl, tt)),
          (
            (tt, (refl, tt)),
            (
              (tt, (refl, (refl, (refl, (refl, (refl, tt)))))),
              (
                (tt, (refl, tt)),
                procs_well S (length procs) there procs 0 0 (length procs) (closed_small procs entry closed)
                    (closed_there procs entry closed) (λ w e. e),
              ),
            ),
          ),
        ),
      ),
    )

    Named : VirtualItem → Type 0
    Named item = All (λ mark. Contains S mark) (marks_named item)

    Registered : VirtualItem → Type 0
    Registered item = All IsReadable (writes item ++ reads item)

    named_in : (xs : List VirtualItem) → Every (IsWell S) xs → All Named xs
    named_in [] h = All-nil Named
    named_in (x ∷ xs) h =
        All-cons Named x xs (all_of (λ mark. Contains S mark) (marks_named x) h.0.0) (named_in xs h.1)

    registers_in : (xs : List VirtualItem) → Every (IsWell S) xs → All Registered xs
    registers_in [] h = All-nil Registered
    registers_in (x ∷ xs) h =
        All-cons Registered x xs (all_of IsReadable (writes x ++ reads x) h.0.1) (registers_in xs h.1)
