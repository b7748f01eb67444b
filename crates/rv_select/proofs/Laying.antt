-- Where the code of `select` has its procedures and blocks.
use Rattle.std.proofs.Common.{append_assoc, ℕ, zero, suc, ◌+◌, ◌^◌, ◌<◌, ◌≡◌, ◌≢◌, true, false, Bool, List, []}
use Rattle.std.proofs.Common.{◌∷◌, ◌++◌, Some, refl, sym, ◌∙◌, ap, subst, arith}
use Rattle.std.specs.Prelude.{◌==◌, if◌then◌else◌, length, slice_get, drop}
use Rattle.run_laws.specs.Runs.{Ending}
use Rattle.machine_words.specs.Halts.{Halt}
use Rattle.low_ir.specs.declared.code.LowSource.{LowSource}
use Rattle.low_ir.specs.declared.code.LowSource.TheVariants.{Word, Number}
use Rattle.low_ir.specs.Procedures.{Code, Done, Set, Compute as LowCompute, Load as LowLoad, Store as LowStore}
use Rattle.low_ir.specs.Procedures.{CodeOf as LowCodeOf, Build, Request, Take, Environment as LowEnvironment}
use Rattle.low_ir.specs.Procedures.{Call as LowCall, CallAt as LowCallAt, If, Return as LowReturn}
use Rattle.low_ir.specs.Procedures.{TailCall as LowTailCall, TailCallAt as LowTailCallAt, Proc}
use Rattle.low_ir.specs.declared.code.WordOp.{WordOp}
use Rattle.low_ir.specs.Run.{Setting as LowSetting, proc_from}
use Rattle.rv_select.specs.declared.convention.TheConstants.{FIRST_SCRATCH, SECOND_SCRATCH, THIRD_SCRATCH}
use Rattle.rv_select.specs.declared.convention.TheConstants.{FIRST_ARGUMENT, SECOND_ARGUMENT, ANSWER}
use Rattle.rv_select.specs.declared.code.VReg.{VReg}
use Rattle.rv_select.specs.declared.code.VReg.TheVariants.{Real, Virtual}
use Rattle.rv_select.specs.declared.code.VirtualItem.{VirtualItem}
use Rattle.rv_select.specs.declared.code.VirtualItem.TheVariants.{Constant, Move, Mark, Procedure}
use Rattle.rv_select.specs.Run.{Setting, Found, procedure_from, procedure_at, mark_from, mark_place}
use Rattle.rv_select.specs.Select.{is_small, second_items, compute_item, put_item, source_items, args_items}
use Rattle.rv_select.specs.Select.{params_items, stores_items, marks_in, code_items, out_items, body_items}
use Rattle.rv_select.specs.Select.{procs_items, select_items}
use Rattle.rv_select.specs.Marks.{NotIn, Distinct, marks}
use Rattle.rv_select.proofs.Marks.{Each, each_append, body_fresh}
use Rattle.rv_select.proofs.Stretches.{Stands, stands_front, stands_past, beyond}
use Rattle.rv_select.proofs.Relation.{Program, Finds, finds_front, finds_past, Entered, Laid}
use Rattle.rv_select.specs.Selected.{setting_of}

-- items that are no procedures
abbrev pub IsBody : VirtualItem → Type 0
IsBody (Procedure k first count) = ⊥
IsBody item = Unit {0}

-- nor is any of these
abbrev pub AreBody : List VirtualItem → Type 0
AreBody xs = Each IsBody xs

-- ---- what holds of moves and constants holds of the items that put words

module _ (P : VirtualItem → Type 0) (moved : (rd a : VReg) → P (Move rd a))
    (constant : (rd : VReg) (n : ℕ) → P (Constant rd n)) where
  pub source_each : (r : ℕ) (a : LowSource) → Each P (source_items r a)
  source_each r (Word i) = tt
  source_each r (Number zero) = tt
  source_each r (Number (suc n)) = (constant (Real r) (suc n), tt)

  pub put_each : (first : ℕ) (rd : VReg) (a : LowSource) → P (put_item first rd a)
  put_each first rd (Word i) = moved rd (Virtual (first + i))
  put_each first rd (Number n) = constant rd n

  pub args_each : (first from : ℕ) (args : List LowSource) → Each P (args_items first from args)
  args_each first from [] = tt
  args_each first from (a ∷ args) =
      (put_each first (Real (FIRST_ARGUMENT + from)) a, args_each first (suc from) args)

  pub params_each : (first from n : ℕ) → Each P (params_items first from n)
  params_each first from zero = tt
  params_each first from (suc n) =
      (moved (Virtual (first + from)) (Real (FIRST_ARGUMENT + from)), params_each first (suc from) n)

skip_number : (x : VirtualItem) (k p : ℕ) (rest : List VirtualItem) → IsBody x
    → procedure_from k p (x ∷ rest) ≡ procedure_from k (suc p) rest
skip_number (Procedure i first count) k p rest h = absurd h
skip_number x k p rest h = refl

skip_address : (x : VirtualItem) (address : ℕ → ℕ) (at p : ℕ) (rest : List VirtualItem) → IsBody x
    → procedure_at address at p (x ∷ rest) ≡ procedure_at address at (suc p) rest
skip_address (Procedure i first count) address at p rest h = absurd h
skip_address x address at p rest h = refl

skip_numbers : (xs rest : List VirtualItem) (k p : ℕ) → AreBody xs → procedure_from k p (xs ++ rest)
    ≡ procedure_from k (beyond xs p) rest
skip_numbers [] rest k p h = refl
skip_numbers (x ∷ xs) rest k p h = skip_number x k p (xs ++ rest) h.0 ∙ skip_numbers xs rest k (suc p) h.1

skip_addresses : (xs rest : List VirtualItem) (address : ℕ → ℕ) (at p : ℕ) → AreBody xs
    → procedure_at address at p (xs ++ rest) ≡ procedure_at address at (beyond xs p) rest
skip_addresses [] rest address at p h = refl
skip_addresses (x ∷ xs) rest address at p h =
    skip_address x address at p (xs ++ rest) h.0 ∙ skip_addresses xs rest address at (suc p) h.1

source_body : (r : ℕ) (a : LowSource) → AreBody (source_items r a)
source_body r a = source_each IsBody (λ rd b. tt) (λ rd n. tt) r a

put_body : (first : ℕ) (rd : VReg) (a : LowSource) → IsBody (put_item first rd a)
put_body first rd a = put_each IsBody (λ r b. tt) (λ r n. tt) first rd a

args_body : (first from : ℕ) (args : List LowSource) → AreBody (args_items first from args)
args_body first from args = args_each IsBody (λ rd a. tt) (λ rd n. tt) first from args

params_body : (first from n : ℕ) → AreBody (params_items first from n)
params_body first from n = params_each IsBody (λ rd a. tt) (λ rd m. tt) first from n

stores_body : (first offset : ℕ) (args : List LowSource) → AreBody (stores_items first offset args)
stores_body first offset [] = tt
stores_body first offset (a ∷ args) =
    each_append IsBody (source_items FIRST_SCRATCH a) _ (source_body FIRST_SCRATCH a)
    (tt, stores_body first (offset + 8) args)

module _ (first out : ℕ) where
  with_source : (r : ℕ) (a : LowSource) (xs : List VirtualItem) → AreBody xs → AreBody (source_items r a ++ xs)
  with_source r a xs h = each_append IsBody (source_items r a) xs (source_body r a) h

  with_args : (args : List LowSource) (xs : List VirtualItem) → AreBody xs → AreBody (args_items first 0 args ++ xs)
  with_args args xs h = each_append IsBody (args_items first 0 args) xs (args_body first 0 args) h

  with_compute : (c : Bool) (op : WordOp) (rd : VReg) (a b : LowSource) (xs : List VirtualItem) → AreBody xs
      → AreBody (second_items c b ++ (compute_item c first op rd a b ∷ xs))
  with_compute true op rd a b xs h = (tt, h)
  with_compute false op rd a b xs h = with_source SECOND_SCRATCH b _ (tt, h)

  code_body : (c : Code) (m : ℕ) → AreBody (code_items first out m c)
  code_body Done m = tt
  code_body (Set d a rest) m = (put_body first (Virtual (first + d)) a, code_body rest m)
  code_body (LowCompute op d a b rest) m =
      with_source FIRST_SCRATCH a _ (with_compute (is_small op b) op (Virtual (first + d)) a b _ (code_body rest m))
  code_body (LowLoad d a offset rest) m = with_source FIRST_SCRATCH a _ (tt, code_body rest m)
  code_body (LowStore b a offset rest) m = with_source FIRST_SCRATCH a _
      (with_source SECOND_SCRATCH b _ (tt, code_body rest m))
  code_body (LowCodeOf d k rest) m = (tt, code_body rest m)
  code_body (Build d args rest) m = (
    tt,
    (
      tt,
      (
        tt,
        each_append IsBody (stores_items first 0 args) _ (stores_body first 0 args) (
          tt,
          (tt, code_body rest m),
        ),
      ),
    ),
  )
  code_body (Request d a rest) m = with_source THIRD_SCRATCH a _ (tt, (tt, (tt, (tt, code_body rest m))))
  code_body (Take a rest) m = with_source THIRD_SCRATCH a _ (tt, (tt, code_body rest m))
  code_body (LowEnvironment number a b d e rest) m = (
    put_body first (Real FIRST_ARGUMENT) a,
    (
      put_body first (Real SECOND_ARGUMENT) b,
      (tt, (tt, (tt, (tt, code_body rest m)))),
    ),
  )
  code_body (LowCall d k args rest) m = with_args args _ (tt, (tt, code_body rest m))
  code_body (LowCallAt d f args rest) m = with_source THIRD_SCRATCH f _ (with_args args _ (tt, (tt, code_body rest m)))
  code_body (If cond a b one other rest) m =
      with_source FIRST_SCRATCH a _ (with_source SECOND_SCRATCH b _ (
        tt,
        each_append IsBody (code_items first out (suc (suc m)) other) _
            (code_body other (suc (suc m))) (
              tt,
              (
                tt,
                each_append IsBody (code_items first out (suc (suc m) + marks_in other) one) _
                    (code_body one (suc (suc m) + marks_in other)) (
                      tt,
                      code_body rest (suc (suc m) + marks_in other + marks_in one),
                    ),
              ),
            ),
      ))
  code_body (LowReturn a) m = (put_body first (Real ANSWER) a, (tt, tt))
  code_body (LowTailCall k args) m = with_args args _ (tt, tt)
  code_body (LowTailCallAt f args) m = with_source THIRD_SCRATCH f _ (with_args args _ (tt, tt))

-- nothing in the body of a procedure begins another
pub body_is_body : (first mark : ℕ) (p : Proc) → AreBody (body_items first mark p)
body_is_body first mark p =
    each_append IsBody (params_items first 0 p.params) _ (params_body first 0 p.params)
    (each_append IsBody (code_items first mark (suc mark) p.code) (out_items mark)
    (code_body first mark p.code (suc mark)) (tt, (tt, (tt, (tt, (tt, (tt, tt)))))))

-- ---- what lies from a place on

drop_nil : (p : ℕ) → drop p (let xs : List VirtualItem = [] in xs) ≡ []
drop_nil zero = refl
drop_nil (suc p) = refl

drop_next : (items : List VirtualItem) (p : ℕ) (x : VirtualItem) (xs : List VirtualItem) → drop p items ≡ x ∷ xs
    → (slice_get items p ≡ Some x) × (drop (suc p) items ≡ xs)
drop_next [] zero x xs e = absurd (cc)
drop_next [] (suc p) x xs e = absurd (cc)
drop_next (y ∷ ys) zero x xs e = (cc, cc)
drop_next (y ∷ ys) (suc p) x xs e = drop_next ys p x xs e

equal_self : (n : ℕ) → (n == n) ≡ true
equal_self n = grind arith

module _ {V : Type 0} (reading : Halt → Ending V) (low : LowSetting) (items : List VirtualItem) (stack : ℕ)
    (small : low.top < 2 ^ 64) where
  abbrev program : Program V
  program = record { reading = reading; low = low; items = items; stack = stack; small = small }

  abbrev From : ℕ → List VirtualItem → Type 0
  From p xs = drop p items ≡ xs

  abbrev Here : ℕ → List VirtualItem → Type 0
  Here p xs = Stands reading (setting_of low items) p xs

  from_stands : (xs rest : List VirtualItem) (p : ℕ) → From p (xs ++ rest) → Here p xs
  from_stands [] rest p e = tt
  from_stands (x ∷ xs) rest p e = let d = drop_next items p x (xs ++ rest) e in (d.0, from_stands xs rest (suc p) d.1)

  from_beyond : (xs rest : List VirtualItem) (p : ℕ) → From p (xs ++ rest) → From (beyond xs p) rest
  from_beyond [] rest p e = e
  from_beyond (x ∷ xs) rest p e = from_beyond xs rest (suc p) (drop_next items p x (xs ++ rest) e).1

  each_with : (m : ℕ) (P Q : ℕ → Type 0) (xs : List ℕ) → NotIn m xs → Each P xs → ((x : ℕ) → m ≢ x → P x → Q x)
      → Each Q xs
  each_with m P Q [] n h f = tt
  each_with m P Q (x ∷ xs) n h f = (f x n.0 h.0, each_with m P Q xs n.1 h.1 f)

  pass_mark : (home m p w : ℕ) (rest : List VirtualItem) → m ≢ w → mark_place items home w
      ≡ mark_from w p (Mark m ∷ rest) → mark_place items home w ≡ mark_from w (suc p) rest
  pass_mark home m p w rest n e =
      let other : (m == w) ≡ false = grind arith in e ∙ ap (λ c. if c then Some p else mark_from w (suc p) rest) other

  -- distinct marks are found where they stand
  all_found : (home : ℕ) (xs tail : List VirtualItem) (p : ℕ) → AreBody xs → Distinct (marks xs)
      → Each (λ w. mark_place items home w ≡ mark_from w p (xs ++ tail)) (marks xs)
      → Finds program home p xs
  all_found home [] tail p b d e = tt
  all_found home (Mark m ∷ xs) tail p b d e = (
    e.0 ∙ ap (λ c. if c then Some p else mark_from m (suc p) (xs ++ tail)) (equal_self m),
    all_found home xs tail (suc p) b.1 d.1 (each_with m _ (λ w. mark_place items home w ≡ mark_from w (suc p) (xs
        ++ tail)) (marks xs) d.0 e.1 (λ w n h. pass_mark home m p w (xs ++ tail) n h)),
  )
  all_found home (Procedure k first count ∷ xs) tail p b d e = absurd b.0
  all_found home (x ∷ xs) tail p b d e = (tt, all_found home xs tail (suc p) b.1 d e)

  every : (P : ℕ → Type 0) (xs : List ℕ) → ((x : ℕ) → P x) → Each P xs
  every P [] f = tt
  every P (x ∷ xs) f = (f x, every P xs f)

  -- a procedure whose body lies from a place on
  entered : (p : Proc) (first mark home : ℕ) (tail : List VirtualItem) → From home (body_items first mark p ++ tail)
      → Entered program p (record { home = home; first = first; count = p.words })
  entered p first mark home tail e = record {
    mark = suc mark;
    out = mark;
    homed = record {
      count = refl;
      room = (
        beyond code (beyond params home),
        (finds_past program home code (out_items mark) (beyond params home)
            (finds_past program home params (code ++ out_items mark) home finds)).0,
        stands_past reading setting code (out_items mark) (beyond params home)
            (stands_past reading setting params (code ++ out_items mark) home stands),
      );
    };
    lies = record {
      stands = stands_front reading setting (params ++ code) (out_items mark) home
          (subst (Here home) (sym (append_assoc params code (out_items mark))) stands);
      finds = finds_front program home (params ++ code) (out_items mark) home
          (subst (Finds program home home) (sym (append_assoc params code (out_items mark)))
          finds);
      leads = tt;
    };
  }
    where
      setting : Setting
      setting = setting_of low items

      params : List VirtualItem
      params = params_items first 0 p.params

      code : List VirtualItem
      code = code_items first mark (suc mark) p.code

      stands : Here home (body_items first mark p)
      stands = from_stands (body_items first mark p) tail home e

      finds : Finds program home home (body_items first mark p)
      finds =
          all_found home (body_items first mark p) tail home (body_is_body first mark p) (body_fresh first mark p).1
          (every _ (marks (body_items first mark p)) (λ w. ap (λ xs. mark_from w home xs) e))

  abbrev tail_of : ℕ → ℕ → ℕ → Proc → List Proc → List VirtualItem
  tail_of k first mark p ps = procs_items (suc k) (first + p.words) (suc mark + marks_in p.code) ps

  proc_split : (k first mark at : ℕ) (p : Proc) (ps : List Proc) → From at (procs_items k first mark (p ∷ ps))
      → From (suc at) (body_items first mark p ++ tail_of k first mark p ps)
  proc_split k first mark at p ps e =
      (drop_next items at (Procedure k first p.words) (body_items first mark p ++ tail_of k first mark p ps) e).1

  proc_tail : (k first mark at : ℕ) (p : Proc) (ps : List Proc) → From at (procs_items k first mark (p ∷ ps))
      → From (beyond (body_items first mark p) (suc at)) (tail_of k first mark p ps)
  proc_tail k first mark at p ps e =
      from_beyond (body_items first mark p) (tail_of k first mark p ps) (suc at) (proc_split k first mark at p ps e)

  numbers : (ps : List Proc) (k first mark j at w : ℕ) (p : Proc) → w ≡ k + j → slice_get ps j ≡ Some p
      → From at (procs_items k first mark ps) → (f : Found)
      × (procedure_from w at (procs_items k first mark ps) ≡ Some f) × Entered program p f
  numbers [] k first mark zero at w p n g e = absurd (cc)
  numbers [] k first mark (suc j) at w p n g e = absurd (cc)
  numbers (q ∷ ps) k first mark zero at w p n g e =
      let same : q ≡ p = cc in
      let found : Found = record { home = suc at; first = first; count = q.words } in
      let test : (k == w) ≡ true = ap (λ x. x == w) (let h : k ≡ w = omega (arith, n) in h) ∙ equal_self w in
      let r : Entered program q found =
      entered q first mark (suc at) (tail_of k first mark q ps) (proc_split k first mark at q ps e) in (
        found,
        ap (λ c. if c then Some found else procedure_from w (suc at) (body_items first mark q
            ++ tail_of k first mark q ps)) test,
        subst (λ c. Entered program c found) same r,
      )
  numbers (q ∷ ps) k first mark (suc j) at w p n g e =
      let body : List VirtualItem = body_items first mark q in
      let tail : List VirtualItem = tail_of k first mark q ps in
      let test : (k == w) ≡ false = grind arith in
      let r = numbers ps (suc k) (first + q.words) (suc mark + marks_in q.code) j (beyond body (suc at)) w p
      (omega (arith, n)) g (proc_tail k first mark at q ps e) in (
        r.0,
        ap (λ c. if c then Some (record { home = suc at; first = first; count = q.words }) else procedure_from w
            (suc at) (body ++ tail)) test ∙ (skip_numbers body tail w (suc at) (body_is_body first mark q) ∙ r.1),
        r.2,
      )

  addresses : (ps : List Proc) (k first mark at to : ℕ) (p : Proc) → proc_from low.address to k ps ≡ Some p
      → From at (procs_items k first mark ps) → (f : Found)
      × (procedure_at low.address to at (procs_items k first mark ps) ≡ Some f)
      × Entered program p f
  addresses [] k first mark at to p g e = absurd (cc)
  addresses (q ∷ ps) k first mark at to p g e =
      here (λ i. addresses ps (suc k) (first + q.words) (suc mark + marks_in q.code)
      (beyond (body_items first mark q) (suc at)) to p i (proc_tail k first mark at q ps e)) (low.address k == to) refl
      g
    where
      body : List VirtualItem
      body = body_items first mark q

      tail : List VirtualItem
      tail = tail_of k first mark q ps

      found : Found
      found = record { home = suc at; first = first; count = q.words }

      here : (proc_from low.address to (suc k) ps ≡ Some p → (f : Found)
          × (procedure_at low.address to (beyond body (suc at)) tail ≡ Some f)
          × Entered program p f) → (c : Bool) → (low.address k == to) ≡ c
          → (if c then Some q else proc_from low.address to (suc k) ps) ≡ Some p → (f : Found)
          × (procedure_at low.address to at (procs_items k first mark (q ∷ ps)) ≡ Some f)
          × Entered program p f
      here later true h i =
          let same : q ≡ p = cc in
          let r : Entered program q found =
          entered q first mark (suc at) tail (proc_split k first mark at q ps e) in (
            found,
            ap (λ c. if c then Some found else procedure_at low.address to (suc at) (body ++ tail)) h,
            subst (λ c. Entered program c found) same r,
          )
      here later false h i =
          let r = later i in (
            r.0,
            ap (λ c. if c then Some found else procedure_at low.address to (suc at) (body ++ tail)) h
                ∙ (skip_addresses body tail low.address to (suc at) (body_is_body first mark q) ∙ r.1),
            r.2,
          )

-- the program of the code of `select`
abbrev pub selected_program : {V : Type 0} → (Halt → Ending V) → (low : LowSetting) → ℕ → low.top < 2 ^ 64 → ℕ
    → Program V
selected_program reading low stack small entry =
    record { reading = reading; low = low; items = select_items entry low.procs; stack = stack; small = small }

-- the code of `select` has all procedures
pub laid : {V : Type 0} (reading : Halt → Ending V) (low : LowSetting) (stack : ℕ) (small : low.top < 2 ^ 64)
    (entry : ℕ) → Laid (selected_program reading low stack small entry)
laid reading low stack small entry =
    let items : List VirtualItem = select_items entry low.procs in
    record {
      by_number = λ k p g. numbers reading low items stack small low.procs 0 0 (length low.procs) k 6 k p (omega arith)
          g refl;
      by_address = λ at p g. addresses reading low items stack small low.procs 0 0 (length low.procs) 6 at p g refl;
    }
