-- What the code of a closed program is to it.
use Rattle.std.proofs.Common.{append_assoc, Bool, true, false, ◌&&◌, ℕ, zero, suc, ◌+◌, ◌*◌, ◌<◌, ◌≤◌, ◌≡◌, List, []}
use Rattle.std.proofs.Common.{◌∷◌}
use Rattle.std.proofs.Common.{◌++◌, Some, length, refl, sym, ◌∙◌, ap, subst, arith}
use Rattle.std.specs.Prelude.{nat_lt, slice_get}
use Rattle.run_laws.specs.Runs.{Ending}
use Rattle.machine_words.specs.Halts.{Halt}
use Rattle.low_ir.specs.declared.code.WordOp.{WordOp}
use Rattle.low_ir.specs.declared.code.LowSource.{LowSource}
use Rattle.low_ir.specs.declared.code.LowSource.TheVariants.{Word, Number}
use Rattle.low_ir.specs.Closed.{is_closed}
use Rattle.low_ir.specs.Run.{low_machine}
use Rattle.low_ir.specs.Procedures.{Code, Done, Set, Compute as LowCompute, Load as LowLoad, Store as LowStore}
use Rattle.low_ir.specs.Procedures.{CodeOf as LowCodeOf, Build, Request, Take, Environment as LowEnvironment}
use Rattle.low_ir.specs.Procedures.{Call as LowCall, CallAt as LowCallAt, If, Return as LowReturn}
use Rattle.low_ir.specs.Procedures.{TailCall as LowTailCall, TailCallAt as LowTailCallAt, Proc}
use Rattle.rv_select.specs.declared.convention.TheConstants.{FIRST_SCRATCH, SECOND_SCRATCH, THIRD_SCRATCH}
use Rattle.rv_select.specs.declared.convention.TheConstants.{FIRST_ARGUMENT, SECOND_ARGUMENT, ANSWER}
use Rattle.rv_select.specs.declared.code.VReg.{VReg}
use Rattle.rv_select.specs.declared.code.VReg.TheVariants.{Real, Virtual}
use Rattle.rv_select.specs.declared.code.VirtualItem.{VirtualItem}
use Rattle.rv_select.specs.declared.code.VirtualItem.TheVariants.{Mark, Procedure, Call}
use Rattle.rv_select.specs.declared.code.VirtualItem.TheVariants.{Return}
use Rattle.rv_select.specs.Fitting.{fits, each_fits}
use Rattle.rv_select.specs.Marks.{procedures, numbers_from, begins_with_work, each_has_work, HaveOwn}
use Rattle.rv_select.specs.Sizes.{HasSmallNumbers, AreSmall}
use Rattle.rv_select.specs.Select.{put_item, source_items, is_small, second_items, compute_item, args_items}
use Rattle.rv_select.specs.Select.{params_items}
use Rattle.rv_select.specs.Select.{stores_items, marks_in, code_items, out_items, body_items, procs_items}
use Rattle.rv_select.specs.Select.{answer_items, select_items, registers_of}
use Rattle.rv_select.specs.Run.{virtual_machine}
use Rattle.rv_select.specs.Stacks.{stacked_machine, low_in_stack}
use Rattle.rv_select.specs.Selected.{setting_of, IsCodeOf, Simulates, RunsAsWords, RunsInStackAsWords}
use Rattle.rv_select.proofs.Closedness.{closed_small}
use Rattle.rv_select.proofs.Standing.{select_well}
use Rattle.rv_select.proofs.Walking.{walk}
use Rattle.rv_select.proofs.Goods.{program_sets, at_start, selected_holding}
use Rattle.rv_select.proofs.Marks.{Each, each_append}
use Rattle.rv_select.proofs.Laying.{IsBody, AreBody, body_is_body, source_each, put_each, args_each, params_each}
use Rattle.rv_select.proofs.Following.{follows_select, costs_select}
use Rattle.rv_select.proofs.InWordStack.{follows_in_stack, costs_in_stack}

-- ---- numbers fit

abbrev IsFit : VirtualItem → Type 0
IsFit item = fits item ≡ true

abbrev AllFit : List VirtualItem → Type 0
AllFit xs = Each IsFit xs

all_fit : (xs : List VirtualItem) → AllFit xs → each_fits xs ≡ true
all_fit [] h = refl
all_fit (x ∷ xs) h = ap (λ b. b && each_fits xs) h.0 ∙ all_fit xs h.1

source_fits : (r : ℕ) (a : LowSource) → AllFit (source_items r a)
source_fits r a = source_each IsFit (λ rd b. refl) (λ rd n. refl) r a

put_fits : (first : ℕ) (rd : VReg) (a : LowSource) → fits (put_item first rd a) ≡ true
put_fits first rd a = put_each IsFit (λ r b. refl) (λ r n. refl) first rd a

args_fit : (first from : ℕ) (args : List LowSource) → AllFit (args_items first from args)
args_fit first from args = args_each IsFit (λ rd a. refl) (λ rd n. refl) first from args

params_fit : (first from n : ℕ) → AllFit (params_items first from n)
params_fit first from n = params_each IsFit (λ rd a. refl) (λ rd m. refl) first from n

is_below : (offset : ℕ) → offset < 2048 → nat_lt offset 2048 ≡ true
is_below offset h = grind arith

stores_fit : (first offset : ℕ) (args : List LowSource) → offset + 8 * length args ≤ 2048
    → AllFit (stores_items first offset args)
stores_fit first offset [] h = tt
stores_fit first offset (a ∷ args) h =
    each_append IsFit (source_items FIRST_SCRATCH a) _ (source_fits FIRST_SCRATCH a)
    (is_below offset (omega (arith, h)), stores_fit first (offset + 8) args (omega (arith, h)))

small_fits : (op : WordOp) (b : LowSource) (first : ℕ) (rd : VReg) (a : LowSource) (c : Bool) → is_small op b ≡ c
    → fits (compute_item c first op rd a b) ≡ true
small_fits op (Word i) first rd a true h = absurd (let z : ⊥ = cc in z)
small_fits op (Number n) first rd a true h = h
small_fits op b first rd a false h = refl

second_fits : (c : Bool) (b : LowSource) → AllFit (second_items c b)
second_fits true b = tt
second_fits false b = source_fits SECOND_SCRATCH b

module _ (first out : ℕ) where
  with_source : (r : ℕ) (a : LowSource) (xs : List VirtualItem) → AllFit xs → AllFit (source_items r a ++ xs)
  with_source r a xs h = each_append IsFit (source_items r a) xs (source_fits r a) h

  with_args : (args : List LowSource) (xs : List VirtualItem) → AllFit xs → AllFit (args_items first 0 args ++ xs)
  with_args args xs h = each_append IsFit (args_items first 0 args) xs (args_fit first 0 args) h

  code_fits : (c : Code) (m : ℕ) → HasSmallNumbers c → AllFit (code_items first out m c)
  code_fits Done m h = tt
  code_fits (Set d a rest) m h = (put_fits first (Virtual (first + d)) a, code_fits rest m h)
  code_fits (LowCompute op d a b rest) m h =
      with_source FIRST_SCRATCH a _ (each_append IsFit (second_items (is_small op b) b) _
      (second_fits (is_small op b) b)
      (small_fits op b first (Virtual (first + d)) a (is_small op b) refl, code_fits rest m h))
  code_fits (LowLoad d a offset rest) m h = with_source FIRST_SCRATCH a _ (is_below offset h.0, code_fits rest m h.1)
  code_fits (LowStore b a offset rest) m h =
      with_source FIRST_SCRATCH a _ (with_source SECOND_SCRATCH b _ (is_below offset h.0, code_fits rest m h.1))
  code_fits (LowCodeOf d k rest) m h = (refl, code_fits rest m h)
  code_fits (Build d args rest) m h = (
    refl,
    (
      refl,
      (
        refl,
        each_append IsFit (stores_items first 0 args) _
            (stores_fit first 0 args (let n = h.0 in omega (arith, n))) (refl, (refl, code_fits rest m h.1)),
      ),
    ),
  )
  code_fits (Request d a rest) m h = with_source THIRD_SCRATCH a _ (refl, (refl, (refl, (refl, code_fits rest m h))))
  code_fits (Take a rest) m h = with_source THIRD_SCRATCH a _ (refl, (refl, code_fits rest m h))
  code_fits (LowEnvironment number a b d e rest) m h = (
    put_fits first (Real FIRST_ARGUMENT) a,
    (
      put_fits first (Real SECOND_ARGUMENT) b,
      (refl, (refl, (refl, (refl, code_fits rest m h)))),
    ),
  )
  code_fits (LowCall d k args rest) m h = with_args args _ (refl, (refl, code_fits rest m h.1))
  code_fits (LowCallAt d f args rest) m h = with_source THIRD_SCRATCH f _
      (with_args args _ (refl, (refl, code_fits rest m h.1)))
  code_fits (If cond a b one other rest) m h =
      with_source FIRST_SCRATCH a _ (with_source SECOND_SCRATCH b _ (
        refl,
        each_append IsFit (code_items first out (suc (suc m)) other) _
            (code_fits other (suc (suc m)) h.1) (
              refl,
              (
                refl,
                each_append IsFit
                    (code_items first out (suc (suc m) + marks_in other) one) _
                    (code_fits one (suc (suc m) + marks_in other) h.0)
                    (refl, code_fits rest (suc (suc m) + marks_in other + marks_in one) h.2),
              ),
            ),
      ))
  code_fits (LowReturn a) m h = (put_fits first (Real ANSWER) a, (refl, tt))
  code_fits (LowTailCall k args) m h = with_args args _ (refl, tt)
  code_fits (LowTailCallAt f args) m h = with_source THIRD_SCRATCH f _ (with_args args _ (refl, tt))

procs_fit : (ps : List Proc) (k first mark : ℕ) → AreSmall ps → AllFit (procs_items k first mark ps)
procs_fit [] k first mark h = tt
procs_fit (p ∷ ps) k first mark h = (
  refl,
  each_append IsFit (body_items first mark p) _ (each_append IsFit (params_items first 0 p.params) _
      (params_fit first 0 p.params) (each_append IsFit (code_items first mark (suc mark) p.code) (out_items mark)
      (code_fits first mark p.code (suc mark) h.0.1) (refl, (refl, (refl, (refl, (refl, (refl, tt))))))))
      (procs_fit ps (suc k) (first + p.words) (suc mark + marks_in p.code) h.1),
)

-- ---- procedures in their order

behind_body : (xs ys : List VirtualItem) → AreBody xs → procedures (xs ++ ys) ≡ procedures ys
behind_body [] ys h = refl
behind_body (Procedure k first count ∷ xs) ys h = absurd h.0
behind_body (x ∷ xs) ys h = behind_body xs ys h.1

work_behind : (xs ys : List VirtualItem) → AreBody xs → each_has_work (xs ++ ys) ≡ each_has_work ys
work_behind [] ys h = refl
work_behind (Procedure k first count ∷ xs) ys h = absurd h.0
work_behind (x ∷ xs) ys h = work_behind xs ys h.1

work_later : (xs ys : List VirtualItem) → AreBody xs → begins_with_work ys ≡ true → begins_with_work (xs ++ ys) ≡ true
work_later [] ys h k = k
work_later (Procedure q first count ∷ xs) ys h k = absurd h.0
work_later (Mark mark ∷ xs) ys h k = work_later xs ys h.1 k
work_later (x ∷ xs) ys h k = refl

procs_order : (ps : List Proc) (k first mark : ℕ)
    → procedures (procs_items k first mark ps) ≡ numbers_from k (length ps)
procs_order [] k first mark = refl
procs_order (p ∷ ps) k first mark =
    ap (λ xs. k ∷ xs) (behind_body (body_items first mark p) _ (body_is_body first mark p)
    ∙ procs_order ps (suc k) (first + p.words) (suc mark + marks_in p.code))

body_works : (first mark : ℕ) (p : Proc) (ys : List VirtualItem) → begins_with_work (body_items first mark p ++ ys)
    ≡ true
body_works first mark p ys =
    let params : List VirtualItem = params_items first 0 p.params in
    let code : List VirtualItem = code_items first mark (suc mark) p.code in
    let flat : (params ++ (code ++ out_items mark)) ++ ys ≡ (params ++ code) ++ (out_items mark ++ ys) =
    simp append_assoc refl in
    ap begins_with_work flat
    ∙ work_later (params ++ code) (out_items mark ++ ys) (front params code (out_items mark)
    (body_is_body first mark p))
    refl
  where
    part : (xs ys : List VirtualItem) → AreBody (xs ++ ys) → AreBody xs
    part [] zs h = tt
    part (x ∷ xs) zs h = (h.0, part xs zs h.1)

    front : (xs zs ws : List VirtualItem) → AreBody (xs ++ (zs ++ ws)) → AreBody (xs ++ zs)
    front xs zs ws h = part (xs ++ zs) ws (subst AreBody (sym (append_assoc xs zs ws)) h)

procs_work : (ps : List Proc) (k first mark : ℕ) → each_has_work (procs_items k first mark ps) ≡ true
procs_work [] k first mark = refl
procs_work (p ∷ ps) k first mark =
    let tail : List VirtualItem = procs_items (suc k) (first + p.words) (suc mark + marks_in p.code) ps in
    ap (λ b. b && each_has_work (body_items first mark p ++ tail)) (body_works first mark p tail)
    ∙ (work_behind (body_items first mark p) tail (body_is_body first mark p)
    ∙ procs_work ps (suc k) (first + p.words) (suc mark + marks_in p.code))

-- ---- the registers of procedures

abbrev Within : ℕ → List VirtualItem → Type 0
Within n xs =
    (place k first count : ℕ) → slice_get xs place ≡ Some (Procedure k first count) → first + count ≤ n

within_body : (n : ℕ) (xs ys : List VirtualItem) → AreBody xs → Within n ys → Within n (xs ++ ys)
within_body n [] ys h w = w
within_body n (Procedure k first count ∷ xs) ys h w = absurd h.0
within_body n (x ∷ xs) ys h w = within_cons x h.0 (within_body n xs ys h.1 w)
  where
    within_cons : (x : VirtualItem) → IsBody x → Within n (xs ++ ys) → Within n (x ∷ (xs ++ ys))
    within_cons (Procedure k first count) b v place k2 first2 count2 e = absurd b
    within_cons x b v zero k first count e = absurd (apart x b e)
      where
        apart : (x : VirtualItem) → IsBody x → Some x ≡ Some (Procedure k first count) → ⊥
        apart x b e = let same : x ≡ Procedure k first count = cc in subst IsBody same b
    within_cons x b v (suc place) k first count e = v place k first count e

procs_within : (ps : List Proc) (k first mark n : ℕ) → first + registers_of ps ≤ n
    → Within n (procs_items k first mark ps)
procs_within [] k first mark n h zero k2 first2 count2 e = absurd (let z : ⊥ = cc in z)
procs_within [] k first mark n h (suc place) k2 first2 count2 e = absurd (let z : ⊥ = cc in z)
procs_within (p ∷ ps) k first mark n h zero k2 first2 count2 e =
    let one : first ≡ first2 = cc in
    let two : p.words ≡ count2 = cc in
    omega (arith, h, one, two)
procs_within (p ∷ ps) k first mark n h (suc place) k2 first2 count2 e =
    within_body n (body_items first mark p) _ (body_is_body first mark p)
    (procs_within ps (suc k) (first + p.words) (suc mark + marks_in p.code) n (omega (arith, h))) place k2 first2 count2
    e

start_within : (n entry : ℕ) (xs : List VirtualItem) → Within n xs → Within n (Call entry 0 ∷ (answer_items ++ xs))
start_within n entry xs w =
    within_body n (Call entry 0 ∷ answer_items) xs (tt, (tt, (tt, (tt, (tt, (tt, tt)))))) w

own_behind : (xs ys : List VirtualItem) (from to : ℕ) → AreBody xs → HaveOwn from to ys → HaveOwn from to (xs ++ ys)
own_behind [] ys from to h k = k
own_behind (Procedure q first count ∷ xs) ys from to h k = absurd h.0
own_behind (x ∷ xs) ys from to h k = own_behind xs ys from to h.1 k

procs_own : (ps : List Proc) (k first mark to : ℕ) → first + registers_of ps ≡ to
    → HaveOwn first to (procs_items k first mark ps)
procs_own [] k first mark to h = omega (arith, h)
procs_own (p ∷ ps) k first mark to h = (
  refl,
  own_behind (body_items first mark p) _ (first + p.words) to (body_is_body first mark p)
      (procs_own ps (suc k) (first + p.words) (suc mark + marks_in p.code) to (omega (arith, h))),
)

start_own : (entry to : ℕ) (xs : List VirtualItem) → HaveOwn 0 to xs → HaveOwn 0 to (Call entry 0
    ∷ (answer_items ++ xs))
start_own entry to xs h =
    own_behind (Call entry 0 ∷ answer_items) xs 0 to (tt, (tt, (tt, (tt, (tt, (tt, tt)))))) h

-- ---- all of it

-- the run of the code follows the run over words
pub runs : {V : Type 0} (reading : Halt → Ending V) (procs : List Proc) (entry : ℕ)
    → RunsAsWords reading (select_items entry procs) procs entry
runs reading procs entry low p regs memory world same b never =
    subst (λ ps. Simulates (virtual_machine reading (setting_of low (select_items entry ps)))
    (low_machine reading low) (setting_of low (select_items entry ps)) low p regs memory world) same (record {
      follows = follows_select reading low entry p regs memory world b.small b.ordered b.aligned b.there b.none b.alloc
          b.region_end never;
      turns = costs_select reading low entry p regs memory world b.small b.ordered b.aligned b.there b.none b.alloc
          b.region_end never;
    })

-- so it does in a stack
pub runs_in_stack : {V : Type 0} (reading : Halt → Ending V) (procs : List Proc) (entry : ℕ)
    → RunsInStackAsWords reading (select_items entry procs) procs entry
runs_in_stack reading procs entry lacking low p regs memory world room same b never =
    subst (λ ps. Simulates (stacked_machine reading (setting_of low (select_items entry ps)) room)
    (low_in_stack reading low room) (setting_of low (select_items entry ps)) low p regs memory world) same (record {
      follows = follows_in_stack reading low entry p regs memory world room b.small b.ordered b.aligned b.there b.none
          b.alloc b.region_end lacking never;
      turns = costs_in_stack reading low entry p regs memory world room b.small b.ordered b.aligned b.there b.none
          b.alloc b.region_end lacking never;
    })

-- the code of a closed program is all that is claimed
pub is_code : (procs : List Proc) (entry : ℕ) → is_closed procs entry ≡ true
    → IsCodeOf (select_items entry procs) (registers_of procs) procs entry
is_code procs entry closed = record {
  exactly = refl;
  counted = refl;
  start = (Return ∷ procs_items 0 0 (length procs) procs, refl);
  order = procs_order procs 0 0 (length procs);
  work = procs_work procs 0 0 (length procs);
  own = start_own entry (registers_of procs) (procs_items 0 0 (length procs) procs)
      (procs_own procs 0 0 (length procs) (registers_of procs) (omega arith));
  within = start_within (registers_of procs) entry (procs_items 0 0 (length procs) procs)
      (procs_within procs 0 0 (length procs) (registers_of procs) (omega arith));
  well_formed = select_well entry procs closed;
  fitting = all_fit (procs_items 0 0 (length procs) procs) (procs_fit procs 0 0 (length procs)
      (closed_small procs entry closed));
  holding = (walk (program_sets procs) at_start (select_items entry procs), selected_holding entry procs closed);
  runs = λ reading. runs reading procs entry;
  in_stack = λ reading. runs_in_stack reading procs entry;
}

-- what is equal to it is so too
pub is_code_of : (procs : List Proc) (entry : ℕ) (items : List VirtualItem) (registers : ℕ)
    → is_closed procs entry ≡ true → items ≡ select_items entry procs → registers ≡ registers_of procs
    → IsCodeOf items registers procs entry
is_code_of procs entry items registers closed e r =
    subst (λ xs. IsCodeOf xs registers procs entry) (sym e)
    (subst (λ n. IsCodeOf (select_items entry procs) n procs entry) (sym r) (is_code procs entry closed))
