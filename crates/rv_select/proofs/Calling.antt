-- Calls, and the address of a procedure.
use Rattle.std.proofs.Common.{ℕ, suc, ◌+◌, ◌<◌, ◌≤◌, ◌≡◌, inl, true, false, Bool, List, [], ◌∷◌, ◌++◌, Some, refl, sym}
use Rattle.std.proofs.Common.{◌∙◌, ap, subst, arith}
use Rattle.std.specs.Prelude.{◌==◌, nat_lt, nat_le, ◌&&◌, length, slice_get}
use Rattle.run_laws.specs.Machines.{Go}
use Rattle.rv_machine.specs.Registers.{Registers}
use Rattle.low_ir.specs.Steps.{no_locals}
use Rattle.low_ir.specs.declared.code.LowSource.{LowSource}
use Rattle.low_ir.specs.Procedures.{Code, CodeOf as LowCodeOf, Call as LowCall, CallAt as LowCallAt, Proc}
use Rattle.low_ir.specs.Run.{LowState, word_of, words_of, bind, proc_from, waits, held_by as words_held}
use Rattle.low_ir.specs.Prices.{slot_price, sources_price, entering, entering_some}
use Rattle.rv_select.specs.declared.convention.TheConstants.{ZERO, THIRD_SCRATCH, FIRST_ARGUMENT, ANSWER}
use Rattle.rv_select.specs.declared.code.VReg.{VReg}
use Rattle.rv_select.specs.declared.code.VReg.TheVariants.{Real, Virtual}
use Rattle.rv_select.specs.declared.code.VirtualItem.{VirtualItem}
use Rattle.rv_select.specs.declared.code.VirtualItem.TheVariants.{Move, CodeOf, Call, CallAt}
use Rattle.rv_select.specs.Run.{Found, Frame, VirtualState, held_by, only_args, value, procedure_from, item_step}
use Rattle.rv_select.specs.Select.{source_reg, source_items, args_items, params_items, code_items}
use Rattle.rv_select.specs.Prices.{entering_found, item_price}
use Rattle.rv_select.proofs.Pricing.{own_slot, source_paid, args_paid, params_paid}
use Rattle.rv_select.proofs.Fetching.{third_is_scratch}
use Rattle.rv_select.proofs.Fetching.{NotIn, kept_value, kept_fixed, wrote_kept, source_apart, fetches, fetches_ge}
use Rattle.rv_select.proofs.Fetching.{fetch}
use Rattle.rv_select.proofs.Handing.{args_known, known_args, words_length, args_regs, HasArgs, args_fixed, has_args}
use Rattle.rv_select.proofs.Handing.{bound, hands, takes, plus_steps, plus_is}
use Rattle.rv_select.proofs.Stretches.{wrote_real, stands_past, does_item, write_local, given_is, more, more_is, beyond}
use Rattle.rv_select.proofs.Stretches.{SameFixed, fixed_self, PaidWay, prices}
use Rattle.rv_select.proofs.Relation.{Program, Entered, Behind, Body, setting, Way, At, owed, way_second, past}
use Rattle.rv_select.proofs.Relation.{all_owed, Here, way_regs, body_regs, On, ActiveOn, next, Laid, way_first}
use Rattle.rv_select.proofs.Stepping.{DoesStep}
use Rattle.rv_select.proofs.Stepping.{ItemsOn, items_of, popped, purse_of, sim_given, sim_if, item_sets}
use Rattle.rv_select.proofs.Stepping.{mine}

module _ {V : Type 0} (program : Program V) where
  pub fits_eight : (n params words : ℕ) → ((n == params) && (nat_le params 8 && nat_le params words)) ≡ true → (params
      ≡ n)
      × (n ≤ 8) × (params ≤ words)
  fits_eight n params words h = grind arith

  -- the state in which a procedure is entered
  abbrev pub at_home : ℕ → Found → VirtualState → VirtualState
  at_home n f t = record t {
    pc = f.home;
    active = record { found = f; locals = no_locals };
    known =
        only_args n t.known;
  }

  abbrev pub entered : List ℕ → LowState → Proc → LowState
  entered ws s p = record s {
    active = record {
      count = p.words;
      locals = bind 0 ws no_locals;
      code = p.code;
      rests =
          [];
    };
  }

  handed_known : (known : ℕ → Bool) (i m : ℕ) → known (FIRST_ARGUMENT + i) ≡ true → i < m
      → only_args m known (FIRST_ARGUMENT + i) ≡ true
  handed_known known i m h k =
      let inside : (nat_le FIRST_ARGUMENT (FIRST_ARGUMENT + i)
      && nat_lt (FIRST_ARGUMENT + i) (FIRST_ARGUMENT + m)) ≡ true = grind arith in
      ap (λ c. c && (nat_le FIRST_ARGUMENT (FIRST_ARGUMENT + i) && nat_lt (FIRST_ARGUMENT + i) (FIRST_ARGUMENT + m))) h
      ∙ inside

  -- where a procedure is entered, its words take the place of those of the one that handed the words on
  held_entered : (frames : List Frame) (from found : Found) (count words rest more : ℕ)
      → held_by from frames ≡ count + rest → from.count ≡ count → found.count ≡ words
      → length frames ≡ more + 1 → held_by found frames ≡ words + rest
  held_entered [] from found count words rest more h e f l = absurd (omega (arith, l))
  held_entered (frame ∷ frames) from found count words rest more h e f l = omega (arith, h, e, f)

  -- from its home a procedure takes its parameters
  pub from_home : (s s2 : LowState) (te : VirtualState) (ws : List ℕ) (p : Proc) (f : Found) (n : ℕ) → length ws ≡ n
      → Entered program p f → HasArgs te.regs 0 ws → ((i : ℕ) → i < length ws → te.known (FIRST_ARGUMENT + i) ≡ true)
      → Behind program s2.waiting te.frames → Body program s2 te → te.active.found.count ≡ s2.active.count → p.params
      ≡ length ws
      → length ws ≤ 8 → p.params ≤ p.words
      → PaidWay program.reading (setting program) (Way program s (entered ws s2 p))
      (At program (entered ws s2 p)) (plus_steps program.reading (setting program) p.params 0)
      (prices (setting program) f (params_items f.first 0 p.params) (owed s2.waiting)) (at_home n f te)
  from_home s s2 te ws p f n count en args knows waiting body own_words many eight le =
      let s1 : LowState = entered ws s2 p in
      let t1 : VirtualState = at_home n f te in
      let inside : Body program s1 t1 = (
        body.0,
        body.1,
        (
          body.2.0,
          held_entered te.frames te.active.found f s2.active.count p.words (words_held s2.waiting)
              (length s2.waiting) body.2.1 own_words en.homed.count body.2.0,
        ),
        body.3,
        body.4,
        body.5,
        body.6,
        body.7,
        body.8,
      ) in
      let code : List VirtualItem = code_items f.first en.out en.mark p.code in
      takes program.reading (setting program) (Way program s s1) (At program s1) code 0
      (owed s2.waiting) p.params 0 t1 (λ i h k.
      handed_known te.known i n (knows i (let z = many in omega (arith, k))) (let z = many in let y = count in
      omega (arith, k))) (subst (λ x. 0 + x ≤ 8) (sym many) (omega (arith, eight)))
      (subst (λ x. 0 + p.params ≤ x) (sym en.homed.count) (omega (arith, le))) en.lies.stands
      (λ L pc. way_second program s s1 (record t1 { active = record { found = f; locals = L }; pc = pc }) inside) (
        record {
          active = record {
            mark = en.mark;
            out = en.out;
            homed = en.homed;
            locals = bound ws f.first 0 p.params te.regs no_locals no_locals many (λ i. refl) args;
            lies = past program f en.out f.home (params_items f.first 0 p.params) code [] en.lies;
          };
          behind = waiting;
          body = inside;
        },
        all_owed (owed s2.waiting),
      )

  -- words are handed on, and then an item enters a procedure
  pub handed : (s : LowState) (u : VirtualState) → Body program s u
      → ((i : ℕ) → u.active.locals (u.active.found.first + i) ≡ s.active.locals i)
      → (args : List LowSource) (ws : List ℕ) (rest : List VirtualItem) (item : VirtualItem) (t2 : VirtualState)
      → words_of s.active.locals args ≡ Some ws → Here program u.pc (args_items u.active.found.first 0 args ++ (item
      ∷ rest))
      → item_step program.reading (setting program) item (record u {
        regs = args_regs 0 ws u.regs;
        known = args_known 0 ws u.known;
        pc =
            beyond (args_items u.active.found.first 0 args) u.pc;
      }) ≡ Go t2 → length ws ≤ 8 → (s1 : LowState) (k left : ℕ)
      → PaidWay program.reading (setting program) (Way program s s1) (At program s1) k left t2
      → PaidWay program.reading (setting program) (Way program s s1) (At program s1)
      (more args (suc k)) (prices (setting program) u.active.found
      (args_items u.active.found.first 0 args) (item_price (setting program) u.active.found item + left)) u
  handed s u body locals args ws rest item t2 e code step eight s1 k left r =
      let t1 : VirtualState = record u {
        regs = args_regs 0 ws u.regs;
        known = args_known 0 ws u.known;
        pc =
            beyond (args_items u.active.found.first 0 args) u.pc;
      } in
      let here = stands_past program.reading (setting program) (args_items u.active.found.first 0 args) (item
      ∷ rest) u.pc code in
      hands program.reading (setting program) (Way program s s1) (At program s1) (item ∷ rest) s.active.locals (suc k)
      (item_price (setting program) u.active.found item + left) args ws 0 u e locals
      (omega (arith, eight)) code (way_regs program s s1 u body) (
      does_item program.reading (setting program) (Way program s s1) (At program s1) k left t1 t2 item here.0 step
      (way_regs program s s1 u body t1.regs t1.known t1.pc (args_fixed ws u.regs eight)) r)

  pub body_args : (s : LowState) (u : VirtualState) (ws : List ℕ) (pc : ℕ) → Body program s u → length ws ≤ 8
      → Body program s (record u { regs = args_regs 0 ws u.regs; known = args_known 0 ws u.known; pc = pc })
  body_args s u ws pc b eight =
      body_regs program s u (args_regs 0 ws u.regs) (args_known 0 ws u.known) pc b (args_fixed ws u.regs eight)

  pub call_steps : (args : List LowSource) (ws : List ℕ) (params : ℕ) → length ws ≡ length args → params ≡ length ws
      → more args (suc (plus_steps program.reading (setting program) params 0)) ≡ length args + suc (length args)
  call_steps args ws params many e =
      more_is args (suc (plus_steps program.reading (setting program) params 0))
      ∙ (let i = plus_is program.reading (setting program) params 0 in
      omega (arith, many, e, i))

  -- what words cost that are handed on, the item that enters a procedure, and its parameters
  abbrev pub entering_paid : Found → Found → List LowSource → VirtualItem → ℕ → ℕ → ℕ
  entering_paid from f args item params left =
      prices (setting program) from (args_items from.first 0 args) (item_price (setting program) from item
      + prices (setting program) f (params_items f.first 0 params) left)

  pub enters_paid : (from f : Found) (args : List LowSource) (ws : List ℕ) (item : VirtualItem) (params left : ℕ)
      → length ws ≡ length args → params ≡ length ws → length ws ≤ 8
      → entering_paid from f args item params left ≤ sources_price args + item_price (setting program) from item + left
  enters_paid from f args ws item params left many e eight =
      let a = args_paid (setting program) from args 0 (item_price (setting program) from item
      + prices (setting program) f (params_items f.first 0 params) left) in
      let q = params_paid (setting program) f params 0 left (omega (arith, e, eight)) in omega (arith, a, q, many, e)

  -- what goes on behind a call waits
  call_from : (s : LowState) (t : VirtualState) (on : On program s t) (d : ℕ) (args : List LowSource) (ws : List ℕ)
      (rest : Code) (p : Proc) (f : Found) (item : VirtualItem) (regs : Registers) (known : ℕ → Bool) (pc : ℕ)
      → SameFixed regs t.regs → Entered program p f → words_of s.active.locals args ≡ Some ws
      → ItemsOn program s t on pc (args_items t.active.found.first 0 args
      ++ (item ∷ Move (Virtual (t.active.found.first + d)) (Real ANSWER) ∷ items_of program s t on rest))
      → (let place : ℕ =
      beyond (args_items t.active.found.first 0 args) pc in
      item_step program.reading (setting program) item (record t {
        regs = args_regs 0 ws regs;
        known = args_known 0 ws known;
        pc =
            place;
      }) ≡ Go (at_home (length args) f (record t {
        regs = args_regs 0 ws regs;
        known = args_known 0 ws known;
        pc =
            place;
        frames = record { back = suc place; active = t.active } ∷ t.frames;
      }))) → p.params ≡ length ws
      → length ws ≤ 8 → p.params ≤ p.words
      → PaidWay program.reading (setting program) (Way program s (entered ws (waits program.reading program.low d
      (popped program s rest)) p))
      (At program (entered ws (waits program.reading program.low d (popped program s rest)) p)) (more args
      (suc (plus_steps program.reading
      (setting program) p.params 0))) (entering_paid t.active.found f args item p.params
      (1 + slot_price d + owed s.waiting)) (record t { regs = regs; known = known; pc = pc })
  call_from s t on d args ws rest p f item regs known pc same en e lies step many eight le =
      let first : ℕ = t.active.found.first in
      let u : VirtualState = record t { regs = regs; known = known; pc = pc } in
      let s2 : LowState = waits program.reading program.low d (popped program s rest) in
      let place : ℕ = beyond (args_items first 0 args) pc in
      let behind_item : List VirtualItem = Move (Virtual (first + d)) (Real ANSWER) ∷ items_of program s t on rest in
      let te : VirtualState = record t {
        regs = args_regs 0 ws regs;
        known = args_known 0 ws known;
        pc = place;
        frames =
            record { back = suc place; active = t.active } ∷ t.frames;
      } in
      let body : Body program s u = body_regs program s t regs known pc on.body same in
      let entered_body : Body program s2 te =
      (let b = body_args s u ws place body eight in (
        b.0,
        b.1,
        (
          (let z = b.2.0 in omega (arith, z)),
          (let z = b.2.1 in let c = on.active.homed.count in omega (arith, z, c)),
        ),
        b.3,
        b.4,
        b.5,
        b.6,
        b.7,
        b.8,
      )) in
      let frame : ActiveOn program (Move (Virtual (first + d)) (Real ANSWER)
      ∷ []) (record s.active { code = rest }) (suc place)
      t.active = record {
        mark = on.active.mark;
        out = on.active.out;
        homed = on.active.homed;
        locals = on.active.locals;
        lies = next program t.active.found on.active.out place item behind_item s.active.rests
            (past program t.active.found on.active.out pc (args_items first 0 args) (item
            ∷ behind_item) s.active.rests lies);
      } in
      handed s u body on.active.locals args ws behind_item item (at_home (length args) f te) e lies.stands step eight
      (entered ws s2 p) (plus_steps program.reading (setting program) p.params 0)
      (prices (setting program) f (params_items f.first 0 p.params) (owed s2.waiting)) (
      from_home s s2 te ws p f (length args) (words_length s.active.locals args ws e) en (has_args ws 0 regs)
      (λ i h. known_args ws 0 i known (omega arith) (omega (arith, h))) (
        frame,
        on.behind,
      ) entered_body on.active.homed.count many eight le)

  pub do_code_of : Laid program → (s : LowState) (t : VirtualState) (on : On program s t) (d k : ℕ) (rest : Code)
      → DoesStep program s t on (LowCodeOf d k rest)
  do_code_of laid s t on d k rest lies =
      let f : Found = t.active.found in
      let purse : ℕ = purse_of program s (LowCodeOf d k rest) in
      sim_given program purse s s t (slice_get program.low.procs k) _ (λ p pe.
      let l = laid.by_number k p pe in
      sim_if program purse s (popped program s rest) t (nat_lt d s.active.count) _ (λ h. (
        1,
        inl (omega arith),
        item_price (setting program) f (CodeOf (Virtual (f.first + d)) k) + owed s.waiting,
        (let q = own_slot f.first d in omega (arith, q)),
        item_sets program s t on rest d (program.low.address k) t.regs t.known t.pc _
            (fixed_self t.regs) lies (given_is t _ l.0 _ l.1
            ∙ write_local program.reading (setting program) t (t.active.found.first + d)
            (program.low.address k) (mine program s t on d h)),
      )))

  -- a procedure that is entered by its number costs as much in both
  pub entry_paid : (k : ℕ) (p : Proc) (f : Found) → slice_get program.low.procs k ≡ Some p
      → procedure_from k 0 program.items ≡ Some f
      → f.count ≡ p.words → entering_found (procedure_from k 0 program.items)
      ≡ entering_some (slice_get program.low.procs k)
  entry_paid k p f there found count =
      ap entering_found found ∙ (ap entering count ∙ sym (ap entering_some there))

  pub do_call : Laid program → (s : LowState) (t : VirtualState) (on : On program s t)
      (d k : ℕ) (args : List LowSource) (rest : Code)
      → DoesStep program s t on (LowCall d k args rest)
  do_call laid s t on d k args rest lies =
      let from : Found = t.active.found in
      let purse : ℕ = purse_of program s (LowCall d k args rest) in
      let item : VirtualItem = Call k (length args) in
      sim_given program purse s s t (words_of s.active.locals args) _ (λ ws e.
      let s2 : LowState = waits program.reading program.low d (popped program s rest) in
      sim_given program purse s s2 t (slice_get program.low.procs k) _ (λ p pe.
      let l = laid.by_number k p pe in
      sim_if program purse s s2 t ((length ws == p.params)
      && (nat_le p.params 8 && nat_le p.params p.words)) _ (λ h.
      let f3 = fits_eight (length ws) p.params p.words h in
      let many = words_length s.active.locals args ws e in
      let steps = call_steps args ws p.params many f3.0 in
      let left : ℕ = 1 + slot_price d + owed s.waiting in (
        more args (suc (plus_steps program.reading (setting program) p.params 0)),
        inl (omega (arith, steps)),
        entering_paid from l.0 args item p.params left,
        (let a = enters_paid from l.0 args ws item p.params left many f3.0 f3.1 in
            let b = entry_paid k p l.0 pe l.1 l.2.homed.count in omega (arith, a, b)),
        call_from s t on d args ws rest p l.0 item t.regs t.known t.pc (fixed_self t.regs) l.2
            e lies (given_is _ _ l.0 _ l.1) f3.0 f3.1 f3.2,
      ))))

  pub args_kept : (ws : List ℕ) (from : ℕ) (t : VirtualState) (pc : ℕ) (v : VReg) (w : ℕ)
      → ((q : ℕ) → NotIn (FIRST_ARGUMENT + q) v)
      → value t v ≡ Some w → value (record t {
        regs = args_regs from ws t.regs;
        known = args_known from ws t.known;
        pc =
            pc;
      }) v ≡ Some w
  args_kept [] from t pc v w n e =
      kept_value t FIRST_ARGUMENT t.regs t.known pc (record { same = λ q h. refl; still = λ q h. h }) v w (n 0) e
  args_kept (x ∷ ws) from t pc v w n e =
      args_kept ws (suc from) (wrote_real (FIRST_ARGUMENT + from) x t) pc v w n
      (wrote_kept t (FIRST_ARGUMENT + from) x v w (n from) e)

  pub no_arg : (first : ℕ) (a : LowSource) (q : ℕ) → NotIn (FIRST_ARGUMENT + q) (source_reg first THIRD_SCRATCH a)
  no_arg first a q =
      let seven : (THIRD_SCRATCH == FIRST_ARGUMENT + q) ≡ false = grind arith in
      let none : (ZERO == FIRST_ARGUMENT + q) ≡ false = grind arith in source_apart first THIRD_SCRATCH
      (FIRST_ARGUMENT + q) a seven none

  pub do_call_at : Laid program → (s : LowState) (t : VirtualState) (on : On program s t)
      (d : ℕ) (a : LowSource) (args : List LowSource)
      (rest : Code) → DoesStep program s t on (LowCallAt d a args rest)
  do_call_at laid s t on d a args rest lies =
      let from : Found = t.active.found in
      let purse : ℕ = purse_of program s (LowCallAt d a args rest) in
      let left : ℕ = 1 + slot_price d + owed s.waiting in
      let first : ℕ = t.active.found.first in
      let item : VirtualItem = CallAt (source_reg first THIRD_SCRATCH a) (length args) in
      let tail : List VirtualItem =
      args_items first 0 args ++ (item ∷ Move (Virtual (first + d)) (Real ANSWER) ∷ items_of program s t on rest) in
      let pc : ℕ = beyond (source_items THIRD_SCRATCH a) t.pc in
      sim_given program purse s s t (word_of s.active.locals a) _ (λ at ae.
      sim_given program purse s s t (words_of s.active.locals args) _ (λ ws e.
      let s2 : LowState = waits program.reading program.low d (popped program s rest) in
      sim_given program purse s s2 t (proc_from program.low.address at 0 program.low.procs) _ (λ p pe.
      let l = laid.by_address at p pe in
      sim_if program purse s s2 t ((length ws == p.params)
      && (nat_le p.params 8 && nat_le p.params p.words)) _ (λ h.
      let f3 = fits_eight (length ws) p.params p.words h in
      let s1 : LowState = entered ws s2 p in
      let total : ℕ = more args (suc (plus_steps program.reading (setting program) p.params 0)) in
      let many = words_length s.active.locals args ws e in
      let steps = call_steps args ws p.params many f3.0 in
      let later : ℕ = entering_paid from l.0 args item p.params left in (
        fetches a total,
        inl (let z = fetches_ge a total in omega (arith, steps, z)),
        prices (setting program) from (source_items THIRD_SCRATCH a) later,
        (let i = source_paid (setting program) from THIRD_SCRATCH a later in
            let j = enters_paid from l.0 args ws item p.params left many f3.0 f3.1 in omega (arith, i, j)),
        fetch program.reading (setting program) (Way program s s1) (At program s1) s.active.locals THIRD_SCRATCH
            third_is_scratch a at t tail total later ae on.active.locals lies.stands (way_first program s s1 t on.body)
            (λ regs known kept va.
            call_from s t on d args ws rest p l.0 item regs known pc (kept_fixed kept refl refl refl) l.2 e
            (past program t.active.found on.active.out t.pc (source_items THIRD_SCRATCH a) tail s.active.rests lies)
            (given_is _ _ at _ (args_kept ws 0 (record t { regs = regs; known = known; pc = pc })
            (beyond (args_items first 0 args) pc) (source_reg first THIRD_SCRATCH a) at (no_arg first a) va)
            ∙ given_is _ _ l.0 _ l.1) f3.0 f3.1 f3.2),
      )))))
