-- What ends a procedure: calls in its place, and its answer.
use Rattle.std.proofs.Common.{ℕ, suc, ◌+◌, ◌≤◌, ◌≡◌, inl, Bool, List, [], ◌∷◌, ◌++◌, Some, refl, sym, ◌∙◌, ap, subst}
use Rattle.std.proofs.Common.{arith}
use Rattle.std.specs.Prelude.{◌==◌, nat_lt, nat_le, ◌&&◌, length, slice_get}
use Rattle.std.specs.Int.{w64, cast_signed}
use Rattle.grift_base.specs.declared.environment.TheConstants.{END_CALL}
use Rattle.grift_base.specs.EnvironmentCall.{environment_call}
use Rattle.grift_base.specs.declared.verdicts.Verdict.TheVariants.{Answer}
use Rattle.grift_base.specs.declared.verdicts.AnswerKind.TheVariants.{Int as IntKind}
use Rattle.run_laws.specs.Machines.{Next, Go, Stop}
use Rattle.rv_machine.specs.Registers.{Registers, set_reg}
use Rattle.machine_words.specs.Halts.{Ended}
use Rattle.low_ir.specs.declared.code.LowSource.{LowSource}
use Rattle.low_ir.specs.Procedures.{Return as LowReturn, TailCall as LowTailCall, TailCallAt as LowTailCallAt, Proc}
use Rattle.low_ir.specs.Run.{Waiting, LowState, word_of, words_of, with_local, proc_from, answers}
use Rattle.low_ir.specs.Run.{held_by as words_held}
use Rattle.low_ir.specs.Prices.{leaving, step_price}
use Rattle.rv_select.specs.declared.convention.TheConstants.{THIRD_SCRATCH, FIRST_ARGUMENT, SECOND_ARGUMENT, ANSWER}
use Rattle.rv_select.specs.declared.convention.TheConstants.{CALL_NUMBER}
use Rattle.rv_select.specs.declared.code.VReg.TheVariants.{Real, Virtual}
use Rattle.rv_select.specs.declared.code.VirtualItem.{VirtualItem}
use Rattle.rv_select.specs.declared.code.VirtualItem.TheVariants.{Constant, Move, TailCall, TailCallAt, Return}
use Rattle.rv_select.specs.declared.code.VirtualItem.TheVariants.{Environment}
use Rattle.rv_select.specs.Run.{Found, Frame, VirtualState, held_by, also_known, only_answer, framed, back_to}
use Rattle.rv_select.specs.Run.{item_step}
use Rattle.rv_select.specs.Select.{put_item, source_reg, source_items, args_items, params_items}
use Rattle.rv_select.specs.Prices.{giving_up, item_price}
use Rattle.rv_select.proofs.Pricing.{own_slot, leaving_paid, source_paid, put_paid}
use Rattle.rv_select.proofs.Fetching.{third_is_scratch}
use Rattle.rv_select.proofs.Fetching.{kept_fixed, fetches, fetches_ge, fetch}
use Rattle.rv_select.proofs.Handing.{args_known, known_args, words_length, args_regs, has_args, set_shifted, plus_steps}
use Rattle.rv_select.proofs.Handing.{put_real}
use Rattle.rv_select.proofs.Stretches.{wrote_real, wrote_local, stands_past, does_item, move_local, given_is, more}
use Rattle.rv_select.proofs.Stretches.{beyond, SameFixed, fixed_self, PaidWay, prices}
use Rattle.rv_select.proofs.Relation.{Program, Behind, setting, On, Entered, Here, Way, At, owed, Body, body_regs}
use Rattle.rv_select.proofs.Relation.{Laid, way_first, SeenAs, seen, end_is_owed, way_seen, as_alike, way_second}
use Rattle.rv_select.proofs.Relation.{all_owed}
use Rattle.rv_select.proofs.Stepping.{DoesStep}
use Rattle.rv_select.proofs.Stepping.{Sim, purse_of, sim_given, sim_if, called_by, Ends, unless, stops_here}
use Rattle.rv_select.proofs.Stepping.{cost_here, own}
use Rattle.rv_select.proofs.Calling.{at_home, entered, entering_paid, handed, from_home, body_args, fits_eight}
use Rattle.rv_select.proofs.Calling.{call_steps, enters_paid, entry_paid, args_kept, no_arg}

module _ {V : Type 0} (program : Program V) where
  framed_is : (ws : List Waiting) (fs : List Frame) (t : VirtualState) (y : Next VirtualState V) → Behind program ws fs
      → framed program.reading (setting program) fs t y ≡ y
  framed_is [] [] t y h = absurd h
  framed_is [] (f ∷ fs) t y h = refl
  framed_is (w ∷ ws) [] t y h = absurd h
  framed_is (w ∷ ws) (f ∷ fs) t y h = refl

  tail_from : (s : LowState) (t : VirtualState) (on : On program s t) (args : List LowSource) (ws : List ℕ) (p : Proc)
      (f : Found) (item : VirtualItem) (regs : Registers) (known : ℕ → Bool) (pc : ℕ) → SameFixed regs t.regs
      → Entered program p f → words_of s.active.locals args ≡ Some ws
      → Here program pc (args_items t.active.found.first 0 args
      ++ (item ∷ [])) → (let place : ℕ = beyond (args_items t.active.found.first 0 args) pc in
      item_step program.reading (setting program) item (record t {
        regs = args_regs 0 ws regs;
        known = args_known 0 ws known;
        pc =
            place;
      }) ≡ Go (at_home program (length args) f (record t {
        regs = args_regs 0 ws regs;
        known = args_known 0 ws known;
        pc =
            place;
      }))) → p.params ≡ length ws → length ws ≤ 8 → p.params ≤ p.words
      → PaidWay program.reading (setting program) (Way program s (entered program ws s p))
      (At program (entered program ws s p)) (more args
      (suc (plus_steps program.reading
      (setting program) p.params 0))) (entering_paid program t.active.found f args item p.params
      (owed s.waiting)) (record t { regs = regs; known = known; pc = pc })
  tail_from s t on args ws p f item regs known pc same en e stands step many eight le =
      let u : VirtualState = record t { regs = regs; known = known; pc = pc } in
      let place : ℕ = beyond (args_items t.active.found.first 0 args) pc in
      let te : VirtualState = record t { regs = args_regs 0 ws regs; known = args_known 0 ws known; pc = place } in
      let body : Body program s u = body_regs program s t regs known pc on.body same in
      handed program s u body on.active.locals args ws [] item (at_home program (length args) f te) e stands step eight
      (entered program ws s p)
      (plus_steps program.reading (setting program) p.params 0) (prices (setting program) f
      (params_items f.first 0 p.params) (owed s.waiting)) (
      from_home program s s te ws p f (length args) (words_length s.active.locals args ws e) en (has_args ws 0 regs)
      (λ i h. known_args ws 0 i known (omega arith) (omega (arith, h))) on.behind
      (body_args program s u ws place body eight) on.active.homed.count many eight le)

  -- to give up a frame costs no more than to leave its procedure
  given_up : (s : LowState) (t : VirtualState) → On program s t
      → giving_up t.active.found.count ≤ leaving s.active.count
  given_up s t on =
      subst (λ n. giving_up n ≤ leaving s.active.count) (sym on.active.homed.count) (leaving_paid s.active.count)

  pub do_tail : Laid program → (s : LowState) (t : VirtualState) (on : On program s t) (k : ℕ) (args : List LowSource)
      → DoesStep program s t on (LowTailCall k args)
  do_tail laid s t on k args lies =
      let from : Found = t.active.found in
      let purse : ℕ = purse_of program s (LowTailCall k args) in
      let item : VirtualItem = TailCall k (length args) in
      sim_given program purse s s t (words_of s.active.locals args) _ (λ ws e.
      sim_given program purse s s t (slice_get program.low.procs k) _ (λ p pe.
      let l = laid.by_number k p pe in
      sim_if program purse s s t ((length ws == p.params)
      && (nat_le p.params 8 && nat_le p.params p.words)) _ (λ h.
      let f3 = fits_eight program (length ws) p.params p.words h in
      let many = words_length s.active.locals args ws e in
      let steps = call_steps program args ws p.params many f3.0 in (
        more args (suc (plus_steps program.reading (setting program) p.params 0)),
        inl (omega (arith, steps)),
        entering_paid program from l.0 args item p.params (owed s.waiting),
        (let a = enters_paid program from l.0 args ws item p.params (owed s.waiting) many f3.0 f3.1 in
            let b = entry_paid program k p l.0 pe l.1 l.2.homed.count in
            let c = given_up s t on in omega (arith, a, b, c)),
        tail_from s t on args ws p l.0 item t.regs t.known t.pc (fixed_self t.regs) l.2 e
            lies.stands (framed_is s.waiting t.frames _ _ on.behind ∙ given_is _ _ l.0 _ l.1) f3.0 f3.1 f3.2,
      ))))

  pub do_tail_at : Laid program → (s : LowState) (t : VirtualState) (on : On program s t)
      (a : LowSource) (args : List LowSource)
      → DoesStep program s t on (LowTailCallAt a args)
  do_tail_at laid s t on a args lies =
      let from : Found = t.active.found in
      let purse : ℕ = purse_of program s (LowTailCallAt a args) in
      let first : ℕ = t.active.found.first in
      let item : VirtualItem = TailCallAt (source_reg first THIRD_SCRATCH a) (length args) in
      let tail : List VirtualItem = args_items first 0 args ++ (item ∷ []) in
      let pc : ℕ = beyond (source_items THIRD_SCRATCH a) t.pc in
      sim_given program purse s s t (word_of s.active.locals a) _ (λ at ae.
      sim_given program purse s s t (words_of s.active.locals args) _ (λ ws e.
      sim_given program purse s s t (proc_from program.low.address at 0 program.low.procs) _ (λ p pe.
      let l = laid.by_address at p pe in
      sim_if program purse s s t ((length ws == p.params)
      && (nat_le p.params 8 && nat_le p.params p.words)) _ (λ h.
      let f3 = fits_eight program (length ws) p.params p.words h in
      let s1 : LowState = entered program ws s p in
      let total : ℕ = more args (suc (plus_steps program.reading (setting program) p.params 0)) in
      let many = words_length s.active.locals args ws e in
      let steps = call_steps program args ws p.params many f3.0 in
      let later : ℕ = entering_paid program from l.0 args item p.params (owed s.waiting) in (
        fetches a total,
        inl (let z = fetches_ge a total in omega (arith, steps, z)),
        prices (setting program) from (source_items THIRD_SCRATCH a) later,
        (let i = source_paid (setting program) from THIRD_SCRATCH a later in
            let j = enters_paid program from l.0 args ws item p.params (owed s.waiting) many f3.0 f3.1 in
            let c = given_up s t on in omega (arith, i, j, c)),
        fetch program.reading (setting program) (Way program s s1) (At program s1) s.active.locals THIRD_SCRATCH
            third_is_scratch a at t tail total later ae on.active.locals lies.stands (way_first program s s1 t on.body)
            (λ regs known kept va.
            tail_from s t on args ws p l.0 item regs known pc (kept_fixed kept refl refl refl) l.2 e
            (stands_past program.reading (setting program) (source_items THIRD_SCRATCH a) tail t.pc lies.stands)
            (framed_is s.waiting t.frames _ _ on.behind
            ∙ (given_is _ _ at _ (args_kept program ws 0 (record t { regs = regs; known = known; pc = pc })
            (beyond (args_items first 0 args) pc) (source_reg first THIRD_SCRATCH a) at (no_arg program first a) va)
            ∙ given_is _ _ l.0 _ l.1)) f3.0 f3.1 f3.2),
      )))))

  answer_call : (x : ℕ) (u : VirtualState)
      → called_by program 0 0 x u
      ≡ Stop (program.reading (Ended (Answer (record { kind = IntKind; word = cast_signed w64 x })))) u
  unfolding environment_call
  answer_call x u = refl

  pub do_return : (s : LowState) (t : VirtualState) (on : On program s t) (a : LowSource)
      → DoesStep program s t on (LowReturn a)
  do_return s t on a lies =
      sim_given program purse s s t
      (word_of s.active.locals a) _ (λ x e. returned x e s.waiting t.frames refl refl on.behind
      on.body.2.0)
    where
      purse : ℕ
      purse = purse_of program s (LowReturn a)

      found : Found
      found = t.active.found

      put : VirtualItem
      put = put_item found.first (Real ANSWER) a

      with_answer : ℕ → ℕ
      with_answer left = item_price (setting program) found put + (item_price (setting program) found Return + left)

      answer_paid : (left : ℕ) → with_answer left ≤ step_price program.low.procs s.active.count (LowReturn a) + left
      answer_paid left =
          let p = put_paid (setting program) found (Real ANSWER) a in
          let q = given_up s t on in omega (arith, p, q)

      back : (x : ℕ) → word_of s.active.locals a ≡ Some x → (f : Frame) (fs : List Frame) → t.frames ≡ f ∷ fs
          → (s1 : LowState) (Q : ℕ → VirtualState → Type 0) (k left : ℕ)
          → PaidWay program.reading (setting program) (Way program s s1) Q k left (record t {
            regs = set_reg ANSWER x t.regs;
            known =
                only_answer (also_known ANSWER t.known);
            pc = f.back;
            active = f.active;
            frames = fs;
          })
          → PaidWay program.reading (setting program) (Way program s s1) Q (suc (suc k)) (with_answer left) t
      back x e f fs fe s1 Q k left r =
          let t1 : VirtualState = wrote_real ANSWER x t in
          does_item program.reading (setting program) (Way program s s1) Q (suc k)
          (item_price (setting program) found Return + left) t t1 put
          lies.stands.0 (put_real program.reading (setting program) t s.active.locals ANSWER a x e on.active.locals
          refl)
          (way_first program s s1 t on.body) (
          does_item program.reading (setting program) (Way program s s1) Q k left t1 (record t1 {
            pc = f.back;
            active = f.active;
            frames = fs;
            known =
                only_answer t1.known;
          }) Return lies.stands.1.0 (ap (λ gs. back_to program.reading (setting program) gs t1) fe)
          (way_first program s s1 t1 on.body) r)

      returned : (x : ℕ) → word_of s.active.locals a ≡ Some x → (ws : List Waiting) (fs : List Frame) → s.waiting ≡ ws
          → t.frames ≡ fs → Behind program ws fs → length fs ≡ length ws + 1
          → Sim program purse s t (answers program.reading program.low ws x s)
      returned x e [] [] we fe h n = absurd h
      returned x e [] (f ∷ []) we fe h n =
          let t2 : VirtualState = record t {
            regs = set_reg ANSWER x t.regs;
            known = only_answer (also_known ANSWER t.known);
            pc = f.back;
            active = f.active;
            frames = [];
          } in
          let t3 : VirtualState = wrote_real SECOND_ARGUMENT x t2 in
          let t4 : VirtualState = wrote_real FIRST_ARGUMENT 0 t3 in
          let t5 : VirtualState = wrote_real CALL_NUMBER END_CALL t4 in
          let end = program.reading (Ended (Answer (record { kind = IntKind; word = cast_signed w64 x }))) in
          let Q : ℕ → VirtualState → Type 0 = Ends program s s end in
          let sn0 : SeenAs program s t = seen program s t on.body in
          let sn : SeenAs program s t2 = (sn0.0, sn0.1, (omega arith, omega arith), sn0.3, sn0.4, sn0.5, sn0.6) in
          unless end (
            5,
            with_answer 6,
            (let p = answer_paid 6 in let q = end_is_owed s.waiting in omega (arith, p, q)),
            back x e f [] fe s Q 3 6 (
                does_item program.reading (setting program) (Way program s s) Q 2 5 t2 t3
                (Move (Real SECOND_ARGUMENT) (Real ANSWER)) h.0 refl
                (way_seen program s s t2 sn) (
                does_item program.reading (setting program) (Way program s s) Q 1 3 t3 t4
                (Constant (Real FIRST_ARGUMENT) 0) h.1.0 refl
                (way_seen program s s t3 sn) (
                does_item program.reading (setting program) (Way program s s) Q 0 1 t4 t5
                (Constant (Real CALL_NUMBER) END_CALL) h.1.1.0 refl
                (way_seen program s s t4 sn) (
                  (
                    way_seen program s s t5 sn,
                    (
                      t5,
                      stops_here program t5 end Environment h.1.1.1.0 (answer_call x t5),
                      as_alike program s t5 sn,
                      tt,
                    ),
                  ),
                  cost_here program t5 Environment h.1.1.1.0,
                )))),
          )
      returned x e [] (f ∷ g ∷ fs) we fe h n = absurd h
      returned x e (w ∷ ws) [] we fe h n = absurd h
      returned x e (w ∷ ws) (f ∷ fs) we fe h n =
          sim_if program purse s s t (nat_lt w.answer w.rest.count) _ (λ m.
          let first : ℕ = f.active.found.first in
          let s1 : LowState = record s { active = with_local w.answer x w.rest; waiting = ws } in
          let t2 : VirtualState = record t {
            regs = set_reg ANSWER x t.regs;
            known = only_answer (also_known ANSWER t.known);
            pc = f.back;
            active = f.active;
            frames = fs;
          } in
          let t3 : VirtualState = wrote_local (first + w.answer) x t2 in
          let before : held_by t.active.found (f ∷ fs) ≡ s.active.count + words_held (w ∷ ws) =
          sym (ap (λ gs. held_by t.active.found gs) fe) ∙ (on.body.2.1
          ∙ ap (λ vs. s.active.count + words_held vs) we) in
          let own_words = on.active.homed.count in
          let body : Body program s1 t2 = (
            on.body.0,
            on.body.1,
            (omega (arith, n), omega (arith, before, own_words)),
            on.body.3,
            on.body.4,
            on.body.5,
            on.body.6,
            on.body.7,
            on.body.8,
          ) in
          let item : VirtualItem = Move (Virtual (first + w.answer)) (Real ANSWER) in
          let left : ℕ = item_price (setting program) f.active.found item + owed ws in (
            3,
            inl (omega arith),
            with_answer left,
            (let p = answer_paid left in
                let q = own_slot first w.answer in
                let o : owed s.waiting ≡ owed (w ∷ ws) = ap owed we in omega (arith, p, q, o)),
            back x e f fs fe s1 (At program s1) 1 left (
                does_item program.reading (setting program) (Way program s s1) (At program s1) 0
                (owed ws) t2 t3 item h.0.lies.stands.0
                (move_local program.reading (setting program) t2 (first + w.answer) (Real ANSWER) x refl
                (own f.active.found w.rest.count w.answer h.0.homed.count m)) (way_second program s s1 t2 body) (
                  record {
                    active = record {
                      mark = h.0.mark;
                      out = h.0.out;
                      homed = h.0.homed;
                      locals = λ i. set_shifted first w.answer x i f.active.locals w.rest.locals (h.0.locals i);
                      lies = record { stands = h.0.lies.stands.1; finds = h.0.lies.finds.1; leads = h.0.lies.leads };
                    };
                    behind = h.1;
                    body = body;
                  },
                  all_owed (owed ws),
                )),
          ))
