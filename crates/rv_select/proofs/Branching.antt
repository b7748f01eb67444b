-- A branch, and how its codes go on behind it.
use Rattle.std.proofs.Common.{ℕ, suc, ◌+◌, ◌≡◌, inl, inr, true, false, Bool, List, [], ◌∷◌, ◌++◌, Some, refl, sym, ◌∙◌}
use Rattle.std.proofs.Common.{ap, subst, arith}
use Rattle.std.specs.Prelude.{if◌then◌else◌}
use Rattle.run_laws.specs.Machines.{Go}
use Rattle.machine_words.specs.declared.conditions.Cond.{Cond}
use Rattle.machine_words.specs.Conditions.{holds}
use Rattle.low_ir.specs.declared.code.LowSource.{LowSource}
use Rattle.low_ir.specs.Procedures.{Code, Done, If}
use Rattle.low_ir.specs.Run.{LowState, word_of, goes_on, falls, code_step}
use Rattle.rv_select.specs.declared.convention.TheConstants.{FIRST_SCRATCH, SECOND_SCRATCH}
use Rattle.rv_select.specs.declared.code.VirtualItem.{VirtualItem}
use Rattle.rv_select.specs.declared.code.VirtualItem.TheVariants.{Mark, Jump, Branch}
use Rattle.rv_select.specs.Run.{Found, VirtualState, value, branch, item_step}
use Rattle.rv_select.specs.Select.{source_reg, source_items, marks_in, code_items}
use Rattle.rv_select.specs.Prices.{item_price}
use Rattle.rv_select.proofs.Fetching.{fetches, fetches_ge, fetch_both}
use Rattle.rv_select.proofs.Stretches.{stands_front, does_item, given_is, beyond, PaidWay, prices}
use Rattle.rv_select.proofs.Relation.{Program, On, past, next, Joins, Leads, Lies, setting, finds_front, owed, Way}
use Rattle.rv_select.proofs.Relation.{At, way_regs, body_regs, all_owed, way_first}
use Rattle.rv_select.proofs.Stepping.{DoesStep}
use Rattle.rv_select.proofs.Stepping.{Sim, purse_of, sim_given, ItemsOn}
use Rattle.rv_select.proofs.Straight.{some_steps, both_paid}

module _ {V : Type 0} (program : Program V) where
  -- what an item that goes to a mark, or on, leads to
  pub do_if : (s : LowState) (t : VirtualState) (on : On program s t) (cond : Cond)
      (a b : LowSource) (one other rest : Code)
      → DoesStep program s t on (If cond a b one other rest)
  do_if s t on cond a b one other rest lies =
      sim_given program purse s s t (word_of s.active.locals a) _ (λ x xe. sim_given program purse s s t
      (word_of s.active.locals b) _
      (λ y ye. either x y xe ye (holds cond x y) refl))
    where
      purse : ℕ
      purse = purse_of program s (If cond a b one other rest)

      f : Found
      f = t.active.found

      m : ℕ
      m = on.active.mark

      p1 : ℕ
      p1 = beyond (source_items FIRST_SCRATCH a) t.pc

      pc : ℕ
      pc = beyond (source_items SECOND_SCRATCH b) p1

      other_code : List VirtualItem
      other_code = code_items f.first on.active.out (suc (suc m)) other

      one_code : List VirtualItem
      one_code = code_items f.first on.active.out (suc (suc m) + marks_in other) one

      rest_code : List VirtualItem
      rest_code = code_items f.first on.active.out (suc (suc m) + marks_in other + marks_in one) rest

      item : VirtualItem
      item = Branch cond (source_reg f.first FIRST_SCRATCH a) (source_reg f.first SECOND_SCRATCH b) m

      tail : List VirtualItem
      tail = Jump (suc m) ∷ Mark m ∷ (one_code ++ (Mark (suc m) ∷ rest_code))

      here : ItemsOn program s t on pc (item ∷ (other_code ++ tail))
      here = past program f on.active.out p1 (source_items SECOND_SCRATCH b) (item
          ∷ (other_code ++ tail)) s.active.rests
          (past program f on.active.out t.pc (source_items FIRST_SCRATCH a) (source_items SECOND_SCRATCH b
          ++ (item ∷ (other_code ++ tail))) s.active.rests lies)

      -- the jump, and behind it the mark of the other branch
      jump_place : ℕ
      jump_place = beyond other_code (suc pc)

      jump_there : ItemsOn program s t on jump_place tail
      jump_there = past program f on.active.out (suc pc) other_code tail s.active.rests
          (next program f on.active.out pc item (other_code ++ tail) s.active.rests here)

      one_there : ItemsOn program s t on (suc (suc jump_place)) (one_code ++ (Mark (suc m) ∷ rest_code))
      one_there = record { stands = jump_there.stands.1.1; finds = jump_there.finds.1.1; leads = jump_there.leads }

      end_place : ℕ
      end_place = beyond one_code (suc (suc jump_place))

      end_there : ItemsOn program s t on end_place (Mark (suc m) ∷ rest_code)
      end_there = past program f on.active.out (suc (suc jump_place)) one_code (Mark (suc m)
          ∷ rest_code) s.active.rests one_there

      joined : (p : ℕ) → Joins program f.home p (suc m) end_place → Leads program f on.active.out p (rest
          ∷ s.active.rests)
      joined p j = (
        suc m,
        end_place,
        suc (suc m) + marks_in other + marks_in one,
        j,
        end_there.stands,
        end_there.finds.1,
        end_there.leads,
      )

      at_other : Lies program f on.active.out (suc pc) other_code (rest ∷ s.active.rests)
      at_other = record {
        stands = stands_front program.reading (setting program) other_code tail (suc pc) here.stands.1;
        finds = finds_front program f.home other_code tail (suc pc) here.finds.1;
        leads = joined jump_place (inr ((jump_there.stands.0, tt), end_there.finds.0));
      }

      at_one : Lies program f on.active.out (suc (suc jump_place)) one_code (rest ∷ s.active.rests)
      at_one = record {
        stands = stands_front program.reading (setting program) one_code (Mark (suc m)
            ∷ rest_code) (suc (suc jump_place))
            one_there.stands;
        finds = finds_front program f.home one_code (Mark (suc m) ∷ rest_code) (suc (suc jump_place)) one_there.finds;
        leads = joined end_place (inl refl);
      }

      branched : (x y : ℕ) (u : VirtualState) → value u (source_reg f.first FIRST_SCRATCH a) ≡ Some x
          → value u (source_reg f.first SECOND_SCRATCH b) ≡ Some y → (test : Bool) → holds cond x y ≡ test
          → item_step program.reading (setting program) item u ≡ branch program.reading (setting program) test m u
      branched x y u va vb test h =
          given_is u _ x _ va ∙ (given_is u _ y _ vb ∙ ap (λ c. branch program.reading (setting program) c m u) h)

      either : (x y : ℕ) → word_of s.active.locals a ≡ Some x → word_of s.active.locals b ≡ Some y → (test : Bool)
          → holds cond x y ≡ test → Sim program purse s t (Go (goes_on (if test then one else other) (rest
          ∷ s.active.rests) s))
      either x y xe ye false h =
          let s1 : LowState = goes_on other (rest ∷ s.active.rests) s in (
            fetches a (fetches b 1),
            inl (some_steps program a b),
            prices (setting program) f (source_items FIRST_SCRATCH a)
                (prices (setting program) f (source_items SECOND_SCRATCH b)
                (item_price (setting program) f item + owed s.waiting)),
            (let p = both_paid program s t a b (item_price (setting program) f item + owed s.waiting) in omega
                (arith, p)),
            fetch_both program.reading (setting program) (Way program s s1) (At program s1) s.active.locals a b x y t
                (item
                ∷ (other_code ++ tail)) 1 (item_price (setting program) f item + owed s.waiting) xe ye on.active.locals
                lies.stands (way_regs program s s1 t on.body)
                (λ regs known same va vb.
                let u : VirtualState = record t { regs = regs; known = known; pc = pc } in
                does_item program.reading (setting program) (Way program s s1) (At program s1) 0
                (owed s.waiting) u (record u { pc = suc pc }) item
                here.stands.0
                (branched x y u va vb false h) (way_regs program s s1 t on.body regs known pc same) (
                  record {
                    active = record {
                      mark = suc (suc m);
                      out = on.active.out;
                      homed = on.active.homed;
                      locals =
                          on.active.locals;
                      lies = at_other;
                    };
                    behind = on.behind;
                    body = body_regs program s t regs known (suc pc) on.body same;
                  },
                  all_owed (owed s.waiting),
                )),
          )
      either x y xe ye true h =
          let s1 : LowState = goes_on one (rest ∷ s.active.rests) s in (
            fetches a (fetches b 2),
            inl (let i = fetches_ge b 2 in let j = fetches_ge a (fetches b 2) in
                omega (arith, i, j)),
            prices (setting program) f (source_items FIRST_SCRATCH a)
                (prices (setting program) f (source_items SECOND_SCRATCH b)
                (item_price (setting program) f item + (0 + owed s.waiting))),
            (let p = both_paid program s t a b (item_price (setting program) f item + (0 + owed s.waiting)) in omega
                (arith, p)),
            fetch_both program.reading (setting program) (Way program s s1) (At program s1) s.active.locals a b x y t
                (item
                ∷ (other_code ++ tail)) 2
                (item_price (setting program) f item + (0 + owed s.waiting)) xe ye on.active.locals
                lies.stands (way_regs program s s1 t on.body)
                (λ regs known same va vb.
                let u : VirtualState = record t { regs = regs; known = known; pc = pc } in
                let u1 : VirtualState = record u { pc = suc jump_place } in
                does_item program.reading (setting program) (Way program s s1) (At program s1) 1
                (0 + owed s.waiting) u u1 item here.stands.0
                (branched x y u va vb true h
                ∙ given_is u _ (suc jump_place) _ jump_there.finds.1.0)
                (way_regs program s s1 t on.body regs known pc same) (
                does_item program.reading (setting program) (Way program s s1) (At program s1) 0 (owed s.waiting) u1
                (record u1 { pc = suc (suc jump_place) }) (Mark m)
                jump_there.stands.1.0 refl (way_regs program s s1 t on.body regs known (suc jump_place) same) (
                  record {
                    active = record {
                      mark = suc (suc m) + marks_in other;
                      out = on.active.out;
                      homed = on.active.homed;
                      locals = on.active.locals;
                      lies = at_one;
                    };
                    behind = on.behind;
                    body = body_regs program s t regs known (suc (suc jump_place)) on.body same;
                  },
                  all_owed (owed s.waiting),
                ))),
          )

  pub do_done : (s : LowState) (t : VirtualState) (on : On program s t)
      → Lies program t.active.found on.active.out t.pc [] s.active.rests
      → Sim program (purse_of program s Done) s t (code_step program.reading program.low Done s)
  do_done s t on lies = ended s.active.rests lies.leads
    where
      ended : (rs : List Code) → Leads program t.active.found on.active.out t.pc rs
          → Sim program (purse_of program s Done) s t (falls program.reading program.low rs s)
      ended [] h = tt
      ended (r ∷ rs) h = joins h.3
        where
          s1 : LowState
          s1 = goes_on r rs s

          t1 : VirtualState
          t1 = record t { pc = h.1 }

          t2 : VirtualState
          t2 = record t { pc = suc h.1 }

          behind_mark : PaidWay program.reading (setting program) (Way program s s1) (At program s1) 1
              (0 + owed s.waiting) t1
          behind_mark =
              does_item program.reading (setting program) (Way program s s1) (At program s1) 0
              (owed s.waiting) t1 t2 (Mark h.0) h.4.0 refl
              (way_first program s s1 t1 on.body) (
                record {
                  active = record {
                    mark = h.2;
                    out = on.active.out;
                    homed = on.active.homed;
                    locals = on.active.locals;
                    lies = record { stands = h.4.1; finds = h.5; leads = h.6 };
                  };
                  behind = on.behind;
                  body = on.body;
                },
                all_owed (owed s.waiting),
              )

          joins : Joins program t.active.found.home t.pc h.0 h.1 → Sim program (purse_of program s Done) s t (Go s1)
          joins (inl e) = (
            1,
            inl (omega arith),
            0 + owed s.waiting,
            omega arith,
            subst (λ p. PaidWay program.reading (setting program) (Way program s s1) (At program s1) 1
                (0 + owed s.waiting) (record t { pc = p })) (sym e)
                behind_mark,
          )
          joins (inr j) = (
            2,
            inl (omega arith),
            10 + (0 + owed s.waiting),
            omega arith,
            does_item program.reading (setting program) (Way program s s1) (At program s1) 1
                (0 + owed s.waiting) t t1 (Jump h.0) j.0.0
                (given_is t _ h.1 _ j.1) (way_first program s s1 t on.body) behind_mark,
          )
