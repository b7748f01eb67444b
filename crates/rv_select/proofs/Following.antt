-- The virtual run of a selected code follows the run over words.
use Rattle.std.proofs.Common.{ℕ, ◌+◌, ◌%◌, ◌^◌, ◌<◌, ◌≤◌, ◌≡◌, List, [], ◌∷◌, ◌++◌, Some}
use Rattle.std.proofs.Common.{refl, sym, subst, arith}
use Rattle.std.specs.Prelude.{slice_get}
use Rattle.grift_base.specs.World.{WorldState}
use Rattle.run_laws.specs.Runs.{Ending, NeverWrong, FollowsBy, Any}
use Rattle.run_laws.specs.Machines.{Alike, run}
use Rattle.run_laws.specs.Meters.{unspent, metered, OfRest, Spends}
use Rattle.machine_words.specs.Memory.{Memory}
use Rattle.rv_machine.specs.Registers.{Registers}
use Rattle.machine_words.specs.Halts.{Halt}
use Rattle.low_ir.specs.Steps.{no_locals}
use Rattle.low_ir.specs.Procedures.{Proc}
use Rattle.low_ir.specs.Run.{Setting as LowSetting, LowState, low_machine, low_start}
use Rattle.low_ir.specs.Prices.{low_price}
use Rattle.rv_select.specs.declared.convention.TheConstants.{STACK_END, ALLOCATION, REGION_END}
use Rattle.rv_select.specs.declared.code.VirtualItem.{VirtualItem}
use Rattle.rv_select.specs.declared.code.VirtualItem.TheVariants.{Call}
use Rattle.rv_select.specs.Run.{Setting, Found, VirtualState, only_args, procedure_from, virtual_machine}
use Rattle.rv_select.specs.Run.{virtual_start}
use Rattle.rv_select.specs.Prices.{start_price, end_price, entering_found, item_price, virtual_price}
use Rattle.rv_select.specs.Select.{select_items, code_items, params_items}
use Rattle.rv_select.specs.Selected.{setting_of, SameRegion}
use Rattle.rv_select.proofs.Paying.{follows_paid, unmetered}
use Rattle.rv_select.proofs.Pricing.{entering_most}
use Rattle.rv_select.proofs.Stretches.{PaidWay, does_item, given_is}
use Rattle.rv_select.proofs.Relation.{Program, OnWith, all_owed, Laid, Lies, as_alike}
use Rattle.rv_select.proofs.Moves.{selected}
use Rattle.rv_select.proofs.Laying.{laid}

module _ {V : Type 0} (reading : Halt → Ending V) (low : LowSetting) (entry : ℕ) (p : Proc) (regs : Registers)
    (memory : Memory) (world : WorldState) (small : low.top < 2 ^ 64) (fits : low.region ≤ low.top)
    (even : low.region % 8 ≡ 0) (found : slice_get low.procs entry ≡ Some p) (none : p.params ≡ 0)
    (alloc : regs ALLOCATION ≡ low.region) (top : regs REGION_END ≡ low.top) where
  abbrev items : List VirtualItem
  items = select_items entry low.procs

  abbrev s0 : LowState
  s0 = low_start low p memory world

  abbrev t0 : VirtualState
  t0 = virtual_start regs memory world

  abbrev program : Program V
  program = record { reading = reading; low = low; items = items; stack = regs STACK_END; small = small }

  pub all : Laid program
  all = laid reading low (regs STACK_END) small entry

  first_words : (f : Found) → f.count ≡ p.words → f.count + 0 ≡ p.words + 0
  first_words f e = omega (arith, e)

  abbrev setting : Setting
  setting = setting_of low items

  -- one item enters the program's first procedure, and what is left pays the end
  pub starts : (P : VirtualState → Type 0) → P t0 → PaidWay reading setting P
      (λ left u. OnWith program left s0 u) 1 start_price t0
  starts P h =
      let l = all.by_number entry p found in
      let f : Found = l.0 in
      let t1 : VirtualState = record t0 {
        pc = f.home;
        active = record { found = f; locals = no_locals };
        frames =
            record { back = 1; active = t0.active } ∷ [];
        known = only_args 0 t0.known;
      } in
      let few : entering_found (procedure_from entry 0 items) ≤ 25 =
      subst (λ o. entering_found o ≤ 25) (sym l.1) (entering_most f.count) in
      let way : PaidWay reading setting P (λ left u. OnWith program left s0 u) 1
      (item_price setting t0.active.found (Call entry 0) + end_price) t0 =
      does_item reading setting P (λ left u. OnWith program left s0 u) 0 end_price t0 t1
      (Call entry 0) refl (given_is _ _ f _ l.1) h (
        record {
          active = record {
            mark = l.2.mark;
            out = l.2.out;
            homed = l.2.homed;
            locals = λ i. refl;
            lies = subst (λ n. Lies program f l.2.out f.home (params_items f.first 0 n
                ++ code_items f.first l.2.out l.2.mark p.code) []) none l.2.lies;
          };
          behind = (refl, (refl, (refl, (refl, (refl, tt)))));
          body = (refl, alloc, (refl, first_words f l.2.homed.count), refl, top, fits, even, omega arith, refl);
        },
        all_owed end_price,
      ) in
      let paid = way.2 in (way.0, way.1, omega (arith, paid, few), way.3)

  pub first : Alike (SameRegion (regs STACK_END) low.top) (low_machine reading low) (virtual_machine reading setting)
      s0 t0
  first = as_alike program s0 t0 (
    (λ at h. refl),
    alloc,
    (omega arith, omega arith),
    refl,
    fits,
    refl,
    top,
  )

  -- the whole runs: no more is paid than the prices of steps, and for the start
  pub costs_select : NeverWrong (run (low_machine reading low) s0)
      → FollowsBy (OfRest (SameRegion (regs STACK_END) low.top)) (Spends 1)
      (run (metered (virtual_price setting) (virtual_machine reading setting)) (unspent t0))
      (run (metered (low_price low.procs) (low_machine reading low)) (record { spent = start_price; rest = s0 }))
  costs_select never =
      follows_paid (selected program all) start_price s0 1 t0 (starts _ first) never

  pub follows_select : NeverWrong (run (low_machine reading low) s0)
      → FollowsBy (SameRegion (regs STACK_END) low.top) Any (run (virtual_machine reading setting) t0)
      (run (low_machine reading low) s0)
  follows_select never =
      unmetered (low_machine reading low) (virtual_machine reading setting) (low_price low.procs)
      (virtual_price setting) (record { spent = start_price; rest = s0 }) t0 never (costs_select never)
