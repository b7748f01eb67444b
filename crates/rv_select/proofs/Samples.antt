-- Small runs, by computation: they show that the definitions say something.
use Rattle.std.proofs.Common.{ℕ, ◌+◌, ◌*◌, ◌≡◌, true, [], ◌∷◌, Option, Some, refl}
use Rattle.std.specs.Prelude.{pos}
use Rattle.grift_base.specs.World.{WorldState}
use Rattle.grift_base.specs.EnvironmentCall.{environment_call}
use Rattle.grift_base.specs.declared.verdicts.AnswerKind.TheVariants.{Int as IntKind}
use Rattle.grift_base.specs.declared.verdicts.Verdict.{Verdict as Outcome}
use Rattle.grift_base.specs.declared.verdicts.Verdict.TheVariants.{Answer, RegionOut}
use Rattle.run_laws.specs.Runs.{Ending, Verdict}
use Rattle.run_laws.specs.Machines.{run}
use Rattle.run_laws.specs.Meters.{metered, unspent}
use Rattle.machine_words.specs.declared.conditions.Cond.TheVariants.{Ltu, Eq}
use Rattle.machine_words.specs.Halts.{stop_of}
use Rattle.machine_words.specs.Memory.{Memory, load_bytes, store_bytes}
use Rattle.rv_machine.specs.Start.{start_regs}
use Rattle.low_ir.specs.declared.code.WordOp.TheVariants.{Add}
use Rattle.low_ir.specs.declared.code.LowSource.TheVariants.{Word, Number}
use Rattle.low_ir.specs.Procedures.{Done, Set, Compute, Load, Build, Call, If, Return, TailCall, Proc}
use Rattle.low_ir.specs.Closed.{is_closed}
use Rattle.low_ir.specs.Run.{Setting as LowSetting, low_machine, low_start}
use Rattle.low_ir.specs.Prices.{low_price}
use Rattle.rv_select.specs.Run.{virtual_machine, virtual_start}
use Rattle.rv_select.specs.Prices.{start_price, virtual_price}
use Rattle.rv_select.specs.Select.{select_items}
use Rattle.rv_select.specs.Selected.{setting_of}

-- builds an object of 7 and 2, loads its second word and hands it to procedure 1, with 0; both branches of a test set
-- word 1 or 0, and the answer is word 1
main : Proc
main = record {
  params = 0;
  words = 2;
  code = Build 0 (Number 7 ∷ Number 2 ∷ []) (Load 1 (Word 0) 8 (Call 1 1 (Word 1 ∷ Number 0 ∷ [])
      (If Eq (Word 1) (Number 0) (Set 1 (Number 9) Done) (Set 0 (Word 1) Done) (Return (Word 1)))));
}

-- counts to 3 by calls of itself, and adds what it was handed
counts : Proc
counts = record {
  params = 2;
  words = 3;
  code = If Ltu (Word 1) (Number 3) (Compute Add 2 (Word 1) (Number 1) (TailCall 1 (Word 0 ∷ Word 2 ∷ []))) Done
      (Compute Add 0 (Word 0) (Word 1) (Return (Word 0)));
}

closed : is_closed (main ∷ counts ∷ []) 0 ≡ true
unfolding main counts
closed = refl

-- with a region from 67,000 to an end
low_in : ℕ → LowSetting
unfolding main counts
low_in top = record {
  procs = main ∷ counts ∷ [];
  address = λ k. 66000 + 4 * k;
  labels = [];
  region = 67000;
  top = top;
}

no_memory : Memory
no_memory i = 0

fresh : WorldState
fresh = record { output = []; input = []; place = 0 }

five : Outcome
five = Answer (record { kind = IntKind; word = pos 5 })

-- what both runs end with in a region of so many bytes
low_ends : ℕ → Option (Ending Outcome)
low_ends bytes = (run (low_machine stop_of (low_in (67000 + bytes)))
    (low_start (low_in (67000 + bytes)) main no_memory fresh) 40).ending

virtual_ends : ℕ → Option (Ending Outcome)
unfolding main counts
virtual_ends bytes = (run (virtual_machine stop_of (setting_of (low_in (67000 + bytes))
    (select_items 0 (main ∷ counts ∷ []))))
    (virtual_start (start_regs 67000 bytes 4096) no_memory fresh) 90).ending

-- both answer, also where an object of two words just fits; where it doesn't, both lack a room
both_end_so : (low_ends 64 ≡ Some (Verdict five)) × (virtual_ends 64 ≡ Some (Verdict five))
    × (low_ends 16 ≡ Some (Verdict five)) × (virtual_ends 16 ≡ Some (Verdict five))
    × (low_ends 8 ≡ Some (Verdict RegionOut)) × (virtual_ends 8 ≡ Some (Verdict RegionOut))
unfolding low_ends virtual_ends low_in main counts no_memory fresh five load_bytes store_bytes environment_call
both_end_so = (refl, refl, refl, refl, refl, refl)

-- a program of far words, whose items cost just as much as its steps and the start: so the start's price is as small as
-- it can be
far : Proc
far = record {
  params = 0;
  words = 255;
  code = Compute Add 0 (Number 5) (Number 3000) (Return (Word 0));
}

far_in : LowSetting
unfolding low_in far main counts
far_in = record (low_in 67064) { procs = far ∷ [] }

low_pays : (run (metered (low_price (far ∷ [])) (low_machine stop_of far_in))
    (record { spent = start_price; rest = low_start far_in far no_memory fresh }) 2).shown.spent ≡ 73
unfolding far_in low_in far main counts no_memory fresh load_bytes store_bytes environment_call
low_pays = refl

virtual_pays : (run (metered (virtual_price (setting_of far_in (select_items 0 (far ∷ []))))
    (virtual_machine stop_of (setting_of far_in (select_items 0 (far ∷ [])))))
    (unspent (virtual_start (start_regs 67000 64 4096) no_memory fresh)) 10).shown.spent ≡ 73
unfolding far_in low_in far main counts no_memory fresh load_bytes store_bytes environment_call
virtual_pays = refl
