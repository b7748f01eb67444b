-- The procedures for boxes and vectors of the merged scheme serve them, wherever they stand.
use Rattle.std.proofs.Common.{◌≡◌, ℕ, ◌+◌, ◌^◌, ◌<◌, List, Some, true, refl, sym, ap, ◌∙◌, arith, slice_get}
use Rattle.std.specs.Prelude.{◌&&◌, nat_le}
use Rattle.core_calc.specs.Account.{Measures}
use Rattle.low_ir.specs.Procedures.{Proc as LowProc}
use Rattle.low_ir.specs.Run.{Setting}
use Rattle.cast_modes.specs.Modes.{TypeCast}
use Rattle.coercion_norm.specs.Held.{Layout, TypesStand}
use Rattle.flat_ir.specs.Bodies.{Proc}
use Rattle.rt_cast.specs.ComposeCodes.{cast}
use Rattle.rt_cast.specs.Procs.{Stand, how_many_cast_procs}
use Rattle.rt_cast.specs.States.{Placed}
use Rattle.rt_refs.specs.CellCodes.{read_proc, write_proc}
use Rattle.rt_refs.specs.FillCodes.{fill_proc}
use Rattle.rt_refs.specs.declared.numbers.RefProc.{RefProc}
use Rattle.rt_refs.specs.declared.numbers.RefProc.TheVariants.{Read, Write, Fill, FillLoop}
use Rattle.rt_refs.specs.RefProcs.{Stand as RefsStand, ref_procs, ref_place, ref_proc_number}
use Rattle.lowered_code.specs.declared.served.Served.{Served}
use Rattle.lower.specs.Keeping.{FitsMeasures}
use Rattle.lower.specs.MergedMeaning.{merged_meaning, MergedCasts}
use Rattle.lower.specs.SchemeLaws.{CellsServed}
use Rattle.lower.specs.SimulationServices.{StandsAs}
use Rattle.lower.proofs.words.Standing.{stands_as}
use Rattle.lower.proofs.merging.MeaningLaws.{merged_laws}
use Rattle.lower.proofs.merging.Reading.{merged_reads, merged_unboxes, merged_measures}
use Rattle.lower.proofs.merging.Writing.{merged_writes, merged_sets}
use Rattle.lower.proofs.merging.Fills.{plainly_lets, vectors_are_served}

-- Behind the procedures for casts stand those for calls, reads, writes and vectors.
module _ (setting : Setting) (l : Layout) (procs : List Proc) (casts : List TypeCast) (m : Measures)
    (measured : FitsMeasures l m) (words : List ℕ) (first : ℕ) (run : Served) (placed : Placed setting l)
    (types : TypesStand l) (held : MergedCasts l casts words)
    (ready : Stand setting.procs first) (refs : RefsStand setting.procs (how_many_cast_procs + first) (cast first))
    (region : l.region ≡ setting.region) (narrow : setting.top < 2 ^ 34)
    (read_is : run.read ≡ how_many_cast_procs + ref_place Read + first)
    (write_is : run.write ≡ how_many_cast_procs + ref_place Write + first)
    (fill_is : run.fill ≡ how_many_cast_procs + ref_place Fill + first) where
  stands_at : (k n : ℕ) (p : LowProc) → slice_get (ref_procs (how_many_cast_procs + first) (cast first)) k ≡ Some p
      → k + (how_many_cast_procs + first) ≡ n
      → slice_get setting.procs n ≡ Some p
  stands_at k n p there e = ap (λ i. slice_get setting.procs i) (sym e) ∙ refs k p there

  -- the one of this name stands as the program numbers it
  served_as : (which : RefProc) (number : ℕ) (p : LowProc)
      → slice_get (ref_procs (how_many_cast_procs + first) (cast first)) (ref_place which) ≡ Some p
      → number ≡ how_many_cast_procs + ref_place which + first
      → (nat_le p.params 8 && (nat_le p.params p.words && nat_le p.words 24)) ≡ true
      → StandsAs setting number p p.params
  served_as which number p there is few =
      stands_as setting number p (ap (λ n. slice_get setting.procs n) is
      ∙ stands_at (ref_place which) (how_many_cast_procs + ref_place which + first) p there (omega arith)) few

  abbrev fill_loop_number : ℕ
  fill_loop_number = ref_proc_number FillLoop (how_many_cast_procs + first)

  pub merged_cells_served : CellsServed merged_meaning setting l procs casts m run
  merged_cells_served = record {
    read = read_proc (cast first);
    read_stands = served_as Read run.read (read_proc (cast first)) refl read_is refl;
    unboxes = merged_unboxes setting l procs casts m measured first run placed types held.tallest ready;
    reads = merged_reads setting l procs casts m measured first run placed types held.tallest ready;
    measures = merged_measures setting l procs casts m measured first run placed types held.tallest ready;
    write = write_proc (cast first);
    write_stands = served_as Write run.write (write_proc (cast first)) refl write_is refl;
    sets = merged_sets setting l procs casts m measured first run placed types held.tallest ready region;
    writes = merged_writes setting l procs casts m measured first run placed types held.tallest ready region;
    fill = fill_proc fill_loop_number;
    fill_stands = served_as Fill run.fill (fill_proc fill_loop_number) refl fill_is refl;
    fills = vectors_are_served merged_meaning merged_laws setting l procs casts m
        (plainly_lets merged_meaning l casts m (omega arith) (λ n. refl) refl) placed region
        narrow fill_loop_number (stands_at (ref_place FillLoop) fill_loop_number _ refl refl) run;
  }
