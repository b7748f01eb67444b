-- Sets of procedures that serve stand in lowered programs, so these are closed.
use Rattle.std.proofs.Common.{true, ℕ, suc, ◌+◌, ◌≡◌, List, [], ◌∷◌, ◌++◌, length, map, ◌∙◌, ap}
use Rattle.std.proofs.Common.{arith, slice_get}
use Rattle.grift_base.specs.Types.{TypeRow}
use Rattle.low_ir.specs.Procedures.{Proc}
use Rattle.low_ir.specs.Closed.{each_closed, is_closed}
use Rattle.flat_ir.specs.Bodies.{Proc as FlatProc}
use Rattle.flat_ir.specs.Closed.{is_closed as flat_is_closed}
use Rattle.lowered_code.specs.declared.served.CastWay.{CastWay}
use Rattle.lowered_code.specs.declared.served.Served.{Served}
use Rattle.lowered_code.specs.Lowered.{low_proc, entry_proc, lowered}
use Rattle.lowered_code.specs.Serving.{Serve}
use Rattle.lower.specs.Sets.{StandFrom, ServesAnywhere, GiveUpNowhere, with_casts}
use Rattle.lowered_code.proofs.Public.{lowered_programs_are_closed}

-- what serves stands behind the flat procedures and the one to begin with
pub stand_behind : (run : Served) (flat : List FlatProc) (entry : ℕ) (answer : TypeRow) (set : List Proc)
    → StandFrom (lowered run flat entry answer set) (suc (length flat)) set
stand_behind run flat entry answer set k p e = go flat ∙ e
  where
    go : (ps : List FlatProc)
        → slice_get (map (low_proc run) ps ++ entry_proc entry answer ∷ set) (k + suc (length ps)) ≡ slice_get set k
    go [] =
        let same : k + suc 0 ≡ suc k = omega arith in
        ap (slice_get (entry_proc entry answer ∷ set)) same
    go (q ∷ ps) =
        let same : k + suc (suc (length ps)) ≡ suc (k + suc (length ps)) = omega arith in
        ap (slice_get (low_proc run q ∷ (map (low_proc run) ps ++ entry_proc entry answer ∷ set))) same ∙ go ps

serve_with : (numbers : Served) (words : List ℕ) (ways : List CastWay) (procs : List Proc) → Serve numbers procs
    → Serve (with_casts numbers words ways) procs
serve_with numbers words ways procs s = assumption s

pub programs_with_sets_are_closed : (set : List Proc) (numbers : Served) (words : List ℕ) (ways : List CastWay)
    (flat : List FlatProc) (entry : ℕ) (answer : TypeRow) → ServesAnywhere set (suc (length flat)) numbers
    → flat_is_closed flat entry ≡ true
    → is_closed (lowered (with_casts numbers words ways) flat entry answer set) (length flat) ≡ true
programs_with_sets_are_closed set numbers words ways flat entry answer serves h =
    let run = with_casts numbers words ways in
    let procs = lowered run flat entry answer set in
    let stand = stand_behind run flat entry answer set in
    lowered_programs_are_closed run flat entry answer set h
    (serve_with numbers words ways procs (serves.serve procs stand)) (serves.closed procs stand)

-- a set serves wherever it stands where it does so behind each program
pub serves_anywhere : (set : List Proc) (first : ℕ) (numbers : Served)
    → ((procs : List Proc) → StandFrom procs first set → Serve numbers procs)
    → ((procs : List Proc) → StandFrom procs first set → each_closed procs set ≡ true) → GiveUpNowhere set
    → suc (suc numbers.multiply) ≡ length set + first → suc numbers.divide ≡ length set + first
    → ServesAnywhere set first numbers
serves_anywhere set first numbers serve closed persist multiply_last divide_last = record {
  serve = serve;
  closed = closed;
  persist = persist;
  multiply_last = multiply_last;
  divide_last = divide_last;
}
