-- The procedures of the merged scheme are those of its set, and serve wherever they stand.
use Rattle.std.proofs.Common.{true, ℕ, zero, suc, ◌+◌, ◌≡◌, List, [], ◌∷◌, ◌++◌, length, Some, None, refl, ◌∙◌, ap}
use Rattle.std.proofs.Common.{arith, slice_get}
use Rattle.std.proofs.lemmas.Bool.{and_from, and_parts}
use Rattle.low_ir.specs.declared.programs.LowProc.{LowProc}
use Rattle.low_ir.specs.Procedures.{Proc}
use Rattle.low_ir.specs.Closed.{proc_closed, each_closed}
use Rattle.low_ir.specs.Views.{procs_of}
use Rattle.rt_cast.specs.ComposeCodes.{cast}
use Rattle.rt_cast.specs.Procs.{cast_proc, cast_procs, how_many_cast_procs}
use Rattle.rt_cast.proofs.Public.{procedures_are_closed-closed as casts_are_closed}
use Rattle.rt_refs.specs.declared.numbers.RefProc.TheVariants.{Apply, Read, Write, Fill, Multiply, Divide}
use Rattle.rt_refs.specs.RefProcs.{ref_procs, ref_place}
use Rattle.rt_refs.proofs.Public.{procedures_are_closed-closed as proxies_are_closed}
use Rattle.lowered_code.specs.Serving.{takes, Serve}
use Rattle.lower.specs.Sets.{StandFrom, ServesAnywhere}
use Rattle.lower.proofs.Sets.{serves_anywhere}
use Rattle.lower.specs.MergedProcs.{merged_procs, merged_numbers}

-- ---- what stands in front of others, and behind them

get_front : (xs ys : List Proc) (k : ℕ) (p : Proc) → slice_get xs k ≡ Some p → slice_get (xs ++ ys) k ≡ Some p
get_front [] ys k p e = absurd (let z : None ≡ Some p = e in cc)
get_front (x ∷ xs) ys zero p e = e
get_front (x ∷ xs) ys (suc k) p e = get_front xs ys k p e

get_behind : (xs ys : List Proc) (k : ℕ) → slice_get (xs ++ ys) (length xs + k) ≡ slice_get ys k
get_behind [] ys k = ap (slice_get ys) (omega arith)
get_behind (x ∷ xs) ys k =
    let same : suc (length xs) + k ≡ suc (length xs + k) = omega arith in
    ap (slice_get (x ∷ (xs ++ ys))) same ∙ get_behind xs ys k

each_append : (procs xs ys : List Proc) → each_closed procs xs ≡ true → each_closed procs ys ≡ true
    → each_closed procs (xs ++ ys) ≡ true
each_append procs [] ys h k = k
each_append procs (x ∷ xs) ys h k =
    let e = and_parts (proc_closed procs x) (each_closed procs xs) h in
    and_from (proc_closed procs x) (each_closed procs (xs ++ ys)) e.0 (each_append procs xs ys e.1 k)

-- ---- where the set stands

module _ (procs : List Proc) (first : ℕ) (s : StandFrom procs first (merged_procs first)) where
  pub cast_stand : StandFrom procs first (cast_procs first)
  cast_stand k p e = s k p (get_front (cast_procs first) (ref_procs (how_many_cast_procs + first) (cast first)) k p e)

  pub proxy_stand : StandFrom procs (how_many_cast_procs + first) (ref_procs (how_many_cast_procs + first) (cast first))
  proxy_stand k p e =
      let at : slice_get (merged_procs first) (how_many_cast_procs + k) ≡ Some p =
      get_behind (cast_procs first) (ref_procs (how_many_cast_procs + first) (cast first)) k ∙ e in
      ap (slice_get procs) (omega arith) ∙ s (how_many_cast_procs + k) p at

  pub merged_serves : Serve (merged_numbers first) procs
  merged_serves = record {
    cast = ap (takes 2) (s 2 _ refl);
    project = ap (takes 4) (s 3 _ refl);
    apply = ap (takes 8) (s (how_many_cast_procs + ref_place Apply) _ refl);
    read = ap (takes 3) (s (how_many_cast_procs + ref_place Read) _ refl);
    write = ap (takes 4) (s (how_many_cast_procs + ref_place Write) _ refl);
    fill = ap (takes 2) (s (how_many_cast_procs + ref_place Fill) _ refl);
    multiply = ap (takes 2) (s (how_many_cast_procs + ref_place Multiply) _ refl);
    divide = ap (takes 3) (s (how_many_cast_procs + ref_place Divide) _ refl);
  }

  merged_closed : each_closed procs (merged_procs first) ≡ true
  merged_closed =
      each_append procs (cast_procs first) (ref_procs (how_many_cast_procs + first) (cast first))
      (casts_are_closed procs first cast_stand)
      (proxies_are_closed procs (how_many_cast_procs + first) (cast first) proxy_stand (cast_proc first)
      (s 2 _ refl) refl)

pub merged_serves_anywhere : (first : ℕ) → ServesAnywhere (merged_procs first) first (merged_numbers first)
merged_serves_anywhere first =
    serves_anywhere (merged_procs first) first (merged_numbers first) (λ procs s. merged_serves procs first s)
    (λ procs s. merged_closed procs first s) (refl, refl) (omega arith) (omega arith)

-- ---- what is made is the set

pub merged_list : (first : ℕ) (start more others whole : List LowProc) → procs_of start ≡ cast_procs first
    → more ≡ others → procs_of others ≡ ref_procs (how_many_cast_procs + first) (cast first)
    → procs_of whole ≡ procs_of start ++ procs_of more → procs_of whole ≡ merged_procs first
merged_list first start more others whole casts same proxies all =
    all ∙ (ap (λ ps. ps ++ procs_of more) casts ∙ ap (λ ps. cast_procs first ++ ps) (ap procs_of same ∙ proxies))
