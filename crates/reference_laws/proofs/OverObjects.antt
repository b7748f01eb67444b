-- The laws of calls, reads and writes, where what stands under a proxy is known by its address.
use Rattle.std.proofs.Common.{◌≡◌, ℕ, ◌+◌, ◌*◌, ◌≤◌, false, List, [], ◌∷◌, length, Some, refl, sym, subst}
use Rattle.std.specs.Prelude.{◌==◌}
use Rattle.grift_base.specs.Types.{TypeHead, IntHead}
use Rattle.grift_base.specs.declared.verdicts.Trap.TheVariants.{Index}
use Rattle.run_laws.specs.Runs.{Ending, Exhausted}
use Rattle.machine_words.specs.Halts.{Halt, Lacks, Region}
use Rattle.low_ir.specs.Run.{Setting, Waiting, LowState}
use Rattle.type_graph.specs.declared.tables.TheConstants.{MOST_HEIGHT}
use Rattle.coercion_norm.specs.Coercions.{Coercion}
use Rattle.coercion_norm.specs.Objects.{Object, Fixed}
use Rattle.coercion_norm.specs.Held.{Layout, There}
use Rattle.rt_cast.specs.Costs.{cast_cost}
use Rattle.rt_cast.specs.LightCasts.{cast_words_of, cast_price_of}
use Rattle.rt_cast.specs.ComposeCodes.{cast}
use Rattle.rt_cast.specs.MergedValues.{Merged, Outcome, Stuck, cast_value}
use Rattle.rt_cast.specs.Carried.{IsVery, Carries}
use Rattle.rt_cast.specs.States.{Filled, IsReady, heap_of}
use Rattle.rt_cast.proofs.Public.{very_still}
use Rattle.rt_refs.specs.CellCodes.{read_proc, write_proc}
use Rattle.reference_laws.specs.CallLaws.{GoesOnTo, Resumes}
use Rattle.reference_laws.specs.CellLaws.{under, CellStands, CellInRegion, TrapsAt, TellsAt}
use Rattle.reference_laws.specs.CellLaws.{ComesWhere}
use Rattle.reference_laws.proofs.Applying.{calls_through_proxies, answers_cast}
use Rattle.reference_laws.proofs.Reading.{reads, outside_reads, lengths}
use Rattle.reference_laws.proofs.Writing.{writes, writes_blamed, outside_writes}
use Rattle.reference_laws.specs.ReferenceLaws.{CallsAreMade, ElementsAreRead, ElementsAreWritten, BoxWritesAreBlamed}

module _ {V : Type 0} where
  pub calls_are_made : CallsAreMade V
  calls_are_made reading setting l first s exhausts ready low objects filled heads f c ds e split us wv ws hv hu few
      many head address rest there =
      calls_through_proxies reading setting l first s exhausts ready heads (IsVery l)
      (λ old new g a w h. very_still reading setting l first s exhausts ready old new g a w h) (λ os a w h. h.solid)
      low objects filled f c ds e split us wv ws hv hu few many address
      (λ wa h. (head, rest, subst (λ n. There l objects n (Fixed head (address ∷ rest))) (sym h.is) there))

  pub answers_are_cast : (reading : Halt → Ending V) (setting : Setting) (l : Layout) (first : ℕ) (s : LowState)
      → reading (Lacks Region) ≡ Exhausted → IsReady setting l first → l.tallest ≤ MOST_HEIGHT
      → (objects : List Object) → Filled setting l objects (heap_of s) → (head : ℕ → TypeHead) (w : Waiting)
      (c : Coercion) → Resumes l first objects w c → (u : Merged ℕ) (wv : ℕ) → Carries l objects u wv
      → (r : Outcome ℕ) → cast_value head l.types c u ≡ r → (r ≡ Stuck → ⊥)
      → GoesOnTo reading setting l s (IsVery l) objects w wv r (cast_cost l.width l.tallest + 1)
      (4 * l.tallest + 6) (cast_words_of l c u) (cast_price_of l c u + 70)
  answers_are_cast reading setting l first s exhausts ready low objects filled head w c resumes u wv hv r e some =
      answers_cast reading setting l first s exhausts ready (λ i a. head a) (IsVery l)
      (λ old new g a w h. very_still reading setting l first s exhausts ready old new g a w h) (λ os a w h. h.solid)
      low objects filled head w c resumes u wv hv r
      e some

  pub elements_are_read : ElementsAreRead V
  elements_are_read reading setting l first s exhausts ready low objects filled head u wv hv a d behind ws cell which i
      word other got x hx r e some =
      reads reading setting l first s exhausts ready head (IsVery l) (λ old new g a w h. very_still reading setting l
      first s exhausts ready old new g a w h)
      (λ os a w h. h.solid) low objects filled u wv hv a ws
      (λ wa h. subst (λ n. CellStands l objects s.memory n ws) (sym h.is) cell) d behind which i word other got x hx r e
      some

  pub indices_outside_trap : (reading : Halt → Ending V) (setting : Setting) (l : Layout) (first : ℕ) (s : LowState)
      → reading (Lacks Region) ≡ Exhausted → IsReady setting l first → l.tallest ≤ MOST_HEIGHT
      → (objects : List Object) → Filled setting l objects (heap_of s) → (u : Merged ℕ) (wv : ℕ)
      → Carries l objects u wv → (a : ℕ) → under u ≡ Some a → (ws : List ℕ) → CellStands l objects s.memory a ws
      → (which i : ℕ) → (which == 2) ≡ false → length ws ≤ i
      → ComesWhere reading setting l s (read_proc (cast first)) (which ∷ wv ∷ i ∷ [])
      (TrapsAt reading setting l s Index) 10 0 0 73
  indices_outside_trap reading setting l first s exhausts ready low objects filled u wv hv a stands ws cell which i
      other outside =
      outside_reads reading setting l first s exhausts ready (λ b. IntHead) (IsVery l)
      (λ old new g a w h. very_still reading setting l first s exhausts ready old new g a w h) (λ os a w h. h.solid)
      low objects filled u wv hv a ws
      (λ wa h. subst (λ n. CellStands l objects s.memory n ws) (sym h.is) cell) stands which i other outside

  pub lengths_are_told : (reading : Halt → Ending V) (setting : Setting) (l : Layout) (first : ℕ) (s : LowState)
      → reading (Lacks Region) ≡ Exhausted → IsReady setting l first → (objects : List Object)
      → Filled setting l objects (heap_of s) → (u : Merged ℕ) (wv : ℕ) → Carries l objects u wv → (a : ℕ)
      → under u ≡ Some a → (ws : List ℕ) → CellStands l objects s.memory a ws → (i : ℕ)
      → ComesWhere reading setting l s (read_proc (cast first)) (2 ∷ wv ∷ i ∷ [])
      (TellsAt setting l s objects (length ws)) 8 0 0 57
  lengths_are_told reading setting l first s exhausts ready objects filled u wv hv a stands ws cell i =
      lengths reading setting l first s exhausts ready (IsVery l) objects filled ws u wv hv a stands
      (λ wa h. subst (λ n. CellStands l objects s.memory n ws) (sym h.is) cell) i

  pub elements_are_written : ElementsAreWritten V
  elements_are_written reading setting l first s exhausts ready low objects filled begins head u wv hv a d behind ws
      cell which i word old got x hx r e some =
      writes reading setting l first s exhausts ready head (IsVery l) (λ old new g a w h. very_still reading setting l
      first s exhausts ready old new g a w h)
      (λ os a w h. h.solid) low begins objects filled u wv hv a ws
      (λ wa h. subst (λ n. CellInRegion l objects s.memory n ws) (sym h.is) cell) d behind which i word old got x hx r e
      some

  pub box_writes_are_blamed : BoxWritesAreBlamed V
  box_writes_are_blamed reading setting l first s exhausts ready low objects filled begins head u wv hv a d behind ws
      cell i word x hx label e =
      writes_blamed reading setting l first s exhausts ready head (IsVery l) (λ old new g a w h. very_still reading
      setting l first s exhausts ready old new g a w h)
      (λ os a w h. h.solid) low begins objects filled u wv hv a ws
      (λ wa h. subst (λ n. CellInRegion l objects s.memory n ws) (sym h.is) cell) d behind 0 i word refl x hx label e

  pub writes_outside_trap : (reading : Halt → Ending V) (setting : Setting) (l : Layout) (first : ℕ) (s : LowState)
      → reading (Lacks Region) ≡ Exhausted → IsReady setting l first → l.tallest ≤ MOST_HEIGHT
      → (objects : List Object) → Filled setting l objects (heap_of s) → (u : Merged ℕ)
      (wv : ℕ) → Carries l objects u wv → (a : ℕ) → under u ≡ Some a → (ws : List ℕ)
      → CellStands l objects s.memory a ws → (which i word : ℕ) → (which == 0) ≡ false → length ws ≤ i
      → ComesWhere reading setting l s (write_proc (cast first)) (which ∷ wv ∷ i ∷ word ∷ [])
      (TrapsAt reading setting l s Index) 10 0 0 73
  writes_outside_trap reading setting l first s exhausts ready low objects filled u wv hv a stands ws cell which
      i word other outside =
      outside_writes reading setting l first s exhausts ready (IsVery l)
      (λ old new g a w h. very_still reading setting l first s exhausts ready old new g a w h) (λ os a w h. h.solid)
      low objects filled u wv hv a ws
      (λ wa h. subst (λ n. CellStands l objects s.memory n ws) (sym h.is) cell) stands which i word other outside
