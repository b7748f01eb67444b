-- What read comes to, from a state in which whole objects fill the region.
use Rattle.std.proofs.Common.{◌≡◌, ℕ, ◌+◌, ◌*◌, ◌≤◌, false}
use Rattle.std.proofs.Common.{List, [], ◌∷◌, length, Some, refl, ap, arith}
use Rattle.std.specs.Prelude.{◌==◌, slice_get}
use Rattle.grift_base.specs.Types.{TypeHead}
use Rattle.grift_base.specs.declared.verdicts.Trap.TheVariants.{Index}
use Rattle.run_laws.specs.Runs.{Ending, Exhausted}
use Rattle.machine_words.specs.Halts.{Halt, Lacks, Region}
use Rattle.low_ir.specs.declared.code.LowSource.TheVariants.{Word, Number}
use Rattle.low_ir.specs.Procedures.{Code, Return, Load, TailCall}
use Rattle.low_ir.specs.Steps.{Locals, no_locals}
use Rattle.low_ir.specs.Run.{Setting, LowState, bind, and_more}
use Rattle.coercion_norm.specs.Coercions.{Coercion}
use Rattle.coercion_norm.specs.Objects.{Object}
use Rattle.coercion_norm.specs.ObjectsOfRows.{header}
use Rattle.coercion_norm.specs.Held.{Layout, rows_in}
use Rattle.object_layout.specs.Words.{kind_mask}
use Rattle.rt_cast.specs.WholeObjects.{IsSolid}
use Rattle.rt_cast.specs.Costs.{cast_cost}
use Rattle.rt_cast.specs.LightCasts.{cast_words_of, cast_price_of}
use Rattle.rt_cast.specs.ComposeCodes.{cast}
use Rattle.rt_cast.specs.Procs.{cast_proc}
use Rattle.rt_cast.specs.States.{Grows, Fine, Filled, IsReady, around, heap_of, st}
use Rattle.rt_cast.specs.MergedValues.{Merged, Outcome, Stuck, cast_value}
use Rattle.rt_cast.specs.Carried.{CarriedBy, ComesTo}
use Rattle.rt_cast.proofs.Public.{arrives, counted}
use Rattle.rt_cast.proofs.Public.{Walk, lt_true, End, More, at_most, loads_at, computes, if_true, if_false}
use Rattle.rt_cast.proofs.Public.{tail_calls, ReachedIn, at_first, walk, apply, no_higher, by_either, low_of}
use Rattle.rt_cast.proofs.Public.{decided_cast, ends, kind_read, count_read, none_some, same_some, WordThere}
use Rattle.rt_cast.proofs.Public.{header_there, loads}
use Rattle.rt_refs.specs.CellCodes.{read_code, read_proc, test_index, take_part, find_element}
use Rattle.reference_laws.specs.CellLaws.{under, cell_behind, CellStands, TrapsAt, TellsAt, ComesWhere}
use Rattle.reference_laws.proofs.CellSteps.{cell_word, in_list, in_bounds}
use Rattle.low_ir.specs.Operations.{compute}
use Rattle.low_ir.specs.declared.code.WordOp.TheVariants.{Srl}
use Rattle.low_ir.specs.Procedures.{Compute}
use Rattle.coercion_norm.specs.Objects.{Cell}
use Rattle.rt_cast.specs.MergedValues.{Base, Solid, Proxied, InDyn}
use Rattle.reference_laws.proofs.CellSteps.{ends_branch}
use Rattle.std.proofs.Common.{subst, ◌<◌, ◌∙◌}
use Rattle.low_ir.specs.Steps.{set_local}
use Rattle.object_layout.specs.declared.kinds.Kind.TheVariants.{Proxy}
use Rattle.object_layout.specs.Kinds.{kind_number as number_of}
use Rattle.reference_laws.proofs.Finding.{one_kind, behind_under, found, part_taken, index_traps}
use Rattle.rt_cast.proofs.Public.{proxy_header, proxy_read}
use Rattle.rt_cast.specs.ComposeCodes.{cast_place}

module _ {V : Type 0} (reading : Halt → Ending V) (setting : Setting) (l : Layout) (first : ℕ) (s : LowState)
    (exhausts : reading (Lacks Region) ≡ Exhausted) (ready : IsReady setting l first) {A : Type 0} (head : A → TypeHead)
    (IsHeld : List Object → A → ℕ → Type 0)
    (still : (old new : List Object) → Grows old new → (a : A) (w : ℕ) → IsHeld old a w → IsHeld new a w)
    (is_solid : (objects : List Object) (a : A) (w : ℕ) → IsHeld objects a w → IsSolid l objects w)
    (low : l.tallest ≤ 65534) (objects : List Object) (filled : Filled setting l objects (heap_of s)) (u : Merged A)
    (wv : ℕ) (hv : CarriedBy l IsHeld objects u wv) (a : A) (ws : List ℕ)
    (cell : (wa : ℕ) → IsHeld objects a wa → CellStands l objects s.memory wa ws) where
  abbrev start : ℕ → ℕ → Locals
  start which i = bind 0 (which ∷ wv ∷ i ∷ []) no_locals

  fine : Fine setting l (around s) objects (heap_of s)
  fine = at_first reading setting l first s exhausts ready objects filled

  abbrev element_code : Code
  element_code = find_element (Load 2 (Word 2) 8 (TailCall (cast first) (Word 2 ∷ Word 5 ∷ [])))

  -- what is read is an element, cast as the proxy has it
  pub reads : (d : Coercion) → cell_behind 0 u ≡ Some (a, d) → (which i word : ℕ) → (which == 2) ≡ false
      → slice_get ws i ≡ Some word → (x : Merged A) → CarriedBy l IsHeld objects x word → (r : Outcome A)
      → cast_value head l.types d x ≡ r → (r ≡ Stuck → ⊥)
      → ComesWhere reading setting l s (read_proc (cast first)) (which ∷ wv ∷ i ∷ [])
      (ComesTo l setting s IsHeld objects r) (cast_cost l.width l.tallest + 17) (4 * l.tallest + 6)
      (cast_words_of l d x) (cast_price_of l d x + 148)
  reads d behind which i word other got x hx r e some =
      counted v begun (omega arith) (omega arith)
    where
      v : Walk V
      v = walk reading setting l first s exhausts ready (ComesTo l setting s IsHeld objects r) (4 * l.tallest + 6)
          (cast_words_of l d x)

      inside : i < length ws
      inside = in_list ws i word got

      begun : ReachedIn v (More (cast_cost l.width l.tallest + 17) (4 * l.tallest + 6)
          (cast_words_of l d x) (cast_price_of l d x + 148) End)
          (st (around s) 6 (start which i) (read_code (cast first)) [] s.waiting (heap_of s))
      begun =
          at_most v
          (if_false v objects fine which 2 refl refl other
          (found v low A IsHeld still is_solid (More (cast_cost l.width l.tallest + 8) (4 * l.tallest + 6)
          (cast_words_of l d x) (cast_price_of l d x + 88) End) objects
          (heap_of s) fine s.waiting _ (start which i) (test_index (take_part 8 element_code)) wv refl ws u a
          (behind_under v low A IsHeld still is_solid 0 u a d behind) hv cell
          (λ wa wc found rests ha cell_is keeps e1 e2 e3 e4 e5.
          let there = cell_word v objects (heap_of s) fine wa (header cell_is.kind 0 (length ws)) ws cell_is.there
          cell_is.held i word (wa + 8 * i + 8) got refl in
          at_most v
          (if_true v objects fine i (length ws) e2 e4 (lt_true i (length ws) inside)
          (part_taken v low A IsHeld still is_solid (More (cast_cost l.width l.tallest + 4) (4 * l.tallest + 6)
          (cast_words_of l d x) (cast_price_of l d x + 48) End) 0 8
          refl objects (heap_of s) fine s.waiting _ found element_code wc e5 u a d behind keeps
          (λ wd taken rests' hd ld f1 f2 f3 f5.
          let below = no_higher v low A IsHeld still is_solid d ld in
          let is = decided_cast l ready.types head d ld.normal below x
          (low_of l ready.types head IsHeld objects x word hx) r some e in
          at_most v
          (computes v objects fine i 3 (8 * i) (f2 ∙ e2) refl (let q = there.end in omega (arith, q)) refl
          (computes v objects fine (8 * i) wa (wa + 8 * i) refl (f1 ∙ e1) (let q = there.end in omega (arith, q)) refl
          (loads_at v objects fine (wa + 8 * i) word refl there refl
          (tail_calls v objects fine (word ∷ wd ∷ []) (cast_proc first)
          (ap (λ o. and_more (Some word) (and_more o (Some []))) f5) (v.stands cast_place _ refl) refl
          (by_either v low A IsHeld still is_solid d ld.normal below x End objects (heap_of s) fine s.waiting word wd
          hx hd
          (ends reading setting l first s exhausts ready head IsHeld still is_solid low objects r some
          (4 * l.tallest + 6) (cast_words_of l d x) (apply (rows_in l) l.tallest d x) is))))))
          (omega arith, omega arith, omega arith, omega arith))))
          (omega arith, omega arith, omega arith, omega arith))))
          (omega arith, omega arith, omega arith, omega arith)

  -- an index outside traps, whatever the proxy's coercion is
  pub outside_reads : under u ≡ Some a → (which i : ℕ) → (which == 2) ≡ false → length ws ≤ i
      → ComesWhere reading setting l s (read_proc (cast first)) (which ∷ wv ∷ i ∷ [])
      (TrapsAt reading setting l s Index) 10 0 0 73
  outside_reads stands which i other outside =
      counted v begun (omega arith) (omega arith)
    where
      v : Walk V
      v = walk reading setting l first s exhausts ready (TrapsAt reading setting l s Index) 0 0

      begun : ReachedIn v (More 10 0 0 73 End)
          (st (around s) 6 (start which i) (read_code (cast first)) [] s.waiting (heap_of s))
      begun =
          at_most v
          (if_false v objects fine which 2 refl refl other
          (found v low A IsHeld still is_solid (More 1 0 0 13 End) objects (heap_of s) fine s.waiting _ (start which i)
          (test_index (take_part 8 element_code)) wv refl ws u a stands hv cell
          (λ wa wc found rests ha cell_is keeps e1 e2 e3 e4 e5.
          index_traps reading setting l first s exhausts ready objects fine found _ _ i (length ws) e2 e4 outside)))
          (omega arith, omega arith, omega arith, omega arith)

-- how many elements a vector has, whatever its proxy is
module _ {V : Type 0} (reading : Halt → Ending V) (setting : Setting) (l : Layout) (first : ℕ) (s : LowState)
    (exhausts : reading (Lacks Region) ≡ Exhausted) (ready : IsReady setting l first) {A : Type 0}
    (IsHeld : List Object → A → ℕ → Type 0) (objects : List Object) (filled : Filled setting l objects (heap_of s))
    (ws : List ℕ) where
  abbrev Tells : LowState → Type 0
  Tells = TellsAt setting l s objects (length ws)

  abbrev q : Walk V
  q = walk reading setting l first s exhausts ready Tells 0 0

  fine_here : Fine setting l (around s) objects (heap_of s)
  fine_here = at_first reading setting l first s exhausts ready objects filled

  told : (wa : ℕ) (locals : Locals) (rests : List Code) → CellStands l objects s.memory wa ws → (head0 : ℕ)
      → (kind : ℕ) → head0 ≡ header kind 0 (length ws) → kind < 256 → locals 4 ≡ Some head0
      → ReachedIn q (More 1 0 0 5 End) (st (around s) 6 locals (Compute Srl 4 (Word 4) (Number 32) (Return
      (Word 4))) rests
      s.waiting (heap_of s))
  told wa locals rests cell head0 kind is few e4 =
      let last : ReachedIn q End (st (around s) 6 (set_local 4 (length ws) locals) (Return (Word 4)) rests s.waiting
      (heap_of s)) =
      arrives q (λ room asked. (
        in_bounds room asked,
        record { fine = fine_here; source = Word 4; code = refl; is = refl; waits = refl; same = refl },
      )) in
      at_most q
      (computes q objects fine_here head0 32 (length ws) e4 refl
      (ap (λ x. compute Srl x 32) is ∙ count_read kind 0 (length ws) (omega (arith, few)) (omega arith)) refl last)
      (omega arith, omega arith, omega arith, omega arith)

  at_header : (wa : ℕ) (cell : CellStands l objects s.memory wa ws)
      → WordThere q (heap_of s) (wa + 0) (header cell.kind 0 (length ws))
  at_header wa cell =
      let z : wa ≡ wa + 0 = omega arith in
      subst (λ m. WordThere q (heap_of s) m (header cell.kind 0 (length ws))) z
      (header_there q objects (heap_of s) fine_here wa (Cell (header cell.kind 0 (length ws)) (length ws)) cell.there)

  pub lengths : (u : Merged A) (wv : ℕ) → CarriedBy l IsHeld objects u wv → (a : A) → under u ≡ Some a
      → ((wa : ℕ) → IsHeld objects a wa → CellStands l objects s.memory wa ws) → (i : ℕ)
      → ComesWhere reading setting l s (read_proc (cast first)) (2 ∷ wv ∷ i ∷ []) Tells 8 0 0 57
  lengths (Base hd x) wv hv a e cell i = none_some e
  lengths (InDyn kept x) wv hv a e cell i = none_some e
  lengths (Solid b) wv hv a e cell i =
      let here = cell wv (subst (λ x. IsHeld objects x wv) (same_some b a e) hv) in
      let z = one_kind here.kind here.one in
      let head0 = header here.kind 0 (length ws) in
      let r : ReachedIn q (More 8 0 0 57 End)
      (st (around s) 6 (bind 0 (2 ∷ wv ∷ i ∷ []) no_locals) (read_code (cast first)) [] s.waiting (heap_of s)) =
      at_most q
      (if_true q objects fine_here 2 2 refl refl refl
      (loads_at q objects fine_here wv head0 refl (at_header wv here) refl
      (computes q objects fine_here head0 kind_mask here.kind refl refl (kind_read here.kind 0 (length ws) z.0) refl
      (if_false q objects fine_here here.kind 2 refl refl z.1
      (ends_branch q objects fine_here (told wv _ _ here head0 here.kind refl z.0 refl))))))
      (omega arith, omega arith, omega arith, omega arith) in counted q r (omega arith) (omega arith)
  lengths (Proxied b c) wv hv a e cell i =
      let here = cell hv.0 (subst (λ x. IsHeld objects x hv.0) (same_some b a e) hv.3) in
      let z = one_kind here.kind here.one in
      let head0 = header here.kind 0 (length ws) in
      let ws2 = hv.0 ∷ hv.1 ∷ [] in
      let r : ReachedIn q (More 8 0 0 57 End)
      (st (around s) 6 (bind 0 (2 ∷ wv ∷ i ∷ []) no_locals) (read_code (cast first)) [] s.waiting (heap_of s)) =
      at_most q
      (if_true q objects fine_here 2 2 refl refl refl
      (loads q objects fine_here wv proxy_header ws2 0 proxy_header refl hv.2 refl refl refl
      (computes q objects fine_here proxy_header kind_mask (number_of Proxy) refl refl proxy_read refl
      (if_true q objects fine_here 2 2 refl refl refl
      (loads q objects fine_here wv proxy_header ws2 1 hv.0 refl hv.2 refl refl refl
      (loads_at q objects fine_here hv.0 head0 refl (at_header hv.0 here) refl
      (ends_branch q objects fine_here (told hv.0 _ _ here head0 here.kind refl z.0 refl))))))))
      (omega arith, omega arith, omega arith, omega arith) in counted q r (omega arith) (omega arith)
