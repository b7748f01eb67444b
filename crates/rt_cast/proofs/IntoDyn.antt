-- What the code does that puts a value into Dyn; and words in Dyn as objects are added.
use Rattle.std.proofs.Common.{◌≡◌, ℕ, ◌+◌, ◌%◌, ◌^◌, ◌<◌, ◌≤◌, Bool, true, false, List, [], ◌∷◌, ◌++◌, Option, Some}
use Rattle.std.proofs.Common.{None}
use Rattle.std.proofs.Common.{inl, inr, refl, sym, ap, ap₂, ◌∙◌, subst, map, length, arith}
use Rattle.std.specs.Prelude.{nat_lt, if◌then◌else◌}
use Rattle.grift_base.specs.Types.{TypeRow, parts_of}
use Rattle.low_ir.specs.Operations.{compute}
use Rattle.low_ir.specs.Procedures.{Code, Return}
use Rattle.low_ir.specs.declared.code.LowSource.TheVariants.{Word}
use Rattle.low_ir.specs.declared.code.WordOp.TheVariants.{Sll, Sra}
use Rattle.low_ir.specs.Steps.{Locals, set_local}
use Rattle.low_ir.specs.Run.{Waiting, LowState, and_more}
use Rattle.coercion_norm.specs.Objects.{Object, Fixed}
use Rattle.coercion_norm.specs.Held.{Layout, There, HoldsType, rows_in, height_in}
use Rattle.coercion_norm.specs.ObjectsOfRows.{header, type_kind}
use Rattle.coercion_norm.proofs.Public.{found_within}
use Rattle.object_layout.specs.DynWords.{is_narrow, tagged}
use Rattle.object_layout.specs.Words.{kind_mask}
use Rattle.rt_cast.specs.CastCodes.{dyn_object, dyn_base, into_dyn, read_kind}
use Rattle.rt_cast.specs.DynWords.{tag_of, behind_tag, small_dyn, IsDynBy, IsDyn}
use Rattle.rt_cast.specs.States.{Grows, Heap, Fine, st}
use Rattle.rt_cast.specs.WholeObjects.{WholeDyn}
use Rattle.rt_cast.proofs.DynWords.{narrow_back, wide_differs, TagSight, HasTag, HasNone, tag_sight, small_fits}
use Rattle.rt_cast.proofs.HeaderNumbers.{eq_true, lt_true, kind_read}
use Rattle.rt_cast.proofs.Walks.{Walk}
use Rattle.low_ir.specs.Prices.{leaving}
use Rattle.rt_cast.proofs.Steps.{Budget, Pay, More, return_price, at_most, loads, computes, if_true, if_false, builds}
use Rattle.rt_cast.proofs.Small.{ReachedIn, grows_not, there_still, not_zero}
use Rattle.rt_cast.proofs.Middles.{added, one_more}
use Rattle.rt_cast.proofs.ComposeSteps.{type_there, type_small, type_still, type_numbers}

-- a word in Dyn stays one where objects are added
pub dyn_still : (l : Layout) (old new : List Object) → Grows old new → (kept x w : ℕ) → IsDyn l old kept x w
    → IsDyn l new kept x w
dyn_still l old new g kept x w h = by (small_dyn (rows_in l kept) x) h
  where
    by : (o : Option ℕ) → IsDynBy l old o kept x w → IsDynBy l new o kept x w
    by (Some small) h = h
    by None h = (h.0, there_still l old new w _ g h.1, record { known = h.2.known; is = h.2.is })

module _ {V : Type 0} (walk : Walk V) where
  abbrev state : ℕ → Locals → Code → List Code → List Waiting → Heap → LowState
  state = st walk.around

  abbrev R : ℕ → TypeRow
  R = rows_in walk.l

  pub dyn_small : (objects : List Object) (h : Heap) → Fine walk.setting walk.l walk.around objects h
      → (kept x w : ℕ) → IsDyn walk.l objects kept x w → w < 2 ^ 64
  dyn_small objects h fine kept x w d = by (small_dyn (R kept) x) refl d
    where
      by : (o : Option ℕ) → small_dyn (R kept) x ≡ o → IsDynBy walk.l objects o kept x w → w < 2 ^ 64
      by (Some small) e is = subst (λ n. n < 2 ^ 64) (sym is.0) (small_fits (R kept) x small e)
      by None e there = (not_zero walk objects h fine w _ _ there.1).1

  -- an address of objects has no tag
  pub untagged_there : (objects : List Object) (h : Heap) → Fine walk.setting walk.l walk.around objects h
      → (at : ℕ) (o : Object) → There walk.l objects at o → at % 8 ≡ 0
  untagged_there objects h fine at o (inl e) =
      (found_within walk.l.statics walk.l.first at o e).even walk.placed.even_first
  untagged_there objects h fine at o (inr e) =
      (found_within objects walk.l.region at o e).even walk.placed.even_region

  -- the kind of the type whose address is in word 8
  pub kind_there : {B : Budget} (objects : List Object) (h : Heap)
      (fine : Fine walk.setting walk.l walk.around objects h) (waiting : List Waiting) (count : ℕ) (locals : Locals)
      (rests : List Code) (rest : Code) (kept wt : ℕ) → HoldsType walk.l objects wt kept → nat_lt 6 count ≡ true
      → locals 8 ≡ Some wt
      → ((head : ℕ) → ReachedIn walk B (state count (set_local 6 (type_kind (R kept)) (set_local 6 head locals)) rest
      rests waiting h))
      → ReachedIn walk (More 2 0 0 8 B) (state count locals (read_kind rest) rests waiting h)
  kind_there objects h fine waiting count locals rests rest kept wt held lt6 l8 go =
      let head =
      header (type_kind (R kept)) (height_in walk.l kept) (length (parts_of (R kept))) in
      at_most walk
      (loads walk objects fine wt head (map walk.l.type_at (parts_of (R kept))) 0 head l8
      (type_there walk objects wt kept held) refl refl lt6
      (computes walk objects fine head kind_mask (type_kind (R kept)) refl refl
      (kind_read (type_kind (R kept)) (height_in walk.l kept) (length (parts_of (R kept))) (type_numbers (R kept)))
      lt6 (go head)))
      (omega arith, omega arith, omega arith, omega arith)

  -- the value in word 9 goes into Dyn, with the type in word 8
  module _ {B : Budget} (objects : List Object) (h : Heap) (fine : Fine walk.setting walk.l walk.around objects h)
      (waiting : List Waiting) (count : ℕ) (kept wt x : ℕ) (held : HoldsType walk.l objects wt kept)
      (lower : height_in walk.l kept ≤ walk.l.tallest)
      (fits : x < 2 ^ 64) (lt7 : nat_lt 7 count ≡ true) (lt6 : nat_lt 6 count ≡ true) (lt5 : nat_lt 5 count ≡ true)
      (go : (new : List Object) (h' : Heap) (w : ℕ) (locals : Locals) (rests : List Code) → Grows objects new
      → Fine walk.setting walk.l walk.around new h' → IsDyn walk.l new kept x w → locals 7 ≡ Some w
      → ReachedIn walk (Pay (return_price count (Word 7)) B) (state count locals (Return (Word 7)) rests waiting h'))
    where
      as_object : (locals : Locals) (rests : List Code) → locals 8 ≡ Some wt → locals 9 ≡ Some x
          → small_dyn (R kept) x ≡ None → ReachedIn walk (More 1 0 3 (43 + leaving count) B)
          (state count locals dyn_object rests waiting h)
      as_object locals rests l8 l9 none =
          let o = Fixed 8589934595 (wt ∷ x ∷ []) in
          let grown = one_more walk objects o in
          at_most walk
          (builds walk objects fine 8589934595 (wt ∷ x ∷ [])
          (ap₂ (λ a b. and_more (Some 8589934595) (and_more a (and_more b (Some [])))) l8 l9) (omega arith)
          (omega arith) (omega arith, (type_small walk objects h fine wt kept held, (fits, tt)))
          (WholeDyn wt x kept refl held lower) lt7
          (λ h' fine'. go (objects ++ o ∷ []) h' h.alloc _ _ grown fine'
          (subst (λ s. IsDynBy walk.l (objects ++ o ∷ []) s kept x h.alloc) (sym none)
          (wt, added walk objects h fine o, type_still walk objects (objects ++ o ∷ []) wt kept held)) refl))
          (omega arith, omega arith, omega arith, omega arith)

      -- where the type has a tag, by whether the value is narrow
      as_base : (tag : ℕ) → tag_of (R kept) ≡ Some tag → 0 < tag → tag < 4 → (b : Bool) → is_narrow x ≡ b
          → (locals : Locals) (rests : List Code) → locals 6 ≡ Some (tag + 15) → locals 8 ≡ Some wt
          → locals 9 ≡ Some x → ReachedIn walk (More 6 0 3 (66 + leaving count) B)
          (state count locals dyn_base rests waiting h)
      as_base tag has some few true narrow locals rests l6 l8 l9 =
          at_most walk
          (computes walk objects fine x 3 (compute Sll x 3) l9 refl refl lt7
          (computes walk objects fine (compute Sll x 3) 3 x refl refl (narrow_back x narrow) lt5
          (if_true walk objects fine x x refl l9 (eq_true x x refl)
          (computes walk objects fine (tag + 15) 15 tag l6 refl (omega (arith, few)) lt6
          (computes walk objects fine (compute Sll x 3) tag (tagged tag x) refl refl (omega (arith, few)) lt7
          (go objects h (tagged tag x) _ _ (grows_not objects) fine
          (subst (λ s. IsDynBy walk.l objects s kept x (tagged tag x))
          (sym (ap (λ o. behind_tag o x) has ∙ ap (λ b. if b then Some (tagged tag x) else None) narrow))
          (refl, held.known)) refl))))))
          (omega arith, omega arith, omega arith, omega arith)
      as_base tag has some few false wide locals rests l6 l8 l9 =
          at_most walk
          (computes walk objects fine x 3 (compute Sll x 3) l9 refl refl lt7
          (computes walk objects fine (compute Sll x 3) 3 (compute Sra (compute Sll x 3) 3) refl refl refl lt5
          (if_false walk objects fine (compute Sra (compute Sll x 3) 3) x refl l9 (wide_differs x wide fits)
          (as_object _ _ l8 l9
          (ap (λ o. behind_tag o x) has ∙ ap (λ b. if b then Some (tagged tag x) else None) wide)))))
          (omega arith, omega arith, omega arith, omega arith)

      pub put_into_dyn : (locals : Locals) (rests : List Code) → locals 6 ≡ Some (type_kind (R kept))
          → locals 8 ≡ Some wt → locals 9 ≡ Some x
          → ReachedIn walk (More 7 0 3 (80 + leaving count) B) (state count locals into_dyn rests waiting h)
      put_into_dyn locals rests l6 l8 l9 = by (tag_sight (R kept))
        where
          by : TagSight (R kept) → ReachedIn walk (More 7 0 3 (80 + leaving count) B)
              (state count locals into_dyn rests waiting h)
          by (HasTag tag has kind some few) =
              at_most walk
              (if_true walk objects fine (type_kind (R kept)) 19 l6 refl
              (lt_true (type_kind (R kept)) 19 (omega (arith, kind, few)))
              (as_base tag has some few (is_narrow x) refl locals _ (l6 ∙ ap Some kind) l8 l9))
              (omega arith, omega arith, omega arith, omega arith)
          by (HasNone none plain) =
              at_most walk
              (if_false walk objects fine (type_kind (R kept)) 19 l6 refl plain
              (as_object locals _ l8 l9 (ap (λ o. behind_tag o x) none)))
              (omega arith, omega arith, omega arith, omega arith)
