-- What cast does.
use Rattle.std.proofs.Common.{true, false, ◌≡◌, inl, inr, ℕ, zero, suc, ◌+◌, ◌*◌, ◌^◌, ◌<◌, ◌≤◌}
use Rattle.std.proofs.Common.{List, [], ◌∷◌, ◌++◌, Option, Some, None, Bool, refl, ap, ap₂, ◌∙◌, map}
use Rattle.std.proofs.Common.{subst, arith}
use Rattle.std.specs.Prelude.{nat_lt, length}
use Rattle.object_layout.specs.Words.{kind_mask}
use Rattle.rt_cast.specs.States.{Heap, st, Fine, Grows}
use Rattle.grift_base.specs.Types.{TypeRow}
use Rattle.low_ir.specs.Steps.{Locals, no_locals, set_local}
use Rattle.low_ir.specs.declared.code.LowSource.{LowSource}
use Rattle.low_ir.specs.declared.code.LowSource.TheVariants.{Word, Number}
use Rattle.low_ir.specs.Procedures.{Code, Build, Compute, Load, Return, TailCall, Environment}
use Rattle.low_ir.specs.Run.{Active, Waiting, LowState, word_of, and_more, bind}
use Rattle.machine_words.specs.declared.conditions.Cond.TheVariants.{Eq}
use Rattle.coercion_norm.specs.declared.middles.MiddleKind.{MiddleKind as Kind}
use Rattle.coercion_norm.specs.Coercions.{Coercion, Coercions, Id, Fail, Middle, Inject, Project}
use Rattle.coercion_norm.specs.Composition.{coerce_to}
use Rattle.coercion_norm.specs.Composition.{compose_to}
use Rattle.coercion_norm.specs.Heights.{coercion_height, NoHigher, TypeNoHigher}
use Rattle.coercion_norm.specs.Normal.{IsNormal, is_project}
use Rattle.object_layout.proofs.Public.{small_number, free_no_proxy}
use Rattle.coercion_norm.proofs.Public.{compose_height, coerce_height, compose_normal, coerce_normal, bound_from_height}
use Rattle.coercion_norm.proofs.Public.{height_from_bound}
use Rattle.rt_cast.specs.Costs.{compose_cost, cast_cost, cast_words, coerce_price}
use Rattle.rt_cast.specs.Costs.{cast_price}
use Rattle.object_layout.specs.declared.kinds.Kind.TheVariants.{Proxy}
use Rattle.object_layout.specs.Kinds.{kind_number as number_of}
use Rattle.coercion_norm.specs.Objects.{Object, Fixed, header_of}
use Rattle.coercion_norm.specs.Held.{Layout, There, Held}
use Rattle.coercion_norm.specs.ObjectsOfRows.{header, kind_number}
use Rattle.rt_cast.specs.WholeObjects.{IsSolid, WholeProxy}
use Rattle.rt_cast.specs.Procs.{coerce_proc, compose_proc, cast_proc}
use Rattle.low_ir.specs.Codes.{either, blame_code}
use Rattle.rt_cast.proofs.HeaderNumbers.{eq_true, eq_false, eq_cases, kind_read}
use Rattle.rt_cast.proofs.Steps.{Budget, End, Out, Pay, More, return_price, at_most, WordThere, loads}
use Rattle.rt_cast.proofs.Steps.{computes, if_true, if_false, builds, calls, tail_calls, comes_back, header_there}
use Rattle.rt_cast.proofs.Steps.{loads_at, no_true, first_true, second_true}
use Rattle.rt_cast.proofs.Small.{grows_not, grows_on, there_still, not_zero, reads_kind}
use Rattle.rt_cast.proofs.Small.{numbers, ReachedIn}
use Rattle.rt_cast.proofs.Middles.{held_still, held_small, added, one_more}
use Rattle.rt_cast.proofs.ComposeSteps.{type_still, no_middle, part_small}
use Rattle.rt_cast.specs.Carried.{CarriedBy, IsLow}
use Rattle.rt_cast.specs.MergedValues.{Merged, Base, Solid, Proxied, InDyn, Outcome, Stuck, Gives as GivesValue, Blames}
use Rattle.rt_cast.proofs.CastCases.{wrap, rewrap, apply_plain, apply_final, open_dyn, apply}
use Rattle.rt_cast.specs.MergedValues.{then_outcome}
use Rattle.std.specs.Prelude.{◌==◌}
use Rattle.rt_cast.proofs.Walks.{Walk}
use Rattle.coercion_norm.specs.Held.{rows_in, height_in}
use Rattle.rt_cast.specs.CastCodes.{cast_code, cast_kinds, cast_project, project_object, project_small, into_dyn}
use Rattle.rt_cast.specs.ComposeCodes.{cast}
use Rattle.rt_cast.specs.DynWords.{small_dyn, IsDynBy}
use Rattle.rt_cast.proofs.DynWords.{SmallIs, small_is, tag_read, no_tag, untagged, heads_by_kinds}
use Rattle.rt_cast.proofs.IntoDyn.{dyn_still, dyn_small, untagged_there, kind_there, put_into_dyn}
use Rattle.rt_cast.proofs.BaseCasts.{same_base, other_base}
use Rattle.rt_cast.proofs.ComposeSteps.{type_there, type_numbers}
use Rattle.rt_cast.proofs.ComposeRuns.{solid_is, is_plain, plain_solid, plain_composed, before_middle, below_words}
use Rattle.rt_cast.proofs.ComposeRuns.{below_price, steps_are, words_are, price_is}
use Rattle.low_ir.specs.Prices.{source_price}
use Rattle.object_layout.specs.DynWords.{tagged}
use Rattle.low_ir.specs.Operations.{compute}
use Rattle.low_ir.specs.declared.code.WordOp.TheVariants.{And, Sra}
use Rattle.coercion_norm.specs.Composition.{coerce_below, coerce_solid}
use Rattle.coercion_norm.specs.ObjectsOfRows.{type_kind}
use Rattle.coercion_norm.specs.Held.{HoldsType}
use Rattle.grift_base.specs.Types.{parts_of, same_head}
use Rattle.rt_cast.proofs.CoerceRuns.{all_cast, light_cast}
use Rattle.rt_cast.proofs.ComposeSteps.{ComposeDoes, CoerceDoes, id_first, fail_first}
use Rattle.rt_cast.proofs.ComposeRuns.{below_cost}
use Rattle.rt_cast.specs.Costs.{middle_cost, coerce_cost, coerce_words}
use Rattle.rt_cast.specs.LightCasts.{is_simple, ends_simply, has_none, is_light, light_words}
use Rattle.rt_cast.specs.LightCasts.{light_price, cast_words_of, cast_price_of}
use Rattle.coercion_norm.specs.Composition.{coerce_middle}
use Rattle.coercion_norm.specs.Coercions.{kind_of}
use Rattle.std.proofs.Common.{◌⊎◌, sym, cond, nat_eq, not}
use Rattle.std.specs.Prelude.{◌&&◌, ◌||◌, if◌then◌else◌}
use Rattle.grift_base.specs.Types.{IntRow, BoolRow, UnitRow, DynRow, FunRow, TupleRow, RefRow, VectRow, is_dyn}
use Rattle.rt_cast.proofs.Objects.{proxy_header, proxy_read, dyn_header, fail_header, inject_header, project_header}
use Rattle.rt_cast.specs.ComposeCodes.{cast_place, coerce_place, compose_place}

-- a row has its own head
own_head : (row : TypeRow) → same_head row row ≡ true
own_head IntRow = refl
own_head BoolRow = refl
own_head UnitRow = refl
own_head DynRow = refl
own_head (FunRow parameters answer) = eq_true (length parameters) (length parameters) refl
own_head (TupleRow parts) = eq_true (length parts) (length parts) refl
own_head (RefRow content) = refl
own_head (VectRow content) = refl

zero_more : (n : ℕ) → n ≡ n + 0
zero_more n = omega arith

module _ {V : Type 0} (walk : Walk V) (low : walk.l.tallest ≤ 65534) (A : Type 0)
    (IsHeld : List Object → A → ℕ → Type 0)
    (still : (old new : List Object) → Grows old new → (a : A) (w : ℕ) → IsHeld old a w → IsHeld new a w)
    (is_solid : (objects : List Object) (a : A) (w : ℕ) → IsHeld objects a w → IsSolid walk.l objects w) where
  abbrev n : ℕ
  n = walk.l.tallest

  abbrev Reached : Budget → LowState → Type 0
  Reached = ReachedIn walk

  abbrev state : ℕ → Locals → Code → List Code → List Waiting → Heap → LowState
  state = st walk.around

  abbrev R : ℕ → TypeRow
  R = (rows_in walk.l)

  abbrev pub Carried : List Object → Merged A → ℕ → Type 0
  Carried = CarriedBy walk.l IsHeld

  -- no higher than the tallest, said in both ways
  pub no_higher : (c : Coercion) → IsLow walk.l c → NoHigher R c n
  no_higher c h = bound_from_height R (height_in walk.l) walk.types.heights c n h.low

  tall_low : (c : Coercion) → NoHigher R c n → coercion_height (height_in walk.l) c ≤ n
  tall_low c h = height_from_bound R (height_in walk.l) walk.types.heights c n h

  type_tall_low : (type : ℕ) → TypeNoHigher R n type → height_in walk.l type ≤ n
  type_tall_low type h = (walk.types.heights type n).0 h

  pub carried_still : (old new : List Object) → Grows old new → (u : Merged A) (w : ℕ) → Carried old u w → Carried new u
      w
  carried_still old new g (Base head x) w h = h
  carried_still old new g (Solid a) w h = still old new g a w h
  carried_still old new g (Proxied a c) w h = (
    h.0,
    h.1,
    there_still walk.l old new w _ g h.2,
    still old new g a h.0
        h.3,
    held_still walk.l old new g c h.1 h.4,
    h.5,
  )
  carried_still old new g (InDyn kept x) w h =
      (h.0, dyn_still walk.l old new g kept h.0 w h.1, h.2, h.3, carried_still old new g x h.0 h.4)

  solid_small : (objects : List Object) (h : Heap) → Fine walk.setting walk.l walk.around objects h → (a : A) (w : ℕ)
      → IsHeld objects a w → w < 2 ^ 64
  solid_small objects h fine a w x = let s = is_solid objects a w x in let z = (header_there walk objects h fine w
      s.object s.there).end in omega arith

  pub carried_small : (objects : List Object) (h : Heap) → Fine walk.setting walk.l walk.around objects h
      → (u : Merged A)
      (w : ℕ) → Carried objects u w → w < 2 ^ 64
  carried_small objects h fine (Base head x) w c = let e = c.0 in let lt = c.1 in omega arith
  carried_small objects h fine (Solid a) w c = solid_small objects h fine a w c
  carried_small objects h fine (Proxied a d) w c = (not_zero walk objects h fine w _ _ c.2).1
  carried_small objects h fine (InDyn kept x) w c = dyn_small walk objects h fine kept c.0 w c.1

  -- it goes on from each return of a word that carries the value, or from the environment call that blames
  abbrev pub GoesOn : Budget → List Object → List Waiting → Outcome A → Type 0
  GoesOn B objects waiting Stuck = ⊥
  GoesOn B objects waiting (GivesValue u) = (new : List Object) (h : Heap) (w : ℕ) (count : ℕ) (locals : Locals)
      (rests : List Code) (a : LowSource) → Grows objects new → Fine walk.setting walk.l walk.around new h → Carried new
      u w → word_of locals a ≡ Some w → Reached (Pay (return_price count a) B)
      (state count locals (Return a) rests waiting h)
  GoesOn B objects waiting (Blames label) = (new : List Object) (h : Heap) (count : ℕ) (locals : Locals) (rests : List
      Code) (waiting : List Waiting) (a b : LowSource) (d e : ℕ) (rest : Code) → Grows objects new → Fine walk.setting
      walk.l walk.around new h → word_of locals a ≡ Some label → word_of locals b ≡ Some 0 → d < count → e < count
      → Reached End (state count locals (Environment 3 a b d e rest) rests waiting h)

  abbrev pub CastDoes : ℕ → ℕ → ℕ → ℕ → Coercion → Merged A → Outcome A → Type 0
  CastDoes cost above asks price c u r = (B : Budget) (objects : List Object) (h : Heap)
      → Fine walk.setting walk.l walk.around
      objects h → (waiting : List Waiting) (wv wc : ℕ) → Carried objects u wv → Held walk.l objects c wc
      → GoesOn B objects waiting r → Reached (More cost above asks price B) (state 10 (bind 0 (wv ∷ wc ∷ []) no_locals)
      (cast_code walk.first) [] waiting h)

  -- within greater bounds
  casts_more : {cost above asks price cost' above' asks' price' : ℕ} (c : Coercion) (u : Merged A) (r : Outcome A)
      → CastDoes cost above asks price c u r → cost ≤ cost' → above ≤ above' → asks ≤ asks' → price ≤ price'
      → CastDoes cost' above' asks' price' c u r
  casts_more c u r does longer deeper more dearer B objects h fine waiting wv wc hv hc go =
      at_most walk (does B objects h fine waiting wv wc hv hc go)
      (omega (arith, longer), omega (arith, deeper), omega (arith, more), omega (arith, dearer))

  abbrev cast_read : ℕ → ℕ → ℕ → ℕ → Locals
  cast_read wv wc head k = set_local 3 k (set_local 2 head (bind 0 (wv ∷ wc ∷ []) no_locals))

  reads : {B : Budget} → (objects : List Object) (h : Heap) (fine : Fine walk.setting walk.l walk.around objects h)
      (waiting : List Waiting) (wv wc k y m : ℕ) (ws : List ℕ) → There walk.l objects wc (Fixed (header k y m) ws)
      → k < 256 → ((rests : List Code) → Reached B (state 10 (cast_read wv wc (header k y m) k) (cast_kinds walk.first)
      rests
      waiting h)) → Reached (More 3 0 0 22 B) (state 10 (bind 0 (wv ∷ wc ∷ []) no_locals)
      (cast_code walk.first) [] waiting
      h)
  reads objects h fine waiting wv wc k y m ws there lt go =
      reads_kind walk objects h fine waiting [] (bind 0 (wv ∷ wc ∷ []) no_locals) 10 1 2 3 wc k y m ws refl there lt
      refl refl refl refl refl refl go

  abbrev plain_cost : ℕ
  plain_cost = compose_cost walk.l.width n + 25

  abbrev final_cost : ℕ
  final_cost = plain_cost + 24

  abbrev pub whole_cost : ℕ
  whole_cost = cast_cost walk.l.width n

  -- words, and what it costs
  abbrev plain_words : ℕ
  plain_words = below_words walk n + 3

  abbrev final_words : ℕ
  final_words = plain_words + 3

  abbrev pub whole_words : ℕ
  whole_words = cast_words walk.l.width n

  abbrev plain_price : ℕ
  plain_price = 187 + below_price walk n

  abbrev final_price : ℕ
  final_price = 182 + plain_price

  abbrev pub whole_price : ℕ
  whole_price = cast_price walk.l.width n

  -- procedures above
  abbrev plain_above : ℕ
  plain_above = suc (suc (suc (suc (suc (4 * n)))))

  abbrev pub whole_above : ℕ
  whole_above = suc plain_above

  more_plain : (c : Coercion) (u : Merged A) (r : Outcome A)
      → CastDoes plain_cost plain_above plain_words plain_price c u r
      → CastDoes final_cost whole_above final_words final_price c u r
  more_plain c u r does B objects h fine waiting wv wc hv hc go =
      at_most walk (does B objects h fine waiting wv wc hv hc go)
      (omega arith, omega arith, omega arith, omega arith)

  more_final : (c : Coercion) (u : Merged A) (r : Outcome A)
      → CastDoes final_cost whole_above final_words final_price c u r
      → CastDoes whole_cost whole_above whole_words whole_price c u r
  more_final c u r does =
      casts_more c u r does (omega arith) (omega arith) (let z = words_are walk n in omega (arith, z))
      (let z = price_is walk n in omega (arith, z))

  id_at : (u : Merged A) → CastDoes 1 0 0 20 Id u (GivesValue u)
  id_at u B objects h fine waiting wv wc hv hc go =
      at_most walk
      (if_true walk objects fine wc 0 refl refl (eq_true wc 0 hc)
      (go objects h wv 10 _ _ (Word 0) (grows_not objects) fine hv refl))
      (omega arith, omega arith, omega arith, omega arith)

  fail_at : (label : ℕ) (u : Merged A) → CastDoes 5 0 0 39 (Fail label) u (Blames label)
  fail_at label u B objects h fine waiting wv wc hv hc go =
      at_most walk
      (reads objects h fine waiting wv wc 8 0 1 (label ∷ []) hc (omega arith)
      (λ rests. if_true walk objects fine 8 8 refl refl refl
      (loads walk objects fine wc fail_header (label ∷ []) 1 label refl hc refl refl refl
      (go objects h 10 _ _ waiting (Word 4) (Number 0) 4 5 (Return (Number 0)) (grows_not objects) fine refl refl
      (omega arith) (omega arith)))))
      (omega arith, omega arith, omega arith, omega arith)

  by_id : (u : Merged A) → CastDoes plain_cost plain_above plain_words plain_price Id u (GivesValue u)
  by_id u B objects h fine waiting wv wc hv hc go =
      at_most walk (id_at u B objects h fine waiting wv wc hv hc go) (
        omega arith,
        omega arith,
        omega arith,
        omega
            arith,
      )

  by_fail : (label : ℕ) (u : Merged A)
      → CastDoes plain_cost plain_above plain_words plain_price (Fail label) u (Blames label)
  by_fail label u B objects h fine waiting wv wc hv hc go =
      at_most walk (fail_at label u B objects h fine waiting wv wc hv hc go)
      (omega arith, omega arith, omega arith, omega arith)

  -- a proxy is built in this heap
  proxied : {B : Budget} → (a : A) (kind : Kind) (cs : Coercions) → IsNormal R (Middle kind cs) → NoHigher R
      (Middle kind cs) n → (objects now : List Object) → Grows objects now → (h : Heap) (fine : Fine walk.setting walk.l
      walk.around now h) (waiting : List Waiting) (size : ℕ) (locals : Locals) (rests : List Code) (v c : LowSource)
      (wv wc : ℕ) → nat_lt 8 size ≡ true → word_of locals v ≡ Some wv → word_of locals c ≡ Some wc → IsHeld now a wv
      → Held walk.l now (Middle kind cs) wc → GoesOn B objects waiting (GivesValue (Proxied a (Middle kind cs)))
      → Reached (More 1 0 3 (38 + source_price v + source_price c + return_price size (Word 8)) B)
      (state size locals (Build 8 (Number 8589934594 ∷ v ∷ c ∷ []) (Return (Word 8))) rests
      waiting h)
  proxied a kind cs nc lc objects now grows h fine waiting size locals rests v c wv wc lt ev ec hv hc go =
      let o = Fixed 8589934594 (wv ∷ wc ∷ []) in
      let g = one_more walk now o in
      at_most walk
      (builds walk now fine 8589934594 (wv ∷ wc ∷ []) (ap₂ (λ x y. and_more (Some 8589934594)
      (and_more x (and_more y (Some [])))) ev ec) (omega arith) (omega arith) (
        omega arith,
        (
          solid_small now h fine
              a wv hv,
          (held_small walk now h fine (Middle kind cs) wc hc, tt),
        ),
      ) (WholeProxy wv wc kind (coercion_height
      (height_in walk.l) (Middle kind cs)) hc.0 refl (is_solid now a wv hv) hc.1 (tall_low (Middle kind cs) lc)) lt
      (λ h' fine'. go (now ++ o ∷ []) h' h.alloc size _ _ (Word 8)
      (grows_on objects now (now ++ o ∷ []) grows g) fine' (
        wv,
        wc,
        added walk now h fine o,
        still now (now ++ o ∷ []) g a wv hv,
        held_still walk.l now (now ++ o ∷ []) g
            (Middle kind cs) wc hc,
        record { normal = nc; low = tall_low (Middle kind cs) lc },
      ) refl))
      (omega arith, omega arith, omega arith, omega arith)

  by_middle : (kind : Kind) (cs : Coercions) → IsNormal R (Middle kind cs) → NoHigher R (Middle kind cs) n
      → (u : Merged A) → CastDoes plain_cost plain_above plain_words plain_price (Middle kind cs) u (wrap R n kind cs u)
  by_middle kind cs nc lc (Base head x) B objects h fine waiting wv wc hv hc go = absurd go
  by_middle kind cs nc lc (InDyn kept x) B objects h fine waiting wv wc hv hc go = absurd go
  by_middle kind cs nc lc (Solid a) B objects h fine waiting wv wc hv hc go =
      let s = is_solid objects a wv hv in
      let z = header_there walk objects h fine wv s.object s.there in
      at_most walk
      (reads objects h fine waiting wv wc (kind_number kind) (coercion_height (height_in walk.l) (Middle kind cs))
      (length hc.0) hc.0 hc.1 (numbers kind)
      (λ rests. if_false walk objects fine (kind_number kind) 8 refl refl (no_middle kind 8 (inl refl))
      (if_false walk objects fine (kind_number kind) 13 refl refl (no_middle kind 13 (inr (omega arith)))
      (if_false walk objects fine (kind_number kind) 14 refl refl (no_middle kind 14 (inr (omega arith)))
      (loads_at walk objects fine wv (header (number_of s.kind) 0 s.count) refl (subst (λ x. WordThere walk h (wv + 0)
      x)
      s.head (subst (λ m. WordThere walk h m (header_of s.object)) (zero_more wv) z)) refl
      (computes walk objects fine (header (number_of s.kind) 0 s.count) kind_mask (number_of s.kind) refl refl
      (kind_read (number_of s.kind) 0
      s.count (small_number s.kind)) refl
      (if_false walk objects fine (number_of s.kind) 2 refl refl (free_no_proxy s.kind s.free)
      (proxied a kind cs nc lc objects objects (grows_not objects) h fine waiting 10 _ _ (Word 0) (Word 1) wv wc refl
      refl refl hv hc go))))))))
      (omega arith, omega arith, omega arith, omega arith)
  by_middle kind cs nc lc (Proxied a d) B objects h fine waiting wv wc hv hc go = by_second d refl
    where
      wrapped : (e : Coercion) → IsNormal R e → NoHigher R e n → (new : List Object) (grows : Grows objects new)
          (h' : Heap) (fine' : Fine walk.setting walk.l walk.around new h') (w : ℕ) → Held walk.l new e w
          → (rests : List Code) → GoesOn B objects waiting (rewrap a e) → Reached (More 2 0 3 60 B)
          (state 10 (set_local 7 hv.0 (set_local 6 w (set_local 6 hv.1 (set_local 5 2 (set_local 4 proxy_header
          (cast_read wv wc (header (kind_number kind) (coercion_height (height_in walk.l) (Middle kind cs))
          (length hc.0)) (kind_number kind))))))) (either Eq (Word 6) (Number 0) (Return (Word 7))
          (Build 8 (Number 8589934594 ∷ Word 7 ∷ Word 6 ∷ []) (Return (Word 8)))) rests waiting h')
      wrapped Id ne le new grows h' fine' w held rests go =
          at_most walk
          (if_true walk new fine' w 0 refl refl (eq_true w 0 held)
          (go new h' hv.0 10 _ _ (Word 7) grows fine' (still objects new grows a hv.0 hv.3) refl))
          (omega arith, omega arith, omega arith, omega arith)
      wrapped (Fail label) ne le new grows h' fine' w held rests go = absurd go
      wrapped (Middle k es) ne le new grows h' fine' w held rests go =
          let z = not_zero walk new h' fine' w _ _ held.1 in
          at_most walk
          (if_false walk new fine' w 0 refl refl (eq_false w 0 (λ e. omega (arith, z.0)))
          (proxied a k es ne le objects new grows h' fine' waiting 10 _ _ (Word 7) (Word 6) hv.0 w refl refl refl
          (still objects new grows a hv.0 hv.3) held go))
          (omega arith, omega arith, omega arith, omega arith)
      wrapped (Inject g kept) ne le new grows h' fine' w held rests go = absurd go
      wrapped (Project wanted label i) ne le new grows h' fine' w held rests go = absurd go

      composed : is_project d ≡ false → Reached (More plain_cost plain_above plain_words plain_price B)
          (state 10 (bind 0 (wv ∷ wc ∷ []) no_locals) (cast_code walk.first) [] waiting h)
      composed other =
          let does = before_middle walk (all_cast walk) n low d kind cs other hv.5.normal nc (no_higher d hv.5) lc in
          at_most walk
          (reads objects h fine waiting wv wc (kind_number kind) (coercion_height (height_in walk.l) (Middle kind cs))
          (length hc.0) hc.0 hc.1 (numbers kind)
          (λ rests. if_false walk objects fine (kind_number kind) 8 refl refl (no_middle kind 8 (inl refl))
          (if_false walk objects fine (kind_number kind) 13 refl refl (no_middle kind 13 (inr (omega arith)))
          (if_false walk objects fine (kind_number kind) 14 refl refl (no_middle kind 14 (inr (omega arith)))
          (loads walk objects fine wv proxy_header (hv.0 ∷ hv.1 ∷ []) 0 proxy_header refl hv.2 refl refl refl
          (computes walk objects fine proxy_header kind_mask (number_of Proxy) refl refl proxy_read refl
          (if_true walk objects fine 2 2 refl refl refl
          (loads walk objects fine wv proxy_header (hv.0 ∷ hv.1 ∷ []) 2 hv.1 refl hv.2 refl refl refl
          (calls walk objects fine (hv.1 ∷ wc ∷ []) (compose_proc walk.first) refl
          (walk.stands compose_place _ refl) refl
          (does _ objects h fine _ hv.1 wc hv.4 hc
          (λ new h' w count locals rests' b grows fine' held is. comes_back walk new fine' w is refl
          (loads walk new fine' wv proxy_header (hv.0 ∷ hv.1 ∷ []) 1 hv.0 refl
          (there_still walk.l objects new wv _ grows
          hv.2) refl refl refl
          (wrapped (compose_to R n d (Middle kind cs)) (compose_normal R n d (Middle kind cs) hv.5.normal nc)
          (compose_height R n n d (Middle kind cs) (no_higher d hv.5) lc) new grows h' fine' w held _ go)))))))))))))
          ((let z = steps_are walk n in omega (arith, z)), omega arith, omega arith, omega arith)

      -- a Project stays one, and is no coercion of a proxy
      by_second : (e : Coercion) → d ≡ e → Reached (More plain_cost plain_above plain_words plain_price B)
          (state 10 (bind 0 (wv ∷ wc ∷ []) no_locals) (cast_code walk.first) [] waiting h)
      by_second Id e = composed (ap is_project e)
      by_second (Fail label) e = composed (ap is_project e)
      by_second (Middle k es) e = composed (ap is_project e)
      by_second (Inject g kept) e = composed (ap is_project e)
      by_second (Project wanted label i) e =
          absurd (subst (λ x. GoesOn B objects waiting (rewrap a (compose_to R n x (Middle kind cs)))) e go)

  by_plain : (c : Coercion) → IsNormal R c → NoHigher R c n → (u : Merged A)
      → CastDoes plain_cost plain_above plain_words
      plain_price c u (apply_plain R n c u)
  by_plain Id nc lc u = by_id u
  by_plain (Fail label) nc lc u = by_fail label u
  by_plain (Middle kind cs) nc lc u = by_middle kind cs nc lc u
  by_plain (Inject g kept) nc lc u = λ B objects h fine waiting wv wc hv hc go. absurd go
  by_plain (Project wanted label i) nc lc u = λ B objects h fine waiting wv wc hv hc go. absurd go

  -- objects may be added before
  pub rebased : (B : Budget) (objects new : List Object) (waiting : List Waiting) → Grows objects new → (r : Outcome A)
      → GoesOn B objects waiting r → GoesOn B new waiting r
  rebased B objects new waiting g Stuck go = go
  rebased B objects new waiting g (GivesValue u) go = λ later h w count locals rests a g2. go later h w count locals
      rests a (grows_on objects new later g g2)
  rebased B objects new waiting g (Blames label) go = λ later h count locals rests waiting2 a b d e rest g2. go later h
      count locals rests waiting2 a b d e rest (grows_on objects new later g g2)

  -- the caller goes on with the value
  pub after : (B D : Budget) (objects : List Object) (waiting : List Waiting) (rest : Active) (d : ℕ)
      → nat_lt d rest.count
      ≡ true → (r : Outcome A) (k : Merged A → Outcome A) → GoesOn B objects waiting (then_outcome r k)
      → ((u : Merged A) → GoesOn B objects waiting (k u) → (new : List Object) (h : Heap) (w : ℕ) → Grows objects new
      → Fine walk.setting walk.l walk.around new h → Carried new u w
      → Reached D (state rest.count (set_local d w rest.locals) rest.code rest.rests waiting h)) → GoesOn (Out D)
      objects
      (record { rest = rest; answer = d } ∷ waiting) r
  after B D objects waiting rest d lt Stuck k go on = go
  after B D objects waiting rest d lt (Blames label) k go on = go
  after B D objects waiting rest d lt (GivesValue u) k go on = λ new h w count locals rests a grows fine held is.
      comes_back walk new fine w is lt (on u go new h w grows fine held)

  -- into Dyn, by what the cast before it takes
  inject_by : (cost above asks price : ℕ) (g : Coercion) (kept : ℕ) → IsNormal R (Inject g kept)
      → NoHigher R (Inject g kept) n → (u : Merged A) → CastDoes cost above asks price g u (apply_plain R n g u)
      → CastDoes (cost + 24) (suc above) (asks + 3) (182 + price) (Inject g kept) u
      (then_outcome (apply_plain R n g u) (λ y. GivesValue (InDyn kept y)))
  inject_by cost above asks price g kept nc lc u does B objects h fine waiting wv wc hv hc go =
      let y1 = coercion_height (height_in walk.l) (Inject g kept) in
      let ws = hc.0 ∷ hc.1 ∷ [] in
      at_most walk
      (reads objects h fine waiting wv wc 13 y1 2 ws hc.2 (omega arith)
      (λ rests. if_false walk objects fine 13 8 refl refl refl
      (if_true walk objects fine 13 13 refl refl refl
      (loads walk objects fine wc (inject_header y1) ws 1 hc.0 refl hc.2 refl refl refl
      (calls walk objects fine (wv ∷ hc.0 ∷ []) (cast_proc walk.first) refl (walk.stands cast_place _ refl) refl
      (does _ objects h fine _ wv hc.0 hv hc.3
      (after B _ objects waiting _ 9 refl (apply_plain R n g u) (λ y. GivesValue (InDyn kept y)) go
      (λ y go' new h' w grows fine' held.
      loads walk new fine' wc (inject_header y1) ws 2 hc.1 refl
      (there_still walk.l objects new wc _ grows hc.2) refl refl
      refl
      (kind_there walk new h' fine' waiting 10 _ _ into_dyn kept hc.1 (type_still walk objects new hc.1 kept hc.4) refl
      refl
      (λ head. put_into_dyn walk new h' fine' waiting 10 kept hc.1 w (type_still walk objects new hc.1 kept hc.4)
      (type_tall_low kept lc.1) (carried_small new h' fine' y w held) refl refl refl
      (λ new2 h2 w2 locals rests2 grows2 fine2 d l7. go' new2 h2 w2 10 locals rests2 (Word 7)
      (grows_on objects new new2 grows grows2) fine2
      (w, d, type_tall_low kept lc.1, nc.2, carried_still new new2 grows2 y w held) l7)
      _ _ refl refl refl))))))))))
      (omega arith, omega arith, omega arith, omega arith)

  by_inject : (g : Coercion) (kept : ℕ) → IsNormal R (Inject g kept) → NoHigher R (Inject g kept) n → (u : Merged A)
      → CastDoes final_cost whole_above final_words final_price (Inject g kept) u
      (then_outcome (apply_plain R n g u) (λ y. GivesValue (InDyn kept y)))
  by_inject g kept nc lc u =
      inject_by plain_cost plain_above plain_words plain_price g kept nc lc u (by_plain g nc.1 lc.0 u)

  by_final : (c : Coercion) → IsNormal R c → NoHigher R c n → (u : Merged A)
      → CastDoes final_cost whole_above final_words
      final_price c u (apply_final R n c u)
  by_final Id nc lc u = more_plain Id u (GivesValue u) (by_id u)
  by_final (Fail label) nc lc u = more_plain (Fail label) u (Blames label) (by_fail label u)
  by_final (Middle kind cs) nc lc u = more_plain (Middle kind cs) u (wrap R n kind cs u) (by_middle kind cs nc lc u)
  by_final (Inject g kept) nc lc u = by_inject g kept nc lc u
  by_final (Project wanted label i) nc lc u = λ B objects h fine waiting wv wc hv hc go. absurd go

  -- out of Dyn, by what the cast between both types, its composition with what stands behind and the cast by that take
  module _ (cost0 cost1 cost2 above asks0 asks1 asks2 price0 price1 price2 : ℕ) (wanted label : ℕ) (i : Coercion)
      (nc : IsNormal R (Project wanted label i)) (lc : NoHigher R (Project wanted label i) n) (kept : ℕ)
      (x : Merged A) where
    abbrev e1 : Coercion
    e1 = coerce_to R n kept wanted label

    module _ (casts : is_dyn (R kept) ≡ false → TypeNoHigher R n kept
        → CoerceDoes walk cost0 above asks0 price0 kept wanted label e1)
        (composes : is_dyn (R kept) ≡ false → TypeNoHigher R n kept
        → ComposeDoes walk cost1 above asks1 price1 e1 i (compose_to R n e1 i))
        (finals : is_dyn (R kept) ≡ false → TypeNoHigher R n kept
        → CastDoes cost2 (suc above) asks2 price2 (compose_to R n e1 i) x (apply_final R n (compose_to R n e1 i) x))
      where
        opened : CastDoes (cost0 + cost1 + cost2 + 30) (suc above) (asks0 + asks1 + asks2)
            (208 + price0 + price1 + price2) (Project wanted label i) (InDyn kept x)
            (open_dyn R n wanted label i (InDyn kept x))
        opened B objects h fine waiting wv wc hv hc go =
            at_most walk
            (reads objects h fine waiting wv wc 14 y1 3 ws hc.2 (omega arith)
            (λ rests. if_false walk objects fine 14 8 refl refl refl
            (if_false walk objects fine 14 13 refl refl refl
            (if_true walk objects fine 14 14 refl refl refl
            (by_size (small_dyn (R kept) hv.0) refl hv.1 _)))))
            (omega arith, omega arith, omega arith, omega arith)
          where
            y1 : ℕ
            y1 = coercion_height (height_in walk.l) (Project wanted label i)

            ws : List ℕ
            ws = hc.0 ∷ label ∷ hc.1 ∷ []

            L : Locals
            L = cast_read wv wc (project_header y1) 14

            -- what is in an object
            from_object : (o : (wt : ℕ) × There walk.l objects wv (Fixed dyn_header (wt ∷ hv.0 ∷ []))
                × HoldsType walk.l objects wt kept) → (locals : Locals) → locals 0 ≡ Some wv → locals 1 ≡ Some wc
                → (rests : List Code)
                → Reached (More (cost0 + cost1 + cost2 + 18) (suc above) (asks0 + asks1 + asks2)
                (125 + price0 + price1 + price2) B) (state 10 locals (project_object walk.first) rests waiting h)
            from_object o locals l0 l1 rests =
                let lk = (walk.types.heights kept n).1 hv.2 in
                let e2 = compose_to R n e1 i in
                at_most walk
                (loads walk objects fine wv dyn_header (o.0 ∷ hv.0 ∷ []) 1 o.0 l0 o.1 refl refl refl
                (loads walk objects fine wv dyn_header (o.0 ∷ hv.0 ∷ []) 2 hv.0 l0 o.1 refl refl refl
                (loads walk objects fine wc (project_header y1) ws 1 hc.0 l1 hc.2 refl refl refl
                (loads walk objects fine wc (project_header y1) ws 2 label l1 hc.2 refl refl refl
                (calls walk objects fine (o.0 ∷ hc.0 ∷ label ∷ []) (coerce_proc walk.first) refl
                (walk.stands coerce_place _ refl) refl
                (casts hv.3 lk _ objects h fine _ o.0 hc.0 o.2 hc.3
                (part_small walk objects h fine wc (project_header y1) ws hc.2 2 label refl)
                (λ new h' w count locals' rests' b grows fine' held is. comes_back walk new fine' w is refl
                (loads walk new fine' wc (project_header y1) ws 3 hc.1 l1
                (there_still walk.l objects new wc _ grows hc.2)
                refl
                refl refl
                (calls walk new fine' (w ∷ hc.1 ∷ []) (compose_proc walk.first) refl
                (walk.stands compose_place _ refl) refl
                (composes hv.3 lk _ new h' fine' _ w hc.1 held (held_still walk.l objects new grows i hc.1 hc.4)
                (λ new2 h2 w2 count2 locals2 rests2 b2 grows2 fine2 held2 is2. comes_back walk new2 fine2 w2 is2 refl
                (let far2 = grows_on objects new new2 grows grows2 in
                tail_calls walk new2 fine2 (hv.0 ∷ w2 ∷ []) (cast_proc walk.first) refl
                (walk.stands cast_place _ refl) refl
                (finals hv.3 lk _ new2 h2 fine2 waiting hv.0 w2 (carried_still objects new2 far2 x hv.0 hv.4) held2
                (rebased B objects new2 waiting far2 (apply_final R n e2 x) go)))))))))))))) (
                  omega arith,
                  omega arith,
                  omega arith,
                  omega arith,
                )

            -- what stands behind a tag: by whether its kind is that of the wanted type
            from_tag : (small : ℕ) (s : SmallIs (R kept) hv.0 small) → wv ≡ small → (locals : Locals)
                → locals 0 ≡ Some wv → locals 1 ≡ Some wc → locals 4 ≡ Some s.tag → (rests : List Code)
                → Reached (More (cost0 + cost1 + cost2 + 18) (suc above) (asks0 + asks1 + asks2)
                (125 + price0 + price1 + price2) B) (state 10 locals (project_small walk.first) rests waiting h)
            from_tag small s is locals l0 l1 l4 rests =
                at_most walk
                (loads walk objects fine wc (project_header y1) ws 1 hc.0 l1 hc.2 refl refl refl
                (loads walk objects fine hc.0 head (map walk.l.type_at (parts_of (R wanted))) 0 head refl
                (type_there walk objects hc.0 wanted hc.3) refl refl refl
                (computes walk objects fine head kind_mask (type_kind (R wanted)) refl refl
                (kind_read (type_kind (R wanted)) (height_in walk.l wanted) (length (parts_of (R wanted)))
                (type_numbers (R wanted))) refl
                (computes walk objects fine s.tag 15 (s.tag + 15) l4 refl (let f = s.few in omega (arith, f)) refl
                (by_kind (s.tag + 15 == type_kind (R wanted)) refl)))))
                (omega arith, omega arith, omega arith, omega arith)
              where
                head : ℕ
                head = header (type_kind (R wanted)) (height_in walk.l wanted) (length (parts_of (R wanted)))

                full : wv ≡ tagged s.tag hv.0
                full = is ∙ s.is

                heads : same_head (R kept) (R wanted) ≡ (s.tag + 15 == type_kind (R wanted))
                heads =
                    heads_by_kinds (R kept) (R wanted) s.tag s.has ∙ ap (λ k. k == type_kind (R wanted)) s.kind

                solid : e1 ≡ coerce_solid R (coerce_below R n) kept wanted label
                solid = solid_is R n kept wanted label hv.3 nc.0

                M : Locals
                M =
                    set_local 4 (s.tag + 15) (set_local 5 (type_kind (R wanted)) (set_local 5 head (set_local 5 hc.0
                    locals)))

                by_kind : (b : Bool) → (s.tag + 15 == type_kind (R wanted)) ≡ b
                    → Reached (More (cost2 + 4) (suc above) asks2 (price2 + 57) B) (state 10 M (either Eq
                    (Word 4) (Word 5) (
                    Compute Sra 5 (Word 0) (Number 3) (
                    Load 9 (Word 1) 24 (
                    TailCall (cast walk.first) (Word 5 ∷ Word 9 ∷ [])))) (
                    Load 7 (Word 1) 16 (blame_code (Word 7)))) rests waiting h)
                by_kind true same =
                    let is_id : e1 ≡ Id =
                    solid ∙ same_base R (coerce_below R n) kept wanted label s.tag s.has (heads ∙ same) in
                    at_most walk
                    (if_true walk objects fine (s.tag + 15) (type_kind (R wanted)) refl refl same
                    (computes walk objects fine wv 3 hv.0 l0 refl
                    (ap (λ y. compute Sra y 3) full ∙ untagged s.tag hv.0 (let f = s.few in omega
                    (arith, f)) s.narrow) refl
                    (loads walk objects fine wc (project_header y1) ws 3 hc.1 l1 hc.2 refl refl refl
                    (tail_calls walk objects fine (hv.0 ∷ hc.1 ∷ []) (cast_proc walk.first) refl
                    (walk.stands cast_place _ refl) refl
                    (subst (λ c. CastDoes cost2 (suc above) asks2 price2 (compose_to R n c i) x
                    (apply_final R n (compose_to R n c i) x)) is_id (finals hv.3 ((walk.types.heights kept n).1 hv.2))
                    B objects h fine waiting hv.0 hc.1 hv.4 hc.4
                    (subst (λ c. GoesOn B objects waiting (apply_final R n (compose_to R n c i) x)) is_id go))))))
                    (omega arith, omega arith, omega arith, omega arith)
                by_kind false other =
                    let is_fail : e1 ≡ Fail label =
                    solid ∙ other_base R (coerce_below R n) kept wanted label s.tag s.has (heads ∙ other) in
                    at_most walk
                    (if_false walk objects fine (s.tag + 15) (type_kind (R wanted)) refl refl other
                    (loads walk objects fine wc (project_header y1) ws 2 label l1 hc.2 refl refl refl
                    (subst (λ c. GoesOn B objects waiting (apply_final R n (compose_to R n c i) x)) is_fail go
                    objects h 10 _ _ waiting (Word 7) (Number 0) 4 5 (Return (Number 0))
                    (grows_not objects) fine refl refl
                    (omega arith) (omega arith))))
                    (omega arith, omega arith, omega arith, omega arith)

            by_size : (o : Option ℕ) → small_dyn (R kept) hv.0 ≡ o → IsDynBy walk.l objects o kept hv.0 wv
                → (rests : List Code)
                → Reached (More (cost0 + cost1 + cost2 + 22) (suc above) (asks0 + asks1 + asks2)
                (144 + price0 + price1 + price2) B) (state 10 L (cast_project walk.first) rests waiting h)
            by_size (Some small) e d rests =
                let s = small_is (R kept) hv.0 small e in
                let tag_is : compute And wv 7 ≡ s.tag =
                ap (λ y. compute And y 7) (d.0 ∙ s.is) ∙ tag_read s.tag hv.0 (let f = s.few in omega (arith, f)) in
                at_most walk
                (computes walk objects fine wv 7 s.tag refl refl tag_is refl
                (if_false walk objects fine s.tag 0 refl refl (eq_false s.tag 0 (λ z. let p = s.some in omega
                (arith, z, p)))
                (from_tag small s d.0 _ refl refl refl _)))
                (omega arith, omega arith, omega arith, omega arith)
            by_size None e d rests =
                at_most walk
                (computes walk objects fine wv 7 0 refl refl (no_tag wv (untagged_there walk objects h fine wv _ d.1))
                refl
                (if_true walk objects fine 0 0 refl refl refl
                (from_object d _ refl refl _)))
                (omega arith, omega arith, omega arith, omega arith)

  by_project : (wanted label : ℕ) (i : Coercion) → IsNormal R (Project wanted label i)
      → NoHigher R (Project wanted label i) n → (u : Merged A)
      → CastDoes whole_cost whole_above whole_words whole_price (Project wanted label i) u
      (open_dyn R n wanted label i u)
  by_project wanted label i nc lc (Base head x) B objects h fine waiting wv wc hv hc go = absurd go
  by_project wanted label i nc lc (Solid a) B objects h fine waiting wv wc hv hc go = absurd go
  by_project wanted label i nc lc (Proxied a d) B objects h fine waiting wv wc hv hc go = absurd go
  by_project wanted label i nc lc (InDyn kept x) B objects h fine waiting wv wc hv hc go =
      at_most walk
      (opened (coerce_cost walk.l.width n) (middle_cost walk.l.width (below_cost walk n)) final_cost plain_above
      (coerce_words walk.l.width n) (below_words walk n) final_words (coerce_price walk.l.width n) (below_price walk n)
      final_price wanted label i nc lc kept x
      (λ dyn lk B objects h fine waiting wf wt hf ht small go. at_most walk
      (all_cast walk n low kept wanted label lk lc.0 B objects h fine waiting wf wt hf ht small go)
      (omega arith, omega arith, omega arith, omega arith))
      (λ dyn lk B objects h fine waiting wf wt hf ht go. at_most walk
      (plain_composed walk (all_cast walk) n low (coerce_to R n kept wanted label) i
      (ap is_plain (solid_is R n kept wanted label dyn nc.0) ∙ plain_solid R (coerce_below R n) kept wanted label)
      (coerce_normal R n kept wanted label) nc.2 (coerce_height R n n kept wanted label lk lc.0) lc.1
      B objects h fine waiting wf wt hf ht go) (omega arith, omega arith, omega arith, omega arith))
      (λ dyn lk. by_final (compose_to R n (coerce_to R n kept wanted label) i)
      (compose_normal R n (coerce_to R n kept wanted label) i (coerce_normal R n kept wanted label) nc.2)
      (compose_height R n n (coerce_to R n kept wanted label) i (coerce_height R n n kept wanted label lk lc.0) lc.1) x)
      B objects h fine waiting wv wc hv hc go) (
        (let z = steps_are walk n in omega (arith, z)),
        omega arith,
        (let z = words_are walk n in omega (arith, z)),
        (let z = price_is walk n in omega (arith, z)),
      )

  -- whatever a cast comes to, the procedure comes to
  pub by_cast : (c : Coercion) → IsNormal R c → NoHigher R c n → (u : Merged A) → CastDoes whole_cost whole_above
      whole_words whole_price c u (apply R n c u)
  by_cast Id nc lc u = more_final Id u (GivesValue u) (by_final Id nc lc u)
  by_cast (Fail label) nc lc u = more_final (Fail label) u (Blames label) (by_final (Fail label) nc lc u)
  by_cast (Middle kind cs) nc lc u =
      more_final (Middle kind cs) u (wrap R n kind cs u) (by_final (Middle kind cs) nc lc u)
  by_cast (Inject g kept) nc lc u = more_final (Inject g kept) u (then_outcome (apply_plain R n g u) (λ y. GivesValue
      (InDyn kept y))) (by_inject g kept nc lc u)
  by_cast (Project wanted label i) nc lc u = by_project wanted label i nc lc u

  -- ---- light casts

  -- Id and Fail, before Dyn or not
  light_plain : (c : Coercion) → is_simple c ≡ true → (u : Merged A) → CastDoes 5 0 0 39 c u (apply_plain R n c u)
  light_plain Id e u = casts_more Id u (GivesValue u) (id_at u) (omega arith) (omega arith) (omega arith) (omega arith)
  light_plain (Fail label) e u = fail_at label u
  light_plain (Middle kind cs) e u = absurd (no_true e)
  light_plain (Inject g kept) e u = absurd (no_true e)
  light_plain (Project wanted label i) e u = absurd (no_true e)

  light_final : (c : Coercion) → IsNormal R c → NoHigher R c n → ends_simply c ≡ true → (u : Merged A)
      → CastDoes 29 1 3 221 c u (apply_final R n c u)
  light_final Id nc lc e u =
      casts_more Id u (GivesValue u) (id_at u) (omega arith) (omega arith) (omega arith) (omega arith)
  light_final (Fail label) nc lc e u =
      casts_more (Fail label) u (Blames label) (fail_at label u) (omega arith) (omega arith) (omega arith) (omega arith)
  light_final (Middle kind cs) nc lc e u = absurd (no_true e)
  light_final (Inject g kept) nc lc e u = inject_by 5 0 0 39 g kept nc lc u (light_plain g e u)
  light_final (Project wanted label i) nc lc e u = absurd (no_true e)

  -- a type with its own head
  same_head_as : (kept wanted : ℕ) → nat_eq kept wanted ≡ true → same_head (R kept) (R wanted) ≡ true
  same_head_as kept wanted e = by (eq_cases kept wanted)
    where
      by : (kept ≡ wanted) ⊎ ((kept == wanted) ≡ false) → same_head (R kept) (R wanted) ≡ true
      by (inl same) = subst (λ t. same_head (R kept) (R t) ≡ true) same (own_head (R kept))
      by (inr other) = absurd (no_true (sym other ∙ e))

  light_opened : (wanted label : ℕ) (i : Coercion) → IsNormal R (Project wanted label i)
      → NoHigher R (Project wanted label i) n → (kept : ℕ) (x : Merged A)
      → (not (same_head (R kept) (R wanted)) || (has_none (kind_of (R kept)) && ends_simply i)) ≡ true
      → CastDoes 77 1 5 620 (Project wanted label i) (InDyn kept x) (open_dyn R n wanted label i (InDyn kept x))
  light_opened wanted label i nc lc kept x light =
      opened 13 5 29 0 2 0 3 135 56 221 wanted label i nc lc kept x
      (λ dyn lk. light_cast walk n kept wanted label dyn nc.0
      (no_middle_there (same_head (R kept) (R wanted)) (kind_of (R kept)) light))
      (λ dyn lk. composed (simple dyn)) (λ dyn lk. ended (simple dyn))
    where
      no_middle_there : (b : Bool) (o : Option Kind) → (not b || (has_none o && ends_simply i)) ≡ true
          → (not b || has_none o) ≡ true
      no_middle_there true o e = first_true (has_none o) (ends_simply i) e
      no_middle_there false o e = refl

      -- the cast between the types is Id, with nothing but what ends simply behind it, or a Fail
      IsSimple : Coercion → Type 0
      IsSimple c = ((c ≡ Id) × (ends_simply i ≡ true)) ⊎ (c ≡ Fail label)

      simple : is_dyn (R kept) ≡ false → IsSimple (coerce_to R n kept wanted label)
      simple dyn =
          subst IsSimple (sym (solid_is R n kept wanted label dyn nc.0))
          (by (nat_eq kept wanted) (same_head (R kept) (R wanted)) (kind_of (R kept)) (same_head_as kept wanted) light)
        where
          by : (b c : Bool) (o : Option Kind) → (b ≡ true → c ≡ true)
              → (not c || (has_none o && ends_simply i)) ≡ true
              → IsSimple (cond b Id (cond c (coerce_middle R (coerce_below R n) o kept wanted label) (Fail label)))
          by true true o f e = inl (refl, second_true (has_none o) (ends_simply i) e)
          by true false o f e = absurd (no_true (f refl))
          by false false o f e = inr refl
          by false true None f e = inl (refl, e)
          by false true (Some kind) f e = absurd (no_true e)

      composed : IsSimple (coerce_to R n kept wanted label)
          → ComposeDoes walk 5 0 0 56 (coerce_to R n kept wanted label) i
          (compose_to R n (coerce_to R n kept wanted label) i)
      composed (inl e) =
          subst (λ c. ComposeDoes walk 5 0 0 56 c i (compose_to R n c i)) (sym e.0)
          (λ B objects h fine waiting wc wd hc hd go. at_most walk
          (id_first walk i B objects h fine waiting wc wd hc hd go) (
            omega arith,
            omega arith,
            omega arith,
            omega
                arith,
          ))
      composed (inr e) =
          subst (λ c. ComposeDoes walk 5 0 0 56 c i (compose_to R n c i)) (sym e) (fail_first walk label i)

      ended : IsSimple (coerce_to R n kept wanted label)
          → CastDoes 29 1 3 221 (compose_to R n (coerce_to R n kept wanted label) i) x
          (apply_final R n (compose_to R n (coerce_to R n kept wanted label) i) x)
      ended (inl e) =
          subst (λ c. CastDoes 29 1 3 221 (compose_to R n c i) x (apply_final R n (compose_to R n c i) x)) (sym e.0)
          (light_final i nc.2 lc.1 e.1 x)
      ended (inr e) =
          subst (λ c. CastDoes 29 1 3 221 (compose_to R n c i) x (apply_final R n (compose_to R n c i) x)) (sym e)
          (light_final (Fail label) tt tt refl x)

  -- whatever a light cast comes to, the procedure comes to
  pub by_light : (c : Coercion) → IsNormal R c → NoHigher R c n → (u : Merged A) → is_light R c u ≡ true
      → CastDoes 77 1 (light_words c) (light_price c) c u (apply R n c u)
  by_light Id nc lc u e =
      casts_more Id u (GivesValue u) (id_at u) (omega arith) (omega arith) (omega arith) (omega arith)
  by_light (Fail label) nc lc u e =
      casts_more (Fail label) u (Blames label) (fail_at label u) (omega arith) (omega arith) (omega arith) (omega arith)
  by_light (Middle kind cs) nc lc u e = absurd (no_true e)
  by_light (Inject g kept) nc lc u e =
      casts_more (Inject g kept) u (apply R n (Inject g kept) u) (light_final (Inject g kept) nc lc e u) (omega arith)
      (omega arith) (omega arith) (omega arith)
  by_light (Project wanted label i) nc lc (Base head x) e = absurd (no_true e)
  by_light (Project wanted label i) nc lc (Solid a) e = absurd (no_true e)
  by_light (Project wanted label i) nc lc (Proxied a d) e = absurd (no_true e)
  by_light (Project wanted label i) nc lc (InDyn kept x) e = light_opened wanted label i nc lc kept x e

  -- the same of any cast, by whether it is light
  pub by_either : (c : Coercion) → IsNormal R c → NoHigher R c n → (u : Merged A)
      → CastDoes whole_cost whole_above (cast_words_of walk.l c u) (cast_price_of walk.l c u) c u (apply R n c u)
  by_either c nc lc u = by (is_light R c u) refl
    where
      by : (b : Bool) → is_light R c u ≡ b
          → CastDoes whole_cost whole_above (if b then light_words c else cast_words walk.l.width n)
          (if b then light_price c else cast_price walk.l.width n) c u (apply R n c u)
      by true e =
          casts_more c u (apply R n c u) (by_light c nc lc u e) (let z = steps_are walk n in omega (arith, z))
          (omega arith) (omega arith)
          (omega arith)
      by false e = by_cast c nc lc u

-- a light cast asks for no more than any cast may, and costs no more
light_low : (c : Coercion) → (light_words c ≤ 5) × (light_price c ≤ 620)
light_low Id = (omega arith, omega arith)
light_low (Fail label) = (omega arith, omega arith)
light_low (Middle kind cs) = (omega arith, omega arith)
light_low (Inject g kept) = (omega arith, omega arith)
light_low (Project wanted label i) = (omega arith, omega arith)

cast_words_some : (w n : ℕ) → 5 ≤ cast_words w n
cast_words_some w zero = omega arith
cast_words_some w (suc m) = omega arith

cast_price_some : (w n : ℕ) → 620 ≤ cast_price w n
cast_price_some w zero = omega arith
cast_price_some w (suc m) = omega arith

light_or : (b : Bool) (light heavy : ℕ) → light ≤ heavy → (if b then light else heavy) ≤ heavy
light_or true light heavy le = le
light_or false light heavy le = omega arith

pub words_within : {A : Type 0} (l : Layout) (c : Coercion) (u : Merged A)
    → cast_words_of l c u ≤ cast_words l.width l.tallest
words_within l c u =
    let a = (light_low c).0 in
    let b = cast_words_some l.width l.tallest in
    light_or (is_light (rows_in l) c u) (light_words c) (cast_words l.width l.tallest) (omega (arith, a, b))

pub price_within : {A : Type 0} (l : Layout) (c : Coercion) (u : Merged A)
    → cast_price_of l c u ≤ cast_price l.width l.tallest
price_within l c u =
    let a = (light_low c).1 in
    let b = cast_price_some l.width l.tallest in
    light_or (is_light (rows_in l) c u) (light_price c) (cast_price l.width l.tallest) (omega (arith, a, b))
