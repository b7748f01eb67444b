-- What coerce does.
use Rattle.std.proofs.Common.{◌≡◌, ◌⊎◌, inl, inr, ℕ, zero, suc, ◌+◌, ◌*◌, ◌^◌, ◌%◌, ◌<◌, ◌≤◌, Bool, true}
use Rattle.std.proofs.Common.{false, cond, List, [], ◌∷◌, ◌++◌, map, Some, None, refl, sym, ap, ap₂, ◌∙◌}
use Rattle.std.proofs.Common.{subst, arith, length-append, eq-eqb, nat_eq}
use Rattle.std.specs.Prelude.{◌==◌, ◌&&◌, slice_get, length, max, All}
use Rattle.std.specs.Prelude.{slice_index}
use Rattle.object_layout.specs.Words.{kind_mask}
use Rattle.rt_cast.specs.States.{Heap, st, Fine}
use Rattle.grift_base.specs.Types.{TypeRow, IntRow, BoolRow, UnitRow, DynRow, FunRow, TupleRow, RefRow, VectRow}
use Rattle.grift_base.specs.Types.{is_dyn, parts_of, same_head}
use Rattle.low_ir.specs.Operations.{compute}
use Rattle.low_ir.specs.declared.code.WordOp.TheVariants.{Sll, Sub}
use Rattle.low_ir.specs.Steps.{Locals, no_locals, set_local}
use Rattle.low_ir.specs.declared.code.LowSource.{LowSource}
use Rattle.low_ir.specs.declared.code.LowSource.TheVariants.{Word, Number}
use Rattle.low_ir.specs.Procedures.{Code, TailCall}
use Rattle.low_ir.specs.Run.{Waiting, LowState, and_more, bind}
use Rattle.machine_words.specs.declared.conditions.Cond.TheVariants.{Eq}
use Rattle.coercion_norm.specs.declared.middles.MiddleKind.{MiddleKind as Kind}
use Rattle.coercion_norm.specs.declared.middles.MiddleKind.TheVariants.{Fun as FunKind, Tup as TupKind}
use Rattle.coercion_norm.specs.declared.middles.MiddleKind.TheVariants.{Ref as RefKind, Vec as VecKind}
use Rattle.coercion_norm.specs.Coercions.{Coercion, Id, Fail, Inject, Project}
use Rattle.coercion_norm.specs.Coercions.{CoercionThen, runs_back, kind_of, slots_of, slot}
use Rattle.coercion_norm.specs.Coercions.{slots}
use Rattle.coercion_norm.specs.Composition.{middle, coerce_solid, coerce_below, coerce_to, coerce_by}
use Rattle.coercion_norm.specs.Composition.{coerce_part as coercion_part, coerce_parts}
use Rattle.coercion_norm.specs.Composition.{coerce_middle}
use Rattle.coercion_norm.specs.Heights.{coercion_height, NoHigher, TypeNoHigher}
use Rattle.coercion_norm.proofs.Public.{coerce_height}
use Rattle.coercion_norm.proofs.Public.{height_from_bound, slot_lower}
use Rattle.rt_cast.specs.LightCasts.{has_none, has_no_middle}
use Rattle.std.specs.Prelude.{◌||◌, not}
use Rattle.rt_cast.specs.Costs.{parts_cost, coerce_cost, middle_words, coerce_words, middle_price, coerce_price}
use Rattle.coercion_norm.specs.Objects.{Object, Fixed}
use Rattle.coercion_norm.specs.Held.{HasWidth, There, Held, HoldsType}
use Rattle.coercion_norm.specs.ObjectsOfRows.{header, kind_number, type_kind}
use Rattle.coercion_norm.specs.Held.{rows_in, height_in}
use Rattle.rt_cast.specs.WholeObjects.{IdWord, WholeFail, WholeInject, WholeProject}
use Rattle.rt_cast.specs.Procs.{middle_proc}
use Rattle.rt_cast.specs.PartCodes.{middle_code, part_code, each_word, first_word}
use Rattle.low_ir.specs.Codes.{either, proc}
use Rattle.rt_cast.specs.ComposeCodes.{raise}
use Rattle.rt_cast.specs.ComposeCodes.{coerce, coerce_part, coerce_of}
use Rattle.rt_cast.specs.CoerceCodes.{coerce_code, coerce_heads, coerce_kinds, coerce_alike, coerce_fail}
use Rattle.rt_cast.proofs.Objects.{chosen_true}
use Rattle.rt_cast.proofs.HeaderNumbers.{eq_true, eq_false, eq_cases, lt_true, lt_false, kind_read}
use Rattle.rt_cast.proofs.HeaderNumbers.{count_read, header_made, header_small}
use Rattle.rt_cast.proofs.Steps.{Budget, Pay, One, More, at_most, loads}
use Rattle.rt_cast.proofs.Steps.{computes, if_true, if_false, builds, calls, tail_calls, comes_back}
use Rattle.rt_cast.proofs.Small.{grows_not, raised}
use Rattle.rt_cast.proofs.Small.{numbers, ReachedIn}
use Rattle.rt_cast.proofs.Middles.{few_parts, list_of, Answers, added, one_more}
use Rattle.rt_cast.proofs.Middles.{middle_made}
use Rattle.std.proofs.lemmas.List.Elements.{All-get_or}
use Rattle.coercion_norm.specs.StandsFor.{is_none_left}
use Rattle.rt_cast.proofs.ComposeSteps.{type_numbers, in_order, picks, part_runs, type_there, type_tall}
use Rattle.rt_cast.proofs.ComposeSteps.{type_small, type_still, parts_less, words_less, price_less, CoerceDoes}
use Rattle.rt_cast.proofs.ComposeRuns.{AllCasts}
use Rattle.rt_cast.proofs.Walks.{Walk}
use Rattle.rt_cast.proofs.Objects.{inject_header, project_header}
use Rattle.rt_cast.specs.ComposeCodes.{coerce_middle_place, coerce_part_place, coerce_place, pair_place, raise_place}
use Rattle.rt_cast.specs.Procs.{coerce_proc, raise_proc}
use Rattle.rt_cast.proofs.PartCodeLemmas.{coerce_middle_there}

long_fun : (ps qs : List ℕ) (a b : ℕ) → nat_eq (length ps) (length qs) ≡ (length (ps ++ a ∷ []) == length
    (qs ++ b ∷ []))
long_fun ps qs a b = let x = length-append ps (a ∷ []) in let y = length-append qs (b ∷ []) in grind (arith, x, y)

-- the same head: the same kind and as many parts
heads_are : (row other : TypeRow) → same_head row other ≡ ((type_kind row == type_kind other) && (length (parts_of row)
    == length (parts_of other)))
heads_are IntRow IntRow = refl
heads_are IntRow _ = refl
heads_are BoolRow BoolRow = refl
heads_are BoolRow _ = refl
heads_are UnitRow UnitRow = refl
heads_are UnitRow _ = refl
heads_are DynRow DynRow = refl
heads_are DynRow _ = refl
heads_are (FunRow ps a) (FunRow qs b) = long_fun ps qs a b
heads_are (FunRow ps a) _ = refl
heads_are (TupleRow ps) (TupleRow qs) = refl
heads_are (TupleRow ps) _ = refl
heads_are (RefRow c) (RefRow d) = refl
heads_are (RefRow c) _ = refl
heads_are (VectRow c) (VectRow d) = refl
heads_are (VectRow c) _ = refl

dyn_is : (row : TypeRow) → (type_kind row == 19) ≡ is_dyn row
dyn_is DynRow = refl
dyn_is _ = refl

all_at_place : (P : ℕ → Type 0) (xs : List ℕ) → All P xs → (k : ℕ) → k < length xs → P (slice_index xs k)
all_at_place P xs h k lt = All-get_or P xs k 0 lt h

map_got : (f : ℕ → ℕ) (xs : List ℕ) (k : ℕ) → k < length xs → slice_get (map f xs) k ≡ Some (f (slice_index xs k))
map_got f [] k lt = absurd (omega arith)
map_got f (x ∷ xs) zero lt = refl
map_got f (x ∷ xs) (suc k) lt = map_got f xs k (omega arith)

none_left : (j k r total : ℕ) → total ≡ k + suc r → is_none_left r ≡ (suc k == total)
none_left j k zero total e = grind (arith, e)
none_left j k (suc r) total e = grind (arith, e)

no_same : {A : Type 0} {B : Type 0} {a : A} → None ≡ Some a → B
no_same {a = a} e = absurd (clash e)
  where
    clash : None ≡ Some a → ⊥
    clash h = cc

low_kind : (kind : Kind) → 9 ≤ kind_number kind
low_kind FunKind = omega arith
low_kind TupKind = omega arith
low_kind RefKind = omega arith
low_kind VecKind = omega arith

less_back : (k : ℕ) → compute Sub (k + 11) 11 ≡ k % 2 ^ 64
less_back k = omega arith

-- a row without parts, or one that has middles
pub data Sort (row : TypeRow) : Type 0 where
  Plain : kind_of row ≡ None → type_kind row < 20 → Sort row
  Wide : (kind : Kind) → kind_of row ≡ Some kind → type_kind row ≡ kind_number kind + 11 → kind_number kind < 11
      → slots_of row ≡ parts_of row → Sort row
  Twice : (kind : Kind) → kind_of row ≡ Some kind → type_kind row ≡ kind_number kind + 11 → 11 ≤ kind_number kind
      → (c : ℕ) → parts_of row ≡ c ∷ [] → slots_of row ≡ c ∷ c ∷ [] → Sort row

sort : (row : TypeRow) → Sort row
sort IntRow = Plain refl (omega arith)
sort BoolRow = Plain refl (omega arith)
sort UnitRow = Plain refl (omega arith)
sort DynRow = Plain refl (omega arith)
sort (FunRow ps a) = Wide FunKind refl refl (omega arith) refl
sort (TupleRow ps) = Wide TupKind refl refl (omega arith) refl
sort (RefRow c) = Twice RefKind refl refl (omega arith) c refl refl
sort (VectRow c) = Twice VecKind refl refl (omega arith) c refl refl

cast_list : (rows : ℕ → TypeRow) (next : ℕ → ℕ → ℕ → Coercion) (kind : Kind) (from to label total r k : ℕ) → total ≡ k +
    r → list_of (λ k. coercion_part rows next (runs_back kind (suc k == total)) (slot rows k from) (slot rows k to)
    label) r k ≡ coerce_parts rows next kind from to label r k
cast_list rows next kind from to label total zero k e = refl
cast_list rows next kind from to label total (suc r) k e =
    ap₂ CoercionThen (ap (λ b. coercion_part rows next (runs_back kind b) (slot rows k from) (slot rows k to) label)
    (sym (none_left 0 k r total e))) (cast_list rows next kind from to label total r (suc k) (omega arith))

module _ {V : Type 0} (walk : Walk V) where
  abbrev Reached : Budget → LowState → Type 0
  Reached = ReachedIn walk

  abbrev state : ℕ → Locals → Code → List Code → List Waiting → Heap → LowState
  state = st walk.around

  coerce_stands : (r : ℕ) → r ≤ 8 → slice_get walk.setting.procs (coerce_of walk.first r) ≡ Some (middle_proc walk.first
      (coerce_part walk.first) r)
  coerce_stands r le = walk.stands (coerce_middle_place r) _ (coerce_middle_there walk.first r le)

  abbrev R : ℕ → TypeRow
  R = (rows_in walk.l)

  abbrev tall : ℕ → ℕ
  tall = (height_in walk.l)

  abbrev cast_go : LowSource → LowSource → Code
  cast_go x y = TailCall (coerce walk.first) (x ∷ y ∷ Word 5 ∷ [])

  -- one part, in its order
  cast_part : {B : Budget} → (cost above asks price : ℕ) (next : ℕ → ℕ → ℕ → Coercion) (from to label : ℕ)
      → label < 2 ^ 64
      → CoerceDoes walk cost above asks price from to label (next from to label)
      → CoerceDoes walk cost above asks price to
      from label (next to from label) → (kind : Kind) (n k : ℕ) (b : Bool) → (k == n) ≡ b
      → (objects : List Object) (h : Heap)
      (fine : Fine walk.setting walk.l walk.around objects h) (waiting : List Waiting) (x y : ℕ) → HoldsType walk.l
      objects x from → HoldsType walk.l objects y to → Answers walk B objects waiting (coercion_part R next
      (runs_back kind b) from to label) → Reached (More (cost + 4) above asks (price + 81) B) (state 6 (bind 0
      (kind_number kind ∷ n ∷ k ∷
      x ∷ y ∷
      label ∷ []) no_locals) (part_code cast_go) [] waiting h)
  cast_part {B = B} cost above asks price next from to label small there back kind n k b t objects h fine waiting x y
      hx hy go =
      at_most walk (part_runs walk objects h fine waiting cast_go kind n k x y label b t (λ rests. by (runs_back kind b)
      rests go)) (omega arith, omega arith, omega arith, omega arith)
    where
      by : (b : Bool) (rests : List Code) → Answers walk B objects waiting (coercion_part R next b from to label)
          → Reached (Pay 40 (One (More cost above asks price B))) (state 6 (bind 0
          (kind_number kind ∷ n ∷ k ∷ x ∷ y ∷ label ∷ [])
          no_locals)
          (in_order cast_go b) rests waiting h)
      by true rests go =
          tail_calls walk objects fine (y ∷ x ∷ label ∷ []) (coerce_proc walk.first) refl (walk.stands coerce_place _
          refl) refl
          (back _ objects h fine waiting y x hy hx small go)
      by false rests go =
          tail_calls walk objects fine (x ∷ y ∷ label ∷ []) (coerce_proc walk.first) refl (walk.stands coerce_place _
          refl) refl
          (there _ objects h fine waiting x y hx hy small go)

  abbrev type_header : ℕ → ℕ
  type_header type = header (type_kind (R type)) (tall type) (length (parts_of (R type)))

  abbrev type_words : ℕ → List ℕ
  type_words type = map walk.l.type_at (parts_of (R type))

  -- all parts
  cast_parts : {B : Budget} → (cost above asks price : ℕ) (next : ℕ → ℕ → ℕ → Coercion) (from to label : ℕ)
      → label < 2 ^ 64
      → (kind : Kind) (offset index : ℕ → ℕ) → ((k : ℕ) → offset k ≡ 8 * index k) → (total : ℕ) → HasWidth walk.l kind
      total → total ≡ slots R from
      → ((k : ℕ) → k < total → slice_get (type_header from ∷ type_words from) (index k) ≡ Some (walk.l.type_at
      (slot R k from))) → ((k : ℕ) → k < total → slice_get (type_header to ∷ type_words to) (index k) ≡ Some
      (walk.l.type_at (slot R k to)))
      → ((k : ℕ) → k < total → slot R k from < (length walk.l.types)) → ((k : ℕ) → k < total → slot R k to <
      (length walk.l.types))
      → ((k : ℕ) → k < total → CoerceDoes walk cost above asks price (slot R k from) (slot R k to) label (next
      (slot R k from)
      (slot R k to) label)) → ((k : ℕ) → k < total → CoerceDoes walk cost above asks price (slot R k to)
      (slot R k from) label
      (next (slot R k to) (slot R k from) label))
      → ((k : ℕ) → k < total → coercion_height tall (coercion_part R next (runs_back kind (suc k == total))
      (slot R k from) (slot R k to) label) < 65535)
      → (objects : List Object) (h : Heap) (fine : Fine walk.setting walk.l walk.around objects h) (waiting : List
      Waiting) (wf wt : ℕ) → HoldsType walk.l objects wf from → HoldsType walk.l objects wt to → Answers walk B
      objects waiting (middle kind (coerce_parts R next kind from to label (slots R from) 0))
      → Reached (More (2 + parts_cost (cost + 4) walk.l.width) (suc above) (middle_words walk.l.width asks)
      (middle_price walk.l.width (81 + price)) B)
      (state 24 (bind 0 (wf ∷ wt ∷ kind_number kind
      ∷ total ∷ label ∷ []) no_locals) (middle_code (raise walk.first) (coerce_part walk.first) offset total) []
      waiting h)
  cast_parts {B = B} cost above asks price next from to label small kind offset index offsets total few many has1 has2
      known1
      known2 there back low objects h fine waiting wf wt hf ht go =
      at_most walk ((middle_made walk (raise walk.first) (coerce_part walk.first) (proc 6 6 (part_code cast_go))
      (walk.stands raise_place _ refl) (walk.stands coerce_part_place _ refl) refl refl (cost + 4) above asks
      (price + 81) offset total
      (few_parts kind total few.0)
      objects waiting kind few wf wt total label (type_header from) (type_header to) (type_words from)
      (type_words to) (type_there walk objects wf from hf) (type_there walk objects wt to ht)
      (λ k. coercion_part R next (runs_back kind (suc k == total)) (slot R k from) (slot R k to) label)
      (λ k. walk.l.type_at (slot R k from)) (λ k. walk.l.type_at (slot R k to)) index offsets has1 has2 low
      (λ k lt B now h' waiting' grows fine' answers. cast_part cost above asks price next (slot R k from)
      (slot R k to) label small
      (there k lt) (back k lt) kind total (suc k) (suc k == total) refl now h' fine' waiting' (walk.l.type_at
      (slot R k from)) (walk.l.type_at (slot R k to)) (record { known = known1 k lt; is = refl })
      (record { known = known2 k lt; is = refl }) answers)
      h fine (subst (λ q. Answers walk B objects waiting (middle kind q)) (sym (cast_list R next kind from to label
      total total 0 (omega arith) ∙ ap (λ n. coerce_parts R next kind from to label n 0) many)) go))) (
        (let z = parts_less (cost + 4) total walk.l.width few.1 in omega arith),
        omega arith,
        (let z = words_less asks total walk.l.width few.1 in omega (arith, z)),
        (let z = price_less (81 + price) total walk.l.width few.1 in omega (arith, z)),
      )

  abbrev kinds_read : ℕ → ℕ → ℕ → ℕ → ℕ → Locals
  kinds_read wf wt label from to = set_local 6 (type_kind (R to)) (set_local 5 (type_header to)
      (set_local 4 (type_kind (R from)) (set_local 3 (type_header from) (bind 0 (wf ∷ wt ∷ label ∷ []) no_locals))))

  abbrev heads_read : ℕ → ℕ → ℕ → ℕ → ℕ → Locals
  heads_read wf wt label from to = set_local 8 (length (parts_of (R to))) (set_local 7 (length (parts_of (R from)))
      (kinds_read wf wt label from to))

  abbrev BelowC : ℕ → Type 0
  BelowC zero = Unit {0}
  BelowC (suc m) = AllCasts walk m

  low_height : (n : ℕ) → n ≤ 65534 → (c : Coercion) → NoHigher R c n → coercion_height tall c < 65535
  low_height n le c h = let z = height_from_bound R tall walk.types.heights c n h in omega arith

  -- between types of one head that have middles
  -- the turns of a part
  abbrev below_cost : ℕ → ℕ
  below_cost zero = 0
  below_cost (suc m) = coerce_cost walk.l.width m

  -- those of all of them
  abbrev all_cost : ℕ → ℕ
  all_cost n = 2 + parts_cost (below_cost n + 4) walk.l.width

  -- the words of a middle, and its price; at height 0 there is none
  abbrev all_words : ℕ → ℕ
  all_words zero = 0
  all_words (suc m) = middle_words walk.l.width (coerce_words walk.l.width m)

  abbrev all_price : ℕ → ℕ
  all_price zero = 0
  all_price (suc m) = middle_price walk.l.width (81 + coerce_price walk.l.width m)

  middles_between : {B : Budget} → (n : ℕ) → n ≤ 65534 → BelowC n → (from to label : ℕ) → label < 2 ^ 64 → TypeNoHigher
      R n from → TypeNoHigher R n to → (kind : Kind) → kind_of (R from) ≡ Some kind → (offset index : ℕ → ℕ)
      → ((k : ℕ) → offset k ≡ 8 * index k) → (total : ℕ) → HasWidth walk.l kind total → total ≡ slots R from
      → total ≡ slots R to
      → ((k : ℕ) → k < total → slice_get (type_header from ∷ type_words from) (index k) ≡ Some (walk.l.type_at
      (slot R k from))) → ((k : ℕ) → k < total → slice_get (type_header to ∷ type_words to) (index k) ≡ Some
      (walk.l.type_at (slot R k to)))
      → ((k : ℕ) → k < total → slot R k from < (length walk.l.types)) → ((k : ℕ) → k < total → slot R k to <
      (length walk.l.types))
      → (objects : List Object) (h : Heap) (fine : Fine walk.setting walk.l walk.around objects h) (waiting : List
      Waiting) (wf wt : ℕ) → HoldsType walk.l objects wf from → HoldsType walk.l objects wt to → Answers walk B
      objects waiting (coerce_middle R (coerce_below R n) (Some kind) from to label) → Reached (More (all_cost n)
      (suc n) (all_words n) (all_price n) B) (state 24 (bind 0 (wf ∷ wt ∷ kind_number kind ∷ total ∷ label ∷ [])
      no_locals) (middle_code (raise walk.first)
      (coerce_part walk.first) offset total) [] waiting h)
  middles_between zero le below from to label small lf lt kind some offset index offsets total few many1 many2 has1 has2
      known1 known2 objects h fine waiting wf wt hf ht go = no_same (sym lf ∙ some)
  middles_between (suc m) le below from to label small lf lt kind some offset index offsets total few many1 many2 has1
      has2 known1 known2 objects h fine waiting wf wt hf ht go =
      let down1 : (k : ℕ) → k < total → TypeNoHigher R m (slot R k from) = λ k a. slot_lower R m from k
      (omega (arith, a, many1)) lf in
      let down2 : (k : ℕ) → k < total → TypeNoHigher R m (slot R k to) = λ k a. slot_lower R m to k
      (omega (arith, a, many2)) lt in
      cast_parts (coerce_cost walk.l.width m) (suc m) (coerce_words walk.l.width m) (coerce_price walk.l.width m)
      (coerce_below R (suc m)) from to label small kind offset index
      offsets total few many1 has1 has2 known1 known2
      (λ k a. below (slot R k from) (slot R k to) label (down1 k a) (down2 k a))
      (λ k a. below (slot R k to) (slot R k from) label (down2 k a) (down1 k a))
      (λ k a. low_height m (omega (arith, le)) (coercion_part R (coerce_below R (suc m)) (runs_back kind
      (suc k == total)) (slot R k from) (slot R k to) label) (each (runs_back kind (suc k == total)) (slot R k from)
      (slot R k to) (down1 k a) (down2 k a)))
      objects h fine waiting wf wt hf ht go
    where
      each : (b : Bool) (s t : ℕ) → TypeNoHigher R m s → TypeNoHigher R m t → NoHigher R (coercion_part R (coerce_below
          R (suc m)) b s t label) m
      each true s t ls lt = coerce_height R m m t s label lt ls
      each false s t ls lt = coerce_height R m m s t label ls lt

  slot_known : (type : ℕ) → type < (length walk.l.types) → slots_of (R type) ≡ parts_of (R type) → (k : ℕ) → k < length
      (parts_of (R type)) → slot R k type < (length walk.l.types)
  slot_known type known e k lt = subst (λ xs. slice_index xs k < (length walk.l.types)) (sym e) (all_at_place
      (λ part. part < (length walk.l.types)) (parts_of (R type)) (walk.types.parts type known) k lt)

  slot_got : (type : ℕ) → slots_of (R type) ≡ parts_of (R type) → (k : ℕ) → k < length (parts_of (R type)) → slice_get
      (type_words type) k ≡ Some (walk.l.type_at (slot R k type))
  slot_got type e k lt = map_got walk.l.type_at (parts_of (R type)) k lt
      ∙ ap (λ xs. Some (walk.l.type_at (slice_index xs k))) (sym e)

  twice : (c k : ℕ) → k < 2 → slice_index (c ∷ c ∷ []) k ≡ c
  twice c zero lt = refl
  twice c (suc zero) lt = refl
  twice c (suc (suc k)) lt = absurd (omega arith)

  twice_known : (type c : ℕ) → type < (length walk.l.types) → parts_of (R type) ≡ c ∷ [] → slots_of (R type) ≡ c ∷ c ∷
      [] → (k : ℕ) → k < 2 → slot R k type < (length walk.l.types)
  twice_known type c known e f k lt = subst (λ n. n < (length walk.l.types)) (sym (ap (λ xs. slice_index xs k) f
      ∙ twice c k lt)) (all_at_place (λ part. part < (length walk.l.types)) (c ∷ [])
      (subst (λ xs. All (λ part. part < (length walk.l.types)) xs) e (walk.types.parts type known)) 0 (omega arith))

  twice_got : (type c : ℕ) → parts_of (R type) ≡ c ∷ [] → slots_of (R type) ≡ c ∷ c ∷ [] → (k : ℕ) → k < 2 → slice_get
      (type_words type) 0 ≡ Some (walk.l.type_at (slot R k type))
  twice_got type c e f k lt = ap (λ xs. slice_get (map walk.l.type_at xs) 0) e ∙ ap (λ n. Some (walk.l.type_at n))
      (sym (ap (λ xs. slice_index xs k) f ∙ twice c k lt))

  -- of one head
  alike : {B : Budget} → (n : ℕ) → n ≤ 65534 → BelowC n → (from to label : ℕ) → label < 2 ^ 64 → TypeNoHigher R n from
      → TypeNoHigher R n to → type_kind (R from) ≡ type_kind (R to) → length (parts_of (R from)) ≡ length
      (parts_of (R to))
      → (objects : List Object) (h : Heap) (fine : Fine walk.setting walk.l walk.around objects h) (waiting : List
      Waiting) (wf wt : ℕ) → HoldsType walk.l objects wf from → HoldsType walk.l objects wt to → Answers walk B
      objects waiting (coerce_middle R (coerce_below R n) (kind_of (R from)) from to label) → (rests : List Code)
      → Reached (More (22 + all_cost n) (suc n) (all_words n) (193 + all_price n) B) (state 11
      (heads_read wf wt label from to) (coerce_alike walk.first)
      rests waiting h)
  alike {B = B} n le below from to label small lf lt same long objects h fine waiting wf wt hf ht go rests = by
      (sort (R from)) (sort (R to))
    where
      L : Locals
      L = heads_read wf wt label from to

      t : ℕ
      t = type_kind (R from)

      n1 : ℕ
      n1 = length (parts_of (R from))

      n2 : ℕ
      n2 = length (parts_of (R to))

      by : Sort (R from) → Sort (R to) → Reached (More (22 + all_cost n) (suc n) (all_words n) (193 + all_price n) B)
          (state 11 L (coerce_alike walk.first) rests
          waiting h)
      by (Plain none less) other =
          at_most walk
          (if_true walk objects fine t 20 refl refl (lt_true t 20 less)
          (go objects h 0 11 L _ (Number 0) (grows_not objects) fine (subst (λ o. Held walk.l objects (coerce_middle R
          (coerce_below R n) o from to label) 0) (sym none) refl) refl))
          (omega arith, omega arith, omega arith, omega arith)
      by (Wide kind some num less slots1) (Plain none less2) = absurd (omega (
        arith,
        num,
        less2,
        same,
        numbers kind,
        low_kind kind,
      ))
      by (Twice kind some num ge c parts1 slots1) (Plain none less2) = absurd (omega (arith, num, less2, same, ge))
      by (Wide kind some num less slots1) (Twice kind2 some2 num2 ge2 c2 parts2 slots2) = absurd
          (omega (arith, num, num2, same, less, ge2))
      by (Twice kind some num ge c parts1 slots1) (Wide kind2 some2 num2 less2 slots2) = absurd
          (omega (arith, num, num2, same, ge, less2))
      by (Wide kind some num less slots1) (Wide kind2 some2 num2 less2 slots2) =
          let wide : HasWidth walk.l kind n1 = subst (λ xs. HasWidth walk.l kind (length xs)) slots1 (walk.types.narrow
          from hf.known kind some) in
          let go' : Answers walk B objects waiting (coerce_middle R (coerce_below R n) (Some kind) from to label) =
          subst (λ o. Answers walk B objects waiting (coerce_middle R (coerce_below R n) o from to label)) some go
          in
          at_most walk
          (if_false walk objects fine t 20 refl refl (lt_false t 20 (omega (arith, num, low_kind kind)))
          (computes walk objects fine t 11 (kind_number kind) refl refl (ap (λ k. compute Sub k 11) num
          ∙ (less_back (kind_number kind) ∙ omega (arith, numbers kind))) refl
          (if_true walk objects fine (kind_number kind) 11 refl refl (lt_true (kind_number kind) 11 less)
          (picks walk (coerce_of walk.first) (coerce_part walk.first) coerce_stands objects h fine waiting _ 7 n1 8 _ wf
          wt (kind_number kind) n1 label (omega arith) (few_parts kind n1 wide.0) refl refl
          (middles_between n le below from to label small lf lt kind some each_word suc (λ k. omega arith) n1 wide
          (sym (ap length slots1)) (long ∙ sym (ap length slots2)) (λ k a. slot_got from slots1 k a)
          (λ k a. slot_got to slots2 k (omega (arith, a, long))) (λ k a. slot_known from hf.known slots1 k a)
          (λ k a. slot_known to ht.known slots2 k (omega (arith, a, long))) objects h fine waiting wf wt hf ht
          go') refl))))
          (omega arith, omega arith, omega arith, omega arith)
      by (Twice kind some num ge c parts1 slots1) (Twice kind2 some2 num2 ge2 c2 parts2 slots2) =
          let wide : HasWidth walk.l kind 2 = subst (λ xs. HasWidth walk.l kind (length xs)) slots1 (walk.types.narrow
          from hf.known kind some) in
          let go' : Answers walk B objects waiting (coerce_middle R (coerce_below R n) (Some kind) from to label) =
          subst (λ o. Answers walk B objects waiting (coerce_middle R (coerce_below R n) o from to label)) some go
          in
          at_most walk
          (if_false walk objects fine t 20 refl refl (lt_false t 20 (omega (arith, num, ge)))
          (computes walk objects fine t 11 (kind_number kind) refl refl (ap (λ k. compute Sub k 11) num
          ∙ (less_back (kind_number kind) ∙ omega (arith, numbers kind))) refl
          (if_false walk objects fine (kind_number kind) 11 refl refl (lt_false (kind_number kind) 11 ge)
          (tail_calls walk objects fine (wf ∷ wt ∷ kind_number kind ∷ 2 ∷ label ∷ [])
          (proc 5 24 (middle_code (raise walk.first) (coerce_part walk.first) first_word 2)) refl
          (walk.stands pair_place _
          refl) refl
          (middles_between n le below from to label small lf lt kind some first_word (λ k. 1) (λ k. omega arith) 2 wide
          (sym (ap length slots1)) (sym (ap length slots2)) (λ k a. twice_got from c parts1 slots1 k a)
          (λ k a. twice_got to c2 parts2 slots2 k a) (λ k a. twice_known from c hf.known parts1 slots1 k a)
          (λ k a. twice_known to c2 ht.known parts2 slots2 k a) objects h fine waiting wf wt hf ht go')))))
          (omega arith, omega arith, omega arith, omega arith)

  -- a Fail is built
  fail_built : {B : Budget} → (label : ℕ) → label < 2 ^ 64 → (objects : List Object) (h : Heap)
      (fine : Fine walk.setting walk.l walk.around objects h) (waiting : List Waiting) (locals : Locals) (rests : List
      Code) → locals 2 ≡ Some label → Answers walk B objects waiting (Fail label) → Reached (More 1 0 2 42 B)
      (state 11 locals
      coerce_fail rests waiting h)
  fail_built label small objects h fine waiting locals rests is go =
      at_most walk
      (builds walk objects fine 4294967304 (label ∷ []) (ap (λ o. and_more (Some 4294967304) (and_more o (Some []))) is)
      (omega arith) (omega arith) (omega arith, (small, tt)) (WholeFail label refl) refl
      (λ h' fine'. go (objects ++ Fixed 4294967304 (label ∷ []) ∷ []) h' h.alloc 11 _ _ (Word 10) (one_more walk objects
      (Fixed 4294967304 (label ∷ []))) fine' (added walk objects h fine (Fixed 4294967304 (label ∷ []))) refl))
      (omega arith, omega arith, omega arith, omega arith)

  -- the numbers of parts are read, and compared behind the kinds: where the types aren't alike, the cast fails
  compared : {B : Budget} {steps frames words price : ℕ} → 1 ≤ steps → 2 ≤ words → 42 ≤ price → (n from to label : ℕ)
      → label < 2 ^ 64 → nat_eq from to ≡ false → (objects : List Object) (h : Heap)
      (fine : Fine walk.setting walk.l walk.around objects h) (waiting : List Waiting) (wf wt : ℕ)
      → ((type_kind (R from) == type_kind (R to)) ≡ true
      → (length (parts_of (R from)) == length (parts_of (R to))) ≡ true → (rests : List Code)
      → Answers walk B objects waiting (coerce_middle R (coerce_below R n) (kind_of (R from)) from to label)
      → Reached (More steps frames words price B)
      (state 11 (heads_read wf wt label from to) (coerce_alike walk.first) rests waiting h))
      → Answers walk B objects waiting (coerce_solid R (coerce_below R n) from to label) → (rests : List Code)
      → Reached (More (4 + steps) frames words (36 + price) B)
      (state 11 (kinds_read wf wt label from to) (coerce_heads walk.first) rests waiting h)
  compared {B = B} {steps = steps} {frames = frames} {words = words} {price = price} some two dear n from to label small
      differ objects h fine waiting wf wt alike go rests =
      let low1 = walk.types.low from in
      let low2 = walk.types.low to in
      let go' = subst (λ b. Answers walk B objects waiting (cond b Id (cond (same_head (R from) (R to)) (coerce_middle R
      (coerce_below R n) (kind_of (R from)) from to label) (Fail label)))) differ go in
      at_most walk
      (computes walk objects fine (type_header from) 32 (length (parts_of (R from))) refl refl
      (count_read (type_kind (R from)) (tall from) (length (parts_of (R from))) (let z = type_numbers (R from) in
      omega arith) (omega (arith, low1))) refl
      (computes walk objects fine (type_header to) 32 (length (parts_of (R to))) refl refl
      (count_read (type_kind (R to)) (tall to) (length (parts_of (R to))) (let z = type_numbers (R to) in omega
      arith) (omega (arith, low2))) refl
      (by (type_kind (R from) == type_kind (R to)) refl (length (parts_of (R from)) == length (parts_of (R to))) refl _
      (subst (λ b. Answers walk B objects waiting (cond b (coerce_middle R (coerce_below R n) (kind_of (R from))
      from to label) (Fail label))) (heads_are (R from) (R to)) go'))))
      (omega arith, omega arith, omega arith, omega arith)
    where
      L : Locals
      L = heads_read wf wt label from to

      by : (b : Bool) → (type_kind (R from) == type_kind (R to)) ≡ b → (c : Bool) → (length (parts_of (R from)) ==
          length (parts_of (R to))) ≡ c → (rests : List Code) → Answers walk B objects waiting (cond (b && c)
          (coerce_middle R (coerce_below R n) (kind_of (R from)) from to label) (Fail label))
          → Reached (More (2 + steps) frames words (26 + price) B) (state 11 L (either Eq (Word 4) (Word 6)
          (either Eq (Word 7) (Word 8) (coerce_alike walk.first) coerce_fail) coerce_fail) rests waiting h)
      by false e c f rests go =
          at_most walk
          (if_false walk objects fine (type_kind (R from)) (type_kind (R to)) refl refl e
          (fail_built label small objects h fine waiting L _ refl go))
          (omega (arith, some), omega arith, omega (arith, two), omega (arith, dear))
      by true e false f rests go =
          at_most walk
          (if_true walk objects fine (type_kind (R from)) (type_kind (R to)) refl refl e
          (if_false walk objects fine (length (parts_of (R from))) (length (parts_of (R to))) refl refl f
          (fail_built label small objects h fine waiting L _ refl go)))
          (omega (arith, some), omega arith, omega (arith, two), omega (arith, dear))
      by true e true f rests go =
          at_most walk
          (if_true walk objects fine (type_kind (R from)) (type_kind (R to)) refl refl e
          (if_true walk objects fine (length (parts_of (R from))) (length (parts_of (R to))) refl refl f
          (alike e f _ go)))
          (omega arith, omega arith, omega arith, omega arith)

  -- neither type is Dyn
  solid : {B : Budget} → (n : ℕ) → n ≤ 65534 → BelowC n → (from to label : ℕ) → label < 2 ^ 64 → TypeNoHigher R n from
      → TypeNoHigher R n to → nat_eq from to ≡ false
      → (objects : List Object) (h : Heap) (fine : Fine walk.setting walk.l walk.around objects h) (waiting : List
      Waiting) (wf wt : ℕ) → HoldsType walk.l objects wf from → HoldsType walk.l objects wt to → Answers walk B
      objects waiting (coerce_solid R (coerce_below R n) from to label) → (rests : List Code)
      → Reached (More (26 + all_cost n) (suc n) (max 4 (all_words n)) (229 + all_price n) B) (state 11
      (kinds_read wf wt label from to) (coerce_heads walk.first)
      rests waiting h)
  solid n le below from to label small lf lt differ objects h fine waiting wf wt hf ht go rests =
      at_most walk
      (compared {steps = 22 + all_cost n} {frames = suc n} {words = max 4 (all_words n)} {price = 193 + all_price n}
      (omega arith) (omega arith) (omega arith) n from to label small differ objects h fine waiting wf wt
      (λ e f rests go. at_most walk
      (alike n le below from to label small lf lt (grind (arith, e)) (grind (arith, f)) objects h fine waiting wf wt
      hf ht go rests) (omega arith, omega arith, omega arith, omega arith)) go rests)
      (omega arith, omega arith, omega arith, omega arith)

  -- from Dyn
  projected : {B : Budget} → (to label : ℕ) → label < 2 ^ 64 → (objects : List Object) (h : Heap)
      (fine : Fine walk.setting walk.l walk.around objects h) (waiting : List Waiting) (from wf wt : ℕ) → type_kind
      (R from) ≡ 19 → HoldsType walk.l objects wt to → Answers walk B objects waiting (Project to label Id)
      → (rests : List Code) → Reached (More 20 1 4 166 B) (state 11 (kinds_read wf wt label from to)
      (coerce_kinds walk.first) rests waiting h)
  projected to label small objects h fine waiting from wf wt dyn ht go rests =
      let tk = walk.types.low to in
      let H = max 0 (tall to) in
      let o = Fixed (project_header H) (wt ∷ label ∷ 0 ∷ []) in
      let e : max 0 (tall to) ≡ max (tall to) 0 = omega arith in
      at_most walk
      (if_true walk objects fine (type_kind (R from)) 19 refl refl (eq_true (type_kind (R from)) 19 dyn)
      (calls walk objects fine (0 ∷ wt ∷ []) raise_proc refl (walk.stands raise_place _ refl) refl
      (raised walk objects h fine _ 0 wt (tall to) (type_tall walk objects wt to ht)
      (λ count2 locals2 rests2 a2 is2. comes_back walk objects fine H is2 refl
      (computes walk objects fine H 16 (compute Sll H 16) refl refl refl refl
      (computes walk objects fine (compute Sll H 16) 12884901902 (project_header H) refl refl (header_made 14 H 3
      (omega arith) (omega (arith, tk)) (omega arith)) refl
      (builds walk objects fine (project_header H) (wt ∷ label ∷ 0 ∷ []) refl (omega arith) (omega arith) (
        header_small 14
            H 3 (omega arith) (omega (arith, tk)) (omega arith),
        (
          type_small walk objects h fine wt to ht,
          (small, (omega arith, tt)),
        ),
      ) (WholeProject wt label 0 0 to (ap (λ n. Fixed (project_header n) (wt ∷ label ∷ 0 ∷
      [])) e) ht (IdWord refl refl)) refl
      (λ h' fine'. go (objects ++ o ∷ []) h' h.alloc 11 _ _ (Word 10) (one_more walk objects o) fine' (
        wt,
        0,
        subst
            (λ n. There walk.l (objects ++ o ∷ []) h.alloc (Fixed (project_header n) (wt ∷ label ∷ 0 ∷ []))) e
            (added walk objects h fine o),
        type_still walk objects (objects ++ o ∷ []) wt to ht,
        refl,
      ) refl))))))))
      (omega arith, omega arith, omega arith, omega arith)

  -- to Dyn
  injected : {B : Budget} → (from to label : ℕ) → (objects : List Object) (h : Heap) (fine : Fine walk.setting walk.l
      walk.around objects h) (waiting : List Waiting) (wf wt : ℕ) → (type_kind (R from) == 19) ≡ false → type_kind
      (R to) ≡ 19 → HoldsType walk.l objects wf from → Answers walk B objects waiting (Inject Id from)
      → (rests : List Code) → Reached (More 20 1 3 176 B) (state 11 (kinds_read wf wt label from to)
      (coerce_kinds walk.first) rests waiting h)
  injected from to label objects h fine waiting wf wt other dyn hf go rests =
      let tk = walk.types.low from in
      let H = max 0 (tall from) in
      let o = Fixed (inject_header H) (0 ∷ wf ∷ []) in
      at_most walk
      (if_false walk objects fine (type_kind (R from)) 19 refl refl other
      (if_true walk objects fine (type_kind (R to)) 19 refl refl (eq_true (type_kind (R to)) 19 dyn)
      (calls walk objects fine (0 ∷ wf ∷ []) raise_proc refl (walk.stands raise_place _ refl) refl
      (raised walk objects h fine _ 0 wf (tall from) (type_tall walk objects wf from hf)
      (λ count2 locals2 rests2 a2 is2. comes_back walk objects fine H is2 refl
      (computes walk objects fine H 16 (compute Sll H 16) refl refl refl refl
      (computes walk objects fine (compute Sll H 16) 8589934605 (inject_header H) refl refl (header_made 13 H 2
      (omega arith) (omega (arith, tk)) (omega arith)) refl
      (builds walk objects fine (inject_header H) (0 ∷ wf ∷ []) refl (omega arith) (omega arith) (
        header_small 13 H 2
            (omega arith) (omega (arith, tk)) (omega arith),
        (
          omega arith,
          (
            type_small walk objects h fine wf from hf,
            tt,
          ),
        ),
      ) (WholeInject 0 wf 0 from refl (IdWord refl refl) hf) refl
      (λ h' fine'. go (objects ++ o ∷ []) h' h.alloc 11 _ _ (Word 10) (one_more walk objects o) fine' (
        0,
        wf,
        added walk
            objects h fine o,
        refl,
        type_still walk objects (objects ++ o ∷ []) wf from hf,
      ) refl)))))))))
      (omega arith, omega arith, omega arith, omega arith)

  -- types that are not the same: their kinds are read
  kinds : {B : Budget} {from to : ℕ} → (from == to) ≡ false → (objects : List Object) (h : Heap)
      (fine : Fine walk.setting walk.l walk.around objects h) (waiting : List Waiting) (label wf wt : ℕ)
      → HoldsType walk.l objects wf from → HoldsType walk.l objects wt to
      → ((rests : List Code)
      → Reached B (state 11 (kinds_read wf wt label from to) (coerce_kinds walk.first) rests waiting h))
      → Reached (More 5 0 0 29 B)
      (state 11 (bind 0 (wf ∷ wt ∷ label ∷ []) no_locals) (coerce_code walk.first) [] waiting h)
  kinds {from = from} {to = to} differ objects h fine waiting label wf wt hf ht go =
      let apart : wf ≡ wt → ⊥ = λ q. let z = walk.types.once from to hf.known ht.known (sym hf.is ∙ (q ∙ ht.is)) in
      grind (arith, z, differ) in
      at_most walk
      (if_false walk objects fine wf wt refl refl (eq_false wf wt apart)
      (loads walk objects fine wf (type_header from) (type_words from) 0 (type_header from) refl
      (type_there walk objects wf from hf) refl refl refl
      (computes walk objects fine (type_header from) kind_mask (type_kind (R from)) refl refl
      (kind_read (type_kind (R from)) (tall from) (length (parts_of (R from))) (type_numbers (R from))) refl
      (loads walk objects fine wt (type_header to) (type_words to) 0 (type_header to) refl
      (type_there walk objects wt to ht) refl refl refl
      (computes walk objects fine (type_header to) kind_mask (type_kind (R to)) refl refl
      (kind_read (type_kind (R to)) (tall to) (length (parts_of (R to))) (type_numbers (R to))) refl (go _))))))
      (omega arith, omega arith, omega arith, omega arith)

  -- the same type
  same_is_id : (n from to label : ℕ) → from ≡ to → coerce_to R n from to label ≡ Id
  same_is_id n from to label e = by (is_dyn (R from)) (is_dyn (R to)) (ap (λ t. is_dyn (R t)) e)
    where
      by : (b c : Bool) → b ≡ c → coerce_by R (coerce_below R n) b c from to label ≡ Id
      by true true q = refl
      by true false q = absurd (clash q)
        where
          clash : true ≡ false → ⊥
          clash q = cc
      by false true q = absurd (clash q)
        where
          clash : false ≡ true → ⊥
          clash q = cc
      by false false q = chosen_true (nat_eq from to) Id (cond (same_head (R from) (R to)) (coerce_middle R
          (coerce_below R n) (kind_of (R from)) from to label) (Fail label)) (eq-eqb from to e)

  -- entry, tests and all parts
  enough_cost : (n : ℕ) → 35 + all_cost n ≤ coerce_cost walk.l.width n
  enough_cost zero = omega arith
  enough_cost (suc m) = omega arith

  enough_words : (n : ℕ) → max 4 (all_words n) ≤ coerce_words walk.l.width n
  enough_words zero = omega arith
  enough_words (suc m) = omega arith

  enough_price : (n : ℕ) → 286 + all_price n ≤ coerce_price walk.l.width n
  enough_price zero = omega arith
  enough_price (suc m) = omega arith

  coerce_at : (n : ℕ) → n ≤ 65534 → BelowC n → AllCasts walk n
  coerce_at n le below from to label lf lt B objects h fine waiting wf wt hf ht small go = by_same (eq_cases from to)
    where
      entry : LowState
      entry = state 11 (bind 0 (wf ∷ wt ∷ label ∷ []) no_locals) (coerce_code walk.first) [] waiting h

      by_dyn : (from == to) ≡ false → (b : Bool) → is_dyn (R from) ≡ b → (c : Bool) → is_dyn (R to) ≡ c
          → (rests : List Code) → Answers walk B objects waiting (coerce_by R (coerce_below R n) b c from to label)
          → Reached (More (28 + all_cost n) (suc n) (max 4 (all_words n)) (257 + all_price n) B) (state 11
          (kinds_read wf wt label from to) (coerce_kinds
          walk.first)
          rests waiting h)
      by_dyn differ true e true f rests go = let z = walk.types.one_dyn from to hf.known ht.known e f in absurd
          (clash (sym (eq_true from to z) ∙ differ))
        where
          clash : true ≡ false → ⊥
          clash q = cc
      by_dyn differ true e false f rests go = at_most walk (projected to label small objects h fine waiting from wf wt
          (grind (arith, (dyn_is (R from) ∙ e))) ht go rests) (omega arith, omega arith, omega arith, omega arith)
      by_dyn differ false e true f rests go = at_most walk (injected from to label objects h fine waiting wf wt
          (dyn_is (R from) ∙ e) (grind (arith, (dyn_is (R to) ∙ f))) hf go rests)
          (omega arith, omega arith, omega arith, omega arith)
      by_dyn differ false e false f rests go =
          at_most walk
          (if_false walk objects fine (type_kind (R from)) 19 refl refl (dyn_is (R from) ∙ e)
          (if_false walk objects fine (type_kind (R to)) 19 refl refl (dyn_is (R to) ∙ f)
          (solid n le below from to label small lf lt differ objects h fine waiting wf wt hf ht go _)))
          (omega arith, omega arith, omega arith, omega arith)

      by_same : (from ≡ to) ⊎ ((from == to) ≡ false) → Reached (More (coerce_cost walk.l.width n) (suc n)
          (coerce_words walk.l.width n) (coerce_price walk.l.width n) B) entry
      by_same (inl e) =
          at_most walk
          (if_true walk objects fine wf wt refl refl (eq_true wf wt (hf.is ∙ (ap walk.l.type_at e ∙ sym ht.is)))
          (go objects h 0 11 _ _ (Number 0) (grows_not objects) fine (subst (λ c. Held walk.l objects c 0)
          (sym (same_is_id n from to label e)) refl) refl)) (
            (let z = enough_cost n in omega arith),
            omega arith,
            (let z = enough_words n in omega (arith, z)),
            (let z = enough_price n in omega (arith, z)),
          )
      by_same (inr differ) =
          at_most walk
          (kinds differ objects h fine waiting label wf wt hf ht
          (λ rests. by_dyn differ (is_dyn (R from)) refl (is_dyn (R to)) refl rests go)) (
            (let z = enough_cost n in omega arith),
            omega arith,
            (let z = enough_words n in omega (arith, z)),
            (let z = enough_price n in omega (arith, z)),
          )

  pub all_cast : (n : ℕ) → n ≤ 65534 → AllCasts walk n
  all_cast zero le = coerce_at zero le tt
  all_cast (suc m) le = coerce_at (suc m) le (all_cast m (omega arith))

  -- ---- between types with no middle

  light_heads : {B : Budget} → (n from to label : ℕ) → label < 2 ^ 64 → nat_eq from to ≡ false
      → has_no_middle (R from) (R to) ≡ true → (objects : List Object) (h : Heap)
      (fine : Fine walk.setting walk.l walk.around objects h) (waiting : List Waiting) (wf wt : ℕ)
      → Answers walk B objects waiting (coerce_solid R (coerce_below R n) from to label) → (rests : List Code)
      → Reached (More 6 0 2 78 B) (state 11 (kinds_read wf wt label from to) (coerce_heads walk.first) rests waiting h)
  light_heads {B = B} n from to label small differ apart objects h fine waiting wf wt go rests =
      compared {steps = 2} {frames = 0} {words = 2} {price = 42} (omega arith) (omega arith) (omega arith) n from to
      label small differ objects h fine waiting wf wt
      (λ e f rests go. at_most walk (plain (sort (R from)) (no_middle e f) rests go)
      (omega arith, omega arith, omega arith, omega arith)) go rests
    where
      L : Locals
      L = heads_read wf wt label from to

      t : ℕ
      t = type_kind (R from)

      plain : Sort (R from) → has_none (kind_of (R from)) ≡ true → (rests : List Code)
          → Answers walk B objects waiting (coerce_middle R (coerce_below R n) (kind_of (R from)) from to label)
          → Reached (More 2 0 0 21 B) (state 11 L (coerce_alike walk.first) rests waiting h)
      plain (Plain none less) e rests go =
          at_most walk
          (if_true walk objects fine t 20 refl refl (lt_true t 20 less)
          (go objects h 0 11 L _ (Number 0) (grows_not objects) fine (subst (λ o. Held walk.l objects (coerce_middle R
          (coerce_below R n) o from to label) 0) (sym none) refl) refl))
          (omega arith, omega arith, omega arith, omega arith)
      plain (Wide kind some num less slots1) e rests go =
          absurd (untrue (sym (ap has_none some) ∙ e))
        where
          untrue : false ≡ true → ⊥
          untrue q = cc
      plain (Twice kind some num ge c parts1 slots1) e rests go =
          absurd (untrue (sym (ap has_none some) ∙ e))
        where
          untrue : false ≡ true → ⊥
          untrue q = cc

      no_middle : (type_kind (R from) == type_kind (R to)) ≡ true
          → (length (parts_of (R from)) == length (parts_of (R to))) ≡ true → has_none (kind_of (R from)) ≡ true
      no_middle e f =
          subst (λ b. (not b || has_none (kind_of (R from))) ≡ true)
          (heads_are (R from) (R to) ∙ ap₂ (λ b c. b && c) e f) apart

  pub light_cast : (n from to label : ℕ) → is_dyn (R from) ≡ false → is_dyn (R to) ≡ false
      → has_no_middle (R from) (R to) ≡ true
      → CoerceDoes walk 13 0 2 135 from to label (coerce_to R n from to label)
  light_cast n from to label d1 d2 apart B objects h fine waiting wf wt hf ht small go = by_same (eq_cases from to)
    where
      solid : coerce_to R n from to label ≡ coerce_solid R (coerce_below R n) from to label
      solid = ap₂ (λ x y. coerce_by R (coerce_below R n) x y from to label) d1 d2

      by_same : (from ≡ to) ⊎ ((from == to) ≡ false) → Reached (More 13 0 2 135 B)
          (state 11 (bind 0 (wf ∷ wt ∷ label ∷ []) no_locals) (coerce_code walk.first) [] waiting h)
      by_same (inl e) =
          at_most walk
          (if_true walk objects fine wf wt refl refl (eq_true wf wt (hf.is ∙ (ap walk.l.type_at e ∙ sym ht.is)))
          (go objects h 0 11 _ _ (Number 0) (grows_not objects) fine (subst (λ c. Held walk.l objects c 0)
          (sym (same_is_id n from to label e)) refl) refl))
          (omega arith, omega arith, omega arith, omega arith)
      by_same (inr differ) =
          at_most walk
          (kinds differ objects h fine waiting label wf wt hf ht
          (λ rests. if_false walk objects fine (type_kind (R from)) 19 refl refl (dyn_is (R from) ∙ d1)
          (if_false walk objects fine (type_kind (R to)) 19 refl refl (dyn_is (R to) ∙ d2)
          (light_heads n from to label small differ apart objects h fine waiting wf wt
          (subst (Answers walk B objects waiting) solid go) _))))
          (omega arith, omega arith, omega arith, omega arith)
