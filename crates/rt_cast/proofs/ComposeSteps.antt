-- What compose does.
use Rattle.std.proofs.Common.{◌≡◌, ◌⊎◌, inl, inr, ℕ, zero, suc, ◌+◌, ◌*◌, ◌^◌, ◌%◌, ◌<◌, ◌≤◌, Bool, true}
use Rattle.std.proofs.Common.{false, cond, List, [], ◌∷◌, ◌++◌, map, Some, refl, sym, ap, ◌∙◌}
use Rattle.std.proofs.Common.{subst, arith}
use Rattle.std.specs.Prelude.{◌==◌, slice_get, length, max, min}
use Rattle.rt_cast.specs.States.{Heap, st, Fine}
use Rattle.grift_base.specs.Types.{TypeRow}
use Rattle.grift_base.proofs.Public.{each_row}
use Rattle.grift_base.specs.Types.{parts_of}
use Rattle.low_ir.specs.Operations.{compute}
use Rattle.low_ir.specs.declared.code.WordOp.TheVariants.{Sll}
use Rattle.low_ir.specs.Steps.{Locals, no_locals, set_local}
use Rattle.low_ir.specs.declared.code.LowSource.{LowSource}
use Rattle.low_ir.specs.declared.code.LowSource.TheVariants.{Word, Number}
use Rattle.low_ir.specs.Procedures.{Code, Done, Return, TailCall}
use Rattle.low_ir.specs.Run.{Waiting, LowState, word_of, words_of, bind}
use Rattle.machine_words.specs.declared.conditions.Cond.TheVariants.{Eq}
use Rattle.coercion_norm.specs.declared.middles.MiddleKind.{MiddleKind as Kind}
use Rattle.coercion_norm.specs.declared.middles.MiddleKind.TheVariants.{Fun as FunKind, Tup as TupKind}
use Rattle.coercion_norm.specs.declared.middles.MiddleKind.TheVariants.{Ref as RefKind, Vec as VecKind}
use Rattle.coercion_norm.specs.Coercions.{Coercion, Coercions, Id, Fail, Middle, Inject, Project}
use Rattle.coercion_norm.specs.Coercions.{runs_back, same_kind}
use Rattle.coercion_norm.specs.Composition.{middle, final}
use Rattle.coercion_norm.specs.Composition.{follow_part, follow_parts}
use Rattle.coercion_norm.specs.Heights.{coercion_height}
use Rattle.rt_cast.specs.Costs.{parts_cost, both_cost, middle_words, middle_price, both_price}
use Rattle.coercion_norm.specs.Objects.{Object, Fixed, object_at}
use Rattle.coercion_norm.specs.Held.{HasWidth, Layout, There, Held, HoldsType}
use Rattle.coercion_norm.specs.ObjectsOfRows.{header, kind_number, type_kind}
use Rattle.coercion_norm.specs.Held.{rows_in, height_in}
use Rattle.rt_cast.specs.WholeObjects.{WholeInject, WholeProject}
use Rattle.rt_cast.specs.Procs.{middle_proc, part_proc}
use Rattle.rt_cast.specs.PartCodes.{middle_code, part_code, pick, each_word}
use Rattle.low_ir.specs.Codes.{either}
use Rattle.rt_cast.specs.ComposeCodes.{compose_code, compose_first, compose_third, compose_both, compose, part, raise}
use Rattle.rt_cast.specs.ComposeCodes.{middle_of}
use Rattle.rt_cast.specs.CoerceCodes.{coerce_code}
use Rattle.rt_cast.proofs.HeaderNumbers.{eq_true, eq_cases, lt_true, lt_false, lt_cases}
use Rattle.rt_cast.proofs.HeaderNumbers.{count_read, header_made, header_small}
use Rattle.low_ir.specs.Prices.{slot_price, source_price, sources_price, leaving}
use Rattle.rt_cast.proofs.Steps.{Budget, Pay, One, More, at_most, word_there}
use Rattle.rt_cast.proofs.Steps.{loads, computes, if_true, if_false, builds, calls, tail_calls, comes_back}
use Rattle.rt_cast.proofs.Small.{grows_not, grows_on, there_still, HasHeight, not_zero, raised, finals}
use Rattle.rt_cast.proofs.Small.{final_word, numbers, reads_kind, ReachedIn}
use Rattle.rt_cast.proofs.Middles.{few_parts, list_of, held_still, Answers, held_small, added, one_more}
use Rattle.rt_cast.proofs.Middles.{middle_made, has_height, coercion_word}
use Rattle.rt_cast.proofs.PartWords.{count, nth, word_at, got, as_many, nth_held, follow_at}
use Rattle.rt_cast.proofs.PartWords.{follow_list}
use Rattle.rt_cast.proofs.Walks.{Walk}
use Rattle.rt_cast.proofs.Objects.{inject_header, project_header}
use Rattle.rt_cast.specs.ComposeCodes.{coerce_place, compose_place, final_place, middle_place, part_place, raise_place}
use Rattle.rt_cast.specs.Procs.{coerce_proc, compose_proc, final_proc, raise_proc}
use Rattle.rt_cast.proofs.PartCodeLemmas.{middle_there}

pub type_numbers : (row : TypeRow) → type_kind row < 256
type_numbers =
    each_row (λ row. type_kind row < 256) (omega arith) (omega arith) (omega arith) (omega arith) (λ _ _. omega arith)
    (λ _. omega arith) (λ _. omega arith) (λ _. omega arith)

pub turn : (k n : ℕ) (b : Bool) → (k == n) ≡ b → (n == k) ≡ b
turn k n b e = grind (arith, e)

pub kinds_same : (kind other : Kind) → (kind_number kind == kind_number other) ≡ same_kind kind other
kinds_same FunKind FunKind = refl
kinds_same FunKind TupKind = refl
kinds_same FunKind RefKind = refl
kinds_same FunKind VecKind = refl
kinds_same TupKind FunKind = refl
kinds_same TupKind TupKind = refl
kinds_same TupKind RefKind = refl
kinds_same TupKind VecKind = refl
kinds_same RefKind FunKind = refl
kinds_same RefKind TupKind = refl
kinds_same RefKind RefKind = refl
kinds_same RefKind VecKind = refl
kinds_same VecKind FunKind = refl
kinds_same VecKind TupKind = refl
kinds_same VecKind RefKind = refl
kinds_same VecKind VecKind = refl

pub kind_is : (kind other : Kind) → same_kind kind other ≡ true → kind ≡ other
kind_is FunKind FunKind e = refl
kind_is FunKind TupKind e = absurd (let z : ⊥ = cc in z)
kind_is FunKind RefKind e = absurd (let z : ⊥ = cc in z)
kind_is FunKind VecKind e = absurd (let z : ⊥ = cc in z)
kind_is TupKind FunKind e = absurd (let z : ⊥ = cc in z)
kind_is TupKind TupKind e = refl
kind_is TupKind RefKind e = absurd (let z : ⊥ = cc in z)
kind_is TupKind VecKind e = absurd (let z : ⊥ = cc in z)
kind_is RefKind FunKind e = absurd (let z : ⊥ = cc in z)
kind_is RefKind TupKind e = absurd (let z : ⊥ = cc in z)
kind_is RefKind RefKind e = refl
kind_is RefKind VecKind e = absurd (let z : ⊥ = cc in z)
kind_is VecKind FunKind e = absurd (let z : ⊥ = cc in z)
kind_is VecKind TupKind e = absurd (let z : ⊥ = cc in z)
kind_is VecKind RefKind e = absurd (let z : ⊥ = cc in z)
kind_is VecKind VecKind e = refl

-- no kind of a middle is another kind
pub no_middle : (kind : Kind) (k : ℕ) → (k ≡ 8) ⊎ (13 ≤ k) → (kind_number kind == k) ≡ false
no_middle FunKind k h = grind (arith, h)
no_middle TupKind k h = grind (arith, h)
no_middle RefKind k h = grind (arith, h)
no_middle VecKind k h = grind (arith, h)

final_held : (l : Layout) (objects : List Object) (c : Coercion) (w : ℕ) → Held l objects c w → Held l objects (final c)
    (final_word c w)
final_held l objects Id w h = h
final_held l objects (Fail label) w h = h
final_held l objects (Middle kind parts) w h = h
final_held l objects (Inject g kept) w h = h
final_held l objects (Project wanted label i) w h = refl

pub no_max : (a b : ℕ) → max (max 0 a) b ≡ max a b
no_max a b = omega arith

abbrev pub picks_cost : ℕ → ℕ
picks_cost zero = 2
picks_cost (suc r) = 2 + picks_cost r

pub parts_less : (cost r n : ℕ) → r ≤ n → parts_cost cost r ≤ parts_cost cost n
parts_less cost zero zero le = omega arith
parts_less cost zero (suc n) le = let z = parts_less cost zero n (omega arith) in omega arith
parts_less cost (suc r) zero le = absurd (omega arith)
parts_less cost (suc r) (suc n) le = let z = parts_less cost r n (omega arith) in omega arith

-- more parts ask for more words, and cost more
pub words_less : (asks r n : ℕ) → r ≤ n → middle_words r asks ≤ middle_words n asks
words_less asks r n le = grind (arith, le)

pub price_less : (price r n : ℕ) → r ≤ n → middle_price r price ≤ middle_price n price
price_less price r n le = grind (arith, le)

part_near : (r : ℕ) → r ≤ 8 → source_price (Number r) ≡ 2
part_near r le = grind (arith, le)

-- go for either order
abbrev pub in_order : {A : Type 0} → (LowSource → LowSource → A) → Bool → A
in_order go true = go (Word 4) (Word 3)
in_order go false = go (Word 3) (Word 4)

module _ {V : Type 0} (walk : Walk V) where
  abbrev Reached : Budget → LowState → Type 0
  Reached = ReachedIn walk

  abbrev state : ℕ → Locals → Code → List Code → List Waiting → Heap → LowState
  state = st walk.around

  pub middle_stands : (r : ℕ) → r ≤ 8 → slice_get walk.setting.procs (middle_of walk.first r) ≡ Some
      (middle_proc walk.first (part walk.first) r)
  middle_stands r le = walk.stands (middle_place r) _ (middle_there walk.first r le)

  -- the procedure for so many parts as a word says
  pub picks : {B : Budget} → (which : ℕ → ℕ) (whose : ℕ) → ((r : ℕ) → r ≤ 8 → slice_get walk.setting.procs (which r) ≡
      Some (middle_proc walk.first whose r)) → {size : ℕ} {locals : Locals} (objects : List Object) (h : Heap)
      (fine : Fine walk.setting walk.l walk.around objects h) (waiting : List Waiting) (rests : List Code) (w m r : ℕ)
      (args : List LowSource) (x y k n e : ℕ) → r ≤ 8 → m ≤ r → word_of locals (Word w) ≡ Some m → words_of locals args
      ≡ Some (x ∷ y ∷ k ∷ n ∷ e ∷ [])
      → Reached B (state 24 (bind 0 (x ∷ y ∷ k ∷ n ∷ e ∷ []) no_locals) (middle_code (raise walk.first) whose each_word
      m) []
      waiting h) → slot_price w ≡ 1 → Reached (More (picks_cost r) 0 0 (14 * r +
      (sources_price args + 25 + leaving size)) B)
      (state size locals (pick w r which args) rests waiting h)
  picks {B = B} which whose each objects h fine waiting rests w m zero args x y k n e few le is are go near =
      let z : m ≡ 0 = omega arith in
      at_most walk
      (tail_calls walk objects fine (x ∷ y ∷ k ∷ n ∷ e ∷ []) (middle_proc walk.first whose 0) are (each 0 (omega arith))
      refl
      (subst (λ q. Reached B (state 24 (bind 0 (x ∷ y ∷ k ∷ n ∷ e ∷ []) no_locals) (middle_code (raise walk.first) whose
      each_word q) [] waiting h)) z go))
      (omega arith, omega arith, omega arith, omega arith)
  picks {B = B} which whose each {size = size} {locals = locals} objects h fine waiting rests w m (suc r) args x y k n e
      few le is are go near = by (λ q. picks which whose each objects h fine waiting (Done ∷ rests) w m r args x y k n e
      (omega arith) q is are go near) (eq_cases m (suc r))
    where
      num : suc r % 2 ^ 64 ≡ suc r
      num = omega arith

      by : (m ≤ r → Reached (More (picks_cost r) 0 0 (14 * r + (sources_price args + 25 + leaving size)) B)
          (state size locals (pick w r which args) (Done ∷ rests) waiting h))
          → (m ≡ suc r) ⊎ ((m == suc r) ≡ false)
          → Reached (More (picks_cost (suc r)) 0 0 (14 * suc r + (sources_price args + 25 + leaving size)) B)
          (state size locals (pick w (suc r) which args) rests waiting h)
      by ih (inl q) =
          at_most walk
          (if_true walk objects fine m (suc r) is (ap Some num) (eq_true m (suc r) q)
          (tail_calls walk objects fine (x ∷ y ∷ k ∷ n ∷ e ∷ []) (middle_proc walk.first whose (suc r)) are
          (each (suc r) few) refl
          (subst (λ q. Reached B (state 24 (bind 0 (x ∷ y ∷ k ∷ n ∷ e ∷ []) no_locals) (middle_code (raise walk.first)
          whose
          each_word q) [] waiting h)) q go)))
          (omega arith, omega arith, omega arith, let s = part_near (suc r) few in omega (arith, s, near))
      by ih (inr q) =
          at_most walk
          (if_false walk objects fine m (suc r) is (ap Some num) q
          (ih (grind (arith, q, le))))
          (omega arith, omega arith, omega arith, let s = part_near (suc r) few in omega (arith, s, near))

  -- the last part goes on with one code, and each before it with another
  by_turn : {B : Budget} → (objects : List Object) (h : Heap) (fine : Fine walk.setting walk.l walk.around objects h)
      (waiting : List Waiting) (rests : List Code) (locals : Locals) (on : Bool → Code) (n k : ℕ)
      → word_of locals (Word 1) ≡ Some n → word_of locals (Word 2) ≡ Some k → (b : Bool) → (k == n) ≡ b
      → ((rests : List Code) → Reached B (state 6 locals (on b) rests waiting h))
      → Reached (More 1 0 0 13 B) (state 6 locals (either Eq (Word 1) (Word 2) (on true) (on false)) rests waiting h)
  by_turn objects h fine waiting rests locals on n k is as_ true t c =
      at_most walk
      (if_true walk objects fine n k is as_ (turn k n true t) (c _))
      (omega arith, omega arith, omega arith, omega arith)
  by_turn objects h fine waiting rests locals on n k is as_ false t c =
      at_most walk
      (if_false walk objects fine n k is as_ (turn k n false t) (c _))
      (omega arith, omega arith, omega arith, omega arith)

  -- of a kind that is neither that of functions nor that of tuples, the last part runs backwards
  last_back : {B : Budget} → (objects : List Object) (h : Heap) (fine : Fine walk.setting walk.l walk.around objects h)
      (waiting : List Waiting) (go : LowSource → LowSource → Code) (kind : ℕ) → (kind == 10) ≡ false
      → (kind == 9) ≡ false → (n k x y e : ℕ) (b : Bool) → (k == n) ≡ b
      → ((rests : List Code)
      → Reached B (state 6 (bind 0 (kind ∷ n ∷ k ∷ x ∷ y ∷ e ∷ []) no_locals) (in_order go b) rests waiting h))
      → Reached (More 3 0 0 41 B)
      (state 6 (bind 0 (kind ∷ n ∷ k ∷ x ∷ y ∷ e ∷ []) no_locals) (part_code go) [] waiting h)
  last_back objects h fine waiting go kind no_tuple no_function n k x y e b t c =
      at_most walk
      (if_false walk objects fine kind 10 refl refl no_tuple
      (if_false walk objects fine kind 9 refl refl no_function
      (by_turn objects h fine waiting _ _ (in_order go) n k refl refl b t c)))
      (omega arith, omega arith, omega arith, omega arith)

  -- the two words of a part in their order
  pub part_runs : {B : Budget} → (objects : List Object) (h : Heap) (fine : Fine walk.setting walk.l walk.around objects
      h) (waiting : List Waiting) (go : LowSource → LowSource → Code) (kind : Kind) (n k x y e : ℕ) (b : Bool)
      → (k == n) ≡ b
      → ((rests : List Code) → Reached B (state 6 (bind 0 (kind_number kind ∷ n ∷ k ∷ x ∷ y ∷ e ∷ []) no_locals)
      (in_order go (runs_back kind b)) rests waiting h)) → Reached (More 3 0 0 41 B)
      (state 6 (bind 0 (kind_number kind ∷ n ∷ k ∷
      x ∷ y ∷ e ∷ []) no_locals) (part_code go) [] waiting h)
  part_runs objects h fine waiting go FunKind n k x y e b t c =
      at_most walk
      (if_false walk objects fine 9 10 refl refl refl
      (if_true walk objects fine 9 9 refl refl refl
      (by_turn objects h fine waiting _ _ (λ q. in_order go (runs_back FunKind q)) n k refl refl b t c)))
      (omega arith, omega arith, omega arith, omega arith)
  part_runs objects h fine waiting go TupKind n k x y e b t c =
      at_most walk
      (if_true walk objects fine 10 10 refl refl refl (c _))
      (omega arith, omega arith, omega arith, omega arith)
  part_runs objects h fine waiting go RefKind n k x y e b t c =
      last_back objects h fine waiting go 11 refl refl n k x y e b t c
  part_runs objects h fine waiting go VecKind n k x y e b t c =
      last_back objects h fine waiting go 12 refl refl n k x y e b t c

  -- ---- compose

  abbrev pub ComposeDoes : ℕ → ℕ → ℕ → ℕ → Coercion → Coercion → Coercion → Type 0
  ComposeDoes cost above asks price c d e = (B : Budget) (objects : List Object) (h : Heap)
      → Fine walk.setting walk.l walk.around
      objects h → (waiting : List Waiting) (wc wd : ℕ) → Held walk.l objects c wc → Held walk.l objects d wd
      → Answers walk B objects waiting e → Reached (More cost above asks price B) (state 12 (bind 0
      (wc ∷ wd ∷ []) no_locals)
      (compose_code
      walk.first) [] waiting h)

  abbrev one_read : ℕ → ℕ → ℕ → ℕ → Locals
  one_read wc wd head k = set_local 3 k (set_local 2 head (bind 0 (wc ∷ wd ∷ []) no_locals))

  abbrev both_read : ℕ → ℕ → ℕ → ℕ → ℕ → ℕ → Locals
  both_read wc wd head k head2 k2 = set_local 5 k2 (set_local 4 head2 (one_read wc wd head k))

  pub reads_first : {B : Budget} → (objects : List Object) (h : Heap) (fine : Fine walk.setting walk.l walk.around
      objects h) (waiting : List Waiting) (wc wd k y m : ℕ) (ws : List ℕ) → There walk.l objects wc
      (Fixed (header k y m) ws) → k < 256 → ((rests : List Code) → Reached B (state 12 (one_read wc wd (header k y m) k)
      (compose_first walk.first) rests waiting h)) → Reached (More 3 0 0 22 B) (state 12 (bind 0
      (wc ∷ wd ∷ []) no_locals)
      (compose_code walk.first) [] waiting h)
  reads_first objects h fine waiting wc wd k y m ws there lt go =
      reads_kind walk objects h fine waiting [] (bind 0 (wc ∷ wd ∷ []) no_locals) 12 0 2 3 wc k y m ws refl there lt
      refl refl refl refl refl refl go

  pub reads_both : {B : Budget} → (objects : List Object) (h : Heap) (fine : Fine walk.setting walk.l walk.around
      objects h) (waiting : List Waiting) (wc wd k y m : ℕ) (ws : List ℕ) → There walk.l objects wc
      (Fixed (header k y m) ws) → k < 256 → (k == 14) ≡ false → (k == 8) ≡ false → (k2 y2 m2 : ℕ) (ws2 : List ℕ)
      → There walk.l objects wd (Fixed (header k2 y2 m2) ws2) → k2 < 256 → ((rests : List Code)
      → Reached B (state 12 (both_read wc wd (header k y m) k (header k2 y2 m2) k2) (compose_third walk.first) rests
      waiting h))
      → Reached (More 8 0 0 72 B) (state 12 (bind 0 (wc ∷ wd ∷ []) no_locals) (compose_code walk.first) [] waiting h)
  reads_both objects h fine waiting wc wd k y m ws there lt no14 no8 k2 y2 m2 ws2 there2 lt2 go =
      at_most walk
      (reads_first objects h fine waiting wc wd k y m ws there lt
      (λ rests. if_false walk objects fine k 14 refl refl no14
      (if_false walk objects fine k 8 refl refl no8
      (reads_kind walk objects h fine waiting _ (one_read wc wd (header k y m) k) 12 1 4 5 wd k2 y2 m2 ws2 refl there2
      lt2 refl refl refl refl refl refl go))))
      (omega arith, omega arith, omega arith, omega arith)

  pub id_first : (d : Coercion) → ComposeDoes 1 0 0 20 Id d d
  id_first d B objects h fine waiting wc wd hc hd go =
      at_most walk
      (if_true walk objects fine wc 0 refl refl (eq_true wc 0 hc)
      (go objects h wd 12 _ _ (Word 1) (grows_not objects) fine hd refl))
      (omega arith, omega arith, omega arith, omega arith)

  pub fail_first : (label : ℕ) (d : Coercion) → ComposeDoes 5 0 0 56 (Fail label) d (Fail label)
  fail_first label d B objects h fine waiting wc wd hc hd go =
      at_most walk
      (reads_first objects h fine waiting wc wd 8 0 1 (label ∷ []) hc (omega arith)
      (λ rests. if_false walk objects fine 8 14 refl refl refl
      (if_true walk objects fine 8 8 refl refl refl
      (go objects h wc 12 _ _ (Word 0) (grows_not objects) fine hc refl))))
      (omega arith, omega arith, omega arith, omega arith)

  -- an object that is neither a Fail nor a Project, before Id
  pub id_second : {B : Budget} → (objects : List Object) (h : Heap) (fine : Fine walk.setting walk.l walk.around objects
      h) (waiting : List Waiting) (wc wd k y m : ℕ) (ws : List ℕ) → There walk.l objects wc (Fixed (header k y m) ws)
      → k < 256 → (k == 14) ≡ false → (k == 8) ≡ false → wd ≡ 0 → (c : Coercion) → Held walk.l objects c wc
      → Answers walk B objects waiting c → Reached (More 6 0 0 70 B) (state 12 (bind 0 (wc ∷ wd ∷ []) no_locals)
      (compose_code
      walk.first) [] waiting h)
  id_second objects h fine waiting wc wd k y m ws there lt no14 no8 z c hc go =
      at_most walk
      (reads_first objects h fine waiting wc wd k y m ws there lt
      (λ rests. if_false walk objects fine k 14 refl refl no14
      (if_false walk objects fine k 8 refl refl no8
      (if_true walk objects fine wd 0 refl refl (eq_true wd 0 z)
      (go objects h wc 12 _ _ (Word 0) (grows_not objects) fine hc refl)))))
      (omega arith, omega arith, omega arith, omega arith)

  abbrev th : ℕ → ℕ
  th = (height_in walk.l)

  pub type_there : (objects : List Object) (w type : ℕ) → HoldsType walk.l objects w type → There walk.l objects w
      (Fixed (header (type_kind ((rows_in walk.l) type)) (th type) (length (parts_of ((rows_in walk.l) type))))
      (map walk.l.type_at (parts_of ((rows_in walk.l) type))))
  type_there objects w type t = inl (subst (λ n. object_at walk.l.statics walk.l.first n ≡ Some
      (Fixed (header (type_kind ((rows_in walk.l) type)) (th type) (length (parts_of ((rows_in walk.l) type))))
      (map walk.l.type_at (parts_of ((rows_in walk.l) type))))) (sym t.is) (walk.types.stands type t.known))

  pub type_tall : (objects : List Object) (w type : ℕ) → HoldsType walk.l objects w type → HasHeight walk.l objects w
      (th type)
  type_tall objects w type t = inr (record {
    kind = type_kind ((rows_in walk.l) type);
    count = length
        (parts_of ((rows_in walk.l) type));
    words = map walk.l.type_at (parts_of ((rows_in walk.l) type));
    there =
        type_there objects w type t;
    low = type_numbers ((rows_in walk.l) type);
    small = let z = walk.types.low type in
        omega arith;
  })

  pub type_small : (objects : List Object) (h : Heap) → Fine walk.setting walk.l walk.around objects h → (w type : ℕ)
      → HoldsType walk.l objects w type → w < 2 ^ 64
  type_small objects h fine w type t = (not_zero walk objects h fine w _ _ (type_there objects w type t)).1

  pub type_still : (old new : List Object) (w type : ℕ) → HoldsType walk.l old w type → HoldsType walk.l new w type
  type_still old new w type t = record { known = t.known; is = t.is }

  -- a middle before an Inject
  pub onto : (cost above asks price : ℕ) (kind : Kind) (cs : Coercions) (g e : Coercion) (kept : ℕ)
      → coercion_height th e < 65535
      → ComposeDoes cost above asks price (Middle kind cs) g e
      → ComposeDoes (cost + 40) (suc above) (asks + 3) (price + 393) (Middle kind cs) (Inject g kept) (Inject e kept)
  onto cost above asks price kind cs g e kept low rec B objects h fine waiting wc wd hc hd go =
      let hk = kind_number kind in
      let words2 = hd.0 ∷ hd.1 ∷ [] in
      let y2 = coercion_height th (Inject g kept) in
      let y = coercion_height th e in
      let tk = walk.types.low kept in
      let H = max (max 0 y) (th kept) in
      at_most walk
      (reads_both objects h fine waiting wc wd hk (coercion_height th (Middle kind cs)) (length hc.0) hc.0 hc.1
      (numbers kind) (no_middle kind 14 (inr (omega arith))) (no_middle kind 8 (inl refl)) 13 y2 2 words2 hd.2
      (omega arith)
      (λ rests. if_false walk objects fine 13 8 refl refl refl
      (if_false walk objects fine hk 13 refl refl (no_middle kind 13 (inr (omega arith)))
      (if_true walk objects fine 13 13 refl refl refl
      (loads walk objects fine wd (inject_header y2) words2 1 hd.0 refl hd.2 refl refl refl
      (calls walk objects fine (wc ∷ hd.0 ∷ []) (compose_proc walk.first) refl (walk.stands compose_place _ refl) refl
      (rec _ objects h fine _ wc hd.0 hc hd.3
      (λ new h' w count locals rests' a grows fine' held is. comes_back walk new fine' w is refl
      (loads walk new fine' wd (inject_header y2) words2 2 hd.1 refl
      (there_still walk.l objects new wd _ grows hd.2) refl
      refl refl
      (calls walk new fine' (0 ∷ w ∷ []) raise_proc refl (walk.stands raise_place _ refl) refl
      (raised walk new h' fine' _ 0 w y (has_height walk.l new e w (omega (arith, low)) held)
      (λ count2 locals2 rests2 a2 is2. comes_back walk new fine' (max 0 y) is2 refl
      (calls walk new fine' (max 0 y ∷ hd.1 ∷ []) raise_proc refl (walk.stands raise_place _ refl) refl
      (raised walk new h' fine' _ (max 0 y) hd.1 (th kept) (type_tall new hd.1 kept (type_still objects new hd.1 kept
      hd.4))
      (λ count3 locals3 rests3 a3 is3. comes_back walk new fine' H is3 refl
      (computes walk new fine' H 16 (compute Sll H 16) refl refl refl refl
      (computes walk new fine' (compute Sll H 16) 8589934605 (inject_header H) refl refl
      (header_made 13 H 2 (omega arith)
      (omega (arith, low, tk)) (omega arith)) refl
      (builds walk new fine' (inject_header H) (w ∷ hd.1 ∷ []) refl (omega arith) (omega arith) (
        header_small 13 H 2
            (omega arith) (omega (arith, low, tk)) (omega arith),
        (
          held_small walk new h' fine' e w held,
          (type_small objects h fine hd.1 kept hd.4, tt),
        ),
      ) (WholeInject w hd.1 y kept (ap (λ n. Fixed (inject_header n)
      (w ∷ hd.1 ∷ [])) (no_max y (th kept))) (coercion_word walk.l new e w (omega (arith, low)) held)
      (type_still objects new hd.1 kept
      hd.4)) refl
      (λ h'' fine''. let later = new ++ Fixed (inject_header H) (w ∷ hd.1 ∷ []) ∷ [] in go later h'' h'.alloc 12 _ _
      (Word 10) (grows_on objects new later grows (one_more walk new (Fixed (inject_header H) (w ∷ hd.1 ∷ []))))
      fine'' (
        w,
        hd.1,
        subst (λ n. There walk.l later h'.alloc (Fixed (inject_header n) (w ∷ hd.1 ∷ [])))
            (no_max y (th kept)) (added walk new h' fine' (Fixed (inject_header H) (w ∷ hd.1 ∷ []))),
        held_still walk.l new
            later (one_more walk new (Fixed (inject_header H) (w ∷ hd.1 ∷ []))) e w held,
        type_still objects later hd.1 kept
            hd.4,
      ) refl)))))))))))))))))))
      (omega arith, omega arith, omega arith, omega arith)

  -- the words of an object are small
  pub part_small : (objects : List Object) (h : Heap) → Fine walk.setting walk.l walk.around objects h → (at head : ℕ)
      (ws : List ℕ) → There walk.l objects at (Fixed head ws) → (i w : ℕ) → slice_get (head ∷ ws) i ≡ Some w
      → w < 2 ^ 64
  part_small objects h fine at head ws there i w e = (word_there walk objects h fine at head ws there i w (at + 8 * i) e
      refl).small

  -- a Project
  pub projects : (cost above asks price : ℕ) (wanted label : ℕ) (i d e : Coercion)
      → coercion_height th (final e) < 65535
      → ComposeDoes cost above asks price i d e → ComposeDoes (cost + 45) (suc above) (asks + 4) (price + 396)
      (Project wanted label i) d (Project wanted label (final e))
  projects cost above asks price wanted label i d e low rec B objects h fine waiting wc wd hc hd go =
      let y1 = coercion_height th (Project wanted label i) in
      let ws = hc.0 ∷ label ∷ hc.1 ∷ [] in
      let y = coercion_height th (final e) in
      let tk = walk.types.low wanted in
      let H = max (max 0 (th wanted)) y in
      at_most walk
      (reads_first objects h fine waiting wc wd 14 y1 3 ws hc.2 (omega arith)
      (λ rests. if_true walk objects fine 14 14 refl refl refl
      (loads walk objects fine wc (project_header y1) ws 3 hc.1 refl hc.2 refl refl refl
      (calls walk objects fine (hc.1 ∷ wd ∷ []) (compose_proc walk.first) refl (walk.stands compose_place _ refl) refl
      (rec _ objects h fine _ hc.1 wd hc.4 hd
      (λ new h' w count locals rests' a grows fine' held is. comes_back walk new fine' w is refl
      (calls walk new fine' (w ∷ []) final_proc refl (walk.stands final_place _ refl) refl
      (finals walk new h' fine' _ e w held
      (λ count1 locals1 rests1 a1 is1. comes_back walk new fine' (final_word e w) is1 refl
      (loads walk new fine' wc (project_header y1) ws 1 hc.0 refl (there_still walk.l objects new wc _ grows hc.2) refl
      refl refl
      (loads walk new fine' wc (project_header y1) ws 2 label refl (there_still walk.l objects new wc _ grows hc.2) refl
      refl refl
      (calls walk new fine' (0 ∷ hc.0 ∷ []) raise_proc refl (walk.stands raise_place _ refl) refl
      (raised walk new h' fine' _ 0 hc.0 (th wanted) (type_tall new hc.0 wanted (type_still objects new hc.0 wanted
      hc.3))
      (λ count2 locals2 rests2 a2 is2. comes_back walk new fine' (max 0 (th wanted)) is2 refl
      (calls walk new fine' (max 0 (th wanted) ∷ final_word e w ∷ []) raise_proc refl (walk.stands raise_place _ refl)
      refl
      (raised walk new h' fine' _ (max 0 (th wanted)) (final_word e w) y (has_height walk.l new (final e) (final_word e
      w) (omega (arith, low)) (final_held walk.l new e w held))
      (λ count3 locals3 rests3 a3 is3. comes_back walk new fine' H is3 refl
      (computes walk new fine' H 16 (compute Sll H 16) refl refl refl refl
      (computes walk new fine' (compute Sll H 16) 12884901902 (project_header H) refl refl (header_made 14 H 3
      (omega arith) (omega (arith, low, tk)) (omega arith)) refl
      (builds walk new fine' (project_header H) (hc.0 ∷ label ∷ final_word e w ∷ []) refl (omega arith) (omega arith) (
        header_small 14 H 3 (omega arith) (omega (arith, low, tk)) (omega arith),
        (
          type_small objects h fine hc.0
              wanted hc.3,
          (
            part_small objects h fine wc (project_header y1) ws hc.2 2 label refl,
            (
              held_small walk new h'
                  fine' (final e) (final_word e w) (final_held walk.l new e w held),
              tt,
            ),
          ),
        ),
      ) (WholeProject hc.0 label
      (final_word e w) y wanted (ap (λ n. Fixed (project_header n) (hc.0 ∷ label ∷ final_word e w ∷ []))
      (no_max (th wanted) y)) (type_still objects new hc.0 wanted hc.3) (coercion_word walk.l new (final e)
      (final_word e w) (omega (arith, low)) (final_held walk.l new e w held))) refl
      (λ h'' fine''. let later = new ++ Fixed (project_header H) (hc.0 ∷ label ∷ final_word e w ∷ []) ∷ []
      in go later h''
      h'.alloc 12 _ _ (Word 10) (grows_on objects new later grows (one_more walk new (Fixed (project_header H)
      (hc.0 ∷ label ∷ final_word e w ∷ [])))) fine'' (
        hc.0,
        final_word e w,
        subst (λ n. There walk.l later h'.alloc
            (Fixed (project_header n) (hc.0 ∷ label ∷ final_word e w ∷ []))) (no_max (th wanted) y) (added walk new h'
            fine'
            (Fixed (project_header H) (hc.0 ∷ label ∷ final_word e w ∷ []))),
        type_still objects later hc.0 wanted hc.3,
        held_still walk.l new later (one_more walk new (Fixed (project_header H) (hc.0 ∷ label ∷ final_word e w ∷ [])))
            (final e) (final_word e w) (final_held walk.l new e w held),
      ) refl)))))))))))))))))))))
      (omega arith, omega arith, omega arith, omega arith)

  -- coerce
  abbrev pub CoerceDoes : ℕ → ℕ → ℕ → ℕ → ℕ → ℕ → ℕ → Coercion → Type 0
  CoerceDoes cost above asks price from to label e = (B : Budget) (objects : List Object) (h : Heap)
      → Fine walk.setting walk.l
      walk.around objects h → (waiting : List Waiting) (wf wt : ℕ) → HoldsType walk.l objects wf from → HoldsType walk.l
      objects wt to → label < 2 ^ 64 → Answers walk B objects waiting e → Reached (More cost above asks price B)
      (state 11 (bind 0 (wf ∷ wt ∷ label ∷ []) no_locals) (coerce_code walk.first) [] waiting h)

  -- an Inject before a Project
  pub meets : (cost0 cost1 cost2 above asks0 asks1 asks2 price0 price1 price2 : ℕ) (g : Coercion)
      (kept wanted label : ℕ) (i e1 e2 e3 : Coercion) → CoerceDoes cost0 above asks0 price0 kept wanted label e1
      → ComposeDoes cost1 above asks1 price1 e1 i e2 → ComposeDoes cost2 above asks2 price2 g e2 e3
      → ComposeDoes (cost0 + cost1 + cost2 + 22) (suc above) (asks0 + asks1 + asks2) (price0 + price1 + price2 + 239)
      (Inject g kept) (Project wanted label i) e3
  meets cost0 cost1 cost2 above asks0 asks1 asks2 price0 price1 price2 g kept wanted label i e1 e2 e3 casts rec1 rec2 B
      objects h fine waiting wc wd hc hd go =
      let y1 = coercion_height th (Inject g kept) in
      let y2 = coercion_height th (Project wanted label i) in
      let ws1 = hc.0 ∷ hc.1 ∷ [] in
      let ws2 = hd.0 ∷ label ∷ hd.1 ∷ [] in
      at_most walk
      (reads_both objects h fine waiting wc wd 13 y1 2 ws1 hc.2 (omega arith) refl refl 14 y2 3 ws2 hd.2 (omega arith)
      (λ rests. if_false walk objects fine 14 8 refl refl refl
      (if_true walk objects fine 13 13 refl refl refl
      (if_true walk objects fine 14 14 refl refl refl
      (loads walk objects fine wc (inject_header y1) ws1 2 hc.1 refl hc.2 refl refl refl
      (loads walk objects fine wd (project_header y2) ws2 1 hd.0 refl hd.2 refl refl refl
      (loads walk objects fine wd (project_header y2) ws2 2 label refl hd.2 refl refl refl
      (calls walk objects fine (hc.1 ∷ hd.0 ∷ label ∷ []) (coerce_proc walk.first) refl (walk.stands coerce_place _
      refl) refl
      (casts _ objects h fine _ hc.1 hd.0 hc.4 hd.3 (part_small objects h fine wd (project_header y2) ws2 hd.2 2 label
      refl)
      (λ new h' w count locals rests' a grows fine' held is. comes_back walk new fine' w is refl
      (loads walk new fine' wd (project_header y2) ws2 3 hd.1 refl (there_still walk.l objects new wd _ grows hd.2) refl
      refl refl
      (calls walk new fine' (w ∷ hd.1 ∷ []) (compose_proc walk.first) refl (walk.stands compose_place _ refl) refl
      (rec1 _ new h' fine' _ w hd.1 held (held_still walk.l objects new grows i hd.1 hd.4)
      (λ new2 h2 w2 count2 locals2 rests2 a2 grows2 fine2 held2 is2. comes_back walk new2 fine2 w2 is2 refl
      (let far2 = grows_on objects new new2 grows grows2 in
      loads walk new2 fine2 wc (inject_header y1) ws1 1 hc.0 refl (there_still walk.l objects new2 wc _ far2 hc.2) refl
      refl refl
      (tail_calls walk new2 fine2 (hc.0 ∷ w2 ∷ []) (compose_proc walk.first) refl (walk.stands compose_place _ refl)
      refl
      (rec2 _ new2 h2 fine2 waiting hc.0 w2 (held_still walk.l objects new2 far2 g hc.0 hc.3) held2
      (λ new3 h3 w3 count3 locals3 rests3 a3 grows3 fine3 held3 is3. go new3 h3 w3 count3 locals3 rests3 a3
      (grows_on objects new2 new3 far2 grows3) fine3 held3 is3))))))))))))))))))
      (omega arith, omega arith, omega arith, omega arith)

  -- two middles
  -- one part, in its order
  part_done : {B : Budget} → (cost above asks price : ℕ) (next : Coercion → Coercion → Coercion) (c d : Coercion)
      → ComposeDoes cost above asks price c d (next c d) → ComposeDoes cost above asks price d c (next d c)
      → (kind : Kind) (n k e : ℕ) (b : Bool)
      → (k == n) ≡ b → (objects : List Object) (h : Heap) (fine : Fine walk.setting walk.l walk.around objects h)
      (waiting : List Waiting) (x y : ℕ) → Held walk.l objects c x → Held walk.l objects d y → Answers walk B objects
      waiting (follow_part next (runs_back kind b) c d) → Reached (More (cost + 4) above asks (price + 77) B)
      (state 6 (bind 0 (kind_number kind ∷ n ∷ k ∷ x ∷ y ∷ e ∷ []) no_locals) (part_proc walk.first).code [] waiting h)
  part_done {B = B} cost above asks price next c d there back kind n k e b t objects h fine waiting x y hx hy go =
      at_most walk
      (part_runs objects h fine waiting (λ x y. TailCall (compose walk.first) (x ∷ y ∷ [])) kind n k x y e b t
      (λ rests. by (runs_back kind b) rests go))
      (omega arith, omega arith, omega arith, omega arith)
    where
      by : (b : Bool) (rests : List Code) → Answers walk B objects waiting (follow_part next b c d)
          → Reached (Pay 36 (One (More cost above asks price B))) (state 6 (bind 0
          (kind_number kind ∷ n ∷ k ∷ x ∷ y ∷ e ∷ []) no_locals)
          (in_order (λ x y. TailCall (compose walk.first) (x ∷ y ∷ [])) b) rests waiting h)
      by true rests go =
          tail_calls walk objects fine (y ∷ x ∷ []) (compose_proc walk.first) refl (walk.stands compose_place _ refl)
          refl
          (back _ objects h fine waiting y x hy hx go)
      by false rests go =
          tail_calls walk objects fine (x ∷ y ∷ []) (compose_proc walk.first) refl (walk.stands compose_place _ refl)
          refl
          (there _ objects h fine waiting x y hx hy go)

  pub both : (cost above asks price : ℕ) (next : Coercion → Coercion → Coercion)
      → (kind other : Kind) (cs ds : Coercions)
      → coercion_height th (Middle kind cs) < 65536 → coercion_height th (Middle other ds) < 65536
      → ((i : ℕ) → ComposeDoes cost above asks price (nth cs i) (nth ds i) (next (nth cs i) (nth ds i)))
      → ((i : ℕ) → ComposeDoes cost above asks price (nth ds i) (nth cs i) (next (nth ds i) (nth cs i)))
      → ((i : ℕ) → coercion_height th (follow_at next kind cs ds i) < 65535) → ComposeDoes (both_cost walk.l.width cost)
      (suc above) (middle_words walk.l.width asks) (both_price walk.l.width price) (Middle kind cs) (Middle other ds)
      (cond (same_kind kind other) (middle kind (follow_parts next kind
      cs ds)) Id)
  both cost above asks price next kind other cs ds low1 low2 there back low B objects h fine waiting wc wd hc hd go =
      at_most walk
      (reads_both objects h fine waiting wc wd (kind_number kind) (coercion_height th (Middle kind cs)) (length hc.0)
      hc.0 hc.1 (numbers kind) (no_middle kind 14 (inr (omega arith))) (no_middle kind 8 (inl refl))
      (kind_number other) (coercion_height th (Middle other ds)) (length hd.0) hd.0 hd.1 (numbers other)
      (λ rests. if_false walk objects fine (kind_number other) 8 refl refl (no_middle other 8 (inl refl))
      (if_false walk objects fine (kind_number kind) 13 refl refl (no_middle kind 13 (inr (omega arith)))
      (if_false walk objects fine (kind_number other) 13 refl refl (no_middle other 13 (inr (omega arith)))
      (by_kind (same_kind kind other) refl _)))))
      (omega arith, omega arith, omega arith, omega arith)
    where
      y1 : ℕ
      y1 = coercion_height th (Middle kind cs)

      y2 : ℕ
      y2 = coercion_height th (Middle other ds)

      n1 : ℕ
      n1 = length hc.0

      n2 : ℕ
      n2 = length hd.0

      L : Locals
      L = both_read wc wd (header (kind_number kind) y1 n1) (kind_number kind) (header (kind_number other) y2 n2)
          (kind_number other)

      made : (r : ℕ) → HasWidth walk.l kind r → r ≤ n1 → r ≤ n2 → r ≡ min n1 n2 → Answers walk B objects waiting
          (middle kind (follow_parts next kind cs ds)) → Reached (More (2 + parts_cost (cost + 4) walk.l.width)
          (suc above) (middle_words walk.l.width asks) (middle_price walk.l.width (77 + price)) B) (state 24 (bind 0
          (wc ∷ wd ∷ kind_number kind ∷ n1 ∷ 0 ∷ []) no_locals) (middle_code (raise walk.first)
          (part walk.first) each_word r) [] waiting h)
      made r wide le1 le2 e go =
          let c1 : count cs ≡ n1 = as_many walk.l objects cs hc.0 hc.2 in
          let c2 : count ds ≡ n2 = as_many walk.l objects ds hd.0 hd.2 in
          let m : list_of (follow_at next kind cs ds) r 0 ≡ follow_parts next kind cs ds = follow_list next kind
          (follow_at next kind cs ds) cs ds 0 r (omega (arith, c1, c2)) (λ i lt. let z : 0 + i ≡ i = omega arith in
          ap (follow_at next kind cs ds) z) in
          at_most walk ((middle_made walk (raise walk.first) (part walk.first) (part_proc walk.first)
          (walk.stands raise_place _
          refl) (walk.stands part_place _ refl) refl refl (cost + 4) above asks (price + 77) each_word r
          (few_parts kind r wide.0) objects waiting
          kind wide wc wd n1 0 (header (kind_number kind) y1 n1) (header (kind_number other) y2 n2) hc.0 hd.0 hc.1
          hd.1 (follow_at next kind cs ds) (word_at hc.0) (word_at hd.0) suc (λ k. omega arith) (λ k lt. got hc.0 k
          (omega arith)) (λ k lt. got hd.0 k (omega arith)) (λ k lt. low k)
          (λ k lt B now h' waiting' grows fine' answers. part_done cost above asks price next (nth cs k) (nth ds k)
          (there k)
          (back k) kind n1 (suc k) 0 (suc k == count cs) (ap (λ n. suc k == n) (sym c1)) now h' fine' waiting'
          (word_at hc.0 k) (word_at hd.0 k) (held_still walk.l objects now grows (nth cs k) (word_at hc.0 k)
          (nth_held walk.l objects cs hc.0 hc.2 k (omega arith))) (held_still walk.l objects now grows (nth ds k)
          (word_at hd.0 k) (nth_held walk.l objects ds hd.0 hd.2 k (omega arith))) answers)
          h fine (subst (λ q. Answers walk B objects waiting (middle kind q)) (sym m) go))) (
            (let z = parts_less (cost + 4) r walk.l.width wide.1 in omega arith),
            omega arith,
            (let z = words_less asks r walk.l.width wide.1 in omega (arith, z)),
            (let z = price_less (77 + price) r walk.l.width wide.1 in omega (arith, z)),
          )

      by_kind : (b : Bool) → same_kind kind other ≡ b → (rests : List Code)
          → Reached (More (32 + parts_cost (cost + 4) walk.l.width) (suc above) (middle_words walk.l.width asks)
          (197 + middle_price walk.l.width (77 + price)) B) (state 12 L (either Eq (Word 3)
          (Word 5)
          (compose_both walk.first) (Return (Number 0))) rests waiting h)
      by_kind false e rests =
          at_most walk
          (if_false walk objects fine (kind_number kind) (kind_number other) refl refl (kinds_same kind other ∙ e)
          (go objects h 0 12 L _ (Number 0) (grows_not objects) fine (subst (λ b. Held walk.l objects
          (cond b (middle kind (follow_parts next kind cs ds)) Id) 0) (sym e) refl) refl))
          (omega arith, omega arith, omega arith, omega arith)
      by_kind true e rests =
          let go' : Answers walk B objects waiting (middle kind (follow_parts next kind cs ds)) = subst (λ b. Answers
          walk B objects waiting (cond b (middle kind (follow_parts next kind cs ds)) Id)) e go in
          at_most walk
          (if_true walk objects fine (kind_number kind) (kind_number other) refl refl (kinds_same kind other ∙ e)
          (computes walk objects fine (header (kind_number kind) y1 n1) 32 n1 refl refl (count_read (kind_number kind)
          y1 n1 (let z = numbers kind in omega arith) low1) refl
          (computes walk objects fine (header (kind_number other) y2 n2) 32 n2 refl refl (count_read (kind_number other)
          y2 n2 (let z = numbers other in omega arith) low2) refl
          (elim (lt_cases n1 n2) [
            | inl lt ↦ if_true walk objects fine n1 n2 refl refl (lt_true n1 n2 lt) (picks (middle_of walk.first)
                (part walk.first) middle_stands objects h fine waiting _ 6 n1 8 _ wc wd (kind_number kind) n1 0
                (omega arith) (few_parts kind n1 hc.3.0) refl refl (made n1 hc.3 (omega arith) (omega (arith, lt))
                (omega (arith, lt)) go') refl)
            | inr ge ↦ if_false walk objects fine n1 n2 refl refl (lt_false n1 n2 ge) (picks (middle_of walk.first)
                (part walk.first) middle_stands objects h fine waiting _ 7 n2 8 _ wc wd (kind_number kind) n1 0
                (omega arith) (few_parts other n2 hd.3.0) refl refl (made n2 (subst (λ k. HasWidth walk.l k n2)
                (sym (kind_is kind other e)) hd.3) (omega (arith, ge)) (omega arith) (omega (arith, ge)) go') refl)
          ]))))
          (omega arith, omega arith, omega arith, omega arith)
