-- What the small procedures do.
use Rattle.std.proofs.Common.{◌≡◌, ◌⊎◌, inl, inr, ℕ, ◌^◌, ◌<◌, ◌≤◌}
use Rattle.std.proofs.Common.{true, false, List, [], ◌∷◌, ◌++◌, Some, refl, sym, ap, ◌∙◌, subst}
use Rattle.std.proofs.Common.{arith, append_assoc, append-nil}
use Rattle.std.specs.Prelude.{◌==◌, length, max, nat_lt}
use Rattle.object_layout.specs.Words.{kind_mask}
use Rattle.rt_cast.specs.States.{Grows, Heap, st, Fine}
use Rattle.low_ir.specs.Operations.{compute}
use Rattle.low_ir.specs.declared.code.WordOp.TheVariants.{And, Srl}
use Rattle.low_ir.specs.Steps.{Locals, no_locals, set_local}
use Rattle.low_ir.specs.declared.code.LowSource.{LowSource}
use Rattle.low_ir.specs.declared.code.LowSource.TheVariants.{Word, Number}
use Rattle.low_ir.specs.Procedures.{Code, Compute, Load, Return}
use Rattle.low_ir.specs.Codes.{either}
use Rattle.low_ir.specs.Prices.{slot_price}
use Rattle.machine_words.specs.declared.conditions.Cond.TheVariants.{Eq}
use Rattle.low_ir.specs.Run.{Waiting, LowState, word_of, bind}
use Rattle.coercion_norm.specs.Objects.{Object, Fixed, object_at}
use Rattle.coercion_norm.specs.Held.{Layout, There, Held, height_in}
use Rattle.coercion_norm.specs.ObjectsOfRows.{header, kind_number}
use Rattle.coercion_norm.specs.declared.middles.MiddleKind.{MiddleKind as Kind}
use Rattle.coercion_norm.specs.declared.middles.MiddleKind.TheVariants.{Fun as FunKind, Tup as TupKind}
use Rattle.coercion_norm.specs.declared.middles.MiddleKind.TheVariants.{Ref as RefKind, Vec as VecKind}
use Rattle.coercion_norm.specs.Coercions.{Coercion, Id, Fail, Middle, Inject, Project}
use Rattle.coercion_norm.specs.Heights.{coercion_height}
use Rattle.rt_cast.specs.PartCodes.{raise_code, final_code}
use Rattle.coercion_norm.proofs.Public.{object_kept}
use Rattle.rt_cast.proofs.HeaderNumbers.{eq_true, eq_false, lt_true, lt_false, lt_cases, kind_read, height_read}
use Rattle.rt_cast.proofs.Steps.{Budget, Pay, More, return_price, at_most, word_there, Comes, loads}
use Rattle.rt_cast.proofs.Steps.{computes, if_true, if_false}
use Rattle.rt_cast.proofs.Walks.{Walk}
use Rattle.rt_cast.proofs.Objects.{project_header}

pub grows_not : (os : List Object) → Grows os os
grows_not os = record { more = []; is = sym (append-nil os) }

pub grows_on : (a b c : List Object) → Grows a b → Grows b c → Grows a c
grows_on a b c g k = record {
  more = g.more ++ k.more;
  is = k.is ∙ (ap (λ x. x ++ k.more) g.is ∙ append_assoc a g.more
      k.more);
}

pub there_still : (l : Layout) (old new : List Object) (at : ℕ) (o : Object) → Grows old new → There l old at o
    → There l new at o
there_still l old new at o g (inl e) = inl e
there_still l old new at o g (inr e) = inr (subst (λ os. object_at os l.region at ≡ Some o) (sym g.is) (object_kept old
    g.more l.region at o e))

-- the word is 0, or an object's with this height
pub record Tall (l : Layout) (objects : List Object) (w y : ℕ) : Type 0 where
  pub kind : ℕ
  pub count : ℕ
  pub words : List ℕ
  pub there : There l objects w (Fixed (header kind y count) words)
  pub low : kind < 256
  pub small : y < 65536

abbrev pub HasHeight : Layout → List Object → ℕ → ℕ → Type 0
HasHeight l objects w y = ((w ≡ 0) × (y ≡ 0)) ⊎ Tall l objects w y

abbrev pub final_word : Coercion → ℕ → ℕ
final_word (Project wanted label i) w = 0
final_word Id w = w
final_word (Fail label) w = w
final_word (Middle kind parts) w = w
final_word (Inject g kept) w = w

pub numbers : (kind : Kind) → kind_number kind < 256
numbers FunKind = omega arith
numbers TupKind = omega arith
numbers RefKind = omega arith
numbers VecKind = omega arith

no_project : (kind : Kind) → (kind_number kind == 14) ≡ false
no_project FunKind = refl
no_project TupKind = refl
no_project RefKind = refl
no_project VecKind = refl

module _ {V : Type 0} (walk : Walk V) where
  abbrev pub ReachedIn : Budget → LowState → Type 0
  ReachedIn = Comes walk

  abbrev pub state_in : ℕ → Locals → Code → List Code → List Waiting → Heap → LowState
  state_in = st walk.around

  -- an object's address is not 0, and small
  pub not_zero : (objects : List Object) (h : Heap) → Fine walk.setting walk.l walk.around objects h → (at head : ℕ)
      (ws : List ℕ) → There walk.l objects at (Fixed head ws) → (65536 ≤ at) × (at < 2 ^ 64)
  not_zero objects h fine at head ws there =
      let z = word_there walk objects h fine at head ws there 0 head at refl (omega arith) in
      (z.place, omega (arith, z.end))

  -- a procedure that adds nothing answers this word
  abbrev pub Gives : Budget → Heap → List Waiting → ℕ → Type 0
  Gives B h waiting w = (count : ℕ) (locals : Locals) (rests : List Code) (a : LowSource) → word_of locals a ≡ Some w
      → ReachedIn (Pay (return_price count a) B) (state_in count locals (Return a) rests waiting h)

  -- past the test for Id, the header of an object goes into one word, and its kind into another
  pub reads_kind : {B : Budget} → (objects : List Object) (h : Heap)
      (fine : Fine walk.setting walk.l walk.around objects h) (waiting : List Waiting) (rests : List Code)
      (locals : Locals) (size own d e w k y m : ℕ) (ws : List ℕ) {end rest : Code} → word_of locals (Word own) ≡ Some w
      → There walk.l objects w (Fixed (header k y m) ws) → k < 256
      → slot_price own ≡ 1 → slot_price d ≡ 1 → slot_price e ≡ 1 → nat_lt d size ≡ true → nat_lt e size ≡ true
      → word_of (set_local d (header k y m) locals) (Word d) ≡ Some (header k y m)
      → ((rests : List Code) → ReachedIn B
      (state_in size (set_local e k (set_local d (header k y m) locals)) rest rests waiting h))
      → ReachedIn (More 3 0 0 22 B)
      (state_in size locals (either Eq (Word own) (Number 0) end (Load d (Word own) 0
      (Compute And e (Word d) (Number kind_mask) rest))) rests waiting h)
  reads_kind objects h fine waiting rests locals size own d e w k y m ws is there lt near first second fits held
      loaded go =
      let z = not_zero objects h fine w (header k y m) ws there in
      at_most walk
      (if_false walk objects fine w 0 is refl (eq_false w 0 (λ e. omega (arith, z.0)))
      (loads walk objects fine w (header k y m) ws 0 (header k y m) is there refl refl fits
      (computes walk objects fine (header k y m) kind_mask k loaded refl (kind_read k y m lt) held (go _))))
      (omega arith, omega arith, omega arith, omega (arith, near, first, second))

  pub raised : {B : Budget} → (objects : List Object) (h : Heap) (fine : Fine walk.setting walk.l walk.around objects h)
      (waiting : List Waiting) (x w y : ℕ) → HasHeight walk.l objects w y → Gives B h waiting (max x y) → ReachedIn
      (More 6 0 0 56 B)
      (state_in 3 (bind 0 (x ∷ w ∷ []) no_locals) raise_code [] waiting h)
  raised objects h fine waiting x w y (inl e) go =
      at_most walk
      (if_true walk objects fine w 0 refl refl (eq_true w 0 e.0)
      (go 3 _ _ (Word 0) (ap Some (omega (arith, e.1)))))
      (omega arith, omega arith, omega arith, omega arith)
  raised objects h fine waiting x w y (inr t) go =
      let n = not_zero objects h fine w (header t.kind y t.count) t.words t.there in
      let head = header t.kind y t.count in
      at_most walk
      (if_false walk objects fine w 0 refl refl (eq_false w 0 (λ e. omega (arith, n.0)))
      (loads walk objects fine w head t.words 0 head refl t.there refl refl refl
      (computes walk objects fine head 16 (compute Srl head 16) refl refl refl refl
      (computes walk objects fine (compute Srl head 16) 65535 y refl refl (height_read t.kind y t.count
      (omega (arith, t.low)) t.small) refl
      (elim (lt_cases x y) [
        | inl lt ↦ if_true walk objects fine x y refl refl (lt_true x y lt) (go 3 _ _ (Word 2)
            (ap Some (omega (arith, lt))))
        | inr le ↦ if_false walk objects fine x y refl refl (lt_false x y le) (go 3 _ _ (Word 0)
            (ap Some (omega (arith, le))))
      ])))))
      (omega arith, omega arith, omega arith, omega arith)

  keeps : {B : Budget} → (objects : List Object) (h : Heap) (fine : Fine walk.setting walk.l walk.around objects h)
      (waiting : List Waiting) (w k y n : ℕ) (ws : List ℕ) → There walk.l objects w (Fixed (header k y n) ws) → k < 256
      → (k == 14) ≡ false → Gives B h waiting w → ReachedIn (More 5 0 0 43 B) (state_in 2 (bind 0 (w ∷ []) no_locals)
      final_code [] waiting
      h)
  keeps objects h fine waiting w k y n ws there lt other go =
      let z = not_zero objects h fine w (header k y n) ws there in
      at_most walk
      (if_false walk objects fine w 0 refl refl (eq_false w 0 (λ e. omega (arith, z.0)))
      (loads walk objects fine w (header k y n) ws 0 (header k y n) refl there refl refl refl
      (computes walk objects fine (header k y n) kind_mask k refl refl (kind_read k y n lt) refl
      (if_false walk objects fine k 14 refl refl other (go 2 _ _ (Word 0) refl)))))
      (omega arith, omega arith, omega arith, omega arith)

  -- what follows 0 or an object that is no Project
  pub finals : {B : Budget} → (objects : List Object) (h : Heap) (fine : Fine walk.setting walk.l walk.around objects h)
      (waiting : List Waiting) (c : Coercion) (w : ℕ) → Held walk.l objects c w → Gives B h waiting (final_word c w)
      → ReachedIn (More 5 0 0 43 B) (state_in 2 (bind 0 (w ∷ []) no_locals) final_code [] waiting h)
  finals objects h fine waiting Id w held go = at_most walk (if_true walk objects fine w 0 refl refl (eq_true w 0 held)
      (go 2 _ _ (Word 0) refl)) (omega arith, omega arith, omega arith, omega arith)
  finals objects h fine waiting (Fail label) w held go = keeps objects h fine waiting w 8 0 1 (label ∷ []) held
      (omega arith) refl go
  finals objects h fine waiting (Middle kind parts) w held go = keeps objects h fine waiting w (kind_number kind)
      (coercion_height (height_in walk.l) (Middle kind parts)) (length held.0) held.0 held.1 (numbers kind)
      (no_project kind) go
  finals objects h fine waiting (Inject g kept) w held go = keeps objects h fine waiting w 13 (coercion_height
      (height_in walk.l) (Inject g kept)) 2 (held.0 ∷ held.1 ∷ []) held.2 (omega arith) refl go
  finals objects h fine waiting (Project wanted label i) w held go =
      let n = not_zero objects h fine w (project_header (coercion_height (height_in walk.l) (Project wanted label i)))
      (held.0 ∷ label ∷ held.1 ∷ []) held.2 in
      let head = project_header (coercion_height (height_in walk.l) (Project wanted label i)) in
      at_most walk
      (if_false walk objects fine w 0 refl refl (eq_false w 0 (λ e. omega (arith, n.0)))
      (loads walk objects fine w head (held.0 ∷ label ∷ held.1 ∷ []) 0 head refl held.2 refl refl refl
      (computes walk objects fine head kind_mask 14 refl refl (kind_read 14 (coercion_height (height_in walk.l)
      (Project wanted label i)) 3 (omega arith)) refl
      (if_true walk objects fine 14 14 refl refl refl (go 2 _ _ (Number 0) refl)))))
      (omega arith, omega arith, omega arith, omega arith)
