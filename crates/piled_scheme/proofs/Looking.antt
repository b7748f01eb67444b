-- Steps of procedures of six words over the storage that they were entered with, in the turn that begins in a state.
use Rattle.std.proofs.Common.{◌≡◌, ℕ, suc, ◌+◌, ◌*◌, ◌<◌, ◌≤◌, true, List, ◌∷◌, Some, refl, subst, arith}
use Rattle.std.proofs.Common.{slice_get}
use Rattle.core_calc.specs.Account.{Measures}
use Rattle.machine_words.specs.Memory.{load_bytes}
use Rattle.low_ir.specs.declared.code.LowSource.{LowSource}
use Rattle.low_ir.specs.declared.code.LowSource.TheVariants.{Word}
use Rattle.low_ir.specs.declared.code.WordOp.TheVariants.{And, Sub}
use Rattle.low_ir.specs.Operations.{compute}
use Rattle.low_ir.specs.Procedures.{Code, Load}
use Rattle.low_ir.specs.Steps.{Locals, set_local, may_load}
use Rattle.low_ir.specs.Run.{Setting, LowState, word_of}
use Rattle.cast_modes.specs.Modes.{TypeCast}
use Rattle.coercion_norm.specs.Held.{Layout, There}
use Rattle.coercion_norm.specs.Objects.{Object, Fixed, header_of}
use Rattle.flat_ir.specs.Bodies.{Proc}
use Rattle.object_layout.specs.Words.{kind_mask}
use Rattle.low_ir.specs.Codes.{blame_code}
use Rattle.rt_cast.specs.States.{Placed, heap_of}
use Rattle.lower.specs.Storage.{Filled}
use Rattle.lower.proofs.Public.{word_there, header_there}
use Rattle.lower.proofs.Public.{at, Comes, Calm, Goal, here, loads, computes}
use Rattle.piled_scheme.specs.Codes.{look, blame_part}
use Rattle.piled_scheme.specs.Piling.{piled_meaning, most_labels}
use Rattle.piled_scheme.proofs.Walking.{Way, room_of, calm_at, goal}

subtracted : (label : ℕ) → label < most_labels → compute Sub (suc label) 1 ≡ label
subtracted label small = omega (arith, small)

-- a walk from a state: what is to hold at its end and on the way, and from which states it comes to its end
pub record Walk (setting : Setting) (s : LowState) : Type 1 where
  pub Q : Goal
  pub P : LowState → Type 0
  pub To : LowState → Type 0
  pub calm : Calm setting P Q 6 s.waiting s.world (heap_of s)

module _ (setting : Setting) (l : Layout) (procs : List Proc) (casts : List TypeCast) (m : Measures)
    (placed : Placed setting l) (s : LowState) (objects : List Object) where
  abbrev pub inside : List Code → Locals → Code → LowState
  inside rests locals code = at s.world (heap_of s) s.waiting 6 rests locals code

  -- told the state in which the turn begins, what it asks for, how much is to be left, the numbers of wrap steps,
  -- and where the turn ends
  module _ (t : LowState) (asks need n n' : ℕ) (X : ℕ → LowState → Type 0) (same : t.words ≡ s.words)
      (filled : Filled piled_meaning setting l n objects (heap_of s)) where
    abbrev pub Q : Goal
    Q = goal setting l procs casts m s t asks need X

    abbrev pub P : LowState → Type 0
    P = Way setting l procs casts m s t asks n n'

    abbrev pub To : LowState → Type 0
    To u = Comes setting P Q u

    pub calm : Calm setting P Q 6 s.waiting s.world (heap_of s)
    calm = calm_at setting l procs casts m s t asks n n' Q objects (heap_of s) filled (omega (arith, same)) 6
        (omega arith)

    abbrev pub walk : Walk setting s
    walk = record { Q = Q; P = P; To = To; calm = calm }

    -- it ends here
    pub ends : (rests : List Code) (locals : Locals) (code : Code)
        → ((credit : ℕ) → need ≤ credit → X credit (inside rests locals code)) → To (inside rests locals code)
    ends rests locals code go =
        here setting P Q (inside rests locals code)
        (omega (arith, same), room_of setting l procs casts m s (inside rests locals code) refl (omega arith), go)

    -- a word of an object that never changes
    pub loads_word : {d offset : ℕ} {source : LowSource} {rest : Code} {rests : List Code} {locals : Locals}
        (a header : ℕ) (ws : List ℕ) → There l objects a (Fixed header ws) → (i w : ℕ)
        → slice_get (header ∷ ws) i ≡ Some w → offset ≡ 8 * i → word_of locals source ≡ Some a → d < 6
        → To (inside rests (set_local d w locals) rest) → To (inside rests locals (Load d source offset rest))
    loads_word {offset = offset} a header ws stands i w got e is lt c =
        let z = word_there piled_meaning setting l placed objects (heap_of s) filled a header ws stands i w (a + offset)
        got (omega (arith, e)) in
        loads setting P Q calm a w is z.may z.is (let q = z.end in omega (arith, q)) lt c

    -- a header
    pub loads_header : {d : ℕ} {source : LowSource} {rest : Code} {rests : List Code} {locals : Locals} (a : ℕ)
        (o : Object) → There l objects a o → word_of locals source ≡ Some a → d < 6
        → To (inside rests (set_local d (header_of o) locals) rest) → To (inside rests locals (Load d source 0 rest))
    loads_header a o stands is lt c =
        let z = header_there piled_meaning setting l placed objects (heap_of s) filled a o stands in
        let e : a ≡ a + 0 = omega arith in
        loads setting P Q calm a (header_of o) is (subst (λ x. may_load setting.top x ≡ true) e z.may)
        (subst (λ x. load_bytes 8 s.memory x ≡ header_of o) e z.is) (let q = z.end in omega (arith, q)) lt c

    -- the kind of what stands there is looked at
    pub looked : {rest : Code} {rests : List Code} {locals : Locals} (w : ℕ) (o : Object) → There l objects w o
        → word_of locals (Word 0) ≡ Some w → (kind : ℕ) → compute And (header_of o) kind_mask ≡ kind
        → To (inside rests (set_local 2 kind (set_local 2 (header_of o) locals)) rest)
        → To (inside rests locals (look rest))
    looked w o stands word kind is c =
        loads_header w o stands word (omega arith)
        (computes setting P Q calm (header_of o) kind_mask kind refl refl is (omega arith) c)

    -- word 3 is one more than the label that is blamed
    pub blamed : {rests : List Code} {locals : Locals} (label : ℕ) → label < most_labels
        → word_of locals (Word 3) ≡ Some (suc label)
        → ((credit : ℕ) → need ≤ credit
        → X credit (inside rests (set_local 3 label locals) (blame_code (Word 3))))
        → To (inside rests locals blame_part)
    blamed {rests = rests} {locals = locals} label small is go =
        computes setting P Q calm (suc label) 1 label is refl (subtracted label small) (omega arith)
        (ends rests (set_local 3 label locals) (blame_code (Word 3)) go)
