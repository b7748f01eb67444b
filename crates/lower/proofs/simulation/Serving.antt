-- Code that fetches operands, tests the kind of an object, and calls a procedure of the scheme.
use Rattle.std.proofs.Common.{◌≡◌, ◌⊎◌, inl, inr, ℕ, ◌+◌, ◌*◌, ◌^◌, ◌%◌, ◌<◌, ◌≤◌, List, ◌∷◌, length, Some}
use Rattle.std.proofs.Common.{true, false, refl, sym, ap, ◌∙◌, subst, arith}
use Rattle.machine_words.specs.declared.conditions.Cond.TheVariants.{Eq}
use Rattle.machine_words.specs.Memory.{load_bytes}
use Rattle.machine_words.specs.Conditions.{holds}
use Rattle.low_ir.specs.declared.code.LowSource.{LowSource}
use Rattle.low_ir.specs.Procedures.{Code}
use Rattle.low_ir.specs.Steps.{Locals, set_local, may_load}
use Rattle.low_ir.specs.Run.{Waiting as LowWaiting, LowState, word_of, words_of}
use Rattle.cast_modes.specs.RunValues.{RunInt, RunBool, RunUnit, RunFun, RunTuple, RunLoc, RunWrap, RunInject}
use Rattle.cast_modes.specs.RunValues.{in_row}
use Rattle.coercion_norm.specs.Held.{TypesStand}
use Rattle.coercion_norm.specs.ObjectsOfRows.{header}
use Rattle.coercion_norm.specs.Objects.{Object, Fixed}
use Rattle.flat_ir.specs.declared.code.Operand.{Operand}
use Rattle.flat_ir.specs.Closed.{operands_bound}
use Rattle.flat_ir.specs.Machine.{FlatValue, FlatAfter, FlatState, Group, values}
use Rattle.flat_ir.specs.Machine.{Locals as FlatLocals}
use Rattle.lowered_code.specs.declared.numbering.Shape.{Shape}
use Rattle.lower.specs.Meanings.{IsWrapper}
use Rattle.object_layout.specs.Words.{kind_mask}
use Rattle.rt_cast.specs.States.{Heap}
use Rattle.lower.specs.Storage.{Filled}
use Rattle.lowered_code.specs.Numbering.{operand_word, test_word}
use Rattle.lowered_code.specs.Emit.{fetch_all, found_all, of_kind}
use Rattle.lower.specs.CarriedValues.{CarriedIn, AreCarried}
use Rattle.lower.specs.Relation.{Knows}
use Rattle.lower.proofs.heap.Filled.{WordThere, header_there}
use Rattle.lower.proofs.simulation.RelationKept.{word_here, word_other}
use Rattle.lower.proofs.words.Arithmetic.{header_is, kind_read}
use Rattle.lower.proofs.words.Steps.{at, Comes, Calm, Goal, loads_first, computes, if_false}
use Rattle.lower.proofs.words.Operands.{fetch_all_reads, Changes, ChangesFrom}
use Rattle.lower.proofs.simulation.Way.{Program, room_over, stays_in}
use Rattle.lower.proofs.simulation.Services.{OnTurn, Calling, calling_goal, some_calls, later_calls}
use Rattle.lower.proofs.simulation.Services.{starts_now}
use Rattle.lower.proofs.simulation.Casts.{serving_scene, as_it_was}

-- what carries a value in wrappers is one
pub wrapped_there : (program : Program) (places : List ℕ) (objects : List Object) (v : FlatValue program.meaning.Cast)
    (cast : program.meaning.Cast) (casts : List program.meaning.Cast) (w : ℕ)
    → CarriedIn program.l program.setting.address program.procs program.meaning places objects v (cast ∷ casts) w
    → IsWrapper program.l objects w
wrapped_there program places objects (RunFun code captured) cast casts w c =
    program.laws.wrapper program.l objects (cast ∷ casts) c.0 w c.1
wrapped_there program places objects (RunTuple values) cast casts w c =
    program.laws.wrapper program.l objects (cast ∷ casts) c.0 w c.1
wrapped_there program places objects (RunLoc cell is_vector) cast casts w c =
    program.laws.wrapper program.l objects (cast ∷ casts) c.0 w c.1
wrapped_there program places objects (RunWrap v other) cast casts w c =
    wrapped_there program places objects v other (cast ∷ casts) w c
wrapped_there program places objects (RunInt n) cast casts w c = absurd c
wrapped_there program places objects (RunBool b) cast casts w c = absurd c
wrapped_there program places objects RunUnit cast casts w c = absurd c
wrapped_there program places objects (RunInject v kept) cast casts w c = absurd c

module _ (program : Program) (typed : TypesStand program.l) (f : FlatState program.meaning.Cast) (places : List ℕ)
    (objects : List Object) (h : Heap)
    (filled : Filled program.meaning program.setting program.l program.number objects h)
    (waiting : List LowWaiting) (size : ℕ) (rests : List Code) (s : Shape) (count depth : ℕ)
    (group : Group program.meaning.Cast) (locals : FlatLocals program.meaning.Cast) (room : s.params + 10 ≤ size)
    (x : FlatAfter program.meaning.Cast) (w floor have before : ℕ) where
  abbrev pub P : LowState → Type 0
  P = OnTurn program typed f w h.words (room_over program size waiting)

  abbrev pub Q : Goal
  Q = calling_goal program typed f floor have before x w h.words (room_over program size waiting)

  abbrev pub Calls : LowState → Type 0
  Calls t = Calling program typed f floor have before x w t

  calm : Calm program.setting P Q size waiting f.world h
  calm rr now code = record {
    same = refl;
    filling = inl (objects, filled);
    asked = omega arith;
    room = stays_in program size waiting;
  }

  -- the operands are fetched first
  pub after_fetching : (os : List Operand) (words : Locals) (k : Code)
      → operands_bound s.captured count depth os ≡ true → length os ≤ 8
      → Knows program.setting program.l program.run program.procs program.answer program.meaning places objects s count
      group depth locals words
      → ((ws : List ℕ) (new : Locals)
      → AreCarried program.l program.setting.address program.procs program.meaning places objects
      (in_row (values locals group os)) ws → words_of new (found_all s 0 os) ≡ Some ws
      → ChangesFrom (operand_word s 0) (length os) words new
      → Calling program typed f floor have before x w (at f.world h waiting size rests new k))
      → Calling program typed f floor have before x w (at f.world h waiting size rests words (fetch_all s 0 os k))
  after_fetching os words k bound few knows go =
      later_calls program typed f floor have before x w (at f.world h waiting size rests words (fetch_all s 0 os k))
      (fetch_all_reads (serving_scene program typed f places x w floor have before h.words
      (room_over program size waiting)) f.world h
      (as_it_was program f h.words) objects filled waiting size
      (stays_in program size waiting) rests s count group depth locals os 0 bound (omega (arith, few)) room words knows
      k (λ ws new carried are changed.
      starts_now program typed f floor have before x w (at f.world h waiting size rests new k)
      (go ws new carried are changed)))

  -- the kind of a wrapper is none that code looks for
  pub not_of_kind : (o : LowSource) (y kind : ℕ) (one other k : Code) (now : Locals) → kind < 256
      → (kind ≡ 2 → ⊥) → (kind ≡ 25 → ⊥) → word_of now o ≡ Some y → IsWrapper program.l objects y
      → ((new : Locals) → Changes (test_word s) now new
      → Comes program.setting (OnTurn program typed f w h.words (room_over program size waiting))
      (calling_goal program typed f floor have before x w h.words (room_over program size waiting))
      (at f.world h waiting size (k ∷ rests) new other))
      → Calling program typed f floor have before x w (at f.world h waiting size rests now
      (of_kind s o kind one other k))
  not_of_kind o y kind one other k now small not_proxy not_stacked e wrapper go =
      some_calls program typed f floor have before x w
      (at f.world h waiting size rests now (of_kind s o kind one other k))
      (loads_first program.setting P Q calm y head e
      (subst (λ n. may_load program.setting.top n ≡ true) none there.may)
      (subst (λ n. load_bytes 8 h.memory n ≡ head) none there.is) (let z = there.end in omega arith)
      (omega (arith, room))
      (computes program.setting P Q calm head kind_mask wrapper.kind (word_here t head now) refl
      (kind_read wrapper.kind wrapper.count low) (omega (arith, room))
      (if_false program.setting P Q calm wrapper.kind (kind % 2 ^ 64) (word_here t wrapper.kind first) refl different
      (go (set_local t wrapper.kind first)
      (λ j ne. word_other t wrapper.kind first j ne ∙ word_other t head now j ne)))))
    where
      t : ℕ
      t = test_word s

      head : ℕ
      head = wrapper.kind + 4294967296 * wrapper.count

      first : Locals
      first = set_local (test_word s) (wrapper.kind + 4294967296 * wrapper.count) now

      none : y ≡ y + 0
      none = omega arith

      there : WordThere program.meaning program.setting program.l program.placed h.memory y
          (wrapper.kind + 4294967296 * wrapper.count)
      there = subst (WordThere program.meaning program.setting program.l program.placed h.memory y)
          (header_is wrapper.kind wrapper.count)
          (header_there program.meaning program.setting program.l program.placed objects h filled y
          (Fixed (header wrapper.kind 0 wrapper.count) wrapper.words) wrapper.there)

      low : wrapper.kind < 256
      low = by_told wrapper.told
        where
          by_told : (wrapper.kind ≡ 2) ⊎ (wrapper.kind ≡ 25) → wrapper.kind < 256
          by_told (inl z) = omega (arith, z)
          by_told (inr z) = omega (arith, z)

      apart : wrapper.kind ≡ kind → ⊥
      apart z = by_told wrapper.told
        where
          by_told : (wrapper.kind ≡ 2) ⊎ (wrapper.kind ≡ 25) → ⊥
          by_told (inl q) = not_proxy (sym z ∙ q)
          by_told (inr q) = not_stacked (sym z ∙ q)

      different : holds Eq wrapper.kind (kind % 2 ^ 64) ≡ false
      different = not_same wrapper.kind kind apart small
        where
          not_same : (a b : ℕ) → (a ≡ b → ⊥) → b < 256 → holds Eq a (b % 2 ^ 64) ≡ false
          not_same a b ne lt =
              let e : b % 2 ^ 64 ≡ b = omega (arith, lt) in
              ap (λ n. holds Eq a n) e ∙ Rattle.std.proofs.Common.ne_eqb a b ne
