-- Which state of the virtual code goes with which state over words.
use Rattle.std.proofs.Common.{ℕ, suc, ◌+◌, ◌%◌, ◌^◌, ◌<◌, ◌≤◌, ◌≡◌, ◌⊎◌, inl, inr, Bool, List, [], ◌∷◌, ◌++◌, Some, ◌∙◌}
use Rattle.std.proofs.Common.{ap, subst, arith}
use Rattle.std.specs.Prelude.{length, slice_get}
use Rattle.grift_base.specs.World.{WorldState}
use Rattle.run_laws.specs.Runs.{Ending, Any}
use Rattle.run_laws.specs.Machines.{Machine, Alike, OnTheWay}
use Rattle.machine_words.specs.Memory.{Memory}
use Rattle.rv_machine.specs.Registers.{Registers}
use Rattle.machine_words.specs.Halts.{Halt}
use Rattle.low_ir.specs.Procedures.{Code, Proc}
use Rattle.low_ir.specs.Run.{Setting as LowSetting, Active as LowActive, Waiting, LowState, LowShown, proc_from}
use Rattle.low_ir.specs.Run.{low_machine, held_by as words_held}
use Rattle.low_ir.specs.Prices.{slot_price}
use Rattle.rv_select.specs.declared.convention.TheConstants.{ANSWER, STACK_END, ALLOCATION, REGION_END}
use Rattle.rv_select.specs.declared.code.VReg.TheVariants.{Real, Virtual}
use Rattle.rv_select.specs.declared.code.VirtualItem.{VirtualItem}
use Rattle.rv_select.specs.declared.code.VirtualItem.TheVariants.{Move, Mark, Jump}
use Rattle.rv_select.specs.Run.{Setting, Found, Active, Frame, VirtualState, Shown, held_by, mark_place, procedure_from}
use Rattle.rv_select.specs.Run.{procedure_at, virtual_machine}
use Rattle.rv_select.specs.Select.{params_items, code_items, out_items, answer_items}
use Rattle.rv_select.specs.Selected.{setting_of, SameRegion}
use Rattle.rv_select.specs.Prices.{end_price, virtual_price}
use Rattle.rv_select.proofs.Stretches.{Stands, stands_past, beyond, beyond_append, SameFixed}

-- what is still owed behind the steps of a state: each procedure that waits puts its answer into a word, for which the
-- call has paid, and then the run ends
abbrev pub owed : List Waiting → ℕ
owed [] = end_price
owed (w ∷ ws) = 1 + slot_price w.answer + owed ws

pub end_is_owed : (ws : List Waiting) → 6 ≤ owed ws
end_is_owed [] = omega arith
end_is_owed (w ∷ ws) = let i = end_is_owed ws in omega (arith, i)

pub all_owed : (n : ℕ) → n ≤ n
all_owed n = omega arith

-- a program over words, the code that was selected of it, and how its runs are told
pub record Program (V : Type 0) : Type 0 where
  pub reading : Halt → Ending V
  pub low : LowSetting
  pub items : List VirtualItem
  -- what the register of the stack's end holds
  pub stack : ℕ
  pub small : low.top < 2 ^ 64

module _ {V : Type 0} (program : Program V) where
  -- what the run of the items is told
  abbrev pub setting : Setting
  setting = setting_of program.low program.items

  -- the machine over words
  abbrev pub M : Machine LowState LowShown V
  M = low_machine program.reading program.low

  -- that of the items
  abbrev pub N : Machine VirtualState Shown V
  N = virtual_machine program.reading setting

  -- and what its items cost
  abbrev pub cost : VirtualState → ℕ
  cost = virtual_price setting

  -- these items stand here
  abbrev pub Here : ℕ → List VirtualItem → Type 0
  Here p xs = Stands program.reading setting p xs

  -- marks are found from their procedure's home
  abbrev pub IsFound : ℕ → ℕ → VirtualItem → Type 0
  IsFound home p (Mark m) = mark_place program.items home m ≡ Some p
  IsFound home p item = Unit {0}

  -- each mark of these items, from a place on, is found
  abbrev pub Finds : ℕ → ℕ → List VirtualItem → Type 0
  Finds home p [] = Unit {0}
  Finds home p (x ∷ xs) = IsFound home p x × Finds home (suc p) xs

  -- so is each of the first
  pub finds_front : (home : ℕ) (xs ys : List VirtualItem) (p : ℕ) → Finds home p (xs ++ ys) → Finds home p xs
  finds_front home [] ys p h = tt
  finds_front home (x ∷ xs) ys p h = (h.0, finds_front home xs ys (suc p) h.1)

  -- and each of the last
  pub finds_past : (home : ℕ) (xs ys : List VirtualItem) (p : ℕ) → Finds home p (xs ++ ys) → Finds home (beyond xs p) ys
  finds_past home [] ys p h = h
  finds_past home (x ∷ xs) ys p h = finds_past home xs ys (suc p) h.1

  -- where a request finds no room
  pub record Homed (n out : ℕ) (f : Found) : Type 0 where
    pub count : f.count ≡ n
    pub room : (q : ℕ) × (mark_place program.items f.home out ≡ Some q) × Here q (out_items out)

  -- the end of a branch: the mark behind it stands here, or there is a jump to it
  abbrev pub Joins : ℕ → ℕ → ℕ → ℕ → Type 0
  Joins home p e q = (p ≡ q) ⊎ (Here p (Jump e ∷ []) × (mark_place program.items home e ≡ Some q))

  -- from a place the code goes on with these rests
  abbrev pub Leads : Found → ℕ → ℕ → List Code → Type 0
  Leads f out p [] = Unit {0}
  Leads f out p (r ∷ rs) =
      (e : ℕ) × (q : ℕ) × (m : ℕ) × Joins f.home p e q × Here q (Mark e ∷ code_items f.first out m r)
      × Finds f.home (suc q) (code_items f.first out m r)
      × Leads f out (beyond (code_items f.first out m r) (suc q)) rs

  -- these items lie at a place, and lead on to these rests
  pub record Lies (f : Found) (out p : ℕ) (xs : List VirtualItem) (rests : List Code) : Type 0 where
    pub stands : Here p xs
    pub finds : Finds f.home p xs
    pub leads : Leads f out (beyond xs p) rests

  pub next : (f : Found) (out p : ℕ) (x : VirtualItem) (xs : List VirtualItem) (rests : List Code)
      → Lies f out p (x ∷ xs) rests → Lies f out (suc p) xs rests
  next f out p x xs rests h = record { stands = h.stands.1; finds = h.finds.1; leads = h.leads }

  pub past : (f : Found) (out p : ℕ) (xs ys : List VirtualItem) (rests : List Code) → Lies f out p (xs ++ ys) rests
      → Lies f out (beyond xs p) ys rests
  past f out p xs ys rests h = record {
    stands = stands_past program.reading setting xs ys p h.stands;
    finds = finds_past f.home xs ys p h.finds;
    leads = subst (λ q. Leads f out q rests) (beyond_append xs ys p) h.leads;
  }

  -- an active procedure, which goes on at a place behind some items
  pub record ActiveOn (before : List VirtualItem) (a : LowActive) (p : ℕ) (v : Active) : Type 0 where
    pub mark : ℕ
    pub out : ℕ
    pub homed : Homed a.count out v.found
    pub locals : (i : ℕ) → v.locals (v.found.first + i) ≡ a.locals i
    pub lies : Lies v.found out p (before ++ code_items v.found.first out mark a.code) a.rests

  -- those that wait
  abbrev pub Behind : List Waiting → List Frame → Type 0
  Behind [] [] = ⊥
  Behind [] (f ∷ []) = Here f.back answer_items
  Behind [] (f ∷ g ∷ fs) = ⊥
  Behind (w ∷ ws) [] = ⊥
  Behind (w ∷ ws) (f ∷ fs) =
      ActiveOn (Move (Virtual (f.active.found.first + w.answer)) (Real ANSWER) ∷ []) w.rest f.back f.active
      × Behind ws fs

  -- as many procedures are active in both, and have as many words
  abbrev pub AsMany : LowState → VirtualState → Type 0
  AsMany s t =
      (length t.frames ≡ length s.waiting + 1)
      × (held_by t.active.found t.frames ≡ s.active.count + words_held s.waiting)

  -- no more of both than in the run over words
  abbrev pub NoMore : LowState → VirtualState → Type 0
  NoMore s t =
      (length t.frames ≤ length s.waiting + 1)
      × (held_by t.active.found t.frames ≤ s.active.count + words_held s.waiting)

  no_more : (s : LowState) (t : VirtualState) → AsMany s t → NoMore s t
  no_more s t h = let e = h.0 in let f = h.1 in (omega (arith, e), omega (arith, f))

  -- what is seen of both
  abbrev pub SeenAs : LowState → VirtualState → Type 0
  SeenAs s t =
      ((at : ℕ) → at < s.alloc → t.memory at ≡ s.memory at) × (t.regs ALLOCATION ≡ s.alloc)
      × NoMore s t × (t.world ≡ s.world) × (s.alloc ≤ program.low.top) × (t.regs STACK_END ≡ program.stack)
      × (t.regs REGION_END ≡ program.low.top)

  -- what is the same in both, and how the allocation word is
  abbrev pub Body : LowState → VirtualState → Type 0
  Body s t =
      (t.memory ≡ s.memory) × (t.regs ALLOCATION ≡ s.alloc) × AsMany s t × (t.world ≡ s.world)
      × (t.regs REGION_END ≡ program.low.top) × (s.alloc ≤ program.low.top) × (s.alloc % 8 ≡ 0)
      × (program.low.region ≤ s.alloc)
      × (t.regs STACK_END ≡ program.stack)

  -- what is the same is seen so
  pub seen : (s : LowState) (t : VirtualState) → Body s t → SeenAs s t
  seen s t b = (λ at h. ap (λ (m : Memory). m at) b.0, b.1, no_more s t b.2, b.3, b.5, b.8, b.4)

  -- where both runs are after the same steps
  pub record On (s : LowState) (t : VirtualState) : Type 0 where
    pub active : ActiveOn [] s.active t.pc t.active
    pub behind : Behind s.waiting t.frames
    pub body : Body s t

  -- with so much in the purse, which has what is owed
  abbrev pub OnWith : ℕ → LowState → VirtualState → Type 0
  OnWith purse s t = On s t × (owed s.waiting ≤ purse)

  abbrev pub At : LowState → ℕ → VirtualState → Type 0
  At s purse t = OnWith purse s t

  abbrev pub Way : LowState → LowState → VirtualState → Type 0
  Way s s1 t = OnTheWay (SameRegion program.stack program.low.top) Any M N s s1 t

  -- what is seen of both is alike
  pub as_alike : (s : LowState) (t : VirtualState) → SeenAs s t
      → Alike (SameRegion program.stack program.low.top) M N s t
  as_alike s t h = record {
    output = ap (λ (w : WorldState). w.output) h.3;
    shown = assumption;
  }

  pub way_seen : (s s1 : LowState) (t : VirtualState) → SeenAs s t → Way s s1 t
  way_seen s s1 t h = (inl (as_alike s t h), tt)

  pub way_first : (s s1 : LowState) (t : VirtualState) → Body s t → Way s s1 t
  way_first s s1 t b = way_seen s s1 t (seen s t b)

  pub way_second : (s s1 : LowState) (t : VirtualState) → Body s1 t → Way s s1 t
  way_second s s1 t b = (inr (as_alike s1 t (seen s1 t b)), tt)

  pub body_regs : (s : LowState) (t : VirtualState) (regs : Registers) (known : ℕ → Bool) (pc : ℕ) → Body s t
      → SameFixed regs t.regs → Body s (record t { regs = regs; known = known; pc = pc })
  body_regs s t regs known pc b h = (b.0, h.alloc ∙ b.1, b.2, b.3, h.top ∙ b.4, b.5, b.6, b.7, h.stack ∙ b.8)

  -- on the way only the registers have changed
  pub way_regs : (s s1 : LowState) (t : VirtualState) → Body s t → (regs : Registers) (known : ℕ → Bool) (pc : ℕ)
      → SameFixed regs t.regs → Way s s1 (record t { regs = regs; known = known; pc = pc })
  way_regs s s1 t b regs known pc h =
      let v = seen s t b in way_seen s s1 (record t { regs = regs; known = known; pc = pc }) (
        v.0,
        h.alloc ∙ v.1,
        v.2,
        v.3,
        v.4,
        h.stack ∙ v.5,
        h.top ∙ v.6,
      )

  -- a procedure's code begins with its parameters
  pub record Entered (p : Proc) (f : Found) : Type 0 where
    pub mark : ℕ
    pub out : ℕ
    pub homed : Homed p.words out f
    pub lies : Lies f out f.home (params_items f.first 0 p.params ++ code_items f.first out mark p.code) []

  -- each procedure has its code
  pub record Laid : Type 0 where
    pub by_number : (k : ℕ) (p : Proc) → slice_get program.low.procs k ≡ Some p → (f : Found)
        × (procedure_from k 0 program.items ≡ Some f) × Entered p f
    -- and so is each code address
    pub by_address : (at : ℕ) (p : Proc) → proc_from program.low.address at 0 program.low.procs ≡ Some p → (f : Found)
        × (procedure_at program.low.address at 0 program.items ≡ Some f) × Entered p f
