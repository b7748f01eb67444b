-- Lowered programs are closed.
use Rattle.std.proofs.Common.{Bool, true, false, ℕ, zero, suc, ◌+◌, ◌<◌, ◌≤◌, ◌≡◌, List, [], ◌∷◌, ◌++◌, length, map}
use Rattle.std.proofs.Common.{Option, Some, None, refl, sym, ◌∙◌, subst, ap, arith, ◌&&◌, ◌==◌, nat_lt, nat_le}
use Rattle.std.proofs.Common.{slice_get, length-append, ◌⊎◌, inl, inr, if◌then◌else◌}
use Rattle.std.specs.Prelude.{◌||◌}
use Rattle.std.proofs.lemmas.Bool.{and_from, and_parts, or_cases, eqb-true, eq-eqb, leb-true, le-leb, ltb-true, lt-ltb}
use Rattle.std.proofs.lemmas.List.{length-map}
use Rattle.grift_base.specs.Types.{TypeRow, IntRow, BoolRow, UnitRow, DynRow, FunRow, TupleRow, RefRow, VectRow}
use Rattle.low_ir.specs.declared.code.LowSource.TheVariants.{Word, Number}
use Rattle.low_ir.specs.Procedures.{Proc}
use Rattle.low_ir.specs.Closed.{all_words, behind, is_there, leaves, proc_closed, each_closed, takes_none, is_closed}
use Rattle.low_ir.specs.Closed.{takes_words}
use Rattle.flat_ir.specs.Bodies.{Proc as FlatProc}
use Rattle.flat_ir.specs.Closed.{begins_group, is_next, body_bound, proc_closed as flat_proc_closed}
use Rattle.flat_ir.specs.Closed.{each_closed as flat_each_closed, takes_nothing, is_closed as flat_is_closed}
use Rattle.flat_ir.specs.Levels.{levels}
use Rattle.lowered_code.specs.declared.served.Served.{Served}
use Rattle.lowered_code.specs.Numbering.{own_word, local_word}
use Rattle.lowered_code.specs.Emit.{ToCaller, emit}
use Rattle.lowered_code.specs.Lowered.{shape_of, low_proc, entry_proc, lowered}
use Rattle.lowered_code.specs.Serving.{Serve}
use Rattle.lowered_code.proofs.closing.Knowledge.{Known, Reads, read_word}
use Rattle.lowered_code.proofs.closing.Operands.{Ready}
use Rattle.lowered_code.proofs.closing.Bodies.{levels_above, GroupsStand, emit_ends}
use Rattle.lowered_code.proofs.closing.Leaves.{emit_leaves}

-- ---- the functions of a group stand one behind the other

module _ (all : List FlatProc) where
  -- a procedure of a closed program, with the one behind it
  at_place : (ps : List FlatProc) (i : ℕ) (p : FlatProc) → flat_each_closed all ps ≡ true → slice_get ps i ≡ Some p
      → flat_proc_closed all (slice_get ps (suc i)) p ≡ true
  at_place [] i p h e = absurd (let z : None ≡ Some p = e in cc)
  at_place (q ∷ ps) zero p h e =
      let same : q ≡ p = cc in
      subst (λ r. flat_proc_closed all (slice_get ps 0) r ≡ true) same
      (and_parts (flat_proc_closed all (slice_get ps 0) q) (flat_each_closed all ps) h).0
  at_place (q ∷ ps) (suc i) p h e =
      at_place ps i p (and_parts (flat_proc_closed all (slice_get ps 0) q) (flat_each_closed all ps) h).1 e

  -- a function of a group of so many, at a place of it
  pub record Member (o : Option FlatProc) (place group : ℕ) : Type 0 where
    pub proc : FlatProc
    pub there : o ≡ Some proc
    pub at : proc.place ≡ place
    pub of : proc.group ≡ group

  next_member : (o : Option FlatProc) (p : FlatProc) (place group : ℕ) → p.place ≡ place → p.group ≡ group
      → is_next o p ≡ true → Member o (suc place) group
  next_member None p place group at of h = absurd (let z : false ≡ true = h in cc)
  next_member (Some q) p place group at of h =
      let e = and_parts (q.place == suc p.place) ((q.group == p.group) && (q.captured == p.captured)) h in
      let f = and_parts (q.group == p.group) (q.captured == p.captured) e.1 in
      record {
        proc = q;
        there = refl;
        at = eqb-true q.place (suc p.place) e.0 ∙ ap suc at;
        of = eqb-true q.group p.group f.0 ∙ of;
      }

  member : flat_each_closed all all ≡ true → (first group i : ℕ) → i < group → Member (slice_get all first) 0 group
      → Member (slice_get all (first + i)) i group
  member h first group zero l m = subst (λ k. Member (slice_get all k) 0 group) (omega arith) m
  member h first group (suc i) l m =
      let before = member h first group i (omega arith) m in
      let p = before.proc in
      let closed = at_place all (first + i) p h before.there in
      let fact = and_parts (nat_le p.params 6) ((nat_le p.group (suc p.place)
      || is_next (slice_get all (suc (first + i))) p) && body_bound all p.captured p.group p.params p.body) closed in
      let follows = (and_parts (nat_le p.group (suc p.place) || is_next (slice_get all (suc (first + i))) p)
      (body_bound all p.captured p.group p.params p.body) fact.1).0 in
      let same : suc (first + i) ≡ first + suc i = omega arith in
      subst (λ k. Member (slice_get all k) (suc i) group) same
      (by p before.at before.of (or_cases (nat_le p.group (suc p.place)) (is_next (slice_get all (suc (first + i))) p)
      follows))
    where
      by : (p : FlatProc) → p.place ≡ i → p.group ≡ group
          → (nat_le p.group (suc p.place) ≡ true) ⊎ (is_next (slice_get all (suc (first + i))) p ≡ true)
          → Member (slice_get all (suc (first + i))) (suc i) group
      by p at of (inl e) = absurd (let few = leb-true p.group (suc p.place) e in omega arith)
      by p at of (inr e) = next_member (slice_get all (suc (first + i))) p i group at of e

  first_member : (o : Option FlatProc) (count captured : ℕ) → begins_group o count captured ≡ true
      → (0 < count) × Member o 0 count
  first_member None count captured h = absurd (let z : false ≡ true = h in cc)
  first_member (Some p) count captured h =
      let e = and_parts (p.place == 0) (nat_lt 0 count && ((p.group == count) && (p.captured == captured))) h in
      let f = and_parts (nat_lt 0 count) ((p.group == count) && (p.captured == captured)) e.1 in
      let g = and_parts (p.group == count) (p.captured == captured) f.1 in (
        ltb-true 0 count f.0,
        record {
          proc = p;
          there = refl;
          at = eqb-true p.place 0 e.0;
          of = eqb-true p.group count g.0;
        },
      )

  within : (ps : List FlatProc) (i : ℕ) (p : FlatProc) → slice_get ps i ≡ Some p → i < length ps
  within [] i p e = absurd (let z : None ≡ Some p = e in cc)
  within (q ∷ ps) zero p e = omega arith
  within (q ∷ ps) (suc i) p e = let l = within ps i p e in omega arith

  groups_stand : (procs : List Proc) → flat_each_closed all all ≡ true → length all ≤ length procs
      → GroupsStand all procs
  groups_stand procs h long first zero captured b =
      absurd (let z = (first_member (slice_get all first) 0 captured b).0 in omega arith)
  groups_stand procs h long first (suc others) captured b =
      let last = member h first (suc others) others (omega arith)
      (first_member (slice_get all first) (suc others) captured b).1 in
      let l = within all (first + others) last.proc last.there in
      omega arith

-- ---- a procedure

there_is : (o : Option Known) (a : Known) → o ≡ Some a → is_there o ≡ true
there_is o a e = ap is_there e

module _ (all : List FlatProc) (procs : List Proc) (run : Served) (serve : Serve run procs)
    (stand : GroupsStand all procs) where
  low_closed : (next : Option FlatProc) (p : FlatProc) → flat_proc_closed all next p ≡ true
      → proc_closed procs (low_proc run p) ≡ true
  low_closed next p h =
      let s = shape_of p in
      let n = levels p.params p.body + 10 in
      let known : Known = λ i. nat_lt i (suc p.params) in
      let code = emit run s p.body ToCaller in
      let e = and_parts (nat_le p.params 6) ((nat_le p.group (suc p.place) || is_next next p)
      && body_bound all p.captured p.group p.params p.body) h in
      let f = and_parts (nat_le p.group (suc p.place) || is_next next p)
      (body_bound all p.captured p.group p.params p.body) e.1 in
      let some = leb-true p.params 6 e.0 in
      let above = levels_above p.params p.body in
      let ready : Ready procs n s p.params known = record {
        room = omega arith;
        own = read_word procs n known own_word (omega arith) (lt-ltb 0 (suc p.params) (omega arith));
        locals = λ level l. parameter p n level l (omega arith);
      } in
      let ends = emit_ends all procs n run serve stand s p.captured p.group p.params p.body ToCaller known
      (λ a. Unit {0}) (omega arith) ready f.1 (λ b m. tt) in
      and_from (nat_le (suc p.params) 8 && nat_le (suc p.params) n && leaves code)
      (is_there (behind all_words procs n known code))
      (and_from (nat_le (suc p.params) 8 && nat_le (suc p.params) n) (leaves code)
      (and_from (nat_le (suc p.params) 8) (nat_le (suc p.params) n) (le-leb (suc p.params) 8 (omega arith))
      (le-leb (suc p.params) n (omega arith)))
      (emit_leaves run s p.body ToCaller tt))
      (ap is_there ends.«is»)
    where
      parameter : (p : FlatProc) (n level : ℕ) → level < p.params → p.params + 10 ≤ n
          → Reads procs n (λ i. nat_lt i (suc p.params)) (Word (local_word (shape_of p) level))
      parameter p n level l room =
          let word : local_word (shape_of p) level ≡ suc level =
          ap (λ (b : Bool). if b then suc level else level + 10) (lt-ltb level p.params l) in
          subst (λ w. Reads procs n (λ i. nat_lt i (suc p.params)) (Word w)) (sym word)
          (read_word procs n (λ i. nat_lt i (suc p.params)) (suc level) (omega arith)
          (lt-ltb (suc level) (suc p.params) (omega arith)))

  each_low_closed : (ps : List FlatProc) (rest : List Proc) → flat_each_closed all ps ≡ true
      → each_closed procs rest ≡ true
      → each_closed procs (map (low_proc run) ps ++ rest) ≡ true
  each_low_closed [] rest h r = r
  each_low_closed (p ∷ ps) rest h r =
      let e = and_parts (flat_proc_closed all (slice_get ps 0) p) (flat_each_closed all ps) h in
      and_from (proc_closed procs (low_proc run p)) (each_closed procs (map (low_proc run) ps ++ rest))
      (low_closed (slice_get ps 0) p e.0) (each_low_closed ps rest e.1 r)

-- ---- the procedure that a program begins with

module _ (procs : List Proc) where
  entry_takes : (run : Served) (ps : List FlatProc) (rest : List Proc) (entry : ℕ)
      → takes_nothing (slice_get ps entry) ≡ true
      → takes_words (slice_get (map (low_proc run) ps ++ rest) entry) (Number 0 ∷ []) ≡ true
  entry_takes run [] rest entry h = absurd (let z : false ≡ true = h in cc)
  entry_takes run (p ∷ ps) rest zero h =
      let none = eqb-true p.params 0 (and_parts (p.params == 0) ((p.captured == 0) && (p.group == 0)) h).0 in
      eq-eqb 1 (suc p.params) (omega arith)
  entry_takes run (p ∷ ps) rest (suc entry) h = entry_takes run ps rest entry h

  entry_closed : (entry : ℕ) (answer : TypeRow) → takes_words (slice_get procs entry) (Number 0 ∷ []) ≡ true
      → proc_closed procs (entry_proc entry answer) ≡ true
  entry_closed entry IntRow h = rw h refl
  entry_closed entry BoolRow h = rw h refl
  entry_closed entry UnitRow h = rw h refl
  entry_closed entry DynRow h = rw h refl
  entry_closed entry (FunRow parameters result) h = rw h refl
  entry_closed entry (TupleRow parts) h = rw h refl
  entry_closed entry (RefRow content) h = rw h refl
  entry_closed entry (VectRow content) h = rw h refl

-- ---- programs

behind_them : (run : Served) (ps : List FlatProc) (p : Proc) (rest : List Proc)
    → slice_get (map (low_proc run) ps ++ p ∷ rest) (length ps) ≡ Some p
behind_them run [] p rest = refl
behind_them run (q ∷ ps) p rest = behind_them run ps p rest

pub lowered_programs_are_closed : (run : Served) (flat : List FlatProc) (entry : ℕ) (answer : TypeRow)
    (serving : List Proc) → flat_is_closed flat entry ≡ true → Serve run (lowered run flat entry answer serving)
    → each_closed (lowered run flat entry answer serving) serving ≡ true
    → is_closed (lowered run flat entry answer serving) (length flat) ≡ true
lowered_programs_are_closed run flat entry answer serving h serve last =
    let first = entry_proc entry answer in
    let procs = lowered run flat entry answer serving in
    let e = and_parts (takes_nothing (slice_get flat entry)) (flat_each_closed flat flat) h in
    let many = length-append (map (low_proc run) flat) (first ∷ serving) in
    let as_many = length-map flat (low_proc run) in
    let long : length flat ≤ length procs = omega arith in
    let stand = groups_stand flat procs e.1 long in
    let takes = entry_takes procs run flat (first ∷ serving) entry e.0 in
    and_from (takes_none (slice_get procs (length flat))) (each_closed procs procs)
    (ap takes_none (behind_them run flat first serving))
    (each_low_closed flat procs run serve stand flat (first ∷ serving) e.1
    (and_from (proc_closed procs first) (each_closed procs serving) (entry_closed procs entry answer takes) last))
