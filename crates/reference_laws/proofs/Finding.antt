-- The cell behind a proxy, or without one, the part of the proxy's coercion, and an index that is none of the cell's.
use Rattle.std.proofs.Common.{◌≡◌, ◌⊎◌, inl, inr, ℕ, suc, ◌+◌, ◌*◌, ◌<◌, ◌≤◌, false}
use Rattle.std.proofs.Common.{List, [], ◌∷◌, length, Some, refl, ap, subst, arith}
use Rattle.std.specs.Prelude.{◌==◌}
use Rattle.grift_base.specs.EnvironmentCall.{environment_call}
use Rattle.grift_base.specs.declared.verdicts.Trap.TheVariants.{Index}
use Rattle.run_laws.specs.Runs.{Ending, Exhausted}
use Rattle.machine_words.specs.Halts.{Halt, Lacks, Region}
use Rattle.low_ir.specs.Procedures.{Code}
use Rattle.low_ir.specs.Steps.{Locals}
use Rattle.low_ir.specs.Run.{Setting, Waiting, LowState}
use Rattle.object_layout.specs.declared.kinds.Kind.TheVariants.{Proxy}
use Rattle.object_layout.specs.Kinds.{kind_number as number_of}
use Rattle.coercion_norm.specs.Coercions.{Coercion, Coercions, Id, Fail, Middle, Inject, Project}
use Rattle.coercion_norm.specs.declared.middles.MiddleKind.{MiddleKind as Kind}
use Rattle.coercion_norm.specs.declared.middles.MiddleKind.TheVariants.{Fun as FunKind, Tup as TupKind}
use Rattle.coercion_norm.specs.declared.middles.MiddleKind.TheVariants.{Ref as RefKind, Vec as VecKind}
use Rattle.coercion_norm.specs.Heights.{coercion_height}
use Rattle.coercion_norm.specs.MergedMode.{part_at, cell_coercion}
use Rattle.coercion_norm.specs.Objects.{Object, Cell}
use Rattle.coercion_norm.specs.Held.{Layout, Held, height_in}
use Rattle.coercion_norm.specs.ObjectsOfRows.{header, kind_number}
use Rattle.object_layout.specs.Words.{kind_mask}
use Rattle.rt_cast.specs.WholeObjects.{IsSolid}
use Rattle.rt_cast.specs.States.{Grows, Heap, Fine, IsReady, around, heap_of, st}
use Rattle.rt_cast.specs.MergedValues.{Merged, Base, Solid, Proxied, InDyn}
use Rattle.rt_cast.specs.Carried.{CarriedBy, IsLow}
use Rattle.rt_cast.proofs.Public.{arrives, part_held}
use Rattle.rt_cast.proofs.Public.{Walk, none_some, same_some, eq_true, eq_false, kind_read, count_read, not_zero}
use Rattle.rt_cast.proofs.Public.{Budget, More, at_most, WordThere, loads, loads_at, computes, sets_word, if_true}
use Rattle.rt_cast.proofs.Public.{if_false, header_there, ReachedIn, End, lt_false, walk as walk_from}
use Rattle.rt_refs.specs.CellCodes.{find_cell, take_part, test_index, trap_index}
use Rattle.reference_laws.specs.CellLaws.{cell_behind, under, CellStands, TrapsAt}
use Rattle.reference_laws.proofs.Calling.{mapped, part_low}
use Rattle.reference_laws.proofs.CellSteps.{ends_branch, in_bounds}
use Rattle.rt_cast.proofs.Public.{proxy_header, proxy_read}

zero_more : (n : ℕ) → n ≡ n + 0
zero_more n = omega arith

pub one_kind : (kind : ℕ) → (kind ≡ 5) ⊎ (kind ≡ 6) → (kind < 256) × ((kind == 2) ≡ false)
one_kind kind (inl e) = (omega (arith, e), eq_false kind 2 (λ f. omega (arith, e, f)))
one_kind kind (inr e) = (omega (arith, e), eq_false kind 2 (λ f. omega (arith, e, f)))

-- the part of a coercion between boxes or vectors
pub record IsPart (k : ℕ) (c d : Coercion) : Type 0 where
  pub kind : Kind
  pub parts : Coercions
  pub is : c ≡ Middle kind parts
  pub part : part_at parts k ≡ Some d

pub is_part : (k : ℕ) (c d : Coercion) → cell_coercion k c ≡ Some d → IsPart k c d
is_part k Id d e = none_some e
is_part k (Fail label) d e = none_some e
is_part k (Inject g kept) d e = none_some e
is_part k (Project wanted label i) d e = none_some e
is_part k (Middle FunKind parts) d e = none_some e
is_part k (Middle TupKind parts) d e = none_some e
is_part k (Middle RefKind parts) d e = record { kind = RefKind; parts = parts; is = refl; part = e }
is_part k (Middle VecKind parts) d e = record { kind = VecKind; parts = parts; is = refl; part = e }

module _ {V : Type 0} (walk : Walk V) (low : walk.l.tallest ≤ 65534) (A : Type 0)
    (IsHeld : List Object → A → ℕ → Type 0)
    (still : (old new : List Object) → Grows old new → (a : A) (w : ℕ) → IsHeld old a w → IsHeld new a w)
    (is_solid : (objects : List Object) (a : A) (w : ℕ) → IsHeld objects a w → IsSolid walk.l objects w) where
  abbrev Carried : List Object → Merged A → ℕ → Type 0
  Carried = CarriedBy walk.l IsHeld

  abbrev state : ℕ → Locals → Code → List Code → List Waiting → Heap → LowState
  state = st walk.around

  -- the word keeps the coercion of a proxy, and is 0 where there is none
  abbrev pub KeepsCoercion : List Object → Merged A → ℕ → Type 0
  KeepsCoercion objects (Solid a) wc = wc ≡ 0
  KeepsCoercion objects (Proxied a c) wc = Held walk.l objects c wc × IsLow walk.l c
  KeepsCoercion objects (Base head x) wc = ⊥
  KeepsCoercion objects (InDyn kept u) wc = ⊥

  pub behind_under : (k : ℕ) (u : Merged A) (a : A) (d : Coercion) → cell_behind k u ≡ Some (a, d) → under u ≡ Some a
  behind_under k (Base hd x) a d e = none_some e
  behind_under k (InDyn kept u) a d e = none_some e
  behind_under k (Solid b) a d e =
      let p : A × Coercion = (b, Id) in
      let q : A × Coercion = (a, d) in
      ap (λ z. Some z.0) (same_some p q e)
  behind_under k (Proxied b c) a d e =
      let q : A × Coercion = (a, d) in
      let m = mapped (λ x. (b, x)) (cell_coercion k c) q e in
      ap (λ z. Some z.0) m.2

  module _ (B : Budget) (objects : List Object) (h : Heap) (fine : Fine walk.setting walk.l walk.around objects h)
      (waiting : List Waiting) (rests : List Code) (locals : Locals) (rest : Code) (wv : ℕ)
      (wv_is : locals 1 ≡ Some wv) (ws : List ℕ) where
    -- it goes on with the cell of what is behind, and with the proxy's coercion
    abbrev pub FoundGo : Merged A → A → Type 0
    FoundGo u a =
        (wa wc : ℕ) (found : Locals) (rests' : List Code) → IsHeld objects a wa
        → CellStands walk.l objects h.memory wa ws → KeepsCoercion objects u wc → found 1 ≡ Some wa
        → found 2 ≡ locals 2 → found 3 ≡ locals 3 → found 4 ≡ Some (length ws) → found 5 ≡ Some wc
        → ReachedIn walk B (state 6 found rest rests' waiting h)

    abbrev pub IsCell : A → Type 0
    IsCell a = (wa : ℕ) → IsHeld objects a wa → CellStands walk.l objects h.memory wa ws

    abbrev Runs : Type 0
    Runs = ReachedIn walk (More 8 0 0 46 B) (state 6 locals (find_cell rest) rests waiting h)

    cell_header : (wa : ℕ) (cell : CellStands walk.l objects h.memory wa ws)
        → WordThere walk h (wa + 0) (header cell.kind 0 (length ws))
    cell_header wa cell =
        subst (λ m. WordThere walk h m (header cell.kind 0 (length ws))) (zero_more wa)
        (header_there walk objects h fine wa (Cell (header cell.kind 0 (length ws)) (length ws)) cell.there)

    bare : (a : A) → IsHeld objects a wv → IsCell a → FoundGo (Solid a) a → Runs
    bare a held is_cell go =
        let cell = is_cell wv held in
        let z = one_kind cell.kind cell.one in
        let head0 = header cell.kind 0 (length ws) in
        at_most walk
        (loads_at walk objects fine wv head0 wv_is (cell_header wv cell) refl
        (computes walk objects fine head0 kind_mask cell.kind refl refl (kind_read cell.kind 0 (length ws) z.0) refl
        (if_false walk objects fine cell.kind 2 refl refl z.1
        (sets_word walk objects fine 0 refl refl
        (ends_branch walk objects fine
        (computes walk objects fine head0 32 (length ws) refl refl
        (count_read cell.kind 0 (length ws) (omega (arith, z.0)) (omega arith)) refl
        (go wv 0 _ rests held cell refl wv_is refl refl refl refl)))))))
        (omega arith, omega arith, omega arith, omega arith)

    proxied : (a : A) (c : Coercion) → Carried objects (Proxied a c) wv → IsCell a → FoundGo (Proxied a c) a → Runs
    proxied a c hv is_cell go =
        let cell = is_cell hv.0 hv.3 in
        let y = one_kind cell.kind cell.one in
        let head0 = header cell.kind 0 (length ws) in
        let ws2 = hv.0 ∷ hv.1 ∷ [] in
        at_most walk
        (loads walk objects fine wv proxy_header ws2 0 proxy_header wv_is hv.2 refl refl refl
        (computes walk objects fine proxy_header kind_mask (number_of Proxy) refl refl proxy_read refl
        (if_true walk objects fine 2 2 refl refl refl
        (loads walk objects fine wv proxy_header ws2 2 hv.1 wv_is hv.2 refl refl refl
        (loads walk objects fine wv proxy_header ws2 1 hv.0 wv_is hv.2 refl refl refl
        (loads_at walk objects fine hv.0 head0 refl (cell_header hv.0 cell) refl
        (ends_branch walk objects fine
        (computes walk objects fine head0 32 (length ws) refl refl
        (count_read cell.kind 0 (length ws) (omega (arith, y.0)) (omega arith)) refl
        (go hv.0 hv.1 _ rests hv.3 cell (hv.4, hv.5) refl refl refl refl refl)))))))))
        (omega arith, omega arith, omega arith, omega arith)

    pub found : (u : Merged A) (a : A) → under u ≡ Some a → Carried objects u wv → IsCell a → FoundGo u a → Runs
    found (Base hd x) a e hv is_cell go = none_some e
    found (InDyn kept u) a e hv is_cell go = none_some e
    found (Solid b) a e hv is_cell go =
        subst (λ z. IsCell z → FoundGo (Solid b) z → Runs) (same_some b a e) (λ c g. bare b hv c g) is_cell go
    found (Proxied b c) a e hv is_cell go =
        subst (λ z. IsCell z → FoundGo (Proxied b c) z → Runs) (same_some b a e) (λ y g. proxied b c hv y g) is_cell go

  module _ (B : Budget) (k offset : ℕ) (place : offset ≡ 8 + 8 * k) (objects : List Object) (h : Heap)
      (fine : Fine walk.setting walk.l walk.around objects h) (waiting : List Waiting) (rests : List Code)
      (locals : Locals) (rest : Code) (wc : ℕ) (wc_is : locals 5 ≡ Some wc) where
    -- it goes on with the part
    abbrev pub PartGo : Coercion → Type 0
    PartGo d =
        (wd : ℕ) (found : Locals) (rests' : List Code) → Held walk.l objects d wd → IsLow walk.l d
        → found 1 ≡ locals 1 → found 2 ≡ locals 2 → found 3 ≡ locals 3 → found 5 ≡ Some wd
        → ReachedIn walk B (state 6 found rest rests' waiting h)

    abbrev Takes : Type 0
    Takes = ReachedIn walk (More 3 0 0 27 B) (state 6 locals (take_part offset rest) rests waiting h)

    no_part : wc ≡ 0 → PartGo Id → Takes
    no_part e go =
        at_most walk
        (if_true walk objects fine wc 0 wc_is refl (eq_true wc 0 e)
        (ends_branch walk objects fine
        (go wc locals rests e (record { normal = tt; low = omega arith }) refl refl refl wc_is)))
        (omega arith, omega arith, omega arith, omega arith)

    one_part : (c d : Coercion) → Held walk.l objects c wc → IsLow walk.l c → cell_coercion k c ≡ Some d → PartGo d
        → Takes
    one_part c d held is_low e go =
        let z = is_part k c d e in
        let lc : IsLow walk.l (Middle z.kind z.parts) = subst (IsLow walk.l) z.is is_low in
        let hc : Held walk.l objects (Middle z.kind z.parts) wc =
        subst (λ y. Held walk.l objects y wc) z.is held in
        let p = part_held walk.l objects z.parts hc.0 k d hc.2 z.part in
        let ld = part_low walk low A IsHeld still is_solid z.kind z.parts k d lc z.part in
        let headc =
        header (kind_number z.kind) (coercion_height (height_in walk.l) (Middle z.kind z.parts)) (length hc.0) in
        let n = not_zero walk objects h fine wc headc hc.0 hc.1 in
        at_most walk
        (if_false walk objects fine wc 0 wc_is refl (eq_false wc 0 (λ f. omega (arith, f, n.0)))
        (loads walk objects fine wc headc hc.0 (suc k) p.0 wc_is hc.1 p.1 (omega (arith, place)) refl
        (ends_branch walk objects fine (go p.0 _ rests p.2 ld refl refl refl refl))))
        (omega arith, omega arith, omega arith, omega arith)

    pub part_taken : (u : Merged A) (a : A) (d : Coercion) → cell_behind k u ≡ Some (a, d)
        → KeepsCoercion objects u wc → PartGo d → Takes
    part_taken (Base hd x) a d e keeps go = none_some e
    part_taken (InDyn kept u) a d e keeps go = none_some e
    part_taken (Solid b) a d e keeps go =
        let p : A × Coercion = (b, Id) in
        let q : A × Coercion = (a, d) in
        subst (λ z. PartGo z.1 → Takes) (same_some p q e) (λ g. no_part keeps g) go
    part_taken (Proxied b c) a d e keeps go =
        let q : A × Coercion = (a, d) in
        let m = mapped (λ x. (b, x)) (cell_coercion k c) q e in
        subst (λ z. PartGo z.1 → Takes) m.2 (λ g. one_part c m.0 keeps.0 keeps.1 m.1 g) go

-- an index outside the cell traps
module _ {V : Type 0} (reading : Halt → Ending V) (setting : Setting) (l : Layout) (first : ℕ) (s : LowState)
    (exhausts : reading (Lacks Region) ≡ Exhausted) (ready : IsReady setting l first) (objects : List Object)
    (fine : Fine setting l (around s) objects (heap_of s)) where
  abbrev trapping : Walk V
  trapping = walk_from reading setting l first s exhausts ready (TrapsAt reading setting l s Index) 0 0

  pub index_traps : (locals : Locals) (rests : List Code) (rest : Code) (i n : ℕ) → locals 2 ≡ Some i
      → locals 4 ≡ Some n → n ≤ i
      → ReachedIn trapping (More 1 0 0 13 End)
      (st (around s) 6 locals (test_index rest) rests s.waiting (heap_of s))
  unfolding environment_call
  index_traps locals rests rest i n is many outside =
      at_most trapping
      (if_false trapping objects fine i n is many (lt_false i n outside) (last _))
      (omega arith, omega arith, omega arith, omega arith)
    where
      stopped : (rests' : List Code)
          → TrapsAt reading setting l s Index (st (around s) 6 locals trap_index rests' s.waiting (heap_of s))
      stopped rests' = record {
        objects = objects;
        fine = fine;
        last = _;
        stops = refl;
        stays = refl;
        same = refl;
        same_after = refl;
      }

      last : (rests' : List Code)
          → ReachedIn trapping End (st (around s) 6 locals trap_index rests' s.waiting (heap_of s))
      last rests' = arrives trapping (λ room asked. (in_bounds room asked, stopped rests'))
