-- Storage of the machine's state, where the run over words has its region filled by whole objects.
use Rattle.std.proofs.Common.{◌≡◌, ℕ, ◌+◌, ◌*◌, ◌%◌, ◌<◌, ◌≤◌, ◌^◌, true, List, [], ◌∷◌, ◌++◌, length, Some, None, refl}
use Rattle.std.proofs.Common.{sym, ap, ◌∙◌, subst, append-nil, arith}
use Rattle.std.specs.Prelude.{All, ◌==◌, ◌&&◌, nat_le, if◌then◌else◌, slice_index}
use Rattle.grift_base.specs.Types.{TypeRows}
use Rattle.grift_base.specs.declared.places.Pos.{Pos}
use Rattle.grift_base.specs.declared.words.Statics.{Statics}
use Rattle.machine_words.specs.Memory.{first_address, load_bytes}
use Rattle.rv_machine.specs.Start.{IsRegionSize, IsStackSize, fresh_world}
use Rattle.rv_machine.specs.State.{State}
use Rattle.machine_words.proofs.Public.{load_same}
use Rattle.object_layout.specs.declared.wholes.Area.TheVariants.{Statics as InStatics}
use Rattle.object_layout.specs.Wholes.{Telling, IsRow}
use Rattle.low_ir.specs.Procedures.{Proc}
use Rattle.low_ir.specs.Run.{LowShown}
use Rattle.coercion_norm.specs.Coercions.{rows_of}
use Rattle.coercion_norm.specs.Held.{Layout}
use Rattle.coercion_norm.specs.Nodes.{Node}
use Rattle.coercion_norm.specs.Objects.{Object, object_at}
use Rattle.coercion_norm.specs.StaticObjects.{Tells, static_headers, type_header, type_kind}
use Rattle.coercion_norm.specs.Statics.{AreStatics, objects_of}
use Rattle.coercion_norm.specs.declared.cast_rows.CastRow.{CastRow}
use Rattle.object_layout.proofs.Public.{number_of_kind}
use Rattle.coercion_norm.proofs.Public.{type_is_type}
use Rattle.rt_cast.specs.Objects.{HasWord, Holds, HoldsWords}
use Rattle.rt_cast.specs.States.{Filled, Heap}
use Rattle.rt_cast.proofs.Public.{objects_fill_the_region}
use Rattle.reg_assign.specs.Images.{HasRegionOf, IsImageOfWords}
use Rattle.coer_core.proofs.Public.{no_wider}
use Rattle.lower.specs.MergedMeaning.{width_of}
use Rattle.compile_driver.specs.Space.{IsStored, KeepsStorage, told_by}
use Rattle.compile_driver.proofs.Matching.{Fit, fit_match, starts, statics_fit, words_hold}
use Rattle.compile_driver.proofs.Starting.{are_placed, layout, setting, start}
use Rattle.compile_driver.proofs.Storing.{storage_is_so}

-- words that stand one after another are told so, where each is told
tells_all : (T : Telling) (m : ℕ → ℕ) (end at : ℕ) (words : List ℕ)
    → ((p w : ℕ) → p % 8 ≡ 0 → 65536 ≤ p → p + 8 ≤ end → HasWord m p w → T p ≡ Some w) → at % 8 ≡ 0 → 65536 ≤ at
    → at + 8 * length words ≤ end → HoldsWords m at words → Tells T at words
tells_all T m end at [] says even above le h = tt
tells_all T m end at (w ∷ words) says even above le h = (
  says at w even above (omega (arith, le)) h.0,
  tells_all T m end (at + 8) words says (omega (arith, even)) (omega (arith, above)) (omega (arith, le)) h.1,
)

module _ {image : List ℕ} {procs : List Proc} {entry : ℕ} {statics : Statics} {labels : List Pos} {types : TypeRows}
    {nodes : List Node} {casts : List CastRow}
    (is : IsImageOfWords image procs entry statics.words labels)
    (placed : AreStatics types nodes casts first_address statics)
    (words : All (λ w. w < 2 ^ 64) statics.words)
    (region stack : ℕ) (region_size : IsRegionSize region) (stack_size : IsStackSize stack) (input : List ℕ)
    (tallest : ℕ) (low : tallest ≤ 65534) where
  abbrev begin : State
  begin = start is placed words region stack region_size stack_size (fresh_world input)

  abbrev l : Layout
  l = layout is placed words region stack region_size stack_size (fresh_world input) tallest

  module _ (s : State) (shown : LowShown) (lays : s.layout ≡ begin.layout)
      (shares : HasRegionOf (begin.regs 25) s shown)
    where
      -- the machine's memory tells the words of the region and of the statics
      says : (at w : ℕ) → at % 8 ≡ 0 → 65536 ≤ at → at + 8 ≤ shown.alloc → HasWord shown.memory at w
          → told_by s at ≡ Some w
      says at w even above le h =
          let inside = shares.inside in
          let end : s.layout.end ≡ begin.layout.end = ap (λ x. x.end) lays in
          let room : begin.regs 25 ≤ begin.layout.end = omega arith in
          let fits : at + 8 ≤ s.layout.end = omega (arith, le, inside, end, room) in
          let test : ((at % 8 == 0) && (nat_le first_address at && nat_le (at + 8) s.layout.end)) ≡ true
          = grind (arith, even, above, fits) in
          ap (λ b. if b then Some (load_bytes 8 s.memory at) else None) test
          ∙ ap Some (load_same 8 s.memory shown.memory at at (λ i less. shares.memory (at + i)
          (omega (arith, less, le)))
          ∙ h.is)

      pub kept : (objects : List Object)
          → Filled (setting is placed words region stack region_size stack_size (fresh_world input)) l objects
          (record { memory = shown.memory; alloc = shown.alloc; words = shown.words })
          → KeepsStorage types tallest begin s
      kept objects filled =
          let set = setting is placed words region stack region_size stack_size (fresh_world input) in
          let at = are_placed is placed words region stack region_size stack_size (fresh_world input) tallest in
          let heap : Heap = record { memory = shown.memory; alloc = shown.alloc; words = shown.words } in
          let stand = placed.types_stand [] begin.layout.region tallest (width_of types) (no_wider types) in
          let sh = static_headers types nodes in
          let os = objects_of types nodes statics in
          let fit : Fit os sh = statics_fit types (λ type. slice_index statics.type_at type) nodes
          (λ c. slice_index statics.coercion_at c) in
          let same : os ++ [] ≡ os = append-nil os in
          let size = is.is_image.addresses.statics_size in
          let ends = filled.ends in
          let before = at.before in
          let held : HoldsWords shown.memory first_address statics.words =
          subst (HoldsWords shown.memory first_address) (sym placed.says)
          (words_hold shown.memory first_address os sh fit
          (subst (λ xs. Holds shown.memory first_address xs) same filled.statics_stand)) in
          let tells : Tells (told_by s) first_address statics.words =
          tells_all (told_by s) shown.memory shown.alloc first_address statics.words says (omega arith) (omega arith)
          (omega (arith, size, ends)) held in
          let row = objects_fill_the_region set l objects heap at stand low filled in
          record {
            stored = record { statics = sh; region = l.region; objects = row.0 };
            begins = refl;
            is_stored =
                subst (λ n. IsStored (record { statics = sh; region = l.region; objects = row.0 }) (told_by s) types
                tallest begin.layout.code n) (sym shares.alloc)
                (storage_is_so set l objects heap at stand low filled (told_by s) says row.0 sh row.1
                (λ w o e. starts os sh first_address w o (fit_match os sh fit)
                (subst (λ xs. object_at xs first_address w ≡ Some o) same e))
                (λ type less. record {
                  place = type;
                  header = type_header types type;
                  kind = type_kind (rows_of types type);
                  there = placed.type_starts (told_by s) tells type less;
                  kind_is = number_of_kind (type_kind (rows_of types type));
                  type = type_is_type (rows_of types type);
                })
                types begin.layout.code
                (subst (IsRow (told_by s) InStatics first_address sh)
                (let e : first_address + 8 * length statics.words ≡ begin.layout.code = omega (arith, size) in e)
                (placed.whole (told_by s) tells)) (record { nodes = nodes; are = refl }));
            inside =
                let alloc = shares.alloc in
                let in_region = shares.inside in
                let top = shares.top in omega (arith, alloc, in_region, top);
            stack = shares.stack;
            top = shares.top;
          }
