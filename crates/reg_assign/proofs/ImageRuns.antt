-- The image of a closed program over words follows it, and lacks stack only where it does.
use Rattle.std.proofs.Common.{ℕ, ◌+◌, ◌^◌, ◌<◌, ◌≡◌, ◌⊎◌, inl, inr, Bool, true, false, List, Some, length, refl, sym}
use Rattle.std.proofs.Common.{◌∙◌, ap, subst, arith}
use Rattle.std.specs.Prelude.{◌≤◌, ◌==◌, ◌&&◌, not, if◌then◌else◌, slice_get}
use Rattle.grift_base.specs.World.{WorldState}
use Rattle.grift_base.specs.declared.places.Pos.{Pos}
use Rattle.grift_base.specs.declared.verdicts.Verdict.{Verdict as Outcome}
use Rattle.grift_base.specs.declared.verdicts.Verdict.TheVariants.{StackOut}
use Rattle.run_laws.specs.Runs.{Ending, Verdict, Exhausted, Moment, NeverWrong, Any, Through, Run, Follows, EndsAs}
use Rattle.run_laws.specs.Machines.{Go, Machine, seen, run}
use Rattle.run_laws.specs.Meters.{Spends, OfRest}
use Rattle.run_laws.proofs.Public.{follows_of, follows_by_trans, follows_by_weaken, follower_never_goes_wrong}
use Rattle.run_laws.proofs.Public.{spends_through}
use Rattle.rv_machine.specs.declared.real.RealItem.{RealItem}
use Rattle.machine_words.specs.Memory.{first_address}
use Rattle.rv_machine.specs.Registers.{Registers, set_reg, zero_regs}
use Rattle.rv_machine.specs.Image.{IsImage, statics_len, code_len}
use Rattle.rv_machine.specs.State.{State, Layout}
use Rattle.machine_words.specs.Halts.{Halt, Lacks, Stack}
use Rattle.rv_machine.specs.Start.{start_of, start_regs}
use Rattle.rv_machine.specs.Mach.{run_of, machine_by}
use Rattle.machine_words.specs.Halts.{IsReading}
use Rattle.rv_machine.specs.Real.{plain_setting, real_machine}
use Rattle.low_ir.specs.Procedures.{Proc}
use Rattle.low_ir.specs.Closed.{is_closed}
use Rattle.low_ir.specs.Counting.{any_calls}
use Rattle.low_ir.specs.Run.{Setting as LowSetting, LowState, LowShown, low_machine, low_start}
use Rattle.assembler.specs.Assembled.{item_address, IsImageOf}
use Rattle.assembler.specs.Prices.{state_price}
use Rattle.assembler.specs.Following.{IsLike, Simulates as AssembledSimulates}
use Rattle.rv_select.specs.declared.code.Place.{Place}
use Rattle.rv_select.specs.declared.code.VirtualItem.{VirtualItem}
use Rattle.rv_select.specs.declared.code.VirtualItem.TheVariants.{Procedure}
use Rattle.rv_select.specs.Run.{VirtualState, Shown, virtual_machine}
use Rattle.rv_select.specs.Select.{select_items, registers_of}
use Rattle.rv_select.specs.Selected.{SameRegion, Begins, Simulates, IsCodeOf}
use Rattle.rv_select.specs.Stacks.{stacked_machine, frames_size, low_in_stack}
use Rattle.rv_select.proofs.Public.{closed_entry, stack_held}
use Rattle.placed_code.specs.Slotted.{Starts, setting_in, room_in, start_in, IsSeenAs, EntersBeyond}
use Rattle.placed_code.specs.Slotted.{EndsToo}
use Rattle.placed_code.specs.Places.{place_in}
use Rattle.placed_code.specs.Sized.{sized_machine}
use Rattle.placed_code.specs.Applied.{applied, slots_of, frames_by, last_frame_by, IsApplied}
use Rattle.reg_assign.specs.Room.{IsBest}
use Rattle.reg_assign.specs.Images.{words_code, words_setting, HasRegionOf, FollowsWords, RunsIn, ExceedsStack}
use Rattle.reg_assign.specs.Images.{IsImageOfWords}
use Rattle.placed_code.proofs.Public.{few, frames_no_larger, lacks_with_all, memory_bytes, never_lacks_stack, of_stack}
use Rattle.placed_code.proofs.Public.{of_stack_reads, parts_small, procedure_words, same_but_ending, stop_read, stopped}
use Rattle.placed_code.proofs.Public.{words_never_wrong}
use Rattle.reg_assign.proofs.ProcAddresses.{In, in_procedures, below_numbers, have_addresses}

-- what a real state shows below the last two passes
below_code : (bound : ℕ) (s : State) (v : Shown)
    → Through {B = State} IsLike (IsSeenAs bound) s v → IsSeenAs bound s v
below_code bound s v h =
    let t = h.0 in
    let like = h.1 in
    let seen = h.2 in
    record {
      memory = λ at l. ap (λ m. m at) like.memory ∙ seen.memory at l;
      stack = like.regs 25 (λ e. cc) ∙ seen.stack;
      alloc = like.regs 26 (λ e. cc) ∙ seen.alloc;
      top = like.regs 27 (λ e. cc) ∙ seen.top;
      above = subst (λ x. bound ≤ x) (sym (like.regs 2 (λ e. cc))) seen.above;
      used = subst (λ x. s.layout.end ≤ x + frames_size v.frames v.held) (sym (like.regs 2 (λ e. cc)))
          (subst (λ (l : Layout). l.end ≤ t.regs 2 + frames_size v.frames v.held) (sym like.layout) seen.used);
    }

below_words : (bound : ℕ) (s : State) (l : LowShown)
    → Through {B = Shown} (IsSeenAs bound) (SameRegion bound bound) s l → HasRegionOf bound s l
below_words bound s l h =
    let v = h.0 in
    let seen = h.1 in
    let same = h.2 in
    let inside = same.inside in
    record {
      memory = λ at k. seen.memory at (omega arith) ∙ same.memory at k;
      alloc = seen.alloc ∙ same.alloc;
      inside = same.inside;
      stack = seen.stack ∙ same.stack;
      top = seen.top ∙ same.top;
      above = seen.above;
      used = (let u = seen.used in let f = same.frames in let h = same.held in omega (arith, u, f, h));
    }

-- registers hold words
set_fits : (r word : ℕ) (regs : Registers) → word < 2 ^ 64 → ((q : ℕ) → regs q < 2 ^ 64)
    → (q : ℕ) → set_reg r word regs q < 2 ^ 64
set_fits r word regs h k q = pick ((q == r) && not (r == 0))
  where
    pick : (c : Bool) → (if c then word else regs q) < 2 ^ 64
    pick true = h
    pick false = k q

start_fits : (start region stack : ℕ) → start + region + stack < 2 ^ 64
    → (r : ℕ) → start_regs start region stack r < 2 ^ 64
start_fits start region stack h r =
    set_fits 27 (start + region) _ (omega arith) (set_fits 26 start _ (omega arith) (set_fits 25 (start + region) _
    (omega arith) (set_fits 2 (start + region + stack) zero_regs h (λ q. omega arith)))) r

-- a run comes to the verdicts of one that follows it
comes_too : {A B V : Type 0} (X : Run A V) (Y : Run B V) (v : V) → Follows X Y → (m : ℕ)
    → (X m).ending ≡ Some (Verdict v) → (n : ℕ) × ((Y n).ending ≡ Some (Verdict v))
comes_too X Y v h m e = let b = h.back m in (b.0, subst (λ o. EndsAs o (Y b.0).ending) e b.2)

module _ {image : List ℕ} {procs : List Proc} {entry : ℕ} {statics : List ℕ} {labels : List Pos} {registers : ℕ}
    {places : List Place} (closed : is_closed procs entry ≡ true) (whole : IsImage image)
    (selected : IsCodeOf (select_items entry procs) registers procs entry)
    (best : IsBest (select_items entry procs) (registers_of procs) places)
    (placed : IsApplied (place_in places) (select_items entry procs) (words_code places procs entry))
    (is : IsImageOf image (words_code places procs entry) statics labels) where
  abbrev items : List VirtualItem
  items = select_items entry procs

  abbrev code : List RealItem
  code = words_code places procs entry

  -- the number of a procedure in the code is that of one of the program
  procedure_below : (place k first count : ℕ) → slice_get items place ≡ Some (Procedure k first count)
      → k < length procs
  procedure_below place k first count e =
      let h = below_numbers (length procs) 0 k (subst (λ ks. In k ks) selected.order
      (in_procedures items place k first count e)) in omega arith

  module _ (p : Proc) (told : ℕ → ℕ) (region stack : ℕ) (world : WorldState)
      (given : RunsIn code statics procs entry p told region stack) where
    abbrev s : State
    s = start_of image region stack world

    starts : Starts items code (plain_setting (item_address code statics)) told s
    starts =
        let small = parts_small is whole in
        let r = given.region_size.1 in
        let t = given.stack_size.1 in
        let a = whole.statics in
        let b = whole.code in
        let c = given.region_size.0 in
        let d = given.stack_size.0 in
        record {
          addresses = is.addresses.sound;
          calls = λ place u. refl;
          tells = λ place k first count at e m. given.tells k at (procedure_below place k first count e) m;
          lies = record {
            base = omega arith;
            region = omega arith;
            stack = omega arith;
            aligned = omega arith;
            small = omega arith;
            end_aligned = omega arith;
          };
          pc = is.addresses.entry region stack world;
          stack = refl;
          fits = start_fits (first_address + statics_len image + code_len image) region stack (omega arith);
          bytes = memory_bytes is whole;
        }

    begins : Begins (words_setting procs told s) entry p s.regs
    begins =
        let small = parts_small is whole in
        let r = given.region_size.1 in
        let a = whole.statics in
        let b = whole.code in
        let first = closed_entry procs entry closed in
        let one : p ≡ first.0 = same_proc p first.0 (sym given.begins ∙ first.1) in
        record {
          there = given.begins;
          none = ap (λ (q : Proc). q.params) one ∙ first.2;
          aligned = omega arith;
          ordered = omega arith;
          small = omega arith;
          alloc = refl;
          region_end = refl;
        }
      where
        same_proc : (x y : Proc) → Some x ≡ Some y → x ≡ y
        same_proc x y e = cc

    module _ (reading : Halt → Ending Outcome)
        (never : NeverWrong (run (low_machine reading (words_setting procs told s))
        (low_start (words_setting procs told s) p s.memory s.world))) where
      abbrev low : Machine LowState LowShown Outcome
      low = low_machine reading (words_setting procs told s)

      abbrev low0 : LowState
      low0 = low_start (words_setting procs told s) p s.memory s.world

      abbrev real : Machine State State Outcome
      real = real_machine reading code (plain_setting (item_address code statics))

      abbrev virtual : Machine VirtualState Shown Outcome
      virtual = virtual_machine reading (setting_in items told s)

      upper : Simulates virtual low (setting_in items told s) (words_setting procs told s) p s.regs s.memory s.world
      upper = selected.runs reading (words_setting procs told s) p s.regs s.memory s.world refl begins never

      virtual_never : NeverWrong (run virtual (start_in s))
      virtual_never = follower_never_goes_wrong (follows_of upper.follows)

      lower : NeverWrong (run real s) → AssembledSimulates (machine_by reading) real
          (state_price code (plain_setting (item_address code statics))) s
      lower real_never = is.runs reading region stack world given.region_size given.stack_size real_never

      -- from the machine of the image over that of the real code and the virtual run to the run over words
      pub follows_words : reading (Lacks Stack) ≡ Exhausted → FollowsWords reading procs low low0 s
      follows_words out =
          let middle = placed.follows selected.well_formed.distinct reading out
          (plain_setting (item_address code statics)) told s starts virtual_never in
          let below = lower (follower_never_goes_wrong (follows_of middle.follows)) in
          let follows = follows_by_weaken (IsSeenAs (s.regs 25)) Any (below_code (s.regs 25)) (λ a b h. tt)
          (follows_by_trans below.follows middle.follows) in
          let turns = follows_by_weaken (OfRest (IsSeenAs (s.regs 25))) (Spends 1)
          (λ a b h. below_code (s.regs 25) a.rest b.rest (h.0.rest, h.1, h.2)) (λ a b h. spends_through 1 1 a b h)
          (follows_by_trans below.turns middle.turns) in
          record {
            follows = follows_by_weaken (HasRegionOf (s.regs 25)) Any (below_words (s.regs 25)) (λ a b h. tt)
                (follows_by_trans follows upper.follows);
            turns = follows_by_weaken (OfRest (HasRegionOf (s.regs 25))) (Spends 1)
                (λ a b h. below_words (s.regs 25) a.rest b.rest (h.0.rest, h.1, h.2))
                (λ a b h. spends_through 1 1 a b h)
                (follows_by_trans turns upper.turns);
            never_wrong = follower_never_goes_wrong (follows_of follows);
          }

      -- where the machine lacks stack, so do the real code, the virtual run with the slots that are left, that with all
      -- registers, and the run over words
      pub lacks_with_words : IsReading reading → (lacking : Outcome) → reading (Lacks Stack) ≡ Verdict lacking → (m : ℕ)
          → (run (machine_by reading) s m).ending ≡ Some (Verdict lacking)
          → (n : ℕ) × ((run (low_in_stack reading (words_setting procs told s) (room_in s)) low0 n).ending
          ≡ Some (Verdict lacking))
      lacks_with_words sound lacking read m e =
          let middle = placed.in_slots selected.well_formed.distinct reading sound
          (plain_setting (item_address code statics)) told s starts virtual_never in
          let below = lower (follower_never_goes_wrong (follows_of middle.follows)) in
          let in_stack = selected.in_stack reading (sound.lacking Stack) (words_setting procs told s) p s.regs s.memory
          s.world (room_in s) refl begins never in
          let real_lacks = comes_too (run (machine_by reading) s) (run real s) lacking (follows_of below.follows) m e in
          let sized_lacks = comes_too (run real s)
          (run (sized_machine reading (setting_in items told s) (slots_of (place_in places)) (room_in s)) (start_in s))
          lacking (follows_of middle.follows) real_lacks.0 real_lacks.1 in
          let stacked_lacks = lacks_with_all reading (setting_in items told s) (place_in places) (room_in s)
          sized_lacks.0 (start_in s) (sized_lacks.1 ∙ ap Some (sym read)) in
          comes_too (run (stacked_machine reading (setting_in items told s) (room_in s)) (start_in s))
          (run (low_in_stack reading (words_setting procs told s) (room_in s)) low0) lacking
          (follows_of in_stack.follows) sized_lacks.0 (stacked_lacks ∙ ap Some read)

      -- ---- where the machine ends with a verdict

      -- so has the run over words, with the same output, or that exceeds the machine's stack
      abbrev EndsSo : Outcome → Moment State Outcome → Moment LowShown Outcome → Type 0
      EndsSo verdict x y =
          (x.output ≡ y.output) × ((y.ending ≡ Some (Verdict verdict)) ⊎ ExceedsStack procs (room_in s) x.shown y.shown)

      ends_too : (verdict : Outcome) (x y : Moment State Outcome) → x.output ≡ y.output
          → EndsToo verdict virtual (start_in s) y → (n : ℕ) × EndsSo verdict x (run low low0 n)
      ends_too verdict x y same e =
          let back = upper.follows.back e.many in (
            back.0,
            (
              same ∙ (e.output ∙ back.1.0.output),
              inl (subst (λ o. EndsAs o (run low low0 back.0).ending) e.ended back.1.1),
            ),
          )

      exceeds : (verdict : Outcome) (x y : Moment State Outcome) → x.output ≡ y.output
          → x.shown.regs 2 ≡ y.shown.regs 2 → x.shown.regs 25 ≡ y.shown.regs 25
          → EntersBeyond items (frames_by (place_in places)) (last_frame_by (place_in places)) virtual (room_in s)
          (start_in s) y
          → (n : ℕ) × EndsSo verdict x (run low low0 n)
      exceeds verdict x y same sp limit e =
          let back = upper.follows.back e.many in
          let t : VirtualState = e.entered in
          let here : run virtual (start_in s) e.many ≡ seen virtual (Go t) = ap (seen virtual) e.comes in
          let region : SameRegion (s.regs 25) (s.regs 25) (virtual.shown t) (run low low0 back.0).shown =
          subst (λ (m : Moment Shown Outcome). SameRegion (s.regs 25) (s.regs 25) m.shown (run low low0 back.0).shown)
          here back.1.0.shown in
          let words = procedure_words procs entry e.place e.number t.active.found.first t.active.found.count e.there in
          let larger = frames_no_larger (place_in places) t.active.found t.frames in
          let held = stack_held t.active.found t.frames in
          let more_frames = region.frames in
          let more_held = region.held in
          let beyond = e.beyond in
          let left = e.left in
          let fewer = few (place_in places) t.active.found.first t.active.found.count in
          let count = words.3 in (
            back.0,
            (
              same ∙ (e.output ∙ (sym (ap (λ (m : Moment Shown Outcome). m.output) here) ∙ back.1.0.output)),
              inr (record {
                exceeds = omega (arith, beyond, larger, held, more_frames, more_held);
                number = words.0;
                proc = words.1;
                there = words.2;
                left = omega (arith, left, sp, limit, fewer, count);
              }),
            ),
          )

      ends_with_words : IsReading reading → (m : ℕ) (verdict : Outcome)
          → (run (machine_by reading) s m).ending ≡ Some (Verdict verdict)
          → (n : ℕ) × EndsSo verdict (run (machine_by reading) s m) (run low low0 n)
      ends_with_words sound m verdict e =
          let middle = placed.in_slots selected.well_formed.distinct reading sound
          (plain_setting (item_address code statics)) told s starts virtual_never in
          let below = lower (follower_never_goes_wrong (follows_of middle.follows)) in
          let back = below.follows.back m in
          let ended : (run real s back.0).ending ≡ Some (Verdict verdict) =
          subst (λ o. EndsAs o (run real s back.0).ending) e back.1.1 in
          let like = back.1.0.shown in
          either back.0 back.1.0.output (like.regs 2 (λ h. cc)) (like.regs 25 (λ h. cc))
          (placed.stops selected.well_formed.distinct reading sound
          (plain_setting (item_address code statics)) told s starts virtual_never back.0 verdict ended)
        where
          x : Moment State Outcome
          x = run (machine_by reading) s m

          either : (k : ℕ) → x.output ≡ (run real s k).output
              → x.shown.regs 2 ≡ (run real s k).shown.regs 2 → x.shown.regs 25 ≡ (run real s k).shown.regs 25
              → EndsToo verdict virtual (start_in s) (run real s k)
              ⊎ ((reading (Lacks Stack) ≡ Verdict verdict)
              × EntersBeyond items (frames_by (place_in places)) (last_frame_by (place_in places)) virtual (room_in s)
              (start_in s) (run real s k))
              → (n : ℕ) × EndsSo verdict x (run low low0 n)
          either k same sp limit (inl h) = ends_too verdict x (run real s k) same h
          either k same sp limit (inr h) = exceeds verdict x (run real s k) same sp limit h.1

    -- where the machine has stopped for want of stack, told by the reading by which that alone is a verdict
    module _ (reading : Halt → Ending Outcome) (sound : IsReading reading) where
      abbrev low_setting : LowSetting
      low_setting = words_setting procs told s

      abbrev low_first : LowState
      low_first = low_start low_setting p s.memory s.world

      abbrev words_run : (Halt → Ending Outcome) → Run LowShown Outcome
      words_run other = run (low_machine other low_setting) low_first

      pub lacks_as_words : any_calls 6 procs ≡ false → NeverWrong (words_run reading) → (m : ℕ) (t : State)
          → run_of m s ≡ (t, Some (Lacks Stack))
          → (n : ℕ) × (t.world.output ≡ (words_run reading n).output)
          × ExceedsStack procs (room_in s) t (words_run reading n).shown
      lacks_as_words calm never m t e =
          let never1 = words_never_wrong reading of_stack sound of_stack_reads low_setting low_first never in
          let x : run (machine_by of_stack) s m ≡ stopped of_stack (Lacks Stack) t =
          stop_read of_stack m s t (Lacks Stack) e in
          let ends = ends_with_words of_stack never1 of_stack_reads m StackOut
          (ap (λ (y : Moment State Outcome). y.ending) x) in
          let same = same_but_ending of_stack reading low_setting ends.0 low_first in (
            ends.0,
            sym (ap (λ (y : Moment State Outcome). y.output) x) ∙ (ends.1.0 ∙ same.output),
            exceeds_so ends.0 (ap (λ (y : Moment State Outcome). y.shown) x) same.shown ends.1.1,
          )
        where
          exceeds_so : (n : ℕ) → (run (machine_by of_stack) s m).shown ≡ t
              → (words_run of_stack n).shown ≡ (words_run reading n).shown
              → ((words_run of_stack n).ending ≡ Some (Verdict StackOut))
              ⊎ ExceedsStack procs (room_in s) (run (machine_by of_stack) s m).shown (words_run of_stack n).shown
              → ExceedsStack procs (room_in s) t (words_run reading n).shown
          exceeds_so n is shown (inl h) =
              absurd (never_lacks_stack low_setting calm entry p s.memory s.world n given.begins h)
          exceeds_so n is shown (inr h) =
              subst (λ l. ExceedsStack procs (room_in s) t l) shown
              (subst (λ u. ExceedsStack procs (room_in s) u (words_run of_stack n).shown) is h)

  pub is_image_of_words : IsImageOfWords image procs entry statics labels
  is_image_of_words = record {
    places = places;
    best = best;
    is_image = is;
    addresses = have_addresses procs entry statics registers places is.addresses.sound selected placed;
    whole = whole;
    small = parts_small is whole;
    runs = λ reading out p told region stack world given never.
        follows_words p told region stack world given reading never out;
    lacks = λ reading sound lacking read p told region stack world given never m e.
        lacks_with_words p told region stack world given reading never sound lacking read m e;
    lacks_stack = λ reading sound calm p told region stack world given never m t e.
        lacks_as_words p told region stack world given reading sound calm never m t e;
  }

-- the image of the real code of a closed program's code, whose registers have these places
pub joined : (procs : List Proc) (entry registers : ℕ) (items : List VirtualItem) (places : List Place)
    (code : List RealItem) (image statics : List ℕ) (labels : List Pos) → is_closed procs entry ≡ true → IsImage image
    → IsCodeOf items registers procs entry → IsBest items registers places → IsApplied (place_in places) items code
    → IsImageOf image code statics labels → IsImageOfWords image procs entry statics labels
joined procs entry registers items places code image statics labels closed whole selected best placed is =
    is_image_of_words closed whole (subst (λ xs. IsCodeOf xs registers procs entry) selected.exactly selected)
    (subst (λ xs. IsBest xs (registers_of procs) places) selected.exactly
    (subst (λ n. IsBest items n places) selected.counted best))
    (subst (λ xs. IsApplied (place_in places) xs (words_code places procs entry)) selected.exactly
    (subst (IsApplied (place_in places) items) code_is placed))
    (subst (λ c. IsImageOf image c statics labels) code_is is)
  where
    code_is : code ≡ words_code places procs entry
    code_is = placed.exactly ∙ ap (applied (place_in places)) selected.exactly
