-- An image follows the program that its source is, and whole objects fill its region at each moment.
use Rattle.std.proofs.Common.{◌≡◌, ℕ, suc, ◌+◌, ◌*◌, ◌<◌, ◌≤◌, ◌^◌, true, false, List, [], ◌∷◌, length, map, Some, refl}
use Rattle.std.proofs.Common.{sym, ◌∙◌}
use Rattle.std.proofs.Common.{ap, subst}
use Rattle.std.proofs.Common.{slice_get, arith, le_refl}
use Rattle.std.specs.Prelude.{All}
use Rattle.std.proofs.lemmas.List.{length-map}
use Rattle.std.proofs.lemmas.List.Elements.{All-nil, All-cons, All-head, All-tail}
use Rattle.grift_base.specs.Types.{TypeRow, TypeRows, row_at}
use Rattle.grift_base.specs.declared.words.Statics.{Statics}
use Rattle.grift_base.specs.declared.verdicts.Verdict.{Verdict}
use Rattle.run_laws.specs.Accounts.{FollowsWithin}
use Rattle.run_laws.specs.Machines.{run}
use Rattle.run_laws.specs.Meters.{metered, unspent}
use Rattle.run_laws.specs.Runs.{Any, Ending, Exhausted, Follows, FollowsBy, NeverWrong, Run}
use Rattle.run_laws.proofs.Public.{follows_is_transitive, follows_of, follower_never_goes_wrong}
use Rattle.machine_words.specs.Memory.{first_address}
use Rattle.rv_machine.specs.Image.{statics_len, code_len}
use Rattle.machine_words.specs.Halts.{IsReading, ending_of}
use Rattle.rv_machine.specs.Mach.{mach, run_of}
use Rattle.rv_machine.specs.Start.{IsRegionSize, IsStackSize, fresh_world, start_of}
use Rattle.rv_machine.specs.State.{State}
use Rattle.machine_words.specs.Halts.{Halt, Lacks, Stack}
use Rattle.core_calc.specs.Account.{measures_of}
use Rattle.core_calc.specs.Calculus.{Program, calc}
use Rattle.core_calc.specs.Typing.{ProgramTermHasType}
use Rattle.coercion_norm.specs.MergedMode.{merging}
use Rattle.cast_modes.specs.Modes.{TypeCast}
use Rattle.cast_modes.specs.Counting.{Counts}
use Rattle.coercion_norm.specs.CastRows.{row_casts}
use Rattle.coercion_norm.specs.CoercionTables.{cast_of}
use Rattle.coercion_norm.specs.Nodes.{Node, IsTree}
use Rattle.coercion_norm.specs.Statics.{AreStatics}
use Rattle.coercion_norm.specs.declared.cast_rows.CastRow.{CastRow}
use Rattle.coer_core.specs.Counts.{run_in, told_of}
use Rattle.type_graph.specs.TypeTables.{IsOrderedTable}
use Rattle.coer_core.specs.Programs.{HaveCoercions, tallest_of}
use Rattle.coer_core.specs.Terms.{RowTerm, core_of}
use Rattle.coer_core.proofs.Public.{no_wider, merged_runs_follow_the_calculus-follows}
use Rattle.coer_core.proofs.Public.{merged_runs_follow_the_calculus-never_wrong}
use Rattle.flat_ir.specs.Bodies.{Proc as FlatProc}
use Rattle.flat_ir.specs.Closed.{is_closed}
use Rattle.flat_ir.specs.Counts.{flat_run_in}
use Rattle.closure_convert.specs.Conversion.{converted, made}
use Rattle.closure_convert.specs.Programs.{HasNoFreeNames}
use Rattle.closure_convert.proofs.Public.{procedures_follow_their_term-merged}
use Rattle.closure_convert.proofs.Public.{procedures_of_program_terms_are_closed-names}
use Rattle.flat_ir.specs.FlatTally.{flat_tally_in}
use Rattle.coer_core.specs.TurnPrices.{merged_prices}
use Rattle.flat_ir.specs.Levels.{HaveLevels}
use Rattle.low_ir.specs.Counting.{any_calls}
use Rattle.low_ir.specs.Prices.{low_price}
use Rattle.low_ir.specs.Procedures.{Proc}
use Rattle.low_ir.specs.Run.{LowShown, Setting, low_machine, low_start}
use Rattle.coercion_norm.specs.Held.{Layout}
use Rattle.lowered_code.specs.declared.served.CastWay.{CastWay}
use Rattle.lowered_code.specs.declared.served.Served.{Served}
use Rattle.lowered_code.specs.CastWays.{cast_ways}
use Rattle.lowered_code.specs.Lowered.{low_proc, entry_proc, lowered}
use Rattle.lower.specs.Keeping.{KeepsFlat, PaysFlat}
use Rattle.lower.specs.SimulationClaims.{AreNarrow, IsLowered, StorageIsWhole}
use Rattle.lowered_code.specs.Serving.{all_narrow}
use Rattle.lower.specs.MergedProcs.{merged_numbers, merged_procs}
use Rattle.lower.specs.Sets.{with_casts}
use Rattle.lower.proofs.Public.{words_follow_procedures-storage, words_keep_the_account}
use Rattle.lower.proofs.Public.{procedures_are_narrow}
use Rattle.lower.proofs.Public.{AreSized}
use Rattle.placed_code.specs.Slotted.{room_in}
use Rattle.reg_assign.specs.Images.{ExceedsStack, FollowsWords, HasRegionOf, IsImageOfWords}
use Rattle.compile_driver.specs.Compiling.{FollowsProgram}
use Rattle.compile_driver.specs.Space.{KeepsSpace, KeepsStorage}
use Rattle.compile_driver.proofs.FewWords.{procedures_have_few_words}
use Rattle.lower.specs.MergedMeaning.{width_of}
use Rattle.lower.proofs.Public.{casts_held, tallest_low}
use Rattle.lower.proofs.Public.{entry_there}
use Rattle.compile_driver.proofs.Kept.{kept}
use Rattle.compile_driver.proofs.Layouts.{layout_stays}
use Rattle.compile_driver.proofs.Starting.{told, setting, layout, runs_in, code_addresses, are_placed}
use Rattle.compile_driver.proofs.Starting.{statics_hold, top_low}

-- ---- from the calculus to numbered procedures

-- a program term, as a term with numbered casts
pub record IsPassed (program : Program) (casts : List TypeCast) (rows : RowTerm) (answer : ℕ) : Type 0 where
  pub reads : core_of casts rows ≡ program.term
  pub typed : ProgramTermHasType program.types (length program.labels) program.term answer
  pub table : IsOrderedTable program.types

module _ {program : Program} {casts : List TypeCast} {rows : RowTerm} {answer : ℕ}
    (passed : IsPassed program casts rows answer) where
  pub no_free_names : HasNoFreeNames rows
  no_free_names =
      procedures_of_program_terms_are_closed-names casts program.types (length program.labels) rows answer
      (subst (λ t. ProgramTermHasType program.types (length program.labels) t answer) (sym passed.reads) passed.typed)

  never : (input : List ℕ)
      → NeverWrong (run_in (merging program.types casts) (told_of program answer) rows input)
  never input =
      merged_runs_follow_the_calculus-never_wrong casts program rows input answer (sym passed.reads) passed.typed
      passed.table

  flat_follows : (input : List ℕ)
      → Follows (flat_run_in (converted rows) (made rows) (merging program.types casts) (told_of program answer) input)
      (calc program input)
  flat_follows input =
      follows_is_transitive
      (follows_of (procedures_follow_their_term-merged casts (told_of program answer) rows input no_free_names
      (never input)))
      (merged_runs_follow_the_calculus-follows casts program rows input answer (sym passed.reads) passed.typed
      passed.table)

-- a term that reads back to a program term has no free names
pub no_names : (casts : List TypeCast) (types : TypeRows) (labels : ℕ) (rows : RowTerm) (answer : ℕ)
    → ProgramTermHasType types labels (core_of casts rows) answer → HasNoFreeNames rows
no_names casts types labels rows answer typed =
    procedures_of_program_terms_are_closed-names casts types labels rows answer typed

abbrev HasCoercion : TypeRows → List Node → CastRow → Type 0
HasCoercion types nodes row = IsTree nodes row.coercion.0 (cast_of types row.from.0 row.to.0 row.label.0)

-- the coercion of each cast is in the table
pub casts_within : (types : TypeRows) (nodes : List Node) (rows : List CastRow) → HaveCoercions types nodes rows
    → All (λ (row : CastRow). row.coercion.0 < length nodes) rows
casts_within types nodes [] h = All-nil (λ (row : CastRow). row.coercion.0 < length nodes)
casts_within types nodes (row ∷ rows) h =
    let first : IsTree nodes row.coercion.0 (cast_of types row.from.0 row.to.0 row.label.0)
    = All-head (HasCoercion types nodes) row rows h in
    All-cons (λ (r : CastRow). r.coercion.0 < length nodes) row rows first.within
    (casts_within types nodes rows (All-tail (HasCoercion types nodes) row rows h))

-- the reading of stops by which want of room is exhausted
reads_right : IsReading ending_of
reads_right = record {
  wrong = λ fault. refl;
  ended = λ verdict e. absurd (let f : ⊥ = cc in f);
  lacking = λ room e. absurd (let f : ⊥ = cc in f);
}

-- ---- from numbered procedures to an image

-- the procedures behind those of a program, and the numbers of those that its code calls
abbrev pub serving : List FlatProc → List Proc
serving procs = merged_procs (suc (length procs))

abbrev pub run_by : List FlatProc → Statics → List CastWay → Served
run_by procs statics ways = with_casts (merged_numbers (suc (length procs))) statics.cast_at ways

-- the image is that of the procedures of a program, lowered, behind the statics of its types and coercions
pub record IsMade (program : Program) (nodes : List Node) (rows : List CastRow) (procs : List FlatProc) (entry : ℕ)
    (row : TypeRow) (statics : Statics) (image : List ℕ) : Type 0 where
  pub image_is : IsImageOfWords image
      (lowered (run_by procs statics (cast_ways program.types (row_casts rows))) procs entry row (serving procs))
      (length procs) statics.words program.labels
  pub statics_are : AreStatics program.types nodes rows first_address statics
  pub coercions : HaveCoercions program.types nodes rows
  pub words : All (λ w. w < 2 ^ 64) statics.words
  pub cast_words : All (λ w. w < 2 ^ 64) statics.cast_at
  pub closed : is_closed procs entry ≡ true
  pub narrow : AreNarrow procs
  pub levels : HaveLevels (measures_of program).size procs
  pub short : statics_len image + code_len image ≤ 8589934592

-- what the passes have made of a program
pub record HasPassed (program : Program) (rows : List CastRow) (nodes : List Node) (term : RowTerm) (answer : ℕ)
    (image : List ℕ) : Type 0 where
  pub row : TypeRow
  pub statics : Statics
  pub passed : IsPassed program (row_casts rows) term answer
  pub row_is : row_at program.types answer ≡ Some row
  pub made_so : IsMade program nodes rows (converted term) (made term) row statics image

module _ {program : Program} {rows : List CastRow} {term : RowTerm} {answer : ℕ} {nodes : List Node} {row : TypeRow}
    {statics : Statics} {image : List ℕ}
    (passed : IsPassed program (row_casts rows) term answer) (row_is : row_at program.types answer ≡ Some row)
    (made_so : IsMade program nodes rows (converted term) (made term) row statics image) where
  abbrev tallest : ℕ
  tallest = tallest_of program.types (row_casts rows)

  -- the tallest coercion is no higher than a type may be
  low : tallest ≤ 65534
  low =
      let types = made_so.statics_are.types_stand [] 0 0 (width_of program.types) (no_wider program.types) in
      tallest_low program.types types.heights types.low (row_casts rows)

  module _ (region stack : ℕ) (input : List ℕ) (r : IsRegionSize region) (s : IsStackSize stack) where
    abbrev pub begin : State
    begin = start_of image region stack (fresh_world input)

    -- what the run over words is told, where the machine is in its start state
    abbrev pub set : Setting
    set = setting made_so.image_is made_so.statics_are made_so.words region stack r s (fresh_world input)

    abbrev l : Layout
    l = layout made_so.image_is made_so.statics_are made_so.words region stack r s (fresh_world input) tallest

    abbrev words_run : Run LowShown Verdict
    words_run = run (low_machine ending_of set) (low_start set (entry_proc (made term) row) begin.memory begin.world)

    abbrev flat_run : Run Counts Verdict
    flat_run =
        flat_run_in (converted term) (made term) (merging program.types (row_casts rows)) (told_of program answer) input

    -- the procedures that are lowered, where the program stands
    lowered_here : IsLowered set l (with_casts (merged_numbers (suc (length (converted term)))) statics.cast_at
        (cast_ways program.types (row_casts rows))) (converted term) (made term) row (serving (converted term))
        begin.memory
    lowered_here =
        let is = made_so.image_is in
        let at = made_so.statics_are in
        let world = fresh_world input in
        record {
          procs_are = refl;
          addresses = code_addresses is at made_so.words region stack r s world;
          placed = are_placed is at made_so.words region stack r s world tallest;
          begins = refl;
          fits = omega arith;
          statics = statics_hold is at made_so.words region stack r s world tallest;
        }

    -- it follows the procedures, with whole objects in its region
    words_follow : FollowsBy (StorageIsWhole set l) Any words_run flat_run
    words_follow =
        let is = made_so.image_is in
        let at = made_so.statics_are in
        let world = fresh_world input in
        words_follow_procedures-storage set l statics.cast_at (converted term) (made term) row begin.memory
        (told_of program answer) (row_casts rows) input lowered_here
        (top_low is at made_so.words region stack r s world made_so.short) is.is_image.labels_are row_is refl
        (at.types_stand [] begin.layout.region tallest (width_of program.types) (no_wider program.types))
        (casts_held at made_so.coercions made_so.cast_words begin.layout.region low) made_so.closed made_so.narrow
        (follower_never_goes_wrong (flat_follows passed input))

    pub words_never_wrong : NeverWrong words_run
    words_never_wrong = follower_never_goes_wrong (follows_of words_follow)

    -- the procedures over words have few words
    pub few_words : AreSized ((measures_of program).size + 24) set.procs
    few_words =
        procedures_have_few_words (measures_of program).size
        (run_by (converted term) statics (cast_ways program.types (row_casts rows))) (converted term) (made term) row
        (suc (length (converted term))) made_so.levels

    -- the procedure to begin with is where the image says
    pub begins_there : slice_get set.procs (length (converted term)) ≡ Some (entry_proc (made term) row)
    begins_there =
        let procs = converted term in
        let served = run_by procs statics (cast_ways program.types (row_casts rows)) in
        entry_there (map (low_proc served) procs) (entry_proc (made term) row) (serving procs) (length procs)
        (length-map procs (low_proc served))

    -- and within their account, where coercions are no higher than types
    pub words_keep : tallest ≤ (measures_of program).height
        → FollowsWithin (KeepsFlat set (4 * tallest + 7) ((measures_of program).size + 24)) PaysFlat
        (run (metered (low_price set.procs) (low_machine ending_of set))
        (unspent (low_start set (entry_proc (made term) row) begin.memory begin.world)))
        (flat_tally_in (converted term) (made term) (merging program.types (row_casts rows))
        (merged_prices program.types (merging program.types (row_casts rows)) (measures_of program))
        (told_of program answer) input)
    words_keep tall =
        let is = made_so.image_is in
        let at = made_so.statics_are in
        let world = fresh_world input in
        words_keep_the_account set l statics.cast_at (converted term) (made term) row begin.memory
        (told_of program answer) (row_casts rows) (measures_of program) ((measures_of program).size + 24) input
        lowered_here
        (top_low is at made_so.words region stack r s world made_so.short) is.is_image.labels_are row_is refl
        (at.types_stand [] begin.layout.region tallest (width_of program.types) (no_wider program.types))
        (record { wide = le_refl (width_of program.types); two = omega arith; tall = tall })
        (casts_held at made_so.coercions made_so.cast_words begin.layout.region low) made_so.closed made_so.narrow
        few_words (follower_never_goes_wrong (flat_follows passed input))

    -- the machine lacks stack only where that run exceeds it
    pub lacks_stack : any_calls 6 set.procs ≡ false → (m : ℕ) (t : State) → run_of m begin ≡ (t, Some (Lacks Stack))
        → (n : ℕ) × (t.world.output ≡ (words_run n).output) × ExceedsStack set.procs (room_in begin) t
        (words_run n).shown
    lacks_stack quiet m t stops =
        let is = made_so.image_is in
        let at = made_so.statics_are in
        let world = fresh_world input in
        let first = entry_proc (made term) row in
        is.lacks_stack ending_of reads_right quiet first (told is at made_so.words region stack r s world) region stack
        world (runs_in is at made_so.words region stack r s world first begins_there) words_never_wrong m t stops

    -- the machine follows the run over words under each reading of stops by which want of stack is exhausted
    pub image_runs : (reading : Halt → Ending Verdict) → reading (Lacks Stack) ≡ Exhausted
        → NeverWrong (run (low_machine reading set)
        (low_start set (entry_proc (made term) row) begin.memory begin.world))
        → FollowsWords reading set.procs (low_machine reading set)
        (low_start set (entry_proc (made term) row) begin.memory begin.world) begin
    image_runs reading lacks never =
        let is = made_so.image_is in
        let at = made_so.statics_are in
        let world = fresh_world input in
        let first = entry_proc (made term) row in
        is.runs reading lacks first (told is at made_so.words region stack r s world) region stack world
        (runs_in is at made_so.words region stack r s world first begins_there) never

    -- with the same region
    machine_follows : FollowsBy (HasRegionOf (begin.regs 25)) Any (mach image region stack input) words_run
    machine_follows = (image_runs ending_of refl words_never_wrong).follows

    pub follows : Follows (mach image region stack input) (calc program input)
    follows =
        follows_is_transitive (follows_of machine_follows)
        (follows_is_transitive (follows_of words_follow) (flat_follows passed input))

    -- so whole objects fill the machine's region at each moment
    pub keeps : (m : ℕ) → KeepsStorage program.types tallest begin (mach image region stack input m).shown
    keeps m =
        let machine = machine_follows.back m in
        let words = words_follow.back machine.0 in
        kept made_so.image_is made_so.statics_are made_so.words region stack r s input tallest low
        (mach image region stack input m).shown (words_run machine.0).shown (layout_stays m begin) machine.1.0.shown
        words.1.0.shown.0 words.1.0.shown.1

  pub follows_program : FollowsProgram image program
  follows_program region stack input r s = follows region stack input r s

  pub keeps_space : KeepsSpace image program.types tallest
  keeps_space region stack input m r s = keeps region stack input r s m

-- ---- what the passes answer

-- what is known of the answers of the passes of a program
pub record Passes (program : Program) (nodes : List Node) (rows : List CastRow) (term : RowTerm) (row : TypeRow)
    (procs : List FlatProc) (count entry : ℕ) (low : List Proc) (low_entry : ℕ) (statics : Statics)
    (image : List ℕ) : Type 0 where
  pub procs_are : procs ≡ converted term
  pub entry_is : entry ≡ made term
  pub counted : count ≡ length procs
  pub low_is : low ≡ lowered (with_casts (merged_numbers (suc count)) statics.cast_at
      (cast_ways program.types (row_casts rows))) procs entry row (merged_procs (suc count))
  pub begins : low_entry ≡ count
  pub image_is : IsImageOfWords image low low_entry statics.words program.labels
  pub statics_are : AreStatics program.types nodes rows first_address statics
  pub coercions : HaveCoercions program.types nodes rows
  pub words : All (λ w. w < 2 ^ 64) statics.words
  pub cast_words : All (λ w. w < 2 ^ 64) statics.cast_at
  pub closed : is_closed procs entry ≡ true
  pub narrow : all_narrow procs ≡ true
  pub levels : HaveLevels (measures_of program).size procs
  pub short : statics_len image + code_len image ≤ 8589934592

module _ {program : Program} {nodes : List Node} {rows : List CastRow} {term : RowTerm} {row : TypeRow}
    {procs : List FlatProc} {count entry : ℕ} {low : List Proc} {low_entry : ℕ} {statics : Statics} {image : List ℕ}
    (p : Passes program nodes rows term row procs count entry low low_entry statics image) where
  counted_so : count ≡ length (converted term)
  counted_so = p.counted ∙ ap length p.procs_are

  abbrev ways : List CastWay
  ways = cast_ways program.types (row_casts rows)

  abbrev served : Served
  served = run_by (converted term) statics ways

  low_so : low ≡ lowered served (converted term) (made term) row (serving (converted term))
  low_so =
      p.low_is ∙ (ap (λ n. lowered (with_casts (merged_numbers (suc n)) statics.cast_at ways) procs entry row
      (merged_procs (suc n))) counted_so
      ∙ (ap (λ ps. lowered served ps entry row (serving (converted term))) p.procs_are
      ∙ ap (λ e. lowered served (converted term) e row (serving (converted term))) p.entry_is))

  pub are_made : IsMade program nodes rows (converted term) (made term) row statics image
  are_made = record {
    image_is = subst (λ n. IsImageOfWords image (lowered served (converted term) (made term) row
        (serving (converted term))) n statics.words program.labels) (p.begins ∙ counted_so)
        (subst (λ ps. IsImageOfWords image ps low_entry statics.words program.labels) low_so p.image_is);
    statics_are = p.statics_are;
    coercions = p.coercions;
    words = p.words;
    cast_words = p.cast_words;
    closed = subst (λ e. is_closed (converted term) e ≡ true) p.entry_is
        (subst (λ ps. is_closed ps entry ≡ true) p.procs_are p.closed);
    narrow = procedures_are_narrow (converted term) (subst (λ ps. all_narrow ps ≡ true) p.procs_are p.narrow);
    levels = subst (HaveLevels (measures_of program).size) p.procs_are p.levels;
    short = p.short;
  }
