-- An assembled image does what its code does.
use Rattle.std.proofs.Common.{ℕ, suc, ◌+◌, ◌-◌, ◌*◌, ◌%◌, ◌^◌, ◌≤◌, ◌≡◌, false, List, [], ◌∷◌, ◌++◌, length, drop, refl}
use Rattle.std.proofs.Common.{sym, ◌∙◌, ap, subst, arith}
use Rattle.std.specs.Prelude.{flat_map, slice_index, nat_lt, ◌==◌, if◌then◌else◌}
use Rattle.std.proofs.lemmas.List.{get_or-append-add, length-map}
use Rattle.run_laws.specs.Runs.{Ending, NeverWrong, FollowsBy, Any}
use Rattle.run_laws.specs.Machines.{Machine, run}
use Rattle.run_laws.specs.Meters.{metered, each_one, unspent, Spends, OfRest}
use Rattle.run_laws.proofs.Public.{follows_by_trans, follows_by_weaken, follows_of, follower_never_goes_wrong}
use Rattle.run_laws.proofs.Public.{follows_at_cost, follows_metered, metered_follows, unmetered_never_wrong}
use Rattle.grift_base.specs.World.{WorldState}
use Rattle.grift_base.specs.declared.places.Pos.{Pos}
use Rattle.rv_machine.specs.declared.real.RealItem.{RealItem}
use Rattle.rv_isa.specs.Encoding.{encode_of}
use Rattle.machine_words.specs.Memory.{Memory, memory_of, first_address, from_base}
use Rattle.rv_machine.specs.Image.{statics_len, code_len, loaded_part}
use Rattle.rv_machine.specs.State.{Layout, State, Turn}
use Rattle.machine_words.specs.Halts.{Halt}
use Rattle.rv_machine.specs.Start.{layout_of, IsRegionSize, IsStackSize}
use Rattle.rv_machine.specs.Real.{Setting, real_machine, machine_in}
use Rattle.assembler.specs.Layout.{address_of}
use Rattle.assembler.specs.Expansion.{code_insts, item_insts}
use Rattle.assembler.specs.Imaging.{word_bytes, half_bytes, image_bytes, AreSections, code_bytes, inst_words}
use Rattle.assembler.specs.Imaging.{code_start, assembled}
use Rattle.assembler.specs.Conditions.{CanBeAssembled}
use Rattle.assembler.specs.Encoded.{AllDecode}
use Rattle.assembler.specs.Prices.{state_price}
use Rattle.assembler.specs.Following.{IsLike, CanBeCall, AllCanBeCall, IsNoCall, Starts, Simulates, DoesAsCode}
use Rattle.assembler.specs.Following.{image_memory}
use Rattle.assembler.proofs.Images.{statics_field, code_field, loaded_is, statics_long, code_long}
use Rattle.assembler.proofs.Insts.{words_few}
use Rattle.assembler.proofs.Finding.{address_next}
use Rattle.assembler.proofs.Standing.{Stands}
use Rattle.assembler.proofs.Placing.{bytes_of, HasWords}
use Rattle.assembler.proofs.Starting.{outside_calls, reaches_to, item_words, item_stands, call_width}
use Rattle.assembler.proofs.Relation.{Prepared, Related}
use Rattle.assembler.proofs.Moves.{simulates}

-- ---- from runs that are counted to runs that are not

module _ {V : Type 0} (X Y : Machine State State V) (price : State → ℕ) (s : State) where
  -- the two follow each other when counted, so also when not
  pub uncounted : FollowsBy (OfRest IsLike) (Spends 1) (run (metered each_one X) (unspent s))
      (run (metered price Y) (unspent s)) → NeverWrong (run Y s) → Simulates X Y price s
  uncounted f nw =
      let nx : NeverWrong (run X s) = unmetered_never_wrong X each_one (unspent s)
      (follower_never_goes_wrong (follows_of f)) in
      let a = follows_metered X each_one (unspent s) nx in
      let b = metered_follows Y price (unspent s) nw in
      record {
        follows =
            follows_by_weaken IsLike Any (λ u v h. subst (λ x. IsLike x v) (sym h.1)
            (subst (λ x. IsLike h.0.rest x) h.2.2 h.2.1)) (λ u v h. tt) (follows_by_trans a (follows_by_trans f b));
        turns = f;
      }

-- ---- the image in memory

pub in_memory : (bs : List ℕ) (at : ℕ) → first_address ≤ at →
    from_base (memory_of bs) at ≡ memory_of bs (at - first_address)
in_memory bs at h = let e : nat_lt at first_address ≡ false = grind arith in rw e refl

-- what the sizes and the words of a code are
pub record CodeFacts (items : List RealItem) (statics : List ℕ) (labels : List Pos) : Type 0 where
  pub can : CanBeAssembled items
  pub decode : AllDecode (code_insts items (code_start statics))
  pub sections : AreSections (flat_map word_bytes statics)
      (code_bytes (inst_words (code_insts items (code_start statics)))) labels
  pub few_statics : length statics ≤ 2 ^ 40
  pub few_words : length (inst_words (code_insts items (code_start statics))) ≤ 11 * 2 ^ 40

-- a region and a stack that an image may be given
pub record Sizes : Type 0 where
  pub region : ℕ
  pub stack : ℕ
  pub region_size : IsRegionSize region
  pub stack_size : IsStackSize stack

pub no_sizes : Sizes
no_sizes = record { region = 0; stack = 0; region_size = (refl, omega arith); stack_size = (refl, omega arith) }

module _ {items : List RealItem} {statics : List ℕ} {labels : List Pos} (facts : CodeFacts items statics labels) where
  abbrev start : ℕ
  start = code_start statics

  abbrev words : List ℕ
  words = inst_words (code_insts items start)

  abbrev bytes : List ℕ
  bytes = assembled items statics labels

  pub code_at : first_address + statics_len bytes ≡ start
  code_at =
      omega (
        arith,
        statics_field (flat_map word_bytes statics) (code_bytes words) labels facts.sections,
        statics_long statics,
      )

  pub code_size : code_len bytes ≡ length (code_bytes words)
  code_size = code_field (flat_map word_bytes statics) (code_bytes words) labels facts.sections

  pub part : loaded_part bytes ≡ flat_map word_bytes statics ++ code_bytes words
  part = loaded_is (flat_map word_bytes statics) (code_bytes words) labels facts.sections

  -- the byte at an address from the start of code on
  byte_at : (at : ℕ) → start ≤ at → image_memory bytes at ≡ slice_index (code_bytes words) (at - start)
  byte_at at h =
      let long = statics_long statics in
      let e : at - first_address ≡ length (flat_map word_bytes statics) + (at - start) = omega arith in
      let a : image_memory bytes at ≡ memory_of (loaded_part bytes) (at - first_address) = in_memory
      (loaded_part bytes) at (omega arith) in
      a ∙ (ap (λ bs. slice_index bs (at - first_address)) part
      ∙ (ap (slice_index (flat_map word_bytes statics ++ code_bytes words)) e
      ∙ get_or-append-add (flat_map word_bytes statics) (code_bytes words) (at - start) 0))

  abbrev pub tail : List ℕ
  tail = if length words % 2 == 0 then [] else half_bytes 0

  pub words_long : length words ≡ length (code_insts items start)
  words_long = length-map (code_insts items start) encode_of

  module _ (sizes : Sizes) where
    abbrev l : Layout
    l = layout_of bytes sizes.region sizes.stack

    room : l.code + 4 * length (code_insts items l.code) ≤ l.region
    room =
        let a = code_long words in
        let b : length (code_insts items l.code) ≡ length (code_insts items start) = ap
        (λ n. length (code_insts items n)) code_at in
        let c = words_long in
        let d = code_size in omega arith

    decode_here : AllDecode (code_insts items l.code)
    decode_here = subst (λ n. AllDecode (code_insts items n)) (sym code_at) facts.decode

    -- the byte of the code at an address
    pub code_byte : (at : ℕ) → l.code ≤ at → image_memory bytes at
        ≡ slice_index (bytes_of (code_insts items l.code) ++ tail) (at - l.code)
    code_byte at h =
        byte_at at (let e = code_at in omega arith)
        ∙ ap (λ n. slice_index (bytes_of (code_insts items n) ++ tail) (at - n)) (sym code_at)

    -- in a memory that agrees with the image, but for the words of calls
    prepared : (m : Memory) (ecall ebreak : ℕ → State → Turn)
        → ((at : ℕ) → IsNoCall items (address_of items l.code) at → m at ≡ image_memory bytes at)
        → ((place : ℕ) → CanBeCall (ecall place)) → ((place : ℕ) → CanBeCall (ebreak place))
        → {V : Type 0} (reading : Halt → Ending V) → Prepared reading l m items ecall ebreak
    prepared m ecall ebreak same can_ecall can_ebreak reading = record {
      small = (let a = code_long words in let b = code_size in let c = code_at in let d = facts.few_words in
          let e = facts.few_statics in omega arith);
      whole = (let c = code_at in omega arith);
      inside = λ place. (let a = reaches_to items l place in let b = room in omega arith);
      words = λ place item rest there plain. item_stands items l m tail decode_here room place item rest there
          (λ at a b. same at (outside_calls items l place item rest there plain at a b)
          ∙ code_byte at (let c = code_below place in omega arith));
      call = λ place item rest there c. (
        code_below place,
        (let a = reaches_to items l (suc place) in
            let b = room in let d = address_next items l.code place item rest there in
            let e = call_width items l.code place item c in omega arith),
      );
      can_ecall = can_ecall;
      can_ebreak = can_ebreak;
      can = facts.can;
    }
      where
        code_below : (place : ℕ) → l.code ≤ address_of items l.code place
        code_below place = omega arith

    -- each item stands in the image's own memory, calls too
    pub full : (place : ℕ) (item : RealItem) (rest : List RealItem) → drop place items ≡ item ∷ rest
        → Stands l (image_memory bytes) (address_of items l.code place) (item_insts items l.code place item)
    full place item rest there =
        item_stands items l (image_memory bytes) tail decode_here room place item rest there
        (λ at a b. code_byte at (omega arith))

    pub full_words : (place : ℕ) (item : RealItem) (rest : List RealItem) → drop place items ≡ item ∷ rest
        → HasWords (image_memory bytes) (address_of items l.code place) (item_insts items l.code place item)
    full_words place item rest there =
        item_words items l (image_memory bytes) tail decode_here room place item rest there
        (λ at a b. code_byte at (omega arith))

    -- ---- the claim, where calls are told

    module _ {V : Type 0} (reading : Halt → Ending V) (ecall ebreak : ℕ → State → Turn)
        (can_ecall : (place : ℕ) → CanBeCall (ecall place)) (can_ebreak : (place : ℕ) → CanBeCall (ebreak place))
        (s : State) (here : s.layout ≡ l) (same : (at : ℕ) → IsNoCall items (address_of items l.code) at
        → s.memory at ≡ image_memory bytes at) where
      abbrev setting : Setting
      setting = record { address = address_of items l.code; ecall = ecall; ebreak = ebreak }

      pub simulated : NeverWrong (run (real_machine reading items setting) s)
          → Simulates (machine_in reading items setting) (real_machine reading items setting)
          (state_price items setting) s
      simulated nw =
          let p = prepared s.memory ecall ebreak same can_ecall can_ebreak reading in
          let r : Related reading l s.memory items ecall ebreak s s = record {
            like = record { layout = refl; regs = λ n h. refl; memory = refl; world = refl };
            pc = refl;
            layout = here;
            intact = λ at a b. refl;
          } in
          uncounted (machine_in reading items setting) (real_machine reading items setting)
          (state_price items setting) s
          (follows_at_cost (simulates reading l s.memory items ecall ebreak p) s s r nw) nw

  module _ {V : Type 0} (reading : Halt → Ending V) where
    abbrev sizes_of : {region stack : ℕ} {world : WorldState} {s : State} →
        Starts bytes items (address_of items start) region stack world s → Sizes
    sizes_of {region} {stack} st = record {
      region = region;
      stack = stack;
      region_size = st.region_size;
      stack_size = st.stack_size;
    }

    starts_here : (region stack : ℕ) (world : WorldState) (s : State)
        → Starts bytes items (address_of items start) region stack world s → (setting : Setting)
        → setting.address ≡ address_of items start → AllCanBeCall setting
        → NeverWrong (run (real_machine reading items setting) s)
        → Simulates (machine_in reading items setting) (real_machine reading items setting) (state_price items setting)
        s
    starts_here region stack world s st setting e ok nw =
        let here : s.layout ≡ layout_of bytes region stack = ap (λ (t : State). t.layout) st.same in
        let c : address_of items start ≡ address_of items (first_address + statics_len bytes) = ap
        (address_of items) (sym code_at) in
        let eq : setting ≡ record {
          address = address_of items (first_address + statics_len bytes);
          ecall = setting.ecall;
          ebreak = setting.ebreak;
        } = ap
        (λ (a : ℕ → ℕ). record { address = a; ecall = setting.ecall; ebreak = setting.ebreak }) (e ∙ c) in
        subst (λ (x : Setting). Simulates (machine_in reading items x) (real_machine reading items x)
        (state_price items x) s) (sym eq)
        (simulated (sizes_of st) reading setting.ecall setting.ebreak ok.ecall ok.ebreak
        s here (λ at h. st.memory at (subst (λ (a : ℕ → ℕ). IsNoCall items a at) (sym c) h))
        (subst (λ (x : Setting). NeverWrong (run (real_machine reading items x) s)) eq nw))

    pub does_as_code : DoesAsCode reading bytes items (address_of items start)
    does_as_code setting region stack world s e ok st nw = starts_here region stack world s st setting e ok nw

-- the facts of what was put together, of equal items and statics
pub code_facts : (items items_used : List RealItem) (statics statics_used words_used : List ℕ) (labels : List Pos)
    → items_used ≡ items → statics_used ≡ statics → CanBeAssembled items
    → AllDecode (code_insts items_used (code_start statics_used))
    → words_used ≡ inst_words (code_insts items_used (code_start statics_used))
    → AreSections (flat_map word_bytes statics_used) (code_bytes words_used) labels → length statics_used ≤ 2 ^ 40
    → length items_used ≤ 2 ^ 40 → CodeFacts items statics labels
code_facts items items_used statics statics_used words_used labels e f can decode w sections few_statics few =
    rw (sym e, sym f) (record {
      can = subst CanBeAssembled (sym e) can;
      decode = decode;
      sections = subst (λ ws. AreSections (flat_map word_bytes statics_used) (code_bytes ws) labels) w sections;
      few_statics = few_statics;
      few_words =
          words_few items_used (code_start statics_used)
          (inst_words (code_insts items_used (code_start statics_used))) few refl;
    })

pub image_is : (items items_used : List RealItem) (statics statics_used words_used image : List ℕ) (labels : List Pos)
    → items_used ≡ items → statics_used ≡ statics
    → words_used ≡ inst_words (code_insts items_used (code_start statics_used))
    → image ≡ image_bytes (flat_map word_bytes statics_used) (code_bytes words_used) labels
    → image ≡ assembled items statics labels
image_is items items_used statics statics_used words_used image labels e f w i =
    rw (sym e, sym f) (i ∙ ap (λ ws. image_bytes (flat_map word_bytes statics_used) (code_bytes ws) labels) w)
