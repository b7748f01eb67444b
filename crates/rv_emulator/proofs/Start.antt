-- The start state is made.
use Rattle.std.proofs.Common.{ℕ, ◌+◌, ◌-◌, ◌<◌, ◌≡◌, inl, inr, List, get_or, ◌∙◌, ap, arith, ⊎_elim}
use Rattle.std.proofs.lemmas.Bool.{cases_lt, cases_eq}
use Rattle.std.specs.Prelude.{if◌then◌else◌, nat_lt}
use Rattle.grift_base.specs.World.{WorldState}
use Rattle.grift_base.specs.declared.places.Pos.{Pos}
use Rattle.machine_words.specs.Memory.{first_address, Memory, store_bytes, byte_of, memory_of, from_base}
use Rattle.rv_machine.specs.Registers.{Registers, set_reg}
use Rattle.rv_machine.specs.Image.{IsImage, statics_len, code_len, label_count, entry, loaded_part, labels_of}
use Rattle.rv_machine.specs.State.{Layout, State}
use Rattle.rv_machine.specs.Start.{IsRegionSize, IsStackSize, start_regs, start_of}
use Rattle.machine_words.proofs.Public.{stored_inside, stored_outside}
use Rattle.rv_emulator.specs.declared.processor.Places.{Places}
use Rattle.rv_emulator.specs.Processor.{IsSound}

byte_zero : (w : ℕ) → w < 256 → byte_of w 0 ≡ w
byte_zero w h = omega arith

here : (m : Memory) (k w j : ℕ) → w < 256 → j ≡ k → store_bytes 1 m k w j ≡ w
here m k w j b e =
    let z : j - k ≡ 0 = omega arith in
    stored_inside 1 m k w j (omega arith) (omega arith) ∙ (ap (byte_of w) z ∙ byte_zero w b)

-- one byte more
pub filled_more : (m n : Memory) (bytes : List ℕ) (k : ℕ) → get_or bytes k 0 < 256
    → ((j : ℕ) → m j ≡ (if nat_lt j k then get_or bytes j 0 else 0)) → n ≡ store_bytes 1 m k (get_or bytes k 0)
    → (j : ℕ) → n j ≡ (if nat_lt j (k + 1) then get_or bytes j 0 else 0)
filled_more m n bytes k b h e j =
    let f : n j ≡ store_bytes 1 m k (get_or bytes k 0) j = ap (λ (g : Memory). g j) e in
    ⊎_elim
    (λ lt. let o = stored_outside 1 m k (get_or bytes k 0) j (inl lt) in let hj = h j in grind arith)
    (λ le. ⊎_elim
    (λ eq. let s = here m k (get_or bytes k 0) j b eq in
    let c : get_or bytes j 0 ≡ get_or bytes k 0 = ap (λ i. get_or bytes i 0) eq in grind arith)
    (λ ne. let o = stored_outside 1 m k (get_or bytes k 0) j (inr (omega arith)) in let hj = h j in grind arith)
    (cases_eq j k))
    (cases_lt j k)

-- a register set again, over registers that are known
pub set_again : (r w : ℕ) (a b c : ℕ → ℕ) → c ≡ set_reg r w a → a ≡ b → c ≡ set_reg r w b
set_again r w a b c e g = rw (e, g)

-- the parts of an image lie in order and fill the memory
pub start_sound : (bytes : List ℕ) (region stack n e k : ℕ) (p : Places) → IsImage bytes → IsRegionSize region
    → IsStackSize stack → p.code ≡ first_address + statics_len bytes
    → p.region ≡ first_address + statics_len bytes + code_len bytes → p.end ≡ p.region + region + stack
    → n ≡ statics_len bytes + code_len bytes + region + stack → e ≡ entry bytes → k ≡ label_count bytes
    → IsSound n p k (p.code + e)
start_sound bytes region stack n e k p i r s c d f g h l =
    let statics = i.statics in
    let code = i.code in
    let entry_place = i.entry_place in
    let labels = i.labels in
    search arith

same_layout : (c c' d d' e e' : ℕ) (l l' : List Pos) → c ≡ c' → d ≡ d' → e ≡ e' → l ≡ l'
    → ◌≡◌ {A = Layout} (record { code = c; region = d; end = e; labels = l })
    (record { code = c'; region = d'; end = e'; labels = l' })
same_layout c c' d d' e e' l l' a b f g = rw (a, b, f, g)

same_parts : (l l' : Layout) (pc pc' : ℕ) (r r' : Registers) (m m' : Memory) (w : WorldState) → l ≡ l' → pc ≡ pc'
    → r ≡ r' → m ≡ m' → ◌≡◌ {A = State} (record { layout = l; pc = pc; regs = r; memory = m; world = w })
    (record { layout = l'; pc = pc'; regs = r'; memory = m'; world = w })
same_parts l l' pc pc' r r' m m' w a b c d = rw (a, b, c, d)

-- what is loaded is the start state
pub start_is : (bytes : List ℕ) (region stack e : ℕ) (p : Places) (labels : List Pos) (regs : Registers) (m : Memory)
    (w : WorldState) → p.code ≡ first_address + statics_len bytes
    → p.region ≡ first_address + statics_len bytes + code_len bytes → p.end ≡ p.region + region + stack
    → e ≡ entry bytes → labels ≡ labels_of bytes → regs ≡ start_regs p.region region stack
    → m ≡ from_base (memory_of (loaded_part bytes))
    → ◌≡◌ {A = State} (record {
      layout = record { code = p.code; region = p.region; end = p.end; labels = labels };
      pc = p.code + e;
      regs = regs;
      memory = m;
      world = w;
    }) (start_of bytes region stack w)
start_is bytes region stack e p labels regs m w c d f g l r h =
    let end : p.end ≡ first_address + statics_len bytes + code_len bytes + region + stack = omega arith in
    let pc : p.code + e ≡ first_address + statics_len bytes + entry bytes = omega arith in
    let registers : regs ≡ start_regs (first_address + statics_len bytes + code_len bytes) region stack = r
    ∙ ap (λ n. start_regs n region stack) d in
    same_parts _ _ _ _ _ _ _ _ w (same_layout _ _ _ _ _ _ _ _ c d end l) pc registers h
