-- Where the parts of an assembled image lie.
use Rattle.std.proofs.Common.{ℕ, zero, suc, ◌+◌, ◌-◌, ◌*◌, ◌^◌, ◌<◌, ◌≤◌, ◌≡◌, false, List, [], ◌∷◌, ◌++◌}
use Rattle.std.proofs.lemmas.Bool.{true≢false}
use Rattle.std.proofs.Common.{length, get_or, Some, refl, sym, ◌∙◌, ap, subst, arith, append_assoc}
use Rattle.std.specs.Prelude.{flat_map, slice_index, slice_get}
use Rattle.std.proofs.lemmas.List.{get_or-append-add, get_or_append_left}
use Rattle.grift_base.specs.declared.places.Pos.{Pos}
use Rattle.rv_machine.specs.declared.real.RealItem.{RealItem}
use Rattle.rv_machine.specs.declared.real.RealItem.TheVariants.{Op, Mark, Jump, Branch, Address}
use Rattle.machine_words.specs.Memory.{load_bytes, memory_of, first_address}
use Rattle.rv_machine.specs.Image.{statics_len, entry, loaded_part}
use Rattle.rv_machine.specs.State.{Layout}
use Rattle.rv_machine.specs.Real.{is_mark, AreAddresses, address_from}
use Rattle.machine_words.proofs.Public.{load_same}
use Rattle.rv_machine.proofs.Public.{HasItem, some_address}
use Rattle.assembler.specs.Expansion.{code_insts}
use Rattle.assembler.specs.Imaging.{word_bytes, code_bytes, inst_words, code_start, assembled}
use Rattle.assembler.specs.Following.{image_memory}
use Rattle.assembler.specs.Assembled.{item_address, HasAddresses}
use Rattle.assembler.proofs.Images.{word_sum, statics_field, entry_field, statics_long, code_long}
use Rattle.assembler.proofs.Finding.{next_address, same_place, some_words}
use Rattle.assembler.proofs.Starting.{got, reaches_to}
use Rattle.assembler.proofs.Following.{CodeFacts, code_at, code_size, words_long, part, in_memory}

-- an item that isn't a mark stands somewhere
has_item : (items : List RealItem) (place : ℕ) (d : RealItem) → place < length items →
    is_mark (get_or items place d) ≡ false → HasItem items
has_item [] place d h m = absurd (let e : ⊥ = omega arith in e)
has_item (Mark mark ∷ rest) zero d h m = absurd (true≢false m)
has_item (Mark mark ∷ rest) (suc place) d h m = has_item rest place d (omega arith) m
has_item (Op i ∷ rest) place d h m = tt
has_item (Jump rd mark ∷ rest) place d h m = tt
has_item (Branch cond a b mark ∷ rest) place d h m = tt
has_item (Address rd mark ∷ rest) place d h m = tt

-- a byte of a word of statics
word_long : (word : ℕ) → length (word_bytes word) ≡ 8
word_long word = refl

static_byte : (statics rest : List ℕ) (i word k : ℕ) → k < 8 → slice_get statics i ≡ Some word →
    slice_index (flat_map word_bytes statics ++ rest) (8 * i + k) ≡ slice_index (word_bytes word) k
static_byte [] rest zero word k h e = absurd (let f : ⊥ = cc in f)
static_byte [] rest (suc i) word k h e = absurd (let f : ⊥ = cc in f)
static_byte (w ∷ ws) rest zero word k h e =
    let same : w ≡ word = cc in
    let z : 8 * 0 + k ≡ k = omega arith in
    ap (slice_index (flat_map word_bytes (w ∷ ws) ++ rest)) z
    ∙ (ap (λ bs. slice_index bs k) (append_assoc (word_bytes w) (flat_map word_bytes ws) rest)
    ∙ (get_or_append_left (word_bytes w) (flat_map word_bytes ws ++ rest) 0 k (omega (arith, h, word_long w))
    ∙ ap (λ n. slice_index (word_bytes n) k) same))
static_byte (w ∷ ws) rest (suc i) word k h e =
    let z : 8 * suc i + k ≡ length (word_bytes w) + (8 * i + k) = omega (arith, word_long w) in
    ap (slice_index (flat_map word_bytes (w ∷ ws) ++ rest)) z
    ∙ (ap (λ bs. slice_index bs (length (word_bytes w) + (8 * i + k)))
    (append_assoc (word_bytes w) (flat_map word_bytes ws) rest)
    ∙ (get_or-append-add (word_bytes w) (flat_map word_bytes ws ++ rest) (8 * i + k) 0
    ∙ static_byte ws rest i word k h e))

module _ {items : List RealItem} {statics : List ℕ} {labels : List Pos} (facts : CodeFacts items statics labels) where
  abbrev start : ℕ
  start = code_start statics

  abbrev bytes : List ℕ
  bytes = assembled items statics labels

  abbrev words : List ℕ
  words = inst_words (code_insts items start)

  abbrev address : ℕ → ℕ
  address = item_address items statics

  below_end : (place : ℕ) → address place ≤ start + 4 * length words
  below_end place =
      let l : Layout = record { code = start; region = 0; end = 0; labels = [] } in
      let a = reaches_to items l place in
      let b = words_long facts in omega arith

  are_addresses : AreAddresses items address
  are_addresses = record {
    aligned = λ place. omega arith;
    small = λ place. (let a = below_end place in let b = facts.few_words in let c = facts.few_statics in omega arith);
    distinct = λ i j x y e f m n same.
        (let g = got i items x e in
        let h = got j items y f in
        let some = some_words items start i x m in
        same_place items start i j x y g.0 h.0 g.1 h.1 m n (omega arith) (omega arith));
  }

  static : (i word : ℕ) → word < 2 ^ 64 → slice_get statics i ≡ Some word →
      load_bytes 8 (image_memory bytes) (first_address + 8 * i) ≡ word
  static i word small e =
      load_same 8 (image_memory bytes) (memory_of (word_bytes word)) (first_address + 8 * i) 0 byte
      ∙ word_sum word small
    where
      byte : (k : ℕ) → k < 8 → image_memory bytes (first_address + 8 * i + k) ≡ memory_of (word_bytes word) (0 + k)
      byte k h =
          let y : first_address + 8 * i + k - first_address ≡ 8 * i + k = omega arith in
          let z : 0 + k ≡ k = omega arith in
          in_memory (loaded_part bytes) (first_address + 8 * i + k) (omega arith)
          ∙ (ap (slice_index (loaded_part bytes)) y
          ∙ (ap (λ bs. slice_index bs (8 * i + k)) (part facts)
          ∙ (static_byte statics (code_bytes words) i word k h e ∙ sym (ap (slice_index (word_bytes word)) z))))

  begins : address_from address 0 items ≡ Some start
  begins =
      let some = facts.can.some in
      let h = has_item items some.0 some.1 some.2
      (subst (λ (item : RealItem). is_mark item ≡ false) (sym some.3) some.4) in
      let a = some_address address items 0 h in
      let b : a.0 ≡ address 0 = next_address items start 0 items a.0 refl a.1 in
      let c : address 0 ≡ start = omega arith in a.1 ∙ ap Some (b ∙ c)

  pub has_addresses : HasAddresses bytes items statics address
  has_addresses =
      let code = code_at facts in
      record {
        sound = are_addresses;
        static = static;
        statics_size =
            statics_field (flat_map word_bytes statics) (code_bytes words) labels facts.sections ∙ statics_long statics;
        code = omega arith;
        inside = λ place.
            (let a = below_end place in
            let b = code_size facts in
            let c = code_long words in omega arith);
        entry = λ region stack world.
            (let z : entry bytes ≡ 0 = entry_field (flat_map word_bytes statics) (code_bytes words) labels in
            let e : start ≡ first_address + statics_len bytes + entry bytes = omega arith in begins ∙ ap Some e);
      }
