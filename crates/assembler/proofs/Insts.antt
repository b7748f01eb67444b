-- The words of a code's instructions.
use Rattle.std.proofs.Common.{ℕ, zero, suc, ◌+◌, ◌*◌, ◌<◌, ◌≤◌, ◌≡◌, refl, sym, subst, ◌∙◌, ap, arith, Bool, true}
use Rattle.std.proofs.Common.{false, List, [], ◌∷◌, ◌++◌, length, get_or, length-append, append_assoc, append-nil, ◌^◌}
use Rattle.std.proofs.Common.{Some, Result, Ok, Err, take}
use Rattle.std.specs.Prelude.{OnOk, sum, Any}
use Rattle.std.proofs.lemmas.List.{map-append, take_more, length-take-le, length-map}
use Rattle.rv_isa.specs.declared.inst.Inst.{Inst}
use Rattle.rv_isa.specs.declared.inst.Inst.TheVariants.{Ecall}
use Rattle.rv_isa.specs.Decoding.{decode_of}
use Rattle.rv_machine.specs.declared.real.RealItem.{RealItem}
use Rattle.rv_machine.specs.declared.real.RealItem.TheVariants.{Op, Mark, Jump, Branch, Address}
use Rattle.rv_isa.specs.Encoding.{encode_of}
use Rattle.assembler.specs.Layout.{width, is_near, longest_widths, widths_from, address_of}
use Rattle.assembler.specs.Expansion.{insts_of, item_insts, insts_from, target_of, code_insts}
use Rattle.assembler.specs.Imaging.{inst_words}
use Rattle.assembler.specs.Conditions.{is_mark}
use Rattle.assembler.specs.Encoded.{AllDecode}
use Rattle.assembler.specs.Tables.{HoldsSums}
use Rattle.assembler.proofs.Sums.{sum_push, sums_more}
use Rattle.assembler.proofs.Distances.{no_wider}

pub decode_append : (xs ys : List Inst) → AllDecode xs → AllDecode ys → AllDecode (xs ++ ys)
decode_append [] ys a b = b
decode_append (x ∷ xs) ys a b = (a.0, decode_append xs ys a.1 b)

pub words_append : (xs ys : List Inst) → inst_words (xs ++ ys) ≡ inst_words xs ++ inst_words ys
words_append xs ys = map-append encode_of xs ys

-- the last of some items
pub insts_more : (items : List RealItem) (start place : ℕ) (front : List RealItem) (item : RealItem)
    → insts_from items start place (front ++ item ∷ []) ≡ insts_from items start place front ++ item_insts items start
    (place + length front) item
insts_more items start place [] item =
    let e : place + 0 ≡ place = omega arith in
    subst (λ (k : ℕ). item_insts items start place item ++ [] ≡ item_insts items start k item) (sym e)
    (append-nil (item_insts items start place item))
insts_more items start place (x ∷ front) item =
    let e : place + suc (length front) ≡ suc place + length front = omega arith in
    let a = insts_more items start (suc place) front item in
    rw (e, a) (sym (append_assoc (item_insts items start place x) (insts_from items start (suc place) front)
    (item_insts items start (suc place + length front) item)))

pub widths_more : (widest : List ℕ) (items : List RealItem) (start place : ℕ) (front : List RealItem)
    (item : RealItem) → widths_from widest items start place (front ++ item ∷ [])
    ≡ widths_from widest items start place front ++ width (is_near widest items start (place + length front) item)
    item ∷ []
widths_more widest items start place [] item = let e : place + 0 ≡ place = omega arith in rw e refl
widths_more widest items start place (x ∷ front) item =
    let e : place + suc (length front) ≡ suc place + length front = omega arith in
    rw (e, widths_more widest items start (suc place) front item) refl

pub widths_long : (widest : List ℕ) (items : List RealItem) (start place : ℕ) (front : List RealItem)
    → length (widths_from widest items start place front) ≡ length front
widths_long widest items start place [] = refl
widths_long widest items start place (x ∷ front) = ap suc (widths_long widest items start (suc place) front)

-- ---- how many there are

pub item_long : (near : Bool) (here target : ℕ) (item : RealItem)
    → length (insts_of near here target item) ≡ width near item
item_long true here target (Op i) = refl
item_long true here target (Mark mark) = refl
item_long true here target (Jump rd mark) = refl
item_long true here target (Branch cond a b mark) = refl
item_long true here target (Address rd mark) = refl
item_long false here target (Op i) = refl
item_long false here target (Mark mark) = refl
item_long false here target (Jump rd mark) = refl
item_long false here target (Branch cond a b mark) = refl
item_long false here target (Address rd mark) = refl

longest_small : (item : RealItem) → width false item ≤ 11
longest_small (Op i) = omega arith
longest_small (Mark mark) = omega arith
longest_small (Jump rd mark) = omega arith
longest_small (Branch cond a b mark) = omega arith
longest_small (Address rd mark) = omega arith

width_small : (near : Bool) (item : RealItem) → width near item ≤ 11
width_small near item = let a = no_wider near item in let b = longest_small item in omega (arith, a, b)

width_some : (near : Bool) (item : RealItem) → is_mark item ≡ false → 1 ≤ width near item
width_some true (Op i) e = omega arith
width_some true (Mark mark) e = absurd (cc)
width_some true (Jump rd mark) e = omega arith
width_some true (Branch cond a b mark) e = omega arith
width_some true (Address rd mark) e = omega arith
width_some false (Op i) e = omega arith
width_some false (Mark mark) e = absurd (cc)
width_some false (Jump rd mark) e = omega arith
width_some false (Branch cond a b mark) e = omega arith
width_some false (Address rd mark) e = omega arith

pub item_long_at : (items : List RealItem) (start place : ℕ) (item : RealItem)
    → length (item_insts items start place item) ≡ width (is_near (longest_widths items) items start place item) item
item_long_at items start place item =
    item_long (is_near (longest_widths items) items start place item) (address_of items start place)
    (target_of items start item) item

pub insts_few : (items : List RealItem) (start place : ℕ) (rest : List RealItem)
    → length (insts_from items start place rest) ≤ 11 * length rest
insts_few items start place [] = omega arith
insts_few items start place (item ∷ rest) =
    let a = length-append (item_insts items start place item) (insts_from items start (suc place) rest) in
    let b = insts_few items start (suc place) rest in
    let c = item_long_at items start place item in
    let d = width_small (is_near (longest_widths items) items start place item) item in
    omega arith

pub insts_some : (items : List RealItem) (start place : ℕ) (rest : List RealItem) (k : ℕ) (d : RealItem)
    → k < length rest → is_mark (get_or rest k d) ≡ false → 1 ≤ length (insts_from items start place rest)
insts_some items start place [] k d h e = absurd (omega arith)
insts_some items start place (item ∷ rest) zero d h e =
    let a = length-append (item_insts items start place item) (insts_from items start (suc place) rest) in
    let c = item_long_at items start place item in
    let w = width_some (is_near (longest_widths items) items start place item) item e in
    omega arith
insts_some items start place (item ∷ rest) (suc k) d h e =
    let a = length-append (item_insts items start place item) (insts_from items start (suc place) rest) in
    let b = insts_some items start (suc place) rest k d (omega arith) e in
    omega arith

-- ---- words that are put

pub ok_more : {E : Type 0} {P Q : Type 0} (r : Result (Unit {0}) E) → (P → Q) → OnOk r P → OnOk r Q
ok_more (Ok x) f h = f h
ok_more (Err e) f h = tt

-- one instruction more
pub put_more : (insts : List Inst) (k : ℕ) (i : Inst) (before old new : List ℕ) (word : ℕ) → k < length insts
    → i ≡ get_or insts k Ecall → old ≡ before ++ inst_words (take k insts) → new ≡ old ++ word ∷ []
    → word ≡ encode_of i → new ≡ before ++ inst_words (take (k + 1) insts)
put_more insts k i before old new word h e o n w =
    let a : take (k + 1) insts ≡ take k insts ++ i ∷ [] = take_more insts k Ecall h
    ∙ ap (λ x. take k insts ++ x ∷ []) (sym e) in
    let b : inst_words (take (k + 1) insts) ≡ inst_words (take k insts) ++ word ∷ [] = ap inst_words a
    ∙ words_append (take k insts) (i ∷ []) ∙ ap (λ x. inst_words (take k insts) ++ x ∷ []) (sym w) in
    n ∙ ap (λ xs. xs ++ word ∷ []) o ∙ append_assoc before (inst_words (take k insts)) (word ∷ [])
    ∙ ap (λ xs. before ++ xs) (sym b)

pub decode_more : (insts : List Inst) (k : ℕ) (i : Inst) (word : ℕ) → k < length insts → i ≡ get_or insts k Ecall
    → AllDecode (take k insts) → word ≡ encode_of i → decode_of word ≡ Some i → word < 2 ^ 32
    → AllDecode (take (k + 1) insts)
decode_more insts k i word h e all w back small =
    let a : take (k + 1) insts ≡ take k insts ++ i ∷ [] = take_more insts k Ecall h
    ∙ ap (λ x. take k insts ++ x ∷ []) (sym e) in
    let one : AllDecode (i ∷ []) = (
      (
        subst (λ (n : ℕ). decode_of n ≡ Some i) w back,
        subst (λ (n : ℕ). n < 2 ^ 32) w small,
      ),
      tt,
    ) in
    subst AllDecode (sym a) (decode_append (take k insts) (i ∷ []) all one)

-- instructions behind others
pub put_two : (xs ys xs_put ys_put : List Inst) (before mid after : List ℕ) → xs_put ≡ xs → ys_put ≡ ys
    → mid ≡ before ++ inst_words xs_put → after ≡ mid ++ inst_words ys_put → after ≡ before ++ inst_words (xs ++ ys)
put_two xs ys xs_put ys_put before mid after e f m a =
    let p : mid ≡ before ++ inst_words xs = m ∙ ap (λ is. before ++ inst_words is) e in
    let q : after ≡ mid ++ inst_words ys = a ∙ ap (λ is. mid ++ inst_words is) f in
    q ∙ ap (λ bytes. bytes ++ inst_words ys) p ∙ append_assoc before (inst_words xs) (inst_words ys)
    ∙ ap (λ words. before ++ words) (sym (words_append xs ys))

pub decode_two : (xs ys xs_put ys_put : List Inst) → xs_put ≡ xs → ys_put ≡ ys → AllDecode xs_put → AllDecode ys_put
    → AllDecode (xs ++ ys)
decode_two xs ys xs_put ys_put e f a b = decode_append xs ys (subst AllDecode e a) (subst AllDecode f b)

-- ---- the items of a code up to a place

pub widths_upto : (items : List RealItem) (start place : ℕ) (item : RealItem) → place < length items
    → item ≡ get_or items place item → widths_from (longest_widths items) items start 0 (take (place + 1) items)
    ≡ widths_from (longest_widths items) items start 0 (take place items)
    ++ width (is_near (longest_widths items) items start place item) item ∷ []
widths_upto items start place item h e =
    let a : take (place + 1) items ≡ take place items ++ item ∷ [] = take_more items place item h
    ∙ ap (λ x. take place items ++ x ∷ []) (sym e) in
    let n : 0 + length (take place items) ≡ place = omega (arith, length-take-le place items (omega arith)) in
    ap (widths_from (longest_widths items) items start 0) a
    ∙ widths_more (longest_widths items) items start 0 (take place items) item
    ∙ ap (λ k. widths_from (longest_widths items) items start 0 (take place items)
    ++ width (is_near (longest_widths items) items start k item) item ∷ []) n

-- with one width more the sums are those of all
sums_grow : (ws all : List ℕ) (place : ℕ) (sums old_sums : List ℕ) (before w : ℕ) → all ≡ ws ++ w ∷ []
    → length ws ≡ place → HoldsSums old_sums ws → before ≡ sum ws → before ≤ 11 * place → w ≤ 11
    → sums ≡ old_sums ++ (before + w) ∷ []
    → HoldsSums sums all × (before + w ≡ sum all) × (before + w ≤ 11 * (place + 1))
sums_grow ws all place sums old_sums before w more long s eb few small grown =
    let total : before + w ≡ sum ws + w = ap (λ n. n + w) eb in (
      subst (λ (xs : List ℕ). HoldsSums sums xs) (sym more)
          (subst (λ (xs : List ℕ). HoldsSums xs (ws ++ w ∷ [])) (sym grown)
          (sums_more old_sums ws w (before + w) s total (omega arith))),
      total ∙ sym (sum_push ws w) ∙ ap sum (sym more),
      omega arith,
    )

pub sums_upto : (items : List RealItem) (start place : ℕ) (item : RealItem) (sums old_sums : List ℕ) (before w : ℕ)
    → place < length items → item ≡ get_or items place item
    → w ≡ width (is_near (longest_widths items) items start place item) item
    → HoldsSums old_sums (widths_from (longest_widths items) items start 0 (take place items))
    → before ≡ sum (widths_from (longest_widths items) items start 0 (take place items)) → before ≤ 11 * place
    → w ≤ 11 → sums ≡ old_sums ++ (before + w) ∷ []
    → HoldsSums sums (widths_from (longest_widths items) items start 0 (take (place + 1) items))
    × (before + w ≡ sum (widths_from (longest_widths items) items start 0 (take (place + 1) items)))
    × (before + w ≤ 11 * (place + 1))
sums_upto items start place item sums old_sums before w h e ew s eb few small grown =
    let ws = widths_from (longest_widths items) items start 0 (take place items) in
    sums_grow ws _ place sums old_sums before w
    (widths_upto items start place item h e ∙ ap (λ n. ws ++ n ∷ []) (sym ew))
    (widths_long (longest_widths items) items start 0 (take place items)
    ∙ length-take-le place items (omega arith)) s eb few small grown

-- so it is if every item has its longest form
pub longest_upto : (items : List RealItem) (place : ℕ) (item : RealItem) (sums old_sums : List ℕ) (before w : ℕ)
    → place < length items → item ≡ get_or items place item → w ≡ width false item
    → HoldsSums old_sums (longest_widths (take place items)) → before ≡ sum (longest_widths (take place items))
    → before ≤ 11 * place → w ≤ 11 → sums ≡ old_sums ++ (before + w) ∷ []
    → HoldsSums sums (longest_widths (take (place + 1) items))
    × (before + w ≡ sum (longest_widths (take (place + 1) items))) × (before + w ≤ 11 * (place + 1))
longest_upto items place item sums old_sums before w h e ew s eb few small grown =
    let front = take place items in
    let one : take (place + 1) items ≡ front ++ item ∷ [] = take_more items place item h
    ∙ ap (λ x. front ++ x ∷ []) (sym e) in
    sums_grow (longest_widths front) _ place sums old_sums before w
    (ap longest_widths one ∙ map-append (width false) front (item ∷ [])
    ∙ ap (λ n. longest_widths front ++ n ∷ []) (sym ew))
    (length-map front (width false) ∙ length-take-le place items (omega arith)) s eb few small grown

pub insts_upto : (items : List RealItem) (start place : ℕ) (item : RealItem) → place < length items
    → item ≡ get_or items place item → insts_from items start 0 (take place items)
    ++ item_insts items start place item ≡ insts_from items start 0 (take (place + 1) items)
insts_upto items start place item h e =
    let a : take (place + 1) items ≡ take place items ++ item ∷ [] = take_more items place item h
    ∙ ap (λ x. take place items ++ x ∷ []) (sym e) in
    let n : 0 + length (take place items) ≡ place = omega (arith, length-take-le place items (omega arith)) in
    sym (ap (insts_from items start 0) a ∙ insts_more items start 0 (take place items) item
    ∙ ap (λ k. insts_from items start 0 (take place items) ++ item_insts items start k item) n)

pub words_upto : (items : List RealItem) (start from place : ℕ) (item : RealItem) (old new : List ℕ) → from ≡ start
    → place < length items → item ≡ get_or items place item
    → old ≡ inst_words (insts_from items start 0 (take place items))
    → new ≡ old ++ inst_words (item_insts items from place item)
    → new ≡ inst_words (insts_from items start 0 (take (place + 1) items))
words_upto items start from place item old new f h e o n =
    n ∙ ap (λ k. old ++ inst_words (item_insts items k place item)) f
    ∙ ap (λ xs. xs ++ inst_words (item_insts items start place item)) o
    ∙ sym (words_append (insts_from items start 0 (take place items)) (item_insts items start place item))
    ∙ ap inst_words (insts_upto items start place item h e)

pub decode_upto : (items : List RealItem) (start from place : ℕ) (item : RealItem) → from ≡ start
    → place < length items → item ≡ get_or items place item → AllDecode (insts_from items start 0 (take place items))
    → AllDecode (item_insts items from place item) → AllDecode (insts_from items start 0 (take (place + 1) items))
decode_upto items start from place item f h e o n =
    subst AllDecode (insts_upto items start place item h e)
    (decode_append (insts_from items start 0 (take place items)) (item_insts items start place item) o
    (subst (λ (k : ℕ). AllDecode (item_insts items k place item)) f n))

-- ---- a whole code

pub words_few : (items : List RealItem) (start : ℕ) (words : List ℕ) → length items ≤ 2 ^ 40
    → words ≡ inst_words (code_insts items start) → length words ≤ 11 * 2 ^ 40
words_few items start words h e =
    let a = ap length e in
    let b = length-map (code_insts items start) encode_of in
    let c = insts_few items start 0 items in
    omega arith

pub words_some : (items : List RealItem) (start : ℕ) (words : List ℕ) → Any (λ item. is_mark item ≡ false) items
    → words ≡ inst_words (code_insts items start) → 0 < length words
words_some items start words some e =
    let a = ap length e in
    let b = length-map (code_insts items start) encode_of in
    let c = insts_some items start 0 items some.0 some.1 some.2
    (subst (λ (item : RealItem). is_mark item ≡ false) (sym some.3) some.4) in
    omega arith
