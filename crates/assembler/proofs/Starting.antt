-- The code of an assembled image stands in its start state.
use Rattle.std.proofs.Common.{ℕ, zero, suc, ◌+◌, ◌-◌, ◌*◌, ◌<◌, ◌≤◌, ◌≡◌, inl, inr, Bool, true, false, List, [], ◌∷◌}
use Rattle.std.proofs.Common.{◌++◌, length, take, drop, Some, refl, sym, ◌∙◌, ap, subst, arith, append_assoc}
use Rattle.std.proofs.Common.{length-append}
use Rattle.std.proofs.lemmas.Bool.{true≢false}
use Rattle.std.specs.Prelude.{nat_lt, slice_index, slice_get, sum}
use Rattle.std.proofs.lemmas.List.{get_or-append-add}
use Rattle.std.proofs.lemmas.List.Sums.{sum_by-cons, sum_by-take-le}
use Rattle.rv_isa.specs.declared.inst.Inst.{Inst}
use Rattle.rv_isa.specs.declared.inst.Inst.TheVariants.{Ecall, Ebreak}
use Rattle.rv_machine.specs.declared.real.RealItem.{RealItem}
use Rattle.rv_machine.specs.declared.real.RealItem.TheVariants.{Op, Mark, Jump, Branch, Address}
use Rattle.machine_words.specs.Memory.{Memory}
use Rattle.rv_machine.specs.State.{Layout}
use Rattle.rv_machine.proofs.Public.{drop_next}
use Rattle.assembler.specs.Layout.{words_before, widths_from, longest_widths, widths, address_of}
use Rattle.assembler.specs.Expansion.{item_insts, insts_from, code_insts}
use Rattle.assembler.specs.Encoded.{AllDecode}
use Rattle.assembler.specs.Following.{CallsAt, IsNoCall}
use Rattle.assembler.proofs.Finding.{head_of, width_at, apart, address_next, addresses_rise}
use Rattle.assembler.proofs.Standing.{calls, Stands}
use Rattle.assembler.proofs.Insts.{item_long_at}
use Rattle.assembler.proofs.Placing.{Split, split, bytes_of, bytes_long, bytes_append, decode_middle, HasWords}
use Rattle.assembler.proofs.Placing.{words_stand, stands_of}

-- ---- how many words there are

total : (items : List RealItem) (start from : ℕ) (xs : List RealItem)
    → length (insts_from items start from xs) ≡ sum (widths_from (longest_widths items) items start from xs)
total items start from [] = refl
total items start from (x ∷ xs) =
    let a = length-append (item_insts items start from x) (insts_from items start (suc from) xs) in
    let b = item_long_at items start from x in
    let c = total items start (suc from) xs in
    let d = sum_by-cons (λ (n : ℕ). n) (width_at items start from x)
    (widths_from (longest_widths items) items start (suc from) xs) in omega arith

-- ---- the places of calls

pub got : (place : ℕ) (xs : List RealItem) (x : RealItem) → slice_get xs place ≡ Some x → (rest : List RealItem)
    × (drop place xs ≡ x ∷ rest)
got zero [] x e = absurd (let f : ⊥ = cc in f)
got (suc place) [] x e = absurd (let f : ⊥ = cc in f)
got zero (y ∷ ys) x e = (ys, let f : y ∷ ys ≡ x ∷ ys = cc in f)
got (suc place) (y ∷ ys) x e = got place ys x e

pub call_item : (items : List RealItem) (place : ℕ) → CallsAt items place → (item : RealItem) × (rest : List RealItem)
    × (drop place items ≡ item ∷ rest) × (calls item ≡ true)
call_item items place (inl e) = let g = got place items (Op Ecall) e in (Op Ecall, g.0, g.1, refl)
call_item items place (inr e) = let g = got place items (Op Ebreak) e in (Op Ebreak, g.0, g.1, refl)

pub call_is : (items : List RealItem) (place : ℕ) (item : RealItem) (rest : List RealItem)
    → drop place items ≡ item ∷ rest → calls item ≡ true → CallsAt items place
call_is items place (Op Ecall) rest e c = inl ((drop_next items place (Op Ecall) rest e).0)
call_is items place (Op Ebreak) rest e c = inr ((drop_next items place (Op Ebreak) rest e).0)
call_is items place (Op _) rest e c = absurd (true≢false (sym c))
call_is items place (Mark mark) rest e c = absurd (true≢false (sym c))
call_is items place (Jump rd mark) rest e c = absurd (true≢false (sym c))
call_is items place (Branch cond a b mark) rest e c = absurd (true≢false (sym c))
call_is items place (Address rd mark) rest e c = absurd (true≢false (sym c))

pub call_width : (items : List RealItem) (start place : ℕ) (item : RealItem) → calls item ≡ true
    → width_at items start place item ≡ 1
call_width items start place (Op i) c = refl
call_width items start place (Mark mark) c = absurd (true≢false (sym c))
call_width items start place (Jump rd mark) c = absurd (true≢false (sym c))
call_width items start place (Branch cond a b mark) c = absurd (true≢false (sym c))
call_width items start place (Address rd mark) c = absurd (true≢false (sym c))

false_is_not_true : (b : Bool) → b ≡ true → b ≡ false → ⊥
false_is_not_true b e f = cc

module _ (items : List RealItem) (l : Layout) where
  abbrev address : ℕ → ℕ
  address = address_of items l.code

  abbrev insts : List Inst
  insts = code_insts items l.code

  -- the words of an item are in no call, unless it is one
  pub outside_calls : (place : ℕ) (item : RealItem) (rest : List RealItem) → drop place items ≡ item ∷ rest
      → calls item ≡ false → (at : ℕ) → address place ≤ at → at < address place + 4 * width_at items l.code place item
      → IsNoCall items address at
  outside_calls place item rest there c at a b other k h =
      let g = call_item items other k in
      let n : address (suc other) ≡ address other + 4 = let x = address_next items l.code other g.0 g.1 g.2 in
      let y = call_width items l.code other g.0 g.3 in omega arith in
      let before : other < place → ⊥ = λ i. let r = addresses_rise items l.code (suc other) place (omega arith) in
      let lo = h.0 in let hi = h.1 in omega arith in
      let behind : place < other → ⊥ = λ i. let r = apart items l.code place other item rest i there in
      let lo = h.0 in omega arith in
      let same : other ≡ place = grind arith in
      let one : item ≡ g.0 = head_of item g.0 rest g.1 (sym there ∙ (ap (λ n1. drop n1 items) (sym same) ∙ g.2)) in
      false_is_not_true (calls g.0) g.3 (ap calls (sym one) ∙ c)

  pub reaches_to : (place : ℕ) → address place ≤ l.code + 4 * length insts
  reaches_to place =
      let a = total items l.code 0 items in
      let b = sum_by-take-le (λ (n : ℕ). n) (widths items l.code) place in omega arith

  module _ (m : Memory) (tail : List ℕ) (decode : AllDecode insts) (room : l.code + 4 * length insts ≤ l.region) where
    abbrev HasBytes : ℕ → RealItem → Type 0
    HasBytes place item =
        (at : ℕ) → address place ≤ at → at < address place + 4 * width_at items l.code place item
        → m at ≡ slice_index (bytes_of insts ++ tail) (at - l.code)

    own_decode : (place : ℕ) (item : RealItem) (rest : List RealItem) → drop place items ≡ item ∷ rest
        → AllDecode (item_insts items l.code place item)
    own_decode place item rest there =
        let z : 0 + place ≡ place = omega arith in
        let s : Split items l.code 0 place items item = split items l.code 0 place items item rest there in
        let own : List Inst = item_insts items l.code place item in
        let whole : insts ≡ s.front ++ (own ++ s.behind) = s.whole
        ∙ ap (λ n. s.front ++ (item_insts items l.code n item ++ s.behind)) z in
        decode_middle s.front own s.behind (subst AllDecode whole decode)

    -- told that its bytes are those of the code
    pub item_words : (place : ℕ) (item : RealItem) (rest : List RealItem) → drop place items ≡ item ∷ rest
        → HasBytes place item → HasWords m (address place) (item_insts items l.code place item)
    item_words place item rest there h =
        let z : 0 + place ≡ place = omega arith in
        let s : Split items l.code 0 place items item = split items l.code 0 place items item rest there in
        let own : List Inst = item_insts items l.code place item in
        let whole : insts ≡ s.front ++ (own ++ s.behind) = s.whole
        ∙ ap (λ n. s.front ++ (item_insts items l.code n item ++ s.behind)) z in
        let long = item_long_at items l.code place item in
        let front_long = bytes_long s.front in
        let start : address place ≡ l.code + length (bytes_of s.front) = let x = s.long in omega arith in
        let bytes : bytes_of insts ++ tail ≡ bytes_of s.front ++ (bytes_of own ++ (bytes_of s.behind ++ tail)) = ap
        (λ is. bytes_of is ++ tail) whole ∙ (ap (λ bs. bs ++ tail)
        (bytes_append s.front (own ++ s.behind) ∙ ap (λ bs. bytes_of s.front ++ bs) (bytes_append own s.behind))
        ∙ (append_assoc (bytes_of s.front) (bytes_of own ++ bytes_of s.behind) tail
        ∙ ap (λ bs. bytes_of s.front ++ bs) (append_assoc (bytes_of own) (bytes_of s.behind) tail))) in
        words_stand m own (bytes_of s.behind ++ tail) (address place) (own_decode place item rest there) (λ i b.
        let e : address place + i - l.code ≡ length (bytes_of s.front) + i = omega arith in
        h (address place + i) (omega arith) (omega arith)
        ∙ (ap (λ n. slice_index (bytes_of insts ++ tail) n) e
        ∙ (ap (λ bs. slice_index bs (length (bytes_of s.front) + i)) bytes
        ∙ get_or-append-add (bytes_of s.front) (bytes_of own ++ (bytes_of s.behind ++ tail)) i 0)))

    pub item_stands : (place : ℕ) (item : RealItem) (rest : List RealItem) → drop place items ≡ item ∷ rest
        → HasBytes place item → Stands l m (address place) (item_insts items l.code place item)
    item_stands place item rest there h =
        let long = item_long_at items l.code place item in
        let up = reaches_to (suc place) in
        let next = address_next items l.code place item rest there in
        stands_of l m (item_insts items l.code place item) (address place) (own_decode place item rest there)
        (omega arith) (omega arith) (item_words place item rest there h)

-- ---- the item in whose words a word lies

pub record Located (items : List RealItem) (start from : ℕ) (xs : List RealItem) (w : ℕ) : Type 0 where
  pub place : ℕ
  pub item : RealItem
  pub rest : List RealItem
  pub stands : drop place xs ≡ item ∷ rest
  pub above : words_before (widths_from (longest_widths items) items start from xs) place ≤ w
  pub below : w < words_before (widths_from (longest_widths items) items start from xs) place + width_at items start
      (from + place) item

locate : (items : List RealItem) (start from : ℕ) (xs : List RealItem) (w : ℕ)
    → w < sum (widths_from (longest_widths items) items start from xs) → Located items start from xs w
locate items start from [] w h = absurd (let e : ⊥ = omega arith in e)
locate items start from (x ∷ xs) w h =
    by (nat_lt w (width_at items start from x)) refl
    (λ k. locate items start (suc from) xs (w - width_at items start from x) k)
  where
    z : from + 0 ≡ from
    z = omega arith

    d : sum (width_at items start from x ∷ widths_from (longest_widths items) items start (suc from) xs)
        ≡ width_at items start from x + sum (widths_from (longest_widths items) items start (suc from) xs)
    d = sum_by-cons (λ (n : ℕ). n) (width_at items start from x)
        (widths_from (longest_widths items) items start (suc from) xs)

    by : (b : Bool) → nat_lt w (width_at items start from x) ≡ b
        → (w - width_at items start from x < sum (widths_from (longest_widths items) items start (suc from) xs)
        → Located items start (suc from) xs (w - width_at items start from x)) → Located items start from (x ∷ xs) w
    by true e ih =
        let k : w < width_at items start from x = grind arith in
        record {
          place = 0;
          item = x;
          rest = xs;
          stands = refl;
          above = omega arith;
          below = subst (λ n. w < words_before (widths_from (longest_widths items) items start from (x ∷ xs)) 0
              + width_at items start n x) (sym z) (omega arith);
        }
    by false e ih =
        let k : width_at items start from x ≤ w = grind arith in
        let g : Located items start (suc from) xs (w - width_at items start from x) = ih (omega (arith, d)) in
        let f = sum_by-cons (λ (n : ℕ). n) (width_at items start from x)
        (take g.place (widths_from (longest_widths items) items start (suc from) xs)) in
        let y : suc from + g.place ≡ from + suc g.place = omega arith in
        let a = g.above in
        let b = g.below in
        let c : width_at items start (suc from + g.place) g.item ≡ width_at items start
        (from + suc g.place) g.item = ap (λ n. width_at items start n g.item) y in
        record {
          place = suc g.place;
          item = g.item;
          rest = g.rest;
          stands = g.stands;
          above = omega arith;
          below = omega arith;
        }

pub located : (items : List RealItem) (start w : ℕ) → w < length (code_insts items start)
    → Located items start 0 items w
located items start w h = locate items start 0 items w (subst (λ n. w < n) (total items start 0 items) h)
