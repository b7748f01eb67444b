-- Where items lie: how their addresses rise, and which item begins at an address.
use Rattle.std.proofs.Common.{ℕ, zero, suc, ◌+◌, ◌*◌, ◌<◌, ◌≤◌, ◌≡◌, Bool, true, false, List, [], ◌∷◌, take, drop, Some}
use Rattle.std.proofs.Common.{refl, sym, ◌∙◌, ap, subst, arith}
use Rattle.std.proofs.lemmas.Bool.{true≢false}
use Rattle.std.specs.Prelude.{◌==◌, if◌then◌else◌}
use Rattle.rv_machine.specs.declared.real.RealItem.{RealItem}
use Rattle.rv_machine.specs.declared.real.RealItem.TheVariants.{Op, Mark, Jump, Branch, Address}
use Rattle.rv_machine.specs.Real.{Here, address_from, mark_from, item_from}
use Rattle.rv_machine.proofs.Public.{drop_next}
use Rattle.assembler.specs.Layout.{mark_place, words_before, is_near, width, widths_from, longest_widths, widths}
use Rattle.assembler.specs.Layout.{address_of}
use Rattle.assembler.specs.Conditions.{is_mark}
use Rattle.assembler.proofs.Sums.{sum_cons}
use Rattle.assembler.proofs.Distances.{grows}

-- ---- what is left from a place on

pub head_of : {X : Type 0} (x y : X) (xs ys : List X) → x ∷ xs ≡ y ∷ ys → x ≡ y
head_of x y xs ys e = cc

-- ---- the words of the items

words_next : (widest : List ℕ) (items : List RealItem) (start from place : ℕ) (xs : List RealItem) (item : RealItem)
    (rest : List RealItem) → drop place xs ≡ item ∷ rest
    → words_before (widths_from widest items start from xs) (suc place)
    ≡ words_before (widths_from widest items start from xs) place
    + width (is_near widest items start (from + place) item) item
words_next widest items start from zero [] item rest e = absurd (let f : ⊥ = cc in f)
words_next widest items start from (suc place) [] item rest e = absurd (let f : ⊥ = cc in f)
words_next widest items start from zero (x ∷ xs) item rest e =
    let h : x ≡ item = head_of x item xs rest e in
    let z : from + 0 ≡ from = omega arith in
    let a = sum_cons (width (is_near widest items start from x) x) [] in
    let b : width (is_near widest items start (from + 0) x) x ≡ width (is_near widest items start from x) x = ap
    (λ n. width (is_near widest items start n x) x) z in
    subst (λ y. words_before (widths_from widest items start from (x ∷ xs)) 1
    ≡ words_before (widths_from widest items start from (x ∷ xs)) 0
    + width (is_near widest items start (from + 0) y) y) h (omega arith)
words_next widest items start from (suc place) (x ∷ xs) item rest e =
    let ih = words_next widest items start (suc from) place xs item rest e in
    let w : ℕ = width (is_near widest items start from x) x in
    let ws : List ℕ = widths_from widest items start (suc from) xs in
    let a = sum_cons w (take (suc place) ws) in
    let b = sum_cons w (take place ws) in
    let z : suc from + place ≡ from + suc place = omega arith in
    let c : words_before ws (suc place) ≡ words_before ws place
    + width (is_near widest items start (from + suc place) item) item =
    ih ∙ ap (λ n. words_before ws place + width (is_near widest items start n item) item) z in omega arith

module _ (items : List RealItem) (start : ℕ) where
  abbrev pub address : ℕ → ℕ
  address = address_of items start

  -- the words of the item at a place
  abbrev pub width_at : ℕ → RealItem → ℕ
  width_at place item = width (is_near (longest_widths items) items start place item) item

  pub address_next : (place : ℕ) (item : RealItem) (rest : List RealItem) → drop place items ≡ item ∷ rest
      → address (suc place) ≡ address place + 4 * width_at place item
  address_next place item rest e =
      let z : 0 + place ≡ place = omega arith in
      let a : words_before (widths items start) (suc place) ≡ words_before (widths items start) place
      + width (is_near (longest_widths items) items start (0 + place) item) item =
      words_next (longest_widths items) items start 0 place items item rest e in
      let b : words_before (widths items start) (suc place) ≡ words_before (widths items start) place
      + width_at place item = a ∙ ap (λ n. words_before (widths items start) place
      + width (is_near (longest_widths items) items start n item) item) z in omega arith

  pub addresses_rise : (p q : ℕ) → p ≤ q → address p ≤ address q
  addresses_rise p q h = let a = grows (widths items start) p q h in omega arith

  -- ---- the next item, and marks

  pub next_address : (place : ℕ) (rest : List RealItem) (at : ℕ) → drop place items ≡ rest
      → address_from address place rest ≡ Some at → at ≡ address place
  next_address place [] at e f = absurd (let g : ⊥ = cc in g)
  next_address place (Mark mark ∷ rest) at e f =
      let a = next_address (suc place) rest at (drop_next items place (Mark mark) rest e).1 f in
      let b = address_next place (Mark mark) rest e in
      let c : width_at place (Mark mark) ≡ 0 = refl in omega arith
  next_address place (Op i ∷ rest) at e f = let g : at ≡ address place = cc in g
  next_address place (Jump rd mark ∷ rest) at e f = let g : at ≡ address place = cc in g
  next_address place (Branch cond a b mark ∷ rest) at e f = let g : at ≡ address place = cc in g
  next_address place (Address rd mark ∷ rest) at e f = let g : at ≡ address place = cc in g

  further : (place n : ℕ) → address (suc place + n) ≡ address (place + suc n)
  further place n = let e : suc place + n ≡ place + suc n = omega arith in ap address e

  mark_or_later : (b : Bool) (place wanted mark at : ℕ) (rest : List RealItem) → drop place items ≡ Mark mark ∷ rest
      → (if b then address_from address (suc place) rest else mark_from address wanted (suc place) rest) ≡ Some at
      → (mark_from address wanted (suc place) rest ≡ Some at → at ≡ address (suc place + mark_place wanted rest))
      → at ≡ address (place + (if b then 0 else suc (mark_place wanted rest)))
  mark_or_later true place wanted mark at rest e f ih =
      let a = next_address (suc place) rest at (drop_next items place (Mark mark) rest e).1 f in
      let b = address_next place (Mark mark) rest e in
      let c : width_at place (Mark mark) ≡ 0 = refl in
      let z : place + 0 ≡ place = omega arith in
      let d : at ≡ address place = omega arith in d ∙ sym (ap address z)
  mark_or_later false place wanted mark at rest e f ih = ih f ∙ further place (mark_place wanted rest)

  mark_is : (place wanted : ℕ) (rest : List RealItem) (at : ℕ) → drop place items ≡ rest
      → mark_from address wanted place rest ≡ Some at → at ≡ address (place + mark_place wanted rest)
  mark_is place wanted [] at e f = absurd (let g : ⊥ = cc in g)
  mark_is place wanted (Mark mark ∷ rest) at e f =
      mark_or_later (mark == wanted) place wanted mark at rest e f
      (λ g. mark_is (suc place) wanted rest at (drop_next items place (Mark mark) rest e).1 g)
  mark_is place wanted (Op i ∷ rest) at e f =
      mark_is (suc place) wanted rest at (drop_next items place (Op i) rest e).1 f
      ∙ further place (mark_place wanted rest)
  mark_is place wanted (Jump rd mark ∷ rest) at e f =
      mark_is (suc place) wanted rest at (drop_next items place (Jump rd mark) rest e).1 f
      ∙ further place (mark_place wanted rest)
  mark_is place wanted (Branch cond a b mark ∷ rest) at e f =
      mark_is (suc place) wanted rest at (drop_next items place (Branch cond a b mark) rest e).1 f
      ∙ further place (mark_place wanted rest)
  mark_is place wanted (Address rd mark ∷ rest) at e f =
      mark_is (suc place) wanted rest at (drop_next items place (Address rd mark) rest e).1 f
      ∙ further place (mark_place wanted rest)

  pub mark_lies : (wanted at : ℕ) → mark_from address wanted 0 items ≡ Some at → at ≡ address (mark_place wanted items)
  mark_lies wanted at f =
      let z : 0 + mark_place wanted items ≡ mark_place wanted items = omega arith in
      mark_is 0 wanted items at refl f ∙ ap address z

  -- ---- the item that begins at an address

  pub record Found (at : ℕ) (here : Here) : Type 0 where
    pub address : address here.place ≡ at
    pub rest : List RealItem
    pub stands : drop here.place items ≡ here.item ∷ rest
    pub next : here.next ≡ address_from (address_of items start) (suc here.place) rest
    pub item : is_mark here.item ≡ false

  equal_of : (a b : ℕ) → (a == b) ≡ true → a ≡ b
  equal_of a b h = grind arith

  here_of : (a b : Here) → Some a ≡ Some b → a ≡ b
  here_of a b e = cc

  found_or_later : (b : Bool) (at place : ℕ) (item : RealItem) (rest : List RealItem) (here : Here)
      → is_mark item ≡ false → drop place items ≡ item ∷ rest → (address place == at) ≡ b
      → (if b then Some (record { place = place; item = item; next = address_from address (suc place) rest }) else
      item_from address at (suc place) rest) ≡ Some here
      → (item_from address at (suc place) rest ≡ Some here → Found at here) → Found at here
  found_or_later true at place item rest here m e h f ih =
      subst (Found at) (here_of (record { place = place; item = item; next = address_from address (suc place) rest })
      here f) (record { address = equal_of (address place) at h; rest = rest; stands = e; next = refl; item = m })
  found_or_later false at place item rest here m e h f ih = ih f

  found_from : (at place : ℕ) (rest : List RealItem) (here : Here) → drop place items ≡ rest
      → item_from address at place rest ≡ Some here → Found at here
  found_from at place [] here e f = absurd (let g : ⊥ = cc in g)
  found_from at place (Mark mark ∷ rest) here e f =
      found_from at (suc place) rest here (drop_next items place (Mark mark) rest e).1 f
  found_from at place (Op i ∷ rest) here e f =
      found_or_later (address place == at) at place (Op i) rest here refl e refl f
      (λ g. found_from at (suc place) rest here (drop_next items place (Op i) rest e).1 g)
  found_from at place (Jump rd mark ∷ rest) here e f =
      found_or_later (address place == at) at place (Jump rd mark) rest here refl e refl f
      (λ g. found_from at (suc place) rest here (drop_next items place (Jump rd mark) rest e).1 g)
  found_from at place (Branch cond a b mark ∷ rest) here e f =
      found_or_later (address place == at) at place (Branch cond a b mark) rest here refl e refl f
      (λ g. found_from at (suc place) rest here (drop_next items place (Branch cond a b mark) rest e).1 g)
  found_from at place (Address rd mark ∷ rest) here e f =
      found_or_later (address place == at) at place (Address rd mark) rest here refl e refl f
      (λ g. found_from at (suc place) rest here (drop_next items place (Address rd mark) rest e).1 g)

  pub found : (at : ℕ) (here : Here) → item_from address at 0 items ≡ Some here → Found at here
  found at here f = found_from at 0 items here refl f

  -- ---- one item begins within the words of an item, and there at the first

  some_of : (b : Bool) (x y : ℕ) → 0 < x → 0 < y → 0 < (if b then x else y)
  some_of true x y h k = h
  some_of false x y h k = k

  pub some_words : (place : ℕ) (item : RealItem) → is_mark item ≡ false → 0 < width_at place item
  some_words place (Op i) m = omega arith
  some_words place (Mark mark) m = absurd (true≢false m)
  some_words place (Jump rd mark) m =
      some_of (is_near (longest_widths items) items start place (Jump rd mark)) 1 10 (omega arith) (omega arith)
  some_words place (Branch cond a b mark) m =
      some_of (is_near (longest_widths items) items start place (Branch cond a b mark)) 1 11 (omega arith) (omega arith)
  some_words place (Address rd mark) m =
      some_of (is_near (longest_widths items) items start place (Address rd mark)) 3 10 (omega arith) (omega arith)

  -- two items of which neither is a mark
  pub apart : (p q : ℕ) (item : RealItem) (rest : List RealItem) → p < q → drop p items ≡ item ∷ rest
      → address p + 4 * width_at p item ≤ address q
  apart p q item rest h e =
      let a = address_next p item rest e in
      let b = addresses_rise (suc p) q (omega arith) in omega arith

  pub same_place : (p q : ℕ) (item other : RealItem) (rest more : List RealItem) → drop p items ≡ item ∷ rest
      → drop q items ≡ other ∷ more → is_mark item ≡ false → is_mark other ≡ false → address p ≤ address q
      → address q < address p + 4 * width_at p item → p ≡ q
  same_place p q item other rest more e f m n h k =
      let a : p < q → ⊥ = λ i. let b = apart p q item rest i e in omega arith in
      let c : q < p → ⊥ = λ i. let b = apart q p other more i f in let d = some_words q other n in omega arith in
      grind arith
