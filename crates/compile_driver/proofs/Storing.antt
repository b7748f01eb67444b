-- Where whole objects of a program fill the region of a run over words, storage is as it has to be in every memory that
-- tells their words.
use Rattle.std.proofs.Common.{◌≡◌, ◌⊎◌, inl, inr, ℕ, suc, ◌+◌, ◌*◌, ◌%◌, ◌<◌, ◌≤◌, Bool, true, false}
use Rattle.std.proofs.Common.{max, List, [], ◌∷◌, ◌++◌, length, replicate, Some, None, refl, sym, ap, ap₂, ◌∙◌, subst}
use Rattle.std.proofs.Common.{append_assoc, append-nil, arith}
use Rattle.std.specs.Prelude.{◌==◌, ◌&&◌, nat_le, if◌then◌else◌, option_and_then}
use Rattle.grift_base.specs.Types.{TypeRows}
use Rattle.machine_words.specs.Memory.{Memory, first_address, load_bytes}
use Rattle.low_ir.specs.Run.{Setting}
use Rattle.object_layout.specs.declared.headers.Header.{Header}
use Rattle.object_layout.specs.declared.kinds.Kind.{Kind}
use Rattle.object_layout.specs.declared.kinds.Kind.TheVariants.{Proxy, Dyn}
use Rattle.object_layout.specs.declared.kinds.Kind.TheVariants.{Fail as FailObject, Inject as InjectObject}
use Rattle.object_layout.specs.declared.kinds.Kind.TheVariants.{Project as ProjectObject}
use Rattle.object_layout.specs.declared.kinds.Wanted.{Wanted}
use Rattle.object_layout.specs.declared.kinds.Wanted.TheVariants.{Anything, Target, Middle, Coercion, TypeAddress}
use Rattle.object_layout.specs.declared.wholes.Area.TheVariants.{Region, Statics}
use Rattle.object_layout.specs.Headers.{unpacked}
use Rattle.object_layout.specs.Kinds.{kind_number as number_of, kind_of, is_free, wanted_words}
use Rattle.object_layout.specs.Reports.{header_behind, is_proxy, is_some_proxy}
use Rattle.object_layout.specs.Wholes.{Telling, header_at, height_of, coercion_height, height_behind, highest}
use Rattle.object_layout.specs.Wholes.{AreWanted, Fills, HasHeight, IsAddress, IsNth, IsRow, IsWanted, IsWhole}
use Rattle.object_layout.specs.Wholes.{StartsAt, wanted_height}
use Rattle.object_layout.proofs.Public.{an_object_of_a_row_is_whole, fills_few, fills_same, number_of_kind}
use Rattle.object_layout.proofs.Public.{is_the_proxy, free_wanted, free_no_proxy}
use Rattle.coercion_norm.specs.declared.middles.MiddleKind.{MiddleKind}
use Rattle.coercion_norm.specs.declared.middles.MiddleKind.TheVariants.{Fun as FunKind, Tup as TupKind}
use Rattle.coercion_norm.specs.declared.middles.MiddleKind.TheVariants.{Ref as RefKind, Vec as VecKind}
use Rattle.coercion_norm.specs.Held.{Layout, There, HoldsType, TypesStand, height_in, type_object}
use Rattle.coercion_norm.specs.Objects.{Object, Fixed, Cell, bytes_of, bytes_of_all, header_of, object_at}
use Rattle.coercion_norm.specs.ObjectsOfRows.{header, kind_number}
use Rattle.coercion_norm.specs.StaticObjects.{middle_kind, header as told}
use Rattle.coercion_norm.proofs.Public.{bytes_append, bytes_of_all_words, found_within, object_kept}
use Rattle.coercion_norm.proofs.Public.{told_header}
use Rattle.rt_cast.specs.Objects.{HasWord, Holds, HoldsObject, HoldsWords}
use Rattle.rt_cast.specs.States.{Heap, Filled, Placed}
use Rattle.rt_cast.specs.ToldRows.{telling}
use Rattle.rt_cast.specs.WholeObjects.{CoercionWord, IdWord, ObjectWord, Highest, IsWhole as IsWholeObject, Wholes}
use Rattle.rt_cast.specs.WholeObjects.{WholeFail, WholeMiddle, WholeInject, WholeProject, WholeProxy, WholeDyn}
use Rattle.rt_cast.specs.WholeObjects.{WholeOther}
use Rattle.rt_cast.proofs.Public.{same_some, holds_found}
use Rattle.compile_driver.specs.Space.{Stored, Begins, BeginsType, AreStatic, Leads, LeadFrom, IsStored}
use Rattle.compile_driver.proofs.Matching.{Match, found, starts}

-- ---- kinds

middle_wanted : (kind : MiddleKind) (count : ℕ) → wanted_words (middle_kind kind) count ≡ replicate count Coercion
middle_wanted FunKind count = refl
middle_wanted TupKind count = refl
middle_wanted RefKind count = refl
middle_wanted VecKind count = refl

-- neither a value in Dyn nor a proxy
record IsPlain (kind : Kind) : Type 0 where
  no_dyn : kind ≡ Dyn → ⊥
  no_proxy : kind ≡ Proxy → ⊥

middle_plain : (kind : MiddleKind) → IsPlain (middle_kind kind)
middle_plain FunKind = record { no_dyn = λ e. cc; no_proxy = λ e. cc }
middle_plain TupKind = record { no_dyn = λ e. cc; no_proxy = λ e. cc }
middle_plain RefKind = record { no_dyn = λ e. cc; no_proxy = λ e. cc }
middle_plain VecKind = record { no_dyn = λ e. cc; no_proxy = λ e. cc }

free_plain : (kind : Kind) → is_free kind ≡ true → IsPlain kind
free_plain kind free = record {
  no_dyn = λ e. let f : is_free Dyn ≡ true = subst (λ k. is_free k ≡ true) e free in cc;
  no_proxy = λ e. let f : is_free Proxy ≡ true = subst (λ k. is_free k ≡ true) e free in cc;
}

-- ---- objects and words

some_room : (o : Object) → 8 ≤ bytes_of o
some_room (Fixed word words) = omega arith
some_room (Cell word count) = omega arith

head_held : (m : Memory) (at : ℕ) (o : Object) → HoldsObject m at o → HasWord m at (header_of o)
head_held m at (Fixed word words) h = h.0
head_held m at (Cell word count) h = h

holds_split : (m : Memory) (from : ℕ) (first : List Object) (o : Object) (rest : List Object)
    → Holds m from (first ++ o ∷ rest) → HoldsObject m (from + bytes_of_all first) o
holds_split m from [] o rest h = subst (λ n. HoldsObject m n o) (let e : from ≡ from + 0 = omega arith in e) h.0
holds_split m from (x ∷ first) o rest h =
    let e : from + bytes_of x + bytes_of_all first ≡ from + (bytes_of x + bytes_of_all first) = omega arith in
    subst (λ n. HoldsObject m n o) e (holds_split m (from + bytes_of x) first o rest h.1)

whole_split : (l : Layout) (before first : List Object) (o : Object) (rest : List Object)
    → Wholes l before (first ++ o ∷ rest) → IsWholeObject l (before ++ first) o
whole_split l before [] o rest w = subst (λ os. IsWholeObject l os o) (sym (append-nil before)) w.0
whole_split l before (x ∷ first) o rest w =
    subst (λ os. IsWholeObject l os o) (append_assoc before (x ∷ []) first)
    (whole_split l (before ++ x ∷ []) first o rest w.1)

-- ---- what kind of object it is

-- the header of a whole object, and that it is as long as that says
record Shape (o : Object) : Type 0 where
  kind : Kind
  height : ℕ
  count : ℕ
  head : header_of o ≡ header (number_of kind) height count
  long : bytes_of o ≡ 8 + 8 * count
  small : height < 65536

word_low : (l : Layout) (before : List Object) (w y : ℕ) → CoercionWord l before w y → y < 65536
word_low l before w y (IdWord z e) = omega (arith, e)
word_low l before w y (ObjectWord kind count ws there c lt) = lt

-- of one whose words never change
fixed : (o : Object) (kind : Kind) (height : ℕ) (ws : List ℕ)
    → o ≡ Fixed (header (number_of kind) height (length ws)) ws → height < 65536 → Shape o
fixed o kind height ws e small = record {
  kind = kind;
  height = height;
  count = length ws;
  head = ap header_of e;
  long = ap bytes_of e;
  small = small;
}

shape_of : (l : Layout) (before : List Object) (o : Object) → TypesStand l → IsWholeObject l before o → Shape o
shape_of l before o types (WholeFail label e) = fixed o FailObject 0 (label ∷ []) e (omega arith)
shape_of l before o types (WholeMiddle kind y ws e width lt highs) = fixed o (middle_kind kind) (suc y) ws e lt
shape_of l before o types (WholeInject wg wt y type e word held) =
    let lt = word_low l before wg y word in
    let tall = types.low type in
    fixed o InjectObject (max y (height_in l type)) (wg ∷ wt ∷ []) e (omega (arith, lt, tall))
shape_of l before o types (WholeProject wt label wi y type e held word) =
    let lt = word_low l before wi y word in
    let tall = types.low type in
    fixed o ProjectObject (max (height_in l type) y) (wt ∷ label ∷ wi ∷ []) e (omega (arith, lt, tall))
shape_of l before o types (WholeProxy wa wc kind y ws e solid there lower) =
    fixed o Proxy 0 (wa ∷ wc ∷ []) e (omega arith)
shape_of l before o types (WholeDyn wt wx type e held lower) = fixed o Dyn 0 (wt ∷ wx ∷ []) e (omega arith)
shape_of l before o types (WholeOther kind count e long free allowed) = record {
  kind = kind;
  height = 0;
  count = count;
  head = e;
  long = long;
  small = omega arith;
}

module _ (setting : Setting) (l : Layout) (objects : List Object) (heap : Heap) (placed : Placed setting l)
    (types : TypesStand l) (low : l.tallest ≤ 65534) (filled : Filled setting l objects heap) (T : Telling)
    (says : (at w : ℕ) → at % 8 ≡ 0 → 65536 ≤ at → at + 8 ≤ heap.alloc → HasWord heap.memory at w → T at ≡ Some w) where
  abbrev U : Telling
  U = telling setting.top heap.memory

  -- told in both
  record Both (at word : ℕ) : Type 0 where
    under : U at ≡ Some word
    over : T at ≡ Some word

  both : (at w : ℕ) → at % 8 ≡ 0 → 65536 ≤ at → at + 8 ≤ heap.alloc → HasWord heap.memory at w → Both at w
  both at w e above le h =
      let fits = filled.fits in
      let test : ((at % 8 == 0) && nat_le (at + 8) setting.top) ≡ true = grind (arith, e, le, fits) in
      record {
        under = ap (λ b. if b then Some (load_bytes 8 heap.memory at) else None) test ∙ ap Some h.is;
        over = says at w e above le h;
      }

  -- the header of what is told there
  record Heads (at : ℕ) (h : Header) : Type 0 where
    under : header_at U at ≡ Some h
    over : header_at T at ≡ Some h

  heads : (at : ℕ) (kind : Kind) (height count : ℕ) (o : Object) → HasWord heap.memory at (header_of o)
      → Both at (header_of o) → header_of o ≡ header (number_of kind) height count → height < 65536
      → Heads at (told kind height count)
  heads at kind height count o has b e lt =
      let w : HasWord heap.memory at (header (number_of kind) height count) = subst (HasWord heap.memory at) e has in
      let small = w.small in
      let few : count < 4294967296 = omega (arith, small) in
      record {
        under = told_header U at kind height count lt few (b.under ∙ ap Some e);
        over = told_header T at kind height count lt few (b.over ∙ ap Some e);
      }

  -- ---- the objects and the headers of the region match

  match_row : (before os : List Object) (hs : List Header) (from to : ℕ) → Wholes l before os
      → Holds heap.memory from os → from % 8 ≡ 0 → 65536 ≤ from → from + bytes_of_all os ≤ heap.alloc
      → Fills U Region to from hs to → to ≡ from + bytes_of_all os → Match os hs
  match_row before [] [] from to w h even above le f e = tt
  match_row before [] (k ∷ hs) from to w h even above le f e =
      let few = fills_few U Region to (from + (8 + 8 * k.count)) to hs f.1 in absurd (omega (arith, few, e))
  match_row before (o ∷ os) [] from to w h even above le f e =
      let room = some_room o in
      let same : from ≡ to = f in
      absurd (omega (arith, room, e, same))
  match_row before (o ∷ os) (k ∷ hs) from to w h even above le f e =
      let s = shape_of l before o types w.0 in
      let room = some_room o in
      let has = head_held heap.memory from o h.0 in
      let b = both from (header_of o) even above (omega (arith, le, room)) has in
      let t = heads from s.kind s.height s.count o has b s.head s.small in
      let one : Some k ≡ Some (told s.kind s.height s.count) = sym f.0.header ∙ t.under in
      let same : k ≡ told s.kind s.height s.count = same_some k (told s.kind s.height s.count) one in
      let count : k.count ≡ s.count = ap (λ (x : Header). x.count) same in
      let long = s.long in (
        omega (arith, long, count),
        match_row (before ++ o ∷ []) os hs (from + bytes_of o) to w.1 h.1 (omega (arith, even, long))
            (omega (arith, above)) (omega (arith, le))
            (subst (λ n. Fills U Region to n hs to)
            (let z : from + (8 + 8 * k.count) ≡ from + bytes_of o = omega (arith, long, count) in z) f.1)
            (omega (arith, e)),
      )

  -- ---- where words lead

  module _ (hs sh : List Header) (row : IsRow U Region l.region hs heap.alloc)
      (static_begins : (w : ℕ) (o : Object) → object_at l.statics l.first w ≡ Some o → StartsAt first_address sh w)
      (type_begins : (type : ℕ) → type < length l.types
      → BeginsType (record { statics = sh; region = l.region; objects = hs }) (l.type_at type)) where
    abbrev stored : Stored
    stored = record { statics = sh; region = l.region; objects = hs }

    matches : Match objects hs
    matches =
        match_row [] objects hs l.region heap.alloc filled.whole filled.objects_stand placed.even_region
        (let a = placed.low in let b = placed.before in omega (arith, a, b))
        (let e = filled.ends in omega (arith, e)) row filled.ends

    -- what stands behind a word is told alike
    abbrev Same : Wanted → ℕ → Type 0
    Same Anything w = Unit {0}
    Same Target w = T w ≡ U w
    Same Middle w = T w ≡ U w
    Same Coercion w = (w ≡ 0) ⊎ (T w ≡ U w)
    Same TypeAddress w = T w ≡ U w

    -- a word is told at an address, and leads where it has to
    record LeadsAt (at : ℕ) (wanted : Wanted) : Type 0 where
      word : ℕ
      told_both : Both at word
      leads : Leads stored wanted word
      same : Same wanted word

    abbrev LeadAll : ℕ → List Wanted → Type 0
    LeadAll at [] = Unit {0}
    LeadAll at (wanted ∷ rest) = LeadsAt at wanted × LeadAll (at + 8) rest

    alike : (at word : ℕ) → Both at word → T at ≡ U at
    alike at word b = b.over ∙ sym b.under

    module _ (first rest : List Object) (is : objects ≡ first ++ rest) where
      -- an object that stands there is told, and begins there
      record Stands (w : ℕ) (o : Object) : Type 0 where
        has : HasWord heap.memory w (header_of o)
        told_both : Both w (header_of o)
        begins : Begins stored w

      stands : (w : ℕ) (o : Object) → There l first w o → Stands w o
      stands w o (inl e) =
          let z = found_within l.statics l.first w o e in
          let r = some_room o in
          let a = placed.low in
          let b = placed.before in
          let ends = filled.ends in
          let has = head_held heap.memory w o
          (holds_found heap.memory l.first l.statics w o filled.statics_stand e) in
          record {
            has = has;
            told_both = both w (header_of o) (z.even placed.even_first) (omega (arith, z.low, a))
                (omega (arith, z.high, b, ends, r)) has;
            begins = inr (static_begins w o e);
          }
      stands w o (inr e) =
          let z = found_within first l.region w o e in
          let r = some_room o in
          let a = placed.low in
          let b = placed.before in
          let ends = filled.ends in
          let all : bytes_of_all objects ≡ bytes_of_all first + bytes_of_all rest =
          ap bytes_of_all is ∙ bytes_append first rest in
          let later : object_at objects l.region w ≡ Some o =
          subst (λ os. object_at os l.region w ≡ Some o) (sym is) (object_kept first rest l.region w o e) in
          let has = head_held heap.memory w o
          (holds_found heap.memory l.region objects w o filled.objects_stand later) in
          record {
            has = has;
            told_both = both w (header_of o) (z.even placed.even_region) (omega (arith, z.low, a, b))
                (omega (arith, z.high, all, ends, r)) has;
            begins = inl (starts objects hs l.region w o matches later);
          }

      coercion_leads : (at w y : ℕ) → Both at w → CoercionWord l first w y → LeadsAt at Coercion
      coercion_leads at w y b (IdWord z e) =
          record { word = w; told_both = b; leads = inl z; same = inl z }
      coercion_leads at w y b (ObjectWord kind count ws there c lt) =
          let s = stands w (Fixed (header (number_of kind) y count) ws) there in
          record {
            word = w;
            told_both = b;
            leads = inr s.begins;
            same = inr (alike w (header (number_of kind) y count) s.told_both);
          }

      type_leads : (at w type : ℕ) → Both at w → HoldsType l first w type → LeadsAt at TypeAddress
      type_leads at w type b held =
          let there = stands w (type_object l type)
          (inl (subst (λ n. object_at l.statics l.first n ≡ Some (type_object l type)) (sym held.is)
          (types.stands type held.known))) in
          record {
            word = w;
            told_both = b;
            leads = subst (BeginsType stored) (sym held.is) (type_begins type held.known);
            same = alike w (header_of (type_object l type)) there.told_both;
          }

      -- words of parts
      each : (ws : List ℕ) (at y : ℕ) → at % 8 ≡ 0 → 65536 ≤ at → at + 8 * length ws ≤ heap.alloc
          → HoldsWords heap.memory at ws → Highest l first ws y → LeadAll at (replicate (length ws) Coercion)
      each [] at y even above le h highs = tt
      each (w ∷ ws) at y even above le h highs = (
        coercion_leads at w highs.0 (both at w even above (omega (arith, le)) h.0) highs.2,
        each ws (at + 8) highs.1 (omega (arith, even)) (omega (arith, above)) (omega (arith, le)) h.1 highs.3,
      )

    -- what is told of an object of the region
    record Here (at : ℕ) (o : Object) : Type 0 where
      kind : Kind
      height : ℕ
      count : ℕ
      head : header_of o ≡ header (number_of kind) height count
      small : height < 65536
      lead : LeadAll (at + 8) (wanted_words kind count)
      kept : (word : ℕ) → kind ≡ Dyn → T (at + 8) ≡ Some word → BeginsType stored word
      single : kind ≡ Proxy → is_some_proxy (header_behind T (at + 8)) ≡ false
      lower : kind ≡ Proxy → height_of (header_behind T (at + 8 + 8)) ≤ l.tallest

    -- an object that is neither a value in Dyn nor a proxy
    plain : (at : ℕ) (o : Object) (kind : Kind) (height count : ℕ)
        → header_of o ≡ header (number_of kind) height count → height < 65536 → IsPlain kind
        → LeadAll (at + 8) (wanted_words kind count) → Here at o
    plain at o kind height count head small p lead = record {
      kind = kind;
      height = height;
      count = count;
      head = head;
      small = small;
      lead = lead;
      kept = λ word e t. absurd (p.no_dyn e);
      single = λ e. absurd (p.no_proxy e);
      lower = λ e. absurd (p.no_proxy e);
    }

    module _ (first : List Object) (o : Object) (rest : List Object) (is : objects ≡ first ++ o ∷ rest) where
      abbrev begin : ℕ
      begin = l.region + bytes_of_all first

      even : begin % 8 ≡ 0
      even =
          let all = bytes_of_all_words first in
          let e = placed.even_region in omega (arith, all, e)

      above : 65536 ≤ begin
      above = let a = placed.low in let b = placed.before in omega (arith, a, b)

      fits : begin + bytes_of o ≤ heap.alloc
      fits =
          let all : bytes_of_all objects ≡ bytes_of_all first + bytes_of_all (o ∷ rest) =
          ap bytes_of_all is ∙ bytes_append first (o ∷ rest) in
          let e = filled.ends in omega (arith, all, e)

      stands_here : HoldsObject heap.memory begin o
      stands_here =
          holds_split heap.memory l.region first o rest
          (subst (λ os. Holds heap.memory l.region os) is filled.objects_stand)

      whole_here : IsWholeObject l first o
      whole_here = whole_split l [] first o rest (subst (λ os. Wholes l [] os) is filled.whole)

      -- its words, where it is one whose words never change
      words_here : (word : ℕ) (words : List ℕ) → o ≡ Fixed word words
          → HoldsWords heap.memory begin (word ∷ words) × (begin + (8 + 8 * length words) ≤ heap.alloc)
      words_here word words e =
          let le = subst (λ x. begin + bytes_of x ≤ heap.alloc) e fits in
          (subst (HoldsObject heap.memory begin) e stands_here, le)

      here : IsWholeObject l first o → Here begin o
      here (WholeFail label e) =
          plain begin o FailObject 0 1 (ap header_of e) (omega arith)
          (record { no_dyn = λ z. cc; no_proxy = λ z. cc }) tt
      here (WholeMiddle kind y ws e width lt highs) =
          let w = words_here (header (kind_number kind) (suc y) (length ws)) ws e in
          let le = w.1 in
          plain begin o (middle_kind kind) (suc y) (length ws) (ap header_of e) lt (middle_plain kind)
          (subst (LeadAll (begin + 8)) (sym (middle_wanted kind (length ws)))
          (each first (o ∷ rest) is ws (begin + 8) y (omega (arith, even)) (omega (arith, above)) (omega (arith, le))
          w.0.1 highs))
      here (WholeInject wg wt y type e word held) =
          let w = words_here (header 13 (max y (height_in l type)) 2) (wg ∷ wt ∷ []) e in
          let le = w.1 in
          let lt = word_low l first wg y word in
          let tall = types.low type in
          let one = both (begin + 8) wg (omega (arith, even)) (omega (arith, above)) (omega (arith, le)) w.0.1.0 in
          let two = both (begin + 8 + 8) wt (omega (arith, even)) (omega (arith, above))
          (omega (arith, le)) w.0.1.1.0 in
          plain begin o InjectObject (max y (height_in l type)) 2 (ap header_of e) (omega (arith, lt, tall))
          (record { no_dyn = λ z. cc; no_proxy = λ z. cc }) (
            coercion_leads first (o ∷ rest) is (begin + 8) wg y one word,
            (type_leads first (o ∷ rest) is (begin + 8 + 8) wt type two held, tt),
          )
      here (WholeProject wt label wi y type e held word) =
          let w = words_here (header 14 (max (height_in l type) y) 3) (wt ∷ label ∷ wi ∷ []) e in
          let le = w.1 in
          let lt = word_low l first wi y word in
          let tall = types.low type in
          let one = both (begin + 8) wt (omega (arith, even)) (omega (arith, above)) (omega (arith, le)) w.0.1.0 in
          let two = both (begin + 8 + 8) label (omega (arith, even)) (omega (arith, above)) (omega (arith, le))
          w.0.1.1.0 in
          let three = both (begin + 8 + 8 + 8) wi (omega (arith, even)) (omega (arith, above)) (omega (arith, le))
          w.0.1.1.1.0 in
          plain begin o ProjectObject (max (height_in l type) y) 3 (ap header_of e) (omega (arith, lt, tall))
          (record { no_dyn = λ z. cc; no_proxy = λ z. cc }) (
            type_leads first (o ∷ rest) is (begin + 8) wt type one held,
            (
              record { word = label; told_both = two; leads = tt; same = tt },
              (coercion_leads first (o ∷ rest) is (begin + 8 + 8 + 8) wi y three word, tt),
            ),
          )
      here (WholeProxy wa wc kind y ws e solid there lower) =
          let w = words_here (header 2 0 2) (wa ∷ wc ∷ []) e in
          let le = w.1 in
          let one = both (begin + 8) wa (omega (arith, even)) (omega (arith, above)) (omega (arith, le)) w.0.1.0 in
          let two = both (begin + 8 + 8) wc (omega (arith, even)) (omega (arith, above))
          (omega (arith, le)) w.0.1.1.0 in
          let target = stands first (o ∷ rest) is wa solid.object solid.there in
          let middle = Fixed (header (kind_number kind) y (length ws)) ws in
          let coercion = stands first (o ∷ rest) is wc middle there in
          let under = heads wa solid.kind 0 solid.count solid.object target.has target.told_both solid.head
          (omega arith) in
          let high = heads wc (middle_kind kind) y (length ws) middle coercion.has coercion.told_both refl
          (omega (arith, lower, low)) in
          record {
            kind = Proxy;
            height = 0;
            count = 2;
            head = ap header_of e;
            small = omega arith;
            lead = (
              record {
                word = wa;
                told_both = one;
                leads = target.begins;
                same = alike wa (header_of solid.object) target.told_both;
              },
              (
                record {
                  word = wc;
                  told_both = two;
                  leads = coercion.begins;
                  same = alike wc (header (kind_number kind) y (length ws)) coercion.told_both;
                },
                tt,
              ),
            );
            kept = λ word z t. cc;
            single = λ z.
                ap (λ x. is_some_proxy (option_and_then (header_at T) x)) one.over
                ∙ (ap is_some_proxy under.over ∙ free_no_proxy solid.kind solid.free);
            lower = λ z.
                subst (λ n. n ≤ l.tallest)
                (sym (ap (λ x. height_of (option_and_then (header_at T) x)) two.over ∙ ap height_of high.over)) lower;
          }
      here (WholeDyn wt wx type e held lower) =
          let w = words_here (header 3 0 2) (wt ∷ wx ∷ []) e in
          let le = w.1 in
          let one = both (begin + 8) wt (omega (arith, even)) (omega (arith, above)) (omega (arith, le)) w.0.1.0 in
          record {
            kind = Dyn;
            height = 0;
            count = 2;
            head = ap header_of e;
            small = omega arith;
            lead = tt;
            kept = λ word z t.
                let same : word ≡ l.type_at type = same_some word wt (sym t ∙ one.over) ∙ held.is in
                subst (BeginsType stored) (sym same) (type_begins type held.known);
            single = λ z. cc;
            lower = λ z. let f : ⊥ = cc in absurd f;
          }
      here (WholeOther kind count e long free allowed) =
          plain begin o kind 0 count e (omega arith) (free_plain kind free)
          (subst (LeadAll (begin + 8)) (sym (free_wanted kind count free)) tt)

    -- ---- the object at a place

    record AtPlace (at : ℕ) (h : Header) : Type 0 where
      object : Object
      here : Here at object
      told_is : h ≡ told here.kind here.height here.count
      same : T at ≡ U at

    at_place : (place at : ℕ) (h : Header) → IsNth l.region hs place at h → AtPlace at h
    at_place place at h n =
        let f = found objects hs l.region place at h matches n in
        let w = an_object_of_a_row_is_whole U Region heap.alloc l.region hs heap.alloc place at h row n in
        subst (λ a. IsWhole U Region heap.alloc a h → AtPlace a h) (sym f.at_is) (λ x.
        let it = here f.first f.object f.rest f.is (whole_here f.first f.object f.rest f.is) in
        let room = some_room f.object in
        let le = fits f.first f.object f.rest f.is in
        let has = head_held heap.memory (l.region + bytes_of_all f.first) f.object
        (stands_here f.first f.object f.rest f.is) in
        let b = both (l.region + bytes_of_all f.first) (header_of f.object) (even f.first f.object f.rest f.is)
        (above f.first f.object f.rest f.is) (omega (arith, le, room)) has in
        let t = heads (l.region + bytes_of_all f.first) it.kind it.height it.count f.object has b it.head it.small in
        record {
          object = f.object;
          here = it;
          told_is = same_some h (told it.kind it.height it.count) (sym x.header ∙ t.under);
          same = alike (l.region + bytes_of_all f.first) (header_of f.object) b;
        }) w

    kind_there : (at : ℕ) (h : Header) (p : AtPlace at h) (kind : Kind) → kind_of h.kind ≡ Some kind
        → p.here.kind ≡ kind
    kind_there at h p kind e =
        same_some p.here.kind kind
        (sym (number_of_kind p.here.kind) ∙ (sym (ap (λ (x : Header). kind_of x.kind) p.told_is) ∙ e))

    lead_there : (at : ℕ) (h : Header) (p : AtPlace at h) (kind : Kind) → kind_of h.kind ≡ Some kind
        → LeadAll (at + 8) (wanted_words kind h.count)
    lead_there at h p kind e =
        subst (λ k. LeadAll (at + 8) (wanted_words k h.count)) (kind_there at h p kind e)
        (subst (λ c. LeadAll (at + 8) (wanted_words p.here.kind c))
        (sym (ap (λ (x : Header). x.count) p.told_is)) p.here.lead)

    leads_from : (at : ℕ) (list : List Wanted) → LeadAll at list → LeadFrom stored T at list
    leads_from at [] all = tt
    leads_from at (wanted ∷ list) all = (
      λ word t.
          let same : all.0.word ≡ word = same_some all.0.word word (sym all.0.told_both.over ∙ t) in
          subst (Leads stored wanted) same all.0.leads,
      leads_from (at + 8) list all.1,
    )

    proxy_there : (at : ℕ) (h : Header) (p : AtPlace at h) → is_proxy h ≡ true → p.here.kind ≡ Proxy
    proxy_there at h p e =
        is_the_proxy p.here.kind (sym (ap (λ (x : Header). x.kind == 2) p.told_is) ∙ e)

    -- ---- a whole object is whole in the other memory

    address_moves : (named : Kind → Bool) (own word : ℕ) → T word ≡ U word → IsAddress U named own word
        → IsAddress T named own word
    address_moves named own word e a = record {
      kind = a.kind;
      there = ap (λ o. option_and_then (λ (h : Header). kind_of h.kind) (option_and_then unpacked o)) e ∙ a.there;
      is_named = a.is_named;
      below = a.below;
    }

    head_moves : (word : ℕ) → T word ≡ U word → header_at T word ≡ header_at U word
    head_moves word e = ap (λ o. option_and_then unpacked o) e

    zero_high : (word : ℕ) → word ≡ 0 → coercion_height T (Some word) ≡ coercion_height U (Some word)
    zero_high word z = subst (λ v. coercion_height T (Some v) ≡ coercion_height U (Some v)) (sym z) refl

    coercion_moves : (own word : ℕ) → Same Coercion word → IsWanted U own Coercion word
        → IsWanted T own Coercion word × (coercion_height T (Some word) ≡ coercion_height U (Some word))
    coercion_moves own word (inl z) w = (inl z, zero_high word z)
    coercion_moves own word (inr e) (inl z) = (inl z, zero_high word z)
    coercion_moves own word (inr e) (inr a) =
        (inr (address_moves _ own word e a), ap (λ x. if word == 0 then 0 else height_of x) (head_moves word e))

    -- words that are wanted in one memory are in the other, and the highest of them is as high
    record Moved (own at : ℕ) (list : List Wanted) : Type 0 where
      wanted : AreWanted T own at list
      high : highest T at list ≡ highest U at list

    word_moves : (own at : ℕ) (wanted : Wanted) (lead : LeadsAt at wanted) → IsWanted U own wanted lead.word
        → IsWanted T own wanted lead.word × (wanted_height T wanted at ≡ wanted_height U wanted at)
    word_moves own at Anything lead w = (tt, refl)
    word_moves own at Target lead w = (address_moves _ own lead.word lead.same w, refl)
    word_moves own at Middle lead w = (address_moves _ own lead.word lead.same w, refl)
    word_moves own at TypeAddress lead w = (
      address_moves _ own lead.word lead.same w,
      ap (height_behind T) lead.told_both.over
          ∙ (ap height_of (head_moves lead.word lead.same) ∙ sym (ap (height_behind U) lead.told_both.under)),
    )
    word_moves own at Coercion lead w =
        let one = coercion_moves own lead.word lead.same w in (
          one.0,
          ap (coercion_height T) lead.told_both.over ∙ (one.1 ∙ sym (ap (coercion_height U) lead.told_both.under)),
        )

    moves : (own at : ℕ) (list : List Wanted) → LeadAll at list → AreWanted U own at list → Moved own at list
    moves own at [] all w = record { wanted = tt; high = refl }
    moves own at (wanted ∷ list) all w =
        let rest = moves own (at + 8) list all.1 w.1 in
        let same : w.0.0 ≡ all.0.word = same_some w.0.0 all.0.word (sym w.0.1 ∙ all.0.told_both.under) in
        let one = word_moves own at wanted all.0 (subst (IsWanted U own wanted) same w.0.2) in
        record {
          wanted = ((all.0.word, all.0.told_both.over, one.0), rest.wanted);
          high = ap₂ max one.1 rest.high;
        }

    whole_moves : (at : ℕ) (h : Header) → AtPlace at h → IsWhole U Region heap.alloc at h
        → IsWhole T Region heap.alloc at h
    whole_moves at h p w =
        let m = moves at (at + 8) (wanted_words w.kind h.count) (lead_there at h p w.kind w.kind_is) w.words in
        record {
          header = head_moves at p.same ∙ w.header;
          kind = w.kind;
          kind_is = w.kind_is;
          count = w.count;
          fits = w.fits;
          words = m.wanted;
          height = subst (HasHeight w.kind h.height) (sym m.high) w.height;
          stands = w.stands;
        }

    -- ---- storage

    proxy_low : (at : ℕ) (h : Header) → AtPlace at h → (b : Bool) → is_proxy h ≡ b
        → (if b then height_of (header_behind T (at + 8 + 8)) else 0) ≤ l.tallest
    proxy_low at h p true e = p.here.lower (proxy_there at h p e)
    proxy_low at h p false e = omega arith

    pub storage_is_so : (rows : TypeRows) (statics_end : ℕ) → IsRow T Statics first_address sh statics_end
        → AreStatic rows sh → IsStored stored T rows l.tallest statics_end heap.alloc
    storage_is_so rows statics_end static_row static_are = record {
      statics_row = static_row;
      statics_are = static_are;
      row =
          fills_same U T Region heap.alloc l.region hs heap.alloc
          (λ place at h n w. whole_moves at h (at_place place at h n) w) row;
      lead = λ place at h kind n e.
          leads_from (at + 8) (wanted_words kind h.count) (lead_there at h (at_place place at h n) kind e);
      kept = λ place at h word n e t.
          let p = at_place place at h n in p.here.kept word (kind_there at h p Dyn e) t;
      single = λ place at h n e.
          let p = at_place place at h n in p.here.single (proxy_there at h p e);
      low = λ place at h n. proxy_low at h (at_place place at h n) (is_proxy h) refl;
    }
