-- Lists of whole objects are rows of whole objects in what the memory tells.
use Rattle.std.proofs.Common.{◌≡◌, inl, inr, ℕ, suc, ◌+◌, ◌*◌, ◌%◌, ◌<◌, ◌≤◌, Bool, true, false, max}
use Rattle.std.proofs.Common.{List, [], ◌∷◌, ◌++◌, length, replicate, Some, None, refl, sym, ap, ap₂, ◌∙◌}
use Rattle.std.proofs.Common.{subst}
use Rattle.std.proofs.Common.{append_assoc, append-nil, map, arith}
use Rattle.std.specs.Prelude.{◌==◌, ◌&&◌, nat_le, if◌then◌else◌}
use Rattle.grift_base.specs.Types.{TypeRow, IntRow}
use Rattle.grift_base.specs.Types.{parts_of}
use Rattle.machine_words.specs.Memory.{Memory, load_bytes}
use Rattle.low_ir.specs.Run.{Setting}
use Rattle.coercion_norm.specs.declared.middles.MiddleKind.{MiddleKind as Kind}
use Rattle.coercion_norm.specs.declared.middles.MiddleKind.TheVariants.{Fun as FunKind, Tup as TupKind}
use Rattle.coercion_norm.specs.declared.middles.MiddleKind.TheVariants.{Ref as RefKind, Vec as VecKind}
use Rattle.coercion_norm.specs.Nodes.{KindHasWidth}
use Rattle.coercion_norm.specs.StaticObjects.{middle_kind, type_kind as kind_of_type, header as told}
use Rattle.object_layout.proofs.Public.{number_of_kind, free_wanted, free_target, free_stands}
use Rattle.coercion_norm.proofs.Public.{told_header, told_kind}
use Rattle.object_layout.specs.declared.headers.Header.{Header}
use Rattle.object_layout.specs.declared.kinds.Kind.{Kind as ObjectKind}
use Rattle.object_layout.specs.declared.kinds.Kind.TheVariants.{Closure, Proxy, Dyn, Tuple, Boxed, Vector}
use Rattle.object_layout.specs.declared.kinds.Kind.TheVariants.{Fail as FailObject, Inject as InjectObject}
use Rattle.object_layout.specs.declared.kinds.Kind.TheVariants.{Project as ProjectObject}
use Rattle.object_layout.specs.declared.kinds.Wanted.TheVariants.{Coercion, TypeAddress}
use Rattle.object_layout.specs.declared.wholes.Area.TheVariants.{Region}
use Rattle.object_layout.specs.Kinds.{kind_number as number_of, is_free, is_coercion, is_target, is_middle}
use Rattle.object_layout.specs.Kinds.{is_type, allows_count, wanted_words}
use Rattle.object_layout.specs.Wholes.{Telling, header_at, height_of, height_behind, coercion_height, highest}
use Rattle.object_layout.specs.Wholes.{IsAddress}
use Rattle.object_layout.specs.Wholes.{IsWanted, AreWanted, HasHeight, IsWhole as IsWholeHere, Fills}
use Rattle.coercion_norm.specs.Objects.{Object, Fixed, Cell, header_of, bytes_of, bytes_of_all}
use Rattle.rt_cast.specs.Objects.{HasWord, HoldsWords}
use Rattle.coercion_norm.specs.Objects.{object_at}
use Rattle.rt_cast.specs.Objects.{HoldsObject, Holds}
use Rattle.coercion_norm.specs.Held.{Layout, There, HoldsType, TypesStand}
use Rattle.coercion_norm.specs.ObjectsOfRows.{header, kind_number, type_kind}
use Rattle.coercion_norm.specs.Held.{rows_in, height_in}
use Rattle.rt_cast.specs.WholeObjects.{CoercionWord, IdWord, ObjectWord, Highest, IsWhole, Wholes, WholeFail}
use Rattle.rt_cast.specs.WholeObjects.{WholeMiddle, WholeInject, WholeProject, WholeProxy, WholeDyn, WholeOther}
use Rattle.rt_cast.specs.States.{Heap, Filled, Placed}
use Rattle.rt_cast.specs.ToldRows.{telling, IsFilled}
use Rattle.coercion_norm.proofs.Public.{found_within, object_kept, bytes_append}
use Rattle.rt_cast.proofs.Objects.{holds_found}
use Rattle.rt_cast.proofs.Objects.{proxy_header, dyn_header, fail_header, inject_header, project_header}

free_high : (kind : ObjectKind) (y : ℕ) → is_free kind ≡ true → HasHeight kind 0 y
free_high Closure y e = tt
free_high Tuple y e = tt
free_high Boxed y e = tt
free_high Vector y e = tt
free_high _ y e = absurd (let z : ⊥ = cc in z)

type_is : (row : TypeRow) → is_type (kind_of_type row) ≡ true
type_is IntRow = refl
type_is _ = refl

middle_is : (kind : Kind) → is_middle (middle_kind kind) ≡ true
middle_is FunKind = refl
middle_is _ = refl

middle_stands : (kind : Kind) → is_type (middle_kind kind) ≡ false
middle_stands FunKind = refl
middle_stands _ = refl

middle_wanted : (kind : Kind) (count : ℕ) → wanted_words (middle_kind kind) count ≡ replicate count Coercion
middle_wanted FunKind count = refl
middle_wanted _ count = refl

middle_count : (kind : Kind) (count : ℕ) → KindHasWidth kind count → allows_count (middle_kind kind) count ≡ true
middle_count FunKind count h = grind (arith, h)
middle_count TupKind count h = grind (arith, h)
middle_count RefKind count h = grind (arith, h)
middle_count VecKind count h = grind (arith, h)

middle_high : (kind : Kind) (y : ℕ) → HasHeight (middle_kind kind) (suc y) y
middle_high FunKind y = refl
middle_high TupKind y = refl
middle_high RefKind y = refl
middle_high VecKind y = refl

module _ (setting : Setting) (l : Layout) (m : Memory) (objects : List Object) (placed : Placed setting l)
    (types : TypesStand l) (low : l.tallest ≤ 65534) (statics : Holds m l.first l.statics)
    (stand : Holds m l.region objects) (fits : l.region + bytes_of_all objects ≤ setting.top) where
  abbrev T : Telling
  T = telling setting.top m

  tells : (at w : ℕ) → at % 8 ≡ 0 → at + 8 ≤ setting.top → HasWord m at w → T at ≡ Some w
  tells at w e le h =
      let test : ((at % 8 == 0) && nat_le (at + 8) setting.top) ≡ true = grind (arith, e, le) in
      ap (λ b. if b then Some (load_bytes 8 m at) else None) test ∙ ap Some h.is

  head_held : (at : ℕ) (o : Object) → HoldsObject m at o → HasWord m at (header_of o)
  head_held at (Fixed header words) h = h.0
  head_held at (Cell header count) h = h

  some_room : (o : Object) → 8 ≤ bytes_of o
  some_room (Fixed header words) = omega arith
  some_room (Cell header count) = omega arith

  -- an object stands at an address below another
  record Stands (own at : ℕ) (o : Object) : Type 0 where
    head : HasWord m at (header_of o)
    even : at % 8 ≡ 0
    above : 65536 ≤ at
    room : at + 8 ≤ setting.top
    below : at < own

  stands : (before os : List Object) → objects ≡ before ++ os → (at : ℕ) (o : Object) → There l before at o
      → Stands (l.region + bytes_of_all before) at o
  stands before os is at o (inl e) =
      let z = found_within l.statics l.first at o e in
      let r = some_room o in
      record {
        head = head_held at o (holds_found m l.first l.statics at o statics e);
        even = z.even placed.even_first;
        above = omega (arith, z.low, placed.low);
        room = omega (arith, z.high, placed.before, fits, r);
        below = omega (arith, z.high, placed.before, r);
      }
  stands before os is at o (inr e) =
      let z = found_within before l.region at o e in
      let r = some_room o in
      let all : bytes_of_all objects ≡ bytes_of_all before + bytes_of_all os =
      ap bytes_of_all is ∙ bytes_append before os in
      record {
        head = head_held at o (holds_found m l.region objects at o stand
            (subst (λ xs. object_at xs l.region at ≡ Some o) (sym is) (object_kept before os l.region at o e)));
        even = z.even placed.even_region;
        above = omega (arith, z.low, placed.low, placed.before);
        room = omega (arith, z.high, fits, all, r);
        below = omega (arith, z.high, r);
      }

  -- the header of what stands there
  head_told : (own at : ℕ) (kind : ObjectKind) (y count : ℕ) (o : Object) → Stands own at o
      → header_of o ≡ header (number_of kind) y count → y < 65536 → header_at T at ≡ Some (told kind y count)
  head_told own at kind y count o s e lt =
      let w : HasWord m at (header (number_of kind) y count) = subst (HasWord m at) e s.head in
      let small = w.small in
      told_header T at kind y count lt (omega (arith, small)) (tells at (header (number_of kind) y count) s.even s.room
      w)

  address : (own at : ℕ) (named : ObjectKind → Bool) (kind : ObjectKind) (y count : ℕ) (o : Object) → Stands own at o
      → header_of o ≡ header (number_of kind) y count → y < 65536 → named kind ≡ true → IsAddress T named own at
  address own at named kind y count o s e lt n = record {
    kind = kind;
    there = told_kind T at kind y count (head_told own at kind y count o s e lt);
    is_named = n;
    below = s.below;
  }

  module _ (before os : List Object) (is : objects ≡ before ++ os) where
    abbrev own : ℕ
    own = l.region + bytes_of_all before

    coercion_is : (w y : ℕ) → CoercionWord l before w y
        → IsWanted T own Coercion w × (coercion_height T (Some w) ≡ y)
    coercion_is w y (IdWord z e) =
        (inl z, subst (λ v. coercion_height T (Some v) ≡ y) (sym z) (sym e))
    coercion_is w y (ObjectWord kind count ws there c lt) =
        let s = stands before os is w (Fixed (header (number_of kind) y count) ws) there in
        let some : (w == 0) ≡ false = let a = s.above in grind (arith, a) in (
          inr (address own w is_coercion kind y count (Fixed (header (number_of kind) y count) ws) s refl lt c),
          ap (λ b. if b then 0 else height_of (header_at T w)) some
              ∙ ap height_of (head_told own w kind y count (Fixed (header (number_of kind) y count) ws) s refl lt),
        )

    type_held : (w type : ℕ) → HoldsType l before w type
        → IsWanted T own TypeAddress w × (height_behind T (Some w) ≡ height_in l type)
    type_held w type t =
        let words = map l.type_at (parts_of (rows_in l type)) in
        let o = Fixed (header (type_kind (rows_in l type)) (height_in l type) (length (parts_of (rows_in l type))))
        words in
        let s =
        stands before os is w o
        (inl (subst (λ n. object_at l.statics l.first n ≡ Some o) (sym t.is) (types.stands type t.known))) in
        let lt : height_in l type < 65536 = let z = types.low type in omega arith in (
          address own w is_type (kind_of_type (rows_in l type)) (height_in l type) (length (parts_of (rows_in l type)))
              o s
              refl lt (type_is (rows_in l type)),
          ap height_of (head_told own w (kind_of_type (rows_in l type)) (height_in l type)
              (length (parts_of (rows_in l type))) o s refl lt),
        )

    each_wanted : (ws : List ℕ) (at y : ℕ) → at % 8 ≡ 0 → at + 8 * length ws ≤ setting.top → HoldsWords m at ws
        → Highest l before ws y
        → AreWanted T own at (replicate (length ws) Coercion) × (highest T at (replicate (length ws) Coercion) ≡ y)
    each_wanted [] at y e le h c = (tt, sym c)
    each_wanted (w ∷ ws) at y e le h c =
        let t = tells at w e (omega (arith, le)) h.0 in
        let one = coercion_is w c.0 c.2 in
        let rest = each_wanted ws (at + 8) c.1 (omega (arith, e)) (omega (arith, le)) h.1 c.3 in
        (((w, t, one.0), rest.0), ap₂ max (ap (coercion_height T) t ∙ one.1) rest.1 ∙ sym c.4)

    -- a whole object with a header stands there, as long as the object
    abbrev Here : Object → Type 0
    Here o =
        (h : Header) × IsWholeHere T Region (l.region + bytes_of_all objects) own h × (8 + 8 * h.count ≡ bytes_of o)

    module _ (even : own % 8 ≡ 0) where
      -- a whole object, by what its kind asks for
      here : (o : Object) (kind : ObjectKind) (y count : ℕ) → HoldsObject m own o
          → own + bytes_of o ≤ l.region + bytes_of_all objects → header_of o ≡ header (number_of kind) y count
          → y < 65536 → bytes_of o ≡ 8 + 8 * count → allows_count kind count ≡ true
          → AreWanted T own (own + 8) (wanted_words kind count)
          → HasHeight kind y (highest T (own + 8) (wanted_words kind count)) → is_type kind ≡ false → Here o
      here o kind y count h le e lt long allowed words high st =
          let w : HasWord m own (header (number_of kind) y count) = subst (HasWord m own) e (head_held own o h) in
          let small = w.small in (
            told kind y count,
            record {
              header =
                  told_header T own kind y count lt (omega (arith, small))
                  (tells own (header (number_of kind) y count) even (omega (arith, le, long, fits)) w);
              kind = kind;
              kind_is = number_of_kind kind;
              count = allowed;
              fits = omega (arith, le, long);
              words = words;
              height = high;
              stands = st;
            },
            sym long,
          )

      -- the same for an object that is told in full
      as_told : (o other : Object) → o ≡ other → HoldsObject m own o
          → own + bytes_of o ≤ l.region + bytes_of_all objects
          → (HoldsObject m own other → own + bytes_of other ≤ l.region + bytes_of_all objects → Here other) → Here o
      as_told o other e h le go =
          subst Here (sym e) (go (subst (HoldsObject m own) e h)
          (subst (λ x. own + bytes_of x ≤ l.region + bytes_of_all objects) e le))

      word_low : (w y : ℕ) → CoercionWord l before w y → y < 65536
      word_low w y (IdWord z e) = omega (arith, e)
      word_low w y (ObjectWord kind count ws there c lt) = lt

      whole_here : (o : Object) → HoldsObject m own o → own + bytes_of o ≤ l.region + bytes_of_all objects
          → IsWhole l before o → Here o
      whole_here o h le (WholeFail label e) =
          as_told o (Fixed fail_header (label ∷ [])) e h le (λ h2 le2.
          here (Fixed fail_header (label ∷ [])) FailObject 0 1 h2 le2 refl (omega arith) refl refl tt refl refl)
      whole_here o h le (WholeMiddle kind y ws e width lt highs) =
          let other = Fixed (header (kind_number kind) (suc y) (length ws)) ws in
          as_told o other e h le (λ h2 le2.
          let each = each_wanted ws (own + 8) y (omega (arith, even)) (omega (arith, le2, fits)) h2.1 highs in
          here other (middle_kind kind) (suc y) (length ws) h2 le2 refl lt refl
          (middle_count kind (length ws) width.0)
          (subst (λ x. AreWanted T own (own + 8) x) (sym (middle_wanted kind (length ws))) each.0)
          (subst (λ v. HasHeight (middle_kind kind) (suc y) v)
          (sym (ap (λ x. highest T (own + 8) x) (middle_wanted kind (length ws)) ∙ each.1)) (middle_high kind y))
          (middle_stands kind))
      whole_here o h le (WholeInject wg wt y type e word held) =
          let other = Fixed (inject_header (max y (height_in l type))) (wg ∷ wt ∷ []) in
          as_told o other e h le (λ h2 le2.
          let first = tells (own + 8) wg (omega (arith, even)) (omega (arith, le2, fits)) h2.1.0 in
          let second = tells (own + 8 + 8) wt (omega (arith, even)) (omega (arith, le2, fits)) h2.1.1.0 in
          let g = coercion_is wg y word in
          let k = type_held wt type held in
          let a = ap (coercion_height T) first ∙ g.1 in
          let b = ap (height_behind T) second ∙ k.1 in
          let lt = word_low wg y word in
          let tall = types.low type in
          here other InjectObject (max y (height_in l type)) 2 h2 le2 refl (omega (arith, lt, tall)) refl refl
          ((wg, first, g.0), ((wt, second, k.0), tt)) (omega (arith, a, b)) refl)
      whole_here o h le (WholeProject wt label wi y type e held word) =
          let other = Fixed (project_header (max (height_in l type) y)) (wt ∷ label ∷ wi ∷ []) in
          as_told o other e h le (λ h2 le2.
          let first = tells (own + 8) wt (omega (arith, even)) (omega (arith, le2, fits)) h2.1.0 in
          let second = tells (own + 8 + 8) label (omega (arith, even)) (omega (arith, le2, fits)) h2.1.1.0 in
          let third = tells (own + 8 + 8 + 8) wi (omega (arith, even)) (omega (arith, le2, fits)) h2.1.1.1.0 in
          let g = coercion_is wi y word in
          let k = type_held wt type held in
          let a = ap (coercion_height T) third ∙ g.1 in
          let b = ap (height_behind T) first ∙ k.1 in
          let lt = word_low wi y word in
          let tall = types.low type in
          here other ProjectObject (max (height_in l type) y) 3 h2 le2 refl (omega (arith, lt, tall)) refl refl
          ((wt, first, k.0), ((label, second, tt), ((wi, third, g.0), tt))) (omega (arith, a, b)) refl)
      whole_here o h le (WholeProxy wa wc kind y ws e solid there lower) =
          let other = Fixed proxy_header (wa ∷ wc ∷ []) in
          as_told o other e h le (λ h2 le2.
          let first = tells (own + 8) wa (omega (arith, even)) (omega (arith, le2, fits)) h2.1.0 in
          let second = tells (own + 8 + 8) wc (omega (arith, even)) (omega (arith, le2, fits)) h2.1.1.0 in
          let middle = Fixed (header (kind_number kind) y (length ws)) ws in
          here other Proxy 0 2 h2 le2 refl (omega arith) refl refl (
            (
              wa,
              first,
              address own wa is_target solid.kind 0 solid.count solid.object
                  (stands before os is wa solid.object solid.there) solid.head (omega arith)
                  (free_target solid.kind solid.free),
            ),
            (
              (
                wc,
                second,
                address own wc is_middle (middle_kind kind) y (length ws) middle
                    (stands before os is wc middle there) refl (omega (arith, lower, low)) (middle_is kind),
              ),
              tt,
            ),
          ) tt refl)
      whole_here o h le (WholeDyn wt wx type e held lower) =
          let other = Fixed dyn_header (wt ∷ wx ∷ []) in
          as_told o other e h le (λ h2 le2.
          here other Dyn 0 2 h2 le2 refl (omega arith) refl refl tt tt refl)
      whole_here o h le (WholeOther kind count e long free allowed) =
          here o kind 0 count h le e (omega arith) long allowed
          (subst (λ x. AreWanted T own (own + 8) x) (sym (free_wanted kind count free)) tt)
          (free_high kind (highest T (own + 8) (wanted_words kind count)) free) (free_stands kind free)

  size_even : (o : Object) → (n : ℕ) × (bytes_of o ≡ 8 * n)
  size_even (Fixed header words) = (1 + length words, omega arith)
  size_even (Cell header count) = (1 + count, omega arith)

  -- the objects from here on fill the range to the end
  fills : (before os : List Object) (is : objects ≡ before ++ os) → (l.region + bytes_of_all before) % 8 ≡ 0
      → Holds m (l.region + bytes_of_all before) os → Wholes l before os
      → (headers : List Header)
      × Fills T Region (l.region + bytes_of_all objects) (l.region + bytes_of_all before) headers
      (l.region + bytes_of_all objects)
  fills before [] is even h w =
      let all : bytes_of_all objects ≡ bytes_of_all (before ++ []) = ap bytes_of_all is in
      let same = ap bytes_of_all (append-nil before) in
      ([], omega (arith, all, same))
  fills before (o ∷ os) is even h w =
      let all : bytes_of_all objects ≡ bytes_of_all before + bytes_of_all (o ∷ os) =
      ap bytes_of_all is ∙ bytes_append before (o ∷ os) in
      let one = whole_here before (o ∷ os) is even o h.0 (omega (arith, all)) w.0 in
      let next : bytes_of_all (before ++ o ∷ []) ≡ bytes_of_all before + bytes_of_all (o ∷ []) =
      bytes_append before (o ∷ []) in
      let size = size_even o in
      let at : l.region + bytes_of_all before + bytes_of o ≡ l.region + bytes_of_all (before ++ o ∷ []) =
      omega (arith, next) in
      let rest =
      fills (before ++ o ∷ []) os (is ∙ sym (append_assoc before (o ∷ []) os)) (omega (arith, even, next, size.1))
      (subst (λ n. Holds m n os) at h.1) w.1 in
      let there : l.region + bytes_of_all (before ++ o ∷ []) ≡ l.region + bytes_of_all before + (8 + 8 * one.0.count) =
      sym at ∙ ap (λ n. l.region + bytes_of_all before + n) (sym one.2) in (
        one.0 ∷ rest.0,
        (
          one.1,
          subst (λ n. Fills T Region (l.region + bytes_of_all objects) n rest.0
              (l.region + bytes_of_all objects)) there rest.1,
        ),
      )

-- the region is filled by whole objects
pub objects_fill_the_region : (setting : Setting) (l : Layout) (objects : List Object) (h : Heap) → Placed setting l
    → TypesStand l → l.tallest ≤ 65534 → Filled setting l objects h → IsFilled setting.top h.memory l.region h.alloc
objects_fill_the_region setting l objects h placed types low f =
    let e : l.region + 0 ≡ l.region = omega arith in
    let all =
    fills setting l h.memory objects placed types low f.statics_stand f.objects_stand
    (subst (λ n. n ≤ setting.top) f.ends f.fits) [] objects refl
    (subst (λ n. n % 8 ≡ 0) (sym e) placed.even_region) (subst (λ n. Holds h.memory n objects) (sym e)
    f.objects_stand)
    f.whole in
    subst (λ n. IsFilled setting.top h.memory l.region n) (sym f.ends) (
      all.0,
      subst (λ n. Fills (telling setting.top h.memory) Region (l.region + bytes_of_all objects) n all.0
          (l.region + bytes_of_all objects)) e all.1,
    )
