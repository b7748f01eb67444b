-- Numbers behind tags: shifted there and back, and told apart from addresses.
use Rattle.std.proofs.Common.{◌≡◌, ◌⊎◌, inl, inr, ℕ, suc, ◌+◌, ◌-◌, ◌*◌, ◌/◌, ◌%◌, ◌^◌, ◌<◌, ◌≤◌, Bool, true, false}
use Rattle.std.proofs.Common.{Some, None, pos, negsuc, refl, sym, ap, ◌∙◌, subst, arith}
use Rattle.std.specs.Prelude.{◌==◌, nat_lt, if◌then◌else◌}
use Rattle.std.specs.Int.{w64}
use Rattle.std.proofs.lemmas.Bool.{cases_lt, le-ltb}
use Rattle.std.proofs.lemmas.Int.{to_z_pos}
use Rattle.std.proofs.lemmas.Nat.{and_mask}
use Rattle.machine_words.specs.Arithmetic.{signed_of}
use Rattle.grift_base.specs.Types.{TypeRow, IntRow, BoolRow, UnitRow, DynRow, FunRow, TupleRow, RefRow, VectRow}
use Rattle.grift_base.specs.Types.{same_head}
use Rattle.coercion_norm.specs.Coercions.{kind_of}
use Rattle.object_layout.specs.DynWords.{is_narrow, tagged}
use Rattle.low_ir.specs.Operations.{compute}
use Rattle.low_ir.specs.declared.code.WordOp.TheVariants.{And, Sll, Sra}
use Rattle.coercion_norm.specs.ObjectsOfRows.{type_kind}
use Rattle.rt_cast.specs.DynWords.{tag_of, behind_tag, small_dyn}
use Rattle.rt_cast.proofs.Objects.{none_some, same_some}

-- ---- shifts by three bits

shifted_up : (x : ℕ) → compute Sll x 3 ≡ x * 8 % 2 ^ 64
shifted_up x = refl

-- a word taken as signed, and what is left of it three bits further down
data Signed (n : ℕ) : Type 0 where
  Positive : n < 2 ^ 63 → compute Sra n 3 ≡ n / 8 → Signed n
  Negative : 2 ^ 63 ≤ n → compute Sra n 3 ≡ n / 8 + (2 ^ 64 - 2 ^ 61) → Signed n

signed : (n : ℕ) → n < 2 ^ 64 → Signed n
signed n fits = by (cases_lt n (2 ^ 63))
  where
    by : (n < 2 ^ 63) ⊎ (2 ^ 63 ≤ n) → Signed n
    by (inl l) =
        let is : signed_of n ≡ pos n = to_z_pos w64 n l in
        Positive l (rw is refl)
    by (inr g) =
        let is : signed_of n ≡ negsuc (2 ^ 64 - suc n) = rw (le-ltb n (2 ^ 63) g) refl in
        let below : compute Sra n 3 ≡ 2 ^ 64 - suc ((2 ^ 64 - suc n) / 8) = rw is refl in
        Negative g (below ∙ omega (arith, fits, g))

-- ---- narrow words

-- below 2^60, or not below 2^64 - 2^60
abbrev Narrow : ℕ → Type 0
Narrow x = (x < 2 ^ 60) ⊎ ((2 ^ 64 - 2 ^ 60 ≤ x) × (x < 2 ^ 64))

narrow_is : (x : ℕ) → is_narrow x ≡ true → Narrow x
narrow_is x e = by (cases_lt x (2 ^ 60))
  where
    by : (x < 2 ^ 60) ⊎ (2 ^ 60 ≤ x) → Narrow x
    by (inl l) = inl l
    by (inr g) = inr (grind (arith, e, g), grind (arith, e, g))

wide_is : (x : ℕ) → is_narrow x ≡ false → x < 2 ^ 64 → (2 ^ 60 ≤ x) × (x < 2 ^ 64 - 2 ^ 60)
wide_is x e fits = (grind (arith, e), grind (arith, e, fits))

-- a narrow word is found again behind a tag
pub untagged : (tag x : ℕ) → tag < 8 → is_narrow x ≡ true → compute Sra (tagged tag x) 3 ≡ x
untagged tag x t e = by (narrow_is x e) (signed (tagged tag x) (omega (arith, t)))
  where
    by : Narrow x → Signed (tagged tag x) → compute Sra (tagged tag x) 3 ≡ x
    by (inl l) (Positive s is) = is ∙ omega (arith, l, t)
    by (inl l) (Negative s is) = absurd (let z : ⊥ = omega (arith, l, t, s) in z)
    by (inr g) (Positive s is) = absurd (let z : ⊥ = omega (arith, g.0, g.1, t, s) in z)
    by (inr g) (Negative s is) = is ∙ omega (arith, g.0, g.1, t)

-- so it is where only shifts are made
pub narrow_back : (x : ℕ) → is_narrow x ≡ true → compute Sra (compute Sll x 3) 3 ≡ x
narrow_back x e =
    ap (λ y. compute Sra y 3) (shifted_up x ∙ (let z : x * 8 % 2 ^ 64 ≡ tagged 0 x = omega arith in z))
    ∙ untagged 0 x (omega arith) e

-- and no other word is
pub wide_differs : (x : ℕ) → is_narrow x ≡ false → x < 2 ^ 64 → (compute Sra (compute Sll x 3) 3 == x) ≡ false
wide_differs x e fits = by (signed (x * 8 % 2 ^ 64) (omega arith))
  where
    w : (2 ^ 60 ≤ x) × (x < 2 ^ 64 - 2 ^ 60)
    w = wide_is x e fits

    other : (y : ℕ) → compute Sra (compute Sll x 3) 3 ≡ y → (y ≡ x → ⊥)
        → (compute Sra (compute Sll x 3) 3 == x) ≡ false
    other y is never = grind (arith, is, never)

    by : Signed (x * 8 % 2 ^ 64) → (compute Sra (compute Sll x 3) 3 == x) ≡ false
    by (Positive s is) = other (x * 8 % 2 ^ 64 / 8) is (λ same. omega (arith, same, s, w.0, w.1))
    by (Negative s is) =
        other (x * 8 % 2 ^ 64 / 8 + (2 ^ 64 - 2 ^ 61)) is (λ same. omega (arith, same, s, w.0, w.1))

-- ---- tags

pub tag_read : (tag x : ℕ) → tag < 8 → compute And (tagged tag x) 7 ≡ tag
tag_read tag x t = and_mask (tagged tag x) 3 ∙ omega (arith, t)

-- an address of objects has the tag 0
pub no_tag : (at : ℕ) → at % 8 ≡ 0 → compute And at 7 ≡ 0
no_tag at e = and_mask at 3 ∙ omega (arith, e)

pub tagged_small : (tag x : ℕ) → tag < 8 → tagged tag x < 2 ^ 64
tagged_small tag x t = omega (arith, t)

-- a type without parts by its tag, or a type whose kind tells that it has none
pub data TagSight (row : TypeRow) : Type 0 where
  HasTag : (tag : ℕ) → tag_of row ≡ Some tag → type_kind row ≡ tag + 15 → 0 < tag → tag < 4 → TagSight row
  HasNone : tag_of row ≡ None → nat_lt (type_kind row) 19 ≡ false → TagSight row

pub tag_sight : (row : TypeRow) → TagSight row
tag_sight IntRow = HasTag 1 refl refl (omega arith) (omega arith)
tag_sight BoolRow = HasTag 2 refl refl (omega arith) (omega arith)
tag_sight UnitRow = HasTag 3 refl refl (omega arith) (omega arith)
tag_sight DynRow = HasNone refl refl
tag_sight (FunRow parameters answer) = HasNone refl refl
tag_sight (TupleRow parts) = HasNone refl refl
tag_sight (RefRow content) = HasNone refl refl
tag_sight (VectRow content) = HasNone refl refl

-- what a word in Dyn is that takes no object: a narrow word behind the tag of the type
pub record SmallIs (row : TypeRow) (x small : ℕ) : Type 0 where
  pub tag : ℕ
  pub has : tag_of row ≡ Some tag
  pub kind : type_kind row ≡ tag + 15
  pub some : 0 < tag
  pub few : tag < 4
  pub narrow : is_narrow x ≡ true
  pub is : small ≡ tagged tag x

pub small_is : (row : TypeRow) (x small : ℕ) → small_dyn row x ≡ Some small → SmallIs row x small
small_is row x small e = by (tag_sight row)
  where
    by_width : (tag : ℕ) → tag_of row ≡ Some tag → type_kind row ≡ tag + 15 → 0 < tag → tag < 4 → (b : Bool)
        → is_narrow x ≡ b → (if b then Some (tagged tag x) else None) ≡ Some small → SmallIs row x small
    by_width tag has kind some few true n f = record {
      tag = tag;
      has = has;
      kind = kind;
      some = some;
      few = few;
      narrow = n;
      is = sym (same_some (tagged tag x) small f);
    }
    by_width tag has kind some few false n f = none_some f

    by : TagSight row → SmallIs row x small
    by (HasTag tag has kind some few) =
        by_width tag has kind some few (is_narrow x) refl (sym (ap (λ o. behind_tag o x) has) ∙ e)
    by (HasNone none plain) = none_some (sym (ap (λ o. behind_tag o x) none) ∙ e)

pub small_fits : (row : TypeRow) (x small : ℕ) → small_dyn row x ≡ Some small → small < 2 ^ 64
small_fits row x small e =
    let s = small_is row x small e in
    subst (λ n. n < 2 ^ 64) (sym s.is) (tagged_small s.tag x (let f = s.few in omega (arith, f)))

-- what holds of the types without parts but Dyn holds of each type with a tag
pub each_tagged : (P : TypeRow → Type 0) → P IntRow → P BoolRow → P UnitRow → (row : TypeRow) {tag : ℕ}
    → tag_of row ≡ Some tag → P row
each_tagged P int bool unit IntRow e = int
each_tagged P int bool unit BoolRow e = bool
each_tagged P int bool unit UnitRow e = unit
each_tagged P int bool unit DynRow e = none_some e
each_tagged P int bool unit (FunRow ps a) e = none_some e
each_tagged P int bool unit (TupleRow ps) e = none_some e
each_tagged P int bool unit (RefRow c) e = none_some e
each_tagged P int bool unit (VectRow c) e = none_some e

pub tagged_has_no_kind : (row : TypeRow) (tag : ℕ) → tag_of row ≡ Some tag → kind_of row ≡ None
tagged_has_no_kind row tag e = each_tagged (λ row. kind_of row ≡ None) refl refl refl row e

-- a type without parts has the head of another just where their kinds are one
pub heads_by_kinds : (row other : TypeRow) (tag : ℕ) → tag_of row ≡ Some tag
    → same_head row other ≡ (type_kind row == type_kind other)
heads_by_kinds row other tag e =
    each_tagged (λ row. same_head row other ≡ (type_kind row == type_kind other)) (int other) (bool other) (unit other)
    row e
  where
    int : (other : TypeRow) → same_head IntRow other ≡ (type_kind IntRow == type_kind other)
    int IntRow = refl
    int _ = refl

    bool : (other : TypeRow) → same_head BoolRow other ≡ (type_kind BoolRow == type_kind other)
    bool BoolRow = refl
    bool _ = refl

    unit : (other : TypeRow) → same_head UnitRow other ≡ (type_kind UnitRow == type_kind other)
    unit UnitRow = refl
    unit _ = refl
