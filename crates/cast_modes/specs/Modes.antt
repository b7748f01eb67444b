-- What casts do to values, in a mode. A mode knows nothing of how values are made: of a value it sees its shape alone.
use Rattle.std.specs.Prelude.{ℕ, nat_eq, ℤ, Bool, ◌&&◌, not, if◌then◌else◌, List, [], ◌∷◌, Option, Some, None}
use Rattle.std.specs.Prelude.{option_map, slice_get}
use Rattle.grift_base.specs.Types.{TypeHead, equal_heads, head_of, TypeRow, FunRow, TypeRows, row_at, is_dyn, is_base}
use Rattle.grift_base.specs.Types.{same_head, tuple_part, content_of, dyn_place}

-- what is seen of a value whose casts are of type C: it is bare and has the head of its type, it is wrapped by a cast,
-- or it is in Dyn with the type that it keeps
pub data Shape (C : Type 0) : Type 0 where
  Bare : TypeHead → Shape C
  Wrapped : C → Shape C
  Injected : ℕ → Shape C

-- what a cast of a value comes to
pub data Decision (C : Type 0) : Type 0 where
  -- the value
  Keeping : Decision C
  -- the value wrapped by this cast
  Wrapping : C → Decision C
  -- the value inside the wrapper, wrapped by this cast in its place
  Rewrapping : C → Decision C
  -- the value inside the wrapper
  Unwrapping : Decision C
  -- the value in Dyn, which keeps this type
  Injecting : ℕ → Decision C
  -- this cast of what is in Dyn
  Opening : C → Decision C
  -- one cast and then another
  Making : C → C → Decision C
  -- this label is blamed
  Blaming : ℕ → Decision C
  -- none: the value isn't one of the type that the cast begins with
  NoCast : Decision C

-- what a part of a value in Dyn comes to
pub data DynPart (C : Type 0) : Type 0 where
  -- this cast of the part
  PartCast : C → DynPart C
  -- the kept type has no such part
  NoPart : DynPart C
  -- the kept type, or Dyn, is no type of the table
  NoType : DynPart C

-- what casts of type C do
pub record Mode (C : Type 0) : Type 0 where
  -- the cast of a number
  pub row : ℕ → Option C
  -- a cast of a value of a shape
  pub cast : C → Shape C → Decision C
  -- of a cast between functions: the casts of the arguments, and that of the result
  pub calling : C → Option (List C × C)
  -- of a cast between tuples: the cast of a part
  pub projecting : C → ℤ → Option C
  -- of a cast between boxes or vectors: the cast of what is read
  pub reading : C → Option C
  -- and that of what is written
  pub writing : C → Option C
  -- of a type that Dyn keeps, a part and a label: the part's cast to Dyn
  pub dyn_part : ℕ → ℤ → ℕ → DynPart C

-- goes on with what is there
abbrev pub and_some : {A B : Type 0} → Option A → (A → Option B) → Option B
and_some (Some a) go = go a
and_some None go = None

-- the decision that there is, if there is one
abbrev pub or_none : {C : Type 0} → Option (Decision C) → Decision C
or_none (Some decision) = decision
or_none None = NoCast

-- ---- casts that pile up, one by one

-- a cast by its types and its label
pub record TypeCast : Type 0 where
  pub from : ℕ
  pub label : ℕ
  pub to : ℕ

-- the cast from a type, under a label, to a type
abbrev pub type_cast : ℕ → ℕ → ℕ → TypeCast
type_cast from label to = record { from = from; label = label; to = to }

-- a cast out of Dyn: what is there is cast from the type that it keeps
abbrev pub opening : Shape TypeCast → TypeCast → Decision TypeCast
opening (Injected kept) cast = Opening (type_cast kept cast.label cast.to)
opening _ cast = NoCast

-- the first case that fits
abbrev pub decide : TypeRow → TypeRow → TypeCast → Shape TypeCast → Decision TypeCast
decide row other cast shape =
    if is_dyn row && is_dyn other then Keeping
    else if is_dyn other then Injecting cast.from
    else if is_dyn row then opening shape cast
    else if not (same_head row other) then Blaming cast.label
    else if is_base row then Keeping
    else Wrapping cast

-- whether a value of this shape can have the type that the cast begins with, which has this row: a bare value by its
-- head, a wrapped one by the type at which its cast ends, so that the casts of wrappers are a path
abbrev pub fits : TypeRow → TypeCast → Shape TypeCast → Bool
fits row cast (Bare head) = equal_heads head (head_of row)
fits row cast (Wrapped old) = nat_eq old.to cast.from
fits row cast (Injected kept) = is_dyn row

-- the case, where the value can have that type
abbrev pub decide_fitting : TypeRow → TypeRow → TypeCast → Shape TypeCast → Decision TypeCast
decide_fitting row other cast shape = if fits row cast shape then decide row other cast shape else NoCast

-- of two lists of types: the casts from the one to the other, type by type; none where their numbers differ
abbrev pub casts_between : List ℕ → List ℕ → ℕ → Option (List TypeCast)
casts_between [] [] label = Some []
casts_between (from ∷ froms) (to ∷ tos) label =
    option_map (λ casts. type_cast from label to ∷ casts) (casts_between froms tos label)
casts_between _ _ label = None

-- the casts of a call: the arguments are cast to what the function takes, and its answer to what is wanted
abbrev pub function_casts : TypeRow → TypeRow → ℕ → Option (List TypeCast × TypeCast)
function_casts (FunRow parameters answer) (FunRow wanted_parameters wanted) label =
    option_map (λ casts. (casts, type_cast answer label wanted)) (casts_between wanted_parameters parameters label)
function_casts _ _ label = None

-- the rows of both types
abbrev pub of_both : {B : Type 0} → TypeRows → ℕ → ℕ → (TypeRow → TypeRow → Option B) → Option B
of_both types from to go = and_some (row_at types from) (λ row. and_some (row_at types to) (λ other. go row other))

-- the types of a part of both types of a cast
abbrev pub of_parts : TypeRows → (TypeRow → Option ℕ) → TypeCast → (ℕ → ℕ → TypeCast) → Option TypeCast
of_parts types part cast go =
    of_both types cast.from cast.to (λ row other. and_some (part row)
    (λ inner. and_some (part other) (λ outer. Some (go inner outer))))

-- a part's cast to Dyn, by how a cast is made
module _ {C : Type 0} (make : ℕ → ℕ → ℕ → C) where
  abbrev pub cast_to_dyn : Option ℕ → ℕ → ℕ → DynPart C
  cast_to_dyn (Some dyn) part label = PartCast (make part label dyn)
  cast_to_dyn None part label = NoType

  abbrev pub part_to_dyn : TypeRows → Option ℕ → ℕ → DynPart C
  part_to_dyn types None label = NoPart
  part_to_dyn types (Some part) label = cast_to_dyn (dyn_place types) part label

  abbrev pub kept_part : TypeRows → Option TypeRow → ℤ → ℕ → DynPart C
  kept_part types (Some row) k label = part_to_dyn types (tuple_part row k) label
  kept_part types None k label = NoType

-- the piled mode: each cast is made by its types and its label, and wrappers are used one by one
abbrev pub piling : TypeRows → List TypeCast → Mode TypeCast
piling types casts = record {
  row = λ number. slice_get casts number;
  cast =
      λ cast shape. or_none (of_both types cast.from cast.to (λ row other.
      Some (decide_fitting row other cast shape)));
  calling = λ cast. of_both types cast.from cast.to (λ row other. function_casts row other cast.label);
  projecting =
      λ cast k. of_parts types (λ row. tuple_part row k) cast (λ inner outer. type_cast inner cast.label outer);
  reading = λ cast. of_parts types content_of cast (λ inner outer. type_cast inner cast.label outer);
  writing = λ cast. of_parts types content_of cast (λ inner outer. type_cast outer cast.label inner);
  dyn_part = λ kept k label. kept_part type_cast types (row_at types kept) k label;
}
