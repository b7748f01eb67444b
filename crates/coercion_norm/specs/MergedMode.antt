-- The merged mode: a cast applies the coercion of its row, and a value has at most one proxy.
use Rattle.std.specs.Prelude.{ℕ, zero, suc, ℤ, pos, Bool, false, if◌then◌else◌, List, [], ◌∷◌, Option}
use Rattle.std.specs.Prelude.{option_map, Some, None, slice_get}
use Rattle.grift_base.specs.Types.{TypeHead, IntHead, FunHead, TupleHead, RefHead, VectHead, DynHead, equal_heads}
use Rattle.grift_base.specs.Types.{head_of, TypeRows, row_at}
use Rattle.coercion_norm.specs.Coercions.{Kind, FunKind, TupKind, RefKind, VecKind, Coercion, Coercions, Id, Fail}
use Rattle.coercion_norm.specs.Coercions.{Middle, Inject, Project, NoCoercions, CoercionThen, is_id, rows_of}
use Rattle.coercion_norm.specs.CoercionTables.{cast_of, composition_of}
use Rattle.cast_modes.specs.Modes.{Shape, Bare, Wrapped, Injected, Decision, Keeping, Wrapping, Rewrapping}
use Rattle.cast_modes.specs.Modes.{Unwrapping, Injecting, Opening, Making, Blaming, NoCast, Mode, TypeCast}
use Rattle.cast_modes.specs.Modes.{kept_part}

-- ---- parts of a coercion

-- how many there are
abbrev pub width : Coercions → ℕ
width NoCoercions = 0
width (CoercionThen c rest) = suc (width rest)

-- the one at a place
abbrev pub part_at : Coercions → ℕ → Option Coercion
part_at NoCoercions k = None
part_at (CoercionThen c rest) zero = Some c
part_at (CoercionThen c rest) (suc k) = part_at rest k

-- the parts of a function's coercion: the arguments, and the result, which stands last
abbrev pub split_parts : Coercions → Option (List Coercion × Coercion)
split_parts NoCoercions = None
split_parts (CoercionThen c NoCoercions) = Some ([], c)
split_parts (CoercionThen c (CoercionThen d rest)) =
    option_map (λ parts. (c ∷ parts.0, parts.1)) (split_parts (CoercionThen d rest))

-- the casts of the arguments and of the result, where it is one between functions
abbrev pub function_parts : Coercion → Option (List Coercion × Coercion)
function_parts (Middle FunKind parts) = split_parts parts
function_parts _ = None

-- the cast of a part, where it is one between tuples
abbrev pub tuple_coercion : Coercion → ℤ → Option Coercion
tuple_coercion (Middle TupKind parts) (pos k) = part_at parts k
tuple_coercion _ k = None

-- of what is read, at place 0, or written, at place 1
abbrev pub cell_coercion : ℕ → Coercion → Option Coercion
cell_coercion k (Middle RefKind parts) = part_at parts k
cell_coercion k (Middle VecKind parts) = part_at parts k
cell_coercion k _ = None

-- ---- heads

-- the head of a function type with so many parts, its result among them; with none it is no function's
abbrev pub function_head : ℕ → TypeHead
function_head zero = IntHead
function_head (suc n) = FunHead n

-- the head of the types between which a middle of this constructor and so many parts goes
abbrev pub middle_head : Kind → ℕ → TypeHead
middle_head FunKind n = function_head n
middle_head TupKind n = TupleHead n
middle_head RefKind n = RefHead
middle_head VecKind n = VectHead

-- the head of what a proxy with this coercion wraps, if it can be a proxy's
abbrev pub proxy_head : Coercion → Option TypeHead
proxy_head (Middle kind parts) = Some (middle_head kind (width parts))
proxy_head _ = None

-- whether there is a head, which is this one
abbrev pub is_head : Option TypeHead → TypeHead → Bool
is_head (Some head) other = equal_heads head other
is_head None other = false

-- whether a value of this shape has this head
abbrev pub shape_has_head : Shape Coercion → TypeHead → Bool
shape_has_head (Bare head) other = equal_heads head other
shape_has_head (Wrapped c) other = is_head (proxy_head c) other
shape_has_head (Injected kept) other = equal_heads DynHead other

-- ---- coercions applied

-- a proxy whose coercion has become this; Id needs none
abbrev pub rewrapped : Coercion → Decision Coercion
rewrapped Id = Unwrapping
rewrapped c = Rewrapping c

-- over the coercion of a cast, by from, to and label, and over composition
module _ (coerce : ℕ → ℕ → ℕ → Coercion) (compose : Coercion → Coercion → Coercion) (types : TypeRows) where
  -- a middle: a bare value gets a proxy, and a proxy one coercion in place of two
  abbrev pub proxied : Coercion → Shape Coercion → Decision Coercion
  proxied c (Bare head) = Wrapping c
  proxied c (Wrapped old) = rewrapped (compose old c)
  proxied c (Injected kept) = NoCast

  -- what a coercion makes of a value. Id and Fail look at no value; every other makes nothing of a value without the
  -- head of the type that it begins with
  abbrev pub applied : Coercion → Shape Coercion → Decision Coercion
  applied Id shape = Keeping
  applied (Fail label) shape = Blaming label
  applied (Middle kind parts) shape =
      if shape_has_head shape (middle_head kind (width parts)) then proxied (Middle kind parts) shape else NoCast
  applied (Inject g kept) shape =
      if is_id g then (if shape_has_head shape (head_of (rows_of types kept)) then Injecting kept else NoCast)
      else Making g (Inject Id kept)
  applied (Project wanted label i) (Injected kept) = Opening (compose (coerce kept wanted label) i)
  applied (Project wanted label i) shape = NoCast

  -- the mode in which casts apply coercions
  abbrev pub merging_by : List TypeCast → Mode Coercion
  merging_by casts = record {
    row = λ number. option_map (λ cast. coerce cast.from cast.to cast.label) (slice_get casts number);
    cast = applied;
    calling = function_parts;
    projecting = tuple_coercion;
    reading = cell_coercion 0;
    writing = cell_coercion 1;
    dyn_part = λ kept k label. kept_part (λ from p to. coerce from to p) types (row_at types kept) k label;
  }

-- the merged mode: each cast has the coercion of its types and its label
abbrev pub merging : TypeRows → List TypeCast → Mode Coercion
merging types casts = merging_by (cast_of types) (composition_of types) types casts
