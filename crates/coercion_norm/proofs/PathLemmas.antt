-- Paths: ends, joints, turns.
use Rattle.std.proofs.Common.{◌≡◌, ℕ, suc, Bool, true, false, cond, Option, Some, None, refl, sym, ap, ◌∙◌, List, []}
use Rattle.std.proofs.Common.{◌∷◌, ◌++◌, length, length-append, arith}
use Rattle.std.proofs.lemmas.Bool.{eqb-true}
use Rattle.grift_base.specs.Types.{TypeRow, IntRow, BoolRow, UnitRow, DynRow, FunRow}
use Rattle.grift_base.specs.Types.{TypeHead, IntHead, BoolHead, UnitHead, DynHead, FunHead, TupleHead, RefHead}
use Rattle.grift_base.specs.Types.{VectHead, equal_heads, is_dyn, same_head, head_of}
use Rattle.grift_base.proofs.Public.{each_row}
use Rattle.coercion_norm.specs.Coercions.{Kind, FunKind, TupKind, RefKind, VecKind, kind_of, slots_of}
use Rattle.coercion_norm.specs.Paths.{Steps, Stop, Edge, last_type, joined, turned, along, in_front, solid, first_clash}

pub last-joined : (type : ℕ) (l m : Steps) → last_type type (joined l m) ≡ last_type (last_type type l) m
last-joined type Stop m = refl
last-joined type (Edge label next l) m = last-joined next l m

pub turned-joined : (type : ℕ) (l m others : Steps) →
    turned type (joined l m) others ≡ turned (last_type type l) m (turned type l others)
turned-joined type Stop m others = refl
turned-joined type (Edge label next l) m others = turned-joined next l m (Edge label type others)

pub joined-turned : (type : ℕ) (l others more : Steps) →
    joined (turned type l others) more ≡ turned type l (joined others more)
joined-turned type Stop others more = refl
joined-turned type (Edge label next l) others more = joined-turned next l (Edge label type others) more

pub last-turned : (type : ℕ) (l others : Steps) → last_type (last_type type l) (turned type l others) ≡
    last_type type others
last-turned type Stop others = refl
last-turned type (Edge label next l) others = last-turned next l (Edge label type others)

pub last-along : (part : ℕ → ℕ) (type : ℕ) (l : Steps) → last_type (part type) (along part l) ≡ part (last_type type l)
last-along part type Stop = refl
last-along part type (Edge label next l) = last-along part next l

pub along-joined : (part : ℕ → ℕ) (l m : Steps) → along part (joined l m) ≡ joined (along part l) (along part m)
along-joined part Stop m = refl
along-joined part (Edge label next l) m = ap (Edge label (part next)) (along-joined part l m)

pub joined_joined : (l m others : Steps) → joined (joined l m) others ≡ joined l (joined m others)
joined_joined Stop m others = refl
joined_joined (Edge label next l) m others = ap (Edge label next) (joined_joined l m others)

pub joined-Stop : (l : Steps) → joined l Stop ≡ l
joined-Stop Stop = refl
joined-Stop (Edge label next l) = ap (Edge label next) (joined-Stop l)

-- ---- truth values

pub no_both : {A : Type 0} → (b : Bool) → b ≡ true → b ≡ false → A
no_both true e h = absurd (cc h)
no_both false e h = absurd (cc e)

-- ---- heads

pub heads_exact : (h g : TypeHead) → equal_heads h g ≡ true → h ≡ g
heads_exact (FunHead m) (FunHead n) e = ap FunHead (eqb-true m n e)
heads_exact (TupleHead m) (TupleHead n) e = ap TupleHead (eqb-true m n e)
heads_exact IntHead IntHead e = refl
heads_exact BoolHead BoolHead e = refl
heads_exact UnitHead UnitHead e = refl
heads_exact DynHead DynHead e = refl
heads_exact RefHead RefHead e = refl
heads_exact VectHead VectHead e = refl
heads_exact _ _ e = absurd (cc e)

kind_by_head : TypeHead → Option Kind
kind_by_head IntHead = None
kind_by_head BoolHead = None
kind_by_head UnitHead = None
kind_by_head DynHead = None
kind_by_head (FunHead n) = Some FunKind
kind_by_head (TupleHead n) = Some TupKind
kind_by_head RefHead = Some RefKind
kind_by_head VectHead = Some VecKind

width_by_head : TypeHead → ℕ
width_by_head IntHead = 0
width_by_head BoolHead = 0
width_by_head UnitHead = 0
width_by_head DynHead = 0
width_by_head (FunHead n) = suc n
width_by_head (TupleHead n) = n
width_by_head RefHead = 2
width_by_head VectHead = 2

kind_is : (row : TypeRow) → kind_of row ≡ kind_by_head (head_of row)
unfolding kind_by_head
kind_is = each_row (λ row. kind_of row ≡ kind_by_head (head_of row))
    refl refl refl refl (λ _ _. refl) (λ _. refl) (λ _. refl) (λ _. refl)

one_more : (ps : List ℕ) (a : ℕ) → length (ps ++ a ∷ []) ≡ suc (length ps)
one_more ps a = length-append ps (a ∷ []) ∙ omega arith

width_is : (row : TypeRow) → length (slots_of row) ≡ width_by_head (head_of row)
unfolding width_by_head
width_is IntRow = refl
width_is BoolRow = refl
width_is UnitRow = refl
width_is DynRow = refl
width_is (FunRow parameters answer) = one_more parameters answer
width_is _ = refl

pub same_kinds : (row other : TypeRow) → head_of row ≡ head_of other → kind_of row ≡ kind_of other
same_kinds row other e = kind_is row ∙ ap kind_by_head e ∙ sym (kind_is other)

pub same_widths : (row other : TypeRow) → head_of row ≡ head_of other → length (slots_of row) ≡ length (slots_of other)
same_widths row other e = width_is row ∙ ap width_by_head e ∙ sym (width_is other)

-- ---- paths without Dyn

front-joined : (b : Bool) (label next : ℕ) (l m : Steps) →
    in_front b label next (joined l m) ≡ joined (in_front b label next l) m
front-joined true label next l m = refl
front-joined false label next l m = refl

cond_some : (b : Bool) (x y : Option ℕ) (q p : ℕ) → (x ≡ Some p → y ≡ Some p) → cond b x (Some q) ≡ Some p →
    cond b y (Some q) ≡ Some p
cond_some true x y q p f e = f e
cond_some false x y q p f e = e

cond_none : (b : Bool) (x y z : Option ℕ) (q : ℕ) → (x ≡ None → y ≡ z) → cond b x (Some q) ≡ None →
    cond b y (Some q) ≡ z
cond_none true x y z q f e = f e
cond_none false x y z q f e = absurd (cc e)

heads_on : (h g : TypeHead) (b : Bool) (x : Option ℕ) (q : ℕ) {A : Type 0} → equal_heads h g ≡ b →
    (h ≡ g → x ≡ None → A) → cond b x (Some q) ≡ None → A
heads_on h g true x q s f e = f (heads_exact h g s) e
heads_on h g false x q s f e = absurd (cc e)

-- steps without Dyn lead to the type, or there are none
abbrev pub Reaches : Bool → Steps → ℕ → ℕ → Type 0
Reaches true Stop type reached = ⊥
Reaches true (Edge label next steps) type reached = last_type next steps ≡ reached
Reaches false steps type reached = last_type type steps ≡ reached

moved : (c b : Bool) (s : Steps) (label next type reached : ℕ) → Reaches c s next reached →
    Reaches b (in_front c label next s) type reached
moved true b Stop label next type reached h = absurd h
moved true true (Edge p v s) label next type reached h = h
moved true false (Edge p v s) label next type reached h = h
moved false true s label next type reached h = h
moved false false s label next type reached h = h

module _ (rows : ℕ → TypeRow) where
  pub solid-joined : (l m : Steps) → solid rows (joined l m) ≡ joined (solid rows l) (solid rows m)
  solid-joined Stop m = refl
  solid-joined (Edge label next l) m =
      ap (in_front (is_dyn (rows next)) label next) (solid-joined l m) ∙ front-joined (is_dyn (rows next)) label next
      (solid rows l) (solid rows m)

  pub clash-some : (type : ℕ) (l m : Steps) (p : ℕ) → first_clash rows type l ≡ Some p →
      first_clash rows type (joined l m) ≡ Some p
  clash-some type Stop m p e = absurd (cc e)
  clash-some type (Edge label next l) m p e =
      cond_some (same_head (rows type) (rows next)) (first_clash rows next l)
      (first_clash rows next (joined l m)) label p (clash-some next l m p) e

  pub clash-none : (type : ℕ) (l m : Steps) → first_clash rows type l ≡ None →
      first_clash rows type (joined l m) ≡ first_clash rows (last_type type l) m
  clash-none type Stop m e = refl
  clash-none type (Edge label next l) m e =
      cond_none (same_head (rows type) (rows next)) (first_clash rows next l) (first_clash rows next (joined l m))
      (first_clash rows (last_type next l) m) label (clash-none next l m) e

  pub one_head : (type : ℕ) (l : Steps) → first_clash rows type l ≡ None →
      head_of (rows type) ≡ head_of (rows (last_type type l))
  one_head type Stop e = refl
  one_head type (Edge label next l) e =
      heads_on (head_of (rows type)) (head_of (rows next)) (same_head (rows type) (rows next))
      (first_clash rows next l) label refl (λ h n. h ∙ one_head next l n) e

  pub reaches : (type : ℕ) (l : Steps) (b : Bool) → is_dyn (rows type) ≡ b → is_dyn (rows (last_type type l)) ≡ false →
      Reaches b (solid rows l) type (last_type type l)
  reaches type Stop true e h = no_both (is_dyn (rows type)) e h
  reaches type Stop false e h = refl
  reaches type (Edge label next l) b e h =
      moved (is_dyn (rows next)) b (solid rows l) label next type (last_type next l)
      (reaches next l (is_dyn (rows next)) refl h)
