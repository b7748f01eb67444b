-- The type of a term is a row of the table.
use Rattle.std.proofs.Common.{◌≡◌, ◌<◌, ◌⊎◌, inl, inr, ⊎_elim, ℕ, pos, negsuc, ℤ, Bool, true, false, List, []}
use Rattle.std.proofs.Common.{◌∷◌, ◌++◌, length, Option, Some, refl, sym, subst}
use Rattle.std.specs.Prelude.{cond, slice_get, nat_eq, All}
use Rattle.std.proofs.lemmas.Option.{slice_get_within, get_or_from_slice_get}
use Rattle.grift_base.specs.Types.{TypeRow, TypeRows, row_at, parts_of, FunRow, TupleRow, RefRow, VectRow, tuple_part}
use Rattle.grift_base.specs.declared.operators.PrimOp.{PrimOp}
use Rattle.grift_base.specs.declared.operators.PrimOp.TheVariants.{Add, Sub, Mul, Quot, Rem, Lt, Le, Eq, Ge, Gt, Not}
use Rattle.grift_base.specs.declared.operators.PrimOp.TheVariants.{PrintInt, Newline, ReadInt, MakeBox, Unbox, BoxSet}
use Rattle.grift_base.specs.declared.operators.PrimOp.TheVariants.{MakeVector, VectorRef, VectorSet, VectorLength}
use Rattle.core_calc.specs.Terms.{Term, Terms, Members, Bindings, IntLit, BoolLit, UnitLit, Var, Lambda, Group, Let}
use Rattle.core_calc.specs.Terms.{Call}
use Rattle.core_calc.specs.Terms.{Enter, If, Seq, Cast, Proj, ProjDyn, Tuple, Prim, ValueTerm, NoTerms, TermThen}
use Rattle.core_calc.specs.Terms.{NoMembers, MemberThen, NoBindings, BindingThen}
use Rattle.core_calc.specs.Substitution.{entry_of}
use Rattle.core_calc.specs.Typing.{IsTypeTable, Context, HasType, LastHasType, MembersHaveTypes, BindingsHaveTypes}
use Rattle.core_calc.specs.Typing.{OperatorHasType, ProgramTermHasType, IsWritten, AreWritten}
use Rattle.core_calc.specs.Typing.{AreWrittenBindings, member_types}

last_get : (parameters : List ℕ) (answer : ℕ) → slice_get (parameters ++ answer ∷ []) (length parameters) ≡ Some answer
last_get [] answer = refl
last_get (p ∷ parameters) answer = last_get parameters answer

-- an entry of a name is the first one's or a later one's
entry_or_later : (first : Bool) (type answer : ℕ) (later : Option ℕ) → cond first (Some type) later ≡ Some answer
    → (type ≡ answer) ⊎ (later ≡ Some answer)
entry_or_later true type answer later e = inl (let same : type ≡ answer = cc in same)
entry_or_later false type answer later e = inr e

module _ (types : TypeRows) (table : IsTypeTable types) where
  there : (type : ℕ) (row : TypeRow) → row_at types type ≡ Some row → type < length types
  there type row e = slice_get_within types type row e

  part_there : (type : ℕ) (row : TypeRow) → row_at types type ≡ Some row → (k part : ℕ)
      → slice_get (parts_of row) k ≡ Some part → part < length types
  part_there type row e k part f =
      let all = table.closed type row (slice_get_within types type row e) in
      let all' = subst (λ r. All (λ part. part < length types) (parts_of r))
      (get_or_from_slice_get types type row row e) all in
      let one = all' k part (slice_get_within (parts_of row) k part f) in
      subst (λ p. p < length types) (get_or_from_slice_get (parts_of row) k part part f) one

  answer_there : (type : ℕ) (parameters : List ℕ) (answer : ℕ) → row_at types type ≡ Some (FunRow parameters answer)
      → answer < length types
  answer_there type parameters answer e =
      part_there type (FunRow parameters answer) e (length parameters) answer (last_get parameters answer)

  tuple_part_there : (type : ℕ) (parts : List ℕ) (k : ℤ) (part : ℕ) → row_at types type ≡ Some (TupleRow parts)
      → tuple_part (TupleRow parts) k ≡ Some part → part < length types
  tuple_part_there type parts (pos k) part e f = part_there type (TupleRow parts) e k part f
  tuple_part_there type parts (negsuc k) part e f = absurd (let z : ⊥ = cc in z)

  operator_there : (operator : PrimOp) (operands : List ℕ) (type : ℕ) → OperatorHasType types operator operands type
      → type < length types
  operator_there Add operands type h = there type _ h.1
  operator_there Sub operands type h = there type _ h.1
  operator_there Mul operands type h = there type _ h.1
  operator_there Quot operands type h = there type _ h.1
  operator_there Rem operands type h = there type _ h.1
  operator_there Lt operands type h = there type _ h.1
  operator_there Le operands type h = there type _ h.1
  operator_there Eq operands type h = there type _ h.1
  operator_there Ge operands type h = there type _ h.1
  operator_there Gt operands type h = there type _ h.1
  operator_there Not operands type h = there type _ h.1
  operator_there PrintInt operands type h = there type _ h.1
  operator_there Newline operands type h = there type _ h.1
  operator_there ReadInt operands type h = there type _ h.1
  operator_there MakeBox operands type h = there type _ h.2
  operator_there Unbox operands type h = part_there h.0 (RefRow type) h.2 0 type refl
  operator_there BoxSet operands type h = there type _ h.4
  operator_there MakeVector operands type h = there type _ h.4
  operator_there VectorRef operands type h = part_there h.0 (VectRow type) h.3 0 type refl
  operator_there VectorSet operands type h = there type _ h.6
  operator_there VectorLength operands type h = there type _ h.2

  -- names with types that are there
  abbrev AreThere : Context → Type 0
  AreThere context = (name type : ℕ) → entry_of name context ≡ Some type → type < length types

  more_there : (type : ℕ) (name : ℕ) (context : Context) → type < length types → AreThere context
      → AreThere ((name, type) ∷ context)
  more_there type name context below rest other found e =
      ⊎_elim (λ same. subst (λ t. t < length types) same below) (λ later. rest other found later)
      (entry_or_later (nat_eq other name) type found (entry_of other context) e)

  module _ (labels : ℕ) where
    members_there : (context all : Context) (members : Members) → MembersHaveTypes types labels [] all members
        → AreThere context → AreThere (member_types members ++ context)
    members_there context all NoMembers h rest = rest
    members_there context all (MemberThen name parameters body type members) h rest =
        more_there type name (member_types members ++ context) (there type _ h.0.3)
        (members_there context all members h.1 rest)

    mutual
      type_there : (term : Term) (context : Context) (type : ℕ) → IsWritten term → AreThere context
          → HasType types labels [] context term type → type < length types
      type_there (IntLit n) context type w names h = there type _ h.1
      type_there (BoolLit b) context type w names h = there type _ h
      type_there UnitLit context type w names h = there type _ h
      type_there (Var name) context type w names h = names name type h
      type_there (Lambda parameters body written) context type w names h = there type _ h.1.3
      type_there (Group members body) context type w names h =
          type_there body (member_types members ++ context) type w.1
          (members_there context (member_types members ++ context) members h.0 names) h.1
      type_there (Let bindings body) context type w names h =
          type_there body (h.0 ++ context) type w.1 (bindings_there bindings context h.0 w.0 names h.1) h.2
      type_there (Call function arguments) context type w names h = answer_there h.0 h.1 type h.3
      type_there (Enter function arguments) context type w names h = absurd w
      type_there (If condition on_true on_false) context type w names h =
          type_there on_true context type w.1 names h.3
      type_there (Seq terms) context type w names h = last_there terms context type w names h
      type_there (Cast term from to label) context type w names h = there type h.2.0 h.2.1
      type_there (Proj term k) context type w names h = tuple_part_there h.0 h.1 k type h.3 h.4
      type_there (ProjDyn term k label) context type w names h = there type _ h.1
      type_there (Tuple terms) context type w names h = there type _ h.2
      type_there (Prim operator operands) context type w names h = operator_there operator h.0 type h.2
      type_there (ValueTerm v) context type w names h = absurd w

      last_there : (terms : Terms) (context : Context) (type : ℕ) → AreWritten terms → AreThere context
          → LastHasType types labels [] context terms type → type < length types
      last_there NoTerms context type w names h = absurd h
      last_there (TermThen term NoTerms) context type w names h = type_there term context type w.0 names h
      last_there (TermThen term (TermThen second rest)) context type w names h =
          last_there (TermThen second rest) context type w.1 names h.1

      bindings_there : (bindings : Bindings) (context bound : Context) → AreWrittenBindings bindings → AreThere context
          → BindingsHaveTypes types labels [] context bindings bound → AreThere (bound ++ context)
      bindings_there NoBindings context bound w names h = subst (λ b. AreThere (b ++ context)) (sym h) names
      bindings_there (BindingThen name term rest) context bound w names h =
          subst (λ b. AreThere (b ++ context)) (sym h.2)
          (more_there h.0 name (h.1 ++ context) (type_there term context h.0 w.0 names h.3)
          (bindings_there rest context h.1 w.1 names h.4))

-- the type of a program term is there
pub program_type_there : (types : TypeRows) (labels : ℕ) (term : Term) (type : ℕ)
    → ProgramTermHasType types labels term type → type < length types
program_type_there types labels term type h =
    type_there types h.0 labels term [] type h.1 (λ name found e. absurd (let z : ⊥ = cc in z)) h.3
