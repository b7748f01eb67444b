-- An environment fits a context: each name's variable has its type there.
use Rattle.std.proofs.Common.{◌≡◌, ℕ, suc, ◌<◌, ◌≤◌, Bool, true, false, List, [], ◌∷◌, ◌++◌, length, Option, Some, None}
use Rattle.std.proofs.Common.{refl, sym, ap, ◌∙◌, subst, arith}
use Rattle.std.specs.Prelude.{cond}
use Rattle.std.proofs.lemmas.Bool.{eq-eqb, ne_eqb}
use Rattle.grift_base.specs.declared.places.Pos.{Pos}
use Rattle.grift_base.specs.Types.{TypeRows, DynRow}
use Rattle.core_calc.specs.Terms.{both_in_front}
use Rattle.core_calc.specs.Substitution.{entry_of, bind}
use Rattle.core_calc.specs.Typing.{Context}
use Rattle.cast_rules.proofs.Tables.{IsFormedTable, AreRows}
use Rattle.type_graph.proofs.Public.{none_is_not_some, same_some, same_rows, later_within}
use Rattle.surface_trees.specs.declared.names.Ident.{Ident}
use Rattle.cast_rules.specs.Sources.{equal_idents}
use Rattle.surface_trees.specs.Trees.{Param, TypeExpr}
use Rattle.type_graph.specs.Forming.{intern}
use Rattle.cast_rules.specs.Making.{Work, form}
use Rattle.cast_rules.specs.Environments.{Meaning, Environment, meaning_of, variables, types_of, type_or_dyn}
use Rattle.cast_rules.specs.Environments.{with_names, parameter_types, bind_names}
use Rattle.type_graph.specs.TypeTables.{HasMoreRows}
use Rattle.cast_rules.proofs.Forming.{no_rows, rows_then, row_within, head_row, tail_rows}
use Rattle.cast_rules.specs.Programs.{MayBeWritten, AreSourceParams}
use Rattle.cast_rules.proofs.Fresh.{AreFresh, no_names, one_name, append_names, widen_names}
use Rattle.cast_rules.proofs.Works.{Keeps, then_keeps, keeps_more, Grown, not_grown, grown_on, FormsType, FormsRow}
use Rattle.cast_rules.proofs.Works.{row_formed, written_formed, MayHaveRow, may_later}

-- ---- fits

-- the variable has its type, is below the next one, and its types have rows
pub record MeaningFits (types : TypeRows) (next : ℕ) (context : Context) (meaning : Meaning) : Type 0 where
  pub entry : entry_of meaning.variable context ≡ Some meaning.type
  pub below : meaning.variable < next
  pub row : meaning.type < length types
  pub wanted : MayHaveRow types meaning.written

abbrev pub Fits : TypeRows → ℕ → Context → Environment → Type 0
Fits types next context [] = Unit {0}
Fits types next context (entry ∷ rest) = MeaningFits types next context entry.1 × Fits types next context rest

pub fits_later : (types others : TypeRows) (next later : ℕ) (context : Context) (environment : Environment) →
    HasMoreRows types others → next ≤ later → Fits types next context environment → Fits others later context
    environment
fits_later types others next later context [] more within h = tt
fits_later types others next later context (entry ∷ rest) more within h =
    let m = h.0 in (
      record {
        entry = m.entry;
        below = (let b = m.below in omega arith);
        row = later_within types others entry.1.type more m.row;
        wanted = may_later types others entry.1.written more m.wanted;
      },
      fits_later types others next later context rest more within h.1,
    )

pub found_fits : (types : TypeRows) (next : ℕ) (context : Context) (name : Ident) (environment : Environment) (meaning
    : Meaning) → Fits types next context environment → meaning_of name environment ≡ Some meaning → MeaningFits types
    next context meaning
found_fits types next context name [] meaning h e = absurd (none_is_not_some meaning e)
found_fits types next context name (entry ∷ rest) meaning h e = one (equal_idents name entry.0) (meaning_of name rest)
    (λ f. found_fits types next context name rest meaning h.1 f) e
  where
    one : (b : Bool) (o : Option Meaning) → (o ≡ Some meaning → MeaningFits types next context meaning) → cond b (Some
        entry.1) o ≡ Some meaning → MeaningFits types next context meaning
    one true o later e = subst (λ m. MeaningFits types next context m) (same_some entry.1 meaning e) h.0
    one false o later e = later e

-- ---- new names

abbrev pub context_of : Environment → Context
context_of [] = []
context_of (entry ∷ rest) = (entry.1.variable, entry.1.type) ∷ context_of rest

-- the variables rise from the first on, and end below the last
abbrev pub Rising : ℕ → ℕ → Environment → Type 0
Rising first last [] = first ≤ last
Rising first last (entry ∷ rest) = (first ≤ entry.1.variable) × Rising (suc entry.1.variable) last rest

abbrev pub HaveRows : TypeRows → Environment → Type 0
HaveRows types [] = Unit {0}
HaveRows types (entry ∷ rest) = (entry.1.type < length types) × MayHaveRow types entry.1.written × HaveRows types rest

pub rising_within : (first last : ℕ) (entries : Environment) → Rising first last entries → first ≤ last
rising_within first last [] h = h
rising_within first last (entry ∷ rest) h = let r = rising_within (suc entry.1.variable) last rest h.1 in let a = h.0
    in omega arith

pub rising_from : (first later last : ℕ) (entries : Environment) → first ≤ later → Rising later last entries → Rising
    first last entries
rising_from first later last [] within h = omega arith
rising_from first later last (entry ∷ rest) within h = ((let a = h.0 in omega arith), h.1)

pub rising_fresh : (first last : ℕ) (entries : Environment) → Rising first last entries → AreFresh first last
    (variables entries)
rising_fresh first last [] h = no_names first last h
rising_fresh first last (entry ∷ rest) h =
    append_names first (suc entry.1.variable) last (entry.1.variable ∷ []) (variables rest)
    (widen_names entry.1.variable first (suc entry.1.variable) (suc entry.1.variable) (entry.1.variable ∷ []) h.0
    (omega arith) (one_name entry.1.variable))
    (rising_fresh (suc entry.1.variable) last rest h.1)

-- no name has this variable
abbrev Avoid : ℕ → Environment → Type 0
Avoid variable [] = Unit {0}
Avoid variable (entry ∷ rest) = (entry.1.variable ≡ variable → ⊥) × Avoid variable rest

avoid_older : (types : TypeRows) (next : ℕ) (context : Context) (variable : ℕ) (environment : Environment) → next ≤
    variable → Fits types next context environment → Avoid variable environment
avoid_older types next context variable [] within h = tt
avoid_older types next context variable (entry ∷ rest) within h =
    ((λ e. let b = h.0.below in omega arith), avoid_older types next context variable rest within h.1)

avoid_newer : (variable first last : ℕ) (entries environment : Environment) → variable < first → Rising first last
    entries → Avoid variable environment → Avoid variable (entries ++ environment)
avoid_newer variable first last [] environment below h older = older
avoid_newer variable first last (entry ∷ rest) environment below h older = (
  (λ e. let a = h.0 in omega arith),
  avoid_newer variable (suc entry.1.variable) last rest environment (let a = h.0
      in omega arith) h.1 older,
)

behind_other : (name other type : ℕ) (context : Context) → (name ≡ other → ⊥) → entry_of name ((other, type) ∷ context)
    ≡ entry_of name context
behind_other name other type context differs = ap (λ b. cond b (Some type) (entry_of name context)) (ne_eqb name other
    differs)

in_front_of_all : (types : TypeRows) (next : ℕ) (context : Context) (variable type : ℕ) (environment : Environment) →
    Avoid variable environment → Fits types next context environment → Fits types next ((variable, type) ∷ context)
    environment
in_front_of_all types next context variable type [] avoid h = tt
in_front_of_all types next context variable type (entry ∷ rest) avoid h =
    let m = h.0 in (
      record {
        entry = behind_other entry.1.variable variable type context avoid.0 ∙ m.entry;
        below = m.below;
        row = m.row;
        wanted = m.wanted;
      },
      in_front_of_all types next context variable type rest avoid.1 h.1,
    )

pub more_names : (types : TypeRows) (first last : ℕ) (context : Context) (entries environment : Environment) → Rising
    first last entries → HaveRows types entries → Fits types first context environment → Fits types last (context_of
    entries ++ context) (entries ++ environment)
more_names types first last context [] environment rising rows h = fits_later types types first last context
    environment (same_rows types) rising h
more_names types first last context (entry ∷ rest) environment rising rows h =
    let variable = entry.1.variable in
    let within : first ≤ suc variable = (let a = rising.0 in omega arith) in
    let raised = fits_later types types first (suc variable) context environment (same_rows types) within h in
    let ih = more_names types (suc variable) last context rest environment rising.1 rows.2 raised in
    let avoid = avoid_newer variable (suc variable) last rest environment (omega arith) rising.1 (avoid_older types
    first context variable environment rising.0 h) in
    let top = rising_within (suc variable) last rest rising.1 in (
      record {
        entry = ap (λ b. cond b (Some entry.1.type) (entry_of variable (context_of rest ++ context))) (eq-eqb variable
            variable refl);
        below = top;
        row = rows.0;
        wanted = rows.1;
      },
      in_front_of_all types last (context_of rest ++ context) variable entry.1.type (rest ++ environment) avoid ih,
    )

-- the order in which names stand in front does not matter to whether they fit
pub fits_with : (types : TypeRows) (next : ℕ) (context : Context) (entries environment : Environment) →
    Fits types next context (entries ++ environment) → Fits types next context (with_names entries environment)
fits_with types next context entries environment h = step entries environment (halves entries h)
  where
    halves : (entries : Environment) → Fits types next context (entries ++ environment) →
        Fits types next context entries × Fits types next context environment
    halves [] h = (tt, h)
    halves (entry ∷ rest) h = let both = halves rest h.1 in ((h.0, both.0), both.1)

    step : (entries environment : Environment) →
        Fits types next context entries × Fits types next context environment →
        Fits types next context (with_names entries environment)
    step [] environment h = h.1
    step (entry ∷ rest) environment h = step rest (entry ∷ environment) (h.0.1, (h.0.0, h.1))

pub binds_all : (entries : Environment) → bind (variables entries) (types_of entries) ≡ Some (context_of entries)
binds_all [] = refl
binds_all (entry ∷ rest) = ap (λ o. both_in_front (Some (entry.1.variable, entry.1.type)) o) (binds_all rest)

-- ---- parameters

abbrev pub FormsParameters : Work → List Param → List ℕ → Work → Type 0
FormsParameters before parameters types after =
    Grown before after × AreRows after.types types × (length types ≡ length parameters)

pub type_or_dyn_formed : (own : Option TypeExpr) (work : Work) → MayBeWritten own → IsFormedTable work.types → Keeps (λ
    type after. FormsType work type after) (type_or_dyn own work)
type_or_dyn_formed (Some expression) work source table = written_formed expression work source table
type_or_dyn_formed None work source table =
    keeps_more (λ type after. FormsRow work DynRow type after) (λ type after. FormsType work type after) (form (intern
    DynRow) work)
    (row_formed work DynRow table (no_rows work.types))
    (λ type after h. (h.0, row_within after.types type DynRow h.1))

pub parameters_formed : (parameters : List Param) (work : Work) → AreSourceParams parameters →
    IsFormedTable work.types → Keeps (λ types after. FormsParameters work parameters types after)
    (parameter_types parameters work)
parameters_formed [] work source table = (not_grown work table, no_rows work.types, refl)
parameters_formed (parameter ∷ rest) work source table =
    then_keeps (λ type after. FormsType work type after)
    (λ types after. FormsParameters work (parameter ∷ rest) types after) _ _
    (type_or_dyn_formed parameter.written work source.0 table)
    (λ type middle h. then_keeps (λ types after. FormsParameters middle rest types after)
    (λ types after. FormsParameters work (parameter ∷ rest) types after) _ _
    (parameters_formed rest middle source.1 h.0.table)
    (λ types after k. (
      grown_on work middle after h.0 k.0,
      rows_then after.types type types (later_within middle.types after.types type k.0.types h.1) k.1,
      ap suc k.2,
    )))

-- the names got variables, and no type was formed
pub record BindsNames (before : Work) (types : List ℕ) (entries : Environment) (after : Work) : Type 0 where
  pub rows_same : after.types ≡ before.types
  pub labels : after.labels ≡ before.labels
  pub casts : after.casts ≡ before.casts
  pub rising : Rising before.next after.next entries
  pub same : types_of entries ≡ types
  pub rows : AreRows before.types types → HaveRows before.types entries

-- what a fresh variable is
abbrev pub IsNext : Work → ℕ → Work → Type 0
IsNext work variable after = (variable ≡ work.next) × (after ≡ record work { next = suc work.next })

pub names_bound : (place : Pos) (parameters : List Param) (types : List ℕ) (work : Work) →
    length types ≡ length parameters → Keeps (λ entries after. BindsNames work types entries after)
    (bind_names place parameters types work)
names_bound place [] [] work e =
    record { rows_same = refl; labels = refl; casts = refl; rising = omega arith; same = refl; rows = λ all. tt }
names_bound place [] (type ∷ types) work e = absurd (omega arith)
names_bound place (parameter ∷ rest) [] work e = absurd (omega arith)
names_bound place (parameter ∷ rest) (type ∷ types) work e =
    then_keeps (λ variable after. IsNext work variable after)
    (λ entries after. BindsNames work (type ∷ types) entries after) _ _
    (refl, refl)
    (λ variable middle h. then_keeps (λ entries after. BindsNames middle types entries after)
    (λ entries after. BindsNames work (type ∷ types) entries after) _ _
    (names_bound place rest types middle (omega arith))
    (λ entries after k. record {
      rows_same = k.rows_same ∙ ap (λ w. w.types) h.1;
      labels = k.labels ∙ ap (λ w. w.labels) h.1;
      casts = k.casts ∙ ap (λ w. w.casts) h.1;
      rising = (
        (let e = h.0 in omega arith),
        subst (λ n. Rising n after.next entries) (ap (λ w. w.next) h.1 ∙ sym (ap suc h.0)) k.rising,
      );
      same = ap (λ others. type ∷ others) k.same;
      rows = λ all. (
        head_row work.types type types all,
        tt,
        subst (λ rows. HaveRows rows entries) (ap (λ w. w.types) h.1)
            (k.rows (subst (λ rows. AreRows rows types) (sym (ap (λ w. w.types) h.1))
            (tail_rows work.types type types all))),
      );
    }))
