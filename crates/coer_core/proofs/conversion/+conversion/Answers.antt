-- The conversion: what each form becomes.
use Rattle.std.proofs.Common.{◌≡◌, inl, inr, ℕ, List, refl, sym, ap, ap₂, ◌∙◌, rules}
use Rattle.core_calc.specs.declared.terms.Core.{Core}
use Rattle.core_calc.specs.Terms.{Term, Terms, BoolLit, Var, Lambda, Group, Let, Call, If, Seq, Cast, Tuple, Prim}
use Rattle.core_calc.specs.Terms.{Enter, UnitLit, ValueTerm}
use Rattle.core_calc.specs.Views.{names_of, term_of, terms_of, value_of}
use Rattle.coercion_norm.specs.declared.casts.Cast.{Cast as KeyCast}
use Rattle.cast_modes.specs.Modes.{TypeCast, type_cast}
use Rattle.coer_core.specs.declared.terms.CoerTerm.{CoerTerm}
use Rattle.coer_core.specs.Conversion.{Converted, cast_views, conversion, converted, converted_all}
use Rattle.coer_core.specs.Conversion.{converted_bindings, converted_members, number_of, with_cast}
use Rattle.coer_core.specs.Terms.{RowTerm, RowLambda, RowGroup, RowLet, RowCall, RowIf, RowSeq, RowCast, RowTuple}
use Rattle.coer_core.specs.Terms.{RowPrim}
use Rattle.coer_core.specs.Views.{row_term_of}
use Rattle.coer_core.proofs.Joining.{ap3}
use Rattle.coer_core.proofs.conversion.+conversion.Goals as goal

-- a form by its parts
becomes : (casts : List TypeCast) (core : Core) (t : Term) {term it : CoerTerm} {keys those : List KeyCast}
    → term_of core ≡ t → term ≡ it → keys ≡ those → row_term_of it ≡ (converted casts t).term
    → cast_views those ≡ (converted casts t).casts
    → (row_term_of term ≡ (converted casts (term_of core)).term) × (cast_views keys
    ≡ (converted casts (term_of core)).casts)
becomes casts core t e f g a b = rw (e, f, g) (a, b)

-- a form of parts and a body in a box, of which the parts come first
with_body : {M : Type 0} (casts : List TypeCast) (core : Core) (form : Term → Term) (row : M → RowTerm → RowTerm)
    (first : Converted M) (middle : List KeyCast) {boxed opened : Core} {term it : CoerTerm} {keys those : List KeyCast}
    {parts : M} {body : RowTerm} → term_of core ≡ form (term_of boxed) → opened ≡ boxed → term ≡ it → keys ≡ those
    → row_term_of it ≡ row parts body
    → ((t : Term) → converted casts (form t)
    ≡ conversion (row first.term (converted first.casts t).term) (converted first.casts t).casts)
    → (parts ≡ first.term) × (cast_views middle ≡ first.casts)
    → (body ≡ (converted (cast_views middle) (term_of opened)).term)
    × (cast_views those ≡ (converted (cast_views middle) (term_of opened)).casts)
    → (row_term_of term ≡ (converted casts (term_of core)).term) × (cast_views keys
    ≡ (converted casts (term_of core)).casts)
with_body casts core form row first middle {opened = opened} e f g h i whole a b =
    let t : Term = term_of opened in
    becomes casts core (form t) (e ∙ ap (λ x. form (term_of x)) (sym f)) g h
    (i ∙ ap₂ row a.0 (b.0 ∙ ap (λ l. (converted l t).term) a.1) ∙ ap (λ x. x.term) (sym (whole t)))
    (b.1 ∙ ap (λ l. (converted l t).casts) a.1 ∙ ap (λ x. x.casts) (sym (whole t)))

pub converted-returns : goal.converted-returns
converted-returns t c =
    let cs : List TypeCast = cast_views c.args.casts.now in
    let core : Core = c.args.core.now in
    let e : (row_term_of c.match-core.term ≡ (converted cs (term_of core)).term)
    × (cast_views c.match-core.casts ≡ (converted cs (term_of core)).casts) =
    elim c.match-core.branch [
      | goal.converted-in-Int w ↦
          search rules
      | goal.converted-in-Bool w ↦
          becomes cs core (BoolLit w.in-Bool.b) (ap term_of w.in-Bool.is) w.term-is w.casts-is refl refl
      | goal.converted-in-Var w ↦
          becomes cs core (Var w.in-Var.name.0) (ap term_of w.in-Var.is) w.term-is w.casts-is refl refl
      | goal.converted-in-Lambda+in_ok-body-in-Lambda+in_ok-copied-in-Lambda w ↦
          let names : List ℕ = names_of w.in-Lambda.params in
          let type : ℕ = w.in-Lambda.ty.0 in
          becomes cs core (Lambda names (term_of w.deref.result.now) type)
          (ap term_of w.in-Lambda.is ∙ ap (λ x. Lambda names (term_of x) type) (sym w.deref.ensures)) w.term-is
          w.casts-is
          (ap₂ (λ n x. RowLambda n x type) (ap names_of w.in_ok-copied-in-Lambda.ensures)
          w.in_ok-body-in-Lambda.ensures.term) w.in_ok-body-in-Lambda.ensures.casts
      | goal.converted-in-Seq+in_ok-converted_all-in-Seq w ↦
          becomes cs core (Seq (terms_of w.in-Seq.terms)) (ap term_of w.in-Seq.is) w.term-is w.casts-is
          (ap RowSeq w.in_ok-converted_all-in-Seq.ensures.term) w.in_ok-converted_all-in-Seq.ensures.casts
      | goal.converted-in-Cast+in_ok-term-in-Cast+in_ok-number-in-Cast w ↦
          let inner = w.in_ok-term-in-Cast.ensures in
          let type : ℕ = w.in-Cast.from.0 in
          let other : ℕ = w.in-Cast.to.0 in
          let label : ℕ = w.in-Cast.label.0 in
          let cast : TypeCast = type_cast type label other in
          becomes cs core (Cast (term_of w.deref-in-Cast.result.now) type other label)
          (ap term_of w.in-Cast.is ∙ ap (λ x. Cast (term_of x) type other label) (sym w.deref-in-Cast.ensures))
          w.term-is w.casts-is
          (ap₂ RowCast inner.term
          (w.in_ok-number-in-Cast.ensures.number ∙ ap (λ l. number_of l cast) inner.casts))
          (w.in_ok-number-in-Cast.ensures.casts ∙ ap (λ l. with_cast l cast) inner.casts)
      | goal.converted-in-Proj+in_ok-part-in-Proj w ↦
          search rules
      | goal.converted-in-ProjDyn+in_ok-part-in-ProjDyn w ↦
          search rules
      | goal.converted-in-Tuple+in_ok-converted_all-in-Tuple w ↦
          becomes cs core (Tuple (terms_of w.in-Tuple.parts)) (ap term_of w.in-Tuple.is) w.term-is w.casts-is
          (ap RowTuple w.in_ok-converted_all-in-Tuple.ensures.term) w.in_ok-converted_all-in-Tuple.ensures.casts
      | goal.converted-in-Prim+in_ok-converted_all-in-Prim w ↦
          becomes cs core (Prim w.in-Prim.operator (terms_of w.in-Prim.operands)) (ap term_of w.in-Prim.is) w.term-is
          w.casts-is
          (ap (RowPrim w.in-Prim.operator) w.in_ok-converted_all-in-Prim.ensures.term)
          w.in_ok-converted_all-in-Prim.ensures.casts
      | goal.converted-in-Unit w ↦
          -- a value, or a term that is entered, is the unit value too
          let keys = w.casts-is in
          elim w.in-Unit.is [
            | inl e ↦ becomes cs core UnitLit (ap term_of e) w.term-is keys refl refl
            | inr o ↦
                elim o [
                  | inl e ↦
                      becomes cs core (Enter (term_of e.0.value) (terms_of e.1)) (ap term_of e.2) w.term-is keys refl
                      refl
                  | inr e ↦ becomes cs core (ValueTerm (value_of e.0)) (ap term_of e.1) w.term-is keys refl refl
                ]
          ]
    ] in
    record { term = e.0; casts = e.1 }

pub several-returns : goal.several-returns
several-returns t c =
    let cs : List TypeCast = cast_views c.args.casts.now in
    let core : Core = c.args.core.now in
    let e : (row_term_of c.match-core.term ≡ (converted cs (term_of core)).term)
    × (cast_views c.match-core.casts ≡ (converted cs (term_of core)).casts) =
    elim c.match-core.branch [
      | goal.several-in-Group+in_ok-members-in-Group+in_ok-part-in-Group w ↦
          with_body cs core (Group _) RowGroup (converted_members cs _) _ (ap term_of w.in-Group.is)
          w.deref.ensures w.term-is w.casts-is refl (λ t. refl)
          (w.in_ok-members-in-Group.ensures.term, w.in_ok-members-in-Group.ensures.casts)
          (w.in_ok-part-in-Group.ensures.term, w.in_ok-part-in-Group.ensures.casts)
      | goal.several-in-Let+in_ok-bindings-in-Let+in_ok-part-in-Let w ↦
          with_body cs core (Let _) RowLet (converted_bindings cs _) _ (ap term_of w.in-Let.is)
          w.deref-in-Let.ensures w.term-is w.casts-is refl (λ t. refl)
          (w.in_ok-bindings-in-Let.ensures.term, w.in_ok-bindings-in-Let.ensures.casts)
          (w.in_ok-part-in-Let.ensures.term, w.in_ok-part-in-Let.ensures.casts)
      | goal.several-in-Call+in_ok-function-in-Call+in_ok-converted_all-in-Call w ↦
          let first = w.in_ok-function-in-Call.ensures in
          let terms : Terms = terms_of w.in-Call.arguments in
          becomes cs core (Call (term_of w.deref-in-Call.result.now) terms)
          (ap term_of w.in-Call.is ∙ ap (λ x. Call (term_of x) terms) (sym w.deref-in-Call.ensures)) w.term-is
          w.casts-is
          (ap₂ RowCall first.term
          (w.in_ok-converted_all-in-Call.ensures.term ∙ ap (λ l. (converted_all l terms).term) first.casts))
          (w.in_ok-converted_all-in-Call.ensures.casts ∙ ap (λ l. (converted_all l terms).casts) first.casts)
      | goal.several-in-If+in_ok-condition-in-If+in_ok-on_true-in-If+in_ok-part-in-If w ↦
          let t : Term = term_of w.deref-in-If.result.now in
          let u : Term = term_of w.deref-in-If-2.result.now in
          let v : Term = term_of w.deref-in-If-3.result.now in
          let first = w.in_ok-condition-in-If.ensures in
          let second = w.in_ok-on_true-in-If.ensures in
          let last = w.in_ok-part-in-If.ensures in
          let met : cast_views w.part-in-If-2.new.casts ≡ (converted (converted cs t).casts u).casts =
          second.casts ∙ ap (λ l. (converted l u).casts) first.casts in
          becomes cs core (If t u v)
          (ap term_of w.in-If.is
          ∙ ap (λ x. If (term_of x) (term_of w.in-If.on_true.value) (term_of w.in-If.on_false.value))
          (sym w.deref-in-If.ensures)
          ∙ ap (λ x. If t (term_of x) (term_of w.in-If.on_false.value)) (sym w.deref-in-If-2.ensures)
          ∙ ap (λ x. If t u (term_of x)) (sym w.deref-in-If-3.ensures)) w.term-is w.casts-is
          (ap3 RowIf first.term (second.term ∙ ap (λ l. (converted l u).term) first.casts)
          (last.term ∙ ap (λ l. (converted l v).term) met)) (last.casts ∙ ap (λ l. (converted l v).casts) met)
    ] in
    record { term = e.0; casts = e.1 }
