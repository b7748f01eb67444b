use Rattle.std.proofs.Common.{◌≡◌, ◌∙◌, ℕ, List, ◌∷◌, ap, sym}
use Rattle.std.specs.Prelude.{Bool, false, suc, cond}
use Rattle.core_calc.specs.declared.terms.GroupMember.{out-GroupMember}
use Rattle.core_calc.specs.Terms.{Members, MemberThen, MemberValue, Term}
use Rattle.core_calc.specs.Substitution.{is_among, members_from, without}
use Rattle.core_calc.specs.Views.{members_of, names_of, term_of}
use Rattle.core_terms.proofs.substitution.members_clash.Goals as goal

-- where neither the first function nor one of the others has one of the names, nothing is left out
kept : (names : List ℕ) (name : ℕ) (parameters : List ℕ) (body : Term) (type : ℕ) (rest : Members) →
    is_among name names ≡ false →
    ((group : Members) (place : ℕ) → without names (members_from group rest place) ≡ members_from group rest place) →
    (group : Members) (place : ℕ) →
    without names (members_from group (MemberThen name parameters body type rest) place)
    ≡ members_from group (MemberThen name parameters body type rest) place
kept names name parameters body type rest e ih group place =
    ap (λ (b : Bool). cond b (without names (members_from group rest (suc place)))
    ((name, MemberValue group place) ∷ without names (members_from group rest (suc place)))) e
    ∙ ap (λ x. (name, MemberValue group place) ∷ x) (ih group (suc place))

pub loop-left-preserved : goal.loop-left-preserved
loop-left-preserved c =
    let first = out-GroupMember c.in-Cons.first.value in
    λ same. (rw c.in-Cons.is at c.loop-left.invariant)
    (kept (names_of c.args.names.now) first.name.0 (names_of first.params) (term_of first.body) first.ty.0
    (members_of c.in-Cons.rest.value)
    (ap (λ x. is_among (out-GroupMember x).name.0 (names_of c.args.names.now)) (sym c.deref.ensures)
    ∙ sym c.is_among.ensures ∙ c.if-is_among.false)
    (rw c.deref-left.ensures at same))
