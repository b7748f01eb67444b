-- What closed programs say of their procedures: where the functions of a group are.
use Rattle.std.proofs.Common.{◌≡◌, ℕ, zero, suc, ◌+◌, ◌<◌, ◌≤◌, true, false, List, [], ◌∷◌, Option}
use Rattle.std.proofs.Common.{Some, None, refl, sym, ap, ◌∙◌, subst, arith}
use Rattle.std.specs.Prelude.{slice_get, nat_lt, nat_le, ◌==◌, ◌&&◌, ◌||◌}
use Rattle.flat_ir.specs.Bodies.{Proc}
use Rattle.flat_ir.specs.Closed.{begins_group, is_next, body_bound, proc_closed, each_closed}
use Rattle.lower.specs.CarriedValues.{IsMember}
use Rattle.lower.proofs.heap.Objects.{none_some, same_some}
use Rattle.lower.proofs.words.Operands.{and_true}

module _ (procs : List Proc) where
  closed_at : (rest : List Proc) (k : ℕ) (p : Proc) → each_closed procs rest ≡ true → slice_get rest k ≡ Some p
      → proc_closed procs (slice_get rest (suc k)) p ≡ true
  closed_at [] k p c e = none_some e
  closed_at (q ∷ rest) zero p c e =
      subst (λ r. proc_closed procs (slice_get rest 0) r ≡ true) (same_some q p e)
      (and_true (proc_closed procs (slice_get rest 0) q) (each_closed procs rest) c).0
  closed_at (q ∷ rest) (suc k) p c e =
      closed_at rest k p (and_true (proc_closed procs (slice_get rest 0) q) (each_closed procs rest) c).1 e

  module _ (closed : each_closed procs procs ≡ true) where
    -- of each procedure: it takes few arguments, its body is bound, and the next function of its group follows
    pub record ClosedProc (k : ℕ) (p : Proc) : Type 0 where
      pub params : p.params ≤ 6
      pub next : (nat_le p.group (suc p.place) || is_next (slice_get procs (suc k)) p) ≡ true
      pub bound : body_bound procs p.captured p.group p.params p.body ≡ true

    pub proc_is_closed : (k : ℕ) (p : Proc) → slice_get procs k ≡ Some p → ClosedProc k p
    proc_is_closed k p e =
        let c = closed_at procs k p closed e in
        let x = and_true (nat_le p.params 6) ((nat_le p.group (suc p.place) || is_next (slice_get procs (suc k)) p)
        && body_bound procs p.captured p.group p.params p.body) c in
        let y = and_true (nat_le p.group (suc p.place) || is_next (slice_get procs (suc k)) p)
        (body_bound procs p.captured p.group p.params p.body) x.1 in
        record { params = at_most p.params 6 x.0; next = y.0; bound = y.1 }
      where
        at_most : (a b : ℕ) → nat_le a b ≡ true → a ≤ b
        at_most a b h = grind (arith, h)

    pub record Begins (first count captured : ℕ) : Type 0 where
      pub some : 0 < count
      pub member : IsMember procs first count captured 0

    same_number : (a b : ℕ) → (a == b) ≡ true → a ≡ b
    same_number a b h = grind (arith, h)

    begins : (first count captured : ℕ) → (o : Option Proc) → slice_get procs first ≡ o
        → begins_group o count captured ≡ true → Begins first count captured
    begins first count captured None e b = absurd (clash b)
      where
        clash : false ≡ true → ⊥
        clash h = cc
    begins first count captured (Some p) e b =
        let x = and_true (p.place == 0) (nat_lt 0 count && ((p.group == count) && (p.captured == captured))) b in
        let y = and_true (nat_lt 0 count) ((p.group == count) && (p.captured == captured)) x.1 in
        let z = and_true (p.group == count) (p.captured == captured) y.1 in
        let none : first ≡ first + 0 = omega arith in
        record {
          some = more count y.0;
          member = record {
            proc = p;
            there = ap (slice_get procs) (sym none) ∙ e;
            place_is = same_number p.place 0 x.0;
            group_is = same_number p.group count z.0;
            captured_is = same_number p.captured captured z.1;
          };
        }
      where
        more : (n : ℕ) → nat_lt 0 n ≡ true → 0 < n
        more n h = grind (arith, h)

    pub begins_so : (first count captured : ℕ) → begins_group (slice_get procs first) count captured ≡ true
        → Begins first count captured
    begins_so first count captured b = begins first count captured (slice_get procs first) refl b

    -- the next function of a group
    follows : (first count captured place : ℕ) → suc place < count → IsMember procs first count captured place
        → IsMember procs first count captured (suc place)
    follows first count captured place lt m = by_next (slice_get procs (suc (first + place))) refl (right either)
      where
        either : (nat_le m.proc.group (suc m.proc.place) || is_next (slice_get procs (suc (first + place))) m.proc)
            ≡ true
        either = (proc_is_closed (first + place) m.proc m.there).next

        later : nat_le m.proc.group (suc m.proc.place) ≡ false
        later = more m.proc.group (suc m.proc.place) (let a = m.group_is in let b = m.place_is in omega
            (arith, a, b, lt))
          where
            more : (a b : ℕ) → b < a → nat_le a b ≡ false
            more a b h = grind (arith, h)

        right : (nat_le m.proc.group (suc m.proc.place) || is_next (slice_get procs (suc (first + place))) m.proc)
            ≡ true → is_next (slice_get procs (suc (first + place))) m.proc ≡ true
        right e = sym (ap (λ b. b || is_next (slice_get procs (suc (first + place))) m.proc) later) ∙ e

        by_next : (o : Option Proc) → slice_get procs (suc (first + place)) ≡ o → is_next o m.proc ≡ true
            → IsMember procs first count captured (suc place)
        by_next None e b = absurd (clash b)
          where
            clash : false ≡ true → ⊥
            clash h = cc
        by_next (Some q) e b =
            let x = and_true (q.place == suc m.proc.place)
            ((q.group == m.proc.group) && (q.captured == m.proc.captured)) b in
            let y = and_true (q.group == m.proc.group) (q.captured == m.proc.captured) x.1 in
            let number : first + suc place ≡ suc (first + place) = omega arith in
            record {
              proc = q;
              there = ap (slice_get procs) number ∙ e;
              place_is = same_number q.place (suc m.proc.place) x.0 ∙ ap suc m.place_is;
              group_is = same_number q.group m.proc.group y.0 ∙ m.group_is;
              captured_is = same_number q.captured m.proc.captured y.1 ∙ m.captured_is;
            }

    pub all_members : (first count captured place : ℕ) → place < count → IsMember procs first count captured 0
        → IsMember procs first count captured place
    all_members first count captured zero lt m = m
    all_members first count captured (suc place) lt m =
        follows first count captured place lt (all_members first count captured place (omega (arith, lt)) m)
