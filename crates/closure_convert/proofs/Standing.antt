-- The procedures of a term stand in its program, and the program follows the run with environments.
use Rattle.std.proofs.Common.{◌≡◌, inl, ℕ, suc, ◌+◌, false, List, [], ◌∷◌}
use Rattle.std.proofs.Common.{◌++◌, length, Some, refl, sym, ap, ◌∙◌, subst, arith, length-append}
use Rattle.std.proofs.Common.{slice_get}
use Rattle.run_laws.specs.Runs.{Any, NeverWrong, FollowsBy}
use Rattle.run_laws.specs.Machines.{run}
use Rattle.run_laws.proofs.Public.{follows_by_simulation, follows_of, follows_by_before, follows_by_behind}
use Rattle.run_laws.proofs.Public.{machine_never_wrong, machine_never_wrong_back, follower_never_goes_wrong}
use Rattle.run_laws.proofs.Public.{reduction_and_machine_follow_each_other-machine}
use Rattle.run_laws.proofs.Public.{reduction_and_machine_follow_each_other-reduction}
use Rattle.core_calc.specs.Substitution.{is_among}
use Rattle.cast_modes.specs.Modes.{Mode}
use Rattle.cast_modes.specs.RunValues.{RunUnit}
use Rattle.cast_modes.specs.ValueSteps.{Own}
use Rattle.cast_modes.specs.AnswerTypes.{Told}
use Rattle.cast_modes.specs.Counting.{uncounted}
use Rattle.coer_core.specs.Terms.{RowTerm, RowTerms, RowMembers, RowBindings, RowInt, RowBool, RowUnit, RowVar}
use Rattle.coer_core.specs.Terms.{RowLambda, RowGroup, RowLet, RowCall, RowIf, RowSeq, RowCast, RowProj, RowProjDyn}
use Rattle.coer_core.specs.Terms.{RowTuple, RowPrim, NoRowTerms, RowTermThen, NoRowMembers, RowMemberThen}
use Rattle.coer_core.specs.Terms.{NoRowBindings, RowBindingThen}
use Rattle.coer_core.specs.Machine.{Eval, run_start}
use Rattle.coer_core.specs.Counts.{free_names, row_member_names, row_member_count, counting, run_in}
use Rattle.flat_ir.specs.Bodies.{Body, Proc}
use Rattle.flat_ir.specs.Machine.{FlatState, Inside, new_group, first_world, flat_state_at, entry_body}
use Rattle.flat_ir.specs.Counts.{flat_counting, flat_run_in}
use Rattle.closure_convert.specs.Conversion.{captures, alone, nothing_known, made, made_for, made_in, made_by, code}
use Rattle.closure_convert.specs.Conversion.{own_procs, procs_of, procs_for, procs_in, procs_by, entry_proc, converted}
use Rattle.closure_convert.specs.Bounds.{CountsKept}
use Rattle.closure_convert.proofs.ProcPlaces.{HasAt, has_front, has_back, whole}
use Rattle.closure_convert.proofs.Carrying.{none_some, false_true, Stands, StandsFor, StandsIn, StandsBy}
use Rattle.closure_convert.proofs.Relation.{FocusOn, in_code}
use Rattle.closure_convert.proofs.Following.{M, N, Goes, simulation}

pub own_long : (names captured : List ℕ) (group place : ℕ) (members : RowMembers) (next : ℕ)
    → length (own_procs names captured group place members next) ≡ row_member_count members
own_long names captured group place NoRowMembers next = refl
own_long names captured group place (RowMemberThen name parameters body type rest) next = ap suc
    (own_long names captured group (suc place) rest (next + made body))

long_append : (a b : List Proc) {m n : ℕ} → length a ≡ m → length b ≡ n → length (a ++ b) ≡ m + n
long_append a b e f = omega (arith, length-append a b)

mutual
  pub long : (term : RowTerm) (next : ℕ) → length (procs_of term next) ≡ made term
  long (RowInt n) next = refl
  long (RowBool b) next = refl
  long RowUnit next = refl
  long (RowVar name) next = refl
  long (RowLambda parameters body type) next =
      omega (
        arith,
        length-append (procs_of body next) (own_procs [] (captures [] (alone parameters body type)) 1 0
            (alone parameters body type) next),
        long body next,
      )
  long (RowGroup members body) next =
      let own = own_procs (row_member_names members) (captures (row_member_names members) members)
      (row_member_count members) 0 members next in
      let after = next + made_in members + row_member_count members in
      omega (
        arith,
        length-append (procs_in members next) (own ++ procs_of body after),
        length-append own
            (procs_of body after),
        long_in members next,
        own_long (row_member_names members) (captures
            (row_member_names members) members) (row_member_count members) 0 members next,
        long body after,
      )
  long (RowLet terms body) next =
      long_append (procs_by terms next) (procs_of body (next + made_by terms)) (long_by terms next)
      (long body (next + made_by terms))
  long (RowCall f terms) next =
      long_append (procs_of f next) (procs_for terms (next + made f)) (long f next) (long_for terms (next + made f))
  long (RowIf c a b) next =
      let pa = procs_of a (next + made c) in
      let pb = procs_of b (next + made c + made a) in
      let two = long_append pa pb (long a (next + made c)) (long b (next + made c + made a)) in
      omega (arith, long_append (procs_of c next) (pa ++ pb) (long c next) two)
  long (RowSeq terms) next = long_for terms next
  long (RowCast term n) next = long term next
  long (RowProj term i) next = long term next
  long (RowProjDyn term i label) next = long term next
  long (RowTuple terms) next = long_for terms next
  long (RowPrim op terms) next = long_for terms next

  pub long_for : (terms : RowTerms) (next : ℕ) → length (procs_for terms next) ≡ made_for terms
  long_for NoRowTerms next = refl
  long_for (RowTermThen term rest) next =
      long_append (procs_of term next) (procs_for rest (next + made term)) (long term next)
      (long_for rest (next + made term))

  pub long_by : (bindings : RowBindings) (next : ℕ) → length (procs_by bindings next) ≡ made_by bindings
  long_by NoRowBindings next = refl
  long_by (RowBindingThen name term rest) next =
      long_append (procs_of term next) (procs_by rest (next + made term)) (long term next)
      (long_by rest (next + made term))

  pub long_in : (members : RowMembers) (next : ℕ) → length (procs_in members next) ≡ made_in members
  long_in NoRowMembers next = refl
  long_in (RowMemberThen name parameters body type rest) next =
      long_append (procs_of body next) (procs_in rest (next + made body)) (long body next)
      (long_in rest (next + made body))

module _ (procs : List Proc) where
  -- what follows a part of this length
  back_at : (next made : ℕ) (a b : List Proc) → length a ≡ made → HasAt procs next (a ++ b)
      → HasAt procs (next + made) b
  back_at next made a b e h = subst (λ n. HasAt procs (next + n) b) e (has_back procs next a b h)

  behind : (term : RowTerm) (next : ℕ) (b : List Proc) → HasAt procs next (procs_of term next ++ b)
      → HasAt procs (next + made term) b
  behind term next b h = back_at next (made term) (procs_of term next) b (long term next) h

  mutual
    pub stands : (term : RowTerm) (next : ℕ) → HasAt procs next (procs_of term next) → Stands procs term next
    stands (RowInt n) next h = tt
    stands (RowBool b) next h = tt
    stands RowUnit next h = tt
    stands (RowVar name) next h = tt
    stands (RowLambda parameters body type) next h =
        let members = alone parameters body type in
        let own = own_procs [] (captures [] members) 1 0 members next in
        let e : length (procs_of body next) ≡ made body + 0 = omega (arith, long body next) in (
          (stands body next (has_front procs next (procs_of body next) own h), tt),
          back_at next (made body + 0)
              (procs_of body next) own e h,
        )
    stands (RowGroup members body) next h =
        let own = own_procs (row_member_names members) (captures (row_member_names members) members)
        (row_member_count members) 0 members next in
        let after = next + made_in members + row_member_count members in
        let rest = back_at next (made_in members) (procs_in members next) (own ++ procs_of body after)
        (long_in members next) h in (
          (
            stands_in members next (has_front procs next (procs_in members next) (own ++ procs_of body after) h),
            has_front procs (next + made_in members) own (procs_of body after) rest,
          ),
          stands body after (back_at (next + made_in members) (row_member_count members) own (procs_of body after)
              (own_long (row_member_names members) (captures (row_member_names members) members)
              (row_member_count members) 0 members next) rest),
        )
    stands (RowLet terms body) next h =
        let a = procs_by terms next in
        let b = procs_of body (next + made_by terms) in (
          stands_by terms next (has_front procs next a b h),
          stands body (next + made_by terms) (back_at next
              (made_by terms) a b (long_by terms next) h),
        )
    stands (RowCall f terms) next h =
        let b = procs_for terms (next + made f) in (
          stands f next (has_front procs next (procs_of f next) b h),
          stands_for terms (next + made f)
              (behind f next b h),
        )
    stands (RowIf c a b) next h =
        let pc = procs_of c next in
        let pa = procs_of a (next + made c) in
        let pb = procs_of b (next + made c + made a) in
        let rest = behind c next (pa ++ pb) h in (
          stands c next (has_front procs next pc (pa ++ pb) h),
          stands a (next + made c) (has_front procs (next + made c) pa pb rest),
          stands b (next + made c + made a) (behind a (next + made c) pb rest),
        )
    stands (RowSeq terms) next h = stands_for terms next h
    stands (RowCast term n) next h = stands term next h
    stands (RowProj term i) next h = stands term next h
    stands (RowProjDyn term i label) next h = stands term next h
    stands (RowTuple terms) next h = stands_for terms next h
    stands (RowPrim op terms) next h = stands_for terms next h

    stands_for : (terms : RowTerms) (next : ℕ) → HasAt procs next (procs_for terms next) → StandsFor procs terms next
    stands_for NoRowTerms next h = tt
    stands_for (RowTermThen term rest) next h =
        let b = procs_for rest (next + made term) in (
          stands term next (has_front procs next (procs_of term next) b h),
          stands_for rest (next + made term) (behind term next b h),
        )

    stands_by : (bindings : RowBindings) (next : ℕ) → HasAt procs next (procs_by bindings next)
        → StandsBy procs bindings next
    stands_by NoRowBindings next h = tt
    stands_by (RowBindingThen name term rest) next h =
        let b = procs_by rest (next + made term) in (
          stands term next (has_front procs next (procs_of term next) b h),
          stands_by rest (next + made term) (behind term next b h),
        )

    stands_in : (members : RowMembers) (next : ℕ) → HasAt procs next (procs_in members next)
        → StandsIn procs members next
    stands_in NoRowMembers next h = tt
    stands_in (RowMemberThen name parameters body type rest) next h =
        let b = procs_in rest (next + made body) in (
          stands body next (has_front procs next (procs_of body next) b h),
          stands_in rest (next + made body) (behind body next b h),
        )

-- all procedures of the term stand in the program, and behind them the one that it begins with
pub program_stands : (term : RowTerm) → Stands (converted term) term 0
program_stands term =
    stands (converted term) term 0 (has_front (converted term) 0 (procs_of term 0) (entry_proc term ∷ [])
    (whole (converted term)))

pub entry_stands : (term : RowTerm) → slice_get (converted term) (made term) ≡ Some (entry_proc term)
entry_stands term =
    let h = has_back (converted term) 0 (procs_of term 0) (entry_proc term ∷ []) (whole (converted term)) in
    let e : made term ≡ 0 + length (procs_of term 0) = let l = long term 0 in omega (arith, l) in
    ap (slice_get (converted term)) e ∙ h.0

-- no name is free
abbrev pub IsClosedTerm : RowTerm → Type 0
IsClosedTerm term = (name : ℕ) → is_among name (free_names term) ≡ false

-- at first the procedures are at the code of the term
abbrev pub start_on : {C : Type 0} (mode : Mode C) (term : RowTerm) → IsClosedTerm term
    → FocusOn (converted term) mode (Own (Eval term [])) []
    (Own (Inside (code term nothing_known 0 0) (λ level. RunUnit) (new_group 0 []))) []
start_on mode term closed = inl (
  in_code (converted term) mode term [] nothing_known 0 0 (λ level. RunUnit) (new_group 0 []) (record {
    fits = λ name. refl;
    below = λ name o e. none_some e;
  }) (λ name e. false_true (sym (closed name) ∙ e)) (program_stands term),
  tt,
)

module _ {C : Type 0} (mode : Mode C) (told : Told) (term : RowTerm) (input : List ℕ) where
  -- the first state, by the body that the program begins with
  start_of : Body → FlatState C
  start_of body =
      flat_state_at (converted term) told (Own (Inside body (λ level. RunUnit) (new_group 0 []))) [] []
      (first_world input)

  starts : IsClosedTerm term
      → Goes (converted term) mode told (uncounted (run_start term input))
      (uncounted (start_of (entry_body (slice_get (converted term) (made term)))))
  unfolding start_of
  starts closed =
      subst (λ o. Goes (converted term) mode told (uncounted (run_start term input))
      (uncounted (start_of (entry_body o)))) (sym (entry_stands term)) (
        refl,
        omega arith,
        omega arith,
        inl (record {
          ended = refl;
          other = refl;
          on = start_on mode term closed;
          cells = tt;
          world = refl;
        }),
      )

  pub converted_follows : IsClosedTerm term → NeverWrong (run_in mode told term input)
      → FollowsBy CountsKept Any (flat_run_in (converted term) (made term) mode told input)
      (run_in mode told term input)
  unfolding start_of
  converted_follows closed never =
      let procs = converted term in
      let s = uncounted (run_start term input) in
      let t = uncounted (start_of (entry_body (slice_get procs (made term)))) in
      let by : FollowsBy CountsKept Any (run (N procs mode told) t) (run (M procs mode told) s) =
      follows_by_simulation (simulation procs mode told) s t (starts closed)
      (machine_never_wrong (counting mode told) s never) in
      let right = machine_never_wrong_back (flat_counting procs mode told) t
      (follower_never_goes_wrong (follows_of by)) in
      follows_by_before (reduction_and_machine_follow_each_other-reduction (flat_counting procs mode told) t right)
      (follows_by_behind by (reduction_and_machine_follow_each_other-machine (counting mode told) s never))
