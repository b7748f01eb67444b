-- The conversion: each function does what its contract says of it.
use Rattle.std.proofs.Common.{◌≡◌, ◌<◌, ℕ, suc, ◌+◌, List, [], ◌∷◌, ◌++◌, length, refl, sym, ap}
use Rattle.std.proofs.Common.{◌∙◌}
use Rattle.std.proofs.Common.{subst, arith, append-nil}
use Rattle.std.proofs.Common.{rules}
use mir.Val.{SFits}
use mir.Syntax.{w64}
use Rattle.std.proofs.lemmas.Int.{to_z-of_z}
use Rattle.std.specs.Prelude.{OnOk}
use Rattle.core_calc.specs.Views.{names_of}
use Rattle.coer_core.specs.declared.terms.CoerList.{the_lemmas as list_lemmas}
use Rattle.coer_core.specs.declared.terms.CoerTerm.{CoerTerm}
use Rattle.coer_core.specs.declared.terms.CoerMember.{out-CoerMember}
use Rattle.coer_core.specs.declared.terms.CoerMembers.{the_lemmas as member_lemmas}
use Rattle.coer_core.specs.declared.terms.CoerBindings.{the_lemmas as binding_lemmas}
use Rattle.coer_core.specs.declared.terms.CoerBinding.{out-CoerBinding}
use Rattle.coer_core.specs.Counts.{free_names, free_names_of_all, free_names_of_bindings, free_names_of_members}
use Rattle.coer_core.specs.Counts.{names_besides, row_binding_names, row_member_count, row_member_names}
use Rattle.coer_core.specs.Terms.{RowTerm, RowTerms, RowMembers, RowBindings, RowInt, RowBool, RowUnit, RowVar}
use Rattle.coer_core.specs.Terms.{RowLambda, RowGroup, RowLet, RowCall, RowIf, RowSeq, RowCast, RowProj, RowProjDyn}
use Rattle.coer_core.specs.Terms.{RowTuple, RowPrim, NoRowTerms, RowTermThen, RowMemberThen, RowBindingThen}
use Rattle.coer_core.specs.Terms.{NoRowMembers}
use Rattle.coer_core.specs.Views.{row_bindings_of, row_members_of, row_term_of, row_terms_of}
use Rattle.flat_ir.specs.declared.code.Operand.TheVariants.{Local, Sibling, Int as IntConst, Bool as BoolConst}
use Rattle.flat_ir.specs.declared.code.Operand.TheVariants.{Unit as UnitConst}
use Rattle.flat_ir.specs.declared.code.Operation.TheVariants.{Prim}
use Rattle.flat_ir.specs.Views.{body_of}
use Rattle.closure_convert.specs.Conversion.{Scope, alone, atom, bind_operands, code, gather, gather_let, made, made_by}
use Rattle.closure_convert.specs.Conversion.{made_for, made_in, numbered, procs_by, procs_for}
use Rattle.closure_convert.specs.Conversion.{procs_in}
use Rattle.closure_convert.specs.Conversion.{procs_of, sequence}
use Rattle.closure_convert.specs.Converting.{Adds, Hides, bodies, group_procs, parts_of, seen, state}
use Rattle.closure_convert.specs.Converting.{state_of}
use Rattle.closure_convert.specs.Keeping.{Kept}
use Rattle.closure_convert.specs.declared.names.Names.{Names}
use Rattle.closure_convert.specs.Scopes.{Reaches, known, over}
use Rattle.closure_convert.specs.Waits.{ahead}
use Rattle.closure_convert.proofs.Adding.{adds_between, grows}
use Rattle.closure_convert.proofs.Answering.{Ends, ends, if_ok_then, if_ok_with}
use Rattle.closure_convert.proofs.Answering.{in_any_case, in_none, in_some, on_ok_both, on_ok_then}
use Rattle.closure_convert.proofs.Binding.{group_body, let_body, no_group_body}
use Rattle.closure_convert.proofs.GroupsClosed.{Closes, closes_ok, closes_same}
use Rattle.closure_convert.proofs.Ending.{Coded, body_goes_on, call_ends, cast_ends, coded_by, constant_ends}
use Rattle.closure_convert.proofs.Ending.{gathered_by, name_ends}
use Rattle.closure_convert.proofs.Ending.{group_goes_on, if_ends, lambda_ends, let_goes_on}
use Rattle.closure_convert.proofs.Ending.{prim_ends, proj_dyn_ends, proj_ends, tuple_ends}
use Rattle.closure_convert.proofs.Functions.{Made, function_adds, function_body, functions_adds, functions_more}
use Rattle.closure_convert.proofs.Functions.{made_same}
use Rattle.closure_convert.proofs.Functions.{with_parameters}
use Rattle.closure_convert.proofs.Groups.{Converted, alone_adds, alone_converted, group_adds, group_waits}
use Rattle.closure_convert.proofs.Groups.{member_count, with_siblings}
use Rattle.closure_convert.proofs.Leaving.{all_added, count_more, last_adds, names_count, names_more, no_adds, no_hides}
use Rattle.closure_convert.proofs.Leaving.{operands_are}
use Rattle.closure_convert.proofs.Meeting.{bound_hide}
use Rattle.closure_convert.proofs.Opening.{kept_none, kept_opened, kept_then, opened_kept, opened_none, opened_then}
use Rattle.closure_convert.proofs.Opening.{undone_kept}
use Rattle.closure_convert.proofs.Placing.{bindings_adds, bindings_more, gather_adds, gather_more, placed_by}
use Rattle.closure_convert.proofs.Placing.{placed_last, placed_there, sequence_last, sequence_more}
use Rattle.closure_convert.proofs.Carrying.{numbered_long}
use Rattle.closure_convert.proofs.Scoping.{counted_long}
use Rattle.closure_convert.proofs.Taking.{names_long}
use Rattle.closure_convert.proofs.conversion.Converter.+conversion.Goals.{bindings-After-bind_all}
use Rattle.closure_convert.proofs.conversion.Converter.+conversion.Goals.{function-In_ok-bind_all}
use Rattle.closure_convert.proofs.conversion.Converter.+conversion.Goals.{group-After-bind_all-2}
use Rattle.closure_convert.proofs.conversion.Converter.+conversion.Goals.{lambda-After-close}
use Rattle.closure_convert.proofs.conversion.Converter.+conversion.Goals.{place-In_ok-inner, sequence-In_ok-body-in-Nil}
use Rattle.closure_convert.proofs.conversion.Converter.+conversion.Goals as goal

pub place-returns-in-Some-clause-kept : goal.place-returns-in-Some-clause-kept
place-returns-in-Some-clause-kept t c =
    c.in_ok-operand.ensures.kept

pub place-returns-in-Some-clause-adds : goal.place-returns-in-Some-clause-adds
place-returns-in-Some-clause-adds t c =
    in_some (c.atom.new.self ≡ c.args.self.now)
    (λ o. Adds (known c.args.self.now.names) (state c.args.self.now) (state c.atom.new.self)
    (free_names (row_term_of c.args.term.now)) (procs_of (row_term_of c.args.term.now))
    (made (row_term_of c.args.term.now)))
    c.in_ok-operand.field-0 c.in-Some.operand c.in-Some.is c.in_ok-operand.ensures.adds

pub place-returns-in-Some-clause-placed : goal.place-returns-in-Some-clause-placed
place-returns-in-Some-clause-placed t c =
    λ outer r rest. placed_there c.args.waits.now.waits.items c.args.waits.now.depth
    (atom (row_term_of c.args.term.now) (seen c.args.self.now outer)) c.in-Some.operand
    (code (row_term_of c.args.term.now) (seen c.args.self.now outer) c.args.waits.now.depth
    (length c.args.self.now.procs)) rest (c.in_ok-operand.ensures.atom outer r ∙ c.in-Some.is)

pub place-returns-clause-kept : goal.place-returns-clause-kept
place-returns-clause-kept t c =
    in_any_case c.bind.result (kept_then c.args.self.now.names c.atom.new.self.names c.code.new.self.names
    c.in_ok-operand.ensures.kept c.in_ok-inner.ensures.kept)

-- a term that is no operand changes nothing by being tried
unchanged : (t : ℕ) (c : place-In_ok-inner t) → c.atom.new.self ≡ c.args.self.now
unchanged t c =
    in_none (c.atom.new.self ≡ c.args.self.now)
    (λ o. Adds (known c.args.self.now.names) (state c.args.self.now) (state c.atom.new.self)
    (free_names (row_term_of c.args.term.now)) (procs_of (row_term_of c.args.term.now))
    (made (row_term_of c.args.term.now)))
    c.in_ok-operand.field-0 c.in_default.is c.in_ok-operand.ensures.adds

pub place-returns-clause-adds : goal.place-returns-clause-adds
place-returns-clause-adds t c =
    in_any_case c.bind.result (subst (λ k. Adds (known k.names) (state k) (state c.code.new.self)
    (free_names (row_term_of c.args.term.now)) (procs_of (row_term_of c.args.term.now))
    (made (row_term_of c.args.term.now))) (unchanged t (goal.at.place-returns-clause-adds t c).In_ok-inner)
    c.in_ok-inner.ensures.adds)

pub place-returns-clause-placed : goal.place-returns-clause-placed
place-returns-clause-placed t c =
    let same = unchanged t (goal.at.place-returns-clause-placed t c).In_ok-inner in
    let term : RowTerm = row_term_of c.args.term.now in
    let d : ℕ = c.args.waits.now.depth in
    if_ok_with c.bind.result (λ o op puts dep. λ outer r rest.
    placed_last c.args.waits.now.waits.items c.bind.new.self.waits.items d c.bind.new.self.depth
    (atom term (seen c.args.self.now outer)) o (body_of c.in_ok-inner.inner)
    (code term (seen c.args.self.now outer) d (length c.args.self.now.procs)) rest
    (c.in_ok-operand.ensures.atom outer (grows (known c.atom.new.self.names) (state c.atom.new.self)
    (state c.code.new.self) (free_names term) (procs_of term) (made term) c.in_ok-inner.ensures.adds outer r)
    ∙ c.in_default.is)
    (c.in_ok-inner.ensures.body outer r ∙ ap (λ k. code term (seen k outer) d (length k.procs)) same)
    op dep puts) c.bind.ensures.operand c.bind.ensures.waits c.bind.ensures.depth

pub gather-loop-left-init : goal.gather-loop-left-init
gather-loop-left-init t c =
    record {
      kept = kept_none c.args.self.now.names c.args.self.now.names refl refl;
      adds = λ end x. x;
      gathered = λ outer r front finish.
          ap (λ os. ahead c.args.waits.now.waits.items (gather (row_terms_of c.args.terms.now)
          (seen c.args.self.now outer) c.args.waits.now.depth (length c.args.self.now.procs) os finish))
          (ap (λ os. front ++ os) c.new-operands.ensures ∙ append-nil front);
      smaller = omega arith;
    }

pub gather-loop-left-preserved : goal.gather-loop-left-preserved
gather-loop-left-preserved t c =
    let t : RowTerm = row_term_of c.deref.result.now in
    let l : row_terms_of c.loop-left.left.now ≡ RowTermThen t (row_terms_of c.deref-left.result.now) =
    ap row_terms_of c.in-Cons.is
    ∙ ap (λ x. RowTermThen (row_term_of x) (row_terms_of c.in-Cons.rest.value)) (sym c.deref.ensures)
    ∙ ap (λ x. RowTermThen t (row_terms_of x)) (sym c.deref-left.ensures) in
    let p = placed_by c.loop-left.self c.place.new.self c.loop-left.waits c.place.new.waits c.deref.result.now
    c.in_ok-place.field-0 c.loop-left.invariant.kept.scope c.in_ok-place.ensures.adds c.in_ok-place.ensures.placed in
    record {
      kept = kept_then c.args.self.now.names c.loop-left.self.names c.place.new.self.names c.loop-left.invariant.kept
          c.in_ok-place.ensures.kept;
      adds = gather_adds l p c.loop-left.invariant.adds;
      gathered = λ outer r front finish.
          ap (λ os. ahead c.place.new.waits.waits.items (gather (row_terms_of c.deref-left.result.now)
          (seen c.args.self.now outer) c.place.new.waits.depth (length c.place.new.self.procs) (front ++ os) finish))
          c.in_ok-push.ensures.ok
          ∙ gather_more c.loop-left.operands l p c.loop-left.invariant.gathered outer r front finish;
      smaller = search (rules, list_lemmas);
    }

pub gather-returns : goal.gather-returns
gather-returns t c = record {
  kept = c.loop-left.invariant.kept;
  adds =
      all_added free_names_of_all procs_for made_for (ap row_terms_of c.in_default.is) refl (λ n. refl) refl
      c.loop-left.invariant.adds;
  gathered = λ outer r front finish.
      sym (ap (λ x. ahead c.loop-left.waits.waits.items (gather x (seen c.args.self.now outer) c.loop-left.waits.depth
      (length c.loop-left.self.procs) (front ++ c.loop-left.operands) finish)) (ap row_terms_of c.in_default.is))
      ∙ c.loop-left.invariant.gathered outer r front finish;
}

pub gather_bindings-loop-left-init : goal.gather_bindings-loop-left-init
gather_bindings-loop-left-init t c =
    record {
      kept = kept_none c.args.self.now.names c.args.self.now.names refl refl;
      adds = λ end x. x;
      gathered = λ outer r finish.
          ap (λ os. ahead c.args.waits.now.waits.items (gather_let (row_bindings_of c.args.bindings.now)
          (seen c.args.self.now outer) c.args.waits.now.depth (length c.args.self.now.procs) os finish))
          c.new-operands.ensures;
      names = ap (λ ns. names_of ns ++ row_binding_names (row_bindings_of c.args.bindings.now)) c.new-names.ensures;
      same = ap length c.new-names.ensures ∙ sym (ap length c.new-operands.ensures);
      smaller = omega arith;
    }

pub gather_bindings-loop-left-preserved : goal.gather_bindings-loop-left-preserved
gather_bindings-loop-left-preserved t c =
    let t : RowTerm = row_term_of (out-CoerBinding c.deref.result.now).value in
    let name = (out-CoerBinding c.deref-in-Cons.result.now).name in
    let l : row_bindings_of c.loop-left.left.now ≡ RowBindingThen name.0 t (row_bindings_of c.deref-left.result.now) =
    ap row_bindings_of c.in-Cons.is
    ∙ ap (λ x. RowBindingThen (out-CoerBinding x).name.0 (row_term_of (out-CoerBinding c.in-Cons.first.value).value)
    (row_bindings_of c.in-Cons.rest.value)) (sym c.deref-in-Cons.ensures)
    ∙ ap (λ x. RowBindingThen name.0 (row_term_of (out-CoerBinding x).value) (row_bindings_of c.in-Cons.rest.value))
    (sym c.deref.ensures)
    ∙ ap (λ x. RowBindingThen name.0 t (row_bindings_of x)) (sym c.deref-left.ensures) in
    let p = placed_by c.loop-left.self c.place.new.self c.loop-left.waits c.place.new.waits
    (out-CoerBinding c.deref.result.now).value c.in_ok-place.field-0 c.loop-left.invariant.kept.scope
    c.in_ok-place.ensures.adds c.in_ok-place.ensures.placed in
    record {
      kept = kept_then c.args.self.now.names c.loop-left.self.names c.place.new.self.names c.loop-left.invariant.kept
          c.in_ok-place.ensures.kept;
      adds = bindings_adds l p c.loop-left.invariant.adds;
      gathered = λ outer r finish.
          ap (λ os. ahead c.place.new.waits.waits.items (gather_let (row_bindings_of c.deref-left.result.now)
          (seen c.args.self.now outer) c.place.new.waits.depth (length c.place.new.self.procs) os finish))
          c.in_ok-push.ensures.ok
          ∙ bindings_more c.loop-left.operands l p c.loop-left.invariant.gathered outer r finish;
      names = names_more c.loop-left.names c.push-in-Cons.new.self name (row_bindings_of c.loop-left.left.now)
          (row_bindings_of c.deref-left.result.now) t (row_binding_names (row_bindings_of c.args.bindings.now))
          c.in_ok-push-2.ensures.ok l c.loop-left.invariant.names;
      same = ap length c.in_ok-push-2.ensures.ok ∙ count_more c.loop-left.names name
          ∙ ap suc c.loop-left.invariant.same ∙ sym (count_more c.loop-left.operands c.in_ok-place.field-0)
          ∙ sym (ap length c.in_ok-push.ensures.ok);
      smaller = search (rules, binding_lemmas);
    }

pub gather_bindings-returns : goal.gather_bindings-returns
gather_bindings-returns t c =
    let none = ap row_bindings_of c.in_default.is in
    record {
      kept = c.loop-left.invariant.kept;
      adds =
          all_added free_names_of_bindings procs_by made_by none refl (λ n. refl) refl c.loop-left.invariant.adds;
      names = sym (append-nil (names_of c.loop-left.names))
          ∙ sym (ap (λ x. names_of c.loop-left.names ++ row_binding_names x) none) ∙ c.loop-left.invariant.names;
      same = c.loop-left.invariant.same;
      gathered = λ outer r finish.
          sym (ap (λ x. ahead c.loop-left.waits.waits.items (gather_let x (seen c.args.self.now outer)
          c.loop-left.waits.depth (length c.loop-left.self.procs) c.loop-left.operands finish)) none)
          ∙ c.loop-left.invariant.gathered outer r finish;
    }

pub sequence-loop-left-init : goal.sequence-loop-left-init
sequence-loop-left-init t c =
    record {
      kept = kept_none c.args.self.now.names c.args.self.now.names refl refl;
      adds = λ end x. x;
      body = λ outer r. refl;
      smaller = omega arith;
    }

pub sequence-returns-in-Nil-clause-kept : goal.sequence-returns-in-Nil-clause-kept
sequence-returns-in-Nil-clause-kept t c =
    kept_then c.args.self.now.names c.loop-left.self.names c.code.new.self.names
    c.loop-left.invariant.kept c.in_ok-body-in-Nil.ensures.kept

-- the last of the terms, and its body
last_of_sequence : (t : ℕ) (c : sequence-In_ok-body-in-Nil t)
    → (row_terms_of c.loop-left.left.now
    ≡ RowTermThen (row_term_of c.deref-in-Nil.result.now) (row_terms_of c.in-Cons.rest.value))
    × (row_terms_of c.in-Cons.rest.value ≡ NoRowTerms)
    × Coded (known c.args.self.now.names) (state c.loop-left.self) (state c.code.new.self) c.loop-left.waits.depth
    (row_term_of c.deref-in-Nil.result.now) (body_of c.in_ok-body-in-Nil.body)
last_of_sequence t c = (
  ap row_terms_of c.in-Cons.is
      ∙ ap (λ x. RowTermThen (row_term_of x) (row_terms_of c.in-Cons.rest.value)) (sym c.deref-in-Nil.ensures),
  ap row_terms_of (sym c.deref.ensures ∙ c.in-Nil.is),
  coded_by c.loop-left.self c.code.new.self c.loop-left.waits.depth c.deref-in-Nil.result.now c.in_ok-body-in-Nil.body
      c.loop-left.invariant.kept.scope c.in_ok-body-in-Nil.ensures.adds c.in_ok-body-in-Nil.ensures.body,
)

pub sequence-returns-in-Nil-clause-adds : goal.sequence-returns-in-Nil-clause-adds
sequence-returns-in-Nil-clause-adds t c =
    let x = last_of_sequence t (goal.at.sequence-returns-in-Nil-clause-adds t c).In_ok-body-in-Nil in
    c.loop-left.invariant.adds (state c.code.new.self)
    (last_adds (known c.args.self.now.names) (state c.loop-left.self) (state c.code.new.self)
    (row_term_of c.deref-in-Nil.result.now) (row_terms_of c.loop-left.left.now) (row_terms_of c.in-Cons.rest.value)
    x.0 x.1 x.2.adds)

pub sequence-returns-in-Nil-clause-body : goal.sequence-returns-in-Nil-clause-body
sequence-returns-in-Nil-clause-body t c =
    let term : RowTerm = row_term_of c.deref-in-Nil.result.now in
    let s : Scope = known c.args.self.now.names in
    let x = last_of_sequence t (goal.at.sequence-returns-in-Nil-clause-body t c).In_ok-body-in-Nil in
    λ outer r. ap (ahead c.loop-left.waits.waits.items) (x.2.at outer r)
    ∙ sequence_last s (state c.loop-left.self) c.loop-left.waits.waits.items c.loop-left.waits.depth x.0 x.1
    c.loop-left.invariant.body outer (grows s (state c.loop-left.self) (state c.code.new.self) (free_names term)
    (procs_of term) (made term) x.2.adds outer r)

pub sequence-loop-left-preserved : goal.sequence-loop-left-preserved
sequence-loop-left-preserved t c =
    let t : RowTerm = row_term_of c.deref-in-Cons-deref.result.now in
    let rest : RowTerms = row_terms_of c.deref-left.result.now in
    let u : RowTerm = row_term_of c.in-Cons-deref.field-0.value in
    let others : RowTerms = row_terms_of c.in-Cons-deref.field-1.value in
    let l : row_terms_of c.loop-left.left.now ≡ RowTermThen t rest =
    ap row_terms_of c.in-Cons.is
    ∙ ap (λ x. RowTermThen (row_term_of x) (row_terms_of c.in-Cons.rest.value)) (sym c.deref-in-Cons-deref.ensures)
    ∙ ap (λ x. RowTermThen t (row_terms_of x)) (sym c.deref-left.ensures) in
    let m : rest ≡ RowTermThen u others =
    ap row_terms_of (c.deref-left.ensures ∙ sym c.deref.ensures ∙ c.in-Cons-deref.is) in
    let p = placed_by c.loop-left.self c.place.new.self c.loop-left.waits c.place.new.waits
    c.deref-in-Cons-deref.result.now c.in_ok-place-in-Cons-deref.field-0 c.loop-left.invariant.kept.scope
    c.in_ok-place-in-Cons-deref.ensures.adds c.in_ok-place-in-Cons-deref.ensures.placed in
    record {
      kept = kept_then c.args.self.now.names c.loop-left.self.names c.place.new.self.names c.loop-left.invariant.kept
          c.in_ok-place-in-Cons-deref.ensures.kept;
      adds = gather_adds l p c.loop-left.invariant.adds;
      body = sequence_more l m p c.loop-left.invariant.body;
      smaller = search (rules, list_lemmas);
    }

pub sequence-returns : goal.sequence-returns
sequence-returns t c =
    let none = ap row_terms_of c.in_default.is in
    record {
      kept = c.loop-left.invariant.kept;
      adds = all_added free_names_of_all procs_for made_for none refl (λ n. refl) refl c.loop-left.invariant.adds;
      body = λ outer r. ap (ahead c.loop-left.waits.waits.items) c.moved.ensures
          ∙ sym (ap (λ y. ahead c.loop-left.waits.waits.items (sequence y (seen c.args.self.now outer)
          c.loop-left.waits.depth (length c.loop-left.self.procs))) none)
          ∙ c.loop-left.invariant.body outer r;
    }

pub function-bind_all-requires : goal.function-bind_all-requires
function-bind_all-requires t c =
    ap length c.as_slice.ensures ∙ sym c.len-count.ensures
    ∙ sym (counted_long (λ i. Local i) c.len-count.result 0) ∙ sym (ap length c.in_ok-operands.ensures)
    ∙ sym (ap length c.as_slice-2.ensures)

-- what is known in a function's body
known_in_function : (t : ℕ) (c : function-In_ok-bind_all t)
    → known c.bind_all.new.self ≡ with_parameters (names_of c.args.params.now) (known c.args.self.now.names)
known_in_function t c =
    operands_are (λ i. Local i) c.args.params.now c.as_slice.result.now c.as_slice-2.result.now c.len-count.result 0
    (known c.args.self.now.names) (known c.bind_all.new.self) c.as_slice.ensures
    (c.as_slice-2.ensures ∙ c.in_ok-operands.ensures) c.len-count.ensures c.in_ok-bind_all.ensures.known

pub function-returns : goal.function-returns
function-returns t c =
    let names : List ℕ = names_of c.args.params.now in
    let s : Scope = known c.args.self.now.names in
    let term : RowTerm = row_term_of c.args.body.now in
    let undo = c.in_ok-undo.ensures in
    let inside = known_in_function t (goal.at.function-returns t c).In_ok-bind_all in
    let long = c.in_ok-params.ensures ∙ c.len-count.ensures ∙ sym (names_long c.args.params.now) in
    record {
      kept =
          undone_kept c.args.self.now.names c.code.new.self.names c.undo.new.self c.mark-mark.result
          c.mark-mark.ensures (opened_kept c.args.self.now.names c.bind_all.new.self c.code.new.self.names
          c.in_ok-bind_all.ensures.opened c.in_ok-body.ensures.kept) undo.known undo.before;
      adds =
          function_adds names s (known c.bind_all.new.self) (state c.args.self.now)
          (state_of c.bind_all.new.self c.args.self.now.procs) (state c.code.new.self)
          (state_of c.undo.new.self c.code.new.self.procs) (free_names term) (procs_of term) (made term) inside
          c.in_ok-bind_all.ensures.captured refl undo.captured refl c.in_ok-body.ensures.adds;
      params = long;
      body = λ outer r. function_body names s (known c.bind_all.new.self) outer term c.in_ok-params.params
          (length c.args.self.now.procs) (length c.args.self.now.procs) (body_of c.in_ok-body.body) inside long refl
          (c.in_ok-body.ensures.body outer (subst (λ k. Reaches k outer) undo.captured r));
    }

pub functions-loop-left-init : goal.functions-loop-left-init
functions-loop-left-init t c =
    record {
      kept = kept_none c.args.self.now.names c.args.self.now.names refl refl;
      adds = λ end x. x;
      count = ap (λ fs. length fs + row_member_count (row_members_of c.args.members.now)) c.new-functions.ensures.items
          ∙ omega arith;
      bodies = λ outer r. ap (λ fs. parts_of fs ++ bodies (seen c.args.self.now outer)
          (row_members_of c.args.members.now) (length c.args.self.now.procs)) c.new-functions.ensures.items;
      smaller = omega arith;
    }

pub functions-loop-left-preserved : goal.functions-loop-left-preserved
functions-loop-left-preserved t c =
    let first = c.in-Cons.first.value in
    let s : Scope = known c.args.self.now.names in
    let name : ℕ = (out-CoerMember first).name.0 in
    let type : ℕ = (out-CoerMember first).ty.0 in
    let parameters : List ℕ = names_of (out-CoerMember c.deref.result.now).params in
    let t : RowTerm = row_term_of (out-CoerMember c.deref-in-Cons.result.now).body in
    let left : RowMembers = row_members_of c.loop-left.left.now in
    let rest : RowMembers = row_members_of c.deref-left.result.now in
    let l : left ≡ RowMemberThen name parameters t type rest =
    ap row_members_of c.in-Cons.is
    ∙ ap (λ x. RowMemberThen name (names_of (out-CoerMember x).params) (row_term_of (out-CoerMember first).body)
    type
    (row_members_of c.in-Cons.rest.value)) (sym c.deref.ensures)
    ∙ ap (λ x. RowMemberThen name parameters (row_term_of (out-CoerMember x).body) type
    (row_members_of c.in-Cons.rest.value)) (sym c.deref-in-Cons.ensures)
    ∙ ap (λ x. RowMemberThen name parameters t type (row_members_of x)) (sym c.deref-left.ensures) in
    let p : Made s (state c.loop-left.self) (state c.function.new.self) parameters t c.in_ok-function.field-0 =
    made_same {a = state c.loop-left.self} {b = state c.function.new.self} c.loop-left.invariant.kept.scope (record {
      adds = c.in_ok-function.ensures.adds;
      params = c.in_ok-function.ensures.params;
      body = c.in_ok-function.ensures.body;
    }) in
    record {
      kept = kept_then c.args.self.now.names c.loop-left.self.names c.function.new.self.names
          c.loop-left.invariant.kept c.in_ok-function.ensures.kept;
      adds = functions_adds l p c.loop-left.invariant.adds;
      count =
          let longer : length c.push.new.self.items ≡ suc (length c.loop-left.functions.items) =
          ap length c.in_ok-push.ensures.items ∙ count_more c.loop-left.functions.items c.in_ok-function.field-0 in
          let one : row_member_count left ≡ suc (row_member_count rest) = ap row_member_count l in
          let whole : length c.loop-left.functions.items + row_member_count left
          ≡ row_member_count (row_members_of c.args.members.now) = c.loop-left.invariant.count in
          omega arith;
      bodies = functions_more s (state c.loop-left.self) (state c.function.new.self) name parameters t type
          c.in_ok-function.field-0 left rest c.loop-left.functions.items c.push.new.self.items
          (λ outer. bodies (seen c.args.self.now outer) (row_members_of c.args.members.now)
          (length c.args.self.now.procs)) l c.in_ok-push.ensures.items p c.loop-left.invariant.bodies;
      smaller = search (rules, member_lemmas);
    }

pub functions-returns : goal.functions-returns
functions-returns t c =
    let left : RowMembers = row_members_of c.loop-left.left.now in
    let empty : left ≡ NoRowMembers = ap row_members_of c.in_default.is in
    let none : row_member_count left ≡ 0 = ap row_member_count empty in
    let whole : length c.loop-left.functions.items + row_member_count left
    ≡ row_member_count (row_members_of c.args.members.now) = c.loop-left.invariant.count in
    record {
      kept = c.loop-left.invariant.kept;
      adds =
          all_added free_names_of_members procs_in made_in empty refl (λ n. refl) refl c.loop-left.invariant.adds;
      count = omega arith;
      bodies = λ outer r. sym (append-nil (parts_of c.loop-left.functions.items))
          ∙ sym (ap (λ x. parts_of c.loop-left.functions.items ++ bodies (seen c.args.self.now outer) x
          (length c.loop-left.self.procs)) empty) ∙ c.loop-left.invariant.bodies outer r;
    }

-- the function is converted
lambda_converted : (t : ℕ) (c : lambda-After-close t)
    → Converted [] (alone (names_of c.args.params.now) (row_term_of c.args.body.now) 0) c.args.self.now.procs
    c.function.new.self.procs c.function.new.self.names.captured (parts_of (c.in_ok-function.function ∷ []))
lambda_converted t c =
    alone_converted (names_of c.args.params.now) (row_term_of c.args.body.now) (known c.replace-outside.new.dest)
    (state_of c.replace-outside.new.dest c.args.self.now.procs) (state c.function.new.self) c.in_ok-function.function
    (ap known c.replace-outside.ensures.after ∙ c.new.ensures.known)
    (ap (λ n. n.captured) c.replace-outside.ensures.after ∙ c.new.ensures.captured) (record {
      adds = c.in_ok-function.ensures.adds;
      params = c.in_ok-function.ensures.params;
      body = c.in_ok-function.ensures.body;
    })

-- and becomes a procedure
lambda_closes : (t : ℕ) (c : lambda-After-close t)
    → OnOk c.close.result (Closes c.args.self.now.names c.function.new.self.names (c.in_ok-function.function ∷ [])
    c.function.new.self.procs (state c.close.new.self) c.args.waits.now.waits.items c.close.new.waits.waits.items
    c.args.waits.now.depth c.close.new.waits.depth)
lambda_closes t c =
    let f = c.in_ok-function.function in
    on_ok_then c.close.result (closes_same c.replace-inside.new.dest c.args.self.now.names c.replace-inside.result
    c.function.new.self.names c.push.new.self.items (f ∷ []) c.function.new.self.procs (state c.close.new.self)
    c.args.waits.now.waits.items c.close.new.waits.waits.items c.args.waits.now.depth c.close.new.waits.depth
    (c.replace-inside.ensures.after ∙ c.replace-outside.ensures.value) c.replace-inside.ensures.value
    (c.in_ok-push.ensures.items ∙ ap (λ fs. fs ++ f ∷ []) c.new-functions.ensures.items))
    (closes_ok c.close.result c.replace-inside.new.dest c.replace-inside.result c.push.new.self.items
    c.function.new.self.procs (state c.close.new.self) c.args.waits.now.waits.items c.close.new.waits.waits.items
    c.args.waits.now.depth c.close.new.waits.depth c.close.ensures.captured c.close.ensures.procs
    c.close.ensures.count c.close.ensures.waits c.close.ensures.depth)

pub lambda-returns : goal.lambda-returns
lambda-returns t c =
    let k = (goal.at.lambda-returns t c).After-close in
    let parameters : List ℕ = names_of c.args.params.now in
    let term : RowTerm = row_term_of c.args.body.now in
    let s : Scope = known c.args.self.now.names in
    let own = parts_of (c.in_ok-function.function ∷ []) in
    record {
      kept =
          on_ok_then c.close.result (subst (λ n. Kept n c.close.new.self.names)
          (c.replace-inside.ensures.after ∙ c.replace-outside.ensures.value)) c.close.ensures.kept;
      adds =
          on_ok_then c.close.result (λ x. alone_adds parameters term s (state c.args.self.now)
          (state c.close.new.self)
          (group_adds [] (alone parameters term 0) s (state c.args.self.now) (state c.close.new.self)
          c.function.new.self.procs c.function.new.self.names.captured own 1 refl (lambda_converted t k) x.captured
          x.procs x.count)) (lambda_closes t k);
      waits =
          on_ok_then c.close.result (λ x. λ outer r.
          group_waits [] (alone parameters term 0) s outer (state c.args.self.now) c.function.new.self.procs
          c.function.new.self.names.captured own c.args.waits.now.waits.items c.close.new.waits.waits.items
          c.args.waits.now.depth 1 (lambda_converted t k) (x.waits outer r)) (lambda_closes t k);
    }

pub group-returns-then-count-eq0 : goal.group-returns-then-count-eq0
group-returns-then-count-eq0 t c =
    let members : RowMembers = row_members_of c.args.members.now in
    let none : length (row_member_names members) ≡ 0 =
    names_count c.in_ok-names.names (row_member_names members) c.len-count.result c.in_ok-names.ensures
    c.len-count.ensures ∙ c.if-count-eq0.true in
    record {
      opened = opened_none c.args.self.now.names;
      hides = no_hides members (known c.args.self.now.names) none;
      adds = no_adds members (known c.args.self.now.names) (state c.args.self.now) none;
      body = λ outer r body. no_group_body members body (seen c.args.self.now outer) c.args.waits.now.waits.items
          c.args.waits.now.depth (length c.args.self.now.procs) none;
    }

pub group-bind_all-requires : goal.group-bind_all-requires
group-bind_all-requires t c =
    ap length c.as_slice.ensures ∙ sym c.len-count.ensures
    ∙ sym (counted_long (λ i. Sibling i) c.len-count.result 0) ∙ sym (ap length c.in_ok-siblings.ensures)
    ∙ sym (ap length c.as_slice-2.ensures)

pub group-bind_all-requires-2 : goal.group-bind_all-requires-2
group-bind_all-requires-2 t c =
    ap length c.as_slice-3.ensures ∙ sym c.len-count.ensures
    ∙ sym (counted_long (λ i. Local i) c.len-count.result c.args.waits.now.depth)
    ∙ sym (ap length c.in_ok-locals.ensures) ∙ sym (ap length c.as_slice-4.ensures)

-- what is known in the functions of a group
known_in_group : (t : ℕ) (c : group-After-bind_all-2 t)
    → known c.replace-outside.new.dest ≡ with_siblings (row_member_names (row_members_of c.args.members.now))
known_in_group t c =
    let names : List ℕ = row_member_names (row_members_of c.args.members.now) in
    ap known c.replace-outside.ensures.after
    ∙ operands_are (λ i. Sibling i) c.in_ok-names.names c.as_slice.result.now c.as_slice-2.result.now
    c.len-count.result 0 (known c.new-inside.result) (known c.bind_all.new.self) c.as_slice.ensures
    (c.as_slice-2.ensures ∙ c.in_ok-siblings.ensures) c.len-count.ensures c.in_ok-bind_all.ensures.known
    ∙ ap (λ ns. bind_operands ns (numbered (λ i. Sibling i) ns 0) (known c.new-inside.result)) c.in_ok-names.ensures
    ∙ ap (bind_operands names (numbered (λ i. Sibling i) names 0)) c.new-inside.ensures.known

-- its functions are converted
group_converted : (t : ℕ) (c : group-After-bind_all-2 t)
    → Converted (row_member_names (row_members_of c.args.members.now)) (row_members_of c.args.members.now)
    c.args.self.now.procs c.functions.new.self.procs c.functions.new.self.names.captured
    (parts_of c.in_ok-functions.functions.items)
group_converted t c =
    let members : RowMembers = row_members_of c.args.members.now in
    let nothing : [] ≡ c.replace-outside.new.dest.captured =
    sym (ap (λ n. n.captured) c.replace-outside.ensures.after
    ∙ c.in_ok-bind_all.ensures.captured ∙ c.new-inside.ensures.captured) in
    record {
      adds = adds_between (known c.replace-outside.new.dest) (with_siblings (row_member_names members))
          (state_of c.replace-outside.new.dest c.args.self.now.procs) (state c.functions.new.self)
          (record { captured = []; procs = c.args.self.now.procs }) (state c.functions.new.self)
          (free_names_of_members members) (procs_in members) (made_in members) (known_in_group t c) nothing refl refl
          refl
          c.in_ok-functions.ensures.adds;
      bodies = λ outer r. c.in_ok-functions.ensures.bodies outer r
          ∙ ap (λ x. bodies (over x outer) members (length c.args.self.now.procs)) (known_in_group t c);
    }

-- they become procedures
group_closes : (t : ℕ) (c : group-After-bind_all-2 t)
    → Closes c.args.self.now.names c.functions.new.self.names c.in_ok-functions.functions.items
    c.functions.new.self.procs (state c.close.new.self) c.args.waits.now.waits.items
    c.close.new.waits.waits.items c.args.waits.now.depth c.close.new.waits.depth
group_closes t c =
    closes_same c.replace-inside.new.dest c.args.self.now.names c.replace-inside.result
    c.functions.new.self.names c.in_ok-functions.functions.items c.in_ok-functions.functions.items
    c.functions.new.self.procs (state c.close.new.self) c.args.waits.now.waits.items c.close.new.waits.waits.items
    c.args.waits.now.depth c.close.new.waits.depth (c.replace-inside.ensures.after ∙ c.replace-outside.ensures.value)
    c.replace-inside.ensures.value refl (record {
      captured = c.in_ok-close.ensures.captured;
      procs = c.in_ok-close.ensures.procs;
      count = c.in_ok-close.ensures.count;
      waits = c.in_ok-close.ensures.waits;
      depth = c.in_ok-close.ensures.depth;
    })

-- so much is added
added_by_group : (t : ℕ) (c : group-After-bind_all-2 t)
    → Adds (known c.args.self.now.names) (state c.args.self.now) (state c.close.new.self)
    (names_besides (row_member_names (row_members_of c.args.members.now))
    (free_names_of_members (row_members_of c.args.members.now))) (group_procs (row_members_of c.args.members.now))
    (made_in (row_members_of c.args.members.now) + row_member_count (row_members_of c.args.members.now))
added_by_group t c =
    let members : RowMembers = row_members_of c.args.members.now in
    let closes = group_closes t c in
    group_adds (row_member_names members) members (known c.args.self.now.names) (state c.args.self.now)
    (state c.close.new.self) c.functions.new.self.procs c.functions.new.self.names.captured
    (parts_of c.in_ok-functions.functions.items) (length c.in_ok-functions.functions.items)
    c.in_ok-functions.ensures.count (group_converted t c) closes.captured closes.procs closes.count

-- and what is known behind it
known_behind_group : (t : ℕ) (c : group-After-bind_all-2 t)
    → known c.bind_all-2.new.self
    ≡ bind_operands (names_of c.as_slice-3.result.now) c.as_slice-4.result.now (known c.close.new.self.names)
    → known c.bind_all-2.new.self ≡ bind_operands (row_member_names (row_members_of c.args.members.now))
    (numbered (λ i. Local i) (row_member_names (row_members_of c.args.members.now)) c.args.waits.now.depth)
    (known c.args.self.now.names)
known_behind_group t c k =
    let names : List ℕ = row_member_names (row_members_of c.args.members.now) in
    let d : ℕ = c.args.waits.now.depth in
    operands_are (λ i. Local i) c.in_ok-names.names c.as_slice-3.result.now c.as_slice-4.result.now
    c.len-count.result d (known c.close.new.self.names) (known c.bind_all-2.new.self) c.as_slice-3.ensures
    (c.as_slice-4.ensures ∙ c.in_ok-locals.ensures) c.len-count.ensures k
    ∙ ap (λ ns. bind_operands ns (numbered (λ i. Local i) ns d) (known c.close.new.self.names))
    c.in_ok-names.ensures
    ∙ ap (bind_operands names (numbered (λ i. Local i) names d))
    (c.in_ok-close.ensures.kept.scope ∙ ap known (c.replace-inside.ensures.after ∙ c.replace-outside.ensures.value))

pub group-returns : goal.group-returns
group-returns t c =
    let g = (goal.at.group-returns t c).After-bind_all-2 in
    let members : RowMembers = row_members_of c.args.members.now in
    let names : List ℕ = row_member_names members in
    let s : Scope = known c.args.self.now.names in
    let d : ℕ = c.args.waits.now.depth in
    let many : ℕ = length c.in_ok-functions.functions.items in
    let closes = group_closes t g in
    let long : many ≡ length names = c.in_ok-functions.ensures.count ∙ sym (member_count members) in
    let counted : length names ≡ c.len-count.result =
    names_count c.in_ok-names.names names c.len-count.result c.in_ok-names.ensures c.len-count.ensures in
    let some : 0 < length names = omega (arith, counted, c.if-count-eq0.false) in
    let later : length c.close.new.self.procs
    ≡ length c.args.self.now.procs + made_in members + row_member_count members =
    let e : length c.close.new.self.procs
    ≡ length c.args.self.now.procs + (made_in members + row_member_count members) = (added_by_group t g).count in
    omega arith in
    record {
      opened =
          on_ok_then c.bind_all-2.result (kept_opened c.args.self.now.names c.close.new.self.names c.bind_all-2.new.self
          (subst (λ n. Kept n c.close.new.self.names)
          (c.replace-inside.ensures.after ∙ c.replace-outside.ensures.value) c.in_ok-close.ensures.kept))
          c.bind_all-2.ensures.opened;
      hides =
          on_ok_then c.bind_all-2.result (λ k. subst (λ x. Hides names x s) (sym (known_behind_group t g k))
          (bound_hide names (numbered (λ i. Local i) names d) s (numbered_long (λ i. Local i) names d)))
          c.bind_all-2.ensures.known;
      adds =
          on_ok_then c.bind_all-2.result (λ k. adds_between s s (state c.args.self.now) (state c.close.new.self)
          (state c.args.self.now) (state_of c.bind_all-2.new.self c.close.new.self.procs)
          (names_besides names (free_names_of_members members)) (group_procs members)
          (made_in members + row_member_count members) refl refl refl k refl (added_by_group t g))
          c.bind_all-2.ensures.captured;
      body =
          on_ok_both c.bind_all-2.result (λ k e. λ outer r body.
          group_body members body s (known c.bind_all-2.new.self) outer c.args.waits.now.waits.items
          c.close.new.waits.waits.items (numbered (λ i. Local i) names d) d c.close.new.waits.depth many
          (length c.args.self.now.procs) (length c.close.new.self.procs) some long closes.depth refl
          (known_behind_group t g k)
          later (group_waits names members s outer (state c.args.self.now) c.functions.new.self.procs
          c.functions.new.self.names.captured (parts_of c.in_ok-functions.functions.items)
          c.args.waits.now.waits.items c.close.new.waits.waits.items d many (group_converted t g)
          (closes.waits outer (subst (λ x. Reaches x outer) e r))))
          c.bind_all-2.ensures.known c.bind_all-2.ensures.captured;
    }

pub bindings-bind_all-requires : goal.bindings-bind_all-requires
bindings-bind_all-requires t c =
    ap length c.as_slice.ensures ∙ c.in_ok-names.ensures.same ∙ sym (ap length c.as_slice-2.ensures)

-- what is known behind bindings
known_behind_bindings : (t : ℕ) (c : bindings-After-bind_all t)
    → known c.bind_all.new.self ≡ bind_operands (names_of c.as_slice.result.now) c.as_slice-2.result.now
    (known c.gather_bindings.new.self.names)
    → known c.bind_all.new.self
    ≡ bind_operands (names_of c.in_ok-names.names) c.in_ok-names.operands (known c.args.self.now.names)
known_behind_bindings t c k =
    let names : List ℕ = names_of c.in_ok-names.names in
    k ∙ ap (λ x. bind_operands (names_of x) c.as_slice-2.result.now (known c.gather_bindings.new.self.names))
    c.as_slice.ensures
    ∙ ap (λ x. bind_operands names x (known c.gather_bindings.new.self.names)) c.as_slice-2.ensures
    ∙ ap (bind_operands names c.in_ok-names.operands) c.in_ok-names.ensures.kept.scope

pub bindings-returns : goal.bindings-returns
bindings-returns t c =
    let b = (goal.at.bindings-returns t c).After-bind_all in
    let rows : RowBindings = row_bindings_of c.args.bindings.now in
    let s : Scope = known c.args.self.now.names in
    let names : List ℕ = names_of c.in_ok-names.names in
    record {
      opened =
          on_ok_then c.bind_all.result (kept_opened c.args.self.now.names c.gather_bindings.new.self.names
          c.bind_all.new.self c.in_ok-names.ensures.kept) c.bind_all.ensures.opened;
      hides =
          on_ok_then c.bind_all.result (λ k. subst (λ x. Hides x (known c.bind_all.new.self) s)
          c.in_ok-names.ensures.names (subst (λ x. Hides names x s) (sym (known_behind_bindings t b k))
          (bound_hide names c.in_ok-names.operands s
          (names_long c.in_ok-names.names ∙ c.in_ok-names.ensures.same)))) c.bind_all.ensures.known;
      adds =
          on_ok_then c.bind_all.result (λ k. adds_between s s (state c.args.self.now)
          (state c.gather_bindings.new.self) (state c.args.self.now)
          (state_of c.bind_all.new.self c.gather_bindings.new.self.procs) (free_names_of_bindings rows)
          (procs_by rows) (made_by rows) refl refl refl k refl c.in_ok-names.ensures.adds)
          c.bind_all.ensures.captured;
      body =
          on_ok_both c.bind_all.result (λ k e. λ outer r body.
          let_body rows body s (known c.bind_all.new.self) outer c.args.waits.now.waits.items
          c.gather_bindings.new.waits.waits.items names c.in_ok-names.operands c.args.waits.now.depth
          c.gather_bindings.new.waits.depth (length c.args.self.now.procs) (length c.gather_bindings.new.self.procs)
          c.in_ok-names.ensures.names (known_behind_bindings t b k) c.in_ok-names.ensures.adds.count
          (c.in_ok-names.ensures.gathered outer (subst (λ x. Reaches x outer) e r)))
          c.bind_all.ensures.known c.bind_all.ensures.captured;
    }

pub code-returns : goal.code-returns
code-returns t c =
    let s : Scope = known c.args.self.now.names in
    let term : RowTerm = row_term_of c.args.term.now in
    let last = c.in_ok-last.ensures in
    let undo = c.in_ok-undo.ensures in
    record {
      kept =
          in_any_case c.ahead_of.result (undone_kept c.args.self.now.names c.last.new.self.names c.undo.new.self
          c.mark-mark.result c.mark-mark.ensures last.opened undo.known undo.before);
      adds =
          in_any_case c.ahead_of.result (adds_between s s (state c.args.self.now) (state c.last.new.self)
          (state c.args.self.now) (state_of c.undo.new.self c.last.new.self.procs) (free_names term) (procs_of term)
          (made term) refl refl refl undo.captured refl last.adds);
      body =
          if_ok_then c.ahead_of.result (λ x e. λ outer r.
          e ∙ last.body outer (subst (λ k. Reaches k outer) undo.captured r)
          ∙ ap (λ w. ahead w (code term (seen c.args.self.now outer) c.new-waits.result.depth
          (length c.args.self.now.procs))) c.new-waits.ensures.waits
          ∙ ap (λ d. code term (seen c.args.self.now outer) d (length c.args.self.now.procs))
          c.new-waits.ensures.depth) c.ahead_of.ensures;
    }

-- a form of a part in a box, by the part
boxed : {whole : RowTerm} {part inner : CoerTerm} (form : RowTerm → RowTerm) → whole ≡ form (row_term_of inner)
    → part ≡ inner → whole ≡ form (row_term_of part)
boxed form e f = e ∙ ap (λ x. form (row_term_of x)) (sym f)

pub last-returns : goal.last-returns
last-returns t c =
    let before = c.args.self.now in
    let v = c.args.waits.now in
    let opens = λ (n : Names) (k : Kept before.names n). opened_kept before.names before.names n
    (opened_none before.names) k in
    let e : Ends before c.match-term.self v c.match-term.waits c.args.term.now c.match-term.last =
    elim c.match-term.branch [
      | goal.last-in-Int w ↦
          let fits : SFits w64 w.in-Int.n = search rules in
          ends (RowInt w.in-Int.n) (ap row_term_of w.in-Int.is) w.self-is w.waits-is w.last-is
          (opened_none before.names)
          (constant_ends (RowInt w.in-Int.n) (IntConst w.in-Int.n) refl (λ n. refl) refl (λ scope n. refl)
          (simp to_z-of_z at w.moved-last.ensures))
      | goal.last-in-Bool w ↦
          ends (RowBool w.in-Bool.b) (ap row_term_of w.in-Bool.is) w.self-is w.waits-is w.last-is
          (opened_none before.names)
          (constant_ends (RowBool w.in-Bool.b) (BoolConst w.in-Bool.b) refl (λ n. refl) refl (λ scope n. refl)
          w.moved-last-in-Bool.ensures)
      | goal.last-in-Unit w ↦
          ends RowUnit (ap row_term_of w.in-Unit.is) w.self-is w.waits-is w.last-is (opened_none before.names)
          (constant_ends RowUnit UnitConst refl (λ n. refl) refl (λ scope n. refl) w.moved-last-in-Unit.ensures)
      | goal.last-in-Var+in_ok-operand-in-Var w ↦
          ends (RowVar w.in-Var.name.0) (ap row_term_of w.in-Var.is) w.self-is w.waits-is w.last-is
          (opens w.operand.new.self w.in_ok-operand-in-Var.ensures.kept)
          (name_ends w.in-Var.name.0 w.in_ok-operand-in-Var.field-0 w.in_ok-operand-in-Var.ensures.captured refl
          w.in_ok-operand-in-Var.ensures.meaning w.moved-last-in-Var.ensures)
      | goal.last-in-Lambda+in_ok-lambda-in-Lambda w ↦
          let parameters : List ℕ = names_of w.in-Lambda.params in
          let type : ℕ = w.in-Lambda.field-2.0 in
          ends (RowLambda parameters (row_term_of w.deref.result.now) type)
          (boxed (λ x. RowLambda parameters x type) (ap row_term_of w.in-Lambda.is) w.deref.ensures)
          w.self-is w.waits-is w.last-is (opens w.lambda.new.self.names w.in_ok-lambda-in-Lambda.ensures.kept)
          (lambda_ends w.lambda.new.waits.waits.items w.in_ok-lambda-in-Lambda.ensures.adds
          w.in_ok-lambda-in-Lambda.ensures.waits
          (ap (ahead w.lambda.new.waits.waits.items) w.moved-last-in-Lambda.ensures))
      | goal.last-in-Group+in_ok-group-in-Group+in_ok-last-in-Group w ↦
          let t : RowTerm = row_term_of w.deref-in-Group.result.now in
          let members : RowMembers = row_members_of w.in-Group.members in
          let g = w.in_ok-group-in-Group.ensures in
          ends (RowGroup members t)
          (boxed (RowGroup members) (ap row_term_of w.in-Group.is) w.deref-in-Group.ensures) w.self-is w.waits-is
          w.last-is
          (opened_then before.names w.group.new.self.names w.last.new.self.names g.opened
          w.in_ok-last-in-Group.ensures.opened)
          (body_goes_on (RowGroup members t) t (group_goes_on members t g.hides g.adds) (λ outer r. g.body outer r t)
          (record { adds = w.in_ok-last-in-Group.ensures.adds; at = w.in_ok-last-in-Group.ensures.body }))
      | goal.last-in-Let+in_ok-bindings-in-Let+in_ok-last-in-Let w ↦
          let t : RowTerm = row_term_of w.deref-in-Let.result.now in
          let bindings : RowBindings = row_bindings_of w.in-Let.bindings in
          let g = w.in_ok-bindings-in-Let.ensures in
          ends (RowLet bindings t)
          (boxed (RowLet bindings) (ap row_term_of w.in-Let.is) w.deref-in-Let.ensures) w.self-is w.waits-is w.last-is
          (opened_then before.names w.bindings.new.self.names w.last-in-Let.new.self.names g.opened
          w.in_ok-last-in-Let.ensures.opened)
          (body_goes_on (RowLet bindings t) t (let_goes_on bindings t g.hides g.adds) (λ outer r. g.body outer r t)
          (record { adds = w.in_ok-last-in-Let.ensures.adds; at = w.in_ok-last-in-Let.ensures.body }))
      | goal.last-in-Call+in_ok-function-in-Call+in_ok-operands-in-Call w ↦
          let terms : RowTerms = row_terms_of w.in-Call.arguments in
          let p = w.in_ok-function-in-Call.ensures in
          let g = w.in_ok-operands-in-Call.ensures in
          ends (RowCall (row_term_of w.deref-in-Call.result.now) terms)
          (boxed (λ x. RowCall x terms) (ap row_term_of w.in-Call.is) w.deref-in-Call.ensures)
          w.self-is w.waits-is w.last-is
          (opens w.gather.new.self.names
          (kept_then before.names w.place.new.self.names w.gather.new.self.names p.kept g.kept))
          (call_ends
          (placed_by before w.place.new.self v w.place.new.waits w.deref-in-Call.result.now
          w.in_ok-function-in-Call.function refl p.adds p.placed)
          (gathered_by w.place.new.self w.gather.new.self w.place.new.waits w.gather.new.waits w.in-Call.arguments
          w.in_ok-operands-in-Call.operands p.kept.scope g.adds g.gathered) refl)
      | goal.last-in-If+in_ok-operand-in-If+in_ok-one-in-If+in_ok-other-in-If w ↦
          let d : ℕ = w.place-in-If.new.waits.depth in
          let t : RowTerm = row_term_of w.deref-in-If.result.now in
          let u : RowTerm = row_term_of w.deref-in-If-2.result.now in
          let p = w.in_ok-operand-in-If.ensures in
          let one = rw w.in_ok-one-in-If.ensures at w.code.ensures in
          let other = rw w.in_ok-other-in-If.ensures at w.code-in-If.ensures in
          ends (RowIf t u (row_term_of w.deref-in-If-3.result.now))
          (ap row_term_of w.in-If.is
          ∙ ap (λ x. RowIf (row_term_of x) (row_term_of w.in-If.on_true.value) (row_term_of w.in-If.on_false.value))
          (sym w.deref-in-If.ensures)
          ∙ ap (λ x. RowIf t (row_term_of x) (row_term_of w.in-If.on_false.value)) (sym w.deref-in-If-2.ensures)
          ∙ ap (λ x. RowIf t u (row_term_of x)) (sym w.deref-in-If-3.ensures)) w.self-is w.waits-is w.last-is
          (opens w.code-in-If.new.self.names
          (kept_then before.names w.code.new.self.names w.code-in-If.new.self.names
          (kept_then before.names w.place-in-If.new.self.names w.code.new.self.names p.kept one.kept) other.kept))
          (if_ends
          (placed_by before w.place-in-If.new.self v w.place-in-If.new.waits w.deref-in-If.result.now
          w.in_ok-operand-in-If.operand refl p.adds p.placed)
          (coded_by w.place-in-If.new.self w.code.new.self d w.deref-in-If-2.result.now w.in_ok-one-in-If.one.value
          p.kept.scope one.adds one.body)
          (coded_by w.code.new.self w.code-in-If.new.self d w.deref-in-If-3.result.now w.in_ok-other-in-If.other.value
          (one.kept.scope ∙ p.kept.scope) other.adds other.body) refl)
      | goal.last-in-Seq+in_ok-last-in-Seq w ↦
          let g = w.in_ok-last-in-Seq.ensures in
          ends (RowSeq (row_terms_of w.in-Seq.terms)) (ap row_term_of w.in-Seq.is) w.self-is w.waits-is w.last-is
          (opens w.sequence.new.self.names g.kept) (record { adds = g.adds; at = g.body })
      | goal.last-in-Coerce+in_ok-operand-in-Coerce w ↦
          let p = w.in_ok-operand-in-Coerce.ensures in
          ends (RowCast (row_term_of w.deref-in-Coerce.result.now) w.in-Coerce.number)
          (boxed (λ x. RowCast x w.in-Coerce.number) (ap row_term_of w.in-Coerce.is) w.deref-in-Coerce.ensures)
          w.self-is w.waits-is w.last-is (opens w.place-in-Coerce.new.self.names p.kept)
          (cast_ends
          (placed_by before w.place-in-Coerce.new.self v w.place-in-Coerce.new.waits w.deref-in-Coerce.result.now
          w.in_ok-operand-in-Coerce.operand refl p.adds p.placed) refl)
      | goal.last-in-Proj+in_ok-operand-in-Proj w ↦
          let fits : SFits w64 w.in-Proj.k = search rules in
          let p = w.in_ok-operand-in-Proj.ensures in
          ends (RowProj (row_term_of w.deref-in-Proj.result.now) w.in-Proj.k)
          (boxed (λ x. RowProj x w.in-Proj.k) (ap row_term_of w.in-Proj.is) w.deref-in-Proj.ensures) w.self-is
          w.waits-is (simp to_z-of_z at w.last-is) (opens w.place-in-Proj.new.self.names p.kept)
          (proj_ends
          (placed_by before w.place-in-Proj.new.self v w.place-in-Proj.new.waits w.deref-in-Proj.result.now
          w.in_ok-operand-in-Proj.operand refl p.adds p.placed) refl)
      | goal.last-in-ProjDyn+in_ok-operand-in-ProjDyn w ↦
          let fits : SFits w64 w.in-ProjDyn.k = search rules in
          let p = w.in_ok-operand-in-ProjDyn.ensures in
          ends (RowProjDyn (row_term_of w.deref-in-ProjDyn.result.now) w.in-ProjDyn.k w.in-ProjDyn.label.0)
          (boxed (λ x. RowProjDyn x w.in-ProjDyn.k w.in-ProjDyn.label.0) (ap row_term_of w.in-ProjDyn.is)
          w.deref-in-ProjDyn.ensures) w.self-is w.waits-is (simp to_z-of_z at w.last-is)
          (opens w.place-in-ProjDyn.new.self.names p.kept)
          (proj_dyn_ends
          (placed_by before w.place-in-ProjDyn.new.self v w.place-in-ProjDyn.new.waits w.deref-in-ProjDyn.result.now
          w.in_ok-operand-in-ProjDyn.operand refl p.adds p.placed) refl)
      | goal.last-in-Tuple+in_ok-operands-in-Tuple w ↦
          let g = w.in_ok-operands-in-Tuple.ensures in
          ends (RowTuple (row_terms_of w.in-Tuple.parts)) (ap row_term_of w.in-Tuple.is) w.self-is w.waits-is w.last-is
          (opens w.gather-in-Tuple.new.self.names g.kept)
          (tuple_ends
          (gathered_by before w.gather-in-Tuple.new.self v w.gather-in-Tuple.new.waits w.in-Tuple.parts
          w.in_ok-operands-in-Tuple.operands refl g.adds g.gathered) refl)
      | goal.last-in-Prim+in_ok-operands-in-Prim w ↦
          let g = w.in_ok-operands-in-Prim.ensures in
          ends (RowPrim w.in-Prim.operator (row_terms_of w.in-Prim.terms)) (ap row_term_of w.in-Prim.is) w.self-is
          w.waits-is w.last-is (opens w.gather-in-Prim.new.self.names g.kept)
          (prim_ends
          (gathered_by before w.gather-in-Prim.new.self v w.gather-in-Prim.new.waits w.in-Prim.terms
          w.in_ok-operands-in-Prim.operands refl g.adds g.gathered) refl)
    ] in
    record { opened = e.opened; adds = e.ended.adds; body = e.ended.at }
