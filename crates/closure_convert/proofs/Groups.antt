-- Groups: the procedures of their functions, and what they capture.
use Rattle.std.proofs.Common.{◌≡◌, ℕ, suc, ◌+◌, List, [], ◌∷◌, ◌++◌, length, refl, sym, ap, ◌∙◌, arith}
use Rattle.std.proofs.Common.{append_assoc, append-nil}
use Rattle.flat_ir.specs.Bodies.{Body, LetGroup}
use Rattle.flat_ir.specs.declared.code.Operand.TheVariants.{Sibling}
use Rattle.flat_ir.specs.declared.programs.FlatProc.{FlatProc}
use Rattle.flat_ir.specs.Views.{body_of, procs_of as procs_in_memory}
use Rattle.coer_core.specs.Terms.{RowTerm, RowMembers, NoRowMembers, RowMemberThen, RowLambda}
use Rattle.coer_core.specs.Counts.{names_besides, free_names, free_names_of_members, row_member_names}
use Rattle.coer_core.specs.Counts.{row_member_count}
use Rattle.closure_convert.specs.declared.conversion.Function.{Function}
use Rattle.closure_convert.specs.declared.waits.Wait.{Wait}
use Rattle.closure_convert.specs.Conversion.{Scope, alone, bind_operands, captures, captured_scope, code, fun_scope}
use Rattle.closure_convert.specs.Conversion.{group_scope, made, made_in, meanings_of, numbered, nothing_known}
use Rattle.closure_convert.specs.Conversion.{own_procs}
use Rattle.closure_convert.specs.Conversion.{procs_in, procs_of}
use Rattle.closure_convert.specs.Converting.{State, Adds, as_procs, bodies, parts_of}
use Rattle.closure_convert.specs.Scopes.{Reaches, over, with_all_free}
use Rattle.closure_convert.specs.Waits.{Puts, ahead}
use Rattle.closure_convert.proofs.Adding.{adds_between, adds_same}
use Rattle.closure_convert.proofs.Functions.{Made, made_same}
use Rattle.closure_convert.proofs.Meeting.{besides_none, free_all, free_bound, free_once, reaches_itself}
use Rattle.closure_convert.proofs.Carrying.{numbered_long}
use Rattle.closure_convert.proofs.Scoping.{over_bound}

pub member_count : (members : RowMembers) → length (row_member_names members) ≡ row_member_count members
member_count NoRowMembers = refl
member_count (RowMemberThen name parameters body type rest) = ap suc (member_count rest)

-- a group's own procedures have the bodies of its functions
pub own_bodies : (names captured : List ℕ) (group place : ℕ) (members : RowMembers) (next : ℕ)
    → own_procs names captured group place members next
    ≡ as_procs (length captured) group place (bodies (group_scope names captured) members next)
own_bodies names captured group place NoRowMembers next = refl
own_bodies names captured group place (RowMemberThen name parameters body type rest) next =
    ap (λ r. record {
      params = length parameters;
      captured = length captured;
      group = group;
      place = place;
      body = code body (fun_scope names captured parameters) (length parameters) next;
    } ∷ r) (own_bodies names captured group (suc place) rest (next + made body))

-- what is known in a group's functions, where their captured names are found
pub known_inside : (names captured : List ℕ)
    → over (bind_operands names (numbered (λ i. Sibling i) names 0) nothing_known) (captured_scope captured)
    ≡ group_scope names captured
known_inside names captured =
    over_bound names (numbered (λ i. Sibling i) names 0) nothing_known (captured_scope captured)

-- the captured names of a group are those that are met in its functions
pub captured_inside : (names : List ℕ) (members : RowMembers)
    → with_all_free (bind_operands names (numbered (λ i. Sibling i) names 0) nothing_known) []
    (free_names_of_members members) ≡ captures names members
captured_inside names members =
    free_bound names (numbered (λ i. Sibling i) names 0) nothing_known (numbered_long (λ i. Sibling i) names 0) []
    (free_names_of_members members)
    ∙ free_all (names_besides names (free_names_of_members members))

-- what is known in the functions of a group
abbrev pub with_siblings : List ℕ → Scope
with_siblings names = bind_operands names (numbered (λ i. Sibling i) names 0) nothing_known

-- the functions of a group are converted, between the procedures before and behind, and these are captured
pub record Converted (names : List ℕ) (members : RowMembers) (before behind : List FlatProc) (captured : List ℕ)
    (parts : List (ℕ × Body)) : Type 0 where
  pub adds : Adds (with_siblings names) (record { captured = []; procs = before })
      (record { captured = captured; procs = behind }) (free_names_of_members members) (procs_in members)
      (made_in members)
  pub bodies : (outer : Scope) → Reaches captured outer
      → parts ≡ bodies (over (with_siblings names) outer) members (length before)

-- it captures what it has to
pub captured_is : (names : List ℕ) (members : RowMembers) (before behind : List FlatProc) (captured : List ℕ)
    (parts : List (ℕ × Body)) → Converted names members before behind captured parts → captured ≡ captures names members
captured_is names members before behind captured parts c = c.adds.captured ∙ captured_inside names members

-- its own procedures have these bodies
pub parts_are : (names : List ℕ) (members : RowMembers) (before behind : List FlatProc) (captured : List ℕ)
    (parts : List (ℕ × Body)) (group : ℕ) → Converted names members before behind captured parts
    → as_procs (length captured) group 0 parts ≡ own_procs names (captures names members) group 0 members
    (length before)
parts_are names members before behind captured parts group c =
    ap (as_procs (length captured) group 0) (c.bodies (captured_scope captured) (reaches_itself captured)
    ∙ ap (λ s. bodies s members (length before)) (known_inside names captured))
    ∙ sym (own_bodies names captured group 0 members (length before))
    ∙ ap (λ x. own_procs names x group 0 members (length before))
    (captured_is names members before behind captured parts c)

-- what a group adds outside, where its own procedures are added
pub group_adds : (names : List ℕ) (members : RowMembers) (s : Scope) (a b : State) (behind : List FlatProc)
    (captured : List ℕ) (parts : List (ℕ × Body)) (many : ℕ) → many ≡ row_member_count members
    → Converted names members a.procs behind captured parts
    → b.captured ≡ with_all_free s a.captured captured
    → procs_in_memory b.procs ≡ procs_in_memory behind ++ as_procs (length captured) many 0 parts
    → length b.procs ≡ length behind + many
    → Adds s a b (names_besides names (free_names_of_members members))
    (λ n. procs_in members n ++ own_procs names (captures names members) (row_member_count members) 0 members n)
    (made_in members + row_member_count members)
group_adds names members s a b behind captured parts many e c f g h = record {
  captured = f ∙ ap (with_all_free s a.captured) (captured_is names members a.procs behind captured parts c)
      ∙ free_once s a.captured (names_besides names (free_names_of_members members));
  procs = g ∙ ap (λ r. r ++ as_procs (length captured) many 0 parts) c.adds.procs
      ∙ append_assoc (procs_in_memory a.procs) (procs_in members (length a.procs))
      (as_procs (length captured) many 0 parts)
      ∙ ap (λ r. procs_in_memory a.procs ++ (procs_in members (length a.procs) ++ r))
      (parts_are names members a.procs behind captured parts many c
      ∙ ap (λ k. own_procs names (captures names members) k 0 members (length a.procs)) e);
  count = let k : length behind ≡ length a.procs + made_in members = c.adds.count in omega arith;
}

-- the group stands in front of its body
pub group_waits : (names : List ℕ) (members : RowMembers) (s outer : Scope) (a : State) (behind : List FlatProc)
    (captured : List ℕ) (parts : List (ℕ × Body)) (v w : List Wait) (d many : ℕ)
    → Converted names members a.procs behind captured parts
    → Puts v w (λ r. LetGroup d (length behind) many (meanings_of captured (over s outer)) r)
    → Puts v w (λ r. LetGroup d (length a.procs + made_in members) many
    (meanings_of (captures names members) (over s outer)) r)
group_waits names members s outer a behind captured parts v w d many c p = λ r.
    p r ∙ ap (λ n. ahead v (LetGroup d n many (meanings_of captured (over s outer)) r)) c.adds.count
    ∙ ap (λ x. ahead v (LetGroup d (length a.procs + made_in members) many (meanings_of x (over s outer)) r))
    (captured_is names members a.procs behind captured parts c)

-- ---- a function that stands alone

pub alone_converted : (parameters : List ℕ) (term : RowTerm) (inside : Scope) (a b : State) (f : Function)
    → inside ≡ nothing_known → a.captured ≡ [] → Made inside a b parameters term f
    → Converted [] (alone parameters term 0) a.procs b.procs b.captured (parts_of (f ∷ []))
alone_converted parameters term inside a b f e n m =
    let x = made_same e m in record {
      adds = adds_same nothing_known (record { captured = []; procs = a.procs }) b
          (names_besides parameters (free_names term)) (names_besides parameters (free_names term) ++ [])
          (procs_of term) (λ k. procs_of term k ++ []) (made term) (made term + 0)
          (sym (append-nil (names_besides parameters (free_names term)))) (λ k. sym (append-nil (procs_of term k)))
          (omega arith) (adds_between nothing_known nothing_known a b (record { captured = []; procs = a.procs }) b
          (names_besides parameters (free_names term)) (procs_of term) (made term) refl (sym n) refl refl refl x.adds);
      bodies = λ outer r. ap (λ k. (k, body_of f.body) ∷ []) x.params
          ∙ ap (λ k. (length parameters, k) ∷ []) (x.body outer r);
    }

pub alone_adds : (parameters : List ℕ) (term : RowTerm) (s : Scope) (a b : State)
    → Adds s a b (names_besides [] (names_besides parameters (free_names term) ++ []))
    (λ n. (procs_of term n ++ []) ++ own_procs [] (captures [] (alone parameters term 0)) 1 0
    (alone parameters term 0) n) (made term + 0 + 1)
    → Adds s a b (names_besides parameters (free_names term)) (procs_of (RowLambda parameters term 0))
    (made term + 0 + 1)
alone_adds parameters term s a b x =
    let own = λ (n : ℕ). own_procs [] (captures [] (alone parameters term 0)) 1 0 (alone parameters term 0) n in
    adds_same s a b (names_besides [] (names_besides parameters (free_names term) ++ []))
    (names_besides parameters (free_names term)) (λ n. (procs_of term n ++ []) ++ own n)
    (procs_of (RowLambda parameters term 0)) (made term + 0 + 1) (made term + 0 + 1)
    (besides_none (names_besides parameters (free_names term) ++ [])
    ∙ append-nil (names_besides parameters (free_names term)))
    (λ n. ap (λ r. r ++ own n) (append-nil (procs_of term n))) refl x
