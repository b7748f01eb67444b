-- Groups and bindings: what is known in the bodies behind them.
use Rattle.std.proofs.Common.{◌≡◌, ◌<◌, ℕ, ◌+◌, List, [], length, ap, ◌∙◌, arith}
use Rattle.flat_ir.specs.declared.code.Operand.{Operand}
use Rattle.flat_ir.specs.declared.code.Operand.TheVariants.{Local}
use Rattle.flat_ir.specs.Bodies.{Body, LetGroup}
use Rattle.coer_core.specs.Terms.{RowTerm, RowMembers, RowBindings, RowGroup, RowLet, NoRowMembers, RowMemberThen}
use Rattle.coer_core.specs.Counts.{row_binding_names, row_member_count, row_member_names}
use Rattle.closure_convert.specs.declared.waits.Wait.{Wait}
use Rattle.closure_convert.specs.Conversion.{Scope, bind_operands, captures, code, gather_let, made_by, made_in}
use Rattle.closure_convert.specs.Conversion.{meanings_of}
use Rattle.closure_convert.specs.Conversion.{numbered}
use Rattle.closure_convert.specs.Scopes.{over}
use Rattle.closure_convert.specs.Waits.{Puts, ahead}
use Rattle.closure_convert.proofs.Scoping.{over_bound}

-- a body behind a group
pub group_body : (members : RowMembers) (body : RowTerm) (s inside outer : Scope) (v w : List Wait)
    (os : List Operand) (d e many next later : ℕ) → 0 < length (row_member_names members)
    → many ≡ length (row_member_names members) → e ≡ d + many
    → os ≡ numbered (λ i. Local i) (row_member_names members) d
    → inside ≡ bind_operands (row_member_names members) os s
    → later ≡ next + made_in members + row_member_count members
    → Puts v w (λ r. LetGroup d (next + made_in members) many
    (meanings_of (captures (row_member_names members) members) (over s outer)) r)
    → ahead w (code body (over inside outer) e later) ≡ ahead v (code (RowGroup members body) (over s outer) d next)
group_body NoRowMembers body s inside outer v w os d e many next later some m f o k l p = absurd (omega arith)
group_body (RowMemberThen name parameters inner type rest) body s inside outer v w os d e many next later some m f o k l
    p =
    let members : RowMembers = RowMemberThen name parameters inner type rest in
    let names : List ℕ = row_member_names members in
    let sc : Scope = over s outer in
    let caught : List Operand = meanings_of (captures names members) sc in
    let bound : Scope = bind_operands names (numbered (λ i. Local i) names d) sc in
    p (code body (over inside outer) e later)
    ∙ ap (λ x. ahead v (LetGroup d (next + made_in members) many caught (code body (over x outer) e later))) k
    ∙ ap (λ x. ahead v (LetGroup d (next + made_in members) many caught (code body x e later)))
    (over_bound names os s outer)
    ∙ ap (λ x. ahead v (LetGroup d (next + made_in members) many caught (code body
    (bind_operands names x sc) e later))) o
    ∙ ap (λ x. ahead v (LetGroup d (next + made_in members) many caught (code body bound x later))) f
    ∙ ap (λ x. ahead v (LetGroup d (next + made_in members) many caught (code body bound (d + many) x))) l
    ∙ ap (λ x. ahead v (LetGroup d (next + made_in members) x caught (code body bound (d + x)
    (next + made_in members + row_member_count members)))) m

-- a group without functions is nothing
pub no_group_body : (members : RowMembers) (body : RowTerm) (s : Scope) (v : List Wait) (d next : ℕ)
    → length (row_member_names members) ≡ 0
    → ahead v (code body s d next) ≡ ahead v (code (RowGroup members body) s d next)
no_group_body NoRowMembers body s v d next none = ap (λ n. ahead v (code body s d n)) same
  where
    same : next ≡ next + 0 + 0
    same = omega arith
no_group_body (RowMemberThen name parameters inner type rest) body s v d next none = absurd (omega arith)

-- a body behind bindings
pub let_body : (bindings : RowBindings) (body : RowTerm) (s inside outer : Scope) (v w : List Wait) (names : List ℕ)
    (os : List Operand) (d e next later : ℕ) → names ≡ row_binding_names bindings → inside ≡ bind_operands names os s
    → later ≡ next + made_by bindings
    → ((finish : List Operand → ℕ → Body)
    → ahead w (finish os e) ≡ ahead v (gather_let bindings (over s outer) d next [] finish))
    → ahead w (code body (over inside outer) e later) ≡ ahead v (code (RowLet bindings body) (over s outer) d next)
let_body bindings body s inside outer v w names os d e next later n k l p =
    let sc : Scope = over s outer in
    ap (λ x. ahead w (code body (over x outer) e later)) k
    ∙ ap (λ x. ahead w (code body x e later)) (over_bound names os s outer)
    ∙ ap (λ x. ahead w (code body (bind_operands x os sc) e later)) n
    ∙ ap (λ x. ahead w (code body (bind_operands (row_binding_names bindings) os sc) e x)) l
    ∙ p (λ xs at. code body (bind_operands (row_binding_names bindings) xs sc) at (next + made_by bindings))
