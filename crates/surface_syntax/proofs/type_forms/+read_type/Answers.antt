use Rattle.std.proofs.Common.{ap, ap₂, sym, ◌∙◌, subst}
use Rattle.sexpr_reader.specs.View.{datum_of}
use Rattle.form_table.specs.Marked.{marked}
use Rattle.surface_trees.specs.Trees.{TypeAt, TypeExpr, TypeExprs, TypeThen}
use Rattle.form_table.specs.Walking.{Walked, Reads}
use Rattle.form_table.specs.Walk.{Signature, walk_type, walk_types, walk_signature}
use Rattle.surface_trees.specs.Views.{type_of, type_node_of, types_of}
use Rattle.surface_syntax.specs.Parts.{type_head, signature_of}
use Rattle.form_table.specs.Claims.{Answers}
use Rattle.form_table.proofs.Public.{bind_reads, only_one, signature_more, types_more, walk_exit, walk_ok}
use Rattle.surface_syntax.proofs.TypeHeads.{HeadIs, headed_here}
use Rattle.surface_syntax.proofs.Shapes.{one_first}
use Rattle.surface_syntax.proofs.type_forms.+read_type.Goals as goal

pub type_list-returns : goal.type_list-returns
type_list-returns t c =
    let p = c.args.pos in
    let head = c.type_head.ensures ∙ ap (λ s. type_head (marked (datum_of s))) c.deref.ensures in
    let here = subst (HeadIs c.type_head.result) (sym c.in-Cons.is) head in
    let row = headed_here p c.args.elements.now c.type_head.result here in
    subst (λ (w : Walked TypeExpr). Answers c.headed_type.result (λ node. TypeAt p (type_node_of node)) w) (sym row)
    c.headed_type.ensures

pub only_type-returns : goal.only_type-returns
only_type-returns t c =
    let row = only_one c.args.pos c.args.elements.now c.in-Cons.is (sym c.deref.ensures ∙ c.in-Nil.is)
    ∙ ap (λ s. walk_type (marked (datum_of s))) (sym c.deref-2.ensures) in
    subst (λ (w : Walked TypeExpr). Answers c.type_expr.result type_of w) (sym row) c.type_expr.ensures

pub types-returns-in_err-type_expr : goal.types-returns-in_err-type_expr
types-returns-in_err-type_expr t c =
    let row = ap (λ ds. walk_types c.args.room ds) (one_first c.args.list.now c.in-Cons.is)
    ∙ types_more c.args.room _ _ c.if-room-eq0.false in
    subst (λ (w : Walked TypeExprs). Answers c.from_residual.result types_of w) (sym row)
    (walk_exit _ _ _ _ _ _ _ c.in_err-type_expr.was c.from_residual.ensures.1
    (rw c.deref-2.ensures at c.type_expr.ensures))

pub types-returns-in_err-types : goal.types-returns-in_err-types
types-returns-in_err-types t c =
    let row = ap (λ ds. walk_types c.args.room ds) (one_first c.args.list.now c.in-Cons.is)
    ∙ types_more c.args.room _ _ c.if-room-eq0.false in
    subst (λ (w : Walked TypeExprs). Answers c.from_residual-in_err-types.result types_of w) (sym row)
    (walk_ok _ _ _ _ _ (rw c.deref-2.ensures at c.in_ok-type_expr.ensures)
    (walk_exit _ _ _ _ _ _ _ c.in_err-types.was c.from_residual-in_err-types.ensures.1
    (rw c.deref-3.ensures at c.types.ensures)))

pub types-returns : goal.types-returns
types-returns t c =
    let row = ap (λ ds. walk_types c.args.room ds) (one_first c.args.list.now c.in-Cons.is)
    ∙ types_more c.args.room _ _ c.if-room-eq0.false in
    row ∙ bind_reads _ (rw c.deref-2.ensures at c.in_ok-type_expr.ensures)
    (bind_reads _ (rw c.deref-3.ensures at c.in_ok-types.ensures)
    (ap₂ (λ t ts. Reads (TypeThen t ts)) (ap type_of (sym c.in_ok-first.ensures))
    (ap types_of (sym c.in_ok-rest.ensures))))

pub arrow_type-returns-in_err-type_expr : goal.arrow_type-returns-in_err-type_expr
arrow_type-returns-in_err-type_expr t c =
    let behind = rw c.deref.ensures at (sym c.is_arrow_at.ensures ∙ c.if-is_arrow_at.false) in
    let row = ap (λ ds. walk_signature c.args.room ds) (one_first c.args.list.now c.in-Cons.is)
    ∙ signature_more c.args.room _ _ behind c.if-room-eq0.false in
    subst (λ (w : Walked Signature). Answers c.from_residual-in_err-type_expr.result signature_of w) (sym row)
    (walk_exit _ _ _ _ _ _ _ c.in_err-type_expr.was c.from_residual-in_err-type_expr.ensures.1
    (rw c.deref-2.ensures at c.type_expr.ensures))

pub arrow_type-returns-in_err-others : goal.arrow_type-returns-in_err-others
arrow_type-returns-in_err-others t c =
    let behind = rw c.deref.ensures at (sym c.is_arrow_at.ensures ∙ c.if-is_arrow_at.false) in
    let row = ap (λ ds. walk_signature c.args.room ds) (one_first c.args.list.now c.in-Cons.is)
    ∙ signature_more c.args.room _ _ behind c.if-room-eq0.false in
    subst (λ (w : Walked Signature). Answers c.from_residual-in_err-others.result signature_of w) (sym row)
    (walk_ok _ _ _ _ _ (rw c.deref-2.ensures at c.in_ok-type_expr.ensures)
    (walk_exit _ _ _ _ _ _ _ c.in_err-others.was c.from_residual-in_err-others.ensures.1
    (rw c.deref-3.ensures at c.arrow_type.ensures)))

pub arrow_type-returns : goal.arrow_type-returns
arrow_type-returns t c =
    let behind = rw c.deref.ensures at (sym c.is_arrow_at.ensures ∙ c.if-is_arrow_at.false) in
    let row = ap (λ ds. walk_signature c.args.room ds) (one_first c.args.list.now c.in-Cons.is)
    ∙ signature_more c.args.room _ _ behind c.if-room-eq0.false in
    row ∙ bind_reads _ (rw c.deref-2.ensures at c.in_ok-type_expr.ensures)
    (bind_reads _ (rw c.deref-3.ensures at c.in_ok-others.ensures)
    (ap₂ (λ t ts. Reads (record { parameters = TypeThen t ts; result = type_of c.in_ok-others.others.result }))
    (ap type_of (sym c.in_ok-first.ensures)) (ap types_of (sym c.in_ok-boxed.ensures))))
